-- What is said of a node by its number, at the node itself.
use Rattle.std.proofs.Common.{◌≡◌, ℕ, zero, suc, ◌<◌, List, [], ◌∷◌, length, get_or, Some, refl, sym, subst, arith}
use Rattle.std.specs.Prelude.{slice_get, IsSomeAnd}
use Rattle.flow_graph.specs.declared.graph.FlowNode.{FlowNode}
use Rattle.flow_graph.specs.FlowGraph.{Has, IsAt}

-- a read within the list
pub slice_get-at : {X : Type 0} (xs : List X) (i : ℕ) (x : X) → i < length xs → x ≡ get_or xs i x → slice_get xs i ≡ Some x
slice_get-at [] i x within read = absurd (omega arith)
slice_get-at (y ∷ ys) zero x within read = cc
slice_get-at (y ∷ ys) (suc i) x within read = slice_get-at ys i x (omega arith) read

pub Has-from : (g : List FlowNode) (n : ℕ) (node : FlowNode) (P : FlowNode → Type 0) → slice_get g n ≡ Some node → P node → Has g n P
Has-from g n node P is holds = subst (λ o. IsSomeAnd o P) (sym is) holds

pub Has-at : (g : List FlowNode) (n : ℕ) (node : FlowNode) (P : FlowNode → Type 0) → slice_get g n ≡ Some node → Has g n P → P node
Has-at g n node P is has = subst (λ o. IsSomeAnd o P) is has

-- a fact of a node is said of a node of the graph
pub Has-within : (g : List FlowNode) (n : ℕ) (P : FlowNode → Type 0) → Has g n P → n < length g
Has-within [] n P has = absurd has
Has-within (x ∷ xs) zero P has = omega arith
Has-within (x ∷ xs) (suc n) P has = let within = Has-within xs n P has in omega (arith, within)

-- a node that is there has an address
pub at-within : (g : List FlowNode) (n : ℕ) → n < length g → (at : ℕ) × IsAt g at n
at-within [] n within = absurd (omega arith)
at-within (x ∷ xs) zero within = (x.at, refl)
at-within (x ∷ xs) (suc n) within = at-within xs n (omega arith)
