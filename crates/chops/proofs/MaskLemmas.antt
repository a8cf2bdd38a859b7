-- Words of bits over branches and flooded nodes.
use Rattle.std.proofs.Common.{◌≡◌, ◌≢◌, ⊎_elim, ℕ, ◌+◌, ◌<◌, Bool, Option, Some, None, List, length, get_or, sym, ◌∙◌, subst, arith, IsTrue}
use Rattle.std.specs.Prelude.{◌↔◌, Contains, slice_get, slice_index, IsSomeAnd, bit_or, bit_and}
use Rattle.std.proofs.lemmas.List.{get_or_default}
use Rattle.std.proofs.lemmas.Bool.{cases_eq}
use Rattle.std.proofs.lemmas.List.Elements.{Contains-get_or}
use Rattle.flow_graph.specs.declared.graph.FlowNode.{FlowNode}
use Rattle.flow_graph.specs.FlowGraph.{IsAt}
use Rattle.flow_graph.specs.Rows.{IsBit}
use Rattle.flow_graph.proofs.BitLemmas.{IsBit-zero, bit_or-cases, bit_or-left, bit_or-right, bit_and-both, bit_and-from}
use Rattle.flow_graph.proofs.GraphLaws.{Has-from, Has-at, at-within}
use Rattle.control_walks.specs.ControlWalks.{Controls}
use Rattle.control_walks.specs.Floods.{Floods, Flooded}
use Rattle.control_walks.proofs.FloodLemmas.{same_at}
use Rattle.chops.specs.Masks.{IsShared, IsSplit, ShowsSome}

-- some of the first i
abbrev pub ShowsFirst : (ℕ → ℕ → Type 0) → List ℕ → ℕ → ℕ → Type 0
ShowsFirst P xs i word = (k : ℕ) → IsBit word k ↔ ((j : ℕ) × (j < i) × P (get_or xs j 0) k)

pub first-none : (P : ℕ → ℕ → Type 0) (xs : List ℕ) → ShowsFirst P xs 0 0
first-none P xs k = (λ is. absurd (IsBit-zero k is), λ h. let lt = h.1 in absurd (omega arith))

pub first-more : (P : ℕ → ℕ → Type 0) (xs : List ℕ) (i word more : ℕ) → ((k : ℕ) → IsBit more k ↔ P (get_or xs i 0) k) → ShowsFirst P xs i word → ShowsFirst P xs (i + 1) (bit_or word more)
first-more P xs i word more here before k = (
  λ is. ⊎_elim (λ old. let h = (before k).0 old in (h.0, (let lt = h.1 in omega arith), h.2)) (λ new. (i, omega arith, (here k).0 new)) (bit_or-cases word more k is),
  λ h. ⊎_elim (λ (same : h.0 ≡ i). bit_or-right word more k ((here k).1 (subst (λ j. P (get_or xs j 0) k) same h.2)))
      (λ other. bit_or-left word more k ((before k).1 (h.0, (let lt = h.1 in let off : h.0 ≢ i = other in omega (arith, lt, off)), h.2)))
      (cases_eq h.0 i),
)

pub first-all : (P : ℕ → ℕ → Type 0) (xs : List ℕ) (i word : ℕ) → length xs ≡ i → ShowsFirst P xs i word → ShowsSome P xs word
first-all P xs i word all shows k = (
  λ is. let h = (shows k).0 is in let lt : h.0 < length xs = (let low = h.1 in omega (arith, all, low)) in (get_or xs h.0 0, Contains-get_or xs h.0 0 lt, h.2),
  λ h. let at = h.1 in let lt : at.0 < length xs = at.1 in
      (shows k).1 (at.0, omega (arith, all, lt), subst (λ x. P x k) (sym (get_or_default xs at.0 0 h.0 lt ∙ at.2)) h.2),
)

-- two nodes
pub both_none : (a b k : ℕ) (wished : Bool) → ¬ IsTrue wished → IsBit 0 k ↔ (IsTrue wished × IsBit a k × IsBit b k)
both_none a b k wished off = (λ is. absurd (IsBit-zero k is), λ h. absurd (off h.0))

pub both_some : (a b k : ℕ) (wished : Bool) → IsTrue wished → IsBit (bit_and a b) k ↔ (IsTrue wished × IsBit a k × IsBit b k)
both_some a b k wished on = (λ is. let h = bit_and-both a b k is in (on, h.0, h.1), λ h. bit_and-from a b k h.1 h.2)

pub shared_some : (g : List FlowNode) (reaching escaping : List ℕ) (x y x_at y_at reached escapes word k : ℕ) (wished : Bool) → IsAt g x_at x → IsAt g y_at y → IsTrue wished ↔ (x_at ≢ y_at) → reached ≡ get_or reaching x 0 → escapes ≡ get_or escaping y 0
    → IsBit word k ↔ (IsTrue wished × IsBit reached k × IsBit escapes k) → IsBit word k ↔ IsShared g reaching escaping x y k
shared_some g reaching escaping x y x_at y_at reached escapes word k wished x_stands y_stands apart reached_is escapes_is shows = (
  λ is.
      let h = shows.0 is in
      record {
        x_at = x_at;
        y_at = y_at;
        x_stands = x_stands;
        y_stands = y_stands;
        apart = apart.0 h.0;
        reached = subst (λ w. IsBit w k) reached_is h.1;
        escapes = subst (λ w. IsBit w k) escapes_is h.2;
      },
  λ s. shows.1 (
    apart.1 (λ same. s.apart (same_at g s.x_at x_at x s.x_stands x_stands ∙ same ∙ same_at g y_at s.y_at y y_stands s.y_stands)),
    subst (λ w. IsBit w k) (sym reached_is) s.reached,
    subst (λ w. IsBit w k) (sym escapes_is) s.escapes,
  ),
)

-- a branch
pub split_some : (g : List FlowNode) (reaching escaping : List ℕ) (b : ℕ) (node : FlowNode) (nexts : List ℕ) (word : ℕ) → slice_get g b ≡ Some node → nexts ≡ node.next → IsTrue node.branch
    → ShowsSome (λ x k. (y : ℕ) × Contains nexts y × IsShared g reaching escaping x y k) nexts word → (k : ℕ) → IsBit word k ↔ IsSplit g reaching escaping b k
split_some g reaching escaping b node nexts word here same branch shows k = (
  λ is.
      let h = (shows k).0 is in
      record {
        branches = Has-from g b node (λ n. IsTrue n.branch) here branch;
        x = h.0;
        y = h.2.0;
        to_x = Has-from g b node (λ n. Contains n.next h.0) here (subst (λ ns. Contains ns h.0) same h.1);
        to_y = Has-from g b node (λ n. Contains n.next h.2.0) here (subst (λ ns. Contains ns h.2.0) same h.2.1);
        by = h.2.2;
      },
  λ s. (shows k).1 (
    s.x,
    subst (λ ns. Contains ns s.x) (sym same) (Has-at g b node (λ n. Contains n.next s.x) here s.to_x),
    (s.y, subst (λ ns. Contains ns s.y) (sym same) (Has-at g b node (λ n. Contains n.next s.y) here s.to_y), s.by),
  ),
)

pub split_none : (g : List FlowNode) (reaching escaping : List ℕ) (b : ℕ) (node : FlowNode) → slice_get g b ≡ Some node → ¬ IsTrue node.branch → (k : ℕ) → IsBit 0 k ↔ IsSplit g reaching escaping b k
split_none g reaching escaping b node here off k = (λ is. absurd (IsBit-zero k is), λ s. absurd (off (Has-at g b node (λ n. IsTrue n.branch) here s.branches)))

pub split_gone : (g : List FlowNode) (reaching escaping : List ℕ) (b : ℕ) → slice_get g b ≡ None → (k : ℕ) → IsBit 0 k ↔ IsSplit g reaching escaping b k
split_gone g reaching escaping b none k = (λ is. absurd (IsBit-zero k is), λ s. absurd (subst (λ (o : Option FlowNode). IsSomeAnd o (λ n. IsTrue n.branch)) none s.branches))

pub shared_gone_x : (g : List FlowNode) (reaching escaping : List ℕ) (x y : ℕ) → ((at : ℕ) → ¬ IsAt g at x) → (k : ℕ) → IsBit 0 k ↔ IsShared g reaching escaping x y k
shared_gone_x g reaching escaping x y gone k = (λ is. absurd (IsBit-zero k is), λ s. absurd (gone s.x_at s.x_stands))

pub shared_gone_y : (g : List FlowNode) (reaching escaping : List ℕ) (x y : ℕ) → ((at : ℕ) → ¬ IsAt g at y) → (k : ℕ) → IsBit 0 k ↔ IsShared g reaching escaping x y k
shared_gone_y g reaching escaping x y gone k = (λ is. absurd (IsBit-zero k is), λ s. absurd (gone s.y_at s.y_stands))

-- the rows that the code holds
pub held_rows : (nodes g : List FlowNode) (reaching rows escaping others : List ℕ) (held branches : List ℕ) (word : ℕ) → nodes ≡ g → reaching ≡ rows → escaping ≡ others → held ≡ branches → ShowsSome (IsSplit nodes reaching escaping) held word → ShowsSome (IsSplit g rows others) branches word
held_rows nodes g reaching rows escaping others held branches word n r e b shows =
    subst (λ (xs : List ℕ). ShowsSome (IsSplit g rows others) xs word) b
    (subst (λ (o : List ℕ). ShowsSome (IsSplit g rows o) held word) e (subst (λ (w : List ℕ). ShowsSome (IsSplit g w escaping) held word) r (subst (λ (ns : List FlowNode). ShowsSome (IsSplit ns reaching escaping) held word) n shows)))

-- after a flood the bits are those of the nodes that the branch controls
pub split_controls : (g : List FlowNode) (targets : List ℕ) (flooded : Flooded) (b k : ℕ) → ((j : ℕ) → j < length targets → slice_index targets j < length g) → Floods g targets flooded
    → IsSplit g flooded.reaching flooded.escaping b k ↔ ((k < length targets) × Controls g b (slice_index targets k))
split_controls g targets flooded b k inside floods = (
  λ s.
      let reached = (floods.reaches s.x k).0 s.by.reached in
      let at = at-within g (slice_index targets k) (inside k reached.0) in (
        reached.0,
        record {
          branches = s.branches;
          x = s.x;
          y = s.y;
          to_x = s.to_x;
          to_y = s.to_y;
          x_at = s.by.x_at;
          y_at = s.by.y_at;
          x_stands = s.by.x_stands;
          y_stands = s.by.y_stands;
          apart = s.by.apart;
          reached = reached.1;
          at = at.0;
          stands = at.1;
          escapes = (floods.escapes s.y k at.0 (record { among = reached.0; stands = at.1 })).0 s.by.escapes;
        },
      ),
  λ c.
      let controls = c.1 in
      record {
        branches = controls.branches;
        x = controls.x;
        y = controls.y;
        to_x = controls.to_x;
        to_y = controls.to_y;
        by = record {
          x_at = controls.x_at;
          y_at = controls.y_at;
          x_stands = controls.x_stands;
          y_stands = controls.y_stands;
          apart = controls.apart;
          reached = (floods.reaches controls.x k).1 (c.0, controls.reached);
          escapes = (floods.escapes controls.y k controls.at (record { among = c.0; stands = controls.stands })).1 controls.escapes;
        };
      },
)
