-- Where nothing comes in, all arrows have been gone along.
use Rattle.std.proofs.Common.{◌≡◌, inl, inr, ⊎_elim, ℕ, ◌<◌, ◌≤◌, List, length, subst}
use Rattle.std.specs.Prelude.{Contains}
use Rattle.flow_graph.specs.declared.graph.FlowNode.{FlowNode}
use Rattle.flow_graph.proofs.GraphLaws.{Has-within}
use Rattle.control_walks.specs.ControlWalks.{Controls}
use Rattle.slicer.specs.Slicer.{Arrow}
use Rattle.slicer.specs.Search.{Grows, Follows}
use Rattle.slicer.proofs.GrowLemmas.{grows-has, grows-like, grows-longer, grows-same, grows-then}

pub one_pass : (Edge : ℕ → ℕ → Type 0) (g : List FlowNode) (old mid new : List ℕ) → Grows Edge old mid → Grows (Controls g) mid new → Grows (Arrow Edge g) old new
one_pass Edge g old mid new edges control =
    grows-then (Arrow Edge g) old mid new (grows-like Edge (Arrow Edge g) old mid (λ m n edge. inl edge) edges) (grows-like (Controls g) (Arrow Edge g) mid new (λ m n controls. inr controls) control)

pub more_passes : (Edge : ℕ → ℕ → Type 0) (g : List FlowNode) (first old mid new : List ℕ) → Grows (Arrow Edge g) first old → Grows Edge old mid → Grows (Controls g) mid new → Grows (Arrow Edge g) first new
more_passes Edge g first old mid new before edges control = grows-then (Arrow Edge g) first old new before (one_pass Edge g old mid new edges control)

pub controlled_within : (g : List FlowNode) (b n : ℕ) → Controls g b n → n < length g
controlled_within g b n c = Has-within g n (λ node. node.at ≡ c.at) c.stands

pub passes_end : (Edge : ℕ → ℕ → Type 0) (g : List FlowNode) (nodes old mid new : List ℕ) → ((n : ℕ) → n < length g → Contains nodes n) → Grows Edge old mid → Grows (Controls g) mid new → Follows Edge old mid
    → ((b n : ℕ) → Contains nodes n → Controls g b n → Contains mid b → Contains new n) → length new ≡ length old → Follows (Arrow Edge g) new new
passes_end Edge g nodes old mid new all edges control follows comes same m n arrow has =
    ⊎_elim
    (λ edge. grows-has (Controls g) mid new n control (follows m n edge (subst (λ (xs : List ℕ). Contains xs m) is has)))
    (λ controls. comes m n (all n (controlled_within g m n controls)) controls (grows-has Edge old mid m edges (subst (λ (xs : List ℕ). Contains xs m) is has)))
    arrow
  where
    is : new ≡ old
    is = grows-same (Arrow Edge g) old new (one_pass Edge g old mid new edges control) same

pub longer : (Edge : ℕ → ℕ → Type 0) (g : List FlowNode) (old mid new : List ℕ) → Grows Edge old mid → Grows (Controls g) mid new → length old ≤ length new
longer Edge g old mid new edges control = grows-longer (Arrow Edge g) old new (one_pass Edge g old mid new edges control)
