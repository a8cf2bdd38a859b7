-- Bits that come to a node, by walks.
use Rattle.std.proofs.Common.{◌≡◌, ◌⊎◌, inl, inr, ⊎_elim, ℕ, List, [], ◌∷◌, refl, sym, subst}
use Rattle.std.specs.Prelude.{◌↔◌}
use Rattle.std.specs.List.{AllByRecursion}
use Rattle.flow_graph.specs.declared.graph.FlowNode.{FlowNode}
use Rattle.flow_graph.specs.FlowGraph.{IsStep, Walk}
use Rattle.flow_graph.specs.Marked.Marked.{seed, step}
use Rattle.flow_graph.specs.Rows.{HasBit, Comes}
use Rattle.flow_graph.proofs.MarkedLaws.{marked_all}

-- bit k begins at n, and m is n or a walk over nodes that keep it goes from m, which keeps it, to n
pub record Led (g : List FlowNode) (kept begun : List ℕ) (k m : ℕ) : Type 0 where
  pub last : ℕ
  pub begins : HasBit begun last k
  pub by : (m ≡ last) ⊎ (HasBit kept m k × (inner : List ℕ) × Walk g m inner last × AllByRecursion (λ i. HasBit kept i k) inner)

led-step : (g : List FlowNode) (kept begun : List ℕ) (k next m : ℕ) → IsStep g m next → HasBit kept m k → Led g kept begun k next → Led g kept begun k m
led-step g kept begun k next m to keeps led = record {
  last = led.last;
  begins = led.begins;
  by = ⊎_elim (λ same. inr (keeps, [], subst (λ n. IsStep g m n) same to, tt))
      (λ walk. inr (keeps, next ∷ walk.1, (to, walk.2), (walk.0, walk.3)))
      led.by;
}

walk-comes : (g : List FlowNode) (kept begun : List ℕ) (k m : ℕ) (inner : List ℕ) (n : ℕ) → HasBit begun n k → HasBit kept m k → Walk g m inner n → AllByRecursion (λ i. HasBit kept i k) inner → Comes g kept begun k m
walk-comes g kept begun k m [] n begins keeps walk all = step (walk, keeps) (seed begins)
walk-comes g kept begun k m (i ∷ inner) n begins keeps walk all = step (walk.0, keeps) (walk-comes g kept begun k i inner n begins all.0 walk.1 all.1)

pub comes-by : (g : List FlowNode) (kept begun : List ℕ) (k m : ℕ) → Comes g kept begun k m ↔ Led g kept begun k m
comes-by g kept begun k m = (
  λ comes. marked_all (λ n. HasBit begun n k) (λ next n. IsStep g n next × HasBit kept n k) (Led g kept begun k)
      (λ n begins. record { last = n; begins = begins; by = inl refl })
      (λ next n goes led. led-step g kept begun k next n goes.0 goes.1 led) comes,
  λ led. ⊎_elim (λ same. seed (subst (λ n. HasBit begun n k) (sym same) led.begins))
      (λ walk. walk-comes g kept begun k m walk.1 led.last led.begins walk.0 walk.2 walk.3)
      led.by,
)
