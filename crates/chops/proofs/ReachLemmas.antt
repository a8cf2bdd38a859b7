-- What a forward slice holds is what a path comes to, and a chop holds what lies on a path.
use Rattle.std.proofs.Common.{◌≡◌, ℕ, List, [], ◌∷◌, refl, sym, subst}
use Rattle.std.specs.Prelude.{◌↔◌}
use Rattle.flow_graph.specs.declared.graph.FlowNode.{FlowNode}
use Rattle.flow_graph.specs.FlowGraph.{IsAt}
use Rattle.flow_graph.specs.Marked.{Marked}
use Rattle.flow_graph.specs.Marked.Marked.{seed, step}
use Rattle.flow_graph.proofs.MarkedLaws.{marked_all}
use Rattle.slicer.specs.Slicer.{Arrow, InSlice}
use Rattle.chops.specs.Chops.{InForward, InChop}
use Rattle.chops.specs.Paths.{ComesTo, start_of, IsTrace}

-- some path of arrows, read from its end, comes from a start to n
abbrev pub IsReached : (ℕ → ℕ → Type 0) → (ℕ → Type 0) → ℕ → Type 0
IsReached Goes Start n = (ms : List ℕ) × ComesTo Goes n ms × Start (start_of n ms)

reached_marked : (Goes : ℕ → ℕ → Type 0) (Start : ℕ → Type 0) (n : ℕ) (ms : List ℕ) → ComesTo Goes n ms → Start (start_of n ms) → Marked Start Goes n
reached_marked Goes Start n [] comes starts = seed starts
reached_marked Goes Start n (m ∷ ms) comes starts = step comes.0 (reached_marked Goes Start m ms comes.1 starts)

pub marked_reached : (Goes : ℕ → ℕ → Type 0) (Start : ℕ → Type 0) (n : ℕ) → Marked Start Goes n ↔ IsReached Goes Start n
marked_reached Goes Start n = (
  λ h. marked_all Start Goes (IsReached Goes Start) (λ m s. ([], tt, s)) (λ m o goes before. (m ∷ before.0, (goes, before.1), before.2)) h,
  λ r. reached_marked Goes Start n r.0 r.1 r.2,
)

-- a node from which arrows go back to one as End says
turned : (Goes : ℕ → ℕ → Type 0) (End : ℕ → Type 0) (n : ℕ) (ms : List ℕ) → ComesTo Goes n ms → End n → Marked End (λ later earlier. Goes earlier later) (start_of n ms)
turned Goes End n [] comes ends = seed ends
turned Goes End n (m ∷ ms) comes ends = further Goes End m ms comes.1 (step comes.0 (seed ends))
  where
    further : (Goes : ℕ → ℕ → Type 0) (End : ℕ → Type 0) (m : ℕ) (ms : List ℕ) → ComesTo Goes m ms → Marked End (λ later earlier. Goes earlier later) m → Marked End (λ later earlier. Goes earlier later) (start_of m ms)
    further Goes End m [] comes h = h
    further Goes End m (o ∷ os) comes h = further Goes End o os comes.1 (step comes.0 h)

-- from a node that is met going back a path comes to an end
pub leads_on : (Goes : ℕ → ℕ → Type 0) (End : ℕ → Type 0) (n : ℕ) → Marked End (λ later earlier. Goes earlier later) n → (end : ℕ) × End end × Marked (λ m. m ≡ n) Goes end
leads_on Goes End n h =
    marked_all End (λ later earlier. Goes earlier later) (λ m. (end : ℕ) × End end × Marked (λ o. o ≡ m) Goes end) (λ m e. (m, e, seed refl))
    (λ later earlier goes r. (r.0, r.1, marked_all (λ o. o ≡ later) Goes (λ end. Marked (λ o. o ≡ earlier) Goes end) (λ o is. subst (λ q. Marked (λ p. p ≡ earlier) Goes q) (sym is) (step goes (seed refl))) (λ p q g before. step g before) r.2)) h

pub path_forward : (Edge : ℕ → ℕ → Type 0) (g : List FlowNode) (from to : ℕ) → ((n : ℕ) × IsAt g to n × InForward Edge g from n) ↔ ((trace : List ℕ) × IsTrace (Arrow Edge g) (IsAt g from) (IsAt g to) trace)
path_forward Edge g from to = (
  λ h. let r = (marked_reached (Arrow Edge g) (IsAt g from) h.0).0 h.2 in (h.0 ∷ r.0, (h.1, r.1, r.2)),
  λ t. there t.0 t.1,
) where
  there : (trace : List ℕ) → IsTrace (Arrow Edge g) (IsAt g from) (IsAt g to) trace → (n : ℕ) × IsAt g to n × InForward Edge g from n
  there [] t = absurd t
  there (n ∷ ms) t = (n, t.0, reached_marked (Arrow Edge g) (IsAt g from) n ms t.1 t.2)

pub path_back : (Edge : ℕ → ℕ → Type 0) (g : List FlowNode) (from to : ℕ) → ((n : ℕ) × IsAt g from n × InSlice Edge g to n) ↔ ((trace : List ℕ) × IsTrace (Arrow Edge g) (IsAt g from) (IsAt g to) trace)
path_back Edge g from to = (
  λ h.
      let r = leads_on (Arrow Edge g) (IsAt g to) h.0 h.2 in
      let p = (marked_reached (Arrow Edge g) (λ m. m ≡ h.0) r.0).0 r.2 in
      (r.0 ∷ p.0, (r.1, p.1, subst (IsAt g from) (sym p.2) h.1)),
  λ t. there t.0 t.1,
) where
  there : (trace : List ℕ) → IsTrace (Arrow Edge g) (IsAt g from) (IsAt g to) trace → (n : ℕ) × IsAt g from n × InSlice Edge g to n
  there [] t = absurd t
  there (n ∷ ms) t = (start_of n ms, t.2, turned (Arrow Edge g) (IsAt g to) n ms t.1 t.0)

pub lies_between : (Edge : ℕ → ℕ → Type 0) (g : List FlowNode) (from to n : ℕ) → InChop Edge g from to n
    → ((trace : List ℕ) × IsTrace (Arrow Edge g) (IsAt g from) (λ m. m ≡ n) trace) × ((trace : List ℕ) × IsTrace (Arrow Edge g) (λ m. m ≡ n) (IsAt g to) trace)
lies_between Edge g from to n h =
    let a = (marked_reached (Arrow Edge g) (IsAt g from) n).0 h.0 in
    let r = leads_on (Arrow Edge g) (IsAt g to) n h.1 in
    let b = (marked_reached (Arrow Edge g) (λ m. m ≡ n) r.0).0 r.2 in
    ((n ∷ a.0, (refl, a.1, a.2)), (r.0 ∷ b.0, (r.1, b.1, b.2)))
