-- Lists of what searches have met, and what they tell.
use Rattle.std.proofs.Common.{◌≡◌, ◌≢◌, ⊎_elim, ℕ, zero, ◌+◌, ◌<◌, Bool, List, [], ◌∷◌, length, get_or, refl, sym, ◌∙◌, ap, subst, arith, IsTrue}
use Rattle.std.specs.Prelude.{◌↔◌, All, Contains}
use Rattle.std.specs.List.Sorted.{IsStrictlyIncreasing}
use Rattle.std.proofs.lemmas.Bool.{cases_eq}
use Rattle.std.proofs.lemmas.List.{get_or_default}
use Rattle.std.proofs.lemmas.List.Elements.{Contains-get_or}
use Rattle.flow_graph.specs.declared.graph.FlowNode.{FlowNode}
use Rattle.flow_graph.specs.FlowGraph.{IsAt}
use Rattle.flow_graph.specs.Marked.{Marked}
use Rattle.flow_graph.specs.Marked.Marked.{seed}
use Rattle.flow_graph.proofs.GraphLaws.{Has-within}
use Rattle.flow_graph.proofs.MarkedLaws.{marked_all}
use Rattle.slicer.specs.Slicer.{AreNodes, Arrow, HasNodes, InSlice, ListedEdge}
use Rattle.slicer.specs.Search.{Adds}
use Rattle.slicer.proofs.QueueLemmas.{IsNode}
use Rattle.slicer.proofs.GrowLemmas.{contains-more}
use Rattle.chops.proofs.ForwardLemmas.{controlled_within}
use Rattle.chops.specs.Answers.{IsPresent}
use Rattle.chops.specs.Chops.{AreAddresses, InChop, InForward}

pub are_listed : (g : List FlowNode) (met addresses : List ℕ) → IsStrictlyIncreasing addresses → ((a : ℕ) → Contains addresses a ↔ ((n : ℕ) × Contains met n × IsAt g a n)) → AreAddresses g (Contains met) addresses
are_listed g met addresses rising listed = record {
  rising = rising;
  listed = λ a. (λ has. let h = (listed a).0 has in (h.0, h.2, h.1), λ h. (listed a).1 (h.0, h.2, h.1));
}

pub addresses_of : (nodes g : List FlowNode) (held met : List ℕ) (P : ℕ → Type 0) (addresses : List ℕ) → nodes ≡ g → held ≡ met → ((n : ℕ) → Contains met n ↔ P n) → AreAddresses nodes (Contains held) addresses → AreAddresses g P addresses
addresses_of nodes g held met P addresses same is like a =
    let there : AreAddresses g (Contains met) addresses = subst (λ (xs : List ℕ). AreAddresses g (Contains xs) addresses) is (subst (λ (ns : List FlowNode). AreAddresses ns (Contains held) addresses) same a) in
    record {
      rising = there.rising;
      listed = λ a. (λ has. let h = (there.listed a).0 has in (h.0, h.1, (like h.0).0 h.2), λ h. (there.listed a).1 (h.0, h.1, (like h.0).1 h.2));
    }

-- what is met is a node
pub met_inside : (g : List FlowNode) (Step : ℕ → ℕ → Type 0) (at : ℕ) (met : List ℕ) → ((m n : ℕ) → Step m n → n < length g) → ((n : ℕ) → Contains met n ↔ Marked (IsAt g at) Step n) → All (λ n. n < length g) met
met_inside g Step at met steps like k d within =
    marked_all (IsAt g at) Step (λ n. n < length g) (λ n stands. Has-within g n (λ node. node.at ≡ at) stands) (λ m n goes before. steps m n goes) ((like (get_or met k d)).0 (Contains-get_or met k d within))

-- nothing is met just where no node stands at the address
pub none_met : (g : List FlowNode) (Step : ℕ → ℕ → Type 0) (at : ℕ) (met : List ℕ) → ((n : ℕ) → Contains met n ↔ Marked (IsAt g at) Step n) → ((n : ℕ) → ¬ Contains met n) ↔ ((n : ℕ) → ¬ IsAt g at n)
none_met g Step at met like = (
  λ none n stands. none n ((like n).1 (seed stands)),
  λ absent n has. marked_all (IsAt g at) Step (λ _. ⊥) (λ m stands. absent m stands) (λ m o goes never. never) ((like n).0 has),
)

pub empty_list : (xs : List ℕ) → length xs ≡ 0 → (n : ℕ) → ¬ Contains xs n
empty_list xs none n has = let lt : has.0 < length xs = has.1 in omega (arith, none, lt)

pub full_list : (xs : List ℕ) → ¬ (length xs ≡ 0) → (n : ℕ) × Contains xs n
full_list [] some = absurd (some refl)
full_list (x ∷ xs) some = (x, (zero, omega arith, refl))

-- ---- what two have

-- of the first i of these numbers those that the second has
abbrev pub IsBoth : List ℕ → List ℕ → ℕ → ℕ → Type 0
IsBoth first second i n = (k : ℕ) × (k < i) × (get_or first k 0 ≡ n) × Contains second n

pub both_none : (first second both : List ℕ) → both ≡ [] → (n : ℕ) → Contains both n ↔ IsBoth first second 0 n
both_none first second both none n = (λ has. absurd (empty_list both (ap (λ (xs : List ℕ). length xs) none) n has), λ h. let lt = h.1 in absurd (omega (arith, lt)))

pub both_more : (first second old new : List ℕ) (i size : ℕ) (has_it : Bool) → i < length first → All (λ n. n < size) first → IsTrue has_it ↔ Contains second (get_or first i 0) → Adds (IsNode has_it (get_or first i 0) size) old new
    → ((n : ℕ) → Contains old n ↔ IsBoth first second i n) → (n : ℕ) → Contains new n ↔ IsBoth first second (i + 1) n
both_more first second old new i size has_it within room has adds before n = (
  λ now. ⊎_elim (λ was. let h = (before n).0 was in (h.0, (let lt = h.1 in omega (arith, lt)), h.2, h.3))
      (λ here. (i, omega arith, sym here.1, subst (λ m. Contains second m) (sym here.1) (has.0 here.0)))
      (adds.why n now),
  λ h. ⊎_elim
      (λ (same : h.0 ≡ i).
      let at : get_or first i 0 ≡ n = subst (λ j. get_or first j 0 ≡ n) same h.2 in
      adds.has n (has.1 (subst (λ m. Contains second m) (sym at) h.3), sym at, subst (λ m. m < size) at (room i 0 within)))
      (λ other. contains-more old adds.rest new n adds.goes_on ((before n).1 (h.0, (let lt = h.1 in let off : h.0 ≢ i = other in omega (arith, lt, off)), h.2, h.3)))
      (cases_eq h.0 i),
)

-- the same of a list that the code holds
pub both_step : (held first second old new : List ℕ) (i size : ℕ) (has_it : Bool) → held ≡ first → i < length held → All (λ n. n < size) first → IsTrue has_it ↔ Contains second (get_or held i 0) → Adds (IsNode has_it (get_or held i 0) size) old new
    → ((n : ℕ) → Contains old n ↔ IsBoth first second i n) → (n : ℕ) → Contains new n ↔ IsBoth first second (i + 1) n
both_step held first second old new i size has_it same within room has adds before =
    both_more first second old new i size has_it (subst (λ (xs : List ℕ). i < length xs) same within) room (subst (λ (xs : List ℕ). IsTrue has_it ↔ Contains second (get_or xs i 0)) same has)
    (subst (λ (xs : List ℕ). Adds (IsNode has_it (get_or xs i 0) size) old new) same adds) before

pub both_all : (held first second both : List ℕ) (i : ℕ) → held ≡ first → length held ≡ i → ((n : ℕ) → Contains both n ↔ IsBoth held second i n) → (n : ℕ) → Contains both n ↔ (Contains first n × Contains second n)
both_all held first second both i same all before n =
    subst (λ (xs : List ℕ). Contains both n ↔ (Contains xs n × Contains second n)) same (
      λ has. let h = (before n).0 has in
          let lt : h.0 < length held = (let low = h.1 in omega (arith, all, low)) in
          (subst (λ m. Contains held m) h.2 (Contains-get_or held h.0 0 lt), h.3),
      λ h. let at = h.0 in let lt : at.0 < length held = at.1 in (before n).1 (at.0, omega (arith, all, lt), get_or_default held at.0 0 n lt ∙ at.2, h.1),
    )

-- ---- what the calls know

pub arrow_within : (ordinary sp : List (ℕ × ℕ)) (skip_sp : Bool) (g : List FlowNode) → HasNodes g ordinary sp → (m n : ℕ) → Arrow (ListedEdge ordinary sp skip_sp) g m n → n < length g
arrow_within ordinary sp skip_sp g has m n arrow =
    ⊎_elim (λ edge. ⊎_elim (λ o. second ordinary has.ordinary_edges o) (λ s. second sp has.sp_edges s.1) edge) (λ controls. controlled_within g m n controls) arrow
  where
    second : (pairs : List (ℕ × ℕ)) → AreNodes g pairs → Contains pairs (m, n) → n < length g
    second pairs nodes among =
        let within : among.0 < length pairs = among.1 in
        let both = nodes among.0 (m, n) within in
        subst (λ (p : ℕ × ℕ). p.1 < length g) among.2 both.1

pub held_inside : (nodes g : List FlowNode) (held met : List ℕ) → nodes ≡ g → held ≡ met → All (λ n. n < length g) met → All (λ n. n < length nodes) held
held_inside nodes g held met same is inside =
    subst (λ (ns : List FlowNode). All (λ n. n < length ns) held) (sym same) (subst (λ (xs : List ℕ). All (λ n. n < length g) xs) (sym is) inside)

pub both_inside : (g : List FlowNode) (first second both : List ℕ) → ((n : ℕ) → Contains both n ↔ (Contains first n × Contains second n)) → All (λ n. n < length g) first → All (λ n. n < length g) both
both_inside g first second both like inside k d within =
    let h = ((like (get_or both k d)).0 (Contains-get_or both k d within)).0 in
    subst (λ n. n < length g) h.2 (inside h.0 (get_or both k d) h.1)

pub chop_like : (Edge : ℕ → ℕ → Type 0) (g : List FlowNode) (from to : ℕ) (first second both : List ℕ) → ((n : ℕ) → Contains first n ↔ InForward Edge g from n) → ((n : ℕ) → Contains second n ↔ InSlice Edge g to n)
    → ((n : ℕ) → Contains both n ↔ (Contains first n × Contains second n)) → (n : ℕ) → Contains both n ↔ InChop Edge g from to n
chop_like Edge g from to first second both forth back meets n = (
  λ has. let h = (meets n).0 has in ((forth n).0 h.0, (back n).0 h.1),
  λ h. (meets n).1 ((forth n).1 h.0, (back n).1 h.1),
)

pub some_met : (g : List FlowNode) (Step : ℕ → ℕ → Type 0) (at : ℕ) (met : List ℕ) → ((n : ℕ) → Contains met n ↔ Marked (IsAt g at) Step n) → (n : ℕ) × Contains met n → IsPresent g at
some_met g Step at met like h = marked_all (IsAt g at) Step (λ _. IsPresent g at) (λ m stands. (m, stands)) (λ m o goes before. before) ((like h.0).0 h.1)
