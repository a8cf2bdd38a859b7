-- Lists of cuts are lists that cells are made from.
use Rattle.std.proofs.Common.{◌≡◌, true, false, ⊎_elim, ◌⊎◌, List, [], ◌∷◌, sym, subst, ◌∙◌}
use Rattle.std.specs.List.{All}
use Rattle.std.proofs.lemmas.Bool.{true≢false, cases_Bool}
use Rattle.std.proofs.lemmas.List.Elements.{All-cons, All-nil, All-weaker}
use Rattle.image_map.specs.declared.region.RegionId.{RegionId}
use Rattle.image_map.specs.Regions.{same_region, region_before}
use Rattle.image_map.proofs.OrderLaws.{same_region-equal, region_before-itself, region_before-trans}
use Rattle.alocs.specs.declared.cells.CutList.{CutList}
use Rattle.alocs.specs.Cells.{AreCutLists, AreOfOthers}
use Rattle.asi_cuts.specs.Closed.{ListsRise, ListsRiseBehind}

other : (low r : RegionId) → region_before low r ≡ true → same_region r low ≡ false
other low r h =
    ⊎_elim (λ (e : same_region r low ≡ true). absurd (true≢false (sym h ∙ subst (λ (q : RegionId). region_before low q ≡ false) (sym (same_region-equal r low e)) (region_before-itself low)))) (λ e. e) (cases_Bool (same_region r low))

all_later : (low : RegionId) (ls : List CutList) → ListsRiseBehind low ls → All (λ (l : CutList). region_before low l.region ≡ true) ls
all_later low [] h = All-nil (λ (l : CutList). region_before low l.region ≡ true)
all_later low (l ∷ ls) h =
    All-cons (λ (k : CutList). region_before low k.region ≡ true) l ls h.0
    (All-weaker (λ (k : CutList). region_before l.region k.region ≡ true) (λ (k : CutList). region_before low k.region ≡ true) (λ k q. region_before-trans low l.region k.region h.0 q) ls (all_later l.region ls h.2))

of_others : (low : RegionId) (ls : List CutList) → ListsRiseBehind low ls → AreOfOthers low ls
of_others low ls h = All-weaker (λ (l : CutList). region_before low l.region ≡ true) (λ (l : CutList). same_region l.region low ≡ false) (λ l q. other low l.region q) ls (all_later low ls h)

fit_behind : (low : RegionId) (ls : List CutList) → ListsRiseBehind low ls → AreCutLists ls
fit_behind low [] h = tt
fit_behind low (l ∷ ls) h = (h.1, of_others l.region ls h.2, fit_behind l.region ls h.2)

pub lists_fit : (ls : List CutList) → ListsRise ls → AreCutLists ls
lists_fit [] h = tt
lists_fit (l ∷ ls) h = (h.0, of_others l.region ls h.1, fit_behind l.region ls h.1)
