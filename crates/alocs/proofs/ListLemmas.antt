-- The cut lists of regions, and the cuts of regions that have none.
use Rattle.std.proofs.Common.{◌≡◌, ℕ, zero, suc, ◌+◌, ◌-◌, ◌<◌, ◌≤◌, Bool, true, false, cond, ℤ, pos, negsuc, ◌+ℤ◌, Some, None, List, [], ◌∷◌, ◌++◌, refl, sym, subst, ap, ◌∙◌, append_assoc, append-nil, arith}
use Rattle.std.specs.Prelude.{◌<ℤ◌, find, slice_index_or}
use Rattle.std.proofs.lemmas.Int.{ints}
use Rattle.std.proofs.lemmas.Option.{none-some, same_Some}
use Rattle.image_map.specs.declared.region.RegionId.{RegionId}
use Rattle.image_map.specs.declared.region.RegionId.TheVariants.{Global, Frame, OldFrame, Heap, OldHeap}
use Rattle.image_map.specs.Regions.{same_region}
use Rattle.alocs.specs.declared.cells.CutList.{CutList}
use Rattle.alocs.specs.declared.extents.Extent.{Extent}
use Rattle.alocs.specs.Extents.{home, extents}
use Rattle.alocs.specs.Cells.{RiseAbove, AreRising, AreCutLists, words, word_cuts, cuts_in, cuts_of, cells_in, cells_of, Division}

-- one word more is listed
pub words_push : (items new : List ℤ) (count k : ℕ) (from next pushed later : ℤ) → k < count → new ≡ items ++ pushed ∷ [] → pushed ≡ next → later ≡ next +ℤ pos 4
    → items ++ words (count - k) next ≡ words count from → new ++ words (count - (k + 1)) later ≡ words count from
unfolding words
words_push items new count k from next pushed later lt is same after made =
    let left : count - k ≡ suc (count - (k + 1)) = omega arith in
    let one : words (count - k) next ≡ next ∷ words (count - (k + 1)) (next +ℤ pos 4) = rw left refl in
    rw (is, same, after) (append_assoc items (next ∷ []) (words (count - (k + 1)) (next +ℤ pos 4)) ∙ (ap (λ ws. items ++ ws) (sym one) ∙ made))

words_rise : (n : ℕ) (low from : ℤ) → low <ℤ from → RiseAbove low (words n from)
unfolding words
words_rise zero low from lt = tt
words_rise (suc n) low from lt = (lt, words_rise n from (from +ℤ pos 4) (omega (arith, ints)))

rising_from : (low : ℤ) (cuts : List ℤ) → RiseAbove low cuts → AreRising cuts
rising_from low [] h = tt
rising_from low (cut ∷ cuts) h = h.1

pub word_cuts_rise : (r : RegionId) → AreRising (word_cuts r)
word_cuts_rise Global = tt
word_cuts_rise (Frame p) = rising_from (negsuc 1024) (words 273 (negsuc 1023)) (words_rise 273 (negsuc 1024) (negsuc 1023) (omega (arith, ints)))
word_cuts_rise (OldFrame p) = rising_from (negsuc 1024) (words 273 (negsuc 1023)) (words_rise 273 (negsuc 1024) (negsuc 1023) (omega (arith, ints)))
word_cuts_rise (Heap k) = rising_from (negsuc 0) (words 65 (pos 0)) (words_rise 65 (negsuc 0) (pos 0) (omega (arith, ints)))
word_cuts_rise (OldHeap k) = rising_from (negsuc 0) (words 65 (pos 0)) (words_rise 65 (negsuc 0) (pos 0) (omega (arith, ints)))

pub cuts_some : (lists view : List CutList) (r : RegionId) {h : RegionId} (l : CutList) (cuts : List ℤ) → view ≡ lists → h ≡ home r → cuts ≡ l.cuts → Some l ≡ find (λ (x : CutList). same_region x.region h) view → cuts ≡ cuts_of lists r
cuts_some lists view r {h} l cuts seen same is e =
    is ∙ ap (λ o. cuts_in o r) (subst (λ (x : RegionId). Some l ≡ find (λ (y : CutList). same_region y.region x) lists) same (subst (λ (ls : List CutList). Some l ≡ find (λ (x : CutList). same_region x.region h) ls) seen e))

pub cuts_none : (lists view : List CutList) (r : RegionId) {h : RegionId} (cuts : List ℤ) → view ≡ lists → h ≡ home r → cuts ≡ word_cuts r → None ≡ find (λ (x : CutList). same_region x.region h) view → cuts ≡ cuts_of lists r
cuts_none lists view r {h} cuts seen same is e =
    is ∙ ap (λ o. cuts_in o r) (subst (λ (x : RegionId). None ≡ find (λ (y : CutList). same_region y.region x) lists) same (subst (λ (ls : List CutList). None ≡ find (λ (x : CutList). same_region x.region h) ls) seen e))

listed_rise : (lists : List CutList) (p : CutList → Bool) (l : CutList) → AreCutLists lists → find p lists ≡ Some l → AreRising l.cuts
listed_rise [] p l h some = absurd (none-some l some)
listed_rise (x ∷ xs) p l h some = go (p x) some (λ e. listed_rise xs p l h.2 e)
  where
    go : (b : Bool) → cond b (Some x) (find p xs) ≡ Some l → (find p xs ≡ Some l → AreRising l.cuts) → AreRising l.cuts
    go true e f = subst (λ (y : CutList). AreRising y.cuts) (same_Some x l e) h.0
    go false e f = f e

pub found_rise : (lists view : List CutList) (h : RegionId) (l : CutList) (cuts : List ℤ) → view ≡ lists → cuts ≡ l.cuts → AreCutLists lists → Some l ≡ find (λ (x : CutList). same_region x.region h) view → AreRising cuts
found_rise lists view h l cuts seen is all e =
    subst (λ (cs : List ℤ). AreRising cs) (sym is)
    (listed_rise lists (λ (x : CutList). same_region x.region h) l all (sym (subst (λ (ls : List CutList). Some l ≡ find (λ (x : CutList). same_region x.region h) ls) seen e)))

pub words_all : (items : List ℤ) (count k : ℕ) (past from next : ℤ) → count ≤ k → past ≡ from → items ++ words (count - k) next ≡ words count past → items ≡ words count from
unfolding words
words_all items count k past from next le same made =
    let none : count - k ≡ 0 = omega arith in
    let nothing : words (count - k) next ≡ [] = rw none refl in
    sym (append-nil items) ∙ (ap (λ ws. items ++ ws) (sym nothing) ∙ (made ∙ ap (words count) same))

pub cells_are : (d : Division) (r : RegionId) {region : RegionId} {xs : List Extent} {cuts : List ℤ} → region ≡ r → xs ≡ extents d.image r → cuts ≡ cuts_of d.lists r → cells_in region xs cuts ≡ cells_of d r
cells_are d r {region} {xs} {cuts} p q s =
    ap (λ x. cells_in x xs cuts) p ∙ (ap (λ x. cells_in r x cuts) q ∙ ap (λ x. cells_in r (extents d.image r) x) s)

-- two lists of two cuts each
pub two_lists : (none one two : List CutList) {a b : CutList} (r q : RegionId) (k l m n : ℤ) → none ≡ [] → one ≡ none ++ a ∷ [] → two ≡ one ++ b ∷ []
    → a ≡ record { region = r; cuts = k ∷ l ∷ [] } → b ≡ record { region = q; cuts = m ∷ n ∷ [] } → k <ℤ l → m <ℤ n → same_region q r ≡ false → AreCutLists two
two_lists none one two {a} {b} r q k l m n empty first second is same up rise other =
    subst (λ (ls : List CutList). AreCutLists ls) (sym whole) ((up, tt), (λ i d lt. alone i d lt), ((rise, tt), (λ i d lt. absurd (omega arith)), tt))
  where
    whole : two ≡ record { region = r; cuts = k ∷ l ∷ [] } ∷ record { region = q; cuts = m ∷ n ∷ [] } ∷ []
    whole = second ∙ (ap (λ ls. ls ++ b ∷ []) (first ∙ ap (λ ls. ls ++ a ∷ []) empty) ∙ (ap (λ x. x ∷ b ∷ []) is ∙ ap (λ x. record { region = r; cuts = k ∷ l ∷ [] } ∷ x ∷ []) same))

    alone : (i : ℕ) (d : CutList) → i < 1 → same_region (slice_index_or (record { region = q; cuts = m ∷ n ∷ [] } ∷ []) i d).region r ≡ false
    alone zero d lt = other
    alone (suc i) d lt = absurd (omega arith)
