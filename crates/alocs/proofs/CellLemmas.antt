-- The cells of extents: they rise, and the first that ends above an offset is found by halves.
use Rattle.std.proofs.Common.{◌≡◌, ℕ, zero, suc, ◌<◌, ◌≤◌, Bool, true, false, cond, ◌&&◌, ◌⊎◌, inl, inr, ⊎_elim, ℤ, pos, negsuc, ◌+ℤ◌, Option, Some, None, List, [], ◌∷◌, ◌++◌, length, get_or, refl, sym, subst, ap, ◌∙◌, arith}
use Rattle.std.specs.Prelude.{◌≤ℤ◌, ◌<ℤ◌, int_le, int_lt, find, slice_get}
use Rattle.std.specs.Int.{int_max, int_min}
use Rattle.std.specs.List.Sorted.{IsPartitionedBy, IsPartitionPoint}
use Rattle.std.proofs.lemmas.Bool.{cond_both, and_parts}
use Rattle.std.proofs.lemmas.Int.{ints, clamps}
use Rattle.std.proofs.lemmas.Option.{none-some, same_Some}
use Rattle.strided.proofs.MemberLemmas.{int_le_true, int_le_false, le_int_le}
use Rattle.image_map.specs.declared.region.Cell.{Cell}
use Rattle.image_map.specs.declared.region.RegionId.{RegionId}
use Rattle.item_list.proofs.ListLaws.{found_first}
use Rattle.alocs.specs.declared.extents.Extent.{Extent}
use Rattle.alocs.specs.Extents.{RiseFrom}
use Rattle.alocs.specs.Cells.{RiseAbove, AreRising, cells_from, cells_in, CellsRise}
use Rattle.alocs.specs.Halves.{raised, lowered, before, ends_after}

-- ---- tests of integers

pub int_lt_true : (a b : ℤ) → int_lt a b ≡ true → a <ℤ b
int_lt_true a b e = grind (arith, ints)

pub int_lt_false : (a b : ℤ) → int_lt a b ≡ false → b ≤ℤ a
int_lt_false a b e = grind (arith, ints)

pub lt_int_lt : (a b : ℤ) → a <ℤ b → int_lt a b ≡ true
lt_int_lt a b h = grind (arith, ints)

pub le_int_lt : (a b : ℤ) → b ≤ℤ a → int_lt a b ≡ false
le_int_lt a b h = grind (arith, ints)

-- ---- the cells of one extent

-- a cut either splits the rest or is left out
pub split : (P : List Cell → Type 0) (r : RegionId) (start cut end : ℤ) (cuts : List ℤ)
    → (start <ℤ cut → cut <ℤ end → P (record { region = r; start = start; end = cut } ∷ cells_from r cut cuts end))
    → ((cut ≤ℤ start) ⊎ (end ≤ℤ cut) → P (cells_from r start cuts end))
    → P (cells_from r start (cut ∷ cuts) end)
split P r start cut end cuts here out =
    cond_both (int_lt start cut && int_lt cut end) (record { region = r; start = start; end = cut } ∷ cells_from r cut cuts end) (cells_from r start cuts end) P
    (λ yes. let both = and_parts (int_lt start cut) (int_lt cut end) yes in here (int_lt_true start cut both.0) (int_lt_true cut end both.1))
    (λ no. out (outside (int_lt start cut) (int_lt cut end) no (λ e. int_lt_false start cut e) (λ e. int_lt_false cut end e)))
  where
    outside : (a b : Bool) → (a && b) ≡ false → (a ≡ false → cut ≤ℤ start) → (b ≡ false → end ≤ℤ cut) → (cut ≤ℤ start) ⊎ (end ≤ℤ cut)
    outside true b h low high = inr (high h)
    outside false b h low high = inl (low refl)

pub cells_rise : (r : RegionId) (low start : ℤ) (cuts : List ℤ) (end : ℤ) → low ≤ℤ start → start <ℤ end → CellsRise low (cells_from r start cuts end)
cells_rise r low start [] end le lt = (le, lt, tt)
cells_rise r low start (cut ∷ cuts) end le lt =
    split (λ cs. CellsRise low cs) r start cut end cuts
    (λ above below. (le, above, cells_rise r cut cut cuts end (omega (arith, ints)) below))
    (λ out. cells_rise r low start cuts end le lt)

-- no cell ends above a limit
abbrev pub EndBy : ℤ → List Cell → Type 0
EndBy limit [] = Unit {0}
EndBy limit (c ∷ cs) = (c.end ≤ℤ limit) × EndBy limit cs

pub cells_end : (r : RegionId) (start : ℤ) (cuts : List ℤ) (end : ℤ) → EndBy end (cells_from r start cuts end)
cells_end r start [] end = (omega (arith, ints), tt)
cells_end r start (cut ∷ cuts) end =
    split (λ cs. EndBy end cs) r start cut end cuts
    (λ above below. (omega (arith, ints), cells_end r cut cuts end))
    (λ out. cells_end r start cuts end)

-- ---- the cells of extents that rise

pub rise_lower : (low high : ℤ) (cs : List Cell) → low ≤ℤ high → CellsRise high cs → CellsRise low cs
rise_lower low high [] le r = tt
rise_lower low high (c ∷ cs) le r = let p = r.0 in (omega (arith, ints), r.1, r.2)

pub rise_append : (low mid : ℤ) (xs ys : List Cell) → low ≤ℤ mid → CellsRise low xs → EndBy mid xs → CellsRise mid ys → CellsRise low (xs ++ ys)
rise_append low mid [] ys le r e s = rise_lower low mid ys le s
rise_append low mid (x ∷ xs) ys le r e s = (r.0, r.1, rise_append x.end mid xs ys e.0 r.2 e.1 s)

pub cells_in_rise : (r : RegionId) (low : ℤ) (xs : List Extent) (cuts : List ℤ) → RiseFrom low xs → CellsRise low (cells_in r xs cuts)
cells_in_rise r low [] cuts h = tt
cells_in_rise r low (x ∷ xs) cuts h =
    let p = h.0 in let q = h.1 in
    rise_append low x.end (cells_from r x.start cuts x.end) (cells_in r xs cuts) (omega (arith, ints))
    (cells_rise r low x.start cuts x.end h.0 h.1) (cells_end r x.start cuts x.end) (cells_in_rise r x.end xs cuts h.2)

-- ---- the first cell that ends above an offset

none_after : (at limit : ℤ) (cs : List Cell) → limit ≤ℤ at → EndBy limit cs → find (ends_after at) cs ≡ None
none_after at limit [] le e = refl
none_after at limit (c ∷ cs) le e =
    let p = e.0 in
    let here : int_lt at c.end ≡ false = le_int_lt at c.end (omega (arith, ints)) in
    rw here (none_after at limit cs le e.1)

found_behind : {X : Type 0} (p : X → Bool) (xs ys : List X) → find p xs ≡ None → find p (xs ++ ys) ≡ find p ys
found_behind p [] ys none = refl
found_behind p (x ∷ xs) ys none = go (p x) none (found_behind p xs ys)
  where
    go : (b : Bool) → cond b (Some x) (find p xs) ≡ None → (find p xs ≡ None → find p (xs ++ ys) ≡ find p ys) → cond b (Some x) (find p (xs ++ ys)) ≡ find p ys
    go true e f = absurd (none-some x (sym e))
    go false e f = f e

-- cells that begin at or behind a place end above it
later_same : (low at start : ℤ) (cs : List Cell) → start ≤ℤ low → CellsRise low cs → find (ends_after at) cs ≡ find (ends_after (int_max at start)) cs
later_same low at start [] le r = refl
later_same low at start (c ∷ cs) le r =
    let p = r.0 in let q = r.1 in
    let here : int_lt (int_max at start) c.end ≡ int_lt at c.end = grind (arith, ints, clamps) in
    rw here (ap (λ o. cond (int_lt at c.end) (Some c) o) (later_same c.end at start cs (omega (arith, ints)) r.2))

-- cells of an extent that lies past all cuts that are left
past_cuts : (r : RegionId) (start last : ℤ) (cuts : List ℤ) (end : ℤ) → RiseAbove last cuts → end ≤ℤ last → cells_from r start cuts end ≡ record { region = r; start = start; end = end } ∷ []
past_cuts r start last [] end h le = refl
past_cuts r start last (cut ∷ cuts) end h le =
    let p = h.0 in
    split (λ cs. cs ≡ record { region = r; start = start; end = end } ∷ []) r start cut end cuts
    (λ above below. absurd (omega (arith, ints)))
    (λ out. past_cuts r start cut cuts end h.1 (omega (arith, ints)))

-- where the cuts up to an offset end
abbrev pub IsPassed : List ℤ → ℕ → ℤ → Type 0
IsPassed cuts passed at = ((k : ℕ) (d : ℤ) → k < passed → get_or cuts k d ≤ℤ at) × ((k : ℕ) (d : ℤ) → passed ≤ k → k < length cuts → at <ℤ get_or cuts k d)

-- the last cut passed is the greatest
before_more : (start cut : ℤ) (cuts : List ℤ) (passed : ℕ) → RiseAbove cut cuts → passed ≤ length cuts → raised start (before (cut ∷ cuts) (suc passed)) ≡ raised (int_max start cut) (before cuts passed)
before_more start cut cuts zero h le = refl
before_more start cut [] (suc passed) h le = absurd (omega arith)
before_more start cut (next ∷ cuts) (suc passed) h le =
    let p = h.0 in
    before_more start next cuts passed h.1 (omega arith)
    ∙ (ap (λ s. raised s (before cuts passed)) (let e : int_max start next ≡ int_max (int_max start cut) next = omega (arith, ints, clamps) in e)
    ∙ sym (before_more (int_max start cut) next cuts passed h.1 (omega arith)))

-- the first cell that ends above an offset of the extent
pub cell_found : (r : RegionId) (start low : ℤ) (cuts : List ℤ) (end at : ℤ) (passed : ℕ) → RiseAbove low cuts → start ≤ℤ at → at <ℤ end → passed ≤ length cuts → IsPassed cuts passed at
    → find (ends_after at) (cells_from r start cuts end) ≡ Some (record { region = r; start = raised start (before cuts passed); end = lowered end (slice_get cuts passed) })
cell_found r start low [] end at zero h le lt few p =
    let here : int_lt at end ≡ true = lt_int_lt at end lt in rw here refl
cell_found r start low [] end at (suc passed) h le lt few p = absurd (omega arith)
cell_found r start low (cut ∷ cuts) end at zero h le lt few p =
    let above : at <ℤ cut = p.1 0 cut (omega arith) (omega arith) in
    split (λ cs. find (ends_after at) cs ≡ Some (record { region = r; start = start; end = int_min end cut })) r start cut end cuts
    (λ after under.
    let here : int_lt at cut ≡ true = lt_int_lt at cut above in
    let is : int_min end cut ≡ cut = omega (arith, ints, clamps) in
    rw (here, is) refl)
    (λ out.
    let past : end ≤ℤ cut = ⊎_elim (λ (q : cut ≤ℤ start). absurd (omega (arith, ints))) (λ (q : end ≤ℤ cut). q) out in
    let here : int_lt at end ≡ true = lt_int_lt at end lt in
    let is : int_min end cut ≡ end = omega (arith, ints, clamps) in
    rw (past_cuts r start cut cuts end h.1 past, here, is) refl)
cell_found r start low (cut ∷ cuts) end at (suc passed) h le lt few p =
    let below : cut ≤ℤ at = p.0 0 cut (omega arith) in
    let rest : IsPassed cuts passed at = (λ k d q. p.0 (suc k) d (omega arith), λ k d q s. p.1 (suc k) d (omega arith) (omega arith)) in
    let more = before_more start cut cuts passed h.1 (omega arith) in
    split (λ cs. find (ends_after at) cs ≡ Some (record { region = r; start = raised start (before (cut ∷ cuts) (suc passed)); end = lowered end (slice_get cuts passed) })) r start cut end cuts
    (λ after under.
    let here : int_lt at cut ≡ false = le_int_lt at cut below in
    let is : int_max start cut ≡ cut = omega (arith, ints, clamps) in
    let found = cell_found r cut cut cuts end at passed h.1 below lt (omega arith) rest in
    rw (here, more, is) found)
    (λ out.
    let under : cut ≤ℤ start = ⊎_elim (λ (q : cut ≤ℤ start). q) (λ (q : end ≤ℤ cut). absurd (omega (arith, ints))) out in
    let is : int_max start cut ≡ start = omega (arith, ints, clamps) in
    rw (more, is) (cell_found r start cut cuts end at passed h.1 le lt (omega arith) rest))

-- ---- the first cell of a region

pub after_none : (r : RegionId) (low at : ℤ) (xs : List Extent) (cuts : List ℤ) → find (λ (x : Extent). int_lt at x.end) xs ≡ None → find (ends_after at) (cells_in r xs cuts) ≡ None
after_none r low at [] cuts none = refl
after_none r low at (x ∷ xs) cuts none = go (int_lt at x.end) refl none (λ e. after_none r low at xs cuts e)
  where
    go : (b : Bool) → int_lt at x.end ≡ b → cond b (Some x) (find (λ (y : Extent). int_lt at y.end) xs) ≡ None
        → (find (λ (y : Extent). int_lt at y.end) xs ≡ None → find (ends_after at) (cells_in r xs cuts) ≡ None) → find (ends_after at) (cells_in r (x ∷ xs) cuts) ≡ None
    go true is e f = absurd (none-some x (sym e))
    go false is e f =
        found_behind (ends_after at) (cells_from r x.start cuts x.end) (cells_in r xs cuts) (none_after at x.end (cells_from r x.start cuts x.end) (int_lt_false at x.end is) (cells_end r x.start cuts x.end))
        ∙ f e

-- the extent that is found: it ends above the offset, isn't empty, and has the cell
pub after_some : (r : RegionId) (low at : ℤ) (xs : List Extent) (cuts : List ℤ) (x : Extent) → RiseFrom low xs → find (λ (y : Extent). int_lt at y.end) xs ≡ Some x
    → (at <ℤ x.end) × (x.start <ℤ x.end) × ((c : Cell) → find (ends_after (int_max at x.start)) (cells_from r x.start cuts x.end) ≡ Some c → find (ends_after at) (cells_in r xs cuts) ≡ Some c)
after_some r low at [] cuts x h some = absurd (none-some x some)
after_some r low at (y ∷ ys) cuts x h some = go (int_lt at y.end) refl some (λ e. after_some r y.end at ys cuts x h.2 e)
  where
    go : (b : Bool) → int_lt at y.end ≡ b → cond b (Some y) (find (λ (z : Extent). int_lt at z.end) ys) ≡ Some x
        → (find (λ (z : Extent). int_lt at z.end) ys ≡ Some x → (at <ℤ x.end) × (x.start <ℤ x.end) × ((c : Cell) → find (ends_after (int_max at x.start)) (cells_from r x.start cuts x.end) ≡ Some c → find (ends_after at) (cells_in r ys cuts) ≡ Some c))
        → (at <ℤ x.end) × (x.start <ℤ x.end) × ((c : Cell) → find (ends_after (int_max at x.start)) (cells_from r x.start cuts x.end) ≡ Some c → find (ends_after at) (cells_in r (y ∷ ys) cuts) ≡ Some c)
    go true is e f =
        let same : y ≡ x = same_Some y x e in
        subst (λ (z : Extent). (at <ℤ z.end) × (z.start <ℤ z.end) × ((c : Cell) → find (ends_after (int_max at z.start)) (cells_from r z.start cuts z.end) ≡ Some c → find (ends_after at) (cells_in r (y ∷ ys) cuts) ≡ Some c)) same (
          int_lt_true at y.end is,
          h.1,
          λ c found. found_first (ends_after at) (cells_from r y.start cuts y.end) (cells_in r ys cuts) c
              (later_same y.start at y.start (cells_from r y.start cuts y.end) (omega (arith, ints)) (cells_rise r y.start y.start cuts y.end (omega (arith, ints)) h.1) ∙ found),
        )
    go false is e f =
        let rest = f e in (
          rest.0,
          rest.1,
          λ c found.
              found_behind (ends_after at) (cells_from r y.start cuts y.end) (cells_in r ys cuts) (none_after at y.end (cells_from r y.start cuts y.end) (int_lt_false at y.end is) (cells_end r y.start cuts y.end))
              ∙ rest.2 c found,
        )

-- ---- what the search by halves asks and gives

cuts_above : (low : ℤ) (cuts : List ℤ) (k : ℕ) (d : ℤ) → RiseAbove low cuts → k < length cuts → low <ℤ get_or cuts k d
cuts_above low [] k d h lt = absurd (omega arith)
cuts_above low (cut ∷ cuts) zero d h lt = h.0
cuts_above low (cut ∷ cuts) (suc k) d h lt = let p = h.0 in let q = cuts_above cut cuts k d h.1 (omega arith) in omega (arith, ints)

cuts_rise : (low : ℤ) (cuts : List ℤ) → RiseAbove low cuts → (i j : ℕ) (d : ℤ) → i ≤ j → j < length cuts → get_or cuts i d ≤ℤ get_or cuts j d
cuts_rise low [] h i j d le lt = absurd (omega arith)
cuts_rise low (cut ∷ cuts) h zero zero d le lt = omega (arith, ints)
cuts_rise low (cut ∷ cuts) h zero (suc j) d le lt = let q = cuts_above cut cuts j d h.1 (omega arith) in omega (arith, ints)
cuts_rise low (cut ∷ cuts) h (suc i) zero d le lt = absurd (omega arith)
cuts_rise low (cut ∷ cuts) h (suc i) (suc j) d le lt = cuts_rise cut cuts h.1 i j d (omega arith) (omega arith)

-- rising cuts rise above some number
pub some_low : (cuts : List ℤ) → AreRising cuts → (low : ℤ) × RiseAbove low cuts
some_low [] h = (pos 0, tt)
some_low (cut ∷ cuts) h = ((cut +ℤ negsuc 0), (omega (arith, ints), h))

pub cuts_parted : (at : ℤ) (cuts : List ℤ) → AreRising cuts → IsPartitionedBy (λ (cut : ℤ). int_le cut at) cuts
cuts_parted at cuts h = λ i j d le lt up.
    let low = some_low cuts h in
    let q : get_or cuts j d ≤ℤ at = int_le_true (get_or cuts j d) at up in
    let r = cuts_rise low.0 cuts low.1 i j d le lt in
    le_int_le (get_or cuts i d) at (omega (arith, ints))

pub cell_from_point : (r : RegionId) (start : ℤ) (cuts : List ℤ) (end at : ℤ) (passed : ℕ) → AreRising cuts → start ≤ℤ at → at <ℤ end → passed ≤ length cuts
    → IsPartitionPoint (λ (cut : ℤ). int_le cut at ≡ true) (λ cut. int_le cut at ≡ false) cuts passed
    → (first last : ℤ) → first ≡ raised start (before cuts passed) → last ≡ lowered end (slice_get cuts passed)
    → Some (record { region = r; start = first; end = last }) ≡ find (ends_after at) (cells_from r start cuts end)
cell_from_point r start cuts end at passed h le lt few p first last from to =
    let low = some_low cuts h in
    sym (cell_found r start low.0 cuts end at passed low.1 le lt few (λ k d q. int_le_true (get_or cuts k d) at (p.0 k d (omega arith) q), λ k d q s. int_le_false (get_or cuts k d) at (p.1 k d q s)) ∙ rw (from, to) refl)

pub same_raised : {r s : ℤ} (o : Option ℤ) → r ≡ raised s o → (t : ℤ) → s ≡ t → r ≡ raised t o
same_raised o e t q = cc

pub same_lowered : {r s : ℤ} (o : Option ℤ) → r ≡ lowered s o → (t : ℤ) → s ≡ t → r ≡ lowered t o
same_lowered o e t q = cc

pub cell_is : (r : RegionId) (cuts : List ℤ) (cell : Cell) {past first last : ℤ} → Some cell ≡ find (ends_after past) (cells_from r first cuts last) → (at start end : ℤ) → past ≡ at → first ≡ start → last ≡ end
    → find (ends_after at) (cells_from r start cuts end) ≡ Some cell
cell_is r cuts cell {past} {first} {last} e at start end p q s = rw (← p, ← q, ← s) (sym e)

pub after_is : (cells : List Cell) (o : Option Cell) {past : ℤ} → o ≡ find (ends_after past) cells → (at : ℤ) → past ≡ at → find (ends_after at) cells ≡ o
after_is cells o e at q = sym (subst (λ (a : ℤ). o ≡ find (ends_after a) cells) q e)
