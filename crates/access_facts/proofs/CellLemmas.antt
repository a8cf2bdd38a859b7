-- What must be written may be written.
use Rattle.std.proofs.Common.{◌≡◌, ℕ, Bool, true, false, ◌&&◌, ◌||◌, List, [], ◌∷◌, Option, Some, None, pos, ◌+ℤ◌, refl, sym, subst, ◌∙◌, ap, arith}
use Rattle.std.specs.Prelude.{◌<ℤ◌, ◌≤ℤ◌, int_le, is_some}
use Rattle.std.specs.List.{list_any}
use Rattle.std.proofs.lemmas.Bool.{and_parts, true≢false, or_left, and_right, and_left, and_from}
use Rattle.std.proofs.lemmas.Int.{ints}
use Rattle.image_map.specs.declared.image.Image.{Image}
use Rattle.image_map.specs.declared.region.Cell.{Cell}
use Rattle.image_map.specs.declared.region.RegionId.{RegionId}
use Rattle.image_map.specs.declared.region.RegionId.TheVariants.{Global, Frame, OldFrame, Heap, OldHeap}
use Rattle.image_map.specs.Regions.{same_region}
use Rattle.strided.specs.Interval.{Interval, IsCanonical}
use Rattle.strided.proofs.MemberLemmas.{int_le_true}
use Rattle.strided.proofs.BoundLemmas.{member_lo}
use Rattle.alocs.specs.Extents.{home}
use Rattle.vset.specs.declared.part.Part.{Part}
use Rattle.vset.specs.Values.{AreCanonical}
use Rattle.abs_semantics.specs.Touching.{touches, meeting, is_within, sure_place}
use Rattle.abs_semantics.proofs.EntryLemmas.{sure_is}
use Rattle.abs_semantics.proofs.MeetLemmas.{meets as member_meets}
use Rattle.access_facts.specs.declared.reach.Reach.{Reach}
use Rattle.access_facts.specs.declared.reach.Reach.TheVariants.{Anywhere, Within}
use Rattle.access_facts.specs.Reach.{at_home}
use Rattle.access_facts.specs.CellSets.{meets, may_read, may_write, is_sure, fills_place, must_write, is_written, is_filled}
use Rattle.access_facts.specs.declared.rows.Test.{Test}
use Rattle.access_facts.specs.declared.rows.Test.TheVariants.{Read, Written, Filled}
use Rattle.access_facts.specs.Rows.{is_for, comes_to, any_comes_to, picks}
use Rattle.access_facts.specs.Forms.{IsFormed, AreFormed}

sure_home : (older : List ℕ) (r : RegionId) → is_sure older r ≡ true → home r ≡ r
sure_home older Global sure = refl
sure_home older (Frame p) sure = refl
sure_home older (OldFrame p) sure = absurd (true≢false (sym sure))
sure_home older (Heap key) sure = absurd (true≢false (sym sure))
sure_home older (OldHeap key) sure = absurd (true≢false (sym sure))

some_is : (o : Option Interval) (m : Interval) → o ≡ Some m → is_some o ≡ true
some_is o m e = ap is_some e

-- a cell that isn't empty, within a range at the one offset of a part
filled_touches : (older : List ℕ) (len : ℕ) (c : Cell) (x : Part) → c.start <ℤ c.end → IsCanonical x.si → (is_sure older x.region && is_within len x c) ≡ true → touches len c (at_home x) ≡ true
filled_touches older len c x some form e =
    let parts = and_parts (is_sure older x.region) (is_within len x c) e in
    let inner = and_parts (same_region x.region c.region && int_le x.si.lo c.start) (int_le c.end (x.si.lo +ℤ pos len)) parts.1 in
    let first = and_parts (same_region x.region c.region) (int_le x.si.lo c.start) inner.0 in
    let from : x.si.lo ≤ℤ c.start = int_le_true x.si.lo c.start first.1 in
    let to : c.end ≤ℤ (x.si.lo +ℤ pos len) = int_le_true c.end (x.si.lo +ℤ pos len) inner.1 in
    let met = member_meets x.si.lo len c x.si form (member_lo x.si form) (omega (arith, ints)) (omega (arith, ints)) in
    and_from (same_region (home x.region) c.region) (is_some (meeting x.si len c)) (ap (λ r. same_region r c.region) (sure_home older x.region parts.0) ∙ first.0) (some_is (meeting x.si len c) met.met met.is)

fills_writes : (image : Image) (older : List ℕ) (len : ℕ) (xs : List Part) (c : Cell) → c.start <ℤ c.end → AreCanonical xs → fills_place older len c (sure_place xs) ≡ true → meets len xs c ≡ true
fills_writes image older len xs c some form e = by_place (sure_place xs) refl e
  where
    by_place : (o : Option Part) → sure_place xs ≡ o → fills_place older len c o ≡ true → meets len xs c ≡ true
    by_place None is e = absurd (true≢false (sym e))
    by_place (Some x) is e =
        let one : xs ≡ x ∷ [] = (sure_is xs x is).0 in
        let canonical : AreCanonical (x ∷ []) = subst AreCanonical one form in
        ap (λ ys. meets len ys c) one ∙ or_left (touches len c (at_home x)) false (filled_touches older len c x some canonical.0 e)

pub must_may : (image : Image) (older : List ℕ) (c : Cell) (r : Reach) → c.start <ℤ c.end → IsFormed r → must_write older c r ≡ true → may_write image c r ≡ true
must_may image older c Anywhere some form e = absurd (true≢false (sym e))
must_may image older c (Within len xs) some form e = fills_writes image older len xs c some form e

pub filled_written : (image : Image) (older : List ℕ) (rs : List Reach) (c : Cell) → c.start <ℤ c.end → AreFormed rs → is_filled older rs c ≡ true → is_written image rs c ≡ true
filled_written image older [] c some forms e = absurd (true≢false (sym e))
filled_written image older (r ∷ rs) c some forms e =
    by_first (must_write older c r) (may_write image c r) (is_filled older rs c) (is_written image rs c) (must_may image older c r some forms.0) (filled_written image older rs c some forms.1) e
  where
    by_first : (a b p q : Bool) → (a ≡ true → b ≡ true) → (p ≡ true → q ≡ true) → (a || p) ≡ true → (b || q) ≡ true
    by_first true b p q f g e = or_left b q (f refl)
    by_first false true p q f g e = refl
    by_first false false p q f g e = g e

-- -- Regions that no access comes to

or_none : (a b : Bool) → (a || b) ≡ false → (a ≡ false) × (b ≡ false)
or_none true b e = absurd (true≢false e)
or_none false b e = (refl, e)

none_of : {A : Type 0} (f g : A → Bool) → ((x : A) → f x ≡ false → g x ≡ false) → (xs : List A) → list_any f xs ≡ false → list_any g xs ≡ false
none_of f g less [] e = refl
none_of f g less (x ∷ xs) e =
    let both = or_none (f x) (list_any f xs) e in
    ap (λ b. b || list_any g xs) (less x both.0) ∙ none_of f g less xs both.1

not_for : (len : ℕ) (r : RegionId) (c : Cell) → c.region ≡ r → (x : Part) → is_for r x ≡ false → touches len c (at_home x) ≡ false
not_for len r c of x isnt =
    and_left (same_region (home x.region) c.region) (is_some (meeting x.si len c))
    (ap (same_region (home x.region)) of ∙ (or_none (same_region (home x.region) r) (same_region x.region r) isnt).0)

meets_none : (len : ℕ) (r : RegionId) (c : Cell) (xs : List Part) → c.region ≡ r → list_any (is_for r) xs ≡ false → meets len xs c ≡ false
meets_none len r c [] of none = refl
meets_none len r c (x ∷ xs) of none =
    let both = or_none (is_for r x) (list_any (is_for r) xs) none in
    ap (λ b. b || meets len xs c) (not_for len r c of x both.0) ∙ meets_none len r c xs of both.1

fills_none : (older : List ℕ) (len : ℕ) (r : RegionId) (c : Cell) (xs : List Part) → c.region ≡ r → list_any (is_for r) xs ≡ false → fills_place older len c (sure_place xs) ≡ false
fills_none older len r c xs of none = by_place (sure_place xs) refl
  where
    by_place : (o : Option Part) → sure_place xs ≡ o → fills_place older len c o ≡ false
    by_place None is = refl
    by_place (Some x) is =
        let alone : (is_for r x || false) ≡ false = ap (list_any (is_for r)) (sym (sure_is xs x is).0) ∙ none in
        let isnt : is_for r x ≡ false = (or_none (is_for r x) false alone).0 in
        let other : same_region x.region c.region ≡ false = ap (same_region x.region) of ∙ (or_none (same_region (home x.region) r) (same_region x.region r) isnt).1 in
        and_right (is_sure older x.region) (is_within len x c)
        (and_left (same_region x.region c.region && int_le x.si.lo c.start) (int_le c.end (x.si.lo +ℤ pos len)) (and_left (same_region x.region c.region) (int_le x.si.lo c.start) other))

unread : (r : RegionId) (c : Cell) → c.region ≡ r → (x : Reach) → comes_to r x ≡ false → may_read c x ≡ false
unread r c of Anywhere none = absurd (true≢false none)
unread r c of (Within len xs) none = meets_none len r c xs of none

unwritten : (image : Image) (r : RegionId) (c : Cell) → c.region ≡ r → (x : Reach) → comes_to r x ≡ false → may_write image c x ≡ false
unwritten image r c of Anywhere none = absurd (true≢false none)
unwritten image r c of (Within len xs) none = meets_none len r c xs of none

unfilled : (older : List ℕ) (r : RegionId) (c : Cell) → c.region ≡ r → (x : Reach) → comes_to r x ≡ false → must_write older c x ≡ false
unfilled older r c of Anywhere none = absurd (true≢false none)
unfilled older r c of (Within len xs) none = fills_none older len r c xs of none

pub none_picked_in : (r : RegionId) (test : Test) → any_comes_to r test ≡ false → (c : Cell) → c.region ≡ r → picks test c ≡ false
none_picked_in r (Read rs) none c of = none_of (comes_to r) (may_read c) (unread r c of) rs.now none
none_picked_in r (Written image rs) none c of = none_of (comes_to r) (may_write image.now c) (unwritten image.now r c of) rs.now none
none_picked_in r (Filled older rs) none c of = none_of (comes_to r) (must_write older.now c) (unfilled older.now r c of) rs.now none
