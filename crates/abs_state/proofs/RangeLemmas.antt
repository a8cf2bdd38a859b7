-- Ranges of many bytes: where they end, and what they leave.
use Rattle.std.proofs.Common.{◌≡◌, ◌≤◌, ℕ, ◌+◌, ◌*◌, ◌/◌, ◌%◌, ◌^◌, ◌⊎◌, inl, inr, Bool, true, false, cond, ◌&&◌, ◌||◌, List, [], ◌∷◌, ◌++◌, Option, Some, None, append-nil, refl, sym, ◌∙◌, ap, subst, ⊎_elim, arith}
use Rattle.std.specs.Prelude.{ℤ, pos, negsuc, ◌≤ℤ◌, ◌<ℤ◌, ◌+ℤ◌, ◌↔◌, int_le, int_lt, nat_lt, filter, length, map, Contains, find, IfSome}
use Rattle.std.proofs.lemmas.Bool.{cond_both, cond-true, cond-false, cases_Bool, true≢false, and_parts, or_left}
use Rattle.std.proofs.lemmas.Int.{ints}
use Rattle.std.proofs.lemmas.Option.{none-some, same_Some}
use Rattle.std.specs.Cmp.{signed_Decides}
use Rattle.std.specs.Int.{int_gap}
use Rattle.std.specs.Prelude.{if◌then◌else◌}
use Rattle.strided.proofs.SpacedLemmas.{gap_from}
use Rattle.ia32_semantics.specs.State.{little_endian}
use Rattle.image_map.specs.declared.region.Cell.{Cell}
use Rattle.image_map.specs.declared.region.RegionId.{RegionId}
use Rattle.image_map.specs.declared.region.RegionId.TheVariants.{Global, Frame, OldFrame, Heap, OldHeap}
use Rattle.image_map.specs.declared.image.Image.{Image}
use Rattle.image_map.specs.Regions.{same_cell, same_region}
use Rattle.image_map.proofs.OrderLaws.{same_cell-equal, same_cell-itself}
use Rattle.item_list.proofs.TruthLaws.{same_test}
use Rattle.strided.specs.Interval.{IsCanonical, greatest}
use Rattle.strided.proofs.BoundLemmas.{member_lo}
use Rattle.strided.proofs.MemberLemmas.{int_le_true}
use Rattle.alocs.specs.Cells.{Division, AreTouched, IsTouched, cells_from, cells_of, cuts_of, holds}
use Rattle.alocs.proofs.CellLemmas.{int_lt_true, int_lt_false, le_int_lt, EndBy, cells_end}
use Rattle.alocs.proofs.MemberLaws.{contains-cases, contains-head, contains-tail, contains-none}
use Rattle.vset.specs.declared.part.Part.{Part}
use Rattle.vset.specs.Operations.{same_part}
use Rattle.vset.specs.Values.{Values, Top, Parts, only_number}
use Rattle.abs_semantics.specs.declared.parts.CellValue.{CellValue}
use Rattle.abs_semantics.specs.declared.parts.RangeValue.{RangeValue}
use Rattle.abs_semantics.specs.States.{AbsState, value_at, rebuilt}
use Rattle.abs_semantics.specs.Joins.{fits_below, has_length, held_by}
use Rattle.abs_semantics.specs.Resolve.{Verdict, Refuses, Stays, Follows, end_of, most_links, verdict, verdict_in, part_before, put_part, rising_onto, Met, levels, is_listed, verdict_on, places, told, Resolved, resolve}
use Rattle.abs_semantics.specs.Touching.{cell_at, if_range, touches, is_within}
use Rattle.abs_semantics.specs.Accesses.{has_no_reason, sure_entries, without_value, may_change, changed_value, untouched_fact, overwritten, overwritten_anywhere}
use Rattle.abs_semantics.specs.Ranges.{place_in, lone_range, value_within, read_range, is_clear, copied, repeated, stored, value_if_within, range_written_there, range_written_to, write_range}
use Rattle.abs_semantics.proofs.VerdictLemmas.{Passes, number_facts}
use Rattle.abs_semantics.proofs.EntryLemmas.{lone_is}
use Rattle.abs_state.specs.declared.ranges.Stored.{Stored}
use Rattle.abs_state.specs.Ranges.{AreWithin, Filling, held_in, number_length, stored_as}
use Rattle.cell_map.proofs.RebuiltLemmas.{is_among}
use Rattle.cell_map.proofs.RebuiltLaws.{absent_top, among_both, rebuilt_same}

module _ (len : ℕ) where
  -- a range of numbers ends below 2^31
  abbrev pub EndsInReach : Part → Type 0
  EndsInReach x = x.region ≡ Global → end_of x.si len ≤ℤ greatest

  abbrev pub AllEndInReach : List Part → Type 0
  AllEndInReach [] = Unit {0}
  AllEndInReach (x ∷ xs) = EndsInReach x × AllEndInReach xs

  put_end : (x : Part) (ys : List Part) → EndsInReach x → AllEndInReach ys → AllEndInReach (put_part x ys)
  put_end x [] h hs = (h, tt)
  put_end x (y ∷ ys) h hs =
      cond_both (same_part y x) (y ∷ ys) (cond (part_before y x) (y ∷ put_part x ys) (x ∷ y ∷ ys)) AllEndInReach (λ _. hs)
      (λ _. cond_both (part_before y x) (y ∷ put_part x ys) (x ∷ y ∷ ys) AllEndInReach (λ _. (hs.0, put_end x ys h hs.1)) (λ _. (h, hs)))

  rising_end : (into xs : List Part) → AllEndInReach into → AllEndInReach xs → AllEndInReach (rising_onto into xs)
  unfolding rising_onto
  rising_end into [] hs rest = hs
  rising_end into (x ∷ xs) hs rest = rising_end (put_part x into) xs (put_end x into rest.0 hs) rest.1

  listed_passes : (v : Verdict) → is_listed v ≡ true → Passes v
  listed_passes (Refuses r) e = absurd (true≢false (sym e))
  listed_passes Stays e = tt
  listed_passes (Follows as_well) e = tt

  module _ (a : AbsState) (p : ℕ) where
    listed_end : (m : Met) → is_listed (verdict_on a p len m) ≡ true → EndsInReach m.place
    unfolding verdict
    listed_end m e numbers =
        let facts = number_facts len m.place.si (listed_passes (verdict_in a p len m.followed m.place.si Global) (subst (λ r. is_listed (verdict_in a p len m.followed m.place.si r) ≡ true) numbers e)) in
        facts.below

    places_end : (ms : List Met) → AllEndInReach (places (filter (λ (m : Met). is_listed (verdict_on a p len m)) ms))
    places_end [] = tt
    places_end (m ∷ ms) =
        cond_both (is_listed (verdict_on a p len m)) (m ∷ filter (λ (m : Met). is_listed (verdict_on a p len m)) ms) (filter (λ (m : Met). is_listed (verdict_on a p len m)) ms) (λ ks. AllEndInReach (places ks))
        (λ e. (listed_end m e, places_end ms)) (λ _. places_end ms)

    pub entries_end : (v : Values) → AllEndInReach (resolve a p v len).entries
    unfolding resolve
    entries_end Top = tt
    entries_end (Parts xs) =
        let ms = levels a p len (most_links a + 1) 0 (rising_onto [] xs) in
        cond_both (nat_lt 1024 (length (rising_onto [] (places ms)))) (record { entries = []; reasons = _ }) (told a p len ms) (λ r. AllEndInReach r.entries) (λ _. tt)
        (λ _. rising_end [] (places (filter (λ (m : Met). is_listed (verdict_on a p len m)) ms)) tt (places_end ms))

-- -- One range alone

lone_entries : (r : Resolved) (x : Part) → place_in (sure_entries r) ≡ Some x → (r.entries ≡ x ∷ []) × (x.si.stride ≡ 0)
lone_entries r x is = by_test (has_no_reason r.reasons) is
  where
    by_test : (t : Bool) → place_in (cond t (Some r.entries) None) ≡ Some x → (r.entries ≡ x ∷ []) × (x.si.stride ≡ 0)
    by_test true e = lone_is r.entries x e
    by_test false e = absurd (none-some x e)

pub lone_in_reach : (a : AbsState) (p : ℕ) (v : Values) (len : ℕ) (x : Part) → lone_range a p v len ≡ Some x → IsCanonical x.si → x.region ≡ Global → (x.si.lo +ℤ pos len) ≤ℤ greatest
lone_in_reach a p v len x is form numbers =
    let lone = lone_entries (resolve a p v len) x is in
    let ends = subst (AllEndInReach len) lone.0 (entries_end len a p v) in
    let last = ends.0 numbers in
    let same = form.alone.0 lone.1 in
    omega (arith, ints, last, same)

pub reach_of : (a : AbsState) (p : ℕ) (v : Values) (len : ℕ) (o : Option Part) → o ≡ lone_range a p v len → IfSome o (λ (x : Part). IsCanonical x.si) → IfSome o (λ (x : Part). x.region ≡ Global → (x.si.lo +ℤ pos len) ≤ℤ greatest)
reach_of a p v len None is form = tt
reach_of a p v len (Some x) is form = lone_in_reach a p v len x (sym is) form

-- less of a range that ends in reach
pub less_in_reach : (o : Option Part) (x : Part) (len distance : ℕ) → IfSome o (λ (y : Part). y.region ≡ Global → (y.si.lo +ℤ pos len) ≤ℤ greatest) → o ≡ Some x → distance ≤ len → x.region ≡ Global → (x.si.lo +ℤ pos distance) ≤ℤ greatest
less_in_reach o x len distance reach is le numbers =
    let whole = subst (λ (q : Option Part). IfSome q (λ (y : Part). y.region ≡ Global → (y.si.lo +ℤ pos len) ≤ℤ greatest)) is reach in
    let end = whole numbers in
    omega (arith, ints, end, le)

-- -- Offsets beyond all cells

find_beyond : (o limit : ℤ) (cs : List Cell) → EndBy limit cs → limit ≤ℤ o → find (holds o) cs ≡ None
find_beyond o limit [] ends le = refl
find_beyond o limit (c ∷ cs) ends le =
    cond-false (holds o c) (Some c) (find (holds o) cs) (and_right-false (int_le c.start o) (int_lt o c.end) (le_int_lt o c.end (omega (arith, ints, ends.0, le)))) ∙ find_beyond o limit cs ends.1 le
  where
    and_right-false : (s t : Bool) → t ≡ false → (s && t) ≡ false
    and_right-false true t e = e
    and_right-false false t e = refl

alone_ends : (r : RegionId) (start : ℤ) (cuts : List ℤ) (end : ℤ) → EndBy end (cells_from r start cuts end ++ [])
alone_ends r start cuts end = subst (EndBy end) (sym (append-nil (cells_from r start cuts end))) (cells_end r start cuts end)

pub none_beyond : (d : Division) (r : RegionId) (o : ℤ) (len : ℕ) → (r ≡ Global → o ≤ℤ greatest) → greatest <ℤ o → None ≡ cell_at d r o len
none_beyond d Global o len h lt = let le = h refl in absurd (omega (arith, ints, le, lt))
none_beyond d (Frame k) o len h lt = sym (ap (if_range o len) (find_beyond o (pos 65536) (cells_of d (Frame k)) (alone_ends (Frame k) (negsuc 1048575) (cuts_of d.lists (Frame k)) (pos 65536)) (omega (arith, ints, lt))))
none_beyond d (OldFrame k) o len h lt = sym (ap (if_range o len) (find_beyond o (pos 65536) (cells_of d (OldFrame k)) (alone_ends (OldFrame k) (negsuc 1048575) (cuts_of d.lists (OldFrame k)) (pos 65536)) (omega (arith, ints, lt))))
none_beyond d (Heap k) o len h lt = sym (ap (if_range o len) (find_beyond o (pos 536870912) (cells_of d (Heap k)) (alone_ends (Heap k) (pos 0) (cuts_of d.lists (Heap k)) (pos 536870912)) (omega (arith, ints, lt))))
none_beyond d (OldHeap k) o len h lt = sym (ap (if_range o len) (find_beyond o (pos 536870912) (cells_of d (OldHeap k)) (alone_ends (OldHeap k) (pos 0) (cuts_of d.lists (OldHeap k)) (pos 536870912)) (omega (arith, ints, lt))))

-- -- What a range holds

pub stored_copy : (a : AbsState) (d : Division) (p len : ℕ) (target : Part) (v : Values) (o : Option Part) → lone_range a p v len ≡ o → (t : Bool) → t ≡ is_clear len target o → (distance count : ℕ)
    → value_within a d distance count (cond t o None) ≡ copied a d p v len target distance count
unfolding read_range
stored_copy a d p len target v o is true clear distance count =
    ap (value_within a d distance count) (sym is)
    ∙ sym (cond-true (is_clear len target (lone_range a p v len)) (read_range a d p v len distance count) Top (ap (is_clear len target) is ∙ sym clear))
stored_copy a d p len target v o is false clear distance count =
    sym (cond-false (is_clear len target (lone_range a p v len)) (read_range a d p v len distance count) Top (ap (is_clear len target) is ∙ sym clear))

-- the length of a cell
length_is : (n : ℕ) (c : Cell) → has_length n c ≡ true → n ≡ int_gap c.start c.end
length_is n c e = sym (gap_from c.start c.end n ((signed_Decides c.end (c.start +ℤ pos n)).0 e))

pub length_told : (c : Cell) (n : ℕ) → number_length c ≡ Some n → n ≡ int_gap c.start c.end
length_told c n e =
    ⊎_elim
    (λ one. by_one (cond-true (has_length 1 c) (Some 1) (if has_length 2 c then Some 2 else (if has_length 4 c then Some 4 else None)) one) one)
    (λ more. ⊎_elim
    (λ two. by_two (cond-false (has_length 1 c) (Some 1) (if has_length 2 c then Some 2 else (if has_length 4 c then Some 4 else None)) more ∙ cond-true (has_length 2 c) (Some 2) (if has_length 4 c then Some 4 else None) two) two)
    (λ most. ⊎_elim
    (λ four. by_four (cond-false (has_length 1 c) (Some 1) (if has_length 2 c then Some 2 else (if has_length 4 c then Some 4 else None)) more ∙ cond-false (has_length 2 c) (Some 2) (if has_length 4 c then Some 4 else None) most ∙ cond-true (has_length 4 c) (Some 4) None four) four)
    (λ none. absurd (none-some n (sym (cond-false (has_length 1 c) (Some 1) (if has_length 2 c then Some 2 else (if has_length 4 c then Some 4 else None)) more ∙ cond-false (has_length 2 c) (Some 2) (if has_length 4 c then Some 4 else None) most ∙ cond-false (has_length 4 c) (Some 4) None none) ∙ e)))
    (cases_Bool (has_length 4 c)))
    (cases_Bool (has_length 2 c)))
    (cases_Bool (has_length 1 c))
  where
    by_one : number_length c ≡ Some 1 → has_length 1 c ≡ true → n ≡ int_gap c.start c.end
    by_one is has = same_Some n 1 (sym e ∙ is) ∙ length_is 1 c has

    by_two : number_length c ≡ Some 2 → has_length 2 c ≡ true → n ≡ int_gap c.start c.end
    by_two is has = same_Some n 2 (sym e ∙ is) ∙ length_is 2 c has

    by_four : number_length c ≡ Some 4 → has_length 4 c ≡ true → n ≡ int_gap c.start c.end
    by_four is has = same_Some n 4 (sym e ∙ is) ∙ length_is 4 c has

-- a cell of another length holds every value
pub not_long : (s t u : Bool) → cond {A = Option ℕ} s (Some 1) (cond t (Some 2) (cond u (Some 4) None)) ≡ None → (s ≡ false) × (t ≡ false) × (u ≡ false)
not_long true t u e = absurd (none-some 1 (sym e))
not_long false true u e = absurd (none-some 2 (sym e))
not_long false false true e = absurd (none-some 4 (sym e))
not_long false false false e = (refl, refl, refl)

pub held_other : (c : Cell) (v : Values) → number_length c ≡ None → Top ≡ held_by c v
held_other c v e =
    let lost = not_long (has_length 1 c) (has_length 2 c) (has_length 4 c) e in
    sym (λ i. cond (lost.2 i || (lost.0 i && fits_below (pos 255) (only_number v)) || (lost.1 i && fits_below (pos 65535) (only_number v))) v Top)

-- -- Candidates

or_one : (s t : Bool) → (s || t) ≡ true → (s ≡ true) ⊎ (t ≡ true)
or_one true t e = inl refl
or_one false t e = inr e

or_second : (s t : Bool) → t ≡ true → (s || t) ≡ true
or_second true t e = refl
or_second false t e = e

contained : (c : Cell) (xs : List Cell) → is_among c (map without_value xs) ≡ true → Contains xs c
contained c [] e = absurd (true≢false (sym e))
contained c (x ∷ xs) e =
    ⊎_elim (λ same. subst (λ d. Contains (x ∷ xs) d) (same_cell-equal x c same) (contains-head x xs)) (λ later. contains-tail x xs c (contained c xs later)) (or_one (same_cell x c) (is_among c (map without_value xs)) e)

listed : (c : Cell) (xs : List Cell) → Contains xs c → is_among c (map without_value xs) ≡ true
listed c [] h = absurd (contains-none c h)
listed c (x ∷ xs) h =
    ⊎_elim (λ same. or_left (same_cell x c) (is_among c (map without_value xs)) (subst (λ d. same_cell x d ≡ true) same (same_cell-itself x)))
    (λ later. or_second (same_cell x c) (is_among c (map without_value xs)) (listed c xs later)) (contains-cases x xs c h)

listed_same : (xs ys : List Cell) (c : Cell) → Contains xs c ↔ Contains ys c → is_among c (map without_value xs) ≡ is_among c (map without_value ys)
listed_same xs ys c same =
    same_test (is_among c (map without_value xs)) (is_among c (map without_value ys)) (λ e. listed c ys (same.0 (contained c xs e))) (λ e. listed c xs (same.1 (contained c ys e)))

pub same_candidates : (f : Cell → Values) (es : List CellValue) (xs ys : List Cell) → ((c : Cell) → Contains xs c ↔ Contains ys c) → rebuilt f (es ++ map without_value xs) ≡ rebuilt f (es ++ map without_value ys)
same_candidates f es xs ys same =
    rebuilt_same f (es ++ map without_value xs) (es ++ map without_value ys) (λ c. ap (λ t. cond t (f c) Top) (among_both c es (map without_value xs) ∙ ap (λ t. is_among c es || t) (listed_same xs ys c (same c)) ∙ sym (among_both c es (map without_value ys))))

by_tests : (e x y : Bool) (v : Values) → (x ≡ true → y ≡ true) → (y ≡ true → e ≡ false → (x ≡ true) ⊎ (v ≡ Top)) → cond (e || x) v Top ≡ cond (e || y) v Top
by_tests true x y v here back = refl
by_tests false true true v here back = refl
by_tests false true false v here back = absurd (true≢false (sym (here refl)))
by_tests false false false v here back = refl
by_tests false false true v here back = ⊎_elim (λ e. absurd (true≢false (sym e))) (λ top. sym top) (back refl refl)

-- some of the candidates are enough, where the others are given every value
pub enough_candidates : (f : Cell → Values) (es : List CellValue) (xs ys : List Cell) → ((c : Cell) → Contains xs c → Contains ys c) → ((c : Cell) → Contains ys c → is_among c es ≡ false → Contains xs c ⊎ (f c ≡ Top))
    → rebuilt f (es ++ map without_value xs) ≡ rebuilt f (es ++ map without_value ys)
enough_candidates f es xs ys sound complete =
    rebuilt_same f (es ++ map without_value xs) (es ++ map without_value ys) (λ c.
    ap (λ t. cond t (f c) Top) (among_both c es (map without_value xs))
    ∙ by_tests (is_among c es) (is_among c (map without_value xs)) (is_among c (map without_value ys)) (f c) (λ e. listed c ys (sound c (contained c xs e)))
    (λ e out. ⊎_elim (λ h. inl (listed c xs h)) (λ top. inr top) (complete c (contained c ys e) out))
    ∙ ap (λ t. cond t (f c) Top) (sym (among_both c es (map without_value ys))))

-- -- Cells within a range

in_filter : {A : Type 0} (test : A → Bool) (xs : List A) (c : A) → Contains xs c → test c ≡ true → Contains (filter test xs) c
in_filter test [] c h yes' = absurd (contains-none c h)
in_filter test (x ∷ xs) c h yes' =
    cond_both (test x) (x ∷ filter test xs) (filter test xs) (λ l. Contains l c)
    (λ _. ⊎_elim (λ (same : x ≡ c). subst (λ y. Contains (x ∷ filter test xs) y) same (contains-head x (filter test xs))) (λ later. contains-tail x (filter test xs) c (in_filter test xs c later yes')) (contains-cases x xs c h))
    (λ no'. ⊎_elim (λ (same : x ≡ c). absurd (true≢false (sym yes' ∙ sym (ap test same) ∙ no'))) (λ later. in_filter test xs c later yes') (contains-cases x xs c h))

filter_head : {A : Type 0} (test : A → Bool) (x : A) (xs : List A) (c : A) → (Contains (filter test xs) c → Contains xs c × (test c ≡ true)) → (t : Bool) → test x ≡ t → Contains (cond t (x ∷ filter test xs) (filter test xs)) c → Contains (x ∷ xs) c × (test c ≡ true)
filter_head test x xs c later true is h =
    ⊎_elim (λ (same : x ≡ c). (subst (λ y. Contains (x ∷ xs) y) same (contains-head x xs), sym (ap test same) ∙ is)) (λ k. let found = later k in (contains-tail x xs c found.0, found.1)) (contains-cases x (filter test xs) c h)
filter_head test x xs c later false is h = let found = later h in (contains-tail x xs c found.0, found.1)

from_filter : {A : Type 0} (test : A → Bool) (xs : List A) (c : A) → Contains (filter test xs) c → Contains xs c × (test c ≡ true)
from_filter test [] c h = absurd (contains-none c h)
from_filter test (x ∷ xs) c h = filter_head test x xs c (from_filter test xs c) (test x) refl h

within_touched : (len : ℕ) (x : Part) (c : Cell) → IsCanonical x.si → 1 ≤ len → is_within len x c ≡ true → c.start <ℤ c.end → IsTouched x.si len c
within_touched len x c form some within bytes =
    let outer = and_parts (same_region x.region c.region && int_le x.si.lo c.start) (int_le c.end (x.si.lo +ℤ pos len)) within in
    let inner = and_parts (same_region x.region c.region) (int_le x.si.lo c.start) outer.0 in
    let low = int_le_true x.si.lo c.start inner.1 in
    let high = int_le_true c.end (x.si.lo +ℤ pos len) outer.1 in
    record {
      from = x.si.lo;
      member = member_lo x.si form;
      below_end = omega (arith, ints, low, bytes);
      past_start = omega (arith, ints, high, bytes);
    }

pub touched_within : (len : ℕ) (x : Part) (cells touched found : List Cell) → IsCanonical x.si → 1 ≤ len → AreTouched cells x.si len touched → found ≡ filter (is_within len x) touched → AreWithin len x cells found
touched_within len x cells touched found form some are is =
    record {
      sound = λ c h. let both = from_filter (is_within len x) touched c (subst (λ l. Contains l c) is h) in in_filter (is_within len x) cells c ((are.each c).0 both.0).0 both.1;
      complete = λ c h bytes. let both = from_filter (is_within len x) cells c h in
          subst (λ l. Contains l c) (sym is) (in_filter (is_within len x) touched c ((are.each c).1 (both.0, within_touched len x c form some both.1 bytes)) both.1);
    }

-- a cell without a byte holds every value
no_length : (n : ℕ) (c : Cell) → 1 ≤ n → c.end ≤ℤ c.start → has_length n c ≡ false
no_length n c some none = by_test (has_length n c) refl
  where
    by_test : (t : Bool) → has_length n c ≡ t → t ≡ false
    by_test true e = let same = (signed_Decides c.end (c.start +ℤ pos n)).0 e in absurd (omega (arith, ints, same, some, none))
    by_test false e = refl

empty_held : (c : Cell) (v : Values) → c.end ≤ℤ c.start → held_by c v ≡ Top
empty_held c v none =
    λ i. cond (no_length 4 c (omega arith) none i || (no_length 1 c (omega arith) none i && fits_below (pos 255) (only_number v)) || (no_length 2 c (omega arith) none i && fits_below (pos 65535) (only_number v))) v Top

int_tests : (a b : ℤ) → (a <ℤ b) ⊎ (b ≤ℤ a)
int_tests a b = by_test (int_lt a b) refl
  where
    by_test : (t : Bool) → int_lt a b ≡ t → (a <ℤ b) ⊎ (b ≤ℤ a)
    by_test true e = inl (int_lt_true a b e)
    by_test false e = inr (int_lt_false a b e)

both_top : (t : Bool) (v : Values) → v ≡ Top → cond t v Top ≡ Top
both_top true v e = e
both_top false v e = refl

module _ (image : Image) (a : AbsState) (d : Division) (p len : ℕ) (w : RangeValue) (x : Part) where
  abbrev given_there : Cell → Values
  given_there = changed_value image a (λ c. touches len c x) (value_if_within a d p len x w)

  empty_given : (c : Cell) → c.end ≤ℤ c.start → is_among c a.cells ≡ false → given_there c ≡ Top
  empty_given c none out =
      cond_both (touches len c x && may_change image c) (value_if_within a d p len x w c) (value_at a c) (λ v. v ≡ Top)
      (λ _. both_top (is_within len x c) (held_by c (stored a d p len x w (int_gap x.si.lo c.start) (int_gap c.start c.end))) (empty_held c (stored a d p len x w (int_gap x.si.lo c.start) (int_gap c.start c.end)) none))
      (λ _. absent_top c a.cells out)

  pub within_listed : (found : List Cell) → AreWithin len x (cells_of d x.region) found
      → rebuilt given_there (a.cells ++ map without_value found) ≡ rebuilt given_there (a.cells ++ map without_value (filter (is_within len x) (cells_of d x.region)))
  within_listed found are =
      enough_candidates given_there a.cells found (filter (is_within len x) (cells_of d x.region)) are.sound
      (λ c h out. ⊎_elim (λ bytes. inl (are.complete c h bytes)) (λ none. inr (empty_given c none out)) (int_tests c.start c.end))

-- -- A write to a range

module _ (image : Image) (a before : AbsState) (d : Division) (p len : ℕ) (w : RangeValue) (x : Part) (filled : Filling) (s : Stored) where
  -- the write that the code makes is the one that is defined
  pub there_is : (found : List Cell) → filled ≡ record { len = len; place = x; stored = s } → before ≡ a → ((distance count : ℕ) → stored_as before d s distance count ≡ stored before d p len x w distance count)
      → AreWithin len x (cells_of d x.region) found
      → overwritten image a (λ c. touches filled.len c filled.place) (λ c. if is_within filled.len filled.place c then held_in before d filled c else Top) found ≡ range_written_there image a d p len w x
  there_is found is same told are =
      let here = subst (λ b. (distance count : ℕ) → stored_as b d s distance count ≡ stored b d p len x w distance count) same told in
      (λ i. overwritten image a (λ c. touches (is i).len c (is i).place) (λ c. if is_within (is i).len (is i).place c then held_in (same i) d (is i) c else Top) found)
      ∙ (λ i. overwritten image a (λ c. touches len c x) (λ c. if is_within len x c then held_by c (here (int_gap x.si.lo c.start) (int_gap c.start c.end) i) else Top) found)
      ∙ ap (λ cells. record a { cells = cells; fact = untouched_fact (λ c. touches len c x) a.fact }) (within_listed image a d p len w x found are)

module _ (a : AbsState) (d : Division) (image : Image) (p : ℕ) (v : Values) (w : RangeValue) where
  pub write_range_is : (len : ℕ) (o : Option (List Part)) → sure_entries (resolve a p v len) ≡ o → range_written_to image a d p len w o ≡ write_range a d image p v (Some len) w
  unfolding write_range
  write_range_is len o is = ap (range_written_to image a d p len w) (sym is)

  pub write_range_none : overwritten_anywhere image a ≡ write_range a d image p v None w
  unfolding write_range
  write_range_none = refl

pub read_range_is : (a : AbsState) (d : Division) (p : ℕ) (v : Values) (len distance bytes : ℕ) (o : Option Part) → lone_range a p v len ≡ o → value_within a d distance bytes o ≡ read_range a d p v len distance bytes
unfolding read_range
read_range_is a d p v len distance bytes o is = ap (value_within a d distance bytes) (sym is)

-- -- Numbers that are stored over and over

abbrev byte_in : ℕ → ℕ → ℕ → ℕ
byte_in bytes n distance = n / 2 ^ (8 * (distance % bytes)) % 256

pub one_byte : (w n d x : ℕ) → x ≡ byte_in w n d → x ≡ little_endian (repeated w n d 1)
unfolding repeated little_endian
one_byte w n d x p = omega (arith, p)

pub two_bytes : (w n d x y : ℕ) → x ≡ byte_in w n d → y ≡ byte_in w n (d + 1) → x + 256 * y ≡ little_endian (repeated w n d 2)
unfolding repeated little_endian
two_bytes w n d x y p q = omega (arith, p, q)

pub four_bytes : (w n d x y z u : ℕ) → x ≡ byte_in w n d → y ≡ byte_in w n (d + 1) → z ≡ byte_in w n (d + 1 + 1) → u ≡ byte_in w n (d + 1 + 1 + 1) → x + 256 * (y + 256 * (z + 256 * u)) ≡ little_endian (repeated w n d 4)
unfolding repeated little_endian
four_bytes w n d x y z u p q r s = omega (arith, p, q, r, s)

pub four_left : (n : ℕ) → (n ≡ 1) ⊎ ((n ≡ 2) ⊎ (n ≡ 4)) → (n ≡ 1 → ⊥) → (n ≡ 2 → ⊥) → n ≡ 4
four_left n few not1 not2 = ⊎_elim (λ e. absurd (not1 e)) (λ rest. ⊎_elim (λ e. absurd (not2 e)) (λ e. e) rest) few
