-- A state stands on after a write to a range.
use Rattle.std.proofs.Common.{◌≡◌, ℕ, zero, suc, ◌+◌, ◌*◌, ◌-◌, ◌/◌, ◌%◌, ◌^◌, ◌<◌, ◌≤◌, ◌⊎◌, inl, inr, ⊎_elim, Bool, true, false, cond, ◌&&◌, ◌||◌, not, List, [], ◌∷◌, Option, Some, None, refl, sym, ◌∙◌, ap, subst, arith, ℤ, pos, ◌+ℤ◌}
use Rattle.std.specs.Prelude.{◌≤ℤ◌, ◌<ℤ◌, int_le, int_lt, filter}
use Rattle.std.specs.Int.{int_gap}
use Rattle.std.proofs.lemmas.Int.{ints}
use Rattle.std.proofs.lemmas.Bool.{cond_both, and_parts, and_from, or_cases, true≢false}
use Rattle.std.specs.Cmp.{signed_Decides}
use Rattle.image_map.specs.declared.image.Image.{Image}
use Rattle.image_map.specs.declared.region.Cell.{Cell}
use Rattle.image_map.specs.Regions.{same_region}
use Rattle.image_map.proofs.OrderLaws.{same_region-equal, same_region-itself}
use Rattle.ia32_types.specs.Numbers.{size}
use Rattle.ia32_semantics.specs.State.{State, Bytes, bytes_at, little_endian}
use Rattle.alocs.specs.Cells.{Division, cells_of}
use Rattle.alocs.proofs.CellLemmas.{lt_int_lt}
use Rattle.strided.specs.Interval.{IsMember}
use Rattle.strided.proofs.MemberLemmas.{int_le_true}
use Rattle.strided.proofs.SpacedLemmas.{gap_is, gap_from}
use Rattle.vset.specs.declared.part.Part.{Part}
use Rattle.vset.specs.Members.{HasValue}
use Rattle.vset.specs.Values.{Values, Top, AreCanonical, only_number}
use Rattle.vset.specs.World.{Thing, base_of, region_of}
use Rattle.abs_alu.proofs.WordLemmas.{number_has}
use Rattle.abs_semantics.specs.declared.parts.RangeValue.{RangeValue}
use Rattle.abs_semantics.specs.declared.parts.RangeValue.TheVariants as range
use Rattle.abs_semantics.specs.States.{AbsState}
use Rattle.abs_semantics.specs.Joins.{has_length, fits_below, may_hold, held_by}
use Rattle.abs_semantics.specs.Resolve.{resolve}
use Rattle.abs_semantics.specs.Touching.{touches, any_touches, names_one, sure_place, is_within, overlap}
use Rattle.abs_semantics.specs.Accesses.{has_no_reason, may_change, overwritten}
use Rattle.abs_semantics.specs.Ranges.{lone_range, read_range, repeated, repeated_value, is_clear, copied, stored, value_if_within, range_written_there, range_written_by, range_written_to, write_range}
use Rattle.abs_semantics.specs.StandsFor.{StandsFor, Owns, IsCellOf, world_of}
use Rattle.abs_semantics.specs.Ownership.{IsKnown, IsRange, IsOwnedAt, IsOwnedAmong}
use Rattle.abs_semantics.specs.Stores.{with_memory, IsStored, IsCopied, HoldsRange}
use Rattle.abs_semantics.specs.Laws.{RangeWritesStandOn, UnknownWritesStandOn}
use Rattle.abs_semantics.proofs.JoinLemmas.{held_has}
use Rattle.abs_semantics.proofs.EntryLemmas.{entries_form, no_reason, sure_is}
use Rattle.abs_semantics.proofs.MeetLemmas.{Shares, Apart, shares_or_apart}
use Rattle.abs_semantics.proofs.ThingLemmas.{one_owner}
use Rattle.abs_semantics.proofs.OwnerLemmas.{resolved_bytes}
use Rattle.abs_semantics.proofs.StoreLemmas.{same_bytes, overwritten_stands}
use Rattle.abs_semantics.proofs.WriteLemmas.{range_changes, anywhere_stands, touched_among, in_one}
use Rattle.abs_semantics.proofs.ReadLemmas.{lone_owned, read_range_has}

-- -- A number that is stored over and over

-- numbers of so many bytes
unfoldable pub numbers_of : ℕ → ℕ
numbers_of zero = 1
numbers_of (suc k) = 256 * numbers_of k

pub numbers_4 : numbers_of 4 ≡ 4294967296
unfolding numbers_of
numbers_4 = refl

pub numbers_2 : numbers_of 2 ≡ 65536
unfolding numbers_of
numbers_2 = refl

pub numbers_1 : numbers_of 1 ≡ 256
unfolding numbers_of
numbers_1 = refl

below_numbers : (b n distance count : ℕ) → little_endian (repeated b n distance count) < numbers_of count
unfolding little_endian repeated numbers_of
below_numbers b n distance zero = omega arith
below_numbers b n distance (suc count) =
    let rest = below_numbers b n (distance + 1) count in
    let first : n / 2 ^ (8 * (distance % b)) % 256 < 256 = omega arith in
    omega arith

-- so many bytes of it are a word
pub few_bytes : (b n distance count : ℕ) → (count ≡ 4) ⊎ ((count ≡ 1) ⊎ (count ≡ 2)) → little_endian (repeated b n distance count) < 4294967296
unfolding numbers_of
few_bytes b n distance count (inl is) = let below = below_numbers b n distance count in let e : numbers_of count ≡ 4294967296 = ap numbers_of is in omega arith
few_bytes b n distance count (inr (inl is)) = let below = below_numbers b n distance count in let e : numbers_of count ≡ 256 = ap numbers_of is in omega arith
few_bytes b n distance count (inr (inr is)) = let below = below_numbers b n distance count in let e : numbers_of count ≡ 65536 = ap numbers_of is in omega arith

-- a cell that may hold a value is of one of three lengths
pub held_end : (c : Cell) (v : Values) → may_hold c v ≡ true → (n : ℕ) × ((n ≡ 4) ⊎ ((n ≡ 1) ⊎ (n ≡ 2))) × (c.end ≡ c.start +ℤ pos n)
held_end c v e =
    ⊎_elim
    (λ some. ⊎_elim (λ four. (4, inl refl, len 4 four)) (λ one. (1, inr (inl refl), len 1 (and_parts (has_length 1 c) (fits_below (pos 255) (only_number v)) one).0)) (or_cases (has_length 4 c) (has_length 1 c && fits_below (pos 255) (only_number v)) some))
    (λ two. (2, inr (inr refl), len 2 (and_parts (has_length 2 c) (fits_below (pos 65535) (only_number v)) two).0))
    (or_cases (has_length 4 c || (has_length 1 c && fits_below (pos 255) (only_number v))) (has_length 2 c && fits_below (pos 65535) (only_number v)) e)
  where
    len : (n : ℕ) → has_length n c ≡ true → c.end ≡ c.start +ℤ pos n
    len n is = (signed_Decides c.end (c.start +ℤ pos n)).0 is

pub held_length : (c : Cell) (v : Values) (clen : ℕ) → c.end ≡ c.start +ℤ pos clen → may_hold c v ≡ true → (clen ≡ 4) ⊎ ((clen ≡ 1) ⊎ (clen ≡ 2))
held_length c v clen end e =
    let h = held_end c v e in
    let last : c.end ≡ c.start +ℤ pos h.0 = h.2 in
    let same : h.0 ≡ clen = omega (arith, ints) in
    subst (λ n. (n ≡ 4) ⊎ ((n ≡ 1) ⊎ (n ≡ 2))) same h.1

-- -- One place of one thing

module _ (image : Image) (lane : ℕ) (a : AbsState) (p : ℕ) (s : State) (d : Division) (at len : ℕ) (memory : Bytes) (known : IsKnown image lane a p s) (some : 1 ≤ len) (kept : IsStored image s at len memory) where
  -- a cell within the range, whose place is one
  record Within (x : Part) (c : Cell) (cat clen : ℕ) : Type 0 where
    distance : ℕ
    distance_is : int_gap x.si.lo c.start ≡ distance
    length_is : int_gap c.start c.end ≡ clen
    starts : cat ≡ at + distance
    inside : distance + clen ≤ len

  module _ (x : Part) (single : x.si.stride ≡ 0) (one : names_one x.region ≡ true) (owned : IsOwnedAt lane s at len x) where
    -- the range starts at the part's offset
    at_offset : (o : ℤ) → IsMember o x.si → o ≡ x.si.lo
    at_offset o m =
        let reached : o ≡ x.si.lo +ℤ pos (m.turns * x.si.stride) = m.reached in
        let none : m.turns * x.si.stride ≡ 0 = ap (λ n. m.turns * n) single ∙ (let e : m.turns * 0 ≡ 0 = omega arith in e) in
        omega (arith, ints)

    within : (t : Thing) (c : Cell) (cat clen : ℕ) → IsCellOf lane s t c cat clen → is_within len x c ≡ true → Within x c cat clen
    within t c cat clen cell is =
        let outer = and_parts (same_region x.region c.region && int_le x.si.lo c.start) (int_le c.end (x.si.lo +ℤ pos len)) is in
        let inner = and_parts (same_region x.region c.region) (int_le x.si.lo c.start) outer.0 in
        let low : x.si.lo ≤ℤ c.start = int_le_true x.si.lo c.start inner.1 in
        let high : c.end ≤ℤ (x.si.lo +ℤ pos len) = int_le_true c.end (x.si.lo +ℤ pos len) outer.1 in
        let m = in_one image lane a p s known at len memory kept x one owned t c cat clen cell (sym (same_region-equal x.region c.region inner.0)) in
        let o_is : m.0 ≡ x.si.lo = at_offset m.0 m.1 in
        let reached : pos at ≡ pos (base_of t) +ℤ m.0 = m.2 in
        let first : pos cat ≡ pos (base_of t) +ℤ c.start = cell.lies.start in
        let last : c.end ≡ c.start +ℤ pos clen = cell.lies.end in
        let gap : c.start ≡ x.si.lo +ℤ pos (int_gap x.si.lo c.start) = gap_is x.si.lo c.start low in
        record { distance = int_gap x.si.lo c.start; distance_is = refl; length_is = gap_from c.start c.end clen last; starts = omega (arith, ints); inside = omega (arith, ints) }

    -- -- What is copied

    module _ (v : Values) (copy : IsCopied lane s at len memory v) where
      source_range : IsRange lane s v copy.from len len
      source_range = record { word = copy.word; member = copy.member; some = some; within = omega arith; mapped = copy.mapped }

      -- ranges that the parts keep apart
      are_apart : (y : Part) → lone_range a p v len ≡ Some y → overlap len y x ≡ false → (copy.from + len ≤ at) ⊎ (at + len ≤ copy.from)
      are_apart y lone none = by_bytes (shares_or_apart at len copy.from len)
        where
          source : (owned : IsOwnedAt lane s copy.from len y) × (owned.offset ≡ y.si.lo)
          source = lone_owned image lane a p s known copy.from len d v source_range y lone

          no_share : Shares at len copy.from len → ⊥
          no_share shares =
              let from : at ≤ shares.byte = shares.from in
              let to : shares.byte < at + len = shares.to in
              let cell_from : copy.from ≤ shares.byte = shares.cell_from in
              let cell_to : shares.byte < copy.from + len = shares.cell_to in
              let same : source.0.thing ≡ owned.thing =
              one_owner image s known.image_is known.whole.laid_out shares.byte source.0.thing owned.thing source.0.is_in owned.is_in
              (subst (Owns s source.0.thing) (let e : copy.from + (shares.byte - copy.from) ≡ shares.byte = omega arith in e) (source.0.owned (shares.byte - copy.from) (omega arith)))
              (subst (Owns s owned.thing) (let e : at + (shares.byte - at) ≡ shares.byte = omega arith in e) (owned.owned (shares.byte - at) (omega arith))) in
              let base : base_of source.0.thing ≡ base_of owned.thing = ap base_of same in
              let region : y.region ≡ x.region = sym source.0.region ∙ ap (region_of lane) same ∙ owned.region in
              let reached : pos at ≡ pos (base_of owned.thing) +ℤ owned.offset = owned.reached in
              let reached_from : pos copy.from ≡ pos (base_of source.0.thing) +ℤ source.0.offset = source.0.reached in
              let offset : owned.offset ≡ x.si.lo = at_offset owned.offset owned.within in
              let offset_from : source.0.offset ≡ y.si.lo = source.1 in
              let below : y.si.lo <ℤ (x.si.lo +ℤ pos len) = omega (arith, ints) in
              let above : x.si.lo <ℤ (y.si.lo +ℤ pos len) = omega (arith, ints) in
              true≢false (sym (and_from (same_region y.region x.region && int_lt y.si.lo (x.si.lo +ℤ pos len)) (int_lt x.si.lo (y.si.lo +ℤ pos len))
              (and_from (same_region y.region x.region) (int_lt y.si.lo (x.si.lo +ℤ pos len)) (subst (λ r. same_region y.region r ≡ true) region (same_region-itself y.region)) (lt_int_lt y.si.lo (x.si.lo +ℤ pos len) below))
              (lt_int_lt x.si.lo (y.si.lo +ℤ pos len) above)) ∙ none)

          by_bytes : Shares at len copy.from len ⊎ Apart at len copy.from len → (copy.from + len ≤ at) ⊎ (at + len ≤ copy.from)
          by_bytes (inl shares) = absurd (no_share shares)
          by_bytes (inr apart) =
              ⊎_elim
              (λ low. ⊎_elim (λ last. inl (omega arith)) (λ over. ⊎_elim (λ bad. absurd (omega arith)) (λ bad. absurd (omega arith)) (apart at (omega arith) (omega arith))) (apart (copy.from + (len - 1)) (omega arith) (omega arith)))
              (λ high. inr high)
              (apart copy.from (omega arith) (omega arith))

      copied_has : (distance count : ℕ) (bytes : List ℕ) → distance + count ≤ len → bytes_at memory (at + distance) count ≡ Some bytes → HasValue lane (world_of s) (little_endian bytes) (copied a d p v len x distance count)
      copied_has distance count bytes inside read = by_clear (lone_range a p v len) refl
        where
          of_source : (y : Part) → lone_range a p v len ≡ Some y → overlap len y x ≡ false → HasValue lane (world_of s) (little_endian bytes) (read_range a d p v len distance count)
          of_source y lone none =
              let same : bytes_at memory (at + distance) count ≡ bytes_at s.memory (copy.from + distance) count =
              same_bytes memory s.memory (at + distance) (copy.from + distance) count
              (λ k lt. subst (λ z. memory z ≡ s.memory (copy.from + distance + k)) (let e : at + (distance + k) ≡ at + distance + k = omega arith in e)
              (subst (λ z. memory (at + (distance + k)) ≡ s.memory z) (let e : copy.from + (distance + k) ≡ copy.from + distance + k = omega arith in e)
              (copy.copied (are_apart y lone none) (distance + k) (omega arith)))) in
              read_range_has image lane a p s known copy.from len d v source_range distance count bytes inside (sym same ∙ read)

          by_test : (y : Part) → lone_range a p v len ≡ Some y → (t : Bool) → overlap len y x ≡ t → HasValue lane (world_of s) (little_endian bytes) (cond (not t) (read_range a d p v len distance count) Top)
          by_test y lone true is = tt
          by_test y lone false is = of_source y lone is

          by_clear : (o : Option Part) → lone_range a p v len ≡ o → HasValue lane (world_of s) (little_endian bytes) (cond (is_clear len x o) (read_range a d p v len distance count) Top)
          by_clear None lone = tt
          by_clear (Some y) lone = by_test y lone (overlap len y x) refl

    -- -- What a cell within holds

    stored_has : (w : RangeValue) → HoldsRange lane s at len len memory w → (c : Cell) (distance count : ℕ) (bytes : List ℕ) → c.end ≡ c.start +ℤ pos count → distance + count ≤ len → bytes_at memory (at + distance) count ≡ Some bytes
        → HasValue lane (world_of s) (little_endian bytes) (held_by c (stored a d p len x w distance count))
    stored_has range.Any holds c distance count bytes end inside read = held_has lane s (little_endian bytes) c Top tt
    stored_has (range.Number n width) holds c distance count bytes end inside read =
        cond_both (may_hold c (repeated_value (size width) n distance count)) (repeated_value (size width) n distance count) Top (HasValue lane (world_of s) (little_endian bytes))
        (λ may.
        let is : repeated (size width) n distance count ≡ bytes = (let both : Some (repeated (size width) n distance count) ≡ Some bytes = sym (holds.1 distance count inside) ∙ read in cc) in
        subst (λ b. HasValue lane (world_of s) (little_endian b) (repeated_value (size width) n distance count)) is
        (number_has lane (world_of s) (little_endian (repeated (size width) n distance count)) (few_bytes (size width) n distance count (held_length c (repeated_value (size width) n distance count) count end may))))
        (λ _. tt)
    stored_has (range.Copy v) holds c distance count bytes end inside read = held_has lane s (little_endian bytes) c (copied a d p v len x distance count) (copied_has v holds.1 distance count bytes inside read)

    within_has : (w : RangeValue) → HoldsRange lane s at len len memory w → (t : Thing) (c : Cell) (cat clen : ℕ) (bytes : List ℕ) → IsCellOf lane s t c cat clen → bytes_at memory cat clen ≡ Some bytes
        → HasValue lane (world_of s) (little_endian bytes) (value_if_within a d p len x w c)
    within_has w holds t c cat clen bytes cell read =
        cond_both (is_within len x c) (held_by c (stored a d p len x w (int_gap x.si.lo c.start) (int_gap c.start c.end))) Top (HasValue lane (world_of s) (little_endian bytes))
        (λ is.
        let i = within t c cat clen cell is in
        subst (λ n. HasValue lane (world_of s) (little_endian bytes) (held_by c (stored a d p len x w n (int_gap c.start c.end)))) (sym i.distance_is)
        (subst (λ n. HasValue lane (world_of s) (little_endian bytes) (held_by c (stored a d p len x w i.distance n))) (sym i.length_is)
        (stored_has w holds c i.distance clen bytes cell.lies.end i.inside (subst (λ n. bytes_at memory n clen ≡ Some bytes) i.starts read))))
        (λ _. tt)

-- -- Writes

-- what may be any
any_value : (lane : ℕ) (a : AbsState) (p : ℕ) (s : State) (d : Division) (len : ℕ) (x : Part) (c : Cell) (n : ℕ) → HasValue lane (world_of s) n (value_if_within a d p len x range.Any c)
any_value lane a p s d len x c n = cond_both (is_within len x c) (held_by c Top) Top (HasValue lane (world_of s) n) (λ _. held_has lane s n c Top tt) (λ _. tt)

module _ (image : Image) (lane : ℕ) (a : AbsState) (p : ℕ) (s : State) (d : Division) (at count len : ℕ) (memory : Bytes) (known : IsKnown image lane a p s) (some : 1 ≤ len) (within : count ≤ len) (kept : IsStored image s at count memory) where
  -- one of some places, where nothing is known of the bytes
  module _ (xs : List Part) (forms : AreCanonical xs) (owned : 1 ≤ count → IsOwnedAmong lane s at count xs) where
    shares_some : (cat clen : ℕ) → Shares at count cat clen → 1 ≤ count
    shares_some cat clen shares = let from : at ≤ shares.byte = shares.from in let to : shares.byte < at + count = shares.to in omega arith

    meets_any : (t : Thing) (c : Cell) (cat clen : ℕ) → IsCellOf lane s t c cat clen → Shares at count cat clen → (any_touches len xs c ≡ true) × (may_change image c ≡ true)
    meets_any t c cat clen cell shares = (
      touched_among image lane a p s known at count memory kept len within xs forms (owned (shares_some cat clen shares)) t c cat clen cell shares,
      range_changes image lane a p s known at count memory kept t c cat clen cell shares,
    )

    any_stands : StandsFor lane (overwritten image a (any_touches len xs) (λ c. Top) []) (with_memory s memory)
    any_stands = overwritten_stands lane a s known.stands image at count memory kept.others (any_touches len xs) (λ c. Top) [] meets_any (λ t c cat clen bytes cell read touched shares. tt) (λ t c cat clen bytes cell read touched apart before. tt)

    there_stands : (w : RangeValue) (x : Part) → xs ≡ x ∷ [] → (values : (t : Thing) (c : Cell) (cat clen : ℕ) (bytes : List ℕ) → IsCellOf lane s t c cat clen → bytes_at memory cat clen ≡ Some bytes → HasValue lane (world_of s) (little_endian bytes) (value_if_within a d p len x w c))
        → StandsFor lane (range_written_there image a d p len w x) (with_memory s memory)
    there_stands w x is values =
        overwritten_stands lane a s known.stands image at count memory kept.others (λ c. touches len c x) (value_if_within a d p len x w) (filter (is_within len x) (cells_of d x.region))
        (λ t c cat clen cell shares. let both = meets_any t c cat clen cell shares in (alone (touches len c x) (subst (λ l. any_touches len l c ≡ true) is both.0), both.1))
        (λ t c cat clen bytes cell read touched shares. values t c cat clen bytes cell read)
        (λ t c cat clen bytes cell read touched apart before. values t c cat clen bytes cell read)
      where
        alone : (t : Bool) → (t || false) ≡ true → t ≡ true
        alone true e = refl
        alone false e = e

    all_owned : count ≡ len → (x : Part) → xs ≡ x ∷ [] → IsOwnedAt lane s at len x
    all_owned whole x is =
        subst (λ n. IsOwnedAt lane s at n x) whole (⊎_elim (λ here. here) (λ none. absurd none) (subst (IsOwnedAmong lane s at count) is (owned (omega arith))))

    sure_values : (w : RangeValue) → HoldsRange lane s at count len memory w → (x : Part) → xs ≡ x ∷ [] → x.si.stride ≡ 0 → names_one x.region ≡ true → (t : Thing) (c : Cell) (cat clen : ℕ) (bytes : List ℕ) → IsCellOf lane s t c cat clen → bytes_at memory cat clen ≡ Some bytes
        → HasValue lane (world_of s) (little_endian bytes) (value_if_within a d p len x w c)
    sure_values range.Any holds x is single one t c cat clen bytes cell read = any_value lane a p s d len x c (little_endian bytes)
    sure_values (range.Number n width) holds x is single one t c cat clen bytes cell read =
        within_has image lane a p s d at len memory known some (subst (λ n. IsStored image s at n memory) holds.0 kept) x single one
        (all_owned holds.0 x is) (range.Number n width) (refl, holds.1) t c cat clen bytes cell read
    sure_values (range.Copy v) holds x is single one t c cat clen bytes cell read =
        within_has image lane a p s d at len memory known some (subst (λ n. IsStored image s at n memory) holds.0 kept) x single one
        (all_owned holds.0 x is) (range.Copy v) (refl, holds.1) t c cat clen bytes cell read

    by_place : (w : RangeValue) → HoldsRange lane s at count len memory w → StandsFor lane (range_written_by image a d p len w xs (sure_place xs)) (with_memory s memory)
    by_place w holds = by_sure (sure_place xs) refl
      where
        by_sure : (o : Option Part) → sure_place xs ≡ o → StandsFor lane (range_written_by image a d p len w xs o) (with_memory s memory)
        by_sure None is = any_stands
        by_sure (Some x) is = let sure = sure_is xs x is in there_stands w x sure.0 (λ t c cat clen bytes cell read. sure_values w holds x sure.0 sure.1 sure.2 t c cat clen bytes cell read)

pub range_written_stands : RangeWritesStandOn
unfolding write_range
range_written_stands image lane a p s d v at count len w memory known form form_v range some within kept holds =
    by_reasons (has_no_reason (resolve a p v len).reasons) refl
  where
    by_reasons : (t : Bool) → has_no_reason (resolve a p v len).reasons ≡ t → StandsFor lane (range_written_to image a d p len w (cond t (Some (resolve a p v len).entries) None)) (with_memory s memory)
    by_reasons true quiet =
        by_place image lane a p s d at count len memory known some within kept (resolve a p v len).entries (entries_form a p len form.links v form_v)
        (λ some_bytes. resolved_bytes image lane a p s v at count len known (range some_bytes) (no_reason (resolve a p v len).reasons quiet)) w holds
    by_reasons false warned = anywhere_stands image lane a p s known at count memory kept

pub unknown_written_stands : UnknownWritesStandOn
unfolding write_range
unknown_written_stands image lane a p s d v at count w memory known kept = anywhere_stands image lane a p s known at count memory kept
