-- A state stands on after a write.
use Rattle.std.proofs.Common.{◌≡◌, ℕ, ◌+◌, ◌-◌, ◌<◌, ◌≤◌, inl, ⊎_elim, Bool, true, false, cond, List, [], Option, Some, None, refl, sym, ◌∙◌, ap, subst, arith, ℤ, pos, ◌+ℤ◌}
use Rattle.std.specs.Prelude.{is_some}
use Rattle.std.proofs.lemmas.Int.{ints}
use Rattle.std.proofs.lemmas.Bool.{cond_both, and_parts}
use Rattle.image_map.specs.declared.image.Image.{Image}
use Rattle.image_map.specs.declared.region.Cell.{Cell}
use Rattle.image_map.specs.Regions.{same_region}
use Rattle.image_map.proofs.OrderLaws.{same_region-equal}
use Rattle.ia32_semantics.specs.Effects.{is_open}
use Rattle.ia32_semantics.specs.State.{State, Bytes, bytes_at, little_endian}
use Rattle.alocs.specs.Cells.{Division}
use Rattle.strided.specs.Interval.{IsMember, IsCanonical}
use Rattle.vset.specs.declared.part.Part.{Part}
use Rattle.vset.specs.Members.{HasValue}
use Rattle.vset.specs.Operations.{join}
use Rattle.vset.specs.Values.{Values, Top, AreCanonical, CanonicalValues}
use Rattle.vset.specs.World.{Thing, base_of}
use Rattle.vset.proofs.MemberLemmas.{join_has_left, join_has_right}
use Rattle.abs_semantics.specs.States.{AbsState, HasCanonical, value_at}
use Rattle.abs_semantics.specs.Joins.{held_by}
use Rattle.abs_semantics.specs.Resolve.{resolve}
use Rattle.abs_semantics.specs.Touching.{meeting, touches, is_range, crosses, any_touches, any_crosses, names_one, sure_place, cell_at}
use Rattle.abs_semantics.specs.Accesses.{may_change, has_no_reason, overwritten_anywhere, value_if_range, value_if_met, listed, written_there, written_somewhere, written_by, written_to, write}
use Rattle.abs_semantics.specs.StandsFor.{StandsFor, IsCellOf, world_of}
use Rattle.abs_semantics.specs.Ownership.{IsKnown, IsOwnedAt, IsOwnedAmong}
use Rattle.abs_semantics.specs.Stores.{with_memory, IsStored, HoldsNumber}
use Rattle.abs_semantics.specs.Laws.{WritesStandOn}
use Rattle.abs_semantics.proofs.CellLemmas.{value_canonical}
use Rattle.abs_semantics.proofs.JoinLemmas.{held_has}
use Rattle.abs_semantics.proofs.LevelLemmas.{IsAmong}
use Rattle.abs_semantics.proofs.EntryLemmas.{entries_form, form_of, any_among, none_among, one_owned, no_reason, sure_is}
use Rattle.abs_semantics.proofs.MeetLemmas.{Shares, Apart, at_range, IsMetBy, met_by, met_touches, met_is, open_changes}
use Rattle.abs_semantics.proofs.ThingLemmas.{one_thing}
use Rattle.abs_semantics.proofs.OwnerLemmas.{resolved_bytes}
use Rattle.abs_semantics.proofs.StoreLemmas.{overwritten_stands}

module _ (image : Image) (lane : ℕ) (a : AbsState) (p : ℕ) (s : State) (known : IsKnown image lane a p s) (at count : ℕ) (memory : Bytes) (stored : IsStored image s at count memory) where
  -- a cell that has a byte of the range may change
  pub range_changes : (t : Thing) (c : Cell) (cat clen : ℕ) → IsCellOf lane s t c cat clen → Shares at count cat clen → may_change image c ≡ true
  range_changes t c cat clen cell shares =
      let from : at ≤ shares.byte = shares.from in
      let to : shares.byte < at + count = shares.to in
      open_changes image lane s known.image_is known.whole.laid_out t c cat clen shares.byte cell shares.cell_from shares.cell_to
      (subst (λ y. is_open image s.memory y ≡ true) (let e : at + (shares.byte - at) ≡ shares.byte = omega arith in e) (stored.are_open (shares.byte - at) (omega arith)))

  -- a write that may be anywhere
  pub anywhere_stands : StandsFor lane (overwritten_anywhere image a) (with_memory s memory)
  anywhere_stands =
      overwritten_stands lane a s known.stands image at count memory stored.others (may_change image) (λ c. Top) []
      (λ t c cat clen cell shares. (range_changes t c cat clen cell shares, range_changes t c cat clen cell shares))
      (λ t c cat clen bytes cell read touched shares. tt) (λ t c cat clen bytes cell read touched apart before. tt)

  -- a cell that has a byte of the range is met by one of its places
  module _ (len : ℕ) (within : count ≤ len) (xs : List Part) (forms : AreCanonical xs) (owned : IsOwnedAmong lane s at count xs) (t : Thing) (c : Cell) (cat clen : ℕ) (cell : IsCellOf lane s t c cat clen) (shares : Shares at count cat clen) where
    pub met_among : (x : Part) × IsAmong x xs × IsMetBy image lane s known.image_is known.whole.laid_out at count len t c cat x
    met_among =
        let one = one_owned lane s at count xs owned in
        (one.0, one.1, met_by image lane s known.image_is known.whole.laid_out at count len t c cat clen one.0 (form_of one.0 xs forms one.1) within one.2 cell shares)

    pub touched_among : any_touches len xs c ≡ true
    touched_among =
        let m = met_among in
        any_among (touches len c) m.0 xs m.1 (met_touches image lane s known.image_is known.whole.laid_out at count len t c cat m.0 m.2)

  -- the range and a cell of the region, where it names one thing
  pub in_one : (x : Part) → names_one x.region ≡ true → IsOwnedAt lane s at count x → (t : Thing) (c : Cell) (cat clen : ℕ) → IsCellOf lane s t c cat clen → c.region ≡ x.region
      → (offset : ℤ) × IsMember offset x.si × (pos at ≡ pos (base_of t) +ℤ offset)
  in_one x one owned t c cat clen cell region =
      let same = one_thing lane s x.region owned.thing t one owned.is_in cell.is_in owned.region (cell.region ∙ region) in
      (owned.offset, owned.within, owned.reached ∙ ap (λ u. pos (base_of u) +ℤ owned.offset) same)

module _ (image : Image) (lane : ℕ) (a : AbsState) (p : ℕ) (s : State) (d : Division) (at len : ℕ) (w : Values) (memory : Bytes) (known : IsKnown image lane a p s) (form : HasCanonical a) (form_w : CanonicalValues w) (some : 1 ≤ len)
    (stored : IsStored image s at len memory) (holds : HoldsNumber lane s at len memory w) where
  -- the value that is written, in a cell that is the range
  is_written : (t : Thing) (c : Cell) (cat clen : ℕ) (bytes : List ℕ) → IsCellOf lane s t c cat clen → bytes_at memory cat clen ≡ Some bytes → (o : ℤ) → pos at ≡ pos (base_of t) +ℤ o → o ≡ c.start → c.end ≡ c.start +ℤ pos len
      → HasValue lane (world_of s) (little_endian bytes) w
  is_written t c cat clen bytes cell read o reached start end =
      let first : pos cat ≡ pos (base_of t) +ℤ c.start = cell.lies.start in
      let last : c.end ≡ c.start +ℤ pos clen = cell.lies.end in
      let at_is : cat ≡ at = omega (arith, ints) in
      let len_is : clen ≡ len = omega (arith, ints) in
      holds bytes (subst (λ n. bytes_at memory n len ≡ Some bytes) at_is (subst (λ n. bytes_at memory cat n ≡ Some bytes) len_is read))

  -- one place of one thing
  module _ (x : Part) (form_x : IsCanonical x.si) (one : names_one x.region ≡ true) (owned : IsOwnedAt lane s at len x) where
    there_stands : StandsFor lane (written_there image a d len w x) (with_memory s memory)
    there_stands =
        overwritten_stands lane a s known.stands image at len memory stored.others (λ c. touches len c x) (value_if_range len x w) (listed (cell_at d x.region x.si.lo len))
        (λ t c cat clen cell shares. (met_touches image lane s known.image_is known.whole.laid_out at len len t c cat x (by t c cat clen cell shares), range_changes image lane a p s known at len memory stored t c cat clen cell shares))
        new old
      where
        by : (t : Thing) (c : Cell) (cat clen : ℕ) → IsCellOf lane s t c cat clen → Shares at len cat clen → IsMetBy image lane s known.image_is known.whole.laid_out at len len t c cat x
        by t c cat clen cell shares = met_by image lane s known.image_is known.whole.laid_out at len len t c cat clen x form_x (omega arith) owned cell shares

        new : (t : Thing) (c : Cell) (cat clen : ℕ) (bytes : List ℕ) → IsCellOf lane s t c cat clen → bytes_at memory cat clen ≡ Some bytes → touches len c x ≡ true → Shares at len cat clen → HasValue lane (world_of s) (little_endian bytes) (value_if_range len x w c)
        new t c cat clen bytes cell read touched shares =
            cond_both (is_range len c x.si) (held_by c w) Top (HasValue lane (world_of s) (little_endian bytes))
            (λ is.
            let m = by t c cat clen cell shares in
            let r = at_range m.offset len c x.si is m.member in
            held_has lane s (little_endian bytes) c w (is_written t c cat clen bytes cell read m.offset m.reached r.0 r.1))
            (λ _. tt)

        -- a cell of the region that is the range has its bytes
        not_apart : (t : Thing) (c : Cell) (cat clen : ℕ) → IsCellOf lane s t c cat clen → c.region ≡ x.region → Apart at len cat clen → is_range len c x.si ≡ true → ⊥
        not_apart t c cat clen cell region apart is =
            let m = in_one image lane a p s known at len memory stored x one owned t c cat clen cell region in
            let r = at_range m.0 len c x.si is m.1 in
            let start : m.0 ≡ c.start = r.0 in
            let end : c.end ≡ c.start +ℤ pos len = r.1 in
            let reached : pos at ≡ pos (base_of t) +ℤ m.0 = m.2 in
            let first : pos cat ≡ pos (base_of t) +ℤ c.start = cell.lies.start in
            let last : c.end ≡ c.start +ℤ pos clen = cell.lies.end in
            let at_is : cat ≡ at = omega (arith, ints) in
            let len_is : clen ≡ len = omega (arith, ints) in
            ⊎_elim (λ low. omega arith) (λ high. omega arith) (apart cat (omega arith) (omega arith))

        old : (t : Thing) (c : Cell) (cat clen : ℕ) (bytes : List ℕ) → IsCellOf lane s t c cat clen → bytes_at memory cat clen ≡ Some bytes → touches len c x ≡ true → Apart at len cat clen
            → HasValue lane (world_of s) (little_endian bytes) (value_at a c) → HasValue lane (world_of s) (little_endian bytes) (value_if_range len x w c)
        old t c cat clen bytes cell read touched apart before =
            cond_both (is_range len c x.si) (held_by c w) Top (HasValue lane (world_of s) (little_endian bytes)) (λ is. absurd (not_apart t c cat clen cell (region touched) apart is)) (λ _. tt)
          where
            region : touches len c x ≡ true → c.region ≡ x.region
            region touched = sym (same_region-equal x.region c.region (and_parts (same_region x.region c.region) (is_some (meeting x.si len c)) touched).0)

  -- any of some places
  module _ (xs : List Part) (forms : AreCanonical xs) (owned : IsOwnedAmong lane s at len xs) where
    somewhere_stands : StandsFor lane (written_somewhere image a len w xs) (with_memory s memory)
    somewhere_stands =
        overwritten_stands lane a s known.stands image at len memory stored.others (any_touches len xs) (value_if_met a len w xs) []
        (λ t c cat clen cell shares. (
          touched_among image lane a p s known at len memory stored len (omega arith) xs forms owned t c cat clen cell shares,
          range_changes image lane a p s known at len memory stored t c cat clen cell shares,
        ))
        new old
      where
        canonical : (c : Cell) → CanonicalValues (value_at a c)
        canonical c = value_canonical c a.cells form.cells

        new : (t : Thing) (c : Cell) (cat clen : ℕ) (bytes : List ℕ) → IsCellOf lane s t c cat clen → bytes_at memory cat clen ≡ Some bytes → any_touches len xs c ≡ true → Shares at len cat clen
            → HasValue lane (world_of s) (little_endian bytes) (value_if_met a len w xs c)
        new t c cat clen bytes cell read touched shares =
            cond_both (any_crosses len xs c) Top (held_by c (join (value_at a c) w)) (HasValue lane (world_of s) (little_endian bytes)) (λ _. tt)
            (λ none.
            let m = met_among image lane a p s known at len memory stored len (omega arith) xs forms owned t c cat clen cell shares in
            let by = m.2 in
            let is = met_is image lane s known.image_is known.whole.laid_out at len len t c cat m.0 by (none_among (crosses len c) m.0 xs m.1 none) in
            held_has lane s (little_endian bytes) c (join (value_at a c) w)
            (join_has_right lane (world_of s) (little_endian bytes) (value_at a c) w (canonical c) form_w (is_written t c cat clen bytes cell read by.offset by.reached is.0 is.1)))

        old : (t : Thing) (c : Cell) (cat clen : ℕ) (bytes : List ℕ) → IsCellOf lane s t c cat clen → bytes_at memory cat clen ≡ Some bytes → any_touches len xs c ≡ true → Apart at len cat clen
            → HasValue lane (world_of s) (little_endian bytes) (value_at a c) → HasValue lane (world_of s) (little_endian bytes) (value_if_met a len w xs c)
        old t c cat clen bytes cell read touched apart before =
            cond_both (any_crosses len xs c) Top (held_by c (join (value_at a c) w)) (HasValue lane (world_of s) (little_endian bytes)) (λ _. tt)
            (λ none. held_has lane s (little_endian bytes) c (join (value_at a c) w) (join_has_left lane (world_of s) (little_endian bytes) (value_at a c) w (canonical c) form_w before))

    by_place : StandsFor lane (written_by image a d len w xs (sure_place xs)) (with_memory s memory)
    by_place = by_sure (sure_place xs) refl
      where
        by_sure : (o : Option Part) → sure_place xs ≡ o → StandsFor lane (written_by image a d len w xs o) (with_memory s memory)
        by_sure None is = somewhere_stands
        by_sure (Some x) is =
            let sure = sure_is xs x is in
            there_stands x (form_of x xs forms (subst (IsAmong x) (sym sure.0) (inl refl))) sure.2
            (⊎_elim (λ here. here) (λ none. absurd none) (subst (IsOwnedAmong lane s at len) sure.0 owned))

pub written_stands : WritesStandOn
unfolding write
written_stands image lane a p s d v at len w memory known form form_v form_w range stored holds =
    by_reasons (has_no_reason (resolve a p v len).reasons) refl
  where
    by_reasons : (t : Bool) → has_no_reason (resolve a p v len).reasons ≡ t → StandsFor lane (written_to image a d len w (cond t (Some (resolve a p v len).entries) None)) (with_memory s memory)
    by_reasons true quiet =
        by_place image lane a p s d at len w memory known form form_w range.some stored holds (resolve a p v len).entries (entries_form a p len form.links v form_v)
        (resolved_bytes image lane a p s v at len len known range (no_reason (resolve a p v len).reasons quiet))
    by_reasons false warned = anywhere_stands image lane a p s known at len memory stored
