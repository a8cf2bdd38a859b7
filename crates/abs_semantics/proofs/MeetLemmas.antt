-- A cell that shares a byte with a range is among those that the range touches.
use Rattle.std.proofs.Common.{◌≡◌, ℕ, ◌+◌, ◌-◌, ◌^◌, ◌<◌, ◌≤◌, ◌⊎◌, inl, inr, ⊎_elim, Bool, true, false, cond, ◌&&◌, ◌||◌, not, List, [], ◌∷◌, Option, Some, None, refl, sym, ◌∙◌, ap, subst, arith, ℤ, pos, ◌+ℤ◌, length}
use Rattle.std.specs.Prelude.{◌≤ℤ◌, ◌<ℤ◌, ◌-ℤ◌, is_some, int_lt, nat_le, nat_lt}
use Rattle.std.specs.Int.{int_max}
use Rattle.std.specs.List.{list_any}
use Rattle.std.specs.Option.{option_map_or}
use Rattle.std.specs.Ordering.{int_eq}
use Rattle.std.specs.Cmp.{signed_Decides}
use Rattle.std.proofs.lemmas.Int.{ints, clamps}
use Rattle.std.proofs.lemmas.Bool.{and_parts, and_from, or_left, or_right, or_cases, leb-true, leb-false, ltb-true, true≢false, false≢true}
use Rattle.image_map.specs.declared.image.Image.{Image}
use Rattle.image_map.specs.declared.image.Segment.{Segment}
use Rattle.image_map.specs.declared.region.Cell.{Cell}
use Rattle.image_map.specs.declared.region.RegionId.TheVariants.{Global}
use Rattle.image_map.specs.Memory.{holds, segment_at, has_flag, is_in}
use Rattle.image_map.specs.Queries.{is_in_segment, is_writable}
use Rattle.image_map.specs.Regions.{same_region}
use Rattle.image_map.proofs.OrderLaws.{same_region-equal, same_region-itself}
use Rattle.image_map.specs.Whole.{IsImage}
use Rattle.ia32_semantics.specs.CallModel.{IsLaidOut}
use Rattle.ia32_semantics.specs.Effects.{is_open}
use Rattle.ia32_semantics.specs.State.{State}
use Rattle.alocs.proofs.CellLemmas.{lt_int_lt}
use Rattle.strided.specs.Interval.{Interval, IsMember, IsCanonical, IsWithin, IsClipped}
use Rattle.strided.proofs.BoundLemmas.{clip_exact}
use Rattle.strided.proofs.MemberLemmas.{member_above}
use Rattle.vset.specs.declared.part.Part.{Part}
use Rattle.vset.specs.World.{Thing, TheImage, base_of, region_of}
use Rattle.abs_semantics.specs.Joins.{has_length}
use Rattle.abs_semantics.specs.Touching.{meeting, touches, is_range, is_other, crosses}
use Rattle.abs_semantics.specs.Accesses.{is_open_at, may_change}
use Rattle.abs_semantics.specs.StandsFor.{IsCellOf, Owns}
use Rattle.abs_semantics.specs.Ownership.{IsOwnedAt}
use Rattle.abs_semantics.proofs.StackLemmas.{mapped_low}
use Rattle.abs_semantics.proofs.ThingLemmas.{one_owner, is_image}

-- -- Ranges that share a byte, or don't

pub record Shares (at count cat clen : ℕ) : Type 0 where
  pub byte : ℕ
  pub from : at ≤ byte
  pub to : byte < at + count
  pub cell_from : cat ≤ byte
  pub cell_to : byte < cat + clen

abbrev pub Apart : ℕ → ℕ → ℕ → ℕ → Type 0
Apart at count cat clen = (y : ℕ) → cat ≤ y → y < cat + clen → (y < at) ⊎ (at + count ≤ y)

pub shares_or_apart : (at count cat clen : ℕ) → Shares at count cat clen ⊎ Apart at count cat clen
shares_or_apart at count cat clen = by_start (leq at cat)
  where
    leq : (m n : ℕ) → (m ≤ n) ⊎ (n < m)
    leq m n = by_test (nat_le m n) refl
      where
        by_test : (t : Bool) → nat_le m n ≡ t → (m ≤ n) ⊎ (n < m)
        by_test true is = inl (leb-true m n is)
        by_test false is = inr (leb-false m n is)

    by_start : (at ≤ cat) ⊎ (cat < at) → Shares at count cat clen ⊎ Apart at count cat clen
    by_start (inl later) =
        ⊎_elim
        (λ behind. inr (λ y low high. inr (omega arith)))
        (λ inside.
        ⊎_elim
        (λ none. inr (λ y low high. absurd (omega arith)))
        (λ some. inl (record { byte = cat; from = omega arith; to = omega arith; cell_from = omega arith; cell_to = omega arith }))
        (leq clen 0))
        (leq (at + count) cat)
    by_start (inr earlier) =
        ⊎_elim
        (λ before. inr (λ y low high. inl (omega arith)))
        (λ inside.
        ⊎_elim
        (λ none. inr (λ y low high. ⊎_elim (λ above. inr (omega arith)) (λ below. inl (omega arith)) (leq at y)))
        (λ some. inl (record { byte = at; from = omega arith; to = omega arith; cell_from = omega arith; cell_to = omega arith }))
        (leq count 0))
        (leq (cat + clen) at)

-- -- Members whose ranges meet a cell

-- what is met
pub record IsMeeting (o : ℤ) (len : ℕ) (c : Cell) (si : Interval) : Type 0 where
  pub met : Interval
  pub is : meeting si len c ≡ Some met
  pub has : IsMember o met

pub meets : (o : ℤ) (len : ℕ) (c : Cell) (si : Interval) → IsCanonical si → IsMember o si → (c.start <ℤ (o +ℤ pos len)) → o <ℤ c.end → IsMeeting o len c si
meets o len c si form member above below = by_clip (meeting si len c) refl (clip_exact si (int_max si.lo ((c.start -ℤ pos len) +ℤ pos 1)) (c.end -ℤ pos 1) form)
  where
    within : IsWithin o si (int_max si.lo ((c.start -ℤ pos len) +ℤ pos 1)) (c.end -ℤ pos 1)
    within =
        let from : si.lo ≤ℤ o = member_above o si member in
        (member, omega (arith, ints, clamps), omega (arith, ints))

    by_clip : (r : Option Interval) → meeting si len c ≡ r → IsClipped si (int_max si.lo ((c.start -ℤ pos len) +ℤ pos 1)) (c.end -ℤ pos 1) r → IsMeeting o len c si
    by_clip None is clipped = absurd (clipped o within)
    by_clip (Some m) is clipped = record { met = m; is = is; has = (clipped.1 o).1 within }

-- the cell is the range at the member
pub at_range : (o : ℤ) (len : ℕ) (c : Cell) (m : Interval) → is_range len c m ≡ true → IsMember o m → (o ≡ c.start) × (c.end ≡ c.start +ℤ pos len)
at_range o len c m e has =
    let outer = and_parts (int_eq m.lo c.start && int_eq m.hi c.start) (has_length len c) e in
    let inner = and_parts (int_eq m.lo c.start) (int_eq m.hi c.start) outer.0 in
    let lo : m.lo ≡ c.start = (signed_Decides m.lo c.start).0 inner.0 in
    let hi : m.hi ≡ c.start = (signed_Decides m.hi c.start).0 inner.1 in
    let from : m.lo ≤ℤ o = member_above o m has in
    let to : o ≤ℤ m.hi = has.in_range in
    (omega (arith, ints), (signed_Decides c.end (c.start +ℤ pos len)).0 outer.1)

-- -- A cell of a thing, and a range of a thing, that share a byte

module _ (image : Image) (lane : ℕ) (s : State) (good : IsImage image) (laid : IsLaidOut image s) where
  -- the range lies in the cell's thing, and the part's offset meets the cell
  pub record IsMetBy (at count len : ℕ) (t : Thing) (c : Cell) (cat : ℕ) (x : Part) : Type 0 where
    pub region : x.region ≡ c.region
    pub offset : ℤ
    pub member : IsMember offset x.si
    pub reached : pos at ≡ pos (base_of t) +ℤ offset
    pub meeting : IsMeeting offset len c x.si

  pub met_by : (at count len : ℕ) (t : Thing) (c : Cell) (cat clen : ℕ) (x : Part) → IsCanonical x.si → count ≤ len → IsOwnedAt lane s at count x → IsCellOf lane s t c cat clen → Shares at count cat clen → IsMetBy at count len t c cat x
  met_by at count len t c cat clen x form within owned cell shares =
      record {
        region = sym owned.region ∙ sym (ap (region_of lane) same) ∙ cell.region;
        offset = owned.offset;
        member = owned.within;
        reached = reached;
        meeting = meets owned.offset len c x.si form owned.within above below;
      }
    where
      own_range : Owns s owned.thing shares.byte
      own_range =
          let from : at ≤ shares.byte = shares.from in
          let to : shares.byte < at + count = shares.to in
          subst (Owns s owned.thing) (let e : at + (shares.byte - at) ≡ shares.byte = omega arith in e) (owned.owned (shares.byte - at) (omega arith))

      own_cell : Owns s t shares.byte
      own_cell =
          let from : cat ≤ shares.byte = shares.cell_from in
          let to : shares.byte < cat + clen = shares.cell_to in
          subst (Owns s t) (let e : cat + (shares.byte - cat) ≡ shares.byte = omega arith in e) (cell.lies.owned (shares.byte - cat) (omega arith))

      same : t ≡ owned.thing
      same = one_owner image s good laid shares.byte t owned.thing cell.is_in owned.is_in own_cell own_range

      reached : pos at ≡ pos (base_of t) +ℤ owned.offset
      reached = owned.reached ∙ ap (λ u. pos (base_of u) +ℤ owned.offset) (sym same)

      above : c.start <ℤ (owned.offset +ℤ pos len)
      above =
          let start : pos cat ≡ pos (base_of t) +ℤ c.start = cell.lies.start in
          let r = reached in
          let to : shares.byte < at + count = shares.to in
          let cell_from : cat ≤ shares.byte = shares.cell_from in
          omega (arith, ints)

      below : owned.offset <ℤ c.end
      below =
          let start : pos cat ≡ pos (base_of t) +ℤ c.start = cell.lies.start in
          let end : c.end ≡ c.start +ℤ pos clen = cell.lies.end in
          let r = reached in
          let from : at ≤ shares.byte = shares.from in
          let cell_to : shares.byte < cat + clen = shares.cell_to in
          omega (arith, ints)

  -- it touches the cell, and where it doesn't cross it, it is the cell
  module _ (at count len : ℕ) (t : Thing) (c : Cell) (cat : ℕ) (x : Part) (by : IsMetBy at count len t c cat x) where
    pub met_touches : touches len c x ≡ true
    met_touches = and_from (same_region x.region c.region) (is_some (meeting x.si len c)) (subst (λ r. same_region x.region r ≡ true) by.region (same_region-itself x.region)) (ap is_some by.meeting.is)

    pub met_is : crosses len c x ≡ false → (by.offset ≡ c.start) × (c.end ≡ c.start +ℤ pos len)
    met_is none =
        let same : same_region x.region c.region ≡ true = subst (λ r. same_region x.region r ≡ true) by.region (same_region-itself x.region) in
        let range : is_other len c (Some by.meeting.met) ≡ false = ap (is_other len c) (sym by.meeting.is) ∙ sym (ap (λ u. u && is_other len c (meeting x.si len c)) same) ∙ none in
        at_range by.offset len c by.meeting.met (not_not (is_range len c by.meeting.met) range) by.meeting.has
      where
        not_not : (u : Bool) → not u ≡ false → u ≡ true
        not_not true e = refl
        not_not false e = absurd (true≢false e)

  -- -- Cells that may be written

  writable_segment : (y : ℕ) (c : Cell) (segments : List Segment) → c.start ≤ℤ pos y → pos y <ℤ c.end → is_in segments 2 y ≡ true → list_any (is_open_at c) segments ≡ true
  writable_segment y c [] low high e = absurd (false≢true e)
  writable_segment y c (g ∷ gs) low high e = by_test (writable_segment y c gs low high) (holds y g) refl e
    where
      by_test : (is_in gs 2 y ≡ true → list_any (is_open_at c) gs ≡ true) → (u : Bool) → holds y g ≡ u → option_map_or (has_flag 2) (cond u (Some g) (segment_at gs y)) false ≡ true → list_any (is_open_at c) (g ∷ gs) ≡ true
      by_test rest true is flag =
          let both = and_parts (nat_le g.start y) (nat_lt (y - g.start) (length g.bytes)) is in
          let first : g.start ≤ y = leb-true g.start y both.0 in
          let last : y - g.start < length g.bytes = ltb-true (y - g.start) (length g.bytes) both.1 in
          let below : pos g.start <ℤ c.end = omega (arith, ints) in
          let above : c.start <ℤ pos (g.start + length g.bytes) = omega (arith, ints) in
          or_left (is_open_at c g) (list_any (is_open_at c) gs)
          (and_from (has_flag 2 g) (int_lt (pos g.start) c.end && int_lt c.start (pos (g.start + length g.bytes))) flag
          (and_from (int_lt (pos g.start) c.end) (int_lt c.start (pos (g.start + length g.bytes))) (lt_int_lt (pos g.start) c.end below) (lt_int_lt c.start (pos (g.start + length g.bytes)) above)))
      by_test rest false other found = or_right (is_open_at c g) (list_any (is_open_at c) gs) (rest found)

  -- a cell that has a byte that may be written may change
  pub open_changes : (t : Thing) (c : Cell) (cat clen y : ℕ) → IsCellOf lane s t c cat clen → cat ≤ y → y < cat + clen → is_open image s.memory y ≡ true → may_change image c ≡ true
  open_changes t c cat clen y cell low high writable = by_region (same_region c.region Global) refl
    where
      parts : (is_some (s.memory y) ≡ true) × ((not (is_in_segment image y) || is_writable image y) ≡ true)
      parts = and_parts (is_some (s.memory y)) (not (is_in_segment image y) || is_writable image y) writable

      of_image : same_region c.region Global ≡ true → list_any (is_open_at c) image.segments ≡ true
      of_image same =
          let image_is : t ≡ TheImage = is_image lane s t (cell.region ∙ same_region-equal c.region Global same) in
          let own : Owns s t y = subst (Owns s t) (let e : cat + (y - cat) ≡ y = omega arith in e) (cell.lies.owned (y - cat) (omega arith)) in
          let half : y < 2 ^ 31 = subst (λ u. Owns s u y) image_is own in
          let start : pos cat ≡ pos (base_of t) +ℤ c.start = cell.lies.start in
          let end : c.end ≡ c.start +ℤ pos clen = cell.lies.end in
          let base : base_of t ≡ 0 = ap base_of image_is in
          let segment : is_in_segment image y ≡ true = mapped_low image s good laid y parts.0 half in
          writable_segment y c image.segments (omega (arith, ints)) (omega (arith, ints))
          (⊎_elim (λ outside. absurd (true≢false (sym outside ∙ ap not segment))) (λ allowed. allowed) (or_cases (not (is_in_segment image y)) (is_writable image y) parts.1))

      by_region : (u : Bool) → same_region c.region Global ≡ u → (not u || list_any (is_open_at c) image.segments) ≡ true
      by_region true same = of_image same
      by_region false other = refl
