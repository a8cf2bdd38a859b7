-- After a call the abstract state after the abstract call stands for the state.
use Rattle.std.proofs.Common.{◌≡◌, ◌⊎◌, inl, inr, ℕ, ◌+◌, ◌*◌, ◌/◌, ◌%◌, ◌<◌, ◌≤◌, ◌==◌, ◌&&◌, ◌||◌, Bool, true, false, not, cond, List, [], ◌∷◌, ◌++◌, Option, Some, None, refl, sym, ◌∙◌, ap, subst, arith, lit<, pos}
use Rattle.std.specs.Prelude.{nat_le, nat_lt, ℤ, ◌+ℤ◌, ◌-ℤ◌, is_some, unsigned_abs}
use Rattle.std.specs.Option.{option_map}
use Rattle.std.specs.List.{list_any}
use Rattle.std.proofs.lemmas.Int.{ints, int_rem_euclid_is}
use Rattle.std.proofs.lemmas.Bool.{false≢true, true≢false, cond_both, eqb-true, eq-eqb, or_left, and_parts, and_from, le-leb, lt-ltb}
use Rattle.std.proofs.lemmas.Option.{none-some, same_Some}
use Rattle.image_map.specs.declared.image.Image.{Image}
use Rattle.image_map.specs.declared.region.Activation.{Activation}
use Rattle.image_map.specs.declared.region.Cell.{Cell}
use Rattle.image_map.specs.declared.region.RegionId.{RegionId}
use Rattle.image_map.specs.declared.region.RegionId.TheVariants.{Global, Frame, OldFrame, Heap, OldHeap}
use Rattle.image_map.specs.Regions.{same_region, same_cell}
use Rattle.image_map.proofs.OrderLaws.{same_region-equal, same_region-itself, same_cell-equal}
use Rattle.image_map.specs.Whole.{IsImage}
use Rattle.ia32_semantics.specs.CallModel.{IsLaidOut, AreBlocks, block_of, blocks_given}
use Rattle.ia32_semantics.specs.Outcome.{is_in_stack, is_in_block}
use Rattle.ia32_semantics.specs.State.{State, put, bytes_at, little_endian}
use Rattle.vset.specs.declared.part.Both.TheVariants.{Joined}
use Rattle.vset.specs.declared.part.Part.{Part}
use Rattle.vset.specs.Members.{HasValue, HasOffset}
use Rattle.vset.specs.Operations.{part, with_part, join, without_region, renamed_into, with_renamed, age}
use Rattle.vset.specs.Values.{Values, Top, Parts, AreCanonical, CanonicalValues}
use Rattle.vset.specs.World.{Thing, TheImage, ActivationAt, BlockAt, IsIn, base_of, region_of, is_called, has_key, key_of}
use Rattle.vset.proofs.MemberLemmas.{put_canonical, join_has_left, join_has_right}
use Rattle.vset.proofs.OffsetLemmas.{age_keeps, age_renames}
use Rattle.abs_alu.proofs.CanonicalLemmas.{settled_canonical}
use Rattle.abs_semantics.specs.States.{AbsState, HasCanonical, CellsAreCanonical, value_at, has_procedure, known_of}
use Rattle.abs_semantics.specs.StandsFor.{StandsFor, world_of, Owns, IsCellOf, IsLinked, IsSized}
use Rattle.abs_semantics.specs.Joins.{held_by, with_number, with_link, links_of, agreed}
use Rattle.abs_semantics.specs.Operands.{word_number}
use Rattle.abs_semantics.specs.Touching.{cell_at}
use Rattle.alocs.specs.Cells.{Division}
use Rattle.strided.specs.Concrete.{signed}
use Rattle.strided.specs.Interval.{IsMember, one}
use Rattle.strided.proofs.SumLemmas.{member_one}
use Rattle.step_soundness.proofs.WordLaws.{word_has}
use Rattle.slice_soundness.proofs.ReturnLemmas.{same_first}
use Rattle.abs_semantics.proofs.CellLemmas.{value_canonical, rebuilt_value}
use Rattle.abs_semantics.proofs.FormLemmas.{rebuilt_form}
use Rattle.abs_semantics.proofs.JoinLemmas.{held_has, agreed_left, agreed_right}
use Rattle.abs_semantics.proofs.StackLemmas.{stack_bounds, in_block}
use Rattle.abs_semantics.proofs.StoreLemmas.{same_bytes}
use Rattle.abs_semantics.proofs.ThingLemmas.{given_holds}
use Rattle.abs_steps.specs.Calls.{return_slot, remainder, moved_align, new_link, entered_value, entered, called, with_values, is_in, lies_below, as_of, moved, older_value, older_align, cut_off, grown_old, links_as, without_young, with_only}
use Rattle.call_soundness.specs.Calls.{IsCalled}
use Rattle.call_soundness.specs.Laws.{CalledStatesStand}
use Rattle.call_soundness.proofs.ListLaws.{number_keeps, number_has, link_keeps, link_has, links_keep, links_have, without_keeps, links_grow, only_other, only_same}
use Rattle.call_soundness.proofs.ThingLaws as things
use Rattle.call_soundness.proofs.ThingLaws.{tail_is, as_itself}
use Rattle.call_soundness.proofs.ValueLaws.{Stands, moved_value}

-- -- The form of values that age

pub renamed_form : (from to : RegionId) (ps into : List Part) → AreCanonical ps → AreCanonical into → AreCanonical (with_renamed from to ps into)
unfolding with_renamed
renamed_form from to [] into cp ci = ci
renamed_form from to (x ∷ ps) into cp ci =
    renamed_form from to ps (renamed_into from to x into) cp.1
    (cond_both (same_region x.region from) (with_part Joined (part to x.si) into) into AreCanonical (λ _. put_canonical Joined (part to x.si) into cp.0 ci) (λ _. ci))

without_form : (r : RegionId) (ps : List Part) → AreCanonical ps → AreCanonical (without_region r ps)
without_form r [] cp = tt
without_form r (x ∷ ps) cp =
    cond_both (not (same_region x.region r)) (x ∷ without_region r ps) (without_region r ps) AreCanonical (λ _. (cp.0, without_form r ps cp.1)) (λ _. without_form r ps cp.1)

pub age_form : (young old : RegionId) (v : Values) → CanonicalValues v → CanonicalValues (age young old v)
unfolding age
age_form young old Top cv = tt
age_form young old (Parts ps) cv = settled_canonical _ (renamed_form young old ps (without_region young ps) cv (without_form young ps cv))

pub age_top : (young old : RegionId) (v : Values) → v ≡ Top → age young old v ≡ Top
unfolding age
age_top young old v e = ap (age young old) e

-- -- Regions that aren't the newest activation

pub apart_from : (r q : RegionId) → (r ≡ q → ⊥) → same_region r q ≡ false
apart_from r q not_ = by (same_region r q) refl
  where
    by : (b : Bool) → same_region r q ≡ b → b ≡ false
    by true e = absurd (not_ (same_region-equal r q e))
    by false e = refl

old_is_not_frame : (q p : ℕ) → same_region (OldFrame q) (Frame p) ≡ false
old_is_not_frame q p = apart_from (OldFrame q) (Frame p) (λ e. cc)

global_is_not_frame : (p : ℕ) → same_region Global (Frame p) ≡ false
global_is_not_frame p = apart_from Global (Frame p) (λ e. cc)

heap_is_not_frame : (k p : ℕ) → same_region (Heap k) (Frame p) ≡ false
heap_is_not_frame k p = apart_from (Heap k) (Frame p) (λ e. cc)

old_heap_is_not_frame : (k p : ℕ) → same_region (OldHeap k) (Frame p) ≡ false
old_heap_is_not_frame k p = apart_from (OldHeap k) (Frame p) (λ e. cc)

frame_number : RegionId → ℕ
frame_number (Frame q) = q
frame_number _ = 0

not_frame : (q p : ℕ) → (p == q) ≡ false → same_region (Frame q) (Frame p) ≡ false
unfolding frame_number
not_frame q p e = apart_from (Frame q) (Frame p) (λ f. let same : q ≡ p = ap frame_number f in true≢false (sym (eq-eqb p q (sym same)) ∙ e))

-- -- Things after a call

module _ (lane : ℕ) (a : AbsState) (s t : State) (new newest : Activation) (others : List Activation) (next : ℕ) (call : IsCalled s t new newest others next) (stands : StandsFor lane a s) where
  abbrev c : ℕ
  c = new.callee

  abbrev lift : Thing → Thing
  lift u = things.lift new u

  lift_in : (u : Thing) → IsIn (world_of s) u → IsIn (world_of t) (lift u)
  lift_in u h = things.lift_in new (world_of s) (world_of t) call.activations call.allocs u h

  -- a procedure that has an activation is live
  live_here : (newer older : List Activation) (x : Activation) → s.activations ≡ newer ++ (x ∷ older) → (c == x.callee) ≡ true → has_procedure c a.live ≡ true
  live_here newer older x split same = subst (λ q. has_procedure q a.live ≡ true) (sym (eqb-true c x.callee same)) (stands.live newer older x split)

  -- the region of an activation after the call
  region_by : (hit called : Bool) (q : ℕ) → RegionId
  region_by hit called q = cond (hit || called) (OldFrame q) (Frame q)

  -- what a value has of an activation it has of it when it has aged
  aged_has : (newer older : List Activation) (x : Activation) (o : ℤ) (v : Values) → HasOffset (region_of lane (ActivationAt newer x older)) o v
      → HasOffset (region_of lane (ActivationAt (new ∷ newer) x older)) o (age (Frame c) (OldFrame c) v)
  aged_has newer older x o v h = by (c == x.callee) refl (is_called x.callee newer) h
    where
      by : (hit : Bool) → (c == x.callee) ≡ hit → (called : Bool) → HasOffset (cond called (OldFrame x.callee) (Frame x.callee)) o v
          → HasOffset (cond (hit || called) (OldFrame x.callee) (Frame x.callee)) o (age (Frame c) (OldFrame c) v)
      by true e true h = age_keeps (Frame c) (OldFrame c) (OldFrame x.callee) o v (old_is_not_frame x.callee c) h
      by true e false h =
          let same : c ≡ x.callee = eqb-true c x.callee e in
          subst (λ q. HasOffset (OldFrame q) o (age (Frame c) (OldFrame c) v)) same (age_renames (Frame c) (OldFrame c) o v (subst (λ q. HasOffset (Frame q) o v) (sym same) h))
      by false e true h = age_keeps (Frame c) (OldFrame c) (OldFrame x.callee) o v (old_is_not_frame x.callee c) h
      by false e false h = age_keeps (Frame c) (OldFrame c) (Frame x.callee) o v (not_frame x.callee c e) h

  aged_thing : (v : Values) (u : Thing) → IsIn (world_of s) u → Stands lane (world_of t) u v (age (Frame c) (OldFrame c) v)
  aged_thing v TheImage h = record { now = TheImage; is_in = tt; base = refl; has = λ o k. age_keeps (Frame c) (OldFrame c) Global o v (global_is_not_frame c) k }
  aged_thing v (ActivationAt newer x older) h =
      record { now = ActivationAt (new ∷ newer) x older; is_in = lift_in (ActivationAt newer x older) h; base = refl; has = λ o k. aged_has newer older x o v k }
  aged_thing v (BlockAt before x later) h =
      record {
        now = BlockAt before x later;
        is_in = lift_in (BlockAt before x later) h;
        base = refl;
        has = λ o k. age_keeps (Frame c) (OldFrame c) (region_of lane (BlockAt before x later)) o v (no_frame (has_key lane (key_of lane x) later) (key_of lane x)) k;
      }
    where
      no_frame : (b : Bool) (k : ℕ) → same_region (cond b (OldHeap k) (Heap k)) (Frame c) ≡ false
      no_frame true k = old_heap_is_not_frame k c
      no_frame false k = heap_is_not_frame k c

  pub aged_value : (n : ℕ) (v : Values) → HasValue lane (world_of s) n v → HasValue lane (world_of t) n (age (Frame c) (OldFrame c) v)
  aged_value n v h = moved_value lane (world_of s) (world_of t) n v (age (Frame c) (OldFrame c) v) (aged_thing v) (age_top (Frame c) (OldFrame c) v) h

  -- where the callee has no activation nothing ages
  kept_region : has_procedure c a.live ≡ false → (newer older : List Activation) (x : Activation) → s.activations ≡ newer ++ (x ∷ older) → (c == x.callee) ≡ false
  kept_region gone newer older x split = by (c == x.callee) refl
    where
      by : (b : Bool) → (c == x.callee) ≡ b → b ≡ false
      by true e = absurd (true≢false (sym (live_here newer older x split e) ∙ gone))
      by false e = refl

  plain_thing : has_procedure c a.live ≡ false → (v : Values) (u : Thing) → IsIn (world_of s) u → Stands lane (world_of t) u v v
  plain_thing gone v TheImage h = record { now = TheImage; is_in = tt; base = refl; has = λ o k. k }
  plain_thing gone v (ActivationAt newer x older) h =
      record {
        now = ActivationAt (new ∷ newer) x older;
        is_in = lift_in (ActivationAt newer x older) h;
        base = refl;
        has = λ o k. subst (λ b. HasOffset (cond (b || is_called x.callee newer) (OldFrame x.callee) (Frame x.callee)) o v) (sym (kept_region gone newer older x h)) k;
      }
  plain_thing gone v (BlockAt before x later) h = record { now = BlockAt before x later; is_in = lift_in (BlockAt before x later) h; base = refl; has = λ o k. k }

  pub plain_value : has_procedure c a.live ≡ false → (n : ℕ) (v : Values) → HasValue lane (world_of s) n v → HasValue lane (world_of t) n v
  plain_value gone n v h = moved_value lane (world_of s) (world_of t) n v v (plain_thing gone v) (λ e. e) h

  -- -- Bytes and cells

  -- no byte of the image or of a block lies in the stack
  module _ (apart : (u : Thing) → IsIn (world_of s) u → (y : ℕ) → Owns s u y → is_in_stack s.slot y ≡ true → (newer older : List Activation) × (x : Activation) × (u ≡ ActivationAt newer x older)) where
    owns_back : (u : Thing) (y : ℕ) → Owns t (lift u) y → Owns s u y
    owns_back TheImage y h = h
    owns_back (ActivationAt newer x older) y h = (subst (λ n. is_in_stack n y ≡ true) call.slot h.0, h.1.1, h.2)
    owns_back (BlockAt before x later) y h = h

    above_slot : (u : Thing) (y : ℕ) (newer older : List Activation) (x : Activation) → u ≡ ActivationAt newer x older → Owns t (lift u) y → new.base + 4 ≤ y
    above_slot u y newer older x e h = (subst (λ z. Owns t (lift z) y) e h).1.0

    byte_kept : (u : Thing) → IsIn (world_of s) u → (y : ℕ) → Owns t (lift u) y → t.memory y ≡ s.memory y
    byte_kept u is_in y h =
        call.bytes y (λ stack. let own = apart u is_in y (owns_back u y h) stack in above_slot u y own.0 own.1 own.2 own.3 h)

    cell_back : (u : Thing) → IsIn (world_of s) u → (x : Cell) (at len : ℕ) → IsCellOf lane t (lift u) x at len → IsCellOf lane s u (as_of (region_of lane u) x) at len
    cell_back u is_in x at len of =
        record {
          is_in = is_in;
          region = refl;
          lies = record {
            start = of.lies.start ∙ ap (λ b. pos b +ℤ x.start) (things.lift_base new u);
            end = of.lies.end;
            owned = λ k lt. owns_back u (at + k) (of.lies.owned k lt);
          };
        }

    bytes_back : (u : Thing) → IsIn (world_of s) u → (x : Cell) (at len : ℕ) (bytes : List ℕ) → IsCellOf lane t (lift u) x at len → bytes_at t.memory at len ≡ Some bytes → bytes_at s.memory at len ≡ Some bytes
    bytes_back u is_in x at len bytes of b =
        same_bytes s.memory t.memory at at len (λ k lt. sym (byte_kept u is_in (at + k) (of.lies.owned k lt))) ∙ b

    old_value : (u : Thing) → IsIn (world_of s) u → (x : Cell) (at len : ℕ) (bytes : List ℕ) → IsCellOf lane t (lift u) x at len → bytes_at t.memory at len ≡ Some bytes
        → HasValue lane (world_of s) (little_endian bytes) (value_at a (as_of (region_of lane u) x))
    old_value u is_in x at len bytes of b =
        stands.cells u (as_of (region_of lane u) x) at len bytes (cell_back u is_in x at len of) (bytes_back u is_in x at len bytes of b)

    -- -- What was there before

    -- An abstract state that stands for what was there before the call, with the regions of things after it.
    pub record IsGrown (b : AbsState) : Type 0 where
      pub registers : (n : ℕ) → n < 8 → HasValue lane (world_of t) (s.registers n) (b.registers n)
      pub cells : (u : Thing) → IsIn (world_of s) u → (x : Cell) (at len : ℕ) (bytes : List ℕ) → IsCellOf lane t (lift u) x at len → bytes_at t.memory at len ≡ Some bytes
          → HasValue lane (world_of t) (little_endian bytes) (value_at b x)
      pub flags : b.flags ≡ a.flags
      pub root : b.root ≡ a.root
      pub blocks : b.blocks ≡ a.blocks
      pub live : (q : ℕ) → has_procedure q a.live ≡ true → has_procedure q b.live ≡ true
      pub older : (newer older : List Activation) (x : Activation) → s.activations ≡ newer ++ (x ∷ older) → ((c == x.callee) || is_called x.callee newer) ≡ true → has_procedure x.callee b.older ≡ true
      pub links : (newer older : List Activation) (child parent : Activation) → s.activations ≡ newer ++ (child ∷ parent ∷ older)
          → IsLinked b.links child.callee ((c == child.callee) || is_called child.callee newer) parent.callee (pos child.base -ℤ pos parent.base)
      pub aligns : (u : Thing) (n : ℕ) → IsIn (world_of s) u → known_of (region_of lane (lift u)) b.aligns ≡ Some n → base_of u % 16 ≡ n

    module _ (p : ℕ) (end : ℤ) (form : HasCanonical a) where
      abbrev cut : AbsState
      cut = cut_off p end a

      cut_value : (P : Values → Type 0) → P Top → (x : Cell) → P (value_at a x) → P (value_at cut x)
      cut_value P top x h =
          rebuilt_value P x (λ y. cond (lies_below (Frame p) end y) Top (value_at a y)) a.cells top (cond_both (lies_below (Frame p) end x) Top (value_at a x) P (λ _. top) (λ _. h))

      cut_form : CellsAreCanonical cut.cells
      cut_form = rebuilt_form (λ y. cond (lies_below (Frame p) end y) Top (value_at a y)) a.cells (λ y. cond_both (lies_below (Frame p) end y) Top (value_at a y) CanonicalValues (λ _. tt) (λ _. value_canonical y a.cells form.cells))

      same_place : has_procedure c a.live ≡ false → (u : Thing) → IsIn (world_of s) u → region_of lane u ≡ region_of lane (lift u)
      same_place gone TheImage h = refl
      same_place gone (BlockAt before x later) h = refl
      same_place gone (ActivationAt newer x older) h = ap (λ b. cond (b || is_called x.callee newer) (OldFrame x.callee) (Frame x.callee)) (sym (kept_region gone newer older x h))

      -- the callee has no activation yet
      pub plain_grown : has_procedure c a.live ≡ false → IsGrown cut
      plain_grown gone =
          record {
            registers = λ n lt. plain_value gone (s.registers n) (a.registers n) (stands.registers n lt);
            cells = λ u within x at len bytes of b.
                cut_value (HasValue lane (world_of t) (little_endian bytes)) tt x
                (plain_value gone (little_endian bytes) (value_at a x)
                (subst (λ y. HasValue lane (world_of s) (little_endian bytes) (value_at a y)) (as_itself (region_of lane u) x (same_place gone u within ∙ of.region)) (old_value u within x at len bytes of b)));
            flags = refl;
            root = refl;
            blocks = refl;
            live = λ q h. h;
            older = λ newer older x split h. stands.older newer older x split (subst (λ b. (b || is_called x.callee newer) ≡ true) (kept_region gone newer older x split) h);
            links = λ newer older child parent split.
                subst (λ b. IsLinked a.links child.callee (b || is_called child.callee newer) parent.callee (pos child.base -ℤ pos parent.base)) (sym (kept_region gone newer (parent ∷ older) child split)) (stands.links newer older child parent split);
            aligns = λ u n is_in e. stands.aligns u n is_in (ap (λ r. known_of r a.aligns) (same_place gone u is_in) ∙ e);
          }

      -- -- The newest activation of the callee grows old

      abbrev aged : AbsState
      aged = with_values (age (Frame c) (OldFrame c)) cut

      aged_form_of : CellsAreCanonical aged.cells
      aged_form_of = rebuilt_form (λ y. age (Frame c) (OldFrame c) (value_at cut y)) cut.cells (λ y. age_form (Frame c) (OldFrame c) (value_at cut y) (value_canonical y cut.cells cut_form))

      aged_cell : (n : ℕ) (x : Cell) → HasValue lane (world_of s) n (value_at a x) → HasValue lane (world_of t) n (value_at aged x)
      aged_cell n x h =
          rebuilt_value (HasValue lane (world_of t) n) x (λ y. age (Frame c) (OldFrame c) (value_at cut y)) cut.cells tt
          (aged_value n (value_at cut x) (cut_value (HasValue lane (world_of s) n) tt x h))

      canonical_at : (x : Cell) → CanonicalValues (value_at aged x)
      canonical_at x = value_canonical x aged.cells aged_form_of

      -- a cell of older activations
      older_cell : (u : Thing) → IsIn (world_of s) u → (x : Cell) (n : ℕ) → x.region ≡ OldFrame c → region_of lane (lift u) ≡ x.region → HasValue lane (world_of s) n (value_at a (as_of (region_of lane u) x))
          → HasValue lane (world_of t) n (older_value aged c x)
      older_cell u is_in x n old here h = by (things.region_cases new lane u)
        where
          both_canonical : CanonicalValues (value_at aged (as_of (Frame c) x))
          both_canonical = canonical_at (as_of (Frame c) x)

          by : (region_of lane (lift u) ≡ region_of lane u) ⊎ ((region_of lane u ≡ Frame c) × (region_of lane (lift u) ≡ OldFrame c)) → HasValue lane (world_of t) n (older_value aged c x)
          by (inr young) =
              let value = aged_cell n (as_of (Frame c) x) (subst (λ r. HasValue lane (world_of s) n (value_at a (as_of r x))) young.0 h) in
              cond_both (has_procedure c a.older) (held_by x (join (value_at aged x) (value_at aged (as_of (Frame c) x)))) (value_at aged (as_of (Frame c) x)) (HasValue lane (world_of t) n)
              (λ _. held_has lane t n x _ (join_has_right lane (world_of t) n (value_at aged x) (value_at aged (as_of (Frame c) x)) (canonical_at x) both_canonical value)) (λ _. value)
          by (inl same) =
              let value = aged_cell n x (subst (λ y. HasValue lane (world_of s) n (value_at a y)) (as_itself (region_of lane u) x (sym same ∙ here)) h) in
              cond_both (has_procedure c a.older) (held_by x (join (value_at aged x) (value_at aged (as_of (Frame c) x)))) (value_at aged (as_of (Frame c) x)) (HasValue lane (world_of t) n)
              (λ _. held_has lane t n x _ (join_has_left lane (world_of t) n (value_at aged x) (value_at aged (as_of (Frame c) x)) (canonical_at x) both_canonical value))
              (λ none. absurd (true≢false (sym (things.was_older lane a s stands c u is_in (sym same ∙ here ∙ old)) ∙ none)))

      pub old_grown : has_procedure c a.live ≡ true → IsGrown (grown_old c cut)
      old_grown here =
          record {
            registers = λ n lt. aged_value (s.registers n) (a.registers n) (stands.registers n lt);
            cells = λ u within x at len bytes of b.
                let n = little_endian bytes in
                let value = old_value u within x at len bytes of b in
                rebuilt_value (HasValue lane (world_of t) n) x (λ y. cond (is_in (OldFrame c) y) (older_value aged c y) (value_at aged y)) (aged.cells ++ moved (Frame c) (OldFrame c) aged.cells) tt
                (cond_both (is_in (OldFrame c) x) (older_value aged c x) (value_at aged x) (HasValue lane (world_of t) n)
                (λ yes. older_cell u within x n (same_region-equal x.region (OldFrame c) yes) of.region value)
                (λ other. aged_cell n x (subst (λ y. HasValue lane (world_of s) n (value_at a y)) (as_itself (region_of lane u) x (stays u (things.region_cases new lane u) x of.region other)) value)));
            flags = refl;
            root = refl;
            blocks = refl;
            live = λ q h. h;
            older = λ newer older x split h. grown_older x (c == x.callee) refl (is_called x.callee newer) h (λ f. stands.older newer older x split f);
            links = λ newer older child parent split. grown_link child (c == child.callee) refl (is_called child.callee newer) (pos child.base -ℤ pos parent.base) parent.callee (stands.links newer older child parent split);
            aligns = λ u n is_in e. grown_align u (things.region_cases new lane u) n is_in e;
          }
        where
          stays : (u : Thing) → (region_of lane (lift u) ≡ region_of lane u) ⊎ ((region_of lane u ≡ Frame c) × (region_of lane (lift u) ≡ OldFrame c)) → (x : Cell) → region_of lane (lift u) ≡ x.region
              → same_region x.region (OldFrame c) ≡ false → region_of lane u ≡ x.region
          stays u (inl same) x e other = sym same ∙ e
          stays u (inr young) x e other = absurd (true≢false (sym (same_region-itself (OldFrame c)) ∙ ap (λ r. same_region r (OldFrame c)) (sym young.1 ∙ e) ∙ other))

          grown_older : (x : Activation) (hit : Bool) → (c == x.callee) ≡ hit → (called : Bool) → (hit || called) ≡ true → (called ≡ true → has_procedure x.callee a.older ≡ true) → has_procedure x.callee (with_number c a.older) ≡ true
          grown_older x true e called h old = subst (λ q. has_procedure q (with_number c a.older) ≡ true) (eqb-true c x.callee e) (number_has c a.older)
          grown_older x false e called h old = number_keeps x.callee c a.older (old h)

          grown_link : (child : Activation) (hit : Bool) → (c == child.callee) ≡ hit → (called : Bool) (distance : ℤ) (parent : ℕ) → IsLinked a.links child.callee called parent distance
              → IsLinked (links_of (links_as c false true a.links) (without_young c a.links)) child.callee (hit || called) parent distance
          grown_link child true e true distance parent is =
              links_keep child.callee true parent distance (links_as c false true a.links) (without_young c a.links) (without_keeps child.callee true parent distance c (λ _. refl) a.links is)
          grown_link child true e false distance parent is =
              links_have child.callee true parent distance (links_as c false true a.links) (without_young c a.links)
              (subst (λ q. IsLinked (links_as q false true a.links) child.callee true parent distance) (sym (eqb-true c child.callee e)) (links_grow child.callee parent distance a.links is))
          grown_link child false e called distance parent is =
              links_keep child.callee called parent distance (links_as c false true a.links) (without_young c a.links) (without_keeps child.callee called parent distance c (λ same. absurd (true≢false (sym same ∙ e))) a.links is)

          old_align_by : (n : ℕ) (b : Bool) → cond b (agreed (known_of (Frame c) a.aligns) (known_of (OldFrame c) a.aligns)) (known_of (Frame c) a.aligns) ≡ Some n → known_of (Frame c) a.aligns ≡ Some n
          old_align_by n true e = agreed_left (known_of (Frame c) a.aligns) (known_of (OldFrame c) a.aligns) n e
          old_align_by n false e = e

          old_align_too : (n : ℕ) (b : Bool) → b ≡ true → cond b (agreed (known_of (Frame c) a.aligns) (known_of (OldFrame c) a.aligns)) (known_of (Frame c) a.aligns) ≡ Some n → known_of (OldFrame c) a.aligns ≡ Some n
          old_align_too n true f e = agreed_right (known_of (Frame c) a.aligns) (known_of (OldFrame c) a.aligns) n e
          old_align_too n false f e = absurd (false≢true f)

          grown_align : (u : Thing) → (region_of lane (lift u) ≡ region_of lane u) ⊎ ((region_of lane u ≡ Frame c) × (region_of lane (lift u) ≡ OldFrame c)) → (n : ℕ) → IsIn (world_of s) u
              → known_of (region_of lane (lift u)) (with_only (OldFrame c) (older_align cut c) a.aligns) ≡ Some n → base_of u % 16 ≡ n
          grown_align u (inr young) n is_in e =
              let here : known_of (OldFrame c) (with_only (OldFrame c) (older_align cut c) a.aligns) ≡ Some n = ap (λ r. known_of r (with_only (OldFrame c) (older_align cut c) a.aligns)) (sym young.1) ∙ e in
              stands.aligns u n is_in (ap (λ r. known_of r a.aligns) young.0 ∙ old_align_by n (has_procedure c a.older) (only_same (OldFrame c) (older_align cut c) a.aligns n here))
          grown_align u (inl same) n is_in e = of (same_region (OldFrame c) (region_of lane (lift u))) refl
            where
              of : (b : Bool) → same_region (OldFrame c) (region_of lane (lift u)) ≡ b → base_of u % 16 ≡ n
              of false f = stands.aligns u n is_in (ap (λ r. known_of r a.aligns) (sym same) ∙ only_other (region_of lane (lift u)) (OldFrame c) (older_align cut c) a.aligns n f e)
              of true f =
                  let old : OldFrame c ≡ region_of lane (lift u) = same_region-equal (OldFrame c) (region_of lane (lift u)) f in
                  let here : known_of (OldFrame c) (with_only (OldFrame c) (older_align cut c) a.aligns) ≡ Some n = ap (λ r. known_of r (with_only (OldFrame c) (older_align cut c) a.aligns)) old ∙ e in
                  stands.aligns u n is_in (ap (λ r. known_of r a.aligns) (sym same ∙ sym old)
                  ∙ old_align_too n (has_procedure c a.older) (things.was_older lane a s stands c u is_in (sym same ∙ sym old)) (only_same (OldFrame c) (older_align cut c) a.aligns n here))

    -- -- The callee begins

    module _ (d : Division) (p : ℕ) (offset : ℤ) (runs : newest.callee ≡ p) (distance : pos new.base ≡ pos newest.base +ℤ offset) (small : next < 4294967296) (b : AbsState) (g : IsGrown b) where
      abbrev final : AbsState
      final = entered d c p offset next (known_of (Frame p) a.aligns) b

      slot_has : (n : ℕ) (x : Cell) (at len : ℕ) (bytes : List ℕ) → IsCellOf lane t (ActivationAt [] new s.activations) x at len → bytes_at t.memory at len ≡ Some bytes → same_cell x (return_slot c) ≡ true
          → HasValue lane (world_of t) (little_endian bytes) (word_number next)
      slot_has n x at len bytes of is same =
          let slot : x ≡ return_slot c = same_cell-equal x (return_slot c) same in
          let first : pos at ≡ pos new.base +ℤ x.start = of.lies.start in
          let zero_start : x.start ≡ pos 0 = ap (λ (y : Cell). y.start) slot in
          let four_end : x.end ≡ pos 4 = ap (λ (y : Cell). y.end) slot in
          let last : x.end ≡ x.start +ℤ pos len = of.lies.end in
          let here : at ≡ new.base = omega (arith, ints) in
          let long : len ≡ 4 = omega (arith, ints) in
          let there : bytes_at t.memory new.base 4 ≡ Some bytes = ap (λ k. bytes_at t.memory k 4) (sym here) ∙ ap (bytes_at t.memory at) (sym long) ∙ is in
          let word_ : little_endian bytes ≡ next = same_Some (little_endian bytes) next (ap (option_map little_endian) (sym there) ∙ call.word) in
          subst (λ k. HasValue lane (world_of t) k (word_number next)) (sym word_) (word_has lane (world_of t) next small)

      new_cell : (x : Cell) (at len : ℕ) (bytes : List ℕ) → IsCellOf lane t (ActivationAt [] new s.activations) x at len → bytes_at t.memory at len ≡ Some bytes → HasValue lane (world_of t) (little_endian bytes) (value_at final x)
      new_cell x at len bytes of is =
          let P = HasValue lane (world_of t) (little_endian bytes) in
          rebuilt_value P x (entered_value d c next b) (record { cell = return_slot c; value = Top } ∷ b.cells) tt
          (cond_both (is_in (Frame c) x) (cond (same_cell x (return_slot c) && is_some (cell_at d (Frame c) (pos 0) 4)) (word_number next) Top) (value_at b x) P
          (λ yes. cond_both (same_cell x (return_slot c) && is_some (cell_at d (Frame c) (pos 0) 4)) (word_number next) Top P
          (λ slot. slot_has 0 x at len bytes of is (and_parts (same_cell x (return_slot c)) (is_some (cell_at d (Frame c) (pos 0) 4)) slot).0) (λ _. tt))
          (λ other. absurd (true≢false (sym (same_region-itself (Frame c)) ∙ ap (λ r. same_region r (Frame c)) of.region ∙ other))))

      old_cell : (u : Thing) → IsIn (world_of s) u → (x : Cell) (at len : ℕ) (bytes : List ℕ) → IsCellOf lane t (lift u) x at len → bytes_at t.memory at len ≡ Some bytes → HasValue lane (world_of t) (little_endian bytes) (value_at final x)
      old_cell u within x at len bytes of is =
          let P = HasValue lane (world_of t) (little_endian bytes) in
          rebuilt_value P x (entered_value d c next b) (record { cell = return_slot c; value = Top } ∷ b.cells) tt
          (cond_both (is_in (Frame c) x) (cond (same_cell x (return_slot c) && is_some (cell_at d (Frame c) (pos 0) 4)) (word_number next) Top) (value_at b x) P
          (λ yes. absurd (things.not_newest new lane u (of.region ∙ same_region-equal x.region (Frame c) yes))) (λ other. g.cells u within x at len bytes of is))

      all_cells : (u : Thing) (x : Cell) (at len : ℕ) (bytes : List ℕ) → IsCellOf lane t u x at len → bytes_at t.memory at len ≡ Some bytes → HasValue lane (world_of t) (little_endian bytes) (value_at final x)
      all_cells u x at len bytes of is = by (things.which new (world_of s) (world_of t) call.activations call.allocs u of.is_in)
        where
          by : (u ≡ ActivationAt [] new s.activations) ⊎ ((v : Thing) × IsIn (world_of s) v × (lift v ≡ u)) → HasValue lane (world_of t) (little_endian bytes) (value_at final x)
          by (inl e) = new_cell x at len bytes (subst (λ z. IsCellOf lane t z x at len) e of) is
          by (inr old) = old_cell old.0 old.1 x at len bytes (subst (λ z. IsCellOf lane t z x at len) (sym old.2) of) is

      esp_has : HasValue lane (world_of t) new.base (Parts (part (Frame c) (one (pos 0)) ∷ []))
      esp_has =
          let plain : pos new.base ≡ pos new.base +ℤ pos 0 = omega (arith, ints) in
          inl (record {
            thing = ActivationAt [] new s.activations;
            is_in = call.activations;
            region = refl;
            offset = pos 0;
            within = member_one (pos 0);
            low = omega (arith, ints);
            high = omega (arith, ints);
            reached = ap signed plain;
          })

      all_registers : (n : ℕ) → n < 8 → HasValue lane (world_of t) (t.registers n) (put b.registers 4 (Parts (part (Frame c) (one (pos 0)) ∷ [])) n)
      all_registers n lt = by (4 == n) refl
        where
          by : (k : Bool) → (4 == n) ≡ k → HasValue lane (world_of t) (t.registers n) (cond k (Parts (part (Frame c) (one (pos 0)) ∷ [])) (b.registers n))
          by true e = subst (λ k. HasValue lane (world_of t) (t.registers k) (Parts (part (Frame c) (one (pos 0)) ∷ []))) (eqb-true 4 n e) (subst (λ k. HasValue lane (world_of t) k (Parts (part (Frame c) (one (pos 0)) ∷ []))) (sym call.esp) esp_has)
          by false e = subst (λ k. HasValue lane (world_of t) k (b.registers n)) (sym (call.registers n e)) (g.registers n lt)

      -- what a split of the activations after the call is before it
      split_back : (y : Activation) (ys rest : List Activation) → t.activations ≡ y ∷ (ys ++ rest) → (new ≡ y) × (s.activations ≡ ys ++ rest)
      split_back y ys rest e =
          let both : new ∷ s.activations ≡ y ∷ (ys ++ rest) = sym call.activations ∙ e in
          (same_first new y s.activations (ys ++ rest) both, tail_is new y s.activations (ys ++ rest) both)

      root_is : (newer : List Activation) (oldest : Activation) → t.activations ≡ newer ++ (oldest ∷ []) → oldest.callee ≡ b.root
      root_is [] oldest e = absurd (cc_none (tail_is new oldest s.activations [] (sym call.activations ∙ e)))
        where
          cc_none : s.activations ≡ [] → ⊥
          cc_none f = let both : newest ∷ others ≡ [] = sym call.before ∙ f in cc
      root_is (y ∷ ys) oldest e = stands.root ys oldest (split_back y ys (oldest ∷ []) e).1 ∙ sym g.root

      live_is : (newer older : List Activation) (x : Activation) → t.activations ≡ newer ++ (x ∷ older) → has_procedure x.callee (with_number c b.live) ≡ true
      live_is [] older x e =
          subst (λ (z : Activation). has_procedure z.callee (with_number c b.live) ≡ true) (same_first new x s.activations older (sym call.activations ∙ e)) (number_has c b.live)
      live_is (y ∷ ys) older x e = number_keeps x.callee c b.live (g.live x.callee (stands.live ys older x (split_back y ys (x ∷ older) e).1))

      older_is : (newer older : List Activation) (x : Activation) → t.activations ≡ newer ++ (x ∷ older) → is_called x.callee newer ≡ true → has_procedure x.callee b.older ≡ true
      older_is [] older x e h = absurd (false≢true h)
      older_is (y ∷ ys) older x e h =
          let back = split_back y ys (x ∷ older) e in
          g.older ys older x back.1 (subst (λ (z : Activation). ((z.callee == x.callee) || is_called x.callee ys) ≡ true) (sym back.0) h)

      links_are : (newer older : List Activation) (child parent : Activation) → t.activations ≡ newer ++ (child ∷ parent ∷ older)
          → IsLinked (with_link (new_link c p offset) (without_young c b.links)) child.callee (is_called child.callee newer) parent.callee (pos child.base -ℤ pos parent.base)
      links_are [] older child parent e =
          let both : new ∷ s.activations ≡ child ∷ (parent ∷ older) = sym call.activations ∙ e in
          let callee : new ≡ child = same_first new child s.activations (parent ∷ older) both in
          let rest : newest ∷ others ≡ parent ∷ older = sym call.before ∙ tail_is new child s.activations (parent ∷ older) both in
          let caller : newest ≡ parent = same_first newest parent others older rest in
          let base : new.base ≡ child.base = ap (λ (z : Activation). z.base) callee in
          let above : newest.base ≡ parent.base = ap (λ (z : Activation). z.base) caller in
          let far : pos child.base -ℤ pos parent.base ≡ offset = omega (arith, ints) in
          link_has child.callee false parent.callee (pos child.base -ℤ pos parent.base) (new_link c p offset) (without_young c b.links)
          (ap (λ (z : Activation). z.callee) callee, refl, sym runs ∙ ap (λ (z : Activation). z.callee) caller, subst (λ z. IsMember z (one offset)) (sym far) (member_one offset))
      links_are (y ∷ ys) older child parent e =
          let back = split_back y ys (child ∷ parent ∷ older) e in
          let is = g.links ys older child parent back.1 in
          subst (λ (z : Activation). IsLinked (with_link (new_link c p offset) (without_young c b.links)) child.callee ((z.callee == child.callee) || is_called child.callee ys) parent.callee (pos child.base -ℤ pos parent.base)) back.0
          (link_keeps child.callee ((c == child.callee) || is_called child.callee ys) parent.callee (pos child.base -ℤ pos parent.base) (new_link c p offset) (without_young c b.links)
          (without_keeps child.callee ((c == child.callee) || is_called child.callee ys) parent.callee (pos child.base -ℤ pos parent.base) c (λ same. or_left (c == child.callee) (is_called child.callee ys) same) b.links is))

      new_align : (n : ℕ) → moved_align offset (known_of (Frame p) a.aligns) ≡ Some n → new.base % 16 ≡ n
      new_align n e = by (known_of (Frame p) a.aligns) refl e
        where
          by : (o : Option ℕ) → known_of (Frame p) a.aligns ≡ o → moved_align offset o ≡ Some n → new.base % 16 ≡ n
          by None f g = absurd (none-some n g)
          by (Some m) f h =
              let caller : newest.base % 16 ≡ m = stands.aligns (ActivationAt [] newest others) m call.before (ap (λ q. known_of (Frame q) a.aligns) runs ∙ f) in
              let split : newest.base ≡ newest.base % 16 + newest.base / 16 * 16 = omega arith in
              let reached : (pos m +ℤ offset) +ℤ pos (newest.base / 16 * 16) ≡ pos new.base = omega (arith, ints) in
              let rest = int_rem_euclid_is (pos m +ℤ offset) (pos 16) 16 (newest.base / 16) new.base (lit< tt) refl reached in
              sym (ap unsigned_abs rest) ∙ same_Some (remainder (pos m +ℤ offset) 16) n h

      all_aligns : (u : Thing) (n : ℕ) → IsIn (world_of t) u → known_of (region_of lane u) (with_only (Frame c) (moved_align offset (known_of (Frame p) a.aligns)) b.aligns) ≡ Some n → base_of u % 16 ≡ n
      all_aligns u n within e = by (things.which new (world_of s) (world_of t) call.activations call.allocs u within)
        where
          by : (u ≡ ActivationAt [] new s.activations) ⊎ ((v : Thing) × IsIn (world_of s) v × (lift v ≡ u)) → base_of u % 16 ≡ n
          by (inl same) =
              ap (λ z. base_of z % 16) same
              ∙ new_align n (only_same (Frame c) (moved_align offset (known_of (Frame p) a.aligns)) b.aligns n
              (subst (λ z. known_of (region_of lane z) (with_only (Frame c) (moved_align offset (known_of (Frame p) a.aligns)) b.aligns) ≡ Some n) same e))
          by (inr old) =
              let there : known_of (region_of lane (lift old.0)) (with_only (Frame c) (moved_align offset (known_of (Frame p) a.aligns)) b.aligns) ≡ Some n =
              subst (λ z. known_of (region_of lane z) (with_only (Frame c) (moved_align offset (known_of (Frame p) a.aligns)) b.aligns) ≡ Some n) (sym old.2) e in
              ap (λ z. base_of z % 16) (sym old.2) ∙ ap (λ k. k % 16) (things.lift_base new old.0)
              ∙ g.aligns old.0 n old.1 (only_other (region_of lane (lift old.0)) (Frame c) (moved_align offset (known_of (Frame p) a.aligns)) b.aligns n (apart_of old.0) there)
            where
              apart_of : (v : Thing) → same_region (Frame c) (region_of lane (lift v)) ≡ false
              apart_of v = of (same_region (Frame c) (region_of lane (lift v))) refl
                where
                  of : (k : Bool) → same_region (Frame c) (region_of lane (lift v)) ≡ k → k ≡ false
                  of true f = absurd (things.not_newest new lane v (sym (same_region-equal (Frame c) (region_of lane (lift v)) f)))
                  of false f = refl

      pub entered_stands : StandsFor lane final t
      entered_stands =
          record {
            registers = all_registers;
            flags = λ n lt. subst (λ f. f n (t.flags n) ≡ true) (sym g.flags) (subst (λ f. a.flags n (f n) ≡ true) (sym call.flags) (stands.flags n lt));
            cells = all_cells;
            root = root_is;
            live = live_is;
            older = older_is;
            links = links_are;
            aligns = all_aligns;
            blocks = λ before later x within.
                subst (λ ks. IsSized (known_of (region_of lane (BlockAt before x later)) ks) x.size) (sym g.blocks) (stands.blocks before later x (sym call.allocs ∙ within.0, within.1));
            fact = tt;
          }

    -- the call as a whole
    module _ (d : Division) (p : ℕ) (offset : ℤ) (form : HasCanonical a) (runs : newest.callee ≡ p) (distance : pos new.base ≡ pos newest.base +ℤ offset) (small : next < 4294967296) where
      pub called_stands : StandsFor lane (called d p offset c next a) t
      unfolding called
      called_stands =
          by (has_procedure c a.live) refl
        where
          by : (k : Bool) → has_procedure c a.live ≡ k → StandsFor lane (entered d c p offset next (known_of (Frame p) a.aligns) (cond k (grown_old c (cut_off p (offset +ℤ pos 4) a)) (cut_off p (offset +ℤ pos 4) a))) t
          by true e = entered_stands d p offset runs distance small (grown_old c (cut_off p (offset +ℤ pos 4) a)) (old_grown p (offset +ℤ pos 4) form e)
          by false e = entered_stands d p offset runs distance small (cut_off p (offset +ℤ pos 4) a) (plain_grown p (offset +ℤ pos 4) form e)

-- -- No byte of the image or of a block lies in the stack

module _ (image : Image) (s : State) (good : IsImage image) (laid : IsLaidOut image s) where
  pub stack_owner : (u : Thing) → IsIn (world_of s) u → (y : ℕ) → Owns s u y → is_in_stack s.slot y ≡ true → (newer older : List Activation) × (x : Activation) × (u ≡ ActivationAt newer x older)
  stack_owner TheImage within y own stack = let bounds = stack_bounds image s good laid y stack in absurd (omega (arith, bounds, own))
  stack_owner (ActivationAt newer x older) within y own stack = (newer, older, x, refl)
  stack_owner (BlockAt before x later) within y own stack =
      let bounds = stack_bounds image s good laid y stack in
      let holds : is_in_block y (block_of x) ≡ true = and_from (nat_le x.base y) (nat_lt y (x.base + x.size)) (le-leb x.base y own.0) (lt-ltb y (x.base + x.size) own.1) in
      let placed : AreBlocks s.slot (blocks_given s.allocs) = subst (AreBlocks s.slot) laid.given laid.placed in
      let low = in_block s.slot y (blocks_given s.allocs) placed (subst (λ l. list_any (is_in_block y) (blocks_given l) ≡ true) (sym within.0) (given_holds y before x later within.1 holds)) in
      absurd (omega (arith, bounds, low))

pub called_states_stand : CalledStatesStand
called_states_stand image lane a d s t new newest others next offset good laid form stands call distance small =
    called_stands lane a s t new newest others next call stands (stack_owner image s good laid) d newest.callee offset form refl distance small
