-- Many bytes at once: what is known after a write of a range, and how many elements a repeated instruction has.
use Rattle.std.proofs.Common.{◌≡◌, ◌⊎◌, inl, inr, ⊎_elim, ℕ, ◌+◌, ◌-◌, ◌*◌, ◌^◌, ◌<◌, ◌≤◌, ◌&&◌, Bool, true, false, not, cond, Option, Some, None, refl, sym, ◌∙◌, ap, subst, arith, lit<, pos, ◌≤ℤ◌, ◌+ℤ◌}
use Rattle.std.specs.Prelude.{int_le, nat_le, unsigned_abs}
use Rattle.std.proofs.lemmas.Int.{ints}
use Rattle.std.proofs.lemmas.Bool.{false≢true, and_parts, cases_lt}
use Rattle.std.proofs.lemmas.Option.{none-some, same_Some}
use Rattle.std.proofs.Math.Nat.{mul-le-mul_right}
use Rattle.image_map.specs.declared.image.Image.{Image}
use Rattle.ia32_semantics.specs.CallModel.{AreActivations}
use Rattle.ia32_semantics.specs.State.{State, Bytes}
use Rattle.ia32_semantics.proofs.EffectLemmas.{MapsAs}
use Rattle.alocs.specs.Cells.{Division}
use Rattle.strided.specs.Interval.{Interval, IsMember, IsCanonical}
use Rattle.strided.proofs.MemberLemmas.{int_le_true}
use Rattle.si_bits.specs.Concrete as concrete
use Rattle.si_bits.proofs.SignLemmas.{word-natural, word-number, abs-natural}
use Rattle.si_bits.proofs.MemberLemmas.{member_single}
use Rattle.vset.specs.Values.{Values, CanonicalValues, only_number}
use Rattle.vset.specs.Members.{HasValue}
use Rattle.vset.specs.World.{World}
use Rattle.abs_alu.proofs.CanonicalLemmas.{only_canonical}
use Rattle.abs_alu.proofs.WordLemmas.{only_has}
use Rattle.abs_semantics.specs.declared.parts.RangeValue.{RangeValue}
use Rattle.abs_semantics.specs.States.{AbsState, HasCanonical}
use Rattle.abs_semantics.specs.Ownership.{IsKnown, IsRange}
use Rattle.abs_semantics.specs.Ranges.{write_range}
use Rattle.abs_semantics.specs.Resolve.{resolve}
use Rattle.abs_semantics.specs.StandsFor.{world_of}
use Rattle.abs_semantics.specs.Stores.{with_memory, IsStored, HoldsRange}
use Rattle.abs_semantics.proofs.FormLemmas.{range_writes_keep_form}
use Rattle.abs_semantics.proofs.RangeLemmas.{range_written_stands}
use Rattle.abs_semantics.proofs.SlotLemmas.{slots_are_left}
use Rattle.abs_steps.specs.Effects.{fills, done}
use Rattle.abs_steps.specs.Flags.{MayBe}
use Rattle.abs_steps.specs.Strings.{goes_up, if_counted, count_of, bytes_of}
use Rattle.step_soundness.specs.Accessed.{IsNear}
use Rattle.step_soundness.proofs.PlaceLaws.{resolve_stays, write_range_leaves}
use Rattle.step_soundness.proofs.SinceLaws.{Since, since_itself, since_stored}
use Rattle.step_soundness.proofs.WriteLaws.{IsQuiet}

-- a byte of a range
pub near_range : (lane : ℕ) (s : State) (v : Values) (at count len byte : ℕ) → IsRange lane s v at count len → (at ≤ byte) × (byte < at + count) → IsNear lane s v len byte
near_range lane s v at count len byte range bounds =
    record { at = at; count = count; range = range; distance = byte - at; near = omega (arith, bounds); is = omega (arith, bounds) }

module _ (image : Image) (lane p : ℕ) (a : AbsState) (s : State) (d : Division) (known_ : IsKnown image lane a p s) (form : HasCanonical a) where
  module _ (at count len : ℕ) (v : Values) (w : RangeValue) (memory : Bytes) (fv : CanonicalValues v) (range : 1 ≤ count → IsRange lane s v at count len) (some : 1 ≤ len) (within : count ≤ len)
      (stored : IsStored image s at count memory) (holds : HoldsRange lane s at count len memory w) (maps : MapsAs memory s.memory) (bytes : (x byte : ℕ) → memory x ≡ Some byte → byte < 256)
      (quiet : IsQuiet a p v (Some len)) where
    slots : (0 < count) ⊎ (count ≤ 0) → AreActivations image memory s.slot s.activations
    slots (inl more) = slots_are_left image lane a p s v at count len memory known_ form fv (range more) quiet.0 quiet.1 stored
    slots (inr none) = subst (λ m. AreActivations image m s.slot s.activations) (λ i y. sym (stored.others y (beside y)) i) known_.whole.activations
      where
        beside : (y : ℕ) → (y < at) ⊎ (at + count ≤ y)
        beside y = ⊎_elim (λ low. inl low) (λ high. inr (omega (arith, high, none))) (cases_lt y at)

    -- some of the bytes of a range are written, and no warning stands there
    pub fills_since : Since image lane p a s (done d image p (fills v (Some len) w) a) (with_memory s memory)
    fills_since =
        since_stored image lane p a s a s d (since_itself image lane p a s known_ form) at count memory (write_range a d image p v (Some len) w)
        (range_written_stands image lane a p s d v at count len w memory known_ form fv range some within stored holds)
        (range_writes_keep_form image a d p v (Some len) w form)
        (write_range_leaves a d image p (λ c. c.flags ≡ a.flags) (λ cells fact. refl) v (Some len) w)
        (write_range_leaves a d image p (λ c. (u : Values) (n : ℕ) → resolve c p u n ≡ resolve a p u n) (λ cells fact u n. resolve_stays a a.registers a.flags cells fact p n u) v (Some len) w)
        maps bytes (slots (cases_lt 0 count))

-- -- Counts

-- a number of elements of z bytes, by what is known of it
pub record IsCount (z n : ℕ) (c : Interval) : Type 0 where
  pub canonical : IsCanonical c
  pub member : IsMember (concrete.number n) c
  pub within : n * z ≤ bytes_of z c
  -- where one number alone is known
  pub alone : c.stride ≡ 0 → n * z ≡ bytes_of z c

module _ (lane : ℕ) (w : World) (v : Values) (fv : CanonicalValues v) (n : ℕ) (word : n < 4294967296) (has : HasValue lane w n v) (z : ℕ) where
  pub if_counted_is : (o : Option Interval) → only_number v ≡ o → (c : Interval) → if_counted z o ≡ Some c → IsCount z n c
  if_counted_is None only c e = absurd (none-some _ e)
  if_counted_is (Some x) only c e = by (int_le (pos 0) x.lo && nat_le (unsigned_abs x.hi * z) (2 ^ 20)) refl e
    where
      canonical : IsCanonical x
      canonical = only_canonical v x fv only

      member : IsMember (concrete.number n) x
      member = only_has lane w n word v x only has

      made : pos 0 ≤ℤ x.lo → IsCount z n x
      made natural =
          let reached : concrete.number n ≡ x.lo +ℤ pos (member.turns * x.stride) = member.reached in
          let up : pos 0 ≤ℤ concrete.number n = omega (arith, ints) in
          let plain : pos n ≡ concrete.number n = ap pos (sym (word-number n word)) ∙ word-natural (concrete.number n) up in
          let under : concrete.number n ≤ℤ x.hi = member.in_range in
          let high : pos (unsigned_abs x.hi) ≡ x.hi = abs-natural x.hi (omega (arith, ints)) in
          let most : n ≤ unsigned_abs x.hi = omega (arith, ints) in
          record {
            canonical = canonical;
            member = member;
            within = mul-le-mul_right z most;
            alone = λ single.
                let lo : concrete.number n ≡ x.lo = member_single (concrete.number n) x single member in
                let both : x.lo ≡ x.hi = canonical.alone.0 single in
                let same : n ≡ unsigned_abs x.hi = omega (arith, ints) in
                ap (λ k. k * z) same;
          }

      by : (t : Bool) → (int_le (pos 0) x.lo && nat_le (unsigned_abs x.hi * z) (2 ^ 20)) ≡ t → cond t (Some x) None ≡ Some c → IsCount z n c
      by true is f = subst (IsCount z n) (same_Some x c f) (made (int_le_true (pos 0) x.lo (and_parts (int_le (pos 0) x.lo) (nat_le (unsigned_abs x.hi * z) (2 ^ 20)) is).0))
      by false is f = absurd (none-some _ f)

-- DF is clear where it is sure to be
up_is : (may : MayBe) (down : Bool) → may 5 down ≡ true → goes_up may ≡ true → down ≡ false
up_is may false is up = refl
up_is may true is up = absurd (by (may 5 true) is (and_parts (may 5 false) (not (may 5 true)) up).1)
  where
    by : (b : Bool) → b ≡ true → not b ≡ true → ⊥
    by true e f = false≢true f
    by false e f = false≢true e

module _ (image : Image) (lane p : ℕ) (a : AbsState) (s : State) (known_ : IsKnown image lane a p s) (form : HasCanonical a) where
  -- the number of elements of a repeated instruction is known where it goes upwards
  pub count_is : (z : ℕ) (c : Interval) → count_of a z ≡ Some c → (s.flags 5 ≡ false) × IsCount z (s.registers 1) c
  count_is z c e = by (goes_up a.flags) refl e
    where
      by : (t : Bool) → goes_up a.flags ≡ t → cond t (if_counted z (only_number (a.registers 1))) None ≡ Some c → (s.flags 5 ≡ false) × IsCount z (s.registers 1) c
      by true up f = (
        up_is a.flags (s.flags 5) (known_.stands.flags 5 (lit< tt)) up,
        if_counted_is lane (world_of s) (a.registers 1) (form.registers 1) (s.registers 1) (known_.whole.laid_out.sized.registers 1) (known_.stands.registers 1 (lit< tt)) z (only_number (a.registers 1)) refl c f,
      )
      by false up f = absurd (none-some _ f)
