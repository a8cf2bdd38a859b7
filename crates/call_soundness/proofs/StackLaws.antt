-- The stack pointer at a call: how far it lies from the base of the newest activation, and the return slot below it.
use Rattle.std.proofs.Common.{◌≡◌, inl, inr, ℕ, ◌+◌, ◌^◌, ◌≤◌, Bool, true, false, cond, [], ◌∷◌, Option, Some, None, refl, ◌∙◌, ap, subst, arith, lit<, pos, negsuc}
use Rattle.std.specs.Prelude.{ℤ, ◌+ℤ◌, ◌-ℤ◌, ◌≤ℤ◌, FitsSigned}
use Rattle.std.specs.Int.{w32}
use Rattle.std.proofs.Math.Nat.{zero-div}
use Rattle.std.proofs.lemmas.Int.{ints}
use Rattle.std.proofs.lemmas.Bool.{cond_both}
use Rattle.std.proofs.lemmas.Option.{none-some}
use Rattle.image_map.specs.declared.image.Image.{Image}
use Rattle.image_map.specs.declared.region.Activation.{Activation}
use Rattle.image_map.specs.declared.region.RegionId.TheVariants.{Frame}
use Rattle.image_map.specs.Regions.{same_region}
use Rattle.image_map.proofs.OrderLaws.{same_region-equal}
use Rattle.ia32_semantics.specs.CallModel.{AreActivations}
use Rattle.ia32_semantics.specs.State.{State}
use Rattle.strided.specs.Concrete.{signed}
use Rattle.strided.specs.Gcd.{gcd}
use Rattle.strided.specs.Interval.{Interval, IsCanonical, one}
use Rattle.strided.specs.Operations as interval
use Rattle.strided.specs.Operations.{only}
use Rattle.strided.specs.Rows.{turned}
use Rattle.strided.proofs.MemberLemmas.{one_canonical}
use Rattle.strided.proofs.NumberLemmas.{only_tells}
use Rattle.strided.proofs.SpacedLemmas.{spaced_one}
use Rattle.strided.proofs.SumLemmas.{one_member, signed_fits, signed_is_turned, sub_wrapped}
use Rattle.vset.specs.declared.part.Part.{Part}
use Rattle.vset.specs.Members.{HasValue, IsInParts}
use Rattle.vset.specs.Operations as values
use Rattle.vset.specs.Operations.{part}
use Rattle.vset.specs.Values.{Values, Top, Parts, CanonicalValues, says_nothing, settled}
use Rattle.vset.specs.World.{ActivationAt, base_of}
use Rattle.abs_semantics.specs.declared.parts.Reason.TheVariants.{UnknownWrite}
use Rattle.abs_semantics.specs.States.{AbsState, HasCanonical}
use Rattle.abs_semantics.specs.StandsFor.{world_of}
use Rattle.abs_semantics.specs.Ownership.{IsKnown}
use Rattle.abs_semantics.specs.Resolve.{resolve, rising_onto, levels, most_links, verdict}
use Rattle.abs_semantics.proofs.ClimbLemmas.{met_here}
use Rattle.abs_semantics.proofs.LevelLemmas.{few_told}
use Rattle.abs_semantics.proofs.StackLemmas.{exact, base_bounds}
use Rattle.abs_semantics.proofs.ThingLemmas.{one_thing}
use Rattle.abs_semantics.proofs.VerdictLemmas.{Passes, FrameFacts, frame_facts}
use Rattle.abs_steps.specs.Rows.{pushed_at}
use Rattle.abs_steps.specs.Successors.{offset_in, frame_offset, stack_offset, slot_below}

-- -- A value that is one offset in the newest activation

frame_is : (p : ℕ) (x : Part) (offset : ℤ) → IsCanonical x.si → offset_in p x ≡ Some offset → (x.region ≡ Frame p) × (x.si ≡ one offset)
frame_is p x offset form e =
    cond_both (same_region x.region (Frame p)) (only x.si) None (λ (o : Option ℤ). o ≡ Some offset → (x.region ≡ Frame p) × (x.si ≡ one offset))
    (λ yes f. (same_region-equal x.region (Frame p) yes, (only_tells (only x.si) x.si form refl offset).0 f))
    (λ _ f. absurd (none-some offset f)) e

value_is : (p : ℕ) (v : Values) (offset : ℤ) → CanonicalValues v → frame_offset p v ≡ Some offset → v ≡ Parts (part (Frame p) (one offset) ∷ [])
value_is p Top offset form e = absurd (none-some offset e)
value_is p (Parts []) offset form e = absurd (none-some offset e)
value_is p (Parts (x ∷ [])) offset form e = let is = frame_is p x offset form.0 e in (λ i. Parts (part (is.0 i) (is.1 i) ∷ []))
value_is p (Parts (x ∷ y ∷ zs)) offset form e = absurd (none-some offset e)

value_form : (p : ℕ) (v : Values) (offset : ℤ) → CanonicalValues v → frame_offset p v ≡ Some offset → IsCanonical (one offset)
value_form p v offset form e = (subst CanonicalValues (value_is p v offset form e) form).0

-- -- The return slot

abbrev slot_part : ℕ → ℤ → Part
slot_part p offset = part (Frame p) (interval.sub (one offset) (one (pos 4)))

pushed_is : (p : ℕ) (offset : ℤ) → pushed_at (Parts (part (Frame p) (one offset) ∷ [])) ≡ settled (slot_part p offset ∷ [])
unfolding values.sub values.gathered values.with_part settled
pushed_is p offset = refl

module _ (a : AbsState) (p : ℕ) (offset : ℤ) where
  abbrev z : Part
  z = slot_part p offset

  slot_passes : (resolve a p (settled (z ∷ [])) 4).reasons ≡ [] → Passes (verdict a p 4 0 z)
  unfolding settled resolve rising_onto
  slot_passes e = by (says_nothing (z ∷ [])) e
    where
      by : (b : Bool) → (resolve a p (cond b Top (Parts (z ∷ []))) 4).reasons ≡ [] → Passes (verdict a p 4 0 z)
      by true f = absurd (let g : UnknownWrite ∷ [] ≡ [] = f in cc)
      by false f = (few_told a p 4 (levels a p 4 (most_links a + 1) 0 (z ∷ [])) f).1 0 z (met_here a p 4 (most_links a + 1) 0 (z ∷ []) z (inl refl))

  slot_facts : (resolve a p (settled (z ∷ [])) 4).reasons ≡ [] → FrameFacts a p 4 0 p false z.si
  unfolding verdict
  slot_facts e = frame_facts a p 4 0 p false z.si (slot_passes e)

-- a difference that lies near isn't one that has gone round
sub_is : (offset : ℤ) → IsCanonical (one offset) → offset ≤ℤ pos 0 → negsuc 1048575 ≤ℤ (interval.sub (one offset) (one (pos 4))).lo → ((interval.sub (one offset) (one (pos 4))).hi +ℤ pos 4) ≤ℤ pos 65536
    → interval.sub (one offset) (one (pos 4)) ≡ one (offset -ℤ pos 4)
sub_is offset form high from to =
    let four : FitsSigned w32 (pos 4) = omega (arith, ints) in
    let w = sub_wrapped (one offset) (one (pos 4)) form (one_canonical (pos 4) four) in
    let near = signed_is_turned (offset -ℤ pos 4) in
    let fits : FitsSigned w32 (signed (offset -ℤ pos 4)) = signed_fits (offset -ℤ pos 4) in
    let is : signed (offset -ℤ pos 4) ≡ turned (offset -ℤ pos 4) near.0 = near.1 in
    let there : ℤ = turned (offset -ℤ pos 4) near.0 in
    let all : interval.sub (one offset) (one (pos 4)) ≡ one there =
    w.moved near.0 (omega (arith, ints)) (omega (arith, ints)) ∙ spaced_one (gcd 0 0) 0 there there (omega (arith, ints)) (zero-div (gcd 0 0)) in
    let lo_is : (interval.sub (one offset) (one (pos 4))).lo ≡ turned (offset -ℤ pos 4) near.0 = ap (λ (x : Interval). x.lo) all in
    let hi_is : (interval.sub (one offset) (one (pos 4))).hi ≡ turned (offset -ℤ pos 4) near.0 = ap (λ (x : Interval). x.hi) all in
    let low : negsuc 2147483647 ≤ℤ offset = form.low in
    let same : turned (offset -ℤ pos 4) near.0 ≡ offset -ℤ pos 4 = omega (arith, ints) in
    all ∙ ap one same

-- -- At a call

-- the stack pointer lies so far from the base of the newest activation, and the return slot below it
pub record IsAtCall (s : State) (newest : Activation) (offset : ℤ) : Type 0 where
  pub slot : slot_below offset ≡ offset -ℤ pos 4
  pub low : negsuc 1048571 ≤ℤ offset
  pub high : offset ≤ℤ pos 0
  pub esp : pos (s.registers 4) ≡ pos newest.base +ℤ offset

module _ (image : Image) (lane p : ℕ) (a : AbsState) (s : State) (known_ : IsKnown image lane a p s) (form : HasCanonical a) (offset : ℤ) (is : stack_offset p a ≡ Some offset) (high : offset ≤ℤ pos 0) where
  esp_value : a.registers 4 ≡ Parts (part (Frame p) (one offset) ∷ [])
  esp_value = value_is p (a.registers 4) offset (form.registers 4) is

  esp_from : negsuc 1048575 ≤ℤ offset → IsInParts lane (world_of s) (s.registers 4) (part (Frame p) (one offset) ∷ []) → pos (s.registers 4) ≡ pos known_.newest.base +ℤ offset
  esp_from low (inr h) = absurd h
  esp_from low (inl m) =
      let same : m.thing ≡ ActivationAt [] known_.newest known_.others =
      one_thing lane s (Frame p) m.thing (ActivationAt [] known_.newest known_.others) refl m.is_in known_.activations m.region (ap Frame known_.runs) in
      let base : base_of m.thing ≡ known_.newest.base = ap base_of same in
      let there : m.offset ≡ offset = one_member offset m.offset m.within in
      let bounds = base_bounds image s.memory s.slot known_.newest known_.others (subst (AreActivations image s.memory s.slot) known_.activations known_.whole.activations) in
      let base_low : s.slot ≤ known_.newest.base + 2 ^ 20 = bounds.1 in
      let base_high : known_.newest.base ≤ s.slot = bounds.0 in
      let above : 0xB0000000 + 2 ^ 20 ≤ s.slot = known_.whole.laid_out.slot.above in
      let below : s.slot + 2 ^ 16 ≤ 0xC0000000 = known_.whole.laid_out.slot.below in
      exact (s.registers 4) (pos known_.newest.base +ℤ offset) (known_.whole.laid_out.sized.registers 4) (omega (arith, ints)) (omega (arith, ints))
      (m.reached ∙ ap signed (let e : pos (base_of m.thing) +ℤ m.offset ≡ pos known_.newest.base +ℤ offset = omega (arith, ints) in e))

  -- a stack pointer that isn't far below the base
  pub esp_near : negsuc 1048575 ≤ℤ offset → pos (s.registers 4) ≡ pos known_.newest.base +ℤ offset
  esp_near low = esp_from low (subst (λ v. HasValue lane (world_of s) (s.registers 4) v) esp_value (known_.stands.registers 4 (lit< tt)))

  module _ (quiet : (resolve a p (pushed_at (a.registers 4)) 4).reasons ≡ []) where
    facts : FrameFacts a p 4 0 p false (interval.sub (one offset) (one (pos 4)))
    facts = slot_facts a p offset (subst (λ v. (resolve a p v 4).reasons ≡ []) (ap pushed_at esp_value ∙ pushed_is p offset) quiet)

    difference : interval.sub (one offset) (one (pos 4)) ≡ one (offset -ℤ pos 4)
    difference = sub_is offset (value_form p (a.registers 4) offset (form.registers 4) is) high facts.low facts.high

    pub at_call : IsAtCall s known_.newest offset
    at_call =
        let lo_is : (interval.sub (one offset) (one (pos 4))).lo ≡ offset -ℤ pos 4 = ap (λ (x : Interval). x.lo) difference in
        let near : negsuc 1048575 ≤ℤ (interval.sub (one offset) (one (pos 4))).lo = facts.low in
        record { slot = lo_is; low = omega (arith, ints); high = high; esp = esp_near (omega (arith, ints)) }
