-- A write that reaches into no return slot leaves them all.
use Rattle.std.proofs.Common.{◌≡◌, ℕ, ◌+◌, ◌-◌, ◌^◌, ◌<◌, ◌≤◌, ⊎_elim, Bool, true, false, List, [], ◌∷◌, ◌++◌, refl, sym, ◌∙◌, ap, subst, arith, pos, ◌+ℤ◌}
use Rattle.std.specs.Prelude.{nat_le, nat_lt, is_some, option_map, if◌then◌else◌}
use Rattle.std.specs.List.{list_any}
use Rattle.std.proofs.lemmas.Int.{ints}
use Rattle.std.proofs.lemmas.List.{append_assoc}
use Rattle.std.proofs.lemmas.Bool.{and_from, le-leb, lt-ltb, true≢false}
use Rattle.image_map.specs.declared.image.Image.{Image}
use Rattle.image_map.specs.declared.region.Activation.{Activation}
use Rattle.image_map.specs.declared.region.RegionId.{RegionId}
use Rattle.image_map.specs.declared.region.RegionId.TheVariants.{Frame, OldFrame}
use Rattle.ia32_semantics.specs.CallModel.{AreActivations}
use Rattle.ia32_semantics.specs.Outcome.{is_in_stack}
use Rattle.ia32_semantics.specs.State.{State, Bytes, little_endian, word_at}
use Rattle.vset.specs.Values.{AreCanonical}
use Rattle.vset.specs.declared.part.Part.{Part}
use Rattle.vset.specs.World.{ActivationAt, region_of, is_called}
use Rattle.abs_semantics.specs.States.{AbsState}
use Rattle.abs_semantics.specs.Resolve.{resolve}
use Rattle.abs_semantics.specs.Touching.{meeting, is_frame, slot_of, touches_slot}
use Rattle.abs_semantics.specs.StandsFor.{EndsAbove, IsCellOf}
use Rattle.abs_semantics.specs.Ownership.{IsKnown, IsOwnedAmong}
use Rattle.abs_semantics.specs.Stores.{IsStored}
use Rattle.abs_semantics.specs.Laws.{SlotsAreLeft}
use Rattle.abs_semantics.proofs.ChainLemmas.{bounds}
use Rattle.abs_semantics.proofs.EntryLemmas.{entries_form, none_among}
use Rattle.abs_semantics.proofs.MeetLemmas.{Shares, shares_or_apart}
use Rattle.abs_semantics.proofs.OwnerLemmas.{resolved_bytes}
use Rattle.abs_semantics.proofs.StackLemmas.{newer_below, raised}
use Rattle.abs_semantics.proofs.StoreLemmas.{apart_bytes}
use Rattle.abs_semantics.proofs.WriteLemmas.{met_among}

ends_slot : (y : ℕ) (x : Activation) (older : List Activation) → y < x.base + 4 → EndsAbove y x older
ends_slot y x [] lt = tt
ends_slot y x (o ∷ older) lt = lt

frame_region : (t : Bool) (q : ℕ) → is_frame (if t then OldFrame q else Frame q) ≡ true
frame_region true q = refl
frame_region false q = refl

module _ (image : Image) (lane : ℕ) (a : AbsState) (p : ℕ) (s : State) (known : IsKnown image lane a p s) (at count len : ℕ) (within : count ≤ len) (memory : Bytes) (stored : IsStored image s at count memory) (xs : List Part) (forms : AreCanonical xs)
    (owned : IsOwnedAmong lane s at count xs) (none : list_any (touches_slot len) xs ≡ false) where
  module _ (newer : List Activation) (x : Activation) (older : List Activation) (split : s.activations ≡ newer ++ (x ∷ older)) where
    region : RegionId
    region = region_of lane (ActivationAt newer x older)

    -- the return slot is a cell of its activation
    slot : IsCellOf lane s (ActivationAt newer x older) (slot_of (region_of lane (ActivationAt newer x older))) x.base 4
    slot =
        record {
          is_in = split;
          region = refl;
          lies = record {
            start = (let e : pos x.base ≡ pos x.base +ℤ pos 0 = omega (arith, ints) in e);
            end = refl;
            owned = λ k lt. (
              stack k lt,
              raised x.base (x.base + k) newer (omega arith) (newer_below image s.memory s.slot newer x older (subst (AreActivations image s.memory s.slot) split known.whole.activations)),
              ends_slot (x.base + k) x older (omega arith),
            );
          };
        }
      where
        stack : (k : ℕ) → k < 4 → is_in_stack s.slot (x.base + k) ≡ true
        stack k lt =
            let base = bounds image lane a p s known newer x older split in
            let base_low : s.slot ≤ x.base + 2 ^ 20 = base.1 in
            let base_high : x.base ≤ s.slot = base.0 in
            let above : 0xB0000000 + 2 ^ 20 ≤ s.slot = known.whole.laid_out.slot.above in
            and_from (nat_le (s.slot - 2 ^ 20) (x.base + k)) (nat_lt (x.base + k) (s.slot + 2 ^ 16)) (le-leb (s.slot - 2 ^ 20) (x.base + k) (omega arith)) (lt-ltb (x.base + k) (s.slot + 2 ^ 16) (omega arith))

    slot_word : word_at memory x.base ≡ word_at s.memory x.base
    slot_word = ap (option_map little_endian) (apart_bytes lane a s known.stands image at count memory stored.others x.base 4 (⊎_elim (λ shares. absurd (no_share shares)) (λ apart. apart) (shares_or_apart at count x.base 4)))
      where
        no_share : Shares at count x.base 4 → ⊥
        no_share shares =
            let m = met_among image lane a p s known at count memory stored len within xs forms owned (ActivationAt newer x older) (slot_of (region_of lane (ActivationAt newer x older))) x.base 4 slot shares in
            let by = m.2 in
            let frame : is_frame m.0.region ≡ true = ap is_frame by.region ∙ frame_region (is_called x.callee newer) x.callee in
            let met = subst (λ r. is_some (meeting m.0.si len (slot_of r)) ≡ true) (sym by.region) (ap is_some by.meeting.is) in
            true≢false (sym (and_from (is_frame m.0.region) (is_some (meeting m.0.si len (slot_of m.0.region))) frame met) ∙ none_among (touches_slot len) m.0 xs m.1 none)

  slots_from : (newer xs' : List Activation) → s.activations ≡ newer ++ xs' → AreActivations image s.memory s.slot xs' → AreActivations image memory s.slot xs'
  slots_from newer [] split chain = chain
  slots_from newer (x ∷ []) split chain =
      (chain.0, subst (λ b. word_at memory b ≡ word_at s.memory b) chain.0 (slot_word newer x [] split) ∙ chain.1)
  slots_from newer (x ∷ y ∷ older) split chain =
      (chain.0, chain.1, (chain.2.0, chain.2.1, slot_word newer x (y ∷ older) split ∙ chain.2.2), slots_from (newer ++ (x ∷ [])) (y ∷ older) (split ∙ sym (append_assoc newer (x ∷ []) (y ∷ older))) chain.3)

pub slots_are_left : SlotsAreLeft
slots_are_left image lane a p s v at count len memory known form form_v range quiet none stored =
    slots_from image lane a p s known at count len range.within memory stored (resolve a p v len).entries (entries_form a p len form.links v form_v)
    (resolved_bytes image lane a p s v at count len known range quiet) none [] s.activations refl known.whole.activations
