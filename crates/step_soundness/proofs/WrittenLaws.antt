-- Where no warning stands, what an instruction writes reaches into no return slot.
use Rattle.std.proofs.Common.{◌≡◌, inl, inr, ℕ, ◌+◌, ◌-◌, ◌^◌, ◌<◌, ◌≤◌, ◌==◌, Bool, true, false, cond, List, [], ◌∷◌, ◌++◌, Option, Some, None, refl, sym, ◌∙◌, ap, subst, arith, pos, ◌+ℤ◌}
use Rattle.std.specs.Prelude.{nat_le, nat_lt, is_some}
use Rattle.std.proofs.lemmas.Int.{ints}
use Rattle.std.proofs.lemmas.Bool.{true≢false, cond_both, and_from, le-leb, lt-ltb}
use Rattle.image_map.specs.declared.image.Image.{Image}
use Rattle.image_map.specs.declared.region.Activation.{Activation}
use Rattle.image_map.specs.declared.region.RegionId.TheVariants.{Frame, OldFrame}
use Rattle.ia32_types.specs.declared.Op.{Op}
use Rattle.ia32_types.specs.declared.Op.TheVariants as op
use Rattle.ia32_types.specs.declared.Instr.{Instr}
use Rattle.ia32_types.specs.declared.Operand.{Operand}
use Rattle.ia32_types.specs.declared.Operand.TheVariants as operand
use Rattle.ia32_types.specs.declared.Width.{Width}
use Rattle.ia32_types.specs.declared.Width.TheVariants.{B8, W16, D32}
use Rattle.ia32_types.specs.Numbers.{size}
use Rattle.ia32_types.specs.Operands.{IsAddress, IsRegister, IsPlace, IsTarget, HasOne, HasTwo, IsProduct, HasOperands}
use Rattle.ia32_semantics.specs.CallModel.{AreActivations}
use Rattle.ia32_semantics.specs.Outcome.{is_in_stack}
use Rattle.ia32_semantics.specs.State.{State}
use Rattle.alocs.specs.Cells.{Division}
use Rattle.vset.specs.Values.{Values, CanonicalValues}
use Rattle.vset.specs.World.{ActivationAt, region_of, is_called}
use Rattle.abs_semantics.specs.States.{AbsState, HasCanonical}
use Rattle.abs_semantics.specs.StandsFor.{EndsAbove, IsCellOf, world_of}
use Rattle.abs_semantics.specs.Ownership.{IsKnown}
use Rattle.abs_semantics.specs.Operands.{address}
use Rattle.abs_semantics.specs.Resolve.{resolve}
use Rattle.abs_semantics.specs.Touching.{meeting, is_frame, slot_of, touches_slot}
use Rattle.abs_semantics.proofs.ChainLemmas.{bounds}
use Rattle.abs_semantics.proofs.EntryLemmas.{entries_form, form_of, one_owned, none_among}
use Rattle.abs_semantics.proofs.MeetLemmas.{Shares, met_by}
use Rattle.abs_semantics.proofs.OwnerLemmas.{resolved_bytes}
use Rattle.abs_semantics.proofs.StackLemmas.{newer_below, raised}
use Rattle.abs_steps.specs.declared.accesses.Access.{Access}
use Rattle.abs_steps.specs.Accesses.{access, of_operand, string_range, range_of, product_written, writes}
use Rattle.abs_steps.specs.Strings.{count_of, bytes_of}
use Rattle.strided.specs.Interval.{Interval}
use Rattle.step_soundness.specs.Accessed.{IsNear, IsWithin, IsAccessed}
use Rattle.step_soundness.proofs.OperandLaws.{registers_hold}
use Rattle.step_soundness.proofs.PointerLaws.{address_form}
use Rattle.step_soundness.proofs.RowLaws.{spelt_address}
use Rattle.step_soundness.proofs.StackRows.{raised_abs, raised_state, raised_since}
use Rattle.step_soundness.proofs.ValueForms.{pushed_form}
use Rattle.step_soundness.proofs.WriteLaws.{IsQuiet, AreQuiet}

-- -- Addresses of operands

-- an operand in memory has an address as bytes spell it
abbrev pub IsSpelt : Option Operand → Type 0
IsSpelt (Some (operand.Mem m)) = IsAddress m
IsSpelt _ = Unit {0}

spelt_one : (P : Operand → Type 0) → ((x : Operand) → P x → IsSpelt (Some x)) → (dst src : Option Operand) (imm : Option ℕ) → HasOne P dst src imm → IsSpelt dst
spelt_one P each None src imm fits = tt
spelt_one P each (Some x) None None fits = each x fits
spelt_one P each (Some x) None (Some n) fits = absurd fits
spelt_one P each (Some x) (Some y) imm fits = absurd fits

spelt_two : (P : Operand → Operand → Type 0) → ((x y : Operand) → P x y → IsSpelt (Some x)) → (dst src : Option Operand) (imm : Option ℕ) → HasTwo P dst src imm → IsSpelt dst
spelt_two P each None src imm fits = tt
spelt_two P each (Some x) None imm fits = absurd fits
spelt_two P each (Some x) (Some y) None fits = each x y fits
spelt_two P each (Some x) (Some y) (Some n) fits = absurd fits

target_spelt : (width : Width) (x : Operand) → IsTarget width x → IsSpelt (Some x)
target_spelt width (operand.Reg r) is = tt
target_spelt width (operand.High r) is = tt
target_spelt width (operand.Imm n) is = tt
target_spelt width (operand.Mem m) is = is.0

place_spelt : (width : Width) (x : Operand) → IsPlace width x → IsSpelt (Some x)
place_spelt width (operand.Reg r) is = tt
place_spelt width (operand.High r) is = tt
place_spelt width (operand.Imm n) is = tt
place_spelt width (operand.Mem m) is = is

register_spelt : (width : Width) (x : Operand) → IsRegister width x → IsSpelt (Some x)
register_spelt width (operand.Reg r) is = tt
register_spelt width (operand.High r) is = tt
register_spelt width (operand.Imm n) is = tt
register_spelt B8 (operand.Mem m) is = absurd is
register_spelt W16 (operand.Mem m) is = absurd is
register_spelt D32 (operand.Mem m) is = absurd is

product_spelt : (width : Width) (dst src : Option Operand) (imm : Option ℕ) → IsProduct width dst src imm → IsSpelt dst
product_spelt width None src imm fits = tt
product_spelt width (Some x) None None fits = place_spelt width x fits
product_spelt width (Some x) None (Some n) fits = absurd fits
product_spelt width (Some x) (Some y) None fits = register_spelt width x fits.1
product_spelt width (Some x) (Some y) (Some n) fits = register_spelt width x fits.1

second_register : (width : Width) (dst src : Option Operand) (imm : Option ℕ) → HasTwo (λ x y. IsTarget width x × IsRegister width y) dst src imm → IsSpelt src
second_register width None src imm fits = by src imm fits
  where
    by : (src : Option Operand) (imm : Option ℕ) → HasTwo (λ x y. IsTarget width x × IsRegister width y) None src imm → IsSpelt src
    by None imm fits = tt
    by (Some y) imm fits = absurd fits
second_register width (Some x) None imm fits = tt
second_register width (Some x) (Some y) None fits = register_spelt width y fits.1
second_register width (Some x) (Some y) (Some n) fits = absurd fits

-- -- Accesses whose addresses have the one form

abbrev pub HaveForm : List Access → Type 0
HaveForm [] = Unit {0}
HaveForm (x ∷ xs) = CanonicalValues x.addr × HaveForm xs

form_both : (xs ys : List Access) → HaveForm xs → HaveForm ys → HaveForm (xs ++ ys)
form_both [] ys h k = k
form_both (x ∷ xs) ys h k = (h.0, form_both xs ys h.1 k)

pub range_form : (v : Values) → CanonicalValues v → (z : ℕ) (o : Option Interval) → HaveForm (range_of true v z o)
range_form v fv z None = (fv, tt)
range_form v fv z (Some c) = cond_both (bytes_of z c == 0) [] (access true v (Some (bytes_of z c)) ∷ []) HaveForm (λ _. tt) (λ _. (fv, tt))

operand_access : (image : Image) (lane p : ℕ) (a : AbsState) (s : State) (d : Division) → IsKnown image lane a p s → HasCanonical a → (width : Width) (o : Option Operand) → IsSpelt o → HaveForm (of_operand true a width o)
operand_access image lane p a s d known_ form width None is = tt
operand_access image lane p a s d known_ form width (Some (operand.Reg r)) is = tt
operand_access image lane p a s d known_ form width (Some (operand.High r)) is = tt
operand_access image lane p a s d known_ form width (Some (operand.Imm n)) is = tt
operand_access image lane p a s d known_ form width (Some (operand.Mem m)) is =
    let spelt = spelt_address m is in
    cond_both m.gs [] (access true (address a m) (Some (size width)) ∷ []) HaveForm (λ _. tt)
    (λ _. (address_form lane (world_of s) a s (registers_hold image lane a p s d known_ form) m (omega (arith, spelt)) spelt.1, tt))

module _ (image : Image) (lane p : ℕ) (a : AbsState) (s : State) (d : Division) (known_ : IsKnown image lane a p s) (form : HasCanonical a) where
  first_form : (i : Instr) → IsSpelt i.dst → HaveForm (of_operand true a i.width i.dst)
  first_form i is = operand_access image lane p a s d known_ form i.width i.dst is

  string_form : (repeat : Bool) (width : Width) → HaveForm (string_range true a repeat width (a.registers 7))
  string_form false width = (form.registers 7, tt)
  string_form true width = range_form (a.registers 7) (form.registers 7) (size width) (count_of a (size width))

  product_form : (i : Instr) → IsSpelt i.dst → (src : Option Operand) → HaveForm (product_written a i src)
  product_form i is None = tt
  product_form i is (Some x) = first_form i is

  pair_spelt : (i : Instr) → HasOperands op.Mov i.width i.dst i.src i.imm → IsSpelt i.dst
  pair_spelt i fits = spelt_two _ (λ x y h. target_spelt i.width x h.0) i.dst i.src i.imm fits

  changed_spelt : (i : Instr) → HasOperands op.Inc i.width i.dst i.src i.imm → IsSpelt i.dst
  changed_spelt i fits = spelt_one _ (target_spelt i.width) i.dst i.src i.imm fits

  shifted_spelt : (i : Instr) → HasOperands op.Shl i.width i.dst i.src i.imm → IsSpelt i.dst
  shifted_spelt i fits = spelt_two _ (λ x y h. target_spelt i.width x h.0) i.dst i.src i.imm fits

  extended_spelt : (from : Width) (i : Instr) → HasOperands (op.Movzx from) i.width i.dst i.src i.imm → IsSpelt i.dst
  extended_spelt from i fits = spelt_two _ (λ x y h. register_spelt i.width x h.0) i.dst i.src i.imm fits.2

  -- what an instruction writes
  pub written_form : (o : Op) (i : Instr) → HasOperands o i.width i.dst i.src i.imm → HaveForm (writes o a i)
  unfolding writes
  written_form op.Add i fits = first_form i (pair_spelt i fits)
  written_form op.Or i fits = first_form i (pair_spelt i fits)
  written_form op.Adc i fits = first_form i (pair_spelt i fits)
  written_form op.Sbb i fits = first_form i (pair_spelt i fits)
  written_form op.And i fits = first_form i (pair_spelt i fits)
  written_form op.Sub i fits = first_form i (pair_spelt i fits)
  written_form op.Xor i fits = first_form i (pair_spelt i fits)
  written_form op.Mov i fits = first_form i (pair_spelt i fits)
  written_form op.Lea i fits = first_form i (spelt_two _ (λ x y h. register_spelt D32 x h.0) i.dst i.src i.imm fits.1)
  written_form op.Push i fits = (pushed_form (a.registers 4) (form.registers 4), tt)
  written_form op.Call i fits = (pushed_form (a.registers 4) (form.registers 4), tt)
  written_form op.Pop i fits =
      operand_access image lane p (raised_abs image lane p a s d known_ form) (raised_state image lane p a s d known_ form) d (raised_since image lane p a s d known_ form).known (raised_since image lane p a s d known_ form).form
      i.width i.dst (spelt_one _ (target_spelt D32) i.dst i.src i.imm fits.1)
  written_form op.Xchg i fits =
      form_both (of_operand true a i.width i.dst) (of_operand true a i.width i.src) (first_form i (spelt_two _ (λ x y h. target_spelt i.width x h.0) i.dst i.src i.imm fits))
      (operand_access image lane p a s d known_ form i.width i.src (second_register i.width i.dst i.src i.imm fits))
  written_form op.Inc i fits = first_form i (changed_spelt i fits)
  written_form op.Dec i fits = first_form i (changed_spelt i fits)
  written_form op.Not i fits = first_form i (changed_spelt i fits)
  written_form op.Neg i fits = first_form i (changed_spelt i fits)
  written_form op.Imul i fits = product_form i (product_spelt i.width i.dst i.src i.imm fits) i.src
  written_form op.Shl i fits = first_form i (shifted_spelt i fits)
  written_form op.Shr i fits = first_form i (shifted_spelt i fits)
  written_form op.Sar i fits = first_form i (shifted_spelt i fits)
  written_form op.Rol i fits = first_form i (shifted_spelt i fits)
  written_form op.Ror i fits = first_form i (shifted_spelt i fits)
  written_form (op.Movzx from) i fits = first_form i (extended_spelt from i fits)
  written_form (op.Movsx from) i fits = first_form i (extended_spelt from i fits)
  written_form (op.Setcc c) i fits = first_form i (spelt_one _ (target_spelt B8) i.dst i.src i.imm fits.2)
  written_form (op.Movs rep) i fits = string_form rep i.width
  written_form (op.Stos rep) i fits = string_form rep i.width
  written_form _ i fits = tt

  -- -- Return slots

  module _ (newer : List Activation) (x : Activation) (older : List Activation) (split : s.activations ≡ newer ++ (x ∷ older)) where
    -- the return slot is a cell of its activation
    slot_cell : IsCellOf lane s (ActivationAt newer x older) (slot_of (region_of lane (ActivationAt newer x older))) x.base 4
    slot_cell =
        record {
          is_in = split;
          region = refl;
          lies = record {
            start = (let e : pos x.base ≡ pos x.base +ℤ pos 0 = omega (arith, ints) in e);
            end = refl;
            owned = λ k lt. (
              in_stack k lt,
              raised x.base (x.base + k) newer (omega arith) (newer_below image s.memory s.slot newer x older (subst (AreActivations image s.memory s.slot) split known_.whole.activations)),
              ends older k lt,
            );
          };
        }
      where
        ends : (older : List Activation) (k : ℕ) → k < 4 → EndsAbove (x.base + k) x older
        ends [] k lt = tt
        ends (y ∷ ys) k lt = omega (arith, lt)

        in_stack : (k : ℕ) → k < 4 → is_in_stack s.slot (x.base + k) ≡ true
        in_stack k lt =
            let base = bounds image lane a p s known_ newer x older split in
            let low : s.slot ≤ x.base + 2 ^ 20 = base.1 in
            let high : x.base ≤ s.slot = base.0 in
            let above : 0xB0000000 + 2 ^ 20 ≤ s.slot = known_.whole.laid_out.slot.above in
            and_from (nat_le (s.slot - 2 ^ 20) (x.base + k)) (nat_lt (x.base + k) (s.slot + 2 ^ 16)) (le-leb (s.slot - 2 ^ 20) (x.base + k) (omega (arith, low, high, above, lt))) (lt-ltb (x.base + k) (s.slot + 2 ^ 16) (omega (arith, high, lt)))

    frame_region : (t : Bool) (q : ℕ) → is_frame (cond t (OldFrame q) (Frame q)) ≡ true
    frame_region true q = refl
    frame_region false q = refl

    near_apart : (v : Values) (len byte : ℕ) → IsNear lane s v len byte → IsQuiet a p v (Some len) → CanonicalValues v → (k : ℕ) → k < 4 → byte ≡ x.base + k → ⊥
    near_apart v len byte near quiet fv k lt e =
        let is : byte ≡ near.at + near.distance = near.is in
        let in_ : near.distance < near.count = near.near in
        let owned = resolved_bytes image lane a p s v near.at near.count len known_ near.range quiet.0 in
        let forms = entries_form a p len form.links v fv in
        let shares : Shares near.at near.count x.base 4 = record { byte = byte; from = omega (arith, is); to = omega (arith, is, in_); cell_from = omega (arith, e); cell_to = omega (arith, e, lt) } in
        let part = one_owned lane s near.at near.count (resolve a p v len).entries owned in
        let met = met_by image lane s known_.image_is known_.whole.laid_out near.at near.count len (ActivationAt newer x older) (slot_of (region_of lane (ActivationAt newer x older))) x.base 4 part.0
        (form_of part.0 (resolve a p v len).entries forms part.1) near.range.within part.2 slot_cell shares in
        let frame : is_frame part.0.region ≡ true = ap is_frame met.region ∙ frame_region (is_called x.callee newer) x.callee in
        let touched = subst (λ r. is_some (meeting part.0.si len (slot_of r)) ≡ true) (sym met.region) (ap is_some met.meeting.is) in
        true≢false (sym (and_from (is_frame part.0.region) (is_some (meeting part.0.si len (slot_of part.0.region))) frame touched) ∙ none_among (touches_slot len) part.0 (resolve a p v len).entries part.1 quiet.1)

    -- a byte of a quiet access lies in no return slot
    pub accessed_apart : (xs : List Access) → AreQuiet a p xs → HaveForm xs → (byte : ℕ) → IsAccessed lane s xs byte → (k : ℕ) → k < 4 → byte ≡ x.base + k → ⊥
    accessed_apart [] quiet forms byte h k lt e = h
    accessed_apart (y ∷ ys) quiet forms byte (inl h) k lt e = by y.len quiet.0 h
      where
        by : (l : Option ℕ) → IsQuiet a p y.addr l → IsWithin lane s y.addr l byte → ⊥
        by None q h = q
        by (Some len) q h = near_apart y.addr len byte h q forms.0 k lt e
    accessed_apart (y ∷ ys) quiet forms byte (inr h) k lt e = accessed_apart ys quiet.1 forms.1 byte h k lt e
