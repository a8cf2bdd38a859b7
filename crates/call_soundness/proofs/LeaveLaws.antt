-- Returns: the stack pointer is that with which the activation began, and control goes on behind the call.
use Rattle.std.proofs.Common.{◌≡◌, ℕ, ◌+◌, ◌%◌, ◌^◌, ◌<◌, ◌≤◌, ◌||◌, Bool, true, false, not, cond, List, [], ◌∷◌, Option, Some, None, refl, sym, ◌∙◌, ap, subst, arith, pos, ◌&&◌}
use Rattle.std.specs.Prelude.{◌+ℤ◌, ◌-ℤ◌, ◌≤ℤ◌, is_some, nat_lt}
use Rattle.std.specs.Option.{option_map}
use Rattle.std.proofs.lemmas.Int.{ints}
use Rattle.std.proofs.lemmas.Bool.{true≢false, and_from}
use Rattle.std.proofs.lemmas.Option.{none-some, same_Some}
use Rattle.image_map.specs.declared.image.Image.{Image}
use Rattle.image_map.specs.declared.region.Activation.{Activation}
use Rattle.image_map.specs.declared.region.Settings.{Settings}
use Rattle.ia32_types.specs.declared.Instr.{Instr}
use Rattle.ia32_types.specs.declared.Op.TheVariants as op
use Rattle.ia32_types.specs.declared.Operand.{Operand}
use Rattle.ia32_types.specs.declared.Operand.TheVariants as operand
use Rattle.ia32_types.specs.declared.Width.TheVariants.{D32}
use Rattle.ia32_types.specs.Operands.{HasOperands, IsReturn}
use Rattle.ia32_semantics.specs.Effects.{with_part}
use Rattle.ia32_semantics.specs.Machine.{Occurrence}
use Rattle.ia32_semantics.specs.Operands as machine_operands
use Rattle.ia32_semantics.specs.Operands.{stored_word}
use Rattle.ia32_semantics.specs.Outcome as outcomes
use Rattle.ia32_semantics.specs.Outcome.{Outcome, made, is_any, is_in_stack, is_forgotten}
use Rattle.ia32_semantics.specs.Reading.{gives, ◌>>=◌, outcome}
use Rattle.ia32_semantics.specs.Rows as rows
use Rattle.ia32_semantics.specs.Rows.{next_place}
use Rattle.ia32_semantics.specs.State.{State, bytes_at, little_endian, word_at, AtByte}
use Rattle.ia32_semantics.specs.Step.{Act, act_row, IsPlaceAfter, returns_to_halt, forgets}
use Rattle.ia32_semantics.proofs.EffectLemmas.{or_false_left, or_false_right}
use Rattle.ia32_semantics.proofs.StepLemmas.{steps_stay_laid_out, forgets_are}
use Rattle.call_strings.specs.declared.context.Node.{Node}
use Rattle.abs_semantics.specs.States.{AbsState}
use Rattle.abs_semantics.specs.StandsFor.{IsLinked}
use Rattle.abs_steps.specs.Places.{Instruction, content_at}
use Rattle.abs_steps.specs.Rows.{view_of}
use Rattle.abs_steps.specs.Successors.{States, stack_offset, extra_of, is_at_slot, takes_too_much, returned_each, instruction_successors, successors_by, successors}
use Rattle.abs_steps.specs.Warnings.{loses_stack}
use Rattle.step_soundness.specs.Steps.{IsExecuted}
use Rattle.step_soundness.proofs.GivenLaws.{Gives, gives_bind, gives_this, gives_register}
use Rattle.step_soundness.proofs.OperandLaws.{number_outcome}
use Rattle.step_soundness.proofs.QuietLaws.{stack_kept}
use Rattle.call_soundness.specs.Calls.{IsReturned}
use Rattle.call_soundness.proofs.BackLaws.{Leaves, HasCaller, has_caller, kept_above, taken_less, is_zero, goes_back}
use Rattle.call_soundness.proofs.StackLaws.{esp_near}

-- the word at an address
pub word_gives : (s : State) (at : ℕ) → Gives s (λ byte. Unit {0}) (λ w. word_at s.memory at ≡ Some w) (stored_word at)
word_gives s at =
    record {
      given = λ words rest w e. by words rest w (bytes_at s.memory at 4) (sym (number_outcome 4 at s words) ∙ e);
      asked = λ words rest w e byte f. tt;
    }
  where
    by : (words rest : List ℕ) (w : ℕ) (r : Option (List ℕ)) → option_map {U = ℕ × List ℕ} (λ bytes. (little_endian bytes, words)) r ≡ Some (w, rest) → option_map little_endian r ≡ Some w
    by words rest w None g = absurd (none-some _ g)
    by words rest w (Some bytes) g = ap (λ (x : ℕ × List ℕ). Some x.0) (same_Some (little_endian bytes, words) (w, rest) g)

module _ (image : Image) (settings : Settings) (states : States) (n : Node) (a : AbsState) (i : Instr) (o : Occurrence Act)
    (h : IsExecuted image states.lane a n.context.proc states.cells i o) (content : content_at image settings n.at ≡ Instruction i) (returns : i.op ≡ op.Ret) where
  abbrev p : ℕ
  p = n.context.proc

  abbrev extra : ℕ
  extra = extra_of i.dst

  -- -- The row

  record Reads (dst : Option Operand) (done : Outcome) : Type 0 where
    pub place : ℕ
    pub is_place : word_at o.before.memory (o.before.registers 4) ≡ Some place
    pub is : done ≡ rows.returning [] (rows.risen (o.before.registers 4) (4 + extra_of dst)) place

  extra_gives : (dst src : Option Operand) (imm : Option ℕ) → IsReturn dst src imm → Gives o.before (λ byte. Unit {0}) (λ k. k ≡ extra_of dst) (rows.extra_bytes dst)
  unfolding rows.extra_bytes rows.immediate
  extra_gives None None None fits = gives_this o.before (λ byte. Unit {0}) _ 0 refl
  extra_gives (Some (operand.Imm k)) None None fits = gives_this o.before (λ byte. Unit {0}) _ k refl
  extra_gives (Some (operand.Reg r)) None None fits = absurd fits
  extra_gives (Some (operand.High r)) None None fits = absurd fits
  extra_gives (Some (operand.Mem m)) None None fits = absurd fits
  extra_gives None None (Some k) fits = absurd fits
  extra_gives None (Some y) imm fits = absurd fits
  extra_gives (Some x) None (Some k) fits = absurd fits
  extra_gives (Some x) (Some y) imm fits = absurd fits

  return_gives : (dst src : Option Operand) (imm : Option ℕ) → IsReturn dst src imm
      → Gives o.before (λ byte. Unit {0}) (Reads dst) (machine_operands.whole_register 4 >>= (λ sp. stored_word sp >>= (λ place. rows.extra_bytes dst >>= (λ k. gives (rows.returning [] (rows.risen sp (4 + k)) place)))))
  unfolding machine_operands.whole_register
  return_gives dst src imm fits =
      let sp = o.before.registers 4 in
      gives_register o.before (λ byte. Unit {0}) _ 4 _
      (gives_bind o.before (λ byte. Unit {0}) (λ w. word_at o.before.memory sp ≡ Some w) _ (stored_word sp) _ (word_gives o.before sp) (λ place is.
      gives_bind o.before (λ byte. Unit {0}) (λ k. k ≡ extra_of dst) _ (rows.extra_bytes dst) _ (extra_gives dst src imm fits) (λ k e.
      gives_this o.before (λ byte. Unit {0}) _ (rows.returning [] (rows.risen sp (4 + k)) place) (record { place = place; is_place = is; is = ap (λ j. rows.returning [] (rows.risen sp (4 + j)) place) e }))))

  done_reads : Reads i.dst h.step.done
  unfolding rows.row
  done_reads =
      let fits : (i.width ≡ D32) × IsReturn i.dst i.src i.imm = subst (λ c. HasOperands c i.width i.dst i.src i.imm) returns h.spelt.operands in
      (return_gives i.dst i.src i.imm fits.1).given o.choices [] h.step.done
      (subst (λ c. outcome (rows.row c i) o.before o.choices ≡ Some (h.step.done, [])) returns
      (subst (λ (c : Act). outcome (act_row c) o.before o.choices ≡ Some (h.step.done, [])) h.act h.step.row))

  -- -- The stack pointer is that with which the activation began

  kept : (not (is_at_slot p a) || takes_too_much p extra a) ≡ false
  unfolding loses_stack
  kept = subst (λ c. loses_stack c (view_of a states.cells p) i.dst ≡ false) returns (stack_kept a states.cells p image i h.quiet)

  at_slot : is_at_slot p a ≡ true
  at_slot = by (is_at_slot p a) (or_false_left _ _ kept)
    where
      by : (b : Bool) → not b ≡ false → b ≡ true
      by true e = refl
      by false e = absurd (true≢false e)

  few_taken : takes_too_much p extra a ≡ false
  few_taken = or_false_right _ _ kept

  pub sp_is : o.before.registers 4 ≡ h.known.newest.base
  sp_is =
      let e : pos (o.before.registers 4) ≡ pos h.known.newest.base +ℤ pos 0 =
      esp_near image states.lane p a o.before h.known h.canonical (pos 0) (is_zero (stack_offset p a) at_slot) (omega (arith, ints)) (omega (arith, ints)) in
      omega (arith, ints)

  memory_others : (y : ℕ) → (is_in_stack o.before.slot y ≡ true → rows.risen (o.before.registers 4) (4 + extra) ≤ y) → o.after.memory y ≡ o.before.memory y
  memory_others y above =
      h.step.memory.others y
      (ap (λ (x : Outcome). is_any x o.before y) done_reads.is ∙ kept_above o.before.slot (rows.risen (o.before.registers 4) (4 + extra)) y (is_some (o.before.memory y)) above)
      ∙ ap (λ (x : Outcome). (made x o.before).memory y) done_reads.is

  eip_after : o.after.eip ≡ done_reads.place % 4294967296
  eip_after = ap (λ (t : State). t.eip) h.step.after ∙ ap (λ (x : Outcome). (made x o.before).eip) done_reads.is

  -- -- Also where it is the last of a run

  pub returning_is : (place : ℕ) × (h.step.done ≡ rows.returning [] (rows.risen (o.before.registers 4) (4 + extra_of i.dst)) place)
  returning_is = (done_reads.place, done_reads.is)

  -- it takes no bytes of the caller's caller
  pub below_parent : (parent : Activation) (older : List Activation) → h.known.others ≡ parent ∷ older → h.known.newest.base + 4 + extra_of i.dst ≤ parent.base
  below_parent parent older has_parent =
      let split : o.before.activations ≡ h.known.newest ∷ parent ∷ older = h.known.activations ∙ ap (λ ys. h.known.newest ∷ ys) has_parent in
      let less : ((pos h.known.newest.base -ℤ pos parent.base) +ℤ pos (4 + extra)) ≤ℤ pos 0 =
      taken_less p parent.callee (pos h.known.newest.base -ℤ pos parent.base) extra a.links
      (subst (λ q. IsLinked a.links q false parent.callee (pos h.known.newest.base -ℤ pos parent.base)) h.known.runs (h.known.stands.links [] older h.known.newest parent split)) few_taken in
      omega (arith, ints)

  -- -- Where it isn't

  module _ (not_last : returns_to_halt o ≡ false) where
    caller : HasCaller image o o.before h.known.whole refl h.known.newest h.known.others h.known.activations done_reads.place (sym (ap (word_at o.before.memory) sp_is) ∙ done_reads.is_place) eip_after
    caller = has_caller image o o.before h.known.whole refl h.known.newest h.known.others h.known.activations done_reads.place (sym (ap (word_at o.before.memory) sp_is) ∙ done_reads.is_place) eip_after not_last

    -- -- With a caller

    module _ (parent : Activation) (older : List Activation) (has_parent : h.known.others ≡ parent ∷ older) (high_base : parent.base ≤ o.before.slot) (behind : IsPlaceAfter image h.known.newest.site o.after.eip) where
      abbrev ending : Activation
      ending = h.known.newest

      split : o.before.activations ≡ ending ∷ parent ∷ older
      split = h.known.activations ∙ ap (λ ys. h.known.newest ∷ ys) has_parent

      below : ending.base + 4 + extra ≤ parent.base
      below = below_parent parent older has_parent

      risen_is : rows.risen (o.before.registers 4) (4 + extra) ≡ ending.base + 4 + extra
      risen_is =
          let limit = below in
          let high : parent.base ≤ o.before.slot = high_base in
          let under : o.before.slot + 2 ^ 16 ≤ 0xC0000000 = h.known.whole.laid_out.slot.below in
          let sp : o.before.registers 4 ≡ h.known.newest.base = sp_is in
          let same : o.before.registers 4 + (4 + extra) ≡ h.known.newest.base + 4 + extra = omega (arith, sp) in
          let small : h.known.newest.base + 4 + extra < 4294967296 = omega (arith, limit, high, under) in
          ap (λ k. k % 4294967296) same ∙ (let once : (h.known.newest.base + 4 + extra) % 4294967296 ≡ h.known.newest.base + 4 + extra = omega (arith, small) in once)

      bytes_kept : (y : ℕ) → (is_in_stack o.before.slot y ≡ true → ending.base + 4 + extra ≤ y) → o.after.memory y ≡ o.before.memory y
      bytes_kept y above = memory_others y (λ f. subst (λ k. k ≤ y) (sym risen_is) (above f))

      is_returned : IsReturned o.before o.after ending parent older extra
      unfolding with_part
      is_returned =
          record {
            before = split;
            activations = ap (λ (t : State). t.activations) h.step.after ∙ ap (λ (x : Outcome). (made x o.before).activations) done_reads.is ∙ ap (outcomes.moved outcomes.leaves) split;
            allocs = ap (λ (t : State). t.allocs) h.step.after ∙ ap (λ (x : Outcome). (made x o.before).allocs) done_reads.is;
            slot = ap (λ (t : State). t.slot) h.step.after ∙ ap (λ (x : Outcome). (made x o.before).slot) done_reads.is;
            flags = ap (λ (t : State). t.flags) h.step.after ∙ ap (λ (x : Outcome). (made x o.before).flags) done_reads.is;
            registers = λ r other.
                ap (λ (t : State). t.registers r) h.step.after ∙ ap (λ (x : Outcome). (made x o.before).registers r) done_reads.is
                ∙ ap (λ b. cond b (rows.risen (o.before.registers 4) (4 + extra) % 4294967296) (o.before.registers r)) other;
            esp = ap (λ (t : State). t.registers 4) h.step.after ∙ ap (λ (x : Outcome). (made x o.before).registers 4) done_reads.is
                ∙ (let once : rows.risen (o.before.registers 4) (4 + extra) % 4294967296 ≡ rows.risen (o.before.registers 4) (4 + extra) = omega arith in once) ∙ risen_is;
            bytes = bytes_kept;
          }

      forgotten : (y : ℕ) → forgets o (AtByte y) ≡ (is_in_stack o.before.slot y && nat_lt y (ending.base + 4 + extra))
      forgotten y =
          forgets_are image o h.step y ∙ ap (λ (x : Outcome). is_forgotten x o.before y) done_reads.is ∙ ap (λ k. is_in_stack o.before.slot y && nat_lt y k) risen_is

      -- -- The successors

      all_successors : successors image settings states n a ≡ returned_each image settings states n extra a
      unfolding successors successors_by instruction_successors
      all_successors =
          ap (λ c. successors_by c image settings states n a) content ∙ ap (λ c. instruction_successors c image settings states n i a) returns
          ∙ ap (λ b. cond b (returned_each image settings states n extra a) []) (and_from (is_at_slot p a) (not (takes_too_much p extra a)) at_slot (ap not few_taken))

      leaves_by : Leaves image settings states n a o
      leaves_by =
          goes_back image settings states n a a o o.before ending parent older extra h.known.image_is h.known.whole h.known.stands h.known.runs split is_returned
          (steps_stay_laid_out image o h.step h.known.whole.laid_out) below behind forgotten all_successors

    pub return_leaves : Leaves image settings states n a o
    return_leaves = leaves_by caller.parent caller.older caller.are caller.high caller.behind
