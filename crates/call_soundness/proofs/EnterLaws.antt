-- Steps that call: a successor stands where the callee begins.
use Rattle.std.proofs.Common.{◌≡◌, ◌⊎◌, inl, inr, ⊎_elim, ℕ, ◌+◌, ◌-◌, ◌%◌, ◌^◌, ◌<◌, ◌≤◌, ◌==◌, ◌&&◌, Bool, true, false, cond, List, [], ◌∷◌, Option, Some, None, refl, sym, ◌∙◌, ap, subst, arith, lit<, pos}
use Rattle.std.specs.Prelude.{nat_le, nat_lt, ℤ, ◌+ℤ◌, ◌-ℤ◌, ◌≤ℤ◌, int_le, int_lt, is_some}
use Rattle.std.specs.Option.{option_map}
use Rattle.std.specs.List.{list_any}
use Rattle.std.proofs.lemmas.Int.{ints}
use Rattle.std.proofs.lemmas.Bool.{true≢false, cond_both, and_parts, or_left, or_right, eq-eqb, leb-true, le-ltb, cases_lt, lt-ltb, and_from, ltb-true}
use Rattle.image_map.specs.declared.image.Image.{Image}
use Rattle.image_map.specs.declared.region.Activation.{Activation}
use Rattle.image_map.specs.declared.region.Settings.{Settings}
use Rattle.ia32_types.specs.declared.Instr.{Instr}
use Rattle.ia32_types.specs.declared.Op.TheVariants as op
use Rattle.ia32_types.specs.declared.Operand.{Operand}
use Rattle.ia32_types.specs.declared.Width.{Width}
use Rattle.ia32_types.specs.declared.Width.TheVariants.{D32}
use Rattle.ia32_types.specs.Operands.{HasOperands, IsValue, HasOne}
use Rattle.ia32_semantics.specs.CallModel.{IsWhole, AreActivations}
use Rattle.ia32_semantics.specs.Effects.{effects_fit, effect_fits, overwritten, stores, with_part, effects_write, is_of_bytes}
use Rattle.ia32_semantics.specs.Fetch.{IsFetched}
use Rattle.ia32_semantics.specs.Machine.{Occurrence}
use Rattle.ia32_semantics.specs.Operands as machine_operands
use Rattle.ia32_semantics.specs.Operands.{number_bytes}
use Rattle.ia32_semantics.specs.Outcome.{Outcome, going, enters, made, can_move, is_any, is_in_stack, is_forgotten}
use Rattle.ia32_semantics.specs.Reading.{gives, ◌>>=◌, outcome}
use Rattle.ia32_semantics.specs.Rows as rows
use Rattle.ia32_semantics.specs.Rows.{next_place}
use Rattle.ia32_semantics.specs.State.{State, Bytes, little_endian, word_at, AtByte}
use Rattle.ia32_semantics.specs.Step.{Act, act_row, forgets, writes as writes_of}
use Rattle.ia32_semantics.proofs.EffectLemmas.{and_left}
use Rattle.ia32_semantics.proofs.StepLemmas.{steps_stay_laid_out, forgets_are, writes_are}
use Rattle.strided.proofs.MemberLemmas.{le_int_le}
use Rattle.alocs.proofs.CellLemmas.{int_lt_false}
use Rattle.call_strings.specs.declared.context.Node.{Node}
use Rattle.abs_semantics.specs.States.{AbsState}
use Rattle.abs_semantics.specs.StandsFor.{StandsFor}
use Rattle.abs_semantics.specs.Resolve.{resolve}
use Rattle.abs_semantics.proofs.LevelLemmas.{IsAmong}
use Rattle.abs_semantics.proofs.RangeLemmas.{numbers_of, numbers_4}
use Rattle.abs_semantics.proofs.StackLemmas.{base_bounds, mapped_near}
use Rattle.abs_semantics.proofs.StoreLemmas.{same_bytes}
use Rattle.abs_semantics.specs.Stores.{IsStored}
use Rattle.abs_semantics.specs.declared.parts.Reason.TheVariants as reason
use Rattle.abs_steps.specs.Accesses.{writes}
use Rattle.abs_steps.specs.Calls as abs_calls
use Rattle.abs_steps.specs.Places.{Instruction, content_at, followed, targets}
use Rattle.abs_steps.specs.Rows.{view_of, pushed_at}
use Rattle.abs_steps.specs.Successors.{States, at_node, callee_node, slot_below, stack_offset, called_each, called_at, is_call, calls_at, instruction_successors, successors_by, successors}
use Rattle.abs_steps.specs.Warnings.{is_unresolved, has_unresolved, has_reason, has_warning, instruction_warns, loses_stack, is_above}
use Rattle.step_soundness.specs.Steps.{IsExecuted}
use Rattle.step_soundness.proofs.GivenLaws.{Gives, gives_bind, gives_this, gives_register}
use Rattle.ia32_semantics.proofs.EffectLemmas.{or_false_left}
use Rattle.step_soundness.proofs.QuietLaws.{no_warnings, no_reasons, stack_kept, target_known}
use Rattle.step_soundness.proofs.RowLaws.{Has, read_gives, spelt_value}
use Rattle.step_soundness.proofs.StoreLaws.{read_back, number_back, saved_bytes}
use Rattle.slice_soundness.proofs.ReturnLemmas.{same_first}
use Rattle.call_soundness.specs.Calls.{IsCalled}
use Rattle.step_soundness.proofs.WriteLaws.{number_within, stored_within, or_end}
use Rattle.call_soundness.specs.Maps.{IsListed}
use Rattle.call_soundness.proofs.CallLaws.{called_states_stand}
use Rattle.call_soundness.proofs.StackLaws.{IsAtCall, at_call}
use Rattle.call_soundness.proofs.StayLaws.{listed_map}
use Rattle.call_soundness.proofs.TargetLaws.{target_followed}

-- return slots at or above an address hold what they held
pub kept_slots : (image : Image) (m n : Bytes) (slot limit : ℕ) → ((y : ℕ) → (is_in_stack slot y ≡ true → limit ≤ y) → n y ≡ m y)
    → (x : Activation) (xs : List Activation) → limit ≤ x.base → AreActivations image m slot (x ∷ xs) → AreActivations image n slot (x ∷ xs)
kept_slots image m n slot limit kept x [] le chain =
    (chain.0, ap (option_map little_endian) (same_bytes n m slot slot 4 (λ k lt. kept (slot + k) (λ _. (let base : x.base ≡ slot = chain.0 in omega (arith, base, le))))) ∙ chain.1)
kept_slots image m n slot limit kept x (y ∷ ys) le chain =
    let step : x.base + 4 ≤ y.base = chain.1 in (
      chain.0,
      chain.1,
      (chain.2.0, chain.2.1, ap (option_map little_endian) (same_bytes n m x.base x.base 4 (λ k lt. kept (x.base + k) (λ _. omega (arith, le)))) ∙ chain.2.2),
      kept_slots image m n slot limit kept y ys (omega (arith, le, step)) chain.3,
    )

listed_any : (n : ℕ) (xs : List ℕ) → IsAmong n xs → list_any (λ t. t == n) xs ≡ true
listed_any n [] h = absurd h
listed_any n (x ∷ xs) (inl e) = or_left (x == n) (list_any (λ t. t == n) xs) (eq-eqb x n e)
listed_any n (x ∷ xs) (inr h) = or_right (x == n) (list_any (λ t. t == n) xs) (listed_any n xs h)

-- the stack pointer is known, and not above the return slot
known_offset : (o : Option ℤ) → is_above o ≡ false → (offset : ℤ) × (o ≡ Some offset) × (int_lt (pos 0) offset ≡ false)
known_offset None e = absurd (true≢false e)
known_offset (Some offset) e = (offset, refl, e)

not_above : (offset : ℤ) → int_lt (pos 0) offset ≡ false → (offset ≤ℤ pos 0) × (int_le offset (pos 0) ≡ true)
not_above offset e = let le : offset ≤ℤ pos 0 = int_lt_false (pos 0) offset e in (le, le_int_le offset (pos 0) le)

-- A step that calls.
pub record Enters (image : Image) (settings : Settings) (states : States) (n : Node) (a : AbsState) (o : Occurrence Act) : Type 0 where
  pub whole : IsWhole image o.after
  pub new : Activation
  pub grown : o.after.activations ≡ new ∷ o.before.activations
  pub site : new.site ≡ o.before.eip
  pub callee : new.callee ≡ o.after.eip
  pub target : calls_at states n a (content_at image settings n.at) new.callee ≡ true
  pub next : AbsState
  pub listed : IsListed (at_node (callee_node states.lane o.before.eip new.callee n) next) (successors image settings states n a)
  pub stands : StandsFor states.lane next o.after
  -- the bytes below the end of the return slot
  pub taken : (y : ℕ) → is_in_stack o.before.slot y ≡ true → y < new.base + 4 → writes_of o (AtByte y) ≡ false → forgets o (AtByte y) ≡ true
  -- no byte of the caller's return slot, or above
  pub under : (newest : Activation) (others : List Activation) → o.before.activations ≡ newest ∷ others → new.base + 4 ≤ newest.base
  pub written : (y : ℕ) → writes_of o (AtByte y) ≡ true → y < new.base + 4
  pub forgotten : (y : ℕ) → forgets o (AtByte y) ≡ true → y < new.base

module _ (image : Image) (settings : Settings) (states : States) (n : Node) (a : AbsState) (i : Instr) (o : Occurrence Act)
    (h : IsExecuted image states.lane a n.context.proc states.cells i o) (content : content_at image settings n.at ≡ Instruction i) (calls : i.op ≡ op.Call)
    (here : i.at ≡ o.before.eip) (fetched : IsFetched image o.before.eip i) where
  abbrev p : ℕ
  p = n.context.proc

  abbrev sp : ℕ
  sp = o.before.registers 4

  abbrev at : ℕ
  at = rows.pushed_at (o.before.registers 4)

  abbrev next : ℕ
  next = next_place i

  abbrev call_outcome : ℕ → ℕ → Outcome
  call_outcome to sp = record (going (rows.push_effects sp (next_place i)) to) { calls = enters (rows.activation i.at to (rows.pushed_at sp)); forgets = Some (rows.pushed_at sp) }

  record Goes (dst : Option Operand) (done : Outcome) : Type 0 where
    pub to : ℕ
    pub word : to < 4294967296
    pub target : IsAmong to (targets (view_of a states.cells p) dst)
    pub among : IsAmong to (followed image (view_of a states.cells p) dst)
    pub is : done ≡ call_outcome to (o.before.registers 4)

  call_gives : (width : Width) → width ≡ D32 → (dst src : Option Operand) (imm : Option ℕ) → HasOne (IsValue D32) dst src imm → is_unresolved image (view_of a states.cells p) dst ≡ false
      → Gives o.before (λ byte. Unit {0}) (Goes dst) (machine_operands.value_of width dst >>= (λ target. machine_operands.whole_register 4 >>= (λ sp. gives (call_outcome target sp))))
  unfolding machine_operands.whole_register
  call_gives width wide (Some t) None None fits resolved =
      subst (λ w. Gives o.before (λ byte. Unit {0}) (Goes (Some t)) (machine_operands.value_of w (Some t) >>= (λ target. machine_operands.whole_register 4 >>= (λ sp. gives (call_outcome target sp))))) (sym wide)
      (gives_bind o.before (λ byte. Unit {0}) (Has image states.lane p a o.before states.cells h.known h.canonical D32 t) _ (machine_operands.value_of D32 (Some t)) _
      (read_gives image states.lane p a o.before states.cells h.known h.canonical (λ byte. Unit {0}) D32 t (spelt_value D32 t fits) (λ byte r. tt)) (λ to has.
      let f = target_followed image states.lane p a o.before states.cells h.known h.canonical t (spelt_value D32 t fits) to has resolved in
      gives_register o.before (λ byte. Unit {0}) _ 4 _
      (gives_this o.before (λ byte. Unit {0}) _ (call_outcome to (o.before.registers 4)) (record { to = to; word = f.word; target = f.target; among = f.is_followed; is = refl }))))
  call_gives width wide None src imm fits resolved = absurd fits
  call_gives width wide (Some t) (Some y) imm fits resolved = absurd fits
  call_gives width wide (Some t) None (Some k) fits resolved = absurd fits

  goes : Goes i.dst h.step.done
  unfolding rows.row has_unresolved
  goes =
      let fits : (i.width ≡ D32) × HasOne (IsValue D32) i.dst i.src i.imm = subst (λ c. HasOperands c i.width i.dst i.src i.imm) calls h.spelt.operands in
      let resolved : is_unresolved image (view_of a states.cells p) i.dst ≡ false =
      subst (λ c. has_unresolved c image (view_of a states.cells p) i.dst ≡ false) calls (target_known a states.cells p image i h.quiet) in
      (call_gives i.width fits.0 i.dst i.src i.imm fits.1 resolved).given o.choices [] h.step.done
      (subst (λ c. outcome (rows.row c i) o.before o.choices ≡ Some (h.step.done, [])) calls
      (subst (λ (c : Act). outcome (act_row c) o.before o.choices ≡ Some (h.step.done, [])) h.act h.step.row))

  -- -- Nothing stands in the way of the return slot

  quiet : (resolve a p (pushed_at (a.registers 4)) 4).reasons ≡ []
  unfolding has_warning instruction_warns writes
  quiet =
      let none = no_warnings (Instruction i) image (view_of a states.cells p) h.quiet in
      no_reasons (resolve a p (pushed_at (a.registers 4)) 4).reasons
      (or_false_left _ _ (subst (λ c. has_reason reason.UnknownWrite (view_of a states.cells p) (writes c a i) ≡ false) calls none.unknown))
      (or_false_left _ _ (subst (λ c. has_reason reason.OutOfRegion (view_of a states.cells p) (writes c a i) ≡ false) calls none.out_of))
      (or_false_left _ _ (subst (λ c. has_reason reason.HeapOverrun (view_of a states.cells p) (writes c a i) ≡ false) calls none.overrun))

  kept : is_above (stack_offset p a) ≡ false
  unfolding loses_stack
  kept = subst (λ c. loses_stack c (view_of a states.cells p) i.dst ≡ false) calls (stack_kept a states.cells p image i h.quiet)

  esp_known : (offset : ℤ) × (stack_offset p a ≡ Some offset) × (int_lt (pos 0) offset ≡ false)
  esp_known = known_offset (stack_offset p a) kept

  abbrev offset : ℤ
  offset = esp_known.0

  from_base : IsAtCall o.before h.known.newest offset
  from_base = at_call image states.lane p a o.before h.known h.canonical offset esp_known.1 (not_above offset esp_known.2).0 quiet

  -- -- Where the slot lies

  record Slot : Type 0 where
    pub far : pos at ≡ pos h.known.newest.base +ℤ (offset -ℤ pos 4)
    pub below : at + 4 ≤ h.known.newest.base
    pub low : o.before.slot ≤ at + 2 ^ 22
    pub high : at + 4 ≤ o.before.slot

  slot : Slot
  slot =
      let bounds = base_bounds image o.before.memory o.before.slot h.known.newest h.known.others (subst (AreActivations image o.before.memory o.before.slot) h.known.activations h.known.whole.activations) in
      let base_low : o.before.slot ≤ h.known.newest.base + 2 ^ 20 = bounds.1 in
      let base_high : h.known.newest.base ≤ o.before.slot = bounds.0 in
      let above : 0xB0000000 + 2 ^ 20 ≤ o.before.slot = h.known.whole.laid_out.slot.above in
      let under : o.before.slot + 2 ^ 16 ≤ 0xC0000000 = h.known.whole.laid_out.slot.below in
      let esp : pos (o.before.registers 4) ≡ pos h.known.newest.base +ℤ offset = from_base.esp in
      let low = from_base.low in
      let high = from_base.high in
      let big : 4 ≤ o.before.registers 4 = omega (arith, ints) in
      let word : o.before.registers 4 < 4294967296 = h.known.whole.laid_out.sized.registers 4 in
      let is : (o.before.registers 4 + 4294967296 - 4) % 4294967296 + 4 ≡ o.before.registers 4 = omega arith in
      record { far = omega (arith, ints); below = omega (arith, ints); low = omega (arith, ints); high = omega (arith, ints) }

  module _ (e : Goes i.dst h.step.done) where
    abbrev new : Activation
    new = rows.activation i.at e.to at

    abbrev stored_memory : Bytes
    stored_memory = overwritten o.before.memory at (number_bytes 4 next)

    fits : effect_fits image o.before.memory (stores at (number_bytes 4 next)) ≡ true
    fits =
        let all : effects_fit image o.before.memory (rows.push_effects sp next) ≡ true =
        and_left (effects_fit image o.before.memory (rows.push_effects sp next)) true
        (subst (λ (x : Outcome). (effects_fit image o.before.memory x.effects && can_move x.calls o.before.activations) ≡ true) e.is h.step.possible) in
        (and_parts _ _ all).0

    is_stored : IsStored image o.before at 4 stored_memory
    is_stored = saved_bytes image o.before D32 at next fits

    in_stack : (k : ℕ) → k < 4 → is_in_stack o.before.slot (at + k) ≡ true
    in_stack k lt =
        let low = slot.low in
        let high = slot.high in
        mapped_near image o.before h.known.image_is h.known.whole.laid_out (at + k) (and_parts _ _ (is_stored.are_open k lt)).0 (omega (arith, low)) (omega (arith, high, lt))

    -- -- The memory after the step

    any_is : (y : ℕ) → is_any h.step.done o.before y ≡ cond (is_some (o.before.memory y)) (is_in_stack o.before.slot y && nat_lt y at) false
    any_is y = ap (λ (x : Outcome). is_any x o.before y) e.is

    none_free : (y : ℕ) → (is_in_stack o.before.slot y ≡ true → at ≤ y) → is_any h.step.done o.before y ≡ false
    none_free y above =
        any_is y ∙ cond_both (is_some (o.before.memory y)) (is_in_stack o.before.slot y && nat_lt y at) false (λ b. b ≡ false) (λ _. by (is_in_stack o.before.slot y) refl) (λ _. refl)
      where
        by : (b : Bool) → is_in_stack o.before.slot y ≡ b → (b && nat_lt y at) ≡ false
        by true f = le-ltb y at (above f)
        by false f = refl

    memory_after : (y : ℕ) → (is_in_stack o.before.slot y ≡ true → at ≤ y) → o.after.memory y ≡ stored_memory y
    memory_after y above = h.step.memory.others y (none_free y above) ∙ ap (λ (x : Outcome). (made x o.before).memory y) e.is

    bytes_kept : (y : ℕ) → (is_in_stack o.before.slot y ≡ true → at + 4 ≤ y) → o.after.memory y ≡ o.before.memory y
    bytes_kept y above = memory_after y (λ f. let le : at + 4 ≤ y = above f in omega (arith, le)) ∙ is_stored.others y (apart (is_in_stack o.before.slot y) refl)
      where
        apart : (b : Bool) → is_in_stack o.before.slot y ≡ b → (y < at) ⊎ (at + 4 ≤ y)
        apart true f = inr (above f)
        apart false f = ⊎_elim
            (λ (lt : y < at). inl lt)
            (λ (le : at ≤ y). ⊎_elim
            (λ (lt : y < at + 4).
            let near : y - at < 4 = omega (arith, le, lt) in
            let is : at + (y - at) ≡ y = omega (arith, le) in
            absurd (true≢false (sym (subst (λ z. is_in_stack o.before.slot z ≡ true) is (in_stack (y - at) near)) ∙ f)))
            (λ (le : at + 4 ≤ y). inr le)
            (cases_lt y (at + 4)))
            (cases_lt y at)

    next_below : next < 4294967296
    next_below = omega arith

    word_is : word_at o.after.memory at ≡ Some next
    word_is =
        let sized : next < numbers_of 4 = subst (λ k. next < k) (sym numbers_4) next_below in
        ap (option_map little_endian) (same_bytes o.after.memory stored_memory at at 4 (λ k lt. memory_after (at + k) (λ f. omega arith)) ∙ read_back 4 at next o.before.memory)
        ∙ ap (λ k. Some k) (number_back 4 next sized)

    -- -- The state after the step

    is_called : IsCalled o.before o.after new h.known.newest h.known.others next
    unfolding with_part
    is_called =
        record {
          before = h.known.activations;
          activations = ap (λ (t : State). t.activations) h.step.after ∙ ap (λ (x : Outcome). (made x o.before).activations) e.is;
          allocs = ap (λ (t : State). t.allocs) h.step.after ∙ ap (λ (x : Outcome). (made x o.before).allocs) e.is;
          slot = ap (λ (t : State). t.slot) h.step.after ∙ ap (λ (x : Outcome). (made x o.before).slot) e.is;
          flags = ap (λ (t : State). t.flags) h.step.after ∙ ap (λ (x : Outcome). (made x o.before).flags) e.is;
          registers = λ r other.
              ap (λ (t : State). t.registers r) h.step.after ∙ ap (λ (x : Outcome). (made x o.before).registers r) e.is
              ∙ ap (λ b. cond b (at % 4294967296) (o.before.registers r)) other;
          esp = ap (λ (t : State). t.registers 4) h.step.after ∙ ap (λ (x : Outcome). (made x o.before).registers 4) e.is ∙ (let once : at % 4294967296 ≡ at = omega arith in once);
          word = word_is;
          bytes = bytes_kept;
        }

    eip_is : o.after.eip ≡ e.to
    eip_is =
        let word : e.to < 4294967296 = e.word in
        ap (λ (t : State). t.eip) h.step.after ∙ ap (λ (x : Outcome). (made x o.before).eip) e.is ∙ (let once : e.to % 4294967296 ≡ e.to = omega (arith, word) in once)

    slots_are : AreActivations image o.after.memory o.before.slot (new ∷ h.known.newest ∷ h.known.others)
    slots_are =
        let both = and_parts (nat_le (o.before.slot - 2 ^ 20) at) (nat_lt at (o.before.slot + 2 ^ 16)) (subst (λ y. is_in_stack o.before.slot y ≡ true) (let e : at + 0 ≡ at = omega arith in e) (in_stack 0 (lit< tt))) in
        let low : o.before.slot - 2 ^ 20 ≤ at = leb-true (o.before.slot - 2 ^ 20) at both.0 in
        let below = slot.below in (
          (let le : o.before.slot ≤ at + 2 ^ 20 = omega (arith, low) in le),
          below,
          (next, record { call = i; fetched = subst (λ x. IsFetched image x i) (sym here) fetched; calls = calls; place_is = refl }, word_is),
          kept_slots image o.before.memory o.after.memory o.before.slot (at + 4) bytes_kept h.known.newest h.known.others below
              (subst (AreActivations image o.before.memory o.before.slot) h.known.activations h.known.whole.activations),
        )

    whole_after : IsWhole image o.after
    whole_after =
        record {
          laid_out = steps_stay_laid_out image o h.step h.known.whole.laid_out;
          activations = subst (λ xs. AreActivations image o.after.memory o.after.slot xs) (sym (is_called.activations ∙ ap (λ xs. new ∷ xs) h.known.activations))
              (subst (λ k. AreActivations image o.after.memory k (new ∷ h.known.newest ∷ h.known.others)) (sym is_called.slot) slots_are);
        }

    abbrev state_after : AbsState
    state_after = abs_calls.called states.cells p (slot_below offset) e.to next a

    stands_after : StandsFor states.lane state_after o.after
    stands_after =
        subst (λ q. StandsFor states.lane (abs_calls.called states.cells q (slot_below offset) e.to next a) o.after) h.known.runs
        (called_states_stand image states.lane a states.cells o.before o.after new h.known.newest h.known.others next (slot_below offset) h.known.image_is h.known.whole.laid_out h.canonical h.known.stands is_called
        (slot.far ∙ ap (λ z. pos h.known.newest.base +ℤ z) (sym from_base.slot)) next_below)

    -- -- The successor

    listed_here : IsListed (at_node (callee_node states.lane i.at e.to n) state_after) (successors image settings states n a)
    unfolding successors successors_by instruction_successors
    listed_here =
        let V = view_of a states.cells p in
        let each : called_at image states.lane V i n (Some offset) ≡ called_each states.lane V i n offset (followed image V i.dst) =
        ap (λ b. cond b (called_each states.lane V i n offset (followed image V i.dst)) []) (not_above offset esp_known.2).1 in
        let all : successors image settings states n a ≡ called_each states.lane V i n offset (followed image V i.dst) =
        ap (λ c. successors_by c image settings states n a) content ∙ ap (λ c. instruction_successors c image settings states n i a) calls
        ∙ ap (called_at image states.lane V i n) esp_known.1 ∙ each in
        subst (IsListed (at_node (callee_node states.lane i.at e.to n) state_after)) (sym all)
        (listed_map (λ t. at_node (callee_node states.lane i.at t n) (abs_calls.called states.cells p (slot_below offset) t next a)) e.to (followed image V i.dst) e.among)

    target_here : calls_at states n a (content_at image settings n.at) e.to ≡ true
    target_here =
        ap (λ c. calls_at states n a c e.to) content
        ∙ ap (λ c. is_call c && list_any (λ t. t == e.to) (targets (view_of a states.cells p) i.dst)) calls
        ∙ listed_any e.to (targets (view_of a states.cells p) i.dst) e.target

    -- -- The bytes below the end of the slot

    slot_written : (y : ℕ) → at ≤ y → y < at + 4 → writes_of o (AtByte y) ≡ true
    slot_written y from to =
        let near : at + (y - at) ≡ y = omega (arith, from) in
        writes_are image o h.step (AtByte y) ∙ ap (λ (x : Outcome). effects_write x.effects (AtByte y)) e.is
        ∙ or_left _ _ (subst (λ z. is_of_bytes at (number_bytes 4 next) z ≡ true) near (number_within 4 at next (y - at) (omega (arith, from, to))))

    slot_forgotten : (y : ℕ) → forgets o (AtByte y) ≡ (is_in_stack o.before.slot y && nat_lt y at)
    slot_forgotten y = forgets_are image o h.step y ∙ ap (λ (x : Outcome). is_forgotten x o.before y) e.is

    taken_here : (y : ℕ) → is_in_stack o.before.slot y ≡ true → y < at + 4 → writes_of o (AtByte y) ≡ false → forgets o (AtByte y) ≡ true
    taken_here y stack to unwritten =
        ⊎_elim
        (λ (lt : y < at). slot_forgotten y ∙ and_from (is_in_stack o.before.slot y) (nat_lt y at) stack (lt-ltb y at lt))
        (λ (le : at ≤ y). absurd (true≢false (sym (slot_written y le to) ∙ unwritten)))
        (cases_lt y at)

    enters_by : Enters image settings states n a o
    enters_by =
        record {
          whole = whole_after;
          new = new;
          grown = is_called.activations;
          site = here;
          callee = sym eip_is;
          target = target_here;
          next = state_after;
          listed = subst (λ x. IsListed (at_node (callee_node states.lane x e.to n) state_after) (successors image settings states n a)) here listed_here;
          stands = stands_after;
          taken = taken_here;
          under = λ newest others is. subst (λ (x : Activation). at + 4 ≤ x.base) (same_first h.known.newest newest h.known.others others (sym h.known.activations ∙ is)) slot.below;
          written = λ y w. (stored_within 4 at next y (or_end _ (sym (ap (λ (x : Outcome). effects_write x.effects (AtByte y)) e.is) ∙ sym (writes_are image o h.step (AtByte y)) ∙ w))).1;
          forgotten = λ y f. ltb-true y at (and_parts (is_in_stack o.before.slot y) (nat_lt y at) (sym (slot_forgotten y) ∙ f)).1;
        }

  pub call_enters : Enters image settings states n a o
  call_enters = enters_by goes
