-- What an occurrence does to the stack and to what is allocated.
use Rattle.std.proofs.Common.{◌≡◌, ◌<◌, ◌≤◌, ◌⊎◌, inl, inr, ⊎_elim, ℕ, ◌+◌, ◌-◌, ◌%◌, ◌^◌, Bool, true, false, not, ◌&&◌, ◌||◌, List, [], ◌∷◌, ◌++◌, length, append-nil, Option, Some, None, pos, ◌+ℤ◌, refl, sym, ap, subst, ◌∙◌, arith}
use Rattle.std.specs.Prelude.{◌-ℤ◌, ◌≤ℤ◌}
use Rattle.std.proofs.lemmas.Bool.{false≢true, true≢false, and_from, or_left, lt-ltb, cases_lt}
use Rattle.std.proofs.lemmas.Int.{ints}
use Rattle.std.proofs.lemmas.Option.{none-some}
use Rattle.image_map.specs.declared.image.Image.{Image}
use Rattle.image_map.specs.declared.region.Activation.{Activation}
use Rattle.image_map.specs.declared.region.Kind.{Kind}
use Rattle.image_map.specs.declared.region.Kind.TheVariants as kind
use Rattle.image_map.specs.declared.region.Settings.{Settings}
use Rattle.image_map.specs.CallModel.{AreSettings}
use Rattle.image_map.specs.Whole.{IsImage}
use Rattle.ia32_types.specs.declared.Instr.{Instr}
use Rattle.ia32_types.specs.declared.Op.{Op}
use Rattle.ia32_types.specs.declared.Op.TheVariants as op
use Rattle.ia32_types.specs.declared.Operand.{Operand}
use Rattle.ia32_types.specs.declared.Operand.TheVariants as operand
use Rattle.ia32_semantics.specs.declared.state.Allocation.{Allocation}
use Rattle.ia32_semantics.specs.CallModel.{AreActivations}
use Rattle.ia32_semantics.specs.Effects.{effects_write, is_of_bytes}
use Rattle.ia32_semantics.specs.Externs as externs
use Rattle.ia32_semantics.specs.Ia32.{machine}
use Rattle.ia32_semantics.specs.Machine.{Occurrence}
use Rattle.ia32_semantics.specs.Operands as machine_operands
use Rattle.ia32_semantics.specs.Operands.{stored_word, number_bytes}
use Rattle.ia32_semantics.specs.Outcome.{Outcome, Given, going, enters, moved, with_allocation, allocation_of, is_in_stack, is_below}
use Rattle.ia32_semantics.specs.Reading.{Reading, outcome}
use Rattle.ia32_semantics.specs.Rows as rows
use Rattle.ia32_semantics.specs.Rows.{next_place}
use Rattle.ia32_semantics.specs.State.{State, Location, AtByte, newest_site}
use Rattle.ia32_semantics.specs.Step.{Act, Executes, Answers, Step, act_row, act_completes, operation_completes, kind_completes, writes as step_writes, forgets as step_forgets}
use Rattle.ia32_semantics.proofs.EffectLemmas.{same_slot}
use Rattle.ia32_semantics.proofs.StepLemmas.{writes_are, forgets_are}
use Rattle.ia32_semantics.proofs.WithinLemmas.{Within, within_gives, within_faults, within_bind, within_register}
use Rattle.abs_semantics.specs.States.{AbsState}
use Rattle.abs_semantics.specs.Ownership.{IsKnown}
use Rattle.abs_semantics.specs.StandsFor.{IsLinked}
use Rattle.abs_semantics.proofs.StackLemmas.{base_bounds}
use Rattle.abs_steps.specs.Rows.{view_of}
use Rattle.abs_steps.specs.Successors.{States, is_at_slot, extra_of, is_call}
use Rattle.abs_steps.specs.Warnings.{loses_stack}
use Rattle.ia32_semantics.proofs.EffectLemmas.{or_false_left, or_false_right}
use Rattle.slice_soundness.specs.Located.{Takes, GivesUp, MovesBytes}
use Rattle.slice_soundness.specs.Maps.{here}
use Rattle.slice_soundness.specs.Premises.{GoesOn}
use Rattle.slice_soundness.proofs.ReturnLemmas.{same_first}
use Rattle.step_soundness.specs.Steps.{is_plain}
use Rattle.step_soundness.proofs.QuietLaws.{stack_kept}
use Rattle.step_soundness.proofs.WriteLaws.{number_within}
use Rattle.call_soundness.specs.Externs.{returns_from}
use Rattle.call_soundness.specs.Laws.{is_staying, is_control}
use Rattle.call_soundness.specs.Maps.{Drawn, map_of}
use Rattle.call_soundness.proofs.AccessLaws.{word_near}
use Rattle.call_soundness.proofs.AnswerLaws.{sp_is, extern_gives}
use Rattle.call_soundness.proofs.BackLaws.{taken_less}
use Rattle.call_soundness.proofs.ExternLaws.{extern_at_slot, extern_quiet}
use Rattle.call_soundness.proofs.RowLaws.{staying_row, returning_row, answering_row}
use Rattle.graph_soundness.proofs.StepReads.{known_here, executed_here, answered_here, kind_here}

-- -- Outcomes

abbrev All : Location → Bool
All l = true

-- nothing is said of what is asked for
any_within : {A : Type 0} (s : State) (t : Reading A) → Within s All (λ (x : A). Unit {0}) t
any_within s t = record { asked = λ words l e. refl; given = λ words rest x e. tt }

abbrev pub call_outcome : Instr → ℕ → ℕ → Outcome
call_outcome i to sp = record (going (rows.push_effects sp (next_place i)) to) { calls = enters (rows.activation i.at to (rows.pushed_at sp)); forgets = Some (rows.pushed_at sp) }

call_is : (s : State) (i : Instr) → Within s All (λ (done : Outcome). (to : ℕ) × (done ≡ call_outcome i to (s.registers 4))) (rows.row op.Call i)
unfolding rows.row machine_operands.whole_register
call_is s i =
    let Q = λ (done : Outcome). (to : ℕ) × (done ≡ call_outcome i to (s.registers 4)) in
    within_bind s All (λ (x : ℕ). Unit {0}) Q (machine_operands.value_of i.width i.dst) _ (any_within s _) (λ to _.
    within_register s All Q 4 _ refl (within_gives s All Q _ (to, refl)))

extra_is : (s : State) (o : Option Operand) → Within s All (λ (k : ℕ). k ≡ extra_of o) (rows.extra_bytes o)
unfolding rows.extra_bytes rows.immediate
extra_is s None = within_gives s All (λ (k : ℕ). k ≡ 0) 0 refl
extra_is s (Some (operand.Imm n)) = within_gives s All (λ (k : ℕ). k ≡ n) n refl
extra_is s (Some (operand.Reg r)) = within_faults s All (λ (k : ℕ). k ≡ 0)
extra_is s (Some (operand.High r)) = within_faults s All (λ (k : ℕ). k ≡ 0)
extra_is s (Some (operand.Mem m)) = within_faults s All (λ (k : ℕ). k ≡ 0)

return_is : (s : State) (i : Instr) → Within s All (λ (done : Outcome). done.forgets ≡ Some (rows.risen (s.registers 4) (4 + extra_of i.dst))) (rows.row op.Ret i)
unfolding rows.row machine_operands.whole_register
return_is s i =
    let Q = λ (done : Outcome). done.forgets ≡ Some (rows.risen (s.registers 4) (4 + extra_of i.dst)) in
    within_register s All Q 4 _ refl
    (within_bind s All (λ (x : ℕ). Unit {0}) Q (stored_word (s.registers 4)) _ (any_within s _) (λ place _.
    within_bind s All (λ (k : ℕ). k ≡ extra_of i.dst) Q (rows.extra_bytes i.dst) _ (extra_is s i.dst) (λ k e.
    within_gives s All Q _ (ap (λ j. Some (rows.risen (s.registers 4) (4 + j))) e))))

-- an operation that has no outcome, or after which nothing follows
none_after : (c : Op) (i : Instr) (s : State) (words : List ℕ) (o : Occurrence Act) (done : Outcome) → is_staying c ≡ false → is_control c ≡ false
    → outcome (rows.row c i) s words ≡ Some (done, []) → operation_completes c o ≡ false → ⊥
unfolding rows.row is_plain
none_after op.Call i s words o done e control f g = true≢false control
none_after op.Ret i s words o done e control f g = true≢false control
none_after op.Jmp i s words o done e control f g = true≢false control
none_after (op.Jcc c) i s words o done e control f g = true≢false control
none_after op.Hlt i s words o done e control f g = true≢false g
none_after op.Int3 i s words o done e control f g = none-some _ f
none_after op.Ud2 i s words o done e control f g = none-some _ f
none_after _ i s words o done e control f g = true≢false e

call_or_return : (c : Op) → is_staying c ≡ false → is_control c ≡ true → (c ≡ op.Call) ⊎ (c ≡ op.Ret)
unfolding is_plain
call_or_return op.Call e control = inl refl
call_or_return op.Ret e control = inr refl
call_or_return op.Jmp e control = absurd (true≢false e)
call_or_return (op.Jcc c) e control = absurd (true≢false e)
call_or_return _ e control = absurd (false≢true control)

abbrev pub given_more : ℕ → Option Given → List Allocation
given_more site None = []
given_more site (Some g) = allocation_of site g ∷ []

given_behind : (site : ℕ) (g : Option Given) (allocs : List Allocation) → with_allocation site g allocs ≡ allocs ++ given_more site g
given_behind site None allocs = sym (append-nil allocs)
given_behind site (Some g) allocs = refl

pub a_call : (c : Op) → is_call c ≡ true → c ≡ op.Call
a_call op.Call e = refl
a_call _ e = absurd (false≢true e)

module _ (image : Image) (settings : Settings) (states : States) (drawn : Drawn) (is : IsImage image) (are : AreSettings (length image.externs) settings) (o : Occurrence Act)
    (goes : GoesOn (machine image settings) (map_of image settings states drawn) o) where
  abbrev st : Step image o
  st = goes.comes.happens.step

  abbrev a : AbsState
  a = goes.comes.ready.value

  abbrev p : ℕ
  p = (here (map_of image settings states drawn) o.before).context.proc

  abbrev known : IsKnown image states.lane a p o.before
  known = known_here image settings states drawn is are o goes.comes

  row_by : (c : Act) → o.act ≡ c → outcome (act_row c) o.before o.choices ≡ Some (st.done, [])
  row_by c e = ap (λ x. outcome (act_row x) o.before o.choices) (sym e) ∙ st.row

  activations_are : o.after.activations ≡ moved st.done.calls o.before.activations
  activations_are = ap (λ (t : State). t.activations) st.after

  pub slot_is : o.after.slot ≡ o.before.slot
  slot_is = ap (λ (t : State). t.slot) st.after ∙ same_slot st.done.effects o.before

  pub allocs_are : o.after.allocs ≡ o.before.allocs ++ given_more (newest_site o.before.activations) st.done.given
  allocs_are = ap (λ (t : State). t.allocs) st.after ∙ given_behind (newest_site o.before.activations) st.done.given o.before.allocs

  forgotten : (limit y : ℕ) → st.done.forgets ≡ Some limit → is_in_stack o.before.slot y ≡ true → y < limit → step_forgets o (AtByte y) ≡ true
  forgotten limit y e stack less =
      forgets_are image o st y ∙ ap (λ l. is_in_stack o.before.slot y && is_below l y) e
      ∙ and_from (is_in_stack o.before.slot y) (is_below (Some limit) y) stack (lt-ltb y limit less)

  bounds : (known.newest.base ≤ o.before.slot) × (o.before.slot ≤ known.newest.base + 2 ^ 20)
  bounds = base_bounds image o.before.memory o.before.slot known.newest known.others (subst (AreActivations image o.before.memory o.before.slot) known.activations known.whole.activations)

  -- -- A call

  pub call_done : (i : Instr) → o.act ≡ Executes i → i.op ≡ op.Call → (to : ℕ) × (st.done ≡ call_outcome i to (o.before.registers 4))
  call_done i act calls = (call_is o.before i).given o.choices [] st.done (subst (λ c. outcome (rows.row c i) o.before o.choices ≡ Some (st.done, [])) calls (row_by (Executes i) act))

  -- the activation that a call begins
  abbrev pub called_to : (i : Instr) → o.act ≡ Executes i → i.op ≡ op.Call → Activation
  called_to i act calls = rows.activation i.at (call_done i act calls).0 (rows.pushed_at (o.before.registers 4))

  pub call_grown : (i : Instr) (act : o.act ≡ Executes i) (calls : i.op ≡ op.Call) → o.after.activations ≡ called_to i act calls ∷ o.before.activations
  call_grown i act calls = activations_are ∙ ap (λ (x : Outcome). moved x.calls o.before.activations) (call_done i act calls).1

  call_writes : (i : Instr) → o.act ≡ Executes i → i.op ≡ op.Call → (y : ℕ) → step_writes o (AtByte y) ≡ (is_of_bytes (rows.pushed_at (o.before.registers 4)) (number_bytes 4 (next_place i)) y || false)
  call_writes i act calls y = writes_are image o st (AtByte y) ∙ ap (λ (x : Outcome). effects_write x.effects (AtByte y)) (call_done i act calls).1

  or_end : (b : Bool) → (b || false) ≡ true → b ≡ true
  or_end true e = refl
  or_end false e = e

  -- a call writes the bytes of its return slot, and no others
  pub call_bytes : (i : Instr) (act : o.act ≡ Executes i) (calls : i.op ≡ op.Call) (y : ℕ) → step_writes o (AtByte y) ≡ true → ((called_to i act calls).base ≤ y) × (y < (called_to i act calls).base + 4)
  call_bytes i act calls y written = word_near (rows.pushed_at (o.before.registers 4)) (next_place i) y (or_end _ (sym (call_writes i act calls y) ∙ written))

  pub slot_filled : (i : Instr) (act : o.act ≡ Executes i) (calls : i.op ≡ op.Call) (y : ℕ) → (called_to i act calls).base ≤ y → y < (called_to i act calls).base + 4 → step_writes o (AtByte y) ≡ true
  slot_filled i act calls y low high =
      let base = rows.pushed_at (o.before.registers 4) in
      let there : base + (y - base) ≡ y = omega (arith, low) in
      call_writes i act calls y
      ∙ subst (λ z. (is_of_bytes base (number_bytes 4 (next_place i)) z || false) ≡ true) there (or_left _ _ (number_within 4 base (next_place i) (y - base) (omega (arith, low, high))))

  takes : (i : Instr) → o.act ≡ Executes i → i.op ≡ op.Call → Takes (machine image settings) o
  takes i act calls =
      let base = rows.pushed_at (o.before.registers 4) in
      record {
        new = called_to i act calls;
        grown = call_grown i act calls;
        taken = λ y stack less unwritten. ⊎_elim
            (λ (low : y < base). forgotten base y (ap (λ (x : Outcome). x.forgets) (call_done i act calls).1) stack low)
            (λ (high : base ≤ y). absurd (true≢false (sym (slot_filled i act calls y high less) ∙ unwritten)))
            (cases_lt y base);
      }

  -- -- A return

  -- the stack pointer, and how far it rises
  ends_by : (ending parent : Activation) (older : List Activation) → o.before.activations ≡ ending ∷ parent ∷ older → o.after.activations ≡ parent ∷ older → (limit : ℕ) → st.done.forgets ≡ Some limit
      → ending.base + 4 ≤ limit → GivesUp (machine image settings) o
  ends_by ending parent older were are_after limit e above =
      record {
        ending = ending;
        parent = parent;
        older = older;
        were = were;
        are = are_after;
        given = λ y stack less. forgotten limit y e stack (omega (arith, above, less));
      }

  yes : (b : Bool) → not b ≡ false → b ≡ true
  yes true e = refl
  yes false e = absurd (true≢false e)

  gives_up : (i : Instr) → o.act ≡ Executes i → i.op ≡ op.Ret → GivesUp (machine image settings) o
  unfolding loses_stack
  gives_up i act returns =
      let h = executed_here image settings states drawn is are o goes.comes i act in
      let back = (returning_row image settings states drawn o i is goes act returns).0 in
      let kept = subst (λ c. loses_stack c (view_of a states.cells p) i.dst ≡ false) returns (stack_kept a states.cells p image i h.quiet) in
      let at_slot = yes (is_at_slot p a) (or_false_left _ _ kept) in
      let sp : o.before.registers 4 ≡ known.newest.base = sp_is image states.lane p a o.before states.cells known goes.comes.ready.canonical.canonical at_slot in
      let same : known.newest ≡ back.ending = same_first known.newest back.ending known.others (back.parent ∷ back.older) (sym known.activations ∙ back.were) in
      let same_base : known.newest.base ≡ back.ending.base = ap (λ (x : Activation). x.base) same in
      let runs : back.ending.callee ≡ p = ap (λ (x : Activation). x.callee) (sym same) ∙ known.runs in
      let less : ((pos back.ending.base -ℤ pos back.parent.base) +ℤ pos (4 + extra_of i.dst)) ≤ℤ pos 0 =
      taken_less p back.parent.callee (pos back.ending.base -ℤ pos back.parent.base) (extra_of i.dst) a.links
      (subst (λ q. IsLinked a.links q false back.parent.callee (pos back.ending.base -ℤ pos back.parent.base)) runs (known.stands.links [] back.older back.ending back.parent back.were)) (or_false_right _ _ kept) in
      let high : back.parent.base ≤ o.before.slot =
      (base_bounds image o.before.memory o.before.slot back.parent back.older (subst (AreActivations image o.before.memory o.before.slot) back.were known.whole.activations).3).0 in
      let under : o.before.slot + 2 ^ 16 ≤ 0xC0000000 = known.whole.laid_out.slot.below in
      let small : o.before.registers 4 + (4 + extra_of i.dst) < 4294967296 = omega (arith, ints) in
      let once : (o.before.registers 4 + (4 + extra_of i.dst)) % 4294967296 ≡ o.before.registers 4 + (4 + extra_of i.dst) = omega (arith, small) in
      ends_by back.ending back.parent back.older back.were back.are (rows.risen (o.before.registers 4) (4 + extra_of i.dst))
      ((return_is o.before i).given o.choices [] st.done (subst (λ c. outcome (rows.row c i) o.before o.choices ≡ Some (st.done, [])) returns (row_by (Executes i) act)))
      (omega (arith, once, sp, same_base))

  answers_up : (at : ℕ) (k : Kind) → o.act ≡ Answers at k → returns_from k ≡ true → GivesUp (machine image settings) o
  answers_up at k act returns =
      let h = answered_here image settings states drawn is are o goes.comes at k act in
      let back = (answering_row image settings states drawn o at k is are goes act returns).0 in
      let at_slot = extern_at_slot image a p states.cells k returns h.quiet in
      let sp : o.before.registers 4 ≡ known.newest.base = sp_is image states.lane p a o.before states.cells known goes.comes.ready.canonical.canonical at_slot in
      let does = (extern_gives image states.lane p a o.before states.cells known goes.comes.ready.canonical.canonical at_slot at k returns (kind_here image settings states drawn is are o goes.comes at k act)
      (extern_quiet image a p states.cells k h.quiet)).given o.choices [] st.done (row_by (Answers at k) act) in
      let same_base : known.newest.base ≡ back.ending.base = ap (λ (x : Activation). x.base) (same_first known.newest back.ending known.others (back.parent ∷ back.older) (sym known.activations ∙ back.were)) in
      let high : known.newest.base ≤ o.before.slot = bounds.0 in
      let under : o.before.slot + 2 ^ 16 ≤ 0xC0000000 = known.whole.laid_out.slot.below in
      let once : (o.before.registers 4 + 4) % 4294967296 ≡ o.before.registers 4 + 4 = omega (arith, sp, high, under) in
      ends_by back.ending back.parent back.older back.were back.are (rows.risen (o.before.registers 4) 4) (ap (λ (x : Outcome). x.forgets) does.is) (omega (arith, once, sp, same_base))

  -- -- All

  not_last : (c : Act) → o.act ≡ c → act_completes c o ≡ false
  not_last c e = sym (ap (λ x. act_completes x o) e) ∙ goes.not_last

  -- an extern after which a run goes on returns
  pub answers_end : (at : ℕ) (k : Kind) → o.act ≡ Answers at k → GivesUp (machine image settings) o
  unfolding externs.extern_row
  answers_end at k act = of_kind k refl (not_last (Answers at k) act) (row_by (Answers at k) act)
    where
      of_kind : (c : Kind) → k ≡ c → kind_completes c o ≡ false → outcome (externs.extern_row at c) o.before o.choices ≡ Some (st.done, []) → GivesUp (machine image settings) o
      of_kind kind.Stop e last row = absurd (true≢false last)
      of_kind kind.Unknown e last row = absurd (none-some _ row)
      of_kind (kind.Pure n) e last row = answers_up at k act (ap returns_from e)
      of_kind (kind.Reader n) e last row = answers_up at k act (ap returns_from e)
      of_kind kind.Alloc e last row = answers_up at k act (ap returns_from e)
      of_kind (kind.Fills b l) e last row = answers_up at k act (ap returns_from e)

  -- what is no call stays where it is, or returns
  pub stays_or_ends : (i : Instr) → o.act ≡ Executes i → is_call i.op ≡ false → (o.after.activations ≡ o.before.activations) ⊎ GivesUp (machine image settings) o
  stays_or_ends i act other = by (is_staying i.op) (is_control i.op) refl refl
    where
      by : (staying control : Bool) → is_staying i.op ≡ staying → is_control i.op ≡ control → (o.after.activations ≡ o.before.activations) ⊎ GivesUp (machine image settings) o
      by true control e f = inl (staying_row image settings states drawn o i is goes act e).0.same
      by false true e f =
          ⊎_elim (λ call. absurd (true≢false (sym (ap is_call call) ∙ other))) (λ return. inr (gives_up i act return)) (call_or_return i.op e f)
      by false false e f = absurd (none_after i.op i o.before o.choices o st.done e f (row_by (Executes i) act) (not_last (Executes i) act))

  abbrev Told : Type 0
  Told = (o.after.activations ≡ o.before.activations) ⊎ (Takes (machine image settings) o ⊎ GivesUp (machine image settings) o)

  told : (c : Act) → o.act ≡ c → Told
  told (Executes i) act = by (is_call i.op) refl
    where
      by : (b : Bool) → is_call i.op ≡ b → Told
      by true e = inr (inl (takes i act (a_call i.op e)))
      by false e = ⊎_elim (λ same. inl same) (λ gives. inr (inr gives)) (stays_or_ends i act e)
  told (Answers at k) act = inr (inr (answers_end at k act))

  pub bytes_move : MovesBytes (machine image settings) o
  bytes_move = record { slot = slot_is; more = given_more (newest_site o.before.activations) st.done.given; allocs = allocs_are; calls = told o.act refl }
