-- No step writes a return slot that was live before it, and none but a return forgets one: that of the activation that ends.
use Rattle.std.proofs.Common.{◌≡◌, ℕ, ◌+◌, ◌<◌, ◌≤◌, ◌&&◌, Bool, true, false, cond, List, [], ◌∷◌, ◌++◌, length, Some, None, refl, sym, ◌∙◌, ap, subst, arith}
use Rattle.std.specs.Prelude.{nat_lt}
use Rattle.std.proofs.lemmas.Bool.{false≢true, and_parts, ltb-true}
use Rattle.std.proofs.lemmas.Option.{none-some}
use Rattle.image_map.specs.declared.image.Image.{Image}
use Rattle.image_map.specs.declared.region.Activation.{Activation}
use Rattle.image_map.specs.declared.region.Kind.{Kind}
use Rattle.image_map.specs.declared.region.Kind.TheVariants as kind
use Rattle.image_map.specs.declared.region.Settings.{Settings}
use Rattle.image_map.specs.CallModel.{AreSettings}
use Rattle.image_map.specs.Whole.{IsImage}
use Rattle.ia32_types.specs.declared.Instr.{Instr}
use Rattle.ia32_types.specs.declared.Op.{Op}
use Rattle.ia32_types.specs.declared.Op.TheVariants as op
use Rattle.ia32_types.specs.declared.Width.TheVariants.{D32}
use Rattle.ia32_semantics.specs.CallModel.{AreActivations}
use Rattle.ia32_semantics.specs.Effects.{effects_write}
use Rattle.ia32_semantics.specs.Externs as externs
use Rattle.ia32_semantics.specs.Ia32.{machine}
use Rattle.ia32_semantics.specs.Machine.{Occurrence}
use Rattle.ia32_semantics.specs.Operands as machine_operands
use Rattle.ia32_semantics.specs.Outcome as outcomes
use Rattle.ia32_semantics.specs.Outcome.{Outcome, going, is_forgotten, is_in_stack}
use Rattle.ia32_semantics.specs.Reading.{Reading, outcome}
use Rattle.ia32_semantics.specs.Rows as rows
use Rattle.ia32_semantics.specs.Rows.{next_place}
use Rattle.ia32_semantics.specs.State.{State, AtByte}
use Rattle.ia32_semantics.specs.Step.{Act, Executes, Answers, Step, act_row, writes as step_writes, forgets as step_forgets}
use Rattle.ia32_semantics.proofs.StepLemmas.{writes_are, forgets_are}
use Rattle.alocs.specs.Cells.{Division}
use Rattle.abs_semantics.specs.States.{AbsState, HasCanonical}
use Rattle.abs_semantics.specs.Ownership.{IsKnown}
use Rattle.abs_semantics.proofs.StackLemmas.{newer_below}
use Rattle.abs_steps.specs.Accesses.{writes, extern_writes, argument, argument_at, filled_count}
use Rattle.abs_steps.specs.Places.{Instruction, content_at}
use Rattle.abs_steps.specs.Rows.{view_of}
use Rattle.abs_steps.specs.Successors.{States, extra_of}
use Rattle.slice_soundness.specs.Maps.{here}
use Rattle.slice_soundness.specs.Premises.{IsReady, Comes, KeepsSlots}
use Rattle.step_soundness.specs.Steps.{is_plain, IsExecuted}
use Rattle.step_soundness.proofs.GivenLaws.{Gives, gives_bind, gives_this}
use Rattle.step_soundness.proofs.QuietLaws.{instruction_quiet}
use Rattle.step_soundness.proofs.StepLaws.{no_call, plain_keeps, plain_forgets}
use Rattle.step_soundness.proofs.ValueForms.{stored_form}
use Rattle.step_soundness.proofs.WrittenLaws.{HaveForm, range_form, written_form, accessed_apart}
use Rattle.call_soundness.specs.Externs.{returns_from}
use Rattle.call_soundness.specs.Laws.{SlotsStay}
use Rattle.call_soundness.specs.Maps.{Drawn, map_of}
use Rattle.call_soundness.proofs.AnswerAccesses.{answer_keeps}
use Rattle.call_soundness.proofs.AnswerLaws.{extern_gives, sp_is as extern_sp_is}
use Rattle.call_soundness.proofs.ExternLaws.{extern_at_slot, extern_quiet}
use Rattle.call_soundness.proofs.LeaveLaws.{returning_is, sp_is, below_parent}
use Rattle.call_soundness.proofs.RowLaws.{known, content, executed, enters, answered_here, answered_kind}
use Rattle.call_soundness.proofs.ThingLaws.{tail_is}
use Rattle.slice_soundness.proofs.ReturnLemmas.{same_first}

-- any reading gives something
gives_any : {A : Type 0} (s : State) (t : Reading A) → Gives s (λ byte. Unit {0}) (λ x. Unit {0}) t
gives_any s t = record { given = λ words rest x e. tt; asked = λ words rest x e byte f. tt }

-- what is written by an extern has addresses of the one form
extern_form : (a : AbsState) (d : Division) (p : ℕ) → HasCanonical a → (k : Kind) → HaveForm (extern_writes (view_of a d p) k)
unfolding extern_writes
extern_form a d p form (kind.Fills buffer len) = range_form (argument (view_of a d p) buffer) (stored_form a form d p D32 (argument_at a buffer)) 1 (filled_count (view_of a d p) len)
extern_form a d p form _ = tt

module _ (image : Image) (lane p : ℕ) (a : AbsState) (o : Occurrence Act) (known_ : IsKnown image lane a p o.before) where
  chain : (newer : List Activation) (live : Activation) (older : List Activation) → o.before.activations ≡ newer ++ (live ∷ older) → AreActivations image o.before.memory o.before.slot (newer ++ (live ∷ older))
  chain newer live older split = subst (AreActivations image o.before.memory o.before.slot) split known_.whole.activations

  -- no live base lies below the newest one
  newest_low : (newer : List Activation) (live : Activation) (older : List Activation) → o.before.activations ≡ newer ++ (live ∷ older) → known_.newest.base ≤ live.base
  newest_low [] live older split =
      let same : known_.newest ≡ live = same_first known_.newest live known_.others older (sym known_.activations ∙ split) in
      let base : known_.newest.base ≡ live.base = ap (λ (x : Activation). x.base) same in
      omega (arith, base)
  newest_low (x ∷ newer) live older split =
      let same : known_.newest ≡ x = same_first known_.newest x known_.others (newer ++ (live ∷ older)) (sym known_.activations ∙ split) in
      let base : known_.newest.base ≡ x.base = ap (λ (x : Activation). x.base) same in
      let above : x.base + 4 ≤ live.base = (newer_below image o.before.memory o.before.slot (x ∷ newer) live older (chain (x ∷ newer) live older split)).0 in
      omega (arith, base, above)

  -- a return slot that reaches below a limit, above which the caller's lies, is that of the activation that ends
  lowest : (limit : ℕ) → ((parent : Activation) (rest : List Activation) → known_.others ≡ parent ∷ rest → limit ≤ parent.base)
      → (newer : List Activation) (live : Activation) (older : List Activation) → o.before.activations ≡ newer ++ (live ∷ older) → (k : ℕ) → live.base + k < limit → (newer ≡ []) × (known_.others ≡ older)
  lowest limit under [] live older split k lt = (refl, tail_is known_.newest live known_.others older (sym known_.activations ∙ split))
  lowest limit under (x ∷ []) live older split k lt =
      let high : limit ≤ live.base = under live older (tail_is known_.newest x known_.others (live ∷ older) (sym known_.activations ∙ split)) in
      absurd (omega (arith, high, lt))
  lowest limit under (x ∷ y ∷ newer) live older split k lt =
      let high : limit ≤ y.base = under y (newer ++ (live ∷ older)) (tail_is known_.newest x known_.others (y ∷ (newer ++ (live ∷ older))) (sym known_.activations ∙ split)) in
      let above : y.base + 4 ≤ live.base = (newer_below image o.before.memory o.before.slot (x ∷ y ∷ newer) live older (chain (x ∷ y ∷ newer) live older split)).1.0 in
      absurd (omega (arith, high, above, lt))

module _ (image : Image) (settings : Settings) (states : States) (drawn : Drawn) (o : Occurrence Act) (is : IsImage image) (are : AreSettings (length image.externs) settings)
    (comes : Comes (machine image settings) (map_of image settings states drawn) o) where
  abbrev Keeps : Type 0
  Keeps = KeepsSlots (machine image settings) o

  step : Step image o
  step = comes.happens.step

  ready : IsReady (machine image settings) (map_of image settings states drawn) o.before
  ready = comes.ready

  abbrev a : AbsState
  a = ready.value

  abbrev p : ℕ
  p = (here (map_of image settings states drawn) o.before).context.proc

  known_ : IsKnown image states.lane a p o.before
  known_ = known image settings states drawn is o ready

  -- what a step keeps, from which bytes it writes and forgets
  kept : ((newer older : List Activation) (live : Activation) (k : ℕ) → o.before.activations ≡ newer ++ (live ∷ older) → k < 4 → step_writes o (AtByte (live.base + k)) ≡ true → ⊥)
      → ((newer older : List Activation) (live : Activation) (k : ℕ) → o.before.activations ≡ newer ++ (live ∷ older) → k < 4 → step_forgets o (AtByte (live.base + k)) ≡ true → (newer ≡ []) × (o.after.activations ≡ older))
      → Keeps
  kept never own = record { unwritten = λ newer older live k split lt. none (step_writes o (AtByte (live.base + k))) refl (never newer older live k split lt); own = own }
    where
      none : (b : Bool) {c : Bool} → c ≡ b → (c ≡ true → ⊥) → c ≡ false
      none true e f = absurd (f e)
      none false e f = e

  -- -- Steps that only go on

  still : step.done.effects ≡ [] → step.done.forgets ≡ None → Keeps
  still nothing remembers =
      kept (λ newer older live k split lt w. false≢true (sym (ap (λ es. effects_write es (AtByte (live.base + k))) nothing) ∙ sym (writes_are image o step (AtByte (live.base + k))) ∙ w))
      (λ newer older live k split lt f. absurd (unforgotten (live.base + k) f))
    where
      none : (b : Bool) → (b && false) ≡ true → ⊥
      none true e = false≢true e
      none false e = false≢true e

      unforgotten : (y : ℕ) → step_forgets o (AtByte y) ≡ true → ⊥
      unforgotten y f = none (is_in_stack o.before.slot y) (sym (ap (λ l. is_in_stack o.before.slot y && outcomes.is_below l y) remembers) ∙ sym (forgets_are image o step y) ∙ f)

  abbrev Still : Outcome → Type 0
  Still done = (done.effects ≡ []) × (done.forgets ≡ None)

  of_still : (c : Act) → o.act ≡ c → Gives o.before (λ byte. Unit {0}) Still (act_row c) → Keeps
  of_still c e row =
      let both = row.given o.choices [] step.done (subst (λ (x : Act). outcome (act_row x) o.before o.choices ≡ Some (step.done, [])) e step.row) in
      still both.0 both.1

  no_outcome : (c : Act) → o.act ≡ c → outcome (act_row c) o.before o.choices ≡ None → Keeps
  no_outcome c e none = absurd (none-some _ (sym none ∙ ap (λ x. outcome (act_row x) o.before o.choices) (sym e) ∙ step.row))

  jump_still : (i : Instr) → Gives o.before (λ byte. Unit {0}) Still (rows.jumped i)
  jump_still i =
      gives_bind o.before (λ byte. Unit {0}) (λ t. Unit {0}) Still (machine_operands.value_of i.width i.dst) _ (gives_any o.before (machine_operands.value_of i.width i.dst)) (λ t e.
      gives_this o.before (λ byte. Unit {0}) Still (going [] t) (refl, refl))

  branch_still : (c : ℕ) (i : Instr) → Gives o.before (λ byte. Unit {0}) Still (rows.branched c i)
  branch_still c i =
      gives_bind o.before (λ byte. Unit {0}) (λ b. Unit {0}) Still (machine_operands.condition c) _ (gives_any o.before (machine_operands.condition c)) (λ b e.
      gives_bind o.before (λ byte. Unit {0}) (λ t. Unit {0}) Still (rows.immediate i.dst) _ (gives_any o.before (rows.immediate i.dst)) (λ t f.
      gives_this o.before (λ byte. Unit {0}) Still (going [] (cond b t (next_place i))) (refl, refl)))

  -- -- Returns

  module _ (st : Step image o) (kn : IsKnown image states.lane a p o.before) (limit : ℕ) (forgotten : (y : ℕ) → step_forgets o (AtByte y) ≡ (is_in_stack o.before.slot y && nat_lt y limit)) (leaves : st.done.calls ≡ outcomes.leaves)
      (under : (parent : Activation) (rest : List Activation) → kn.others ≡ parent ∷ rest → limit ≤ parent.base) where
    after_is : o.after.activations ≡ kn.others
    after_is =
        ap (λ (t : State). t.activations) st.after ∙ ap (λ c. outcomes.moved c o.before.activations) leaves ∙ ap (outcomes.moved outcomes.leaves) kn.activations

    own_ending : (newer older : List Activation) (live : Activation) (k : ℕ) → o.before.activations ≡ newer ++ (live ∷ older) → k < 4 → step_forgets o (AtByte (live.base + k)) ≡ true
        → (newer ≡ []) × (o.after.activations ≡ older)
    own_ending newer older live k split lt f =
        let both = and_parts (is_in_stack o.before.slot (live.base + k)) (nat_lt (live.base + k) limit) (sym (forgotten (live.base + k)) ∙ f) in
        let found = lowest image states.lane p a o kn limit under newer live older split k (ltb-true (live.base + k) limit both.1) in
        (found.0, after_is ∙ found.1)

  risen_least : (sp n : ℕ) → rows.risen sp n ≤ sp + n
  risen_least sp n = omega arith

  -- -- Instructions

  module _ (i : Instr) (act : o.act ≡ Executes i) where
    exec : IsExecuted image states.lane a p states.cells i o
    exec = executed image settings states drawn is o ready i act comes.happens.act step

    there : content_at image settings (here (map_of image settings states drawn) o.before).at ≡ Instruction i
    there = content image settings states drawn is o ready i act comes.happens.act step

    plain_kept : is_plain i.op ≡ true → Keeps
    plain_kept plain =
        kept (λ newer older live k split lt w.
        accessed_apart image states.lane p a o.before states.cells exec.known exec.canonical newer live older split (writes i.op a i)
        (instruction_quiet a states.cells p image i exec.quiet (no_call i.op plain)) (written_form image states.lane p a o.before states.cells exec.known exec.canonical i.op i exec.spelt.operands)
        (live.base + k) ((plain_keeps image states.lane a p states.cells i o exec plain).writes (live.base + k) w) k lt refl)
        (λ newer older live k split lt f. absurd (false≢true (sym (plain_forgets image states.lane a p states.cells i o exec plain (live.base + k)) ∙ f)))

    call_kept : i.op ≡ op.Call → Keeps
    call_kept calls =
        let m = enters image settings states drawn is o ready i act comes.happens.act step calls in
        let under : m.new.base + 4 ≤ known_.newest.base = m.under known_.newest known_.others known_.activations in
        kept (λ newer older live k split lt w. let low = newest_low image states.lane p a o known_ newer live older split in let high : live.base + k < m.new.base + 4 = m.written (live.base + k) w in omega (arith, low, high, under))
        (λ newer older live k split lt f.
        absurd (let low = newest_low image states.lane p a o known_ newer live older split in let high : live.base + k < m.new.base = m.forgotten (live.base + k) f in omega (arith, low, high, under)))

    return_kept : i.op ≡ op.Ret → Keeps
    return_kept returns =
        let r = returning_is image settings states (here (map_of image settings states drawn) o.before) a i o exec there returns in
        let sp = sp_is image settings states (here (map_of image settings states drawn) o.before) a i o exec there returns in
        let limit = rows.risen (o.before.registers 4) (4 + extra_of i.dst) in
        let most : rows.risen (o.before.registers 4) (4 + extra_of i.dst) ≤ o.before.registers 4 + (4 + extra_of i.dst) = risen_least (o.before.registers 4) (4 + extra_of i.dst) in
        kept (λ newer older live k split lt w.
        false≢true (sym (ap (λ (x : Outcome). effects_write x.effects (AtByte (live.base + k))) r.1) ∙ sym (writes_are image o exec.step (AtByte (live.base + k))) ∙ w))
        (own_ending exec.step exec.known limit (λ y. forgets_are image o exec.step y ∙ ap (λ (x : Outcome). is_forgotten x o.before y) r.1) (ap (λ (x : Outcome). x.calls) r.1)
        (λ parent rest e.
        let high : exec.known.newest.base + 4 + extra_of i.dst ≤ parent.base = below_parent image settings states (here (map_of image settings states drawn) o.before) a i o exec there returns parent rest e in
        omega (arith, high, most, sp)))

  of_instruction : (i : Instr) → o.act ≡ Executes i → (c : Op) → i.op ≡ c → Keeps
  unfolding is_plain rows.row
  of_instruction i act op.Call e = call_kept i act e
  of_instruction i act op.Ret e = return_kept i act e
  of_instruction i act op.Jmp e = of_still (Executes i) act (subst (λ c. Gives o.before (λ byte. Unit {0}) Still (rows.row c i)) (sym e) (jump_still i))
  of_instruction i act (op.Jcc c) e = of_still (Executes i) act (subst (λ c. Gives o.before (λ byte. Unit {0}) Still (rows.row c i)) (sym e) (branch_still c i))
  of_instruction i act op.Hlt e =
      of_still (Executes i) act (subst (λ c. Gives o.before (λ byte. Unit {0}) Still (rows.row c i)) (sym e) (gives_this o.before (λ byte. Unit {0}) Still (going [] (next_place i)) (refl, refl)))
  of_instruction i act op.Int3 e = no_outcome (Executes i) act (ap (λ c. outcome (rows.row c i) o.before o.choices) e)
  of_instruction i act op.Ud2 e = no_outcome (Executes i) act (ap (λ c. outcome (rows.row c i) o.before o.choices) e)
  of_instruction i act _ e = plain_kept i act (ap is_plain e)

  -- -- Externs

  returning_kept : (at : ℕ) (k : Kind) → o.act ≡ Answers at k → returns_from k ≡ true → Keeps
  returning_kept at k act returns =
      let h = answered_here image settings states drawn is o ready at k act comes.happens.act step in
      let fits = answered_kind image settings states drawn is o ready at k act comes.happens.act step are in
      let at_slot = extern_at_slot image a p states.cells k returns h.quiet in
      let quiet = extern_quiet image a p states.cells k h.quiet in
      let does = (extern_gives image states.lane p a o.before states.cells h.known h.canonical at_slot at k returns fits quiet).given o.choices [] step.done
      (subst (λ (c : Act). outcome (act_row c) o.before o.choices ≡ Some (step.done, [])) act step.row) in
      let sp = extern_sp_is image states.lane p a o.before states.cells h.known h.canonical at_slot in
      let most : rows.risen (o.before.registers 4) 4 ≤ o.before.registers 4 + 4 = risen_least (o.before.registers 4) 4 in
      kept (λ newer older live k' split lt w.
      accessed_apart image states.lane p a o.before states.cells h.known h.canonical newer live older split (extern_writes (view_of a states.cells p) k) quiet (extern_form a states.cells p h.canonical k)
      (live.base + k') ((answer_keeps image states.lane a p states.cells at k o h fits).writes (live.base + k') w) k' lt refl)
      (own_ending step h.known (rows.risen (o.before.registers 4) 4) (λ y. forgets_are image o step y ∙ ap (λ (x : Outcome). is_forgotten x o.before y) does.is) (ap (λ (x : Outcome). x.calls) does.is)
      (λ parent rest e.
      let above : h.known.newest.base + 4 ≤ parent.base = (subst (AreActivations image o.before.memory o.before.slot) (h.known.activations ∙ ap (λ xs. h.known.newest ∷ xs) e) h.known.whole.activations).1 in
      omega (arith, above, most, sp)))

  of_answer : (at : ℕ) (k : Kind) → o.act ≡ Answers at k → Keeps
  unfolding externs.extern_row
  of_answer at kind.Stop act = of_still (Answers at kind.Stop) act (gives_this o.before (λ byte. Unit {0}) Still (going [] at) (refl, refl))
  of_answer at kind.Unknown act = no_outcome (Answers at kind.Unknown) act refl
  of_answer at (kind.Pure j) act = returning_kept at (kind.Pure j) act refl
  of_answer at (kind.Reader j) act = returning_kept at (kind.Reader j) act refl
  of_answer at kind.Alloc act = returning_kept at kind.Alloc act refl
  of_answer at (kind.Fills b l) act = returning_kept at (kind.Fills b l) act refl

  pub slots_kept : Keeps
  slots_kept = by o.act refl
    where
      by : (c : Act) → o.act ≡ c → Keeps
      by (Executes i) e = of_instruction i e i.op refl
      by (Answers at k) e = of_answer at k e

pub slots_stay : SlotsStay
slots_stay image settings states drawn is are = λ o comes. slots_kept image settings states drawn o is are comes
