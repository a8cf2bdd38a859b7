-- What a step does to the stack and to what was allocated.
use Rattle.std.proofs.Common.{◌≡◌, ◌⊎◌, inl, inr, ℕ, true, List, [], ◌++◌, length, Option, Some, None, refl, sym, ◌∙◌, ap}
use Rattle.std.proofs.lemmas.Bool.{true≢false}
use Rattle.std.proofs.lemmas.List.{append-nil}
use Rattle.std.proofs.lemmas.Option.{none-some}
use Rattle.image_map.specs.declared.image.Image.{Image}
use Rattle.image_map.specs.declared.region.Kind.{Kind}
use Rattle.image_map.specs.declared.region.Kind.TheVariants as kind
use Rattle.image_map.specs.declared.region.Settings.{Settings}
use Rattle.image_map.specs.CallModel.{AreSettings}
use Rattle.image_map.specs.Whole.{IsImage}
use Rattle.ia32_types.specs.declared.Instr.{Instr}
use Rattle.ia32_types.specs.declared.Op.{Op}
use Rattle.ia32_types.specs.declared.Op.TheVariants as op
use Rattle.ia32_semantics.specs.declared.state.Allocation.{Allocation}
use Rattle.ia32_semantics.specs.Externs as externs
use Rattle.ia32_semantics.specs.Ia32.{machine}
use Rattle.ia32_semantics.specs.Machine.{Occurrence}
use Rattle.ia32_semantics.specs.Outcome.{Given, with_allocation}
use Rattle.ia32_semantics.specs.Reading.{outcome}
use Rattle.ia32_semantics.specs.Rows as rows
use Rattle.ia32_semantics.specs.State.{State, newest_site}
use Rattle.ia32_semantics.specs.Step.{Act, Executes, Answers, Step, act_row, act_completes, operation_completes}
use Rattle.ia32_semantics.proofs.StepLemmas.{slot_stays}
use Rattle.abs_steps.specs.Successors.{States}
use Rattle.slice_soundness.specs.Located.{Takes, GivesUp, MovesBytes}
use Rattle.slice_soundness.specs.Maps.{here}
use Rattle.slice_soundness.specs.Premises.{GoesOn, IsReady}
use Rattle.step_soundness.specs.Steps.{is_plain}
use Rattle.call_soundness.specs.Externs.{returns_from}
use Rattle.call_soundness.specs.Laws.{is_staying, StepsMoveBytes}
use Rattle.call_soundness.specs.Maps.{Drawn, map_of}
use Rattle.call_soundness.proofs.BackLaws.{Leaves}
use Rattle.call_soundness.proofs.EnterLaws.{Enters}
use Rattle.call_soundness.proofs.RowLaws.{moves, enters, leaves, answers}

-- what was allocated stays so
more_allocs : (site : ℕ) (o : Option Given) (xs : List Allocation) → (more : List Allocation) × (with_allocation site o xs ≡ xs ++ more)
more_allocs site None xs = ([], sym (append-nil xs))
more_allocs site (Some g) xs = (_, refl)

module _ (image : Image) (settings : Settings) (states : States) (drawn : Drawn) (o : Occurrence Act) (is : IsImage image) (are : AreSettings (length image.externs) settings)
    (goes : GoesOn (machine image settings) (map_of image settings states drawn) o) where
  abbrev Calls : Type 0
  Calls = (o.after.activations ≡ o.before.activations) ⊎ (Takes (machine image settings) o ⊎ GivesUp (machine image settings) o)

  step : Step image o
  step = goes.comes.happens.step

  ready : IsReady (machine image settings) (map_of image settings states drawn) o.before
  ready = goes.comes.ready

  takes : Enters image settings states (here (map_of image settings states drawn) o.before) ready.value o → Calls
  takes m = inr (inl (record { new = m.new; grown = m.grown; taken = m.taken }))

  gives_up : Leaves image settings states (here (map_of image settings states drawn) o.before) ready.value o → Calls
  gives_up m = inr (inr (record { ending = m.ending; parent = m.parent; older = m.older; were = m.were; are = m.are; given = m.given_up }))

  ends_here : (c : Act) → o.act ≡ c → act_completes c o ≡ true → Calls
  ends_here c e t = absurd (true≢false (sym t ∙ sym (ap (λ x. act_completes x o) e) ∙ goes.not_last))

  no_outcome : (c : Act) → o.act ≡ c → outcome (act_row c) o.before o.choices ≡ None → Calls
  no_outcome c e none = absurd (none-some _ (sym none ∙ ap (λ x. outcome (act_row x) o.before o.choices) (sym e) ∙ step.row))

  of_instruction : (i : Instr) → o.act ≡ Executes i → (c : Op) → i.op ≡ c → Calls
  unfolding is_plain rows.row
  of_instruction i act op.Call e = takes (enters image settings states drawn is o ready i act goes.comes.happens.act step e)
  of_instruction i act op.Ret e = gives_up (leaves image settings states drawn is o ready i act goes.comes.happens.act step e goes.not_last)
  of_instruction i act op.Hlt e = ends_here (Executes i) act (ap (λ c. operation_completes c o) e)
  of_instruction i act op.Int3 e = no_outcome (Executes i) act (ap (λ c. outcome (rows.row c i) o.before o.choices) e)
  of_instruction i act op.Ud2 e = no_outcome (Executes i) act (ap (λ c. outcome (rows.row c i) o.before o.choices) e)
  of_instruction i act _ e = inl (moves image settings states drawn is o ready i act goes.comes.happens.act step (ap is_staying e)).same

  of_returning : (at : ℕ) (k : Kind) → o.act ≡ Answers at k → returns_from k ≡ true → Calls
  of_returning at k act returns = gives_up (answers image settings states drawn is o ready at k act goes.comes.happens.act step are returns goes.not_last)

  of_answer : (at : ℕ) (k : Kind) → o.act ≡ Answers at k → Calls
  unfolding externs.extern_row
  of_answer at kind.Stop act = ends_here (Answers at kind.Stop) act refl
  of_answer at kind.Unknown act = no_outcome (Answers at kind.Unknown) act refl
  of_answer at (kind.Pure j) act = of_returning at (kind.Pure j) act refl
  of_answer at (kind.Reader j) act = of_returning at (kind.Reader j) act refl
  of_answer at kind.Alloc act = of_returning at kind.Alloc act refl
  of_answer at (kind.Fills b l) act = of_returning at (kind.Fills b l) act refl

  of_act : (c : Act) → o.act ≡ c → Calls
  of_act (Executes i) e = of_instruction i e i.op refl
  of_act (Answers at k) e = of_answer at k e

  pub bytes_move : MovesBytes (machine image settings) o
  bytes_move =
      let more = more_allocs (newest_site o.before.activations) step.done.given o.before.allocs in
      record { slot = slot_stays image o step; more = more.0; allocs = ap (λ (t : State). t.allocs) step.after ∙ more.1; calls = of_act o.act refl }

pub steps_move_bytes : StepsMoveBytes
steps_move_bytes image settings states drawn o is are goes = bytes_move image settings states drawn o is are goes
