-- What externs read and write lies in their accesses.
use Rattle.std.proofs.Common.{◌≡◌, ℕ, ◌&&◌, ◌||◌, Bool, true, false, List, [], ◌∷◌, ◌++◌, Option, Some, None, refl, sym, ◌∙◌, ap, subst}
use Rattle.std.specs.Prelude.{is_some}
use Rattle.std.proofs.lemmas.Bool.{false≢true, true≢false, and_parts}
use Rattle.std.proofs.lemmas.Option.{none-some}
use Rattle.image_map.specs.declared.image.Image.{Image}
use Rattle.image_map.specs.declared.region.Kind.{Kind}
use Rattle.image_map.specs.declared.region.Kind.TheVariants as kind
use Rattle.image_map.specs.CallModel.{IsKind}
use Rattle.ia32_semantics.specs.Effects.{Effect, Whole, sets, effects_fit, effects_write, effects_take}
use Rattle.ia32_semantics.specs.Externs as externs
use Rattle.ia32_semantics.specs.Externs.{Results, result_effects}
use Rattle.ia32_semantics.specs.Machine.{Occurrence}
use Rattle.ia32_semantics.specs.Operands.{flag_effects}
use Rattle.ia32_semantics.specs.Outcome.{Outcome, going, can_move}
use Rattle.ia32_semantics.specs.Reading.{outcome, asks}
use Rattle.ia32_semantics.specs.Rows as rows
use Rattle.ia32_semantics.specs.State.{AtByte}
use Rattle.ia32_semantics.specs.Step.{Act, act_row, reads as step_reads, outcome_takes}
use Rattle.ia32_semantics.proofs.ChangeLemmas.{write_append, take_append, flags_write_none}
use Rattle.ia32_semantics.proofs.EffectLemmas.{and_left, or_true, fit_append}
use Rattle.ia32_semantics.proofs.StepLemmas.{writes_are}
use Rattle.alocs.specs.Cells.{Division}
use Rattle.abs_semantics.specs.States.{AbsState}
use Rattle.abs_steps.specs.Accesses.{extern_reads}
use Rattle.abs_steps.specs.Successors.{is_at_slot}
use Rattle.step_soundness.specs.Accessed.{IsAccessed}
use Rattle.step_soundness.proofs.EndLaws.{flags_take}
use Rattle.step_soundness.proofs.GivenLaws.{Gives}
use Rattle.call_soundness.specs.Externs.{returns_from, is_reader, IsAnswered, KeepsAnswer}
use Rattle.call_soundness.proofs.AnswerLaws.{Does, extern_gives}
use Rattle.call_soundness.proofs.ExternLaws.{extern_at_slot, extern_quiet}

-- results are no bytes
results_write : (r : Results) (byte : ℕ) → effects_write (result_effects r) (AtByte byte) ≡ false
results_write r byte = write_append (sets Whole 0 r.eax ∷ sets Whole 1 r.ecx ∷ sets Whole 2 r.edx ∷ []) (flag_effects r.flags) (AtByte byte) ∙ flags_write_none r.flags byte

results_take : (r : Results) (byte : ℕ) → effects_take (result_effects r) (AtByte byte) ≡ false
results_take r byte = take_append (sets Whole 0 r.eax ∷ sets Whole 1 r.ecx ∷ sets Whole 2 r.edx ∷ []) (flag_effects r.flags) (AtByte byte) ∙ flags_take r.flags byte

or_first : (b c : Bool) → c ≡ false → (b || c) ≡ true → b ≡ true
or_first true c e f = refl
or_first false c e f = absurd (false≢true (sym e ∙ f))

module _ (image : Image) (lane : ℕ) (a : AbsState) (p : ℕ) (d : Division) (at : ℕ) (k : Kind) (o : Occurrence Act) (h : IsAnswered image lane a p d at k o) where
  row_is : outcome (externs.extern_row at k) o.before o.choices ≡ Some (h.step.done, [])
  row_is = subst (λ (c : Act). outcome (act_row c) o.before o.choices ≡ Some (h.step.done, [])) h.act h.step.row

  fits_all : effects_fit image o.before.memory h.step.done.effects ≡ true
  fits_all = and_left (effects_fit image o.before.memory h.step.done.effects) (can_move h.step.done.calls o.before.activations) h.step.possible

  -- what is read is asked for, or taken over by what is done
  read_or : (byte : ℕ) → step_reads o (AtByte byte) ≡ true → {P : Type 0} → (asks (externs.extern_row at k) o.before o.choices (AtByte byte) ≡ true → P)
      → ((effects_take h.step.done.effects (AtByte byte) || (h.step.done.reads_all && is_some (o.before.memory byte))) ≡ true → P) → P
  read_or byte e asked taken =
      or_true (asks (act_row o.act) o.before o.choices (AtByte byte)) _ e
      (λ f. asked (subst (λ (c : Act). asks (act_row c) o.before o.choices (AtByte byte) ≡ true) h.act f))
      (λ f. taken (sym (ap (λ r. outcome_takes r o.before (AtByte byte)) h.step.row) ∙ f))

  -- -- One that returns

  module _ (returns : returns_from k ≡ true) (fits : IsKind k) where
    at_slot : is_at_slot p a ≡ true
    at_slot = extern_at_slot image a p d k returns h.quiet

    row : Gives o.before (IsAccessed lane o.before (extern_reads a k)) (Does image lane p a o.before d h.known h.canonical at_slot at k) (externs.extern_row at k)
    row = extern_gives image lane p a o.before d h.known h.canonical at_slot at k returns fits (extern_quiet image a p d k h.quiet)

    does : Does image lane p a o.before d h.known h.canonical at_slot at k h.step.done
    does = row.given o.choices [] h.step.done row_is

    abbrev front : List Effect
    front = does.first ++ result_effects does.results

    abbrev last : List Effect
    last = sets Whole 4 (rows.risen (o.before.registers 4) 4) ∷ []

    effects_are : h.step.done.effects ≡ (does.first ++ result_effects does.results) ++ last
    effects_are = ap (λ (x : Outcome). x.effects) does.is

    first_fits : effects_fit image o.before.memory does.first ≡ true
    first_fits =
        let all = and_parts (effects_fit image o.before.memory front) (effects_fit image o.before.memory last) (sym (fit_append image o.before.memory front last) ∙ sym (ap (effects_fit image o.before.memory) effects_are) ∙ fits_all) in
        (and_parts (effects_fit image o.before.memory does.first) (effects_fit image o.before.memory (result_effects does.results)) (sym (fit_append image o.before.memory does.first (result_effects does.results)) ∙ all.0)).0

    first_write : (byte : ℕ) → effects_write h.step.done.effects (AtByte byte) ≡ true → effects_write does.first (AtByte byte) ≡ true
    first_write byte e =
        or_first (effects_write does.first (AtByte byte)) (effects_write (result_effects does.results) (AtByte byte)) (results_write does.results byte)
        (sym (write_append does.first (result_effects does.results) (AtByte byte))
        ∙ or_first (effects_write front (AtByte byte)) (effects_write last (AtByte byte)) refl (sym (write_append front last (AtByte byte)) ∙ sym (ap (λ es. effects_write es (AtByte byte)) effects_are) ∙ e))

    none_taken : (byte : ℕ) → effects_take h.step.done.effects (AtByte byte) ≡ false
    none_taken byte =
        ap (λ es. effects_take es (AtByte byte)) effects_are ∙ take_append front last (AtByte byte) ∙ ap (λ b. b || false) (take_append does.first (result_effects does.results) (AtByte byte))
        ∙ (λ i. does.takes byte i || results_take does.results byte i || false)

    returning_keeps : KeepsAnswer lane a p d k o
    returning_keeps =
        record {
          reads = λ byte other e. read_or byte e (λ f. row.asked o.choices [] h.step.done row_is byte f) (λ f. absurd (never byte other f));
          writes = λ byte e. does.written byte first_fits (first_write byte (sym (writes_are image o h.step (AtByte byte)) ∙ e));
        }
      where
        never : (byte : ℕ) → is_reader k ≡ false → (effects_take h.step.done.effects (AtByte byte) || (h.step.done.reads_all && is_some (o.before.memory byte))) ≡ true → ⊥
        never byte other f =
            or_true (effects_take h.step.done.effects (AtByte byte)) _ f
            (λ taken. true≢false (sym taken ∙ none_taken byte))
            (λ all. true≢false (sym (does.everything (sym (ap (λ (x : Outcome). x.reads_all) does.is) ∙ and_left h.step.done.reads_all _ all)) ∙ other))

  -- -- One that ends the run

  stopping_keeps : k ≡ kind.Stop → KeepsAnswer lane a p d k o
  unfolding externs.extern_row
  stopping_keeps stops =
      record {
        reads = λ byte other e. absurd (read_or byte e (λ f. false≢true (sym (ap (λ c. asks (externs.extern_row at c) o.before o.choices (AtByte byte)) stops) ∙ f))
            (λ f. false≢true (sym (ap (λ (x : Outcome). effects_take x.effects (AtByte byte) || (x.reads_all && is_some (o.before.memory byte))) done_is) ∙ f)));
        writes = λ byte e. absurd (false≢true (sym (ap (λ (x : Outcome). effects_write x.effects (AtByte byte)) done_is) ∙ sym (writes_are image o h.step (AtByte byte)) ∙ e));
      }
    where
      done_is : h.step.done ≡ going [] at
      done_is = ap first_of (sym row_is ∙ ap (λ c. outcome (externs.extern_row at c) o.before o.choices) stops)
        where
          first_of : Option (Outcome × List ℕ) → Outcome
          first_of None = going [] at
          first_of (Some x) = x.0

  unknown_none : k ≡ kind.Unknown → ⊥
  unfolding externs.extern_row
  unknown_none unknown = none-some _ (sym (ap (λ c. outcome (externs.extern_row at c) o.before o.choices) unknown) ∙ row_is)

  pub answer_keeps : IsKind k → KeepsAnswer lane a p d k o
  answer_keeps fits = by k refl
    where
      by : (c : Kind) → k ≡ c → KeepsAnswer lane a p d k o
      by kind.Stop e = stopping_keeps e
      by kind.Unknown e = absurd (unknown_none e)
      by (kind.Pure n) e = returning_keeps (ap returns_from e) fits
      by (kind.Reader n) e = returning_keeps (ap returns_from e) fits
      by kind.Alloc e = returning_keeps (ap returns_from e) fits
      by (kind.Fills b l) e = returning_keeps (ap returns_from e) fits
