-- What jumps, branches, calls and returns read and write lies in their accesses.
use Rattle.std.proofs.Common.{◌≡◌, inl, inr, ⊎_elim, ℕ, ◌+◌, ◌-◌, ◌<◌, ◌≤◌, ◌&&◌, ◌||◌, true, false, cond, List, [], ◌∷◌, Option, Some, None, refl, sym, ◌∙◌, ap, subst, arith, lit<}
use Rattle.std.specs.Prelude.{is_some}
use Rattle.std.proofs.lemmas.Bool.{false≢true, true≢false, and_parts, cases_lt, or_left}
use Rattle.image_map.specs.declared.image.Image.{Image}
use Rattle.ia32_types.specs.declared.Instr.{Instr}
use Rattle.ia32_types.specs.declared.Op.{Op}
use Rattle.ia32_types.specs.declared.Op.TheVariants as op
use Rattle.ia32_types.specs.declared.Operand.{Operand}
use Rattle.ia32_types.specs.declared.Operand.TheVariants as operand
use Rattle.ia32_types.specs.declared.Width.TheVariants.{D32}
use Rattle.ia32_types.specs.Operands.{HasOperands, IsValue, IsBelow, HasOne, IsReturn}
use Rattle.ia32_semantics.specs.Effects.{effects_fit, effects_write, effects_take, is_of_bytes}
use Rattle.ia32_semantics.specs.Machine.{Occurrence}
use Rattle.ia32_semantics.specs.Operands as machine_operands
use Rattle.ia32_semantics.specs.Operands.{stored_word, number_bytes}
use Rattle.ia32_semantics.specs.Outcome.{Outcome, going, enters, can_move}
use Rattle.ia32_semantics.specs.Reading.{gives, ◌>>=◌, outcome, asks}
use Rattle.ia32_semantics.specs.Rows as rows
use Rattle.ia32_semantics.specs.Rows.{next_place}
use Rattle.ia32_semantics.specs.State.{AtByte}
use Rattle.ia32_semantics.specs.Step.{Act, act_row, reads as step_reads, writes as step_writes, outcome_takes}
use Rattle.ia32_semantics.proofs.EffectLemmas.{and_left, or_true}
use Rattle.ia32_semantics.proofs.StepLemmas.{writes_are}
use Rattle.alocs.specs.Cells.{Division}
use Rattle.vset.specs.Members.{HasValue}
use Rattle.abs_semantics.specs.States.{AbsState}
use Rattle.abs_semantics.specs.StandsFor.{world_of}
use Rattle.abs_steps.specs.declared.accesses.Access.{Access}
use Rattle.abs_steps.specs.Accesses.{word_at, of_operand, word_pushed, reads, writes}
use Rattle.abs_steps.specs.Rows.{pushed_at}
use Rattle.step_soundness.specs.Accessed.{IsNear, IsAccessed, IsFilled, AreFilled, always_written}
use Rattle.step_soundness.specs.Steps.{IsExecuted, KeepsToAccesses}
use Rattle.step_soundness.proofs.EndLaws.{filled_more}
use Rattle.step_soundness.proofs.GivenLaws.{Gives, gives_bind, gives_this, gives_register}
use Rattle.step_soundness.proofs.MoveRows.{condition_gives}
use Rattle.step_soundness.proofs.PointerLaws.{pushed_has}
use Rattle.step_soundness.proofs.RowLaws.{Has, read_gives, spelt_value}
use Rattle.step_soundness.proofs.StackRows.{number_gives}
use Rattle.step_soundness.proofs.StoreLaws.{outside, saved_range}
use Rattle.step_soundness.proofs.WriteLaws.{number_within, or_end}
use Rattle.call_soundness.specs.Laws.{is_control}

-- the bytes of a word lie near its address
pub word_near : (at n byte : ℕ) → is_of_bytes at (number_bytes 4 n) byte ≡ true → (at ≤ byte) × (byte < at + 4)
word_near at n byte e =
    ⊎_elim
    (λ (lt : byte < at). absurd (true≢false (sym e ∙ outside 4 at n byte (inl lt))))
    (λ (le : at ≤ byte). ⊎_elim
    (λ (lt : byte < at + 4). (le, lt))
    (λ (far : at + 4 ≤ byte). absurd (true≢false (sym e ∙ outside 4 at n byte (inr far))))
    (cases_lt byte (at + 4)))
    (cases_lt byte at)

module _ (image : Image) (lane p : ℕ) (a : AbsState) (d : Division) (i : Instr) (o : Occurrence Act) (h : IsExecuted image lane a p d i o) where
  -- what an outcome takes and writes
  record Touches (xs ys : ℕ → Type 0) (sure : List Access) (done : Outcome) : Type 0 where
    pub takes : (byte : ℕ) → effects_take done.effects (AtByte byte) ≡ false
    pub only : done.reads_all ≡ false
    pub written : effects_fit image o.before.memory done.effects ≡ true → (byte : ℕ) → effects_write done.effects (AtByte byte) ≡ true → ys byte
    pub filled : effects_fit image o.before.memory done.effects ≡ true → AreFilled lane o.before (λ byte. effects_write done.effects (AtByte byte)) sure

  touches_none : (R W : ℕ → Type 0) (place : ℕ) → Touches R W [] (going [] place)
  touches_none R W place = record { takes = λ byte. refl; only = refl; written = λ fits byte e. absurd (false≢true e); filled = λ fits. tt }

  row_is : outcome (rows.row i.op i) o.before o.choices ≡ Some (h.step.done, [])
  row_is = subst (λ (c : Act). outcome (act_row c) o.before o.choices ≡ Some (h.step.done, [])) h.act h.step.row

  keeps : (R W : ℕ → Type 0) (sure : List Access) → Gives o.before R (Touches R W sure) (rows.row i.op i)
      → ((byte : ℕ) → step_reads o (AtByte byte) ≡ true → R byte) × ((byte : ℕ) → step_writes o (AtByte byte) ≡ true → W byte) × AreFilled lane o.before (λ byte. step_writes o (AtByte byte)) sure
  keeps R W sure row = (read_there, written_there, filled_there)
    where
      there : Touches R W sure h.step.done
      there = row.given o.choices [] h.step.done row_is

      takes_none : (byte : ℕ) → outcome_takes (Some (h.step.done, [])) o.before (AtByte byte) ≡ false
      takes_none byte = (λ j. there.takes byte j || (there.only j && is_some (o.before.memory byte)))

      read_there : (byte : ℕ) → step_reads o (AtByte byte) ≡ true → R byte
      read_there byte e =
          or_true (asks (act_row o.act) o.before o.choices (AtByte byte)) _ e
          (λ f. row.asked o.choices [] h.step.done row_is byte (subst (λ (c : Act). asks (act_row c) o.before o.choices (AtByte byte) ≡ true) h.act f))
          (λ f. absurd (true≢false (sym f ∙ ap (λ r. outcome_takes r o.before (AtByte byte)) h.step.row ∙ takes_none byte)))

      written_there : (byte : ℕ) → step_writes o (AtByte byte) ≡ true → W byte
      written_there byte e =
          there.written (and_left (effects_fit image o.before.memory h.step.done.effects) (can_move h.step.done.calls o.before.activations) h.step.possible) byte
          (sym (writes_are image o h.step (AtByte byte)) ∙ e)

      filled_there : AreFilled lane o.before (λ byte. step_writes o (AtByte byte)) sure
      filled_there =
          filled_more lane o.before (λ byte. effects_write h.step.done.effects (AtByte byte)) (λ byte. step_writes o (AtByte byte)) (λ byte e. writes_are image o h.step (AtByte byte) ∙ e) sure
          (there.filled (and_left (effects_fit image o.before.memory h.step.done.effects) (can_move h.step.done.calls o.before.activations) h.step.possible))

  -- -- Jumps and branches

  jump_touches : (W : ℕ → Type 0) (dst src : Option Operand) (imm : Option ℕ) → HasOne (IsValue i.width) dst src imm
      → Gives o.before (IsAccessed lane o.before (of_operand false a i.width dst)) (Touches (IsAccessed lane o.before (of_operand false a i.width dst)) W []) (machine_operands.value_of i.width dst >>= (λ target. gives (going [] target)))
  jump_touches W (Some t) None None fits =
      gives_bind o.before (IsAccessed lane o.before (of_operand false a i.width (Some t))) (Has image lane p a o.before d h.known h.canonical i.width t) _ (machine_operands.value_of i.width (Some t)) _
      (read_gives image lane p a o.before d h.known h.canonical (IsAccessed lane o.before (of_operand false a i.width (Some t))) i.width t (spelt_value i.width t fits) (λ byte near. near)) (λ to has.
      gives_this o.before (IsAccessed lane o.before (of_operand false a i.width (Some t))) _ (going [] to) (touches_none _ W to))
  jump_touches W None src imm fits = absurd fits
  jump_touches W (Some t) (Some y) imm fits = absurd fits
  jump_touches W (Some t) None (Some k) fits = absurd fits

  branch_touches : (W : ℕ → Type 0) (c : ℕ) → c < 16 → (dst src : Option Operand) (imm : Option ℕ) → HasOne (IsBelow 4294967296) dst src imm
      → Gives o.before (IsAccessed lane o.before []) (Touches (IsAccessed lane o.before []) W []) (machine_operands.condition c >>= (λ taken. rows.immediate dst >>= (λ target. gives (going [] (cond taken target (next_place i))))))
  unfolding rows.immediate
  branch_touches W c lt (Some (operand.Imm t)) None None fits =
      gives_bind o.before (IsAccessed lane o.before []) _ _ (machine_operands.condition c) _ (condition_gives o.before (IsAccessed lane o.before []) c lt) (λ b e.
      gives_this o.before (IsAccessed lane o.before []) _ (going [] (cond b t (next_place i))) (touches_none _ W (cond b t (next_place i))))
  branch_touches W c lt (Some (operand.Reg r)) None None fits = absurd fits
  branch_touches W c lt (Some (operand.High r)) None None fits = absurd fits
  branch_touches W c lt (Some (operand.Mem m)) None None fits = absurd fits
  branch_touches W c lt None src imm fits = absurd fits
  branch_touches W c lt (Some t) (Some y) imm fits = absurd fits
  branch_touches W c lt (Some t) None (Some k) fits = absurd fits

  -- -- Calls

  abbrev at : ℕ
  at = rows.pushed_at (o.before.registers 4)

  slot_near : (n byte : ℕ) → effects_fit image o.before.memory (rows.push_effects (o.before.registers 4) n) ≡ true → effects_write (rows.push_effects (o.before.registers 4) n) (AtByte byte) ≡ true
      → IsNear lane o.before (pushed_at (a.registers 4)) 4 byte
  slot_near n byte fits e =
      let held : HasValue lane (world_of o.before) at (pushed_at (a.registers 4)) =
      pushed_has lane (world_of o.before) (a.registers 4) (h.canonical.registers 4) (o.before.registers 4) (h.known.stands.registers 4 (lit< tt)) in
      let near = word_near at n byte (or_end _ e) in
      let low : at ≤ byte = near.0 in
      let high : byte < at + 4 = near.1 in
      record {
        at = at;
        count = 4;
        range = saved_range image lane o.before D32 at n (pushed_at (a.registers 4)) (omega arith) held (and_parts _ _ fits).0;
        distance = byte - at;
        near = omega (arith, low, high);
        is = omega (arith, low);
      }

  slot_filled : (n : ℕ) → effects_fit image o.before.memory (rows.push_effects (o.before.registers 4) n) ≡ true
      → IsFilled lane o.before (λ byte. effects_write (rows.push_effects (o.before.registers 4) n) (AtByte byte)) (pushed_at (a.registers 4)) 4
  slot_filled n fits =
      let held : HasValue lane (world_of o.before) at (pushed_at (a.registers 4)) =
      pushed_has lane (world_of o.before) (a.registers 4) (h.canonical.registers 4) (o.before.registers 4) (h.known.stands.registers 4 (lit< tt)) in
      record {
        at = at;
        range = saved_range image lane o.before D32 at n (pushed_at (a.registers 4)) (omega arith) held (and_parts _ _ fits).0;
        filled = λ k lt. or_left _ _ (number_within 4 at n k lt);
      }

  call_touches : (dst src : Option Operand) (imm : Option ℕ) → HasOne (IsValue i.width) dst src imm
      → Gives o.before (IsAccessed lane o.before (of_operand false a i.width dst)) (Touches (IsAccessed lane o.before (of_operand false a i.width dst)) (IsAccessed lane o.before (word_pushed a)) (word_pushed a))
      (machine_operands.value_of i.width dst >>= (λ target. machine_operands.whole_register 4 >>= (λ sp.
      gives (record (going (rows.push_effects sp (next_place i)) target) { calls = enters (rows.activation i.at target (rows.pushed_at sp)); forgets = Some (rows.pushed_at sp) }))))
  unfolding machine_operands.whole_register
  call_touches (Some t) None None fits =
      let R = IsAccessed lane o.before (of_operand false a i.width (Some t)) in
      gives_bind o.before R (Has image lane p a o.before d h.known h.canonical i.width t) _ (machine_operands.value_of i.width (Some t)) _
      (read_gives image lane p a o.before d h.known h.canonical R i.width t (spelt_value i.width t fits) (λ byte near. near)) (λ to has.
      gives_register o.before R _ 4 _
      (gives_this o.before R _ (record (going (rows.push_effects (o.before.registers 4) (next_place i)) to) { calls = enters (rows.activation i.at to (rows.pushed_at (o.before.registers 4))); forgets = Some (rows.pushed_at (o.before.registers 4)) })
      (record { takes = λ byte. refl; only = refl; written = λ fit byte e. inl (slot_near (next_place i) byte fit e); filled = λ fit. (slot_filled (next_place i) fit, tt) })))
  call_touches None src imm fits = absurd fits
  call_touches (Some t) (Some y) imm fits = absurd fits
  call_touches (Some t) None (Some k) fits = absurd fits

  -- -- Returns

  no_byte : (dst src : Option Operand) (imm : Option ℕ) → IsReturn dst src imm → (words : List ℕ) (byte : ℕ) → asks (rows.extra_bytes dst) o.before words (AtByte byte) ≡ true → ⊥
  unfolding rows.extra_bytes rows.immediate
  no_byte None src imm fits words byte f = false≢true f
  no_byte (Some (operand.Imm k)) src imm fits words byte f = false≢true f
  no_byte (Some (operand.Reg r)) src imm fits words byte f = false≢true f
  no_byte (Some (operand.High r)) src imm fits words byte f = false≢true f
  no_byte (Some (operand.Mem m)) src imm fits words byte f = false≢true f

  extra_touches : (dst src : Option Operand) (imm : Option ℕ) → IsReturn dst src imm → Gives o.before (IsAccessed lane o.before (word_at false (a.registers 4) ∷ [])) (λ k. Unit {0}) (rows.extra_bytes dst)
  extra_touches dst src imm fits = record { given = λ words rest x e. tt; asked = λ words rest x e byte f. absurd (no_byte dst src imm fits words byte f) }

  return_touches : (W : ℕ → Type 0) (dst src : Option Operand) (imm : Option ℕ) → IsReturn dst src imm
      → Gives o.before (IsAccessed lane o.before (word_at false (a.registers 4) ∷ [])) (Touches (IsAccessed lane o.before (word_at false (a.registers 4) ∷ [])) W [])
      (machine_operands.whole_register 4 >>= (λ sp. stored_word sp >>= (λ place. rows.extra_bytes dst >>= (λ k. gives (rows.returning [] (rows.risen sp (4 + k)) place)))))
  unfolding machine_operands.whole_register
  return_touches W dst src imm fits =
      let R = IsAccessed lane o.before (word_at false (a.registers 4) ∷ []) in
      gives_register o.before R _ 4 _
      (gives_bind o.before R _ _ (stored_word (o.before.registers 4)) _
      (number_gives image lane p a o.before d h.known h.canonical R D32 (o.before.registers 4) (a.registers 4) (h.known.whole.laid_out.sized.registers 4) (h.known.stands.registers 4 (lit< tt)) (λ byte near. inl near)) (λ place is.
      gives_bind o.before R (λ k. Unit {0}) _ (rows.extra_bytes dst) _ (extra_touches dst src imm fits) (λ k e.
      gives_this o.before R _ (rows.returning [] (rows.risen (o.before.registers 4) (4 + k)) place)
      (record { takes = λ byte. refl; only = refl; written = λ fit byte e. absurd (false≢true e); filled = λ fit. tt }))))

  -- -- All

  pub control_keeps : is_control i.op ≡ true → KeepsToAccesses lane a i o
  unfolding reads writes always_written rows.row
  control_keeps control = by i.op refl control
    where
      of_reads : (c : Op) → i.op ≡ c → Gives o.before (IsAccessed lane o.before (reads c a i)) (Touches (IsAccessed lane o.before (reads c a i)) (IsAccessed lane o.before (writes c a i)) (always_written c a i)) (rows.row c i) → KeepsToAccesses lane a i o
      of_reads c e row =
          let both = keeps (IsAccessed lane o.before (reads i.op a i)) (IsAccessed lane o.before (writes i.op a i)) (always_written i.op a i)
          (subst (λ c. Gives o.before (IsAccessed lane o.before (reads c a i)) (Touches (IsAccessed lane o.before (reads c a i)) (IsAccessed lane o.before (writes c a i)) (always_written c a i)) (rows.row c i)) (sym e) row) in
          record { reads = both.0; writes = both.1; always = both.2 }

      spelt : (c : Op) → i.op ≡ c → HasOperands c i.width i.dst i.src i.imm
      spelt c e = subst (λ c. HasOperands c i.width i.dst i.src i.imm) e h.spelt.operands

      wide : (dst src : Option Operand) (imm : Option ℕ) → i.width ≡ D32 → HasOne (IsValue D32) dst src imm → HasOne (IsValue i.width) dst src imm
      wide dst src imm e fits = subst (λ w. HasOne (IsValue w) dst src imm) (sym e) fits

      by : (c : Op) → i.op ≡ c → is_control c ≡ true → KeepsToAccesses lane a i o
      by op.Jmp e t = let fits : (i.width ≡ D32) × HasOne (IsValue D32) i.dst i.src i.imm = spelt op.Jmp e in of_reads op.Jmp e (jump_touches (IsAccessed lane o.before []) i.dst i.src i.imm (wide i.dst i.src i.imm fits.0 fits.1))
      by (op.Jcc c) e t =
          let fits : (c < 16) × (i.width ≡ D32) × HasOne (IsBelow 4294967296) i.dst i.src i.imm = spelt (op.Jcc c) e in
          of_reads (op.Jcc c) e (branch_touches (IsAccessed lane o.before []) c fits.0 i.dst i.src i.imm fits.2)
      by op.Call e t = let fits : (i.width ≡ D32) × HasOne (IsValue D32) i.dst i.src i.imm = spelt op.Call e in of_reads op.Call e (call_touches i.dst i.src i.imm (wide i.dst i.src i.imm fits.0 fits.1))
      by op.Ret e t = let fits : (i.width ≡ D32) × IsReturn i.dst i.src i.imm = spelt op.Ret e in of_reads op.Ret e (return_touches (IsAccessed lane o.before []) i.dst i.src i.imm fits.1)
      by _ e t = absurd (false≢true t)
