-- A repeated string instruction writes its registers where ECX isn't 0.
use Rattle.std.proofs.Common.{◌≡◌, ℕ, true, false, ◌||◌, List, [], ◌∷◌, refl, sym, ◌∙◌}
use Rattle.std.specs.Prelude.{◌==◌}
use Rattle.std.proofs.lemmas.Bool.{false≢true}
use Rattle.ia32_types.specs.declared.Reg.{Reg}
use Rattle.ia32_types.specs.declared.Reg.TheVariants.{Eax, Ecx, Esi, Edi}
use Rattle.ia32_types.specs.declared.Flag.TheVariants.{Df}
use Rattle.ia32_types.specs.declared.Instr.{Instr}
use Rattle.ia32_types.specs.declared.Op.{Op}
use Rattle.ia32_types.specs.declared.Op.TheVariants as op
use Rattle.ia32_types.specs.Numbers.{size}
use Rattle.ia32_types.specs.Places.{op_reads, op_writes}
use Rattle.ia32_semantics.specs.Effects.{Effect, Whole, sets}
use Rattle.ia32_semantics.specs.Laws.{has_register, is_repeated}
use Rattle.ia32_semantics.specs.Operands.{whole_register}
use Rattle.ia32_semantics.specs.Outcome.{going}
use Rattle.ia32_semantics.specs.Reading.{Reading}
use Rattle.ia32_semantics.specs.Rows.{row, strung}
use Rattle.ia32_semantics.specs.State.{State}
use Rattle.ia32_semantics.specs.Strings.{repeated, movs_effects, stos_effects}
use Rattle.ia32_semantics.proofs.ChangeLemmas.{Changes, none, changes_both}
use Rattle.ia32_semantics.proofs.OperandLemmas.{in_tables, has_none}
use Rattle.ia32_semantics.proofs.TableLemmas.{Meets, exactly}
use Rattle.ia32_semantics.proofs.TableRowLemmas.{movs_within, stos_within, rotated, turned_round}
use Rattle.ia32_semantics.proofs.WithinLemmas.{Within, within_gives, within_bind, within_register, within_if}

module _ (s : State) (reads : List Reg) (some : (s.registers 1 == 0) ≡ false) where
  rounds_within : (regs : List Reg) (effects : ℕ → Reading (List Effect)) (i : Instr) → has_register reads 1 ≡ true
      → ((n : ℕ) → (has_register regs n || (1 == n || false)) ≡ (1 == n || has_register regs n))
      → ((n : ℕ) → Within s (in_tables reads (Df ∷ [])) (Changes (has_register regs) none []) (effects n))
      → Within s (in_tables reads (Df ∷ [])) (Meets reads (Ecx ∷ regs) [] true true) (strung (repeated effects) i)
  unfolding repeated whole_register
  rounds_within regs effects i cx order each =
      let D = in_tables reads (Df ∷ []) in
      let Q = λ (es : List Effect). Meets reads (Ecx ∷ regs) [] true true (going es 0) in
      within_bind s D Q _ (repeated effects) _
      (within_register s D Q 1 _ cx
      (within_if s D Q (s.registers 1 == 0) _ _
      (λ no. absurd (false≢true (sym some ∙ no)))
      (λ more. within_bind s D (Changes (has_register regs) none []) _ (effects (s.registers 1)) _ (each (s.registers 1)) (λ es changes.
      within_gives s D Q _
      (exactly reads (Ecx ∷ regs) [] true true _ _ [] _
      (changes_both (has_register regs) (has_register (Ecx ∷ [])) none none [] [] es (sets Whole 1 0 ∷ []) changes
      (record { registers = λ k. refl; flags = λ k. refl; takes = λ k e. e }))
      order (λ k. refl) (has_none reads))))))
      (λ es meets. within_gives s D (Meets reads (Ecx ∷ regs) [] true true) _ (record {
        takes = meets.takes;
        registers = meets.registers;
        flags = meets.flags;
        all_registers = meets.all_registers;
        all_flags = meets.all_flags;
      }))

-- the registers that a repeated instruction has in its table are all written
pub repeated_writes : (s : State) (o : Op) (i : Instr) → is_repeated o ≡ true → (s.registers 1 == 0) ≡ false
    → Within s (in_tables (op_reads o i.width i.dst i.src i.imm) (Df ∷ [])) (Meets (op_reads o i.width i.dst i.src i.imm) (op_writes o i.width i.dst i.src) [] true true) (row o i)
unfolding op_reads op_writes row
repeated_writes s (op.Movs true) i repeats some =
    rounds_within s (Ecx ∷ Esi ∷ Edi ∷ []) some (Esi ∷ Edi ∷ []) (movs_effects (size i.width)) i refl (λ n. rotated (6 == n) (7 == n) (1 == n)) (λ n. movs_within s (Ecx ∷ Esi ∷ Edi ∷ []) true (size i.width) n refl refl)
repeated_writes s (op.Stos true) i repeats some =
    rounds_within s (Eax ∷ Ecx ∷ Edi ∷ []) some (Edi ∷ []) (stos_effects (size i.width)) i refl (λ n. turned_round (7 == n) (1 == n)) (λ n. stos_within s (Eax ∷ Ecx ∷ Edi ∷ []) true (size i.width) n refl refl)
repeated_writes s (op.Movs false) i repeats some = absurd (false≢true repeats)
repeated_writes s (op.Stos false) i repeats some = absurd (false≢true repeats)
repeated_writes s _ i repeats some = absurd (false≢true repeats)
