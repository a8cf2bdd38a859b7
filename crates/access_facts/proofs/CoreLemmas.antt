-- The registers and flags of externs as sets.
use Rattle.std.proofs.Common.{◌≡◌, true, false, [], ◌∷◌, refl, sym, subst}
use Rattle.std.proofs.lemmas.Bool.{true≢false}
use Rattle.image_map.specs.declared.region.Kind.{Kind}
use Rattle.image_map.specs.declared.region.Kind.TheVariants as kind
use Rattle.ia32_types.specs.declared.Reg.TheVariants.{Eax, Ecx, Edx, Esp}
use Rattle.ia32_types.specs.declared.Instr.{Instr}
use Rattle.ia32_types.specs.declared.sets.RegSet.{RegSet}
use Rattle.ia32_types.specs.declared.sets.FlagSet.{FlagSet}
use Rattle.ia32_types.specs.Places.{arithmetic_flags, registers_read, registers_written, flags_read, flags_written}
use Rattle.ia32_types.specs.Sets.{HasRegs, HasFlags}
use Rattle.abs_semantics.specs.States.{AbsState}
use Rattle.abs_steps.specs.Places.{Extern, Instruction, Nothing}
use Rattle.access_facts.specs.declared.core_sets.CoreSets.{CoreSets}
use Rattle.access_facts.specs.CoreSets.{AreCores, AreEmpty, IsReturning, stops}
use Rattle.access_facts.specs.Cores.{registers_used, registers_defined, registers_always, flags_used, flags_defined, flags_always, extern_reads_registers, extern_writes_registers, extern_writes_flags}

pub cores_nothing : (a : AbsState) (s : CoreSets) → AreEmpty s → AreCores a Nothing s
unfolding registers_used registers_defined registers_always flags_used flags_defined flags_always
cores_nothing a s h =
    record {
      registers_used = h.registers_used;
      registers_defined = h.registers_defined;
      registers_always = h.registers_always;
      flags_used = h.flags_used;
      flags_defined = h.flags_defined;
      flags_always = h.flags_always;
    }

pub cores_stop : (a : AbsState) (s : CoreSets) → AreEmpty s → AreCores a (Extern kind.Stop) s
unfolding registers_used registers_defined registers_always flags_used flags_defined flags_always extern_reads_registers extern_writes_registers extern_writes_flags
cores_stop a s h =
    record {
      registers_used = h.registers_used;
      registers_defined = h.registers_defined;
      registers_always = h.registers_always;
      flags_used = h.flags_used;
      flags_defined = h.flags_defined;
      flags_always = h.flags_always;
    }

returning : (a : AbsState) (k : Kind) (s : CoreSets) → IsReturning s → extern_reads_registers k ≡ Esp ∷ [] → extern_writes_registers k ≡ Eax ∷ Ecx ∷ Edx ∷ Esp ∷ [] → extern_writes_flags k ≡ arithmetic_flags → AreCores a (Extern k) s
unfolding registers_used registers_defined registers_always flags_used flags_defined flags_always
returning a k s h reads writes flags =
    let defined : HasRegs s.registers_defined (extern_writes_registers k) = subst (HasRegs s.registers_defined) (sym writes) h.defined.0 in
    let turned : HasFlags s.flags_defined (extern_writes_flags k) = subst (HasFlags s.flags_defined) (sym flags) h.defined.1 in
    record {
      registers_used = subst (HasRegs s.registers_used) (sym reads) h.used.0;
      registers_defined = defined;
      registers_always = subst (λ (x : RegSet). HasRegs x (extern_writes_registers k)) (sym h.always.0) defined;
      flags_used = h.used.1;
      flags_defined = turned;
      flags_always = subst (λ (x : FlagSet). HasFlags x (extern_writes_flags k)) (sym h.always.1) turned;
    }

pub cores_stopping : (a : AbsState) (k : Kind) (s : CoreSets) → stops k ≡ true → AreEmpty s → AreCores a (Extern k) s
cores_stopping a kind.Stop s is h = cores_stop a s h
cores_stopping a (kind.Pure n) s is h = absurd (true≢false (sym is))
cores_stopping a (kind.Reader n) s is h = absurd (true≢false (sym is))
cores_stopping a kind.Alloc s is h = absurd (true≢false (sym is))
cores_stopping a kind.Unknown s is h = absurd (true≢false (sym is))
cores_stopping a (kind.Fills m n) s is h = absurd (true≢false (sym is))

pub cores_returning : (a : AbsState) (k : Kind) (s : CoreSets) → stops k ≡ false → IsReturning s → AreCores a (Extern k) s
unfolding extern_reads_registers extern_writes_registers extern_writes_flags
cores_returning a kind.Stop s isnt h = absurd (true≢false isnt)
cores_returning a (kind.Pure n) s isnt h = returning a (kind.Pure n) s h refl refl refl
cores_returning a (kind.Reader n) s isnt h = returning a (kind.Reader n) s h refl refl refl
cores_returning a kind.Alloc s isnt h = returning a kind.Alloc s h refl refl refl
cores_returning a kind.Unknown s isnt h = returning a kind.Unknown s h refl refl refl
cores_returning a (kind.Fills m n) s isnt h = returning a (kind.Fills m n) s h refl refl refl

pub cores_instruction : (a : AbsState) (i : Instr) (s : CoreSets) → HasRegs s.registers_used (registers_read i) → HasRegs s.registers_defined (registers_written i) → HasRegs s.registers_always (registers_always a (Instruction i))
    → HasFlags s.flags_used (flags_read i) → HasFlags s.flags_defined (flags_written i) → HasFlags s.flags_always (flags_always (Instruction i)) → AreCores a (Instruction i) s
unfolding registers_used registers_defined flags_used flags_defined
cores_instruction a i s used defined always read written sure =
    record { registers_used = used; registers_defined = defined; registers_always = always; flags_used = read; flags_defined = written; flags_always = sure }
