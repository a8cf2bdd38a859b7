-- The registers, flags and bytes that a step of an instruction reads, exactly.
use Rattle.std.proofs.Common.{◌≡◌, ℕ, ◌+◌, ◌<◌, ◌≤◌, ◌^◌, List, [], ◌∷◌, refl, sym, ap, ◌∙◌, arith, eqb-true}
use Rattle.std.specs.Prelude.{Bool, true, false, ◌&&◌, ◌||◌, ◌==◌, Option, Some, None, is_some, if◌then◌else◌}
use Rattle.std.specs.List.{list_any}
use Rattle.std.proofs.lemmas.Bool.{false≢true}
use Rattle.std.proofs.lemmas.Bool.Decides.{nat_tests}
use Rattle.std.proofs.lemmas.Option.{none-some, same_Some}
use Rattle.std.proofs.Math.Bool.{and-false}
use Rattle.image_map.specs.declared.image.Image.{Image}
use Rattle.image_map.specs.declared.region.Block.{Block}
use Rattle.image_map.specs.Whole.{IsImage}
use Rattle.image_map.specs.Queries.{is_in_segment}
use Rattle.ia32_types.specs.declared.Reg.{Reg}
use Rattle.ia32_types.specs.declared.Reg.TheVariants.{Ecx}
use Rattle.ia32_types.specs.declared.Flag.{Flag}
use Rattle.ia32_types.specs.declared.Op.{Op}
use Rattle.ia32_types.specs.declared.Op.TheVariants as op
use Rattle.ia32_types.specs.declared.Instr.{Instr}
use Rattle.ia32_types.specs.Numbers.{reg_number, flag_number, is_same_reg}
use Rattle.ia32_types.specs.Places.{registers_read, flags_read}
use Rattle.ia32_types.specs.Sets.{is_listed_reg, is_listed_flag}
use Rattle.ia32_semantics.specs.State.{State, Location, InRegister, InFlag, AtByte}
use Rattle.ia32_semantics.specs.Reading.{Reading, ◌>>=◌, gives, faults, register, flag, byte, choice, with_byte, outcome, asks, is_register}
use Rattle.ia32_semantics.specs.Effects.{Effect, is_mapped, effects_write, effects_take}
use Rattle.ia32_semantics.specs.Outcome.{Outcome, is_in_stack, is_in_block}
use Rattle.ia32_semantics.specs.Operands.{whole_register}
use Rattle.ia32_semantics.specs.Strings.{repeated}
use Rattle.ia32_semantics.specs.CallModel.{AreBlocks, IsLaidOut}
use Rattle.ia32_semantics.specs.Rows.{row, goes_on}
use Rattle.ia32_semantics.specs.Step.{Step, reads, writes, outcome_takes, outcome_writes, reads_over}
use Rattle.ia32_semantics.specs.Laws.{has_register, has_flag, is_repeated}
use Rattle.ia32_semantics.proofs.EffectLemmas.{by_test, and_left, and_right, or_true}
use Rattle.ia32_semantics.proofs.RowWithinLemmas.{steps_keep_to_tables}
use Rattle.ia32_memory.proofs.StartLaws.{segment_low}
use Rattle.item_list.proofs.TruthLaws.{eqb_swapped, same_test}
use Rattle.ia32_machine.specs.Steps.{executes}
use Rattle.ia32_machine.proofs.SureRowLemmas.{row_sure}
use Rattle.ia32_machine.proofs.SureFlagLemmas.{row_flags_sure}
use Rattle.ia32_machine.proofs.SpanLemmas.{AreLow}

-- -- Addresses that are mapped

block_low : (a slot : ℕ) (blocks : List Block) → AreBlocks slot blocks → list_any (is_in_block a) blocks ≡ true → a + 4 < 2 ^ 32
block_low a slot [] placed e = absurd (false≢true e)
block_low a slot (block ∷ later) placed e =
    or_true (is_in_block a block) _ e
    (λ here. let below : block.base + block.size ≤ 0xB0000000 = (placed.0).below in let f : is_in_block a block ≡ true = here in grind (arith, nat_tests))
    (λ there. block_low a slot later placed.1 there)

pub mapped_low : (image : Image) (s : State) → IsImage image → IsLaidOut image s → AreLow (is_mapped s.memory)
mapped_low image s whole lies a e =
    or_true _ _ (sym (lies.mapped a) ∙ e)
    (λ low. or_true (is_in_segment image a) _ low
    (λ there. let f = segment_low image a whole there in omega arith)
    (λ there. let below = lies.slot.below in let g : is_in_stack s.slot a ≡ true = there in grind (arith, nat_tests)))
    (λ there. block_low a s.slot s.blocks lies.placed there)

-- a byte that is asked for on the way to an outcome is mapped
byte_mapped : {A : Type 0} (s : State) (b a : ℕ) (m : Option ℕ) → s.memory b ≡ m → (next : ℕ → Option A) (asked : ℕ → Bool) (y : A)
    → ((v : ℕ) → next v ≡ Some y → asked v ≡ true → is_mapped s.memory a ≡ true)
    → with_byte m None next ≡ Some y → (b == a || with_byte m false asked) ≡ true → is_mapped s.memory a ≡ true
byte_mapped s b a None same next asked y later is e = absurd (none-some _ is)
byte_mapped s b a (Some v) same next asked y later is e = or_true (b == a) _ e
    (λ here. let it : b ≡ a = eqb-true b a here in ap (λ (k : ℕ). is_some (s.memory k)) (sym it) ∙ ap is_some same)
    (λ more. later v is more)

asked_mapped : {A : Type 0} (t : Reading A) (s : State) (words rest : List ℕ) (x : A) (a : ℕ) → outcome t s words ≡ Some (x, rest) → asks t s words (AtByte a) ≡ true
    → is_mapped s.memory a ≡ true
asked_mapped (gives y) s words rest x a is e = absurd (false≢true e)
asked_mapped faults s words rest x a is e = absurd (false≢true e)
asked_mapped (register n more) s words rest x a is e = asked_mapped (more (s.registers n)) s words rest x a is e
asked_mapped (flag n more) s words rest x a is e = asked_mapped (more (s.flags n)) s words rest x a is e
asked_mapped (byte b more) s words rest x a is e =
    byte_mapped s b a (s.memory b) refl (λ v. outcome (more v) s words) (λ v. asks (more v) s words (AtByte a)) (x, rest) (λ v f g. asked_mapped (more v) s words rest x a f g) is e
asked_mapped (choice more) s [] rest x a is e = absurd (none-some _ is)
asked_mapped (choice more) s (word ∷ words) rest x a is e = asked_mapped (more word) s words rest x a is e

-- -- An instruction that is repeated no times

record Idle (t : Reading Outcome) (s : State) (words : List ℕ) : Type 0 where
  pub asked : (l : Location) → asks t s words l ≡ is_register 1 l
  pub effects : (done : Outcome) (rest : List ℕ) → outcome t s words ≡ Some (done, rest) → done.effects ≡ []

or_none : (b : Bool) → (b || false) ≡ b
or_none true = refl
or_none false = refl

idle_asks : (b : Bool) (t : Reading (List Effect)) (i : Instr) (s : State) (words : List ℕ) (l : Location) → b ≡ true
    → asks ((if b then gives [] else t) >>= (λ done. goes_on i done)) s words l ≡ false
idle_asks true t i s words l e = refl
idle_asks false t i s words l e = absurd (false≢true e)

idle_effects : (b : Bool) (t : Reading (List Effect)) (i : Instr) (s : State) (words : List ℕ) (done : Outcome) (rest : List ℕ) → b ≡ true
    → outcome ((if b then gives [] else t) >>= (λ done. goes_on i done)) s words ≡ Some (done, rest) → done.effects ≡ []
idle_effects true t i s words done rest e is = ap (λ (d : Outcome). d.effects) (ap (λ w. w.0) (same_Some (done, rest) _ (sym is)))
idle_effects false t i s words done rest e is = absurd (false≢true e)

idle_if : (t : ℕ → Reading (List Effect)) (i : Instr) (s : State) (words : List ℕ) → (s.registers 1 == 0) ≡ true
    → Idle (register 1 (λ v. (if v == 0 then gives [] else t v) >>= (λ done. goes_on i done))) s words
idle_if t i s words e = record {
  asked = λ l. ap (λ b. is_register 1 l || b) (idle_asks (s.registers 1 == 0) (t (s.registers 1)) i s words l e) ∙ or_none _;
  effects = λ done rest is. idle_effects (s.registers 1 == 0) (t (s.registers 1)) i s words done rest e is;
}

idle_row : (o : Op) (i : Instr) (s : State) (words : List ℕ) → is_repeated o ≡ true → (s.registers 1 == 0) ≡ true → Idle (row o i) s words
unfolding row repeated whole_register
idle_row (op.Movs true) i s words e zero = idle_if _ i s words zero
idle_row (op.Stos true) i s words e zero = idle_if _ i s words zero
idle_row op.Add i s words e zero = absurd (false≢true e)
idle_row op.Or i s words e zero = absurd (false≢true e)
idle_row op.Adc i s words e zero = absurd (false≢true e)
idle_row op.Sbb i s words e zero = absurd (false≢true e)
idle_row op.And i s words e zero = absurd (false≢true e)
idle_row op.Sub i s words e zero = absurd (false≢true e)
idle_row op.Xor i s words e zero = absurd (false≢true e)
idle_row op.Cmp i s words e zero = absurd (false≢true e)
idle_row op.Mov i s words e zero = absurd (false≢true e)
idle_row op.Lea i s words e zero = absurd (false≢true e)
idle_row op.Push i s words e zero = absurd (false≢true e)
idle_row op.Pop i s words e zero = absurd (false≢true e)
idle_row op.Xchg i s words e zero = absurd (false≢true e)
idle_row op.Test i s words e zero = absurd (false≢true e)
idle_row op.Inc i s words e zero = absurd (false≢true e)
idle_row op.Dec i s words e zero = absurd (false≢true e)
idle_row op.Not i s words e zero = absurd (false≢true e)
idle_row op.Neg i s words e zero = absurd (false≢true e)
idle_row op.Mul i s words e zero = absurd (false≢true e)
idle_row op.Imul i s words e zero = absurd (false≢true e)
idle_row op.Shl i s words e zero = absurd (false≢true e)
idle_row op.Shr i s words e zero = absurd (false≢true e)
idle_row op.Sar i s words e zero = absurd (false≢true e)
idle_row (op.Movzx from) i s words e zero = absurd (false≢true e)
idle_row (op.Movsx from) i s words e zero = absurd (false≢true e)
idle_row op.Cwde i s words e zero = absurd (false≢true e)
idle_row op.Cdq i s words e zero = absurd (false≢true e)
idle_row op.Leave i s words e zero = absurd (false≢true e)
idle_row (op.Setcc c) i s words e zero = absurd (false≢true e)
idle_row op.Call i s words e zero = absurd (false≢true e)
idle_row op.Ret i s words e zero = absurd (false≢true e)
idle_row op.Jmp i s words e zero = absurd (false≢true e)
idle_row (op.Jcc c) i s words e zero = absurd (false≢true e)
idle_row op.Nop i s words e zero = absurd (false≢true e)
idle_row op.Endbr32 i s words e zero = absurd (false≢true e)
idle_row op.Hlt i s words e zero = absurd (false≢true e)
idle_row op.Int3 i s words e zero = absurd (false≢true e)
idle_row op.Ud2 i s words e zero = absurd (false≢true e)
idle_row (op.Cmov c) i s words e zero = absurd (false≢true e)
idle_row op.Rol i s words e zero = absurd (false≢true e)
idle_row op.Ror i s words e zero = absurd (false≢true e)
idle_row op.Div i s words e zero = absurd (false≢true e)
idle_row op.Idiv i s words e zero = absurd (false≢true e)
idle_row (op.Movs false) i s words e zero = absurd (false≢true e)
idle_row (op.Stos false) i s words e zero = absurd (false≢true e)
idle_row op.Cld i s words e zero = absurd (false≢true e)
idle_row op.Std i s words e zero = absurd (false≢true e)

-- -- Sets of registers and flags

listed_reg : (r : Reg) (regs : List Reg) → is_listed_reg regs r ≡ has_register regs (reg_number r)
listed_reg r [] = refl
listed_reg r (q ∷ regs) = ap (λ b. b || is_listed_reg regs r) (eqb_swapped (reg_number r) (reg_number q)) ∙ ap (λ b. reg_number q == reg_number r || b) (listed_reg r regs)

listed_flag : (f : Flag) (flags : List Flag) → is_listed_flag flags f ≡ has_flag flags (flag_number f)
listed_flag f [] = refl
listed_flag f (q ∷ flags) = ap (λ b. b || is_listed_flag flags f) (eqb_swapped (flag_number f) (flag_number q)) ∙ ap (λ b. flag_number q == flag_number f || b) (listed_flag f flags)

takes_nothing : (es : List Effect) (l : Location) → es ≡ [] → effects_take es l ≡ false
takes_nothing es l e = ap (λ es. effects_take es l) e

not_false : (b : Bool) → (b ≡ true → false ≡ true) → b ≡ false
not_false true f = sym (f refl)
not_false false f = refl

-- A step of an instruction with these words, whose outcome doesn't read all of memory.
module _ (image : Image) (i : Instr) (used : List ℕ) (s after : State) (st : Step image (executes i used s after)) where
  taken_are : (l : Location) → reads (executes i used s after) l ≡ (asks (row i.op i) s used l || (effects_take st.done.effects l || reads_over st.done s l))
  taken_are l = ap (λ r. asks (row i.op i) s used l || outcome_takes r s l) st.row

  pub written_are : (l : Location) → writes (executes i used s after) l ≡ effects_write st.done.effects l
  written_are l = ap (λ r. outcome_writes r l) st.row

  -- of a register or a flag
  taken_alone : (l : Location) → reads_over st.done s l ≡ false → reads (executes i used s after) l ≡ (asks (row i.op i) s used l || effects_take st.done.effects l)
  taken_alone l none = taken_are l ∙ ap (λ b. asks (row i.op i) s used l || (effects_take st.done.effects l || b)) none ∙ ap (λ b. asks (row i.op i) s used l || b) (or_none _)

  idle_reads : (l : Location) → reads_over st.done s l ≡ false → is_repeated i.op ≡ true → (s.registers 1 == 0) ≡ true → reads (executes i used s after) l ≡ is_register 1 l
  idle_reads l none repeats zero =
      let idle = idle_row i.op i s used repeats zero in
      taken_alone l none ∙ ap (λ b. b || effects_take st.done.effects l) (idle.asked l)
      ∙ ap (λ b. is_register 1 l || b) (takes_nothing st.done.effects l (idle.effects st.done [] st.row)) ∙ or_none _

  abbrev pub is_idle : Bool
  is_idle = is_repeated i.op && s.registers 1 == 0

  counts : (is_repeated i.op && s.registers 1 == 0) ≡ false → is_repeated i.op ≡ true → (s.registers 1 == 0) ≡ false
  counts idle repeats = sym (ap (λ b. b && s.registers 1 == 0) repeats) ∙ idle

  pub registers_are : (r : Reg) → reads (executes i used s after) (InRegister (reg_number r)) ≡ (if is_idle then is_same_reg r Ecx else is_listed_reg (registers_read i) r)
  registers_are r =
      by_test is_idle
      (λ idle. idle_reads l (and-false st.done.reads_all) (and_left (is_repeated i.op) _ idle) (and_right (is_repeated i.op) _ idle)
      ∙ eqb_swapped 1 (reg_number r) ∙ sym (ap (λ b. if b then is_same_reg r Ecx else is_listed_reg (registers_read i) r) idle))
      (λ busy. same_test (reads (executes i used s after) l) (has_register (registers_read i) (reg_number r))
      (λ e. (steps_keep_to_tables image i (executes i used s after) refl st).reads_registers (reg_number r) e)
      (λ e. taken_alone l (and-false st.done.reads_all) ∙ (row_sure s (reg_number r) i.op i (counts busy) e).each used [] st.done st.row)
      ∙ sym (listed_reg r (registers_read i)) ∙ sym (ap (λ b. if b then is_same_reg r Ecx else is_listed_reg (registers_read i) r) busy))
    where
      l : Location
      l = InRegister (reg_number r)

  pub flags_are : (f : Flag) → reads (executes i used s after) (InFlag (flag_number f)) ≡ (if is_idle then false else is_listed_flag (flags_read i) f)
  flags_are f =
      by_test is_idle
      (λ idle. idle_reads l (and-false st.done.reads_all) (and_left (is_repeated i.op) _ idle) (and_right (is_repeated i.op) _ idle)
      ∙ sym (ap (λ b. if b then false else is_listed_flag (flags_read i) f) idle))
      (λ busy. same_test (reads (executes i used s after) l) (has_flag (flags_read i) (flag_number f))
      (λ e. (steps_keep_to_tables image i (executes i used s after) refl st).reads_flags (flag_number f) e)
      (λ e. taken_alone l (and-false st.done.reads_all) ∙ (row_flags_sure s (flag_number f) i.op i (counts busy) e).each used [] st.done st.row)
      ∙ sym (listed_flag f (flags_read i)) ∙ sym (ap (λ b. if b then false else is_listed_flag (flags_read i) f) busy))
    where
      l : Location
      l = InFlag (flag_number f)

  pub bytes_are : (a : ℕ) → st.done.reads_all ≡ false → reads (executes i used s after) (AtByte a) ≡ (asks (row i.op i) s used (AtByte a) || effects_take st.done.effects (AtByte a))
  bytes_are a none = taken_alone (AtByte a) (ap (λ b. b && is_some (s.memory a)) none)

  pub asked_there : (a : ℕ) → asks (row i.op i) s used (AtByte a) ≡ true → is_mapped s.memory a ≡ true
  asked_there a e = asked_mapped (row i.op i) s used [] st.done a st.row e
