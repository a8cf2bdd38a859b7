-- What each instruction does to an abstract state, one equation an operation, beside the rows of the machine. All values are those of the
-- state before. The rules are the project's own.
use Rattle.std.specs.Prelude.{ℕ, Bool, true, false, pos, if◌then◌else◌, List, [], ◌∷◌, ◌++◌, Option, Some, None}
use Rattle.image_map.specs.declared.image.Image.{Image}
use Rattle.image_map.specs.declared.region.Cell.{Cell}
use Rattle.image_map.specs.declared.region.RegionId.{RegionId}
use Rattle.image_map.specs.declared.region.RegionId.TheVariants.{Global, Frame}
use Rattle.ia32_types.specs.declared.Reg.TheVariants.{Eax}
use Rattle.ia32_types.specs.declared.Width.{Width}
use Rattle.ia32_types.specs.declared.Width.TheVariants.{B8, W16, D32}
use Rattle.ia32_types.specs.declared.Operand.{Operand}
use Rattle.ia32_types.specs.declared.Operand.TheVariants as operand
use Rattle.ia32_types.specs.declared.Op.{Op}
use Rattle.ia32_types.specs.declared.Op.TheVariants as op
use Rattle.ia32_types.specs.declared.Instr.{Instr}
use Rattle.ia32_types.specs.Numbers.{reg_number, is_same_reg}
use Rattle.ia32_semantics.specs.Effects.{Whole}
use Rattle.ia32_semantics.specs.Operands.{bits, part_of}
use Rattle.strided.specs.Interval.{Interval, one}
use Rattle.alocs.specs.Cells.{Division}
use Rattle.vset.specs.declared.facts.CmpFact.{CmpFact}
use Rattle.vset.specs.declared.facts.CmpPlace.{CmpPlace}
use Rattle.vset.specs.declared.facts.CmpPlace.TheVariants as place
use Rattle.vset.specs.declared.part.Part.{Part as ValuePart}
use Rattle.vset.specs.Values.{Values, Top, only_number}
use Rattle.vset.specs.Operations.{add, sub}
use Rattle.abs_alu.specs.Results.{value, flags}
use Rattle.abs_alu.specs.Words.{number}
use Rattle.abs_semantics.specs.States.{AbsState}
use Rattle.abs_semantics.specs.Touching.{cell_at}
use Rattle.abs_semantics.specs.Ranges.{lone_range}
use Rattle.abs_semantics.specs.Operands.{address, word_number, with_part_value}
use Rattle.abs_steps.specs.Effects.{AbsEffect, puts, turns, frees, steers, saves, learns, all_done}
use Rattle.abs_steps.specs.Views.{View, held, flags_held, flag_sets, value_of, address_of, stored_at, store_to, with_held}
use Rattle.abs_steps.specs.Strings.{moved, stored}
use Rattle.abs_steps.specs.Results.{are_one_register, is_zero, aligned_or, keeps_flags, widened, sign_of, truth_of, chosen_by, known_quotient}

-- -- Arithmetic

-- what an operation makes of the flags
abbrev pub flag_effects : View → ℕ → Op → Values → Values → List AbsEffect
flag_effects v w o a b = if keeps_flags w o b then [] else turns (flags w o a b (flag_sets v)) ∷ []

-- what it gives
abbrev pub result : View → Op → Instr → Values → Values → Values
result v o i a b =
    if is_zero o i.width i.dst i.src then number (pos 0)
    else aligned_or v.state.aligns o i.width a b (value (bits i.width) o a b (flag_sets v))

-- two operands, of which the first takes the result
abbrev pub computed_of : View → Op → Instr → Values → Values → List AbsEffect
computed_of v o i a b = store_to v i.width i.dst (result v o i a b) ++ flag_effects v (bits i.width) o a b

abbrev pub computed : Op → View → Instr → List AbsEffect
computed o v i = computed_of v o i (value_of v i.width i.dst) (value_of v i.width i.src)

-- one operand, which takes the result
abbrev pub altered_of : View → Op → Instr → Values → List AbsEffect
altered_of v o i a = store_to v i.width i.dst (value (bits i.width) o a Top (flag_sets v)) ++ flag_effects v (bits i.width) o a Top

abbrev pub altered : Op → View → Instr → List AbsEffect
altered o v i = altered_of v o i (value_of v i.width i.dst)

-- a shift or a rotate, by a byte or by CL
abbrev pub shifted : Op → View → Instr → List AbsEffect
shifted o v i = computed_of v o i (value_of v i.width i.dst) (value_of v B8 i.src)

-- -- Comparisons

abbrev pub fact_on : CmpPlace → Interval → CmpFact
fact_on place bound = record { place = place; bound = bound }

-- the image and newest activations, whose words may be remembered
abbrev pub is_remembered : RegionId → Bool
is_remembered Global = true
is_remembered (Frame p) = true
is_remembered _ = false

abbrev pub as_place : Option Cell → Option CmpPlace
as_place None = None
as_place (Some c) = Some (place.Cell c)

-- the word at one place, where it is a cell
abbrev pub place_at : Division → Option ValuePart → Option CmpPlace
place_at d None = None
place_at d (Some x) = if is_remembered x.region then as_place (cell_at d x.region x.si.lo 4) else None

abbrev pub place_of : View → Option Operand → Option CmpPlace
place_of v (Some (operand.Reg r)) = Some (place.Reg r)
place_of v (Some (operand.Mem m)) = if m.gs then None else place_at v.cells (lone_range v.state v.procedure (address v.state m) 4)
place_of v _ = None

abbrev pub learned : Option CmpPlace → Option Interval → List AbsEffect
learned (Some place) (Some bound) = learns (fact_on place bound) ∷ []
learned _ _ = []

-- a comparison of 32 bits with numbers is remembered, and a test of a register by itself, which compares it with 0
unfoldable pub learned_by : View → Op → Width → Option Operand → Option Operand → Values → List AbsEffect
learned_by v op.Cmp D32 first second b = learned (place_of v first) (only_number b)
learned_by v op.Test D32 first second b = if are_one_register first second then learned (place_of v first) (Some (one (pos 0))) else []
learned_by v _ width first second b = []

-- two operands, of which only flags are made
abbrev pub compared_of : View → Op → Instr → Values → Values → List AbsEffect
compared_of v o i a b = flag_effects v (bits i.width) o a b ++ learned_by v o i.width i.dst i.src b

abbrev pub compared : Op → View → Instr → List AbsEffect
compared o v i = compared_of v o i (value_of v i.width i.dst) (value_of v i.width i.src)

-- -- Products and quotients

-- the low half of a product at 32 bits; the other half is never known
abbrev pub product_effects : Width → Values → List AbsEffect
product_effects D32 low = puts Whole 0 low ∷ puts Whole 2 Top ∷ []
product_effects _ low = puts Whole 0 Top ∷ puts Whole 2 Top ∷ []

abbrev pub multiplied_of : View → Op → Instr → Values → Values → List AbsEffect
multiplied_of v o i a b = product_effects i.width (value (bits i.width) o a b (flag_sets v)) ++ flag_effects v (bits i.width) o a b

-- EAX times an operand
abbrev pub multiplied : Op → View → Instr → List AbsEffect
multiplied o v i = multiplied_of v o i (value_of v i.width (Some (operand.Reg Eax))) (value_of v i.width i.dst)

-- the low part of the product of two operands, into the first operand
abbrev pub multiplied_into : View → Instr → Option Operand → Option Operand → List AbsEffect
multiplied_into v i first second = computed_of v op.Imul i (value_of v i.width first) (value_of v i.width second)

-- imul with one, two or three operands
abbrev pub imul : View → Instr → Option Operand → Option ℕ → List AbsEffect
imul v i None imm = multiplied op.Imul v i
imul v i (Some src) None = multiplied_into v i i.dst (Some src)
imul v i (Some src) (Some imm) = multiplied_into v i (Some src) (Some (operand.Imm imm))

-- quotient and remainder, where they are known, at 32 bits
abbrev pub quotient_effects : Width → Option (ℕ × ℕ) → List AbsEffect
quotient_effects width (Some q) = puts Whole 0 (word_number q.0) ∷ puts Whole 2 (word_number q.1) ∷ []
quotient_effects B8 None = puts Whole 0 Top ∷ []
quotient_effects _ None = puts Whole 0 Top ∷ puts Whole 2 Top ∷ []

abbrev pub divided : Bool → View → Instr → List AbsEffect
divided signed v i = quotient_effects i.width (known_quotient i.width signed (held v 2) (held v 0) (value_of v i.width i.dst)) ++ (frees ∷ [])

-- -- Moves

abbrev pub copied_over : View → Instr → List AbsEffect
copied_over v i = store_to v i.width i.dst (value_of v i.width i.src)

abbrev pub addressed : View → Instr → List AbsEffect
addressed v i = store_to v i.width i.dst (address_of v i.src)

abbrev pub exchanged : View → Instr → List AbsEffect
exchanged v i = store_to v i.width i.dst (value_of v i.width i.src) ++ store_to v i.width i.src (value_of v i.width i.dst)

-- a narrower source, extended with zeros or with its sign
abbrev pub extended : Bool → Width → View → Instr → List AbsEffect
extended signed from v i = store_to v i.width i.dst (widened signed from i.width (value_of v from i.src))

-- AX into EAX, and the sign of EAX into EDX
abbrev pub sign_of_ax : View → List AbsEffect
sign_of_ax v = puts Whole 0 (widened true W16 D32 (value_of v W16 (Some (operand.Reg Eax)))) ∷ []

abbrev pub sign_of_eax : View → List AbsEffect
sign_of_eax v = puts Whole 2 (sign_of (held v 0)) ∷ []

abbrev pub tested : ℕ → View → Instr → List AbsEffect
tested c v i = store_to v i.width i.dst (truth_of c (flags_held v))

-- a register that takes a value or keeps its own, each as a part of it
abbrev pub chosen_into : ℕ → View → Width → Option Operand → Values → Values → List AbsEffect
chosen_into c v width (Some (operand.Reg r)) new old =
    puts Whole (reg_number r)
    (chosen_by c (flags_held v) (with_part_value (part_of width) (held v (reg_number r)) new) (with_part_value (part_of width) (held v (reg_number r)) old)) ∷ []
chosen_into c v width _ new old = []

-- the destination is written where the condition fails too
abbrev pub chosen : ℕ → View → Instr → List AbsEffect
chosen c v i = chosen_into c v i.width i.dst (value_of v i.width i.src) (value_of v i.width i.dst)

-- -- The stack

-- four bytes lower and higher
abbrev pub pushed_at : Values → Values
pushed_at sp = sub sp (number (pos 4))

abbrev pub risen : Values → Values
risen sp = add sp (number (pos 4))

abbrev pub pushed : View → Instr → List AbsEffect
pushed v i = puts Whole 4 (pushed_at (held v 4)) ∷ saves (pushed_at (held v 4)) 4 (value_of v i.width i.dst) ∷ []

-- ESP rises first, so that an address that ESP is a part of is made with the new one, and pop ESP keeps the word
abbrev pub popped : View → Instr → List AbsEffect
popped v i = puts Whole 4 (risen (held v 4)) ∷ store_to (with_held v 4 (risen (held v 4))) i.width i.dst (stored_at v D32 (held v 4))

abbrev pub left : View → List AbsEffect
left v = puts Whole 4 (risen (held v 5)) ∷ puts Whole 5 (stored_at v D32 (held v 5)) ∷ []

-- -- The table

-- Jumps, calls, returns and what ends a run aren't among the rows.
unfoldable pub row : Op → View → Instr → List AbsEffect
row op.Add v i = computed op.Add v i
row op.Or v i = computed op.Or v i
row op.Adc v i = computed op.Adc v i
row op.Sbb v i = computed op.Sbb v i
row op.And v i = computed op.And v i
row op.Sub v i = computed op.Sub v i
row op.Xor v i = computed op.Xor v i
row op.Cmp v i = compared op.Cmp v i
row op.Mov v i = copied_over v i
row op.Lea v i = addressed v i
row op.Push v i = pushed v i
row op.Pop v i = popped v i
row op.Xchg v i = exchanged v i
row op.Test v i = compared op.Test v i
row op.Inc v i = altered op.Inc v i
row op.Dec v i = altered op.Dec v i
row op.Not v i = altered op.Not v i
row op.Neg v i = altered op.Neg v i
row op.Mul v i = multiplied op.Mul v i
row op.Imul v i = imul v i i.src i.imm
row op.Shl v i = shifted op.Shl v i
row op.Shr v i = shifted op.Shr v i
row op.Sar v i = shifted op.Sar v i
row (op.Movzx from) v i = extended false from v i
row (op.Movsx from) v i = extended true from v i
row op.Cwde v i = sign_of_ax v
row op.Cdq v i = sign_of_eax v
row op.Leave v i = left v
row (op.Setcc c) v i = tested c v i
row op.Call v i = []
row op.Ret v i = []
row op.Jmp v i = []
row (op.Jcc c) v i = []
row op.Nop v i = []
row op.Endbr32 v i = []
row op.Hlt v i = []
row op.Int3 v i = []
row op.Ud2 v i = []
row (op.Cmov c) v i = chosen c v i
row op.Rol v i = shifted op.Rol v i
row op.Ror v i = shifted op.Ror v i
row op.Div v i = divided false v i
row op.Idiv v i = divided true v i
row (op.Movs rep) v i = moved rep v i.width
row (op.Stos rep) v i = stored rep v i.width
row op.Cld v i = steers false ∷ []
row op.Std v i = steers true ∷ []

abbrev pub view_of : AbsState → Division → ℕ → View
view_of a d p = record { state = a; cells = d; procedure = p }

-- the state after an instruction at a node of procedure p
unfoldable pub post : AbsState → Instr → Division → Image → ℕ → AbsState
post a i d image p = all_done d image p (row i.op (view_of a d p) i) a
