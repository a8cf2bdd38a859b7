-- What each instruction does (SDM volume 2, "Operation" of each). All values are those of the state before. Which flags are left
-- undefined, and that a call and a ret forget the stack below ESP, is the project's own choice.
use Rattle.std.specs.Prelude.{ℕ, ◌+◌, ◌-◌, ◌*◌, ◌/◌, ◌%◌, ◌^◌, Bool, true, false, if◌then◌else◌, List, [], ◌∷◌, ◌++◌, Option, Some, None}
use Rattle.image_map.specs.declared.region.Activation.{Activation}
use Rattle.ia32_types.specs.declared.Width.{Width}
use Rattle.ia32_types.specs.declared.Width.TheVariants.{B8, W16, D32}
use Rattle.ia32_types.specs.declared.Operand.{Operand}
use Rattle.ia32_types.specs.declared.Operand.TheVariants as operand
use Rattle.ia32_types.specs.declared.Op.{Op}
use Rattle.ia32_types.specs.declared.Op.TheVariants as op
use Rattle.ia32_types.specs.declared.Instr.{Instr}
use Rattle.ia32_semantics.specs.declared.flags.FlagsOut.{FlagsOut}
use Rattle.ia32_semantics.specs.declared.flags.FlagOut.TheVariants as out
use Rattle.ia32_semantics.specs.Alu.{sign, alu_value, alu_flags}
use Rattle.ia32_semantics.specs.Shift.{shift_value, shift_flags}
use Rattle.ia32_semantics.specs.Product.{extended, product_low, product_high, product_flags}
use Rattle.ia32_semantics.specs.Division.{division, division_flags}
use Rattle.ia32_semantics.specs.Reading.{Reading, gives, faults, ◌>>=◌}
use Rattle.ia32_semantics.specs.Effects.{Effect, Whole, Word, Low, High, sets, turns, stores}
use Rattle.ia32_semantics.specs.Outcome.{Outcome, enters, leaves, going}
use Rattle.ia32_types.specs.Numbers.{size}
use Rattle.ia32_semantics.specs.Operands.{bits, low_part, number_bytes, whole_register, flag_value, stored_word, value_of, address_of, store_to, raised, any_flags, flag_effects, condition}
use Rattle.ia32_semantics.specs.Strings.{string_effects, movs_effects, stos_effects}

abbrev pub next_place : Instr → ℕ
next_place i = (i.at + i.len) % 2 ^ 32

-- goes on to the next instruction
abbrev pub goes_on : Instr → List Effect → Reading Outcome
goes_on i effects = gives (going effects (next_place i))

-- -- Arithmetic

-- the carry that an operation takes
unfoldable pub carry_in : Op → Reading Bool
carry_in op.Adc = flag_value 0
carry_in op.Sbb = flag_value 0
carry_in _ = gives false

-- two operands, of which the first takes the result
abbrev pub computed : Op → Instr → Reading Outcome
computed o i = do
  a ← value_of i.width i.dst
  b ← value_of i.width i.src
  carry ← carry_in o
  stored ← store_to i.width i.dst (alu_value (bits i.width) o a b carry)
  goes_on i (stored ++ flag_effects (alu_flags (bits i.width) o a b carry))

-- two operands, of which only flags are made
abbrev pub compared : Op → Instr → Reading Outcome
compared o i = do
  a ← value_of i.width i.dst
  b ← value_of i.width i.src
  goes_on i (flag_effects (alu_flags (bits i.width) o a b false))

-- one operand, which takes the result
abbrev pub altered : Op → Instr → Reading Outcome
altered o i = do
  a ← value_of i.width i.dst
  stored ← store_to i.width i.dst (alu_value (bits i.width) o a 0 false)
  goes_on i (stored ++ flag_effects (alu_flags (bits i.width) o a 0 false))

-- a shift or a rotate, by a byte or by CL
abbrev pub shifted : Op → Instr → Reading Outcome
shifted o i = do
  count ← value_of B8 i.src
  a ← value_of i.width i.dst
  flags ← any_flags (shift_flags (bits i.width) o a count)
  stored ← store_to i.width i.dst (shift_value (bits i.width) o a count)
  goes_on i (stored ++ flag_effects flags)

-- -- Products and quotients

-- the flags that a product leaves undefined
abbrev pub product_undefined : FlagsOut
product_undefined = record { cf = out.Kept; pf = out.Undefined; zf = out.Undefined; sf = out.Undefined; of = out.Kept }

-- a product's flags, with these for the undefined ones
abbrev pub settled : FlagsOut → FlagsOut → FlagsOut
settled drawn flags = record flags { pf = drawn.pf; zf = drawn.zf; sf = drawn.sf }

-- two halves into AX, DX:AX or EDX:EAX
abbrev pub halves : Width → ℕ → ℕ → List Effect
halves B8 low high = sets Word 0 (low + 256 * high) ∷ []
halves W16 low high = sets Word 0 low ∷ sets Word 2 high ∷ []
halves D32 low high = sets Whole 0 low ∷ sets Whole 2 high ∷ []

-- EAX times an operand
abbrev pub multiplied : Bool → Instr → Reading Outcome
multiplied signed i = do
  drawn ← any_flags product_undefined
  a ← whole_register 0
  b ← value_of i.width i.dst
  goes_on i (halves i.width (product_low (bits i.width) signed (low_part i.width a) b) (product_high (bits i.width) signed (low_part i.width a) b)
      ++ flag_effects (settled drawn (product_flags (bits i.width) signed (low_part i.width a) b)))

-- the low part of the product of two operands, into the first operand
abbrev pub multiplied_into : Instr → Option Operand → Option Operand → Reading Outcome
multiplied_into i first second = do
  drawn ← any_flags product_undefined
  a ← value_of i.width first
  b ← value_of i.width second
  stored ← store_to i.width i.dst (product_low (bits i.width) true a b)
  goes_on i (stored ++ flag_effects (settled drawn (product_flags (bits i.width) true a b)))

-- imul with one, two or three operands
abbrev pub imul : Instr → Option Operand → Option ℕ → Reading Outcome
imul i None imm = multiplied true i
imul i (Some src) None = multiplied_into i i.dst (Some src)
imul i (Some src) (Some imm) = multiplied_into i (Some src) (Some (operand.Imm imm))

-- what AX, DX:AX or EDX:EAX holds: the high half and the low one
unfoldable pub dividend_halves : Width → Reading (ℕ × ℕ)
dividend_halves B8 = whole_register 0 >>= (λ a. gives (a / 256 % 256, a % 256))
dividend_halves W16 = whole_register 0 >>= (λ a. whole_register 2 >>= (λ d. gives (d % 65536, a % 65536)))
dividend_halves D32 = whole_register 0 >>= (λ a. whole_register 2 >>= (λ d. gives (d, a)))

-- quotient and remainder into AL and AH, AX and DX, or EAX and EDX
abbrev pub quotient_effects : Width → ℕ → ℕ → List Effect
quotient_effects B8 quotient remainder = sets Low 0 quotient ∷ sets High 0 remainder ∷ []
quotient_effects W16 quotient remainder = sets Word 0 quotient ∷ sets Word 2 remainder ∷ []
quotient_effects D32 quotient remainder = sets Whole 0 quotient ∷ sets Whole 2 remainder ∷ []

-- a fault where there is no quotient
unfoldable pub quotient_or_fault : Option (ℕ × ℕ) → Reading (ℕ × ℕ)
quotient_or_fault None = faults
quotient_or_fault (Some q) = gives q

abbrev pub divided : Bool → Instr → Reading Outcome
divided signed i = do
  drawn ← any_flags division_flags
  by ← value_of i.width i.dst
  parts ← dividend_halves i.width
  q ← quotient_or_fault (division (bits i.width) signed parts.0 parts.1 by)
  goes_on i (quotient_effects i.width q.0 q.1 ++ flag_effects drawn)

-- -- Moves

abbrev pub copied_over : Instr → Reading Outcome
copied_over i = do
  v ← value_of i.width i.src
  stored ← store_to i.width i.dst v
  goes_on i stored

abbrev pub addressed : Instr → Reading Outcome
addressed i = do
  a ← address_of i.src
  stored ← store_to i.width i.dst a
  goes_on i stored

abbrev pub exchanged : Instr → Reading Outcome
exchanged i = do
  a ← value_of i.width i.dst
  b ← value_of i.width i.src
  first ← store_to i.width i.dst b
  second ← store_to i.width i.src a
  goes_on i (first ++ second)

-- a narrower source, extended with zeros or with its sign
abbrev pub widened : Bool → Width → Instr → Reading Outcome
widened signed from i = do
  v ← value_of from i.src
  stored ← store_to i.width i.dst (extended signed (bits from) (bits i.width) v)
  goes_on i stored

-- AX into EAX, and the sign of EAX into EDX
abbrev pub sign_of_ax : Instr → Reading Outcome
sign_of_ax i = whole_register 0 >>= (λ a. goes_on i (sets Whole 0 (extended true 16 32 (a % 65536)) ∷ []))

abbrev pub sign_of_eax : Instr → Reading Outcome
sign_of_eax i = whole_register 0 >>= (λ a. goes_on i (sets Whole 2 (if sign 32 a then 2 ^ 32 - 1 else 0) ∷ []))

abbrev pub tested : ℕ → Instr → Reading Outcome
tested c i = do
  holds ← condition c
  stored ← store_to i.width i.dst (if holds then 1 else 0)
  goes_on i stored

-- the destination is written where the condition fails too, with what it had
abbrev pub chosen : ℕ → Instr → Reading Outcome
chosen c i = do
  holds ← condition c
  v ← value_of i.width i.src
  old ← value_of i.width i.dst
  stored ← store_to i.width i.dst (if holds then v else old)
  goes_on i stored

-- -- The stack

-- four bytes lower, as an address
abbrev pub pushed_at : ℕ → ℕ
pushed_at sp = (sp + 2 ^ 32 - 4) % 2 ^ 32

-- some bytes higher
abbrev pub risen : ℕ → ℕ → ℕ
risen sp n = (sp + n) % 2 ^ 32

-- a word put on the stack
abbrev pub push_effects : ℕ → ℕ → List Effect
push_effects sp v = sets Whole 4 (pushed_at sp) ∷ stores (pushed_at sp) (number_bytes 4 v) ∷ []

abbrev pub pushed : Instr → Reading Outcome
pushed i = do
  v ← value_of i.width i.dst
  sp ← whole_register 4
  goes_on i (push_effects sp v)

-- ESP rises first, so that an address that ESP is a part of is made with the new one, and pop ESP keeps the word
abbrev pub popped : Instr → Reading Outcome
popped i = do
  sp ← whole_register 4
  v ← stored_word sp
  stored ← store_to i.width (raised i.dst) v
  goes_on i (sets Whole 4 (risen sp 4) ∷ stored)

abbrev pub left : Instr → Reading Outcome
left i = do
  bp ← whole_register 5
  v ← stored_word bp
  goes_on i (sets Whole 4 (risen bp 4) ∷ sets Whole 5 v ∷ [])

-- -- Control

abbrev pub activation : ℕ → ℕ → ℕ → Activation
activation site callee base = record { site = site; callee = callee; base = base }

abbrev pub called : Instr → Reading Outcome
called i = do
  target ← value_of i.width i.dst
  sp ← whole_register 4
  gives (record (going (push_effects sp (next_place i)) target) {
    calls = enters (activation i.at target (pushed_at sp));
    forgets = Some (pushed_at sp);
  })

-- ends the newest activation with this ESP, and goes to a place
abbrev pub returning : List Effect → ℕ → ℕ → Outcome
returning effects sp place = record (going (effects ++ (sets Whole 4 sp ∷ [])) place) { calls = leaves; forgets = Some sp }

-- the number of an operand that is one
unfoldable pub immediate : Option Operand → Reading ℕ
immediate (Some (operand.Imm n)) = gives n
immediate _ = faults

-- how many bytes a ret takes beside the return word
unfoldable pub extra_bytes : Option Operand → Reading ℕ
extra_bytes None = gives 0
extra_bytes (Some o) = immediate (Some o)

abbrev pub returned : Instr → Reading Outcome
returned i = do
  sp ← whole_register 4
  place ← stored_word sp
  extra ← extra_bytes i.dst
  gives (returning [] (risen sp (4 + extra)) place)

abbrev pub jumped : Instr → Reading Outcome
jumped i = value_of i.width i.dst >>= (λ target. gives (going [] target))

abbrev pub branched : ℕ → Instr → Reading Outcome
branched c i = do
  holds ← condition c
  target ← immediate i.dst
  gives (going [] (if holds then target else next_place i))

-- -- The table

-- a string instruction
abbrev pub strung : Reading (List Effect) → Instr → Reading Outcome
strung effects i = effects >>= (λ done. goes_on i done)

unfoldable pub row : Op → Instr → Reading Outcome
row op.Add i = computed op.Add i
row op.Or i = computed op.Or i
row op.Adc i = computed op.Adc i
row op.Sbb i = computed op.Sbb i
row op.And i = computed op.And i
row op.Sub i = computed op.Sub i
row op.Xor i = computed op.Xor i
row op.Cmp i = compared op.Cmp i
row op.Mov i = copied_over i
row op.Lea i = addressed i
row op.Push i = pushed i
row op.Pop i = popped i
row op.Xchg i = exchanged i
row op.Test i = compared op.Test i
row op.Inc i = altered op.Inc i
row op.Dec i = altered op.Dec i
row op.Not i = altered op.Not i
row op.Neg i = altered op.Neg i
row op.Mul i = multiplied false i
row op.Imul i = imul i i.src i.imm
row op.Shl i = shifted op.Shl i
row op.Shr i = shifted op.Shr i
row op.Sar i = shifted op.Sar i
row (op.Movzx from) i = widened false from i
row (op.Movsx from) i = widened true from i
row op.Cwde i = sign_of_ax i
row op.Cdq i = sign_of_eax i
row op.Leave i = left i
row (op.Setcc c) i = tested c i
row op.Call i = called i
row op.Ret i = returned i
row op.Jmp i = jumped i
row (op.Jcc c) i = branched c i
row op.Nop i = goes_on i []
row op.Endbr32 i = goes_on i []
row op.Hlt i = goes_on i []
row op.Int3 i = faults
row op.Ud2 i = faults
row (op.Cmov c) i = chosen c i
row op.Rol i = shifted op.Rol i
row op.Ror i = shifted op.Ror i
row op.Div i = divided false i
row op.Idiv i = divided true i
row (op.Movs rep) i = strung (string_effects rep (movs_effects (size i.width))) i
row (op.Stos rep) i = strung (string_effects rep (stos_effects (size i.width))) i
row op.Cld i = goes_on i (turns 5 false ∷ [])
row op.Std i = goes_on i (turns 5 true ∷ [])
