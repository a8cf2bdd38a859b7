-- The operands of instructions: where they stand, what they are, and what storing into them does (SDM volume 1, 3.7, and volume
-- 2, chapter 2). A word of memory that counts from GS may be any; that is the project's own.
use Rattle.std.specs.Prelude.{ℕ, zero, suc, ◌+◌, ◌*◌, ◌/◌, ◌%◌, ◌^◌, ◌==◌, Bool, true, false, if◌then◌else◌, List, [], ◌∷◌, ◌++◌, Option, Some, None}
use Rattle.ia32_types.specs.declared.Reg.{Reg}
use Rattle.ia32_types.specs.declared.Reg.TheVariants.{Esp}
use Rattle.ia32_types.specs.declared.Width.{Width}
use Rattle.ia32_types.specs.declared.Width.TheVariants.{B8, W16, D32}
use Rattle.ia32_types.specs.declared.Mem.{Mem}
use Rattle.ia32_types.specs.declared.Operand.{Operand}
use Rattle.ia32_types.specs.declared.Operand.TheVariants as operand
use Rattle.ia32_types.specs.Numbers.{reg_number, is_same_reg, size}
use Rattle.ia32_semantics.specs.declared.flags.Flags.{Flags}
use Rattle.ia32_semantics.specs.declared.flags.FlagsOut.{FlagsOut}
use Rattle.ia32_semantics.specs.declared.flags.FlagOut.{FlagOut}
use Rattle.ia32_semantics.specs.declared.flags.FlagOut.TheVariants as out
use Rattle.ia32_semantics.specs.Condition.{holds}
use Rattle.ia32_semantics.specs.Reading.{Reading, gives, faults, register, flag, byte, choice, ◌>>=◌}
use Rattle.ia32_semantics.specs.Effects.{Effect, Part, Whole, Word, Low, High, sets, turns, stores}

-- -- Widths and numbers

-- the bits of a width
abbrev pub bits : Width → ℕ
bits B8 = 8
bits W16 = 16
bits D32 = 32

-- the low part of a word, as wide as told
abbrev pub low_part : Width → ℕ → ℕ
low_part B8 v = v % 256
low_part W16 v = v % 65536
low_part D32 v = v

-- the low n bytes of a number, the lowest first
abbrev pub number_bytes : ℕ → ℕ → List ℕ
number_bytes zero v = []
number_bytes (suc n) v = v % 256 ∷ number_bytes n (v / 256)

-- -- What is asked for

-- a register
unfoldable pub whole_register : ℕ → Reading ℕ
whole_register n = register n (λ v. gives v)

unfoldable pub flag_value : ℕ → Reading Bool
flag_value n = flag n (λ v. gives v)

-- the next word of choice
unfoldable pub any_word : Reading ℕ
any_word = choice (λ word. gives word)

-- the number that the n bytes from an address on hold, the lowest first
unfoldable pub stored_number : ℕ → ℕ → Reading ℕ
stored_number zero a = gives 0
stored_number (suc n) a = byte a (λ low. stored_number n (a + 1) >>= (λ rest. gives (low + 256 * rest)))

abbrev pub stored_word : ℕ → Reading ℕ
stored_word a = stored_number 4 a

unfoldable pub register_or_zero : Option Reg → Reading ℕ
register_or_zero None = gives 0
register_or_zero (Some r) = register (reg_number r) (λ v. gives v)

-- the address of a memory operand, from the base of GS where it counts from there
unfoldable pub address : Mem → Reading ℕ
address m = do
  base ← register_or_zero m.base
  index ← register_or_zero m.index
  gives ((base + index * m.scale + m.disp) % 2 ^ 32)

-- what memory holds at an address; from the base of GS it may hold anything
unfoldable pub memory_value : Width → Bool → ℕ → Reading ℕ
memory_value width true a = any_word >>= (λ word. gives (low_part width word))
memory_value width false a = stored_number (size width) a

unfoldable pub value : Width → Operand → Reading ℕ
value width (operand.Reg r) = register (reg_number r) (λ v. gives (low_part width v))
value width (operand.High r) = register (reg_number r) (λ v. gives (v / 256 % 256))
value width (operand.Imm n) = gives (low_part width n)
value width (operand.Mem m) = address m >>= (λ a. memory_value width m.gs a)

-- of an operand that an instruction has
unfoldable pub value_of : Width → Option Operand → Reading ℕ
value_of width None = faults
value_of width (Some o) = value width o

-- the address of an operand in memory
unfoldable pub address_of : Option Operand → Reading ℕ
address_of (Some (operand.Mem m)) = address m
address_of _ = faults

-- -- What is stored

-- the part of a register that an operand of this width is
abbrev pub part_of : Width → Part
part_of B8 = Low
part_of W16 = Word
part_of D32 = Whole

unfoldable pub store : Width → Operand → ℕ → Reading (List Effect)
store width (operand.Reg r) v = gives (sets (part_of width) (reg_number r) v ∷ [])
store width (operand.High r) v = gives (sets High (reg_number r) v ∷ [])
store width (operand.Imm n) v = faults
store width (operand.Mem m) v = if m.gs then faults else address m >>= (λ a. gives (stores a (number_bytes (size width) v) ∷ []))

unfoldable pub store_to : Width → Option Operand → ℕ → Reading (List Effect)
store_to width None v = faults
store_to width (Some o) v = store width o v

-- an operand whose address is made after ESP has risen by 4
abbrev pub is_esp : Option Reg → Bool
is_esp None = false
is_esp (Some r) = is_same_reg r Esp

abbrev pub raised : Option Operand → Option Operand
raised (Some (operand.Mem m)) = if is_esp m.base then Some (operand.Mem (record m { disp = (m.disp + 4) % 2 ^ 32 })) else Some (operand.Mem m)
raised other = other

-- -- Flags

-- the flag that a word of choice tells
abbrev pub is_set : ℕ → Bool
is_set word = word / 65536 % 2 == 1

unfoldable pub any_flag : FlagOut → Reading FlagOut
any_flag out.Kept = gives out.Kept
any_flag (out.Set v) = gives (out.Set v)
any_flag out.Undefined = any_word >>= (λ word. gives (out.Set (is_set word)))

-- each undefined flag takes a word of choice
unfoldable pub any_flags : FlagsOut → Reading FlagsOut
any_flags f = do
  cf ← any_flag f.cf
  pf ← any_flag f.pf
  zf ← any_flag f.zf
  sf ← any_flag f.sf
  of ← any_flag f.of
  gives (record { cf = cf; pf = pf; zf = zf; sf = sf; of = of })

abbrev pub flag_effect : ℕ → FlagOut → List Effect
flag_effect n out.Kept = []
flag_effect n (out.Set v) = turns n v ∷ []
flag_effect n out.Undefined = []

abbrev pub flag_effects : FlagsOut → List Effect
flag_effects f = flag_effect 0 f.cf ++ flag_effect 1 f.pf ++ flag_effect 2 f.zf ++ flag_effect 3 f.sf ++ flag_effect 4 f.of

abbrev pub no_flags : Flags
no_flags = record { cf = false; pf = false; zf = false; sf = false; of = false }

-- the flags of the conditions 2n and 2n + 1, and the others as not set
unfoldable pub condition_flags : ℕ → Reading Flags
condition_flags n =
    (if n == 0 then flag 4 (λ of. gives (record no_flags { of = of })) else
    (if n == 1 then flag 0 (λ cf. gives (record no_flags { cf = cf })) else
    (if n == 2 then flag 2 (λ zf. gives (record no_flags { zf = zf })) else
    (if n == 3 then flag 0 (λ cf. flag 2 (λ zf. gives (record no_flags { cf = cf; zf = zf }))) else
    (if n == 4 then flag 3 (λ sf. gives (record no_flags { sf = sf })) else
    (if n == 5 then flag 1 (λ pf. gives (record no_flags { pf = pf })) else
    (if n == 6 then flag 3 (λ sf. flag 4 (λ of. gives (record no_flags { sf = sf; of = of }))) else
    flag 2 (λ zf. flag 3 (λ sf. flag 4 (λ of. gives (record no_flags { zf = zf; sf = sf; of = of })))))))))))

-- whether a condition holds
unfoldable pub condition : ℕ → Reading Bool
condition c = condition_flags (c / 2) >>= (λ f. gives (holds c f))
