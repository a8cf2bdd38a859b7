-- Rows of the machine that are easily got wrong, computed.
use Rattle.std.proofs.Common.{◌≡◌, ℕ, ◌==◌, Bool, true, false, if◌then◌else◌, List, [], ◌∷◌, Option, Some, None, refl}
use Rattle.std.specs.Option.{option_map}
use lib.Count.{ones}
use Rattle.image_map.specs.declared.region.Kind.{Kind}
use Rattle.image_map.specs.declared.region.Kind.TheVariants as kind
use Rattle.ia32_types.specs.declared.Reg.{Reg}
use Rattle.ia32_types.specs.declared.Reg.TheVariants.{Eax, Ecx, Ebx, Esp, Esi}
use Rattle.ia32_types.specs.declared.Width.{Width}
use Rattle.ia32_types.specs.declared.Width.TheVariants.{B8, W16, D32}
use Rattle.ia32_types.specs.declared.Mem.{Mem}
use Rattle.ia32_types.specs.declared.Operand.{Operand}
use Rattle.ia32_types.specs.declared.Operand.TheVariants as operand
use Rattle.ia32_types.specs.declared.Op.{Op}
use Rattle.ia32_types.specs.declared.Op.TheVariants as op
use Rattle.ia32_types.specs.declared.Instr.{Instr}
use Rattle.ia32_semantics.specs.State.{State, Bytes}
use Rattle.ia32_semantics.specs.Reading.{outcome}
use Rattle.ia32_semantics.specs.Outcome.{Outcome, enters, leaves, going, made}
use Rattle.ia32_semantics.specs.Alu.{sum, result_flags, sign, has_even_parity, sum_flags, kept_flags, alu_value, alu_flags}
use Rattle.ia32_semantics.specs.Shift.{shifted_left, rotated_right, low_bit, second_bit, left_flags, rotated_right_flags, shift_by, shift_flags_by, shift_value, shift_flags}
use Rattle.ia32_semantics.specs.Product.{extended, product, product_low, product_high, product_spills, product_flags}
use Rattle.ia32_semantics.specs.Division.{dividend, unsigned_division, signed_as, magnitude, quotient_fits, division_of_sizes, signed_division, division, division_flags}
use Rattle.ia32_semantics.specs.Condition.{even_condition, holds}
use Rattle.ia32_semantics.specs.Operands.{whole_register, flag_value, any_word, stored_number, register_or_zero, address, memory_value, value, value_of, store, store_to, any_flag, any_flags, condition_flags, condition}
use Rattle.ia32_semantics.specs.Strings.{stepped, movs_effects, stos_effects, repeated}
use Rattle.ia32_semantics.specs.Rows.{row, carry_in, dividend_halves, quotient_or_fault, extra_bytes, immediate, activation}
use Rattle.ia32_semantics.specs.Effects.{with_part, Whole, sets, stores, bytes_from, overwritten}
use Rattle.ia32_semantics.specs.Externs.{words_from, any_results, any_words, number_over, any_prefix, extern_row}

-- -- States and instructions

abbrev registers : ℕ → ℕ → ℕ → ℕ → ℕ → ℕ
registers eax ecx edx ebx n =
    if n == 0 then eax else (if n == 1 then ecx else (if n == 2 then edx else (if n == 3 then ebx else
    (if n == 4 then 0x2000 else (if n == 5 then 0x2004 else (if n == 6 then 0 else 0x2004))))))

-- the bytes 1 to 16 at 2000, and zeros before them
abbrev memory : Bytes
memory = overwritten (λ a. None) 0x1FF8 (0 ∷ 0 ∷ 0 ∷ 0 ∷ 0 ∷ 0 ∷ 0 ∷ 0 ∷ 1 ∷ 2 ∷ 3 ∷ 4 ∷ 5 ∷ 6 ∷ 7 ∷ 8 ∷ 9 ∷ 10 ∷ 11 ∷ 12 ∷ 13 ∷ 14 ∷ 15 ∷ 16 ∷ [])

abbrev state : (ℕ → ℕ) → (ℕ → Bool) → State
state registers flags =
    record { registers = registers; flags = flags; eip = 0x1000; memory = memory; activations = []; blocks = []; allocs = []; slot = 0x2000 }

abbrev plain : State
plain = state (registers 0x44 0x33 0x22 0x11) (λ n. false)

-- CF set
abbrev carried : State
carried = state (registers 0x112233FF 0xFF 0 0) (λ n. n == 0)

abbrev bytes_apart : State
bytes_apart = state (registers 0x11223344 0 0 0) (λ n. false)

-- three bytes from 2000 to 2001 on
abbrev upwards : State
upwards = state (λ n. if n == 1 then 3 else (if n == 6 then 0x2000 else 0x2001)) (λ n. false)

-- two elements from 2004 downwards
abbrev downwards : State
downwards = state (λ n. if n == 0 then 0x3344 else (if n == 1 then 2 else (if n == 7 then 0x2004 else 0))) (λ n. n == 5)

abbrev idle : State
idle = state (λ n. 0) (λ n. true)

abbrev minus_seven : State
minus_seven = state (registers 0xFFFFFFF9 2 0xFFFFFFFF 0) (λ n. false)

abbrev by_thirty_three : State
by_thirty_three = state (registers 1 33 0 0) (λ n. false)

abbrev words_full : State
words_full = state (registers 0xAAAAFFFF 0xFFFF 0xBBBBFFFF 0) (λ n. false)

abbrev signed_low : State
signed_low = state (registers 0 0x11118080 0 0x55667788) (λ n. false)

-- ESP at 2000, where the arguments are the addresses 2000 and 8
abbrev filling : State
filling = record plain { memory = overwritten memory 0x2004 (0x00 ∷ 0x20 ∷ 0 ∷ 0 ∷ 8 ∷ 0 ∷ 0 ∷ 0 ∷ []) }

abbrev reg : Reg → Operand
reg r = operand.Reg r

abbrev high : Reg → Operand
high r = operand.High r

abbrev at_reg : Reg → Operand
at_reg r = operand.Mem (record { base = Some r; index = None; scale = 1; disp = 0; gs = false })

abbrev gs_word : Mem
gs_word = record { base = None; index = None; scale = 1; disp = 20; gs = true }

abbrev instruction : Width → Option Operand → Option Operand → Instr
instruction width dst src = record { at = 0x1000; len = 2; op = op.Nop; width = width; dst = dst; src = src; imm = None }

abbrev none : Width → Instr
none width = instruction width None None

abbrev one : Width → Operand → Instr
one width a = instruction width (Some a) None

abbrev two : Width → Operand → Operand → Instr
two width a b = instruction width (Some a) (Some b)

-- -- What they do

abbrev row_outcome : Op → Instr → State → List ℕ → Option (Outcome × List ℕ)
row_outcome o i s words = outcome (row o i) s words

abbrev state_after : Option (Outcome × List ℕ) → State → Option State
state_after done s = option_map (λ (d : Outcome × List ℕ). made d.0 s) done

abbrev register_after : Op → Instr → State → List ℕ → ℕ → Option ℕ
register_after o i s words n = option_map (λ (t : State). t.registers n) (state_after (row_outcome o i s words) s)

abbrev flag_after : Op → Instr → State → List ℕ → ℕ → Option Bool
flag_after o i s words n = option_map (λ (t : State). t.flags n) (state_after (row_outcome o i s words) s)

abbrev bytes_after : Op → Instr → State → List ℕ → ℕ → ℕ → Option (List ℕ)
bytes_after o i s words a n = option_map (λ (t : State). bytes_from t.memory a n) (state_after (row_outcome o i s words) s)

abbrev extern_place : Kind → State → List ℕ → Option ℕ
extern_place k s words = option_map (λ (d : Outcome × List ℕ). d.0.place) (outcome (extern_row 0xF0000000 k) s words)

abbrev extern_register : Kind → State → List ℕ → ℕ → Option ℕ
extern_register k s words n = option_map (λ (t : State). t.registers n) (state_after (outcome (extern_row 0xF0000000 k) s words) s)

-- -- Rows

-- adc al, cl: FF + FF + 1; the other bytes of EAX stay
adc_bytes : register_after op.Adc (two B8 (reg Eax) (reg Ecx)) carried [] 0 ≡ Some 0x112233FF
unfolding row value_of value store_to store with_part carry_in flag_value alu_value sum alu_flags sum_flags result_flags
adc_bytes = refl

-- xchg al, ah turns both bytes
xchg_halves : register_after op.Xchg (two B8 (reg Eax) (high Eax)) bytes_apart [] 0 ≡ Some 0x11224433
unfolding row value_of value store_to store with_part
xchg_halves = refl

-- push esp stores the old ESP, and ESP falls
push_esp : bytes_after op.Push (one D32 (reg Esp)) plain [] 0x1FFC 4 ≡ Some (0x00 ∷ 0x20 ∷ 0x00 ∷ 0x00 ∷ [])
unfolding row value_of value store_to store with_part whole_register
push_esp = refl

-- pop esp keeps the word
pop_esp : register_after op.Pop (one D32 (reg Esp)) plain [] 4 ≡ Some 0x04030201
unfolding row value_of value store_to store with_part whole_register stored_number
pop_esp = refl

-- pop [esp]: the address is made after ESP has risen
pop_memory : bytes_after op.Pop (one D32 (at_reg Esp)) plain [] 0x2004 4 ≡ Some (1 ∷ 2 ∷ 3 ∷ 4 ∷ [])
unfolding row value_of value store_to store with_part whole_register address register_or_zero memory_value stored_number
pop_memory = refl

-- leave takes EBP's word, whatever ESP is
leave_frame : register_after op.Leave (none D32) plain [] 4 ≡ Some 0x2008
unfolding row value_of value store_to store with_part whole_register stored_number
leave_frame = refl

leave_word : register_after op.Leave (none D32) plain [] 5 ≡ Some 0x08070605
unfolding row value_of value store_to store with_part whole_register stored_number
leave_word = refl

-- rep movsb by one byte up fills with the first: each byte is read when it is copied
rep_overlaps : bytes_after (op.Movs true) (none B8) upwards [] 0x2000 5 ≡ Some (1 ∷ 1 ∷ 1 ∷ 1 ∷ 5 ∷ [])
unfolding row repeated movs_effects whole_register flag_value stepped
rep_overlaps = refl

-- and leaves ECX 0
rep_counts : register_after (op.Movs true) (none B8) upwards [] 1 ≡ Some 0
unfolding row repeated movs_effects whole_register flag_value stepped with_part
rep_counts = refl

-- downwards, where DF is set
rep_down : register_after (op.Stos true) (none D32) downwards [] 7 ≡ Some 0x1FFC
unfolding row repeated stos_effects whole_register flag_value stepped with_part
rep_down = refl

rep_down_bytes : bytes_after (op.Stos true) (none W16) downwards [] 0x2000 6 ≡ Some (1 ∷ 2 ∷ 0x44 ∷ 0x33 ∷ 0x44 ∷ 0x33 ∷ [])
unfolding row repeated stos_effects whole_register flag_value stepped
rep_down_bytes = refl

-- rep with ECX 0 does nothing
rep_none : row_outcome (op.Stos true) (none D32) idle [] ≡ Some (going [] 0x1002, [])
unfolding row repeated whole_register
rep_none = refl

-- idiv: -7 by 2 is -3 with the remainder -1
idiv_quotient : register_after op.Idiv (one D32 (reg Ecx)) minus_seven (0 ∷ 0 ∷ 0 ∷ 0 ∷ 0 ∷ []) 0 ≡ Some 0xFFFFFFFD
unfolding row any_flags any_flag any_word division_flags value_of value dividend_halves whole_register quotient_or_fault division signed_division division_of_sizes dividend magnitude quotient_fits signed_as sign with_part
idiv_quotient = refl

idiv_remainder : register_after op.Idiv (one D32 (reg Ecx)) minus_seven (0 ∷ 0 ∷ 0 ∷ 0 ∷ 0 ∷ []) 2 ≡ Some 0xFFFFFFFF
unfolding row any_flags any_flag any_word division_flags value_of value dividend_halves whole_register quotient_or_fault division signed_division division_of_sizes dividend magnitude quotient_fits signed_as sign with_part
idiv_remainder = refl

-- a zero divisor is a fault
div_by_zero : row_outcome op.Div (one D32 (reg Esi)) plain (0 ∷ 0 ∷ 0 ∷ 0 ∷ 0 ∷ []) ≡ None
unfolding row any_flags any_flag any_word division_flags value_of value dividend_halves whole_register quotient_or_fault division unsigned_division dividend
div_by_zero = refl

-- shl bl, 9: CF and OF take a word each
shl_undefined : flag_after op.Shl (two B8 (reg Ebx) (operand.Imm 9)) plain (0x10000 ∷ 0xFFFEFFFF ∷ []) 0 ≡ Some true
unfolding row value_of value any_flags any_flag any_word shift_flags shift_flags_by left_flags shifted_left shift_value shift_by store_to store result_flags sign has_even_parity ones
shl_undefined = refl

shl_undefined_overflow : flag_after op.Shl (two B8 (reg Ebx) (operand.Imm 9)) plain (0x10000 ∷ 0xFFFEFFFF ∷ []) 4 ≡ Some false
unfolding row value_of value any_flags any_flag any_word shift_flags shift_flags_by left_flags shifted_left shift_value shift_by store_to store result_flags sign has_even_parity ones
shl_undefined_overflow = refl

-- ror cl-wise by 33 turns by 1
ror_by_cl : register_after op.Ror (two D32 (reg Eax) (reg Ecx)) by_thirty_three [] 0 ≡ Some 0x80000000
unfolding row value_of value any_flags any_flag any_word shift_flags shift_flags_by rotated_right_flags rotated_right shift_value shift_by store_to store kept_flags low_bit second_bit sign with_part
ror_by_cl = refl

-- mul at 16 bits leaves the upper halves of EAX and EDX
mul_words : register_after op.Mul (one W16 (reg Ecx)) words_full (0 ∷ 0 ∷ 0 ∷ []) 0 ≡ Some 0xAAAA0001
unfolding row any_flags any_flag any_word whole_register value_of value product_low product extended product_flags product_spills with_part
mul_words = refl

mul_words_high : register_after op.Mul (one W16 (reg Ecx)) words_full (0 ∷ 0 ∷ 0 ∷ []) 2 ≡ Some 0xBBBBFFFE
unfolding row any_flags any_flag any_word whole_register value_of value product_low product_high product extended product_flags product_spills with_part
mul_words_high = refl

-- movsx from 8 bits at 32 and at 16, and from 16 at 32
movsx_byte : register_after (op.Movsx B8) (two D32 (reg Ebx) (reg Ecx)) signed_low [] 3 ≡ Some 0xFFFFFF80
unfolding row value_of value store_to store with_part extended sign
movsx_byte = refl

movsx_byte_to_word : register_after (op.Movsx B8) (two W16 (reg Ebx) (reg Ecx)) signed_low [] 3 ≡ Some 0x5566FF80
unfolding row value_of value store_to store with_part extended sign
movsx_byte_to_word = refl

movsx_word : register_after (op.Movsx W16) (two D32 (reg Ebx) (reg Ecx)) signed_low [] 3 ≡ Some 0xFFFF8080
unfolding row value_of value store_to store with_part extended sign
movsx_word = refl

-- mov to 16 and to 8 bits keeps the rest
mov_word : register_after op.Mov (two W16 (reg Eax) (operand.Imm 0xBEEF)) carried [] 0 ≡ Some 0x1122BEEF
unfolding row value_of value store_to store with_part
mov_word = refl

mov_high : register_after op.Mov (two B8 (high Eax) (operand.Imm 0xBE)) carried [] 0 ≡ Some 0x1122BEFF
unfolding row value_of value store_to store with_part
mov_high = refl

-- cmov at 16 bits where the condition fails: the destination is written with what it had
cmov_word : register_after (op.Cmov 4) (two W16 (reg Ebx) (reg Ecx)) signed_low [] 3 ≡ Some 0x55667788
unfolding row value_of value store_to store with_part condition condition_flags holds even_condition
cmov_word = refl

-- a word of GS at 8 bits is the low part of its word
mov_gs : register_after op.Mov (two B8 (reg Ebx) (operand.Mem gs_word)) signed_low (0x123456 ∷ []) 3 ≡ Some 0x55667756
unfolding row value_of value store_to store with_part address register_or_zero memory_value any_word
mov_gs = refl

-- a call pushes the next address, and the activation has the new ESP
call_enters : row_outcome op.Call (one D32 (operand.Imm 0x3000)) plain [] ≡ Some (record (going (sets Whole 4 0x1FFC ∷ stores 0x1FFC (0x02 ∷ 0x10 ∷ 0 ∷ 0 ∷ []) ∷ []) 0x3000) { calls = enters (activation 0x1000 0x3000 0x1FFC); forgets = Some 0x1FFC }, [])
unfolding row value_of value store_to store with_part whole_register
call_enters = refl

-- ret 8 pops the word and eight bytes more
ret_more : row_outcome op.Ret (one D32 (operand.Imm 8)) plain [] ≡ Some (record (going (sets Whole 4 0x200C ∷ []) 0x04030201) { calls = leaves; forgets = Some 0x200C }, [])
unfolding row value_of value store_to store with_part whole_register stored_number extra_bytes immediate
ret_more = refl

-- an extern that fills the return word returns to what it filled
fills_return : extern_place (kind.Fills 1 2) filling (5 ∷ 6 ∷ 7 ∷ 0 ∷ 0 ∷ 0 ∷ 0 ∷ 0 ∷ 2 ∷ 0xAB ∷ 0xCD ∷ []) ≡ Some 0x0403CDAB
unfolding extern_row any_results any_word any_flags any_flag division_flags whole_register words_from stored_number any_prefix any_words number_over
fills_return = refl

-- an extern leaves any word in ECX, and takes its return word
extern_clobbers : extern_register (kind.Pure 0) plain (5 ∷ 6 ∷ 7 ∷ 0 ∷ 0 ∷ 0 ∷ 0 ∷ 0 ∷ []) 1 ≡ Some 6
unfolding extern_row any_results any_word any_flags any_flag division_flags whole_register words_from stored_number with_part
extern_clobbers = refl
