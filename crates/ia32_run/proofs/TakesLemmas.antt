-- How many words of choice a reading takes at most: an instruction takes eight or fewer.
use Rattle.std.proofs.Common.{◌≡◌, ℕ, zero, suc, ◌+◌, ◌/◌, ◌≤◌, List, [], ◌∷◌, length, refl, sym, ap, ◌∙◌, arith}
use Rattle.std.specs.Prelude.{Bool, true, false, ◌==◌, if◌then◌else◌, Option, Some, None}
use Rattle.std.proofs.lemmas.Option.{none-some, same_Some}
use Rattle.ia32_types.specs.declared.Reg.{Reg}
use Rattle.ia32_types.specs.declared.Width.{Width}
use Rattle.ia32_types.specs.declared.Width.TheVariants.{B8, W16, D32}
use Rattle.ia32_types.specs.declared.Mem.{Mem}
use Rattle.ia32_types.specs.declared.Operand.{Operand}
use Rattle.ia32_types.specs.declared.Operand.TheVariants as operand
use Rattle.ia32_types.specs.declared.Op.{Op}
use Rattle.ia32_types.specs.declared.Op.TheVariants as op
use Rattle.ia32_types.specs.declared.Instr.{Instr}
use Rattle.ia32_types.specs.Numbers.{reg_number, size}
use Rattle.ia32_semantics.specs.declared.flags.FlagsOut.{FlagsOut}
use Rattle.ia32_semantics.specs.declared.flags.FlagOut.{FlagOut}
use Rattle.ia32_semantics.specs.declared.flags.FlagOut.TheVariants as out
use Rattle.ia32_semantics.specs.Shift.{shift_flags}
use Rattle.ia32_semantics.specs.Division.{division_flags}
use Rattle.ia32_semantics.specs.State.{State}
use Rattle.ia32_semantics.specs.Reading.{Reading, gives, faults, register, flag, byte, choice, ◌>>=◌, with_byte, outcome}
use Rattle.ia32_semantics.specs.Effects.{Effect}
use Rattle.ia32_semantics.specs.Outcome.{Outcome}
use Rattle.ia32_semantics.specs.Operands.{bits, whole_register, flag_value, any_word, stored_number, stored_word, register_or_zero, address, memory_value, value, value_of, address_of, store, store_to, raised, any_flag, any_flags, no_flags, condition_flags, condition}
use Rattle.ia32_semantics.specs.Strings.{string_effects, movs_effects, stos_effects, repeated}
use Rattle.ia32_semantics.specs.Rows.{carry_in, product_undefined, dividend_halves, quotient_or_fault, immediate, extra_bytes, row, imul}
use Rattle.ia32_semantics.proofs.ReadingLemmas.{then_outcome, outcome_bind}

-- a reading takes at most n words
pub record Takes {A : Type 0} (n : ℕ) (t : Reading A) : Type 0 where
  pub most : (s : State) (words left : List ℕ) (x : A) → outcome t s words ≡ Some (x, left) → length words ≤ n + length left

pub takes_gives : {A : Type 0} (n : ℕ) (x : A) → Takes n (gives x)
takes_gives n x = record { most = λ s words left y is. let same : length words ≡ length left = ap length (ap (λ w. w.1) (same_Some (x, words) (y, left) is)) in omega arith }

pub takes_faults : {A : Type 0} (n : ℕ) → Takes {A = A} n faults
takes_faults n = record { most = λ s words left y is. absurd (none-some _ is) }

then_takes : {A B : Type 0} (m n : ℕ) (words left : List ℕ) (y : B) (done : Option (A × List ℕ)) (next : A → List ℕ → Option (B × List ℕ))
    → ((x : A) (mid : List ℕ) → done ≡ Some (x, mid) → length words ≤ m + length mid)
    → ((x : A) (mid : List ℕ) → next x mid ≡ Some (y, left) → length mid ≤ n + length left)
    → then_outcome done next ≡ Some (y, left) → length words ≤ m + n + length left
then_takes m n words left y None next first later is = absurd (none-some _ is)
then_takes m n words left y (Some given) next first later is =
    let a = first given.0 given.1 refl in let b = later given.0 given.1 is in omega arith

pub takes_bind : {A B : Type 0} (m n : ℕ) (t : Reading A) (k : A → Reading B) → Takes m t → ((x : A) → Takes n (k x)) → Takes (m + n) (t >>= k)
takes_bind m n t k first later = record {
  most = λ s words left y is. then_takes m n words left y (outcome t s words) (λ x mid. outcome (k x) s mid)
      (λ x mid e. first.most s words mid x e) (λ x mid e. (later x).most s mid left y e) (sym (outcome_bind t k s words) ∙ is);
}

pub takes_more : {A : Type 0} (m n : ℕ) (t : Reading A) → m ≤ n → Takes m t → Takes n t
takes_more m n t le takes = record { most = λ s words left x is. let a = takes.most s words left x is in omega arith }

takes_register : {A : Type 0} (n r : ℕ) (k : ℕ → Reading A) → ((v : ℕ) → Takes n (k v)) → Takes n (register r k)
takes_register n r k each = record { most = λ s words left x is. (each (s.registers r)).most s words left x is }

takes_flag : {A : Type 0} (n f : ℕ) (k : Bool → Reading A) → ((v : Bool) → Takes n (k v)) → Takes n (flag f k)
takes_flag n f k each = record { most = λ s words left x is. (each (s.flags f)).most s words left x is }

byte_takes : {A : Type 0} (n : ℕ) (words left : List ℕ) (x : A) (m : Option ℕ) (next : ℕ → Option (A × List ℕ))
    → ((v : ℕ) → next v ≡ Some (x, left) → length words ≤ n + length left) → with_byte m None next ≡ Some (x, left) → length words ≤ n + length left
byte_takes n words left x None next each is = absurd (none-some _ is)
byte_takes n words left x (Some v) next each is = each v is

takes_byte : {A : Type 0} (n a : ℕ) (k : ℕ → Reading A) → ((v : ℕ) → Takes n (k v)) → Takes n (byte a k)
takes_byte n a k each = record { most = λ s words left x is. byte_takes n words left x (s.memory a) (λ v. outcome (k v) s words) (λ v e. (each v).most s words left x e) is }

takes_if : {A : Type 0} (n : ℕ) (b : Bool) (t u : Reading A) → Takes n t → Takes n u → Takes n (if b then t else u)
takes_if n true t u p q = p
takes_if n false t u p q = q

-- -- Leaves

whole : (n r : ℕ) → Takes n (whole_register r)
unfolding whole_register
whole n r = takes_register n r _ (λ v. takes_gives n v)

flag_takes : (n f : ℕ) → Takes n (flag_value f)
unfolding flag_value
flag_takes n f = takes_flag n f _ (λ v. takes_gives n v)

word : Takes 1 any_word
unfolding any_word
word = record { most = most }
  where
    most : (s : State) (words left : List ℕ) (x : ℕ) → outcome (choice (λ w. gives w)) s words ≡ Some (x, left) → length words ≤ 1 + length left
    most s [] left x is = absurd (none-some _ is)
    most s (w ∷ words) left x is = let same : length words ≡ length left = ap length (ap (λ p. p.1) (same_Some (w, words) (x, left) is)) in omega arith

number : (n a : ℕ) → Takes 0 (stored_number n a)
unfolding stored_number
number zero a = takes_gives 0 0
number (suc n) a = takes_byte 0 a _ (λ low. takes_bind 0 0 (stored_number n (a + 1)) _ (number n (a + 1)) (λ rest. takes_gives 0 _))

or_zero : (r : Option Reg) → Takes 0 (register_or_zero r)
unfolding register_or_zero
or_zero None = takes_gives 0 0
or_zero (Some r) = takes_register 0 (reg_number r) _ (λ v. takes_gives 0 v)

address_takes : (m : Mem) → Takes 0 (address m)
unfolding address
address_takes m = takes_bind 0 0 (register_or_zero m.base) _ (or_zero m.base) (λ b. takes_bind 0 0 (register_or_zero m.index) _ (or_zero m.index) (λ i. takes_gives 0 _))

memory_takes : (width : Width) (gs : Bool) (a : ℕ) → Takes 1 (memory_value width gs a)
unfolding memory_value
memory_takes width true a = takes_bind 1 0 any_word _ word (λ w. takes_gives 0 _)
memory_takes width false a = takes_more 0 1 _ (omega arith) (number (size width) a)

value_takes : (width : Width) (o : Option Operand) → Takes 1 (value_of width o)
unfolding value_of value
value_takes width None = takes_faults 1
value_takes width (Some (operand.Reg r)) = takes_register 1 (reg_number r) _ (λ v. takes_gives 1 _)
value_takes width (Some (operand.High r)) = takes_register 1 (reg_number r) _ (λ v. takes_gives 1 _)
value_takes width (Some (operand.Imm n)) = takes_gives 1 _
value_takes width (Some (operand.Mem m)) = takes_bind 0 1 (address m) _ (address_takes m) (λ a. memory_takes width m.gs a)

address_of_takes : (o : Option Operand) → Takes 0 (address_of o)
unfolding address_of
address_of_takes None = takes_faults 0
address_of_takes (Some (operand.Reg r)) = takes_faults 0
address_of_takes (Some (operand.High r)) = takes_faults 0
address_of_takes (Some (operand.Imm n)) = takes_faults 0
address_of_takes (Some (operand.Mem m)) = address_takes m

store_takes : (width : Width) (o : Option Operand) (v : ℕ) → Takes 0 (store_to width o v)
unfolding store_to store
store_takes width None v = takes_faults 0
store_takes width (Some (operand.Reg r)) v = takes_gives 0 _
store_takes width (Some (operand.High r)) v = takes_gives 0 _
store_takes width (Some (operand.Imm n)) v = takes_faults 0
store_takes width (Some (operand.Mem m)) v = takes_if 0 m.gs _ _ (takes_faults 0) (takes_bind 0 0 (address m) _ (address_takes m) (λ a. takes_gives 0 _))

one_flag : (f : FlagOut) → Takes 1 (any_flag f)
unfolding any_flag
one_flag out.Kept = takes_gives 1 _
one_flag (out.Set v) = takes_gives 1 _
one_flag out.Undefined = takes_bind 1 0 any_word _ word (λ w. takes_gives 0 _)

flags_take : (f : FlagsOut) → Takes 5 (any_flags f)
unfolding any_flags
flags_take f =
    takes_bind 1 4 (any_flag f.cf) _ (one_flag f.cf) (λ a. takes_bind 1 3 (any_flag f.pf) _ (one_flag f.pf) (λ b. takes_bind 1 2 (any_flag f.zf) _ (one_flag f.zf) (λ c.
    takes_bind 1 1 (any_flag f.sf) _ (one_flag f.sf) (λ d. takes_bind 1 0 (any_flag f.of) _ (one_flag f.of) (λ e. takes_gives 0 _)))))

flags_by : (a b c d e f g : Bool) → Takes 0
    (if a then flag 4 (λ of. gives (record no_flags { of = of })) else
    (if b then flag 0 (λ cf. gives (record no_flags { cf = cf })) else
    (if c then flag 2 (λ zf. gives (record no_flags { zf = zf })) else
    (if d then flag 0 (λ cf. flag 2 (λ zf. gives (record no_flags { cf = cf; zf = zf }))) else
    (if e then flag 3 (λ sf. gives (record no_flags { sf = sf })) else
    (if f then flag 1 (λ pf. gives (record no_flags { pf = pf })) else
    (if g then flag 3 (λ sf. flag 4 (λ of. gives (record no_flags { sf = sf; of = of }))) else
    flag 2 (λ zf. flag 3 (λ sf. flag 4 (λ of. gives (record no_flags { zf = zf; sf = sf; of = of })))))))))))
flags_by a b c d e f g =
    takes_if 0 a _ _ (takes_flag 0 4 _ (λ v. takes_gives 0 _)) (takes_if 0 b _ _ (takes_flag 0 0 _ (λ v. takes_gives 0 _)) (takes_if 0 c _ _ (takes_flag 0 2 _ (λ v. takes_gives 0 _))
    (takes_if 0 d _ _ (takes_flag 0 0 _ (λ v. takes_flag 0 2 _ (λ w. takes_gives 0 _))) (takes_if 0 e _ _ (takes_flag 0 3 _ (λ v. takes_gives 0 _))
    (takes_if 0 f _ _ (takes_flag 0 1 _ (λ v. takes_gives 0 _)) (takes_if 0 g _ _ (takes_flag 0 3 _ (λ v. takes_flag 0 4 _ (λ w. takes_gives 0 _)))
    (takes_flag 0 2 _ (λ v. takes_flag 0 3 _ (λ w. takes_flag 0 4 _ (λ u. takes_gives 0 _))))))))))

condition_takes : (c : ℕ) → Takes 0 (condition c)
unfolding condition condition_flags
condition_takes c = takes_bind 0 0 (condition_flags (c / 2)) _ (flags_by (c / 2 == 0) (c / 2 == 1) (c / 2 == 2) (c / 2 == 3) (c / 2 == 4) (c / 2 == 5) (c / 2 == 6)) (λ f. takes_gives 0 _)

carry_takes : (o : Op) → Takes 0 (carry_in o)
unfolding carry_in
carry_takes op.Adc = flag_takes 0 0
carry_takes op.Sbb = flag_takes 0 0
carry_takes op.Add = takes_gives 0 false
carry_takes op.Or = takes_gives 0 false
carry_takes op.And = takes_gives 0 false
carry_takes op.Sub = takes_gives 0 false
carry_takes op.Xor = takes_gives 0 false
carry_takes op.Cmp = takes_gives 0 false
carry_takes op.Mov = takes_gives 0 false
carry_takes op.Lea = takes_gives 0 false
carry_takes op.Push = takes_gives 0 false
carry_takes op.Pop = takes_gives 0 false
carry_takes op.Xchg = takes_gives 0 false
carry_takes op.Test = takes_gives 0 false
carry_takes op.Inc = takes_gives 0 false
carry_takes op.Dec = takes_gives 0 false
carry_takes op.Not = takes_gives 0 false
carry_takes op.Neg = takes_gives 0 false
carry_takes op.Mul = takes_gives 0 false
carry_takes op.Imul = takes_gives 0 false
carry_takes op.Shl = takes_gives 0 false
carry_takes op.Shr = takes_gives 0 false
carry_takes op.Sar = takes_gives 0 false
carry_takes (op.Movzx from) = takes_gives 0 false
carry_takes (op.Movsx from) = takes_gives 0 false
carry_takes op.Cwde = takes_gives 0 false
carry_takes op.Cdq = takes_gives 0 false
carry_takes op.Leave = takes_gives 0 false
carry_takes (op.Setcc c) = takes_gives 0 false
carry_takes op.Call = takes_gives 0 false
carry_takes op.Ret = takes_gives 0 false
carry_takes op.Jmp = takes_gives 0 false
carry_takes (op.Jcc c) = takes_gives 0 false
carry_takes op.Nop = takes_gives 0 false
carry_takes op.Endbr32 = takes_gives 0 false
carry_takes op.Hlt = takes_gives 0 false
carry_takes op.Int3 = takes_gives 0 false
carry_takes op.Ud2 = takes_gives 0 false
carry_takes (op.Cmov c) = takes_gives 0 false
carry_takes op.Rol = takes_gives 0 false
carry_takes op.Ror = takes_gives 0 false
carry_takes op.Div = takes_gives 0 false
carry_takes op.Idiv = takes_gives 0 false
carry_takes (op.Movs rep) = takes_gives 0 false
carry_takes (op.Stos rep) = takes_gives 0 false
carry_takes op.Cld = takes_gives 0 false
carry_takes op.Std = takes_gives 0 false

immediate_takes : (o : Option Operand) → Takes 0 (immediate o)
unfolding immediate
immediate_takes None = takes_faults 0
immediate_takes (Some (operand.Reg r)) = takes_faults 0
immediate_takes (Some (operand.High r)) = takes_faults 0
immediate_takes (Some (operand.Imm n)) = takes_gives 0 n
immediate_takes (Some (operand.Mem m)) = takes_faults 0

extra_takes : (o : Option Operand) → Takes 0 (extra_bytes o)
unfolding extra_bytes
extra_takes None = takes_gives 0 0
extra_takes (Some o) = immediate_takes (Some o)

dividend_takes : (width : Width) → Takes 0 (dividend_halves width)
unfolding dividend_halves
dividend_takes B8 = takes_bind 0 0 (whole_register 0) _ (whole 0 0) (λ a. takes_gives 0 _)
dividend_takes W16 = takes_bind 0 0 (whole_register 0) _ (whole 0 0) (λ a. takes_bind 0 0 (whole_register 2) _ (whole 0 2) (λ d. takes_gives 0 _))
dividend_takes D32 = takes_bind 0 0 (whole_register 0) _ (whole 0 0) (λ a. takes_bind 0 0 (whole_register 2) _ (whole 0 2) (λ d. takes_gives 0 _))

quotient_takes : (q : Option (ℕ × ℕ)) → Takes 0 (quotient_or_fault q)
unfolding quotient_or_fault
quotient_takes None = takes_faults 0
quotient_takes (Some q) = takes_gives 0 q

movs_take : (z n : ℕ) → Takes 0 (movs_effects z n)
unfolding movs_effects
movs_take z n = takes_bind 0 0 (flag_value 5) _ (flag_takes 0 5) (λ d. takes_bind 0 0 (whole_register 6) _ (whole 0 6) (λ f. takes_bind 0 0 (whole_register 7) _ (whole 0 7) (λ t. takes_gives 0 _)))

stos_take : (z n : ℕ) → Takes 0 (stos_effects z n)
unfolding stos_effects
stos_take z n = takes_bind 0 0 (flag_value 5) _ (flag_takes 0 5) (λ d. takes_bind 0 0 (whole_register 0) _ (whole 0 0) (λ f. takes_bind 0 0 (whole_register 7) _ (whole 0 7) (λ t. takes_gives 0 _)))

string_takes : (rep : Bool) (effects : ℕ → Reading (List Effect)) → ((n : ℕ) → Takes 0 (effects n)) → Takes 0 (string_effects rep effects)
unfolding repeated
string_takes false effects each = each 1
string_takes true effects each = takes_bind 0 0 (whole_register 1) _ (whole 0 1) (λ n. takes_if 0 (n == 0) _ _ (takes_gives 0 _) (takes_bind 0 0 (effects n) _ (each n) (λ done. takes_gives 0 _)))

-- -- Rows

abbrev Eight : Reading Outcome → Type 0
Eight t = Takes 8 t

up : (n : ℕ) (t : Reading Outcome) → n ≤ 8 → Takes n t → Eight t
up n t le takes = takes_more n 8 t le takes

value_then : {A : Type 0} (n : ℕ) (width : Width) (o : Option Operand) (k : ℕ → Reading A) → ((v : ℕ) → Takes n (k v)) → Takes (1 + n) (value_of width o >>= k)
value_then n width o k rest = takes_bind 1 n (value_of width o) k (value_takes width o) rest

store_then : (width : Width) (o : Option Operand) (v : ℕ) (k : List Effect → Outcome) → Takes 0 (store_to width o v >>= (λ stored. gives (k stored)))
store_then width o v k = takes_bind 0 0 (store_to width o v) _ (store_takes width o v) (λ stored. takes_gives 0 _)

imul_takes : (i : Instr) (src : Option Operand) (imm : Option ℕ) → Eight (imul i src imm)
imul_takes i None imm = up 6 _ (omega arith) (takes_bind 5 1 (any_flags product_undefined) _ (flags_take product_undefined) (λ f. takes_bind 0 1 (whole_register 0) _ (whole 0 0) (λ a. value_then 0 i.width i.dst _ (λ b. takes_gives 0 _))))
imul_takes i (Some src) None = up 7 _ (omega arith) (takes_bind 5 2 (any_flags product_undefined) _ (flags_take product_undefined) (λ f. value_then 1 i.width i.dst _ (λ a. value_then 0 i.width (Some src) _ (λ b. store_then i.width i.dst _ _))))
imul_takes i (Some src) (Some imm) = up 7 _ (omega arith) (takes_bind 5 2 (any_flags product_undefined) _ (flags_take product_undefined) (λ f. value_then 1 i.width (Some src) _ (λ a. value_then 0 i.width (Some (operand.Imm imm)) _ (λ b. store_then i.width i.dst _ _))))

pub row_takes : (o : Op) (i : Instr) → Eight (row o i)
unfolding row
row_takes op.Add i = up 2 _ (omega arith) (value_then 1 i.width i.dst _ (λ a. value_then 0 i.width i.src _ (λ b. takes_bind 0 0 (carry_in op.Add) _ (carry_takes op.Add) (λ c. store_then i.width i.dst _ _))))
row_takes op.Or i = up 2 _ (omega arith) (value_then 1 i.width i.dst _ (λ a. value_then 0 i.width i.src _ (λ b. takes_bind 0 0 (carry_in op.Or) _ (carry_takes op.Or) (λ c. store_then i.width i.dst _ _))))
row_takes op.Adc i = up 2 _ (omega arith) (value_then 1 i.width i.dst _ (λ a. value_then 0 i.width i.src _ (λ b. takes_bind 0 0 (carry_in op.Adc) _ (carry_takes op.Adc) (λ c. store_then i.width i.dst _ _))))
row_takes op.Sbb i = up 2 _ (omega arith) (value_then 1 i.width i.dst _ (λ a. value_then 0 i.width i.src _ (λ b. takes_bind 0 0 (carry_in op.Sbb) _ (carry_takes op.Sbb) (λ c. store_then i.width i.dst _ _))))
row_takes op.And i = up 2 _ (omega arith) (value_then 1 i.width i.dst _ (λ a. value_then 0 i.width i.src _ (λ b. takes_bind 0 0 (carry_in op.And) _ (carry_takes op.And) (λ c. store_then i.width i.dst _ _))))
row_takes op.Sub i = up 2 _ (omega arith) (value_then 1 i.width i.dst _ (λ a. value_then 0 i.width i.src _ (λ b. takes_bind 0 0 (carry_in op.Sub) _ (carry_takes op.Sub) (λ c. store_then i.width i.dst _ _))))
row_takes op.Xor i = up 2 _ (omega arith) (value_then 1 i.width i.dst _ (λ a. value_then 0 i.width i.src _ (λ b. takes_bind 0 0 (carry_in op.Xor) _ (carry_takes op.Xor) (λ c. store_then i.width i.dst _ _))))
row_takes op.Cmp i = up 2 _ (omega arith) (value_then 1 i.width i.dst _ (λ a. value_then 0 i.width i.src _ (λ b. takes_gives 0 _)))
row_takes op.Test i = up 2 _ (omega arith) (value_then 1 i.width i.dst _ (λ a. value_then 0 i.width i.src _ (λ b. takes_gives 0 _)))
row_takes op.Mov i = up 1 _ (omega arith) (value_then 0 i.width i.src _ (λ v. store_then i.width i.dst _ _))
row_takes op.Lea i = up 0 _ (omega arith) (takes_bind 0 0 (address_of i.src) _ (address_of_takes i.src) (λ a. store_then i.width i.dst _ _))
row_takes op.Push i = up 1 _ (omega arith) (value_then 0 i.width i.dst _ (λ v. takes_bind 0 0 (whole_register 4) _ (whole 0 4) (λ sp. takes_gives 0 _)))
row_takes op.Pop i = up 0 _ (omega arith) (takes_bind 0 0 (whole_register 4) _ (whole 0 4) (λ sp. takes_bind 0 0 (stored_word sp) _ (number 4 sp) (λ v. store_then i.width (raised i.dst) _ _)))
row_takes op.Xchg i = up 2 _ (omega arith) (value_then 1 i.width i.dst _ (λ a. value_then 0 i.width i.src _ (λ b. takes_bind 0 0 (store_to i.width i.dst b) _ (store_takes i.width i.dst b) (λ one. store_then i.width i.src _ _))))
row_takes op.Inc i = up 1 _ (omega arith) (value_then 0 i.width i.dst _ (λ a. store_then i.width i.dst _ _))
row_takes op.Dec i = up 1 _ (omega arith) (value_then 0 i.width i.dst _ (λ a. store_then i.width i.dst _ _))
row_takes op.Not i = up 1 _ (omega arith) (value_then 0 i.width i.dst _ (λ a. store_then i.width i.dst _ _))
row_takes op.Neg i = up 1 _ (omega arith) (value_then 0 i.width i.dst _ (λ a. store_then i.width i.dst _ _))
row_takes op.Mul i = up 6 _ (omega arith) (takes_bind 5 1 (any_flags product_undefined) _ (flags_take product_undefined) (λ f. takes_bind 0 1 (whole_register 0) _ (whole 0 0) (λ a. value_then 0 i.width i.dst _ (λ b. takes_gives 0 _))))
row_takes op.Imul i = imul_takes i i.src i.imm
row_takes op.Shl i = up 7 _ (omega arith) (value_then 6 B8 i.src _ (λ n. value_then 5 i.width i.dst _ (λ a. takes_bind 5 0 (any_flags (shift_flags (bits i.width) op.Shl a n)) _ (flags_take (shift_flags (bits i.width) op.Shl a n)) (λ f. store_then i.width i.dst _ _))))
row_takes op.Shr i = up 7 _ (omega arith) (value_then 6 B8 i.src _ (λ n. value_then 5 i.width i.dst _ (λ a. takes_bind 5 0 (any_flags (shift_flags (bits i.width) op.Shr a n)) _ (flags_take (shift_flags (bits i.width) op.Shr a n)) (λ f. store_then i.width i.dst _ _))))
row_takes op.Sar i = up 7 _ (omega arith) (value_then 6 B8 i.src _ (λ n. value_then 5 i.width i.dst _ (λ a. takes_bind 5 0 (any_flags (shift_flags (bits i.width) op.Sar a n)) _ (flags_take (shift_flags (bits i.width) op.Sar a n)) (λ f. store_then i.width i.dst _ _))))
row_takes op.Rol i = up 7 _ (omega arith) (value_then 6 B8 i.src _ (λ n. value_then 5 i.width i.dst _ (λ a. takes_bind 5 0 (any_flags (shift_flags (bits i.width) op.Rol a n)) _ (flags_take (shift_flags (bits i.width) op.Rol a n)) (λ f. store_then i.width i.dst _ _))))
row_takes op.Ror i = up 7 _ (omega arith) (value_then 6 B8 i.src _ (λ n. value_then 5 i.width i.dst _ (λ a. takes_bind 5 0 (any_flags (shift_flags (bits i.width) op.Ror a n)) _ (flags_take (shift_flags (bits i.width) op.Ror a n)) (λ f. store_then i.width i.dst _ _))))
row_takes (op.Movzx from) i = up 1 _ (omega arith) (value_then 0 from i.src _ (λ v. store_then i.width i.dst _ _))
row_takes (op.Movsx from) i = up 1 _ (omega arith) (value_then 0 from i.src _ (λ v. store_then i.width i.dst _ _))
row_takes op.Cwde i = up 0 _ (omega arith) (takes_bind 0 0 (whole_register 0) _ (whole 0 0) (λ a. takes_gives 0 _))
row_takes op.Cdq i = up 0 _ (omega arith) (takes_bind 0 0 (whole_register 0) _ (whole 0 0) (λ a. takes_gives 0 _))
row_takes op.Leave i = up 0 _ (omega arith) (takes_bind 0 0 (whole_register 5) _ (whole 0 5) (λ bp. takes_bind 0 0 (stored_word bp) _ (number 4 bp) (λ v. takes_gives 0 _)))
row_takes (op.Setcc c) i = up 0 _ (omega arith) (takes_bind 0 0 (condition c) _ (condition_takes c) (λ h. store_then i.width i.dst _ _))
row_takes op.Call i = up 1 _ (omega arith) (value_then 0 i.width i.dst _ (λ v. takes_bind 0 0 (whole_register 4) _ (whole 0 4) (λ sp. takes_gives 0 _)))
row_takes op.Ret i = up 0 _ (omega arith) (takes_bind 0 0 (whole_register 4) _ (whole 0 4) (λ sp. takes_bind 0 0 (stored_word sp) _ (number 4 sp) (λ v. takes_bind 0 0 (extra_bytes i.dst) _ (extra_takes i.dst) (λ e. takes_gives 0 _))))
row_takes op.Jmp i = up 1 _ (omega arith) (value_then 0 i.width i.dst _ (λ v. takes_gives 0 _))
row_takes (op.Jcc c) i = up 0 _ (omega arith) (takes_bind 0 0 (condition c) _ (condition_takes c) (λ h. takes_bind 0 0 (immediate i.dst) _ (immediate_takes i.dst) (λ t. takes_gives 0 _)))
row_takes op.Nop i = takes_gives 8 _
row_takes op.Endbr32 i = takes_gives 8 _
row_takes op.Hlt i = takes_gives 8 _
row_takes op.Cld i = takes_gives 8 _
row_takes op.Std i = takes_gives 8 _
row_takes op.Int3 i = takes_faults 8
row_takes op.Ud2 i = takes_faults 8
row_takes (op.Cmov c) i = up 2 _ (omega arith) (takes_bind 0 2 (condition c) _ (condition_takes c) (λ h. value_then 1 i.width i.src _ (λ v. value_then 0 i.width i.dst _ (λ old. store_then i.width i.dst _ _))))
row_takes op.Div i = up 6 _ (omega arith) (takes_bind 5 1 (any_flags division_flags) _ (flags_take division_flags) (λ f. value_then 0 i.width i.dst _ (λ by. takes_bind 0 0 (dividend_halves i.width) _ (dividend_takes i.width) (λ parts. takes_bind 0 0 (quotient_or_fault _) _ (quotient_takes _) (λ q. takes_gives 0 _)))))
row_takes op.Idiv i = up 6 _ (omega arith) (takes_bind 5 1 (any_flags division_flags) _ (flags_take division_flags) (λ f. value_then 0 i.width i.dst _ (λ by. takes_bind 0 0 (dividend_halves i.width) _ (dividend_takes i.width) (λ parts. takes_bind 0 0 (quotient_or_fault _) _ (quotient_takes _) (λ q. takes_gives 0 _)))))
row_takes (op.Movs rep) i = up 0 _ (omega arith) (takes_bind 0 0 (string_effects rep (movs_effects (size i.width))) _ (string_takes rep (movs_effects (size i.width)) (movs_take (size i.width))) (λ done. takes_gives 0 _))
row_takes (op.Stos rep) i = up 0 _ (omega arith) (takes_bind 0 0 (string_effects rep (stos_effects (size i.width))) _ (string_takes rep (stos_effects (size i.width)) (stos_take (size i.width))) (λ done. takes_gives 0 _))
