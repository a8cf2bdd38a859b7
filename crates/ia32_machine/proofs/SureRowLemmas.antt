-- Each row asks for, or takes over, each register and flag of its tables.
use Rattle.std.proofs.Common.{◌≡◌, ℕ, ◌+◌, List, [], ◌∷◌, ◌++◌, refl, sym, ◌∙◌, subst}
use Rattle.std.specs.Prelude.{Bool, true, false, ◌||◌, ◌==◌, ◌%◌, ◌^◌, if◌then◌else◌, Option, Some, None}
use Rattle.std.proofs.lemmas.Bool.{false≢true}
use Rattle.ia32_types.specs.declared.Reg.{Reg}
use Rattle.ia32_types.specs.declared.Reg.TheVariants.{Eax, Ecx, Edx, Esp, Ebp, Esi, Edi}
use Rattle.ia32_types.specs.declared.Width.{Width}
use Rattle.ia32_types.specs.declared.Width.TheVariants.{B8, W16, D32}
use Rattle.ia32_types.specs.declared.Operand.{Operand}
use Rattle.ia32_types.specs.declared.Operand.TheVariants as operand
use Rattle.ia32_types.specs.declared.Op.{Op}
use Rattle.ia32_types.specs.declared.Op.TheVariants as op
use Rattle.ia32_types.specs.declared.Instr.{Instr}
use Rattle.ia32_types.specs.Numbers.{reg_number, size}
use Rattle.ia32_types.specs.Places as places
use Rattle.ia32_types.specs.Places.{op_reads, op_flag_reads}
use Rattle.ia32_semantics.specs.Product.{extended}
use Rattle.ia32_semantics.specs.Division.{division_flags}
use Rattle.ia32_semantics.specs.State.{State, Location, InRegister}
use Rattle.ia32_semantics.specs.Reading.{Reading, gives, ◌>>=◌}
use Rattle.ia32_semantics.specs.Effects.{Effect, Whole, sets}
use Rattle.ia32_semantics.specs.Outcome.{Outcome}
use Rattle.ia32_semantics.specs.Operands.{bits, whole_register, flag_value, stored_word, value_of, address_of, store_to, raised, is_esp, any_flags, condition}
use Rattle.ia32_semantics.specs.Strings.{movs_effects, stos_effects, repeated}
use Rattle.ia32_semantics.specs.Rows.{product_undefined, halves, dividend_halves, goes_on, altered, shifted, multiplied, imul, divided, addressed, tested, chosen, popped, strung, row}
use Rattle.ia32_semantics.specs.Laws.{has_register, is_repeated}
use Rattle.ia32_machine.proofs.SureLemmas.{Sure, register_later, never, sure_then, sure_first, sure_later, sure_gives, register_sure, one_of, either, whole_sure, value_sure, address_of_sure, store_sure, taken, taken_front, done_takes}

swapped : (a b c : Bool) → (a || (b || c)) ≡ true → (b || (a || c)) ≡ true
swapped true true c e = refl
swapped true false c e = refl
swapped false true c e = refl
swapped false false c e = e

module _ (s : State) (n : ℕ) where
  -- register n
  abbrev l : Location
  l = InRegister n

  abbrev pub SureRow : Reading Outcome → Type 0
  SureRow t = Sure s l (done_takes s l) t

  -- -- Parts of rows

  value_first : (width : Width) (o : Option Operand) (k : ℕ → Reading Outcome) → has_register (places.value_of o) n ≡ true → SureRow (value_of width o >>= k)
  value_first width o k has = sure_first s l (done_takes s l) (value_of width o) k (value_sure s width o n has)

  later : {A : Type 0} (t : Reading A) (k : A → Reading Outcome) → ((x : A) → SureRow (k x)) → SureRow (t >>= k)
  later t k rest = sure_later s l (done_takes s l) t k rest

  whole_first : (m : ℕ) (k : ℕ → Reading Outcome) → m ≡ n → SureRow (whole_register m >>= k)
  whole_first m k is = sure_first s l (done_takes s l) (whole_register m) k (subst (λ j. Sure s (InRegister j) never (whole_register m)) is (whole_sure s m))

  -- stored at the end
  store_last : (i : Instr) (o : Option Operand) (v : ℕ) (more : List Effect) → has_register (places.place_of i.width o) n ≡ true
      → SureRow (store_to i.width o v >>= (λ stored. goes_on i (stored ++ more)))
  store_last i o v more has = sure_then s l (taken s n) (done_takes s l) (store_to i.width o v) _ (store_sure s i.width o v n has)
      (λ stored e. sure_gives s l (done_takes s l) _ (taken_front s n stored more e))

  store_only : (i : Instr) (o : Option Operand) (v : ℕ) → has_register (places.place_of i.width o) n ≡ true
      → SureRow (store_to i.width o v >>= (λ stored. goes_on i stored))
  store_only i o v has = sure_then s l (taken s n) (done_takes s l) (store_to i.width o v) _ (store_sure s i.width o v n has)
      (λ stored e. sure_gives s l (done_takes s l) _ e)

  -- -- Rows

  abbrev In : List Reg → Type 0
  In regs = has_register regs n ≡ true

  two_values : (a b : Width) (x y : Option Operand) (k : ℕ → ℕ → Reading Outcome) → In (places.value_of x ++ places.value_of y)
      → SureRow (value_of a x >>= (λ v. value_of b y >>= (λ w. k v w)))
  two_values a b x y k has = either (places.value_of x) (places.value_of y) n has
      (λ e. value_first a x _ e) (λ e. later (value_of a x) _ (λ v. value_first b y _ e))

  altered_sure : (o : Op) (i : Instr) → In (places.value_of i.dst) → SureRow (altered o i)
  altered_sure o i has = value_first i.width i.dst _ has

  shifted_sure : (o : Op) (i : Instr) → In (places.value_of i.dst ++ places.value_of i.src) → SureRow (shifted o i)
  shifted_sure o i has = either (places.value_of i.dst) (places.value_of i.src) n has
      (λ e. later (value_of B8 i.src) _ (λ count. value_first i.width i.dst _ e))
      (λ e. value_first B8 i.src _ e)

  moved_sure : (i : Instr) (width : Width) (f : ℕ → ℕ) → In (places.place_of i.width i.dst ++ places.value_of i.src)
      → SureRow (value_of width i.src >>= (λ v. store_to i.width i.dst (f v) >>= (λ stored. goes_on i stored)))
  moved_sure i width f has = either (places.place_of i.width i.dst) (places.value_of i.src) n has
      (λ e. later (value_of width i.src) _ (λ v. store_only i i.dst (f v) e))
      (λ e. value_first width i.src _ e)

  addressed_sure : (i : Instr) → In (places.place_of i.width i.dst ++ places.value_of i.src) → SureRow (addressed i)
  addressed_sure i has = either (places.place_of i.width i.dst) (places.value_of i.src) n has
      (λ e. later (address_of i.src) _ (λ a. store_only i i.dst a e))
      (λ e. sure_first s l (done_takes s l) (address_of i.src) _ (address_of_sure s i.src n e))

  -- a product reads EAX, and at 16 bits writes a part of EDX
  product_sure : (width : Width) (t : Reading ℕ) (k : ℕ → ℕ → Reading Outcome) → In (places.product_reads width)
      → ((a b : ℕ) → width ≡ W16 → 2 ≡ n → SureRow (k a b)) → SureRow (whole_register 0 >>= (λ a. t >>= (λ b. k a b)))
  product_sure B8 t k has part = one_of Eax n has (λ e. whole_first 0 _ e)
  product_sure W16 t k has part = either (Eax ∷ []) (Edx ∷ []) n has
      (λ f. one_of Eax n f (λ e. whole_first 0 _ e))
      (λ f. one_of Edx n f (λ e. later (whole_register 0) _ (λ a. later t _ (λ b. part a b refl e))))
  product_sure D32 t k has part = one_of Eax n has (λ e. whole_first 0 _ e)

  halves_taken : (width : Width) (low high : ℕ) (more : List Effect) → width ≡ W16 → 2 ≡ n → taken s n (halves width low high ++ more) ≡ true
  halves_taken width low high more is two =
      subst (λ w. taken s n (halves w low high ++ more) ≡ true) (sym is)
      (subst (λ m. taken s m (halves W16 low high ++ more) ≡ true) two refl)

  multiplied_sure : (signed : Bool) (i : Instr) → In (places.value_of i.dst ++ places.product_reads i.width) → SureRow (multiplied signed i)
  multiplied_sure signed i has = either (places.value_of i.dst) (places.product_reads i.width) n has
      (λ e. later (any_flags product_undefined) _ (λ drawn. later (whole_register 0) _ (λ a. value_first i.width i.dst _ e)))
      (λ e. later (any_flags product_undefined) _ (λ drawn. product_sure i.width (value_of i.width i.dst) _ e
      (λ a b is two. sure_gives s l (done_takes s l) _ (halves_taken i.width _ _ _ is two))))

  imul_sure : (i : Instr) (src : Option Operand) (imm : Option ℕ) → In (places.imul_reads i.width i.dst src imm) → SureRow (imul i src imm)
  imul_sure i None imm has = multiplied_sure true i has
  imul_sure i (Some src) None has =
      later (any_flags product_undefined) _ (λ drawn. two_values i.width i.width i.dst (Some src) _ has)
  imul_sure i (Some src) (Some imm) has = either (places.place_of i.width i.dst) (places.value_of (Some src)) n has
      (λ e. later (any_flags product_undefined) _ (λ drawn. later (value_of i.width (Some src)) _ (λ a. later (value_of i.width (Some (operand.Imm imm))) _ (λ b. store_last i i.dst _ _ e))))
      (λ e. later (any_flags product_undefined) _ (λ drawn. value_first i.width (Some src) _ e))

  two_wholes : (f : ℕ → ℕ → ℕ × ℕ) → In (Eax ∷ Edx ∷ []) → Sure s l never (whole_register 0 >>= (λ a. whole_register 2 >>= (λ d. gives (f a d))))
  two_wholes f has = either (Eax ∷ []) (Edx ∷ []) n has
      (λ g. one_of Eax n g (λ e. sure_first s l never (whole_register 0) _ (subst (λ j. Sure s (InRegister j) never (whole_register 0)) e (whole_sure s 0))))
      (λ g. one_of Edx n g (λ e. sure_later s l never (whole_register 0) _ (λ a. sure_first s l never (whole_register 2) _ (subst (λ j. Sure s (InRegister j) never (whole_register 2)) e (whole_sure s 2)))))

  dividend_sure : (width : Width) → In (places.quotient_places width) → Sure s l never (dividend_halves width)
  unfolding dividend_halves
  dividend_sure B8 has = one_of Eax n has (λ e. sure_first s l never (whole_register 0) _ (subst (λ j. Sure s (InRegister j) never (whole_register 0)) e (whole_sure s 0)))
  dividend_sure W16 has = two_wholes _ has
  dividend_sure D32 has = two_wholes _ has

  divided_sure : (signed : Bool) (i : Instr) → In (places.value_of i.dst ++ places.quotient_places i.width) → SureRow (divided signed i)
  divided_sure signed i has = either (places.value_of i.dst) (places.quotient_places i.width) n has
      (λ e. later (any_flags division_flags) _ (λ drawn. value_first i.width i.dst _ e))
      (λ e. later (any_flags division_flags) _ (λ drawn. later (value_of i.width i.dst) _ (λ by. sure_first s l (done_takes s l) (dividend_halves i.width) _ (dividend_sure i.width e))))

  tested_sure : (c : ℕ) (i : Instr) → In (places.place_of i.width i.dst) → SureRow (tested c i)
  tested_sure c i has = later (condition c) _ (λ holds. store_only i i.dst _ has)

  chosen_sure : (c : ℕ) (i : Instr) → In (places.value_of i.dst ++ places.value_of i.src) → SureRow (chosen c i)
  chosen_sure c i has = later (condition c) _ (λ holds. either (places.value_of i.dst) (places.value_of i.src) n has
      (λ e. later (value_of i.width i.src) _ (λ v. value_first i.width i.dst _ e))
      (λ e. value_first i.width i.src _ e))

  value_and_sp : (width : Width) (o : Option Operand) (k : ℕ → ℕ → Reading Outcome) → In (places.value_of o ++ (Esp ∷ []))
      → SureRow (value_of width o >>= (λ v. whole_register 4 >>= (λ sp. k v sp)))
  value_and_sp width o k has = either (places.value_of o) (Esp ∷ []) n has
      (λ e. value_first width o _ e)
      (λ f. one_of Esp n f (λ e. later (value_of width o) _ (λ v. whole_first 4 _ e)))

  raised_place : (width : Width) (o : Option Operand) → In (places.place_of width o) → In (places.place_of width (raised o))
  raised_place width None has = has
  raised_place width (Some (operand.Reg r)) has = has
  raised_place width (Some (operand.High r)) has = has
  raised_place width (Some (operand.Imm k)) has = has
  raised_place width (Some (operand.Mem m)) has = by_base (is_esp m.base)
    where
      by_base : (b : Bool) → In (places.place_of width (if b then Some (operand.Mem (record m { disp = (m.disp + 4) % 2 ^ 32 })) else Some (operand.Mem m)))
      by_base true = has
      by_base false = has

  popped_sure : (i : Instr) → In (places.place_of i.width i.dst ++ (Esp ∷ [])) → SureRow (popped i)
  popped_sure i has = either (places.place_of i.width i.dst) (Esp ∷ []) n has
      (λ e. later (whole_register 4) _ (λ sp. later (stored_word sp) _ (λ v.
      sure_then s l (taken s n) (done_takes s l) (store_to i.width (raised i.dst) v) _ (store_sure s i.width (raised i.dst) v n (raised_place i.width i.dst e))
      (λ stored t. sure_gives s l (done_takes s l) _ t))))
      (λ f. one_of Esp n f (λ e. whole_first 4 _ e))

  -- -- String instructions

  abbrev SureEffects : Reading (List Effect) → Type 0
  SureEffects t = Sure s l never t

  whole_sure_at : {A : Type 0} (m : ℕ) (k : ℕ → Reading A) → m ≡ n → Sure s l never (whole_register m >>= k)
  whole_sure_at m k e = sure_first s l never (whole_register m) k (subst (λ j. Sure s (InRegister j) never (whole_register m)) e (whole_sure s m))

  two_later : (a b : Reg) (x y : ℕ) (k : Bool → ℕ → ℕ → List Effect) → reg_number a ≡ x → reg_number b ≡ y → In (a ∷ b ∷ [])
      → SureEffects (flag_value 5 >>= (λ down. whole_register x >>= (λ u. whole_register y >>= (λ v. gives (k down u v)))))
  two_later a b x y k p q has = either (a ∷ []) (b ∷ []) n has
      (λ f. one_of a n f (λ e. sure_later s l never (flag_value 5) _ (λ down. whole_sure_at x _ (sym p ∙ e))))
      (λ f. one_of b n f (λ e. sure_later s l never (flag_value 5) _ (λ down. sure_later s l never (whole_register x) _ (λ u. whole_sure_at y _ (sym q ∙ e)))))

  movs_sure : (z k : ℕ) → In (Esi ∷ Edi ∷ []) → SureEffects (movs_effects z k)
  unfolding movs_effects
  movs_sure z k has = two_later Esi Edi 6 7 _ refl refl has

  stos_sure : (z k : ℕ) → In (Eax ∷ Edi ∷ []) → SureEffects (stos_effects z k)
  unfolding stos_effects
  stos_sure z k has = two_later Eax Edi 0 7 _ refl refl has

  -- ECX times: it is asked for, and where it isn't 0 so is all else
  repeated_sure : (regs : List Reg) (effects : ℕ → Reading (List Effect)) → In (Ecx ∷ regs) → (In regs → (s.registers 1 == 0) ≡ false)
      → ((k : ℕ) → In regs → SureEffects (effects k)) → SureEffects (repeated effects)
  unfolding repeated whole_register
  repeated_sure regs effects has some each = either (Ecx ∷ []) regs n has
      (λ f. one_of Ecx n f (λ e. subst (λ j. Sure s (InRegister j) never (repeated effects)) e (register_sure s 1 never _)))
      (λ f. register_later s l never 1 _ (subst (λ b. SureEffects (if b then gives [] else effects (s.registers 1) >>= (λ done. gives (done ++ (sets Whole 1 0 ∷ []))))) (sym (some f))
      (sure_first s l never (effects (s.registers 1)) _ (each (s.registers 1) f))))

  strung_sure : (effects : Reading (List Effect)) (i : Instr) → SureEffects effects → SureRow (strung effects i)
  strung_sure effects i sure = sure_first s l (done_takes s l) effects _ sure

  -- ECX and 0, where the operation is repeated
  abbrev pub Counts : Op → Type 0
  Counts o = is_repeated o ≡ true → (s.registers 1 == 0) ≡ false

  pub row_sure : (o : Op) (i : Instr) → Counts o → In (op_reads o i.width i.dst i.src i.imm) → SureRow (row o i)
  unfolding row op_reads
  row_sure op.Add i some has = two_values i.width i.width i.dst i.src _ has
  row_sure op.Or i some has = two_values i.width i.width i.dst i.src _ has
  row_sure op.Adc i some has = two_values i.width i.width i.dst i.src _ has
  row_sure op.Sbb i some has = two_values i.width i.width i.dst i.src _ has
  row_sure op.And i some has = two_values i.width i.width i.dst i.src _ has
  row_sure op.Sub i some has = two_values i.width i.width i.dst i.src _ has
  row_sure op.Xor i some has = two_values i.width i.width i.dst i.src _ has
  row_sure op.Cmp i some has = two_values i.width i.width i.dst i.src _ has
  row_sure op.Mov i some has = moved_sure i i.width (λ v. v) has
  row_sure op.Lea i some has = addressed_sure i has
  row_sure op.Push i some has = value_and_sp i.width i.dst _ has
  row_sure op.Pop i some has = popped_sure i has
  row_sure op.Xchg i some has = two_values i.width i.width i.dst i.src _ has
  row_sure op.Test i some has = two_values i.width i.width i.dst i.src _ has
  row_sure op.Inc i some has = altered_sure op.Inc i has
  row_sure op.Dec i some has = altered_sure op.Dec i has
  row_sure op.Not i some has = altered_sure op.Not i has
  row_sure op.Neg i some has = altered_sure op.Neg i has
  row_sure op.Mul i some has = multiplied_sure false i has
  row_sure op.Imul i some has = imul_sure i i.src i.imm has
  row_sure op.Shl i some has = shifted_sure op.Shl i has
  row_sure op.Shr i some has = shifted_sure op.Shr i has
  row_sure op.Sar i some has = shifted_sure op.Sar i has
  row_sure (op.Movzx from) i some has = moved_sure i from (extended false (bits from) (bits i.width)) has
  row_sure (op.Movsx from) i some has = moved_sure i from (extended true (bits from) (bits i.width)) has
  row_sure op.Cwde i some has = one_of Eax n has (λ e. whole_first 0 _ e)
  row_sure op.Cdq i some has = one_of Eax n has (λ e. whole_first 0 _ e)
  row_sure op.Leave i some has = one_of Ebp n has (λ e. whole_first 5 _ e)
  row_sure (op.Setcc c) i some has = tested_sure c i has
  row_sure op.Call i some has = value_and_sp i.width i.dst _ has
  row_sure op.Ret i some has = one_of Esp n has (λ e. whole_first 4 _ e)
  row_sure op.Jmp i some has = value_first i.width i.dst _ has
  row_sure (op.Jcc c) i some has = absurd (false≢true has)
  row_sure op.Nop i some has = absurd (false≢true has)
  row_sure op.Endbr32 i some has = absurd (false≢true has)
  row_sure op.Hlt i some has = absurd (false≢true has)
  row_sure op.Int3 i some has = absurd (false≢true has)
  row_sure op.Ud2 i some has = absurd (false≢true has)
  row_sure (op.Cmov c) i some has = chosen_sure c i has
  row_sure op.Rol i some has = shifted_sure op.Rol i has
  row_sure op.Ror i some has = shifted_sure op.Ror i has
  row_sure op.Div i some has = divided_sure false i has
  row_sure op.Idiv i some has = divided_sure true i has
  row_sure (op.Movs false) i some has = strung_sure _ i (movs_sure (size i.width) 1 has)
  row_sure (op.Movs true) i some has = strung_sure _ i (repeated_sure (Esi ∷ Edi ∷ []) (movs_effects (size i.width)) has (λ f. some refl) (λ k f. movs_sure (size i.width) k f))
  row_sure (op.Stos false) i some has = strung_sure _ i (stos_sure (size i.width) 1 has)
  row_sure (op.Stos true) i some has = strung_sure _ i (repeated_sure (Eax ∷ Edi ∷ []) (stos_effects (size i.width)) (swap has) (λ f. some refl) (λ k f. stos_sure (size i.width) k f))
    where
      swap : In (Eax ∷ Ecx ∷ Edi ∷ []) → In (Ecx ∷ Eax ∷ Edi ∷ [])
      swap h = swapped (0 == n) (1 == n) _ h
  row_sure op.Cld i some has = absurd (false≢true has)
  row_sure op.Std i some has = absurd (false≢true has)
