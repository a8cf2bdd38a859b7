-- What a reading asks for in any case, and what is taken over of what it gives, along its parts.
use Rattle.std.proofs.Common.{◌≡◌, ℕ, ◌%◌, List, [], ◌∷◌, ◌++◌, refl, sym, ap, ◌∙◌, subst, eqb-true}
use Rattle.std.specs.Prelude.{Bool, true, false, ◌||◌, ◌==◌, ◌/◌, if◌then◌else◌, Option, Some, None, option_to_list}
use Rattle.std.proofs.lemmas.Bool.{false≢true, or_right, or_left}
use Rattle.std.proofs.lemmas.List.Folds.{list_any-append}
use Rattle.std.proofs.lemmas.Option.{none-some, same_Some}
use Rattle.ia32_types.specs.declared.Reg.{Reg}
use Rattle.ia32_types.specs.declared.Width.{Width}
use Rattle.ia32_types.specs.declared.Width.TheVariants.{B8, W16, D32}
use Rattle.ia32_types.specs.declared.Mem.{Mem}
use Rattle.ia32_types.specs.declared.Operand.{Operand}
use Rattle.ia32_types.specs.declared.Operand.TheVariants as operand
use Rattle.ia32_types.specs.Numbers.{reg_number}
use Rattle.ia32_types.specs.Places as places
use Rattle.ia32_semantics.specs.State.{State, Location, InRegister, InFlag}
use Rattle.ia32_semantics.specs.Reading.{Reading, gives, faults, register, flag, ◌>>=◌, outcome, asks, is_register, is_flag}
use Rattle.ia32_semantics.specs.Effects.{Effect, effects_take, effect_takes}
use Rattle.ia32_semantics.specs.Operands.{whole_register, flag_value, register_or_zero, address, value, value_of, address_of, store, store_to, low_part}
use Rattle.ia32_semantics.specs.Outcome.{Outcome}
use Rattle.ia32_semantics.specs.Laws.{has_register}
use Rattle.ia32_semantics.proofs.EffectLemmas.{or_true}
use Rattle.ia32_semantics.proofs.ReadingLemmas.{then_outcome, then_asks, outcome_bind, asks_bind, same_number}

-- in this state the location is asked for, or taken over by what is given
pub record Sure {A : Type 0} (s : State) (l : Location) (T : A → Bool) (t : Reading A) : Type 0 where
  pub each : (words rest : List ℕ) (x : A) → outcome t s words ≡ Some (x, rest) → (asks t s words l || T x) ≡ true

abbrev pub never : {A : Type 0} → A → Bool
never x = false

first_or : (a b c d : Bool) → (a || b) ≡ true → (b ≡ true → (c || d) ≡ true) → ((a || c) || d) ≡ true
first_or true b c d e f = refl
first_or false b c d e f = f e

then_sure : {A B : Type 0} (a b d : Bool) (done : Option (A × List ℕ)) (asked : A → List ℕ → Bool) (T : A → Bool) (next : A → List ℕ → Option (B × List ℕ)) (y : B × List ℕ)
    → ((x : A) (left : List ℕ) → done ≡ Some (x, left) → (a || T x) ≡ true)
    → ((x : A) (left : List ℕ) → done ≡ Some (x, left) → T x ≡ true → next x left ≡ Some y → (asked x left || d) ≡ true)
    → then_outcome done next ≡ Some y → ((a || then_asks done asked) || d) ≡ true
then_sure a b d None asked T next y first later is = absurd (none-some _ is)
then_sure a b d (Some given) asked T next y first later is =
    first_or a (T given.0) (asked given.0 given.1) d (first given.0 given.1 refl) (λ taken. later given.0 given.1 refl taken is)

-- what is given by the first part goes on to be taken
pub sure_then : {A B : Type 0} (s : State) (l : Location) (T : A → Bool) (U : B → Bool) (t : Reading A) (k : A → Reading B)
    → Sure s l T t → ((x : A) → T x ≡ true → Sure s l U (k x)) → Sure s l U (t >>= k)
sure_then {A} {B} s l T U t k first later = record {
  each = λ words rest y is.
      ap (λ b. b || U y) (asks_bind t k s words l)
      ∙ then_sure (asks t s words l) false (U y) (outcome t s words) (λ x left. asks (k x) s left l) T (λ x left. outcome (k x) s left) (y, rest)
      (λ x left e. first.each words left x e)
      (λ x left e taken f. (later x taken).each left rest y f)
      (sym (outcome_bind t k s words) ∙ is);
}

-- the first part asks for it
pub sure_first : {A B : Type 0} (s : State) (l : Location) (U : B → Bool) (t : Reading A) (k : A → Reading B) → Sure s l never t → Sure s l U (t >>= k)
sure_first s l U t k first = sure_then s l never U t k first (λ x e. absurd (false≢true e))

later_go : {A B : Type 0} (a d : Bool) (done : Option (A × List ℕ)) (asked : A → List ℕ → Bool) (next : A → List ℕ → Option (B × List ℕ)) (y : B × List ℕ)
    → ((x : A) (left : List ℕ) → next x left ≡ Some y → (asked x left || d) ≡ true)
    → then_outcome done next ≡ Some y → ((a || then_asks done asked) || d) ≡ true
later_go true d done asked next y later is = refl
later_go false d None asked next y later is = absurd (none-some _ is)
later_go false d (Some first) asked next y later is = later first.0 first.1 is

-- a later part does
pub sure_later : {A B : Type 0} (s : State) (l : Location) (U : B → Bool) (t : Reading A) (k : A → Reading B) → ((x : A) → Sure s l U (k x)) → Sure s l U (t >>= k)
sure_later {A} {B} s l U t k later = record {
  each = λ words rest y is.
      ap (λ b. b || U y) (asks_bind t k s words l)
      ∙ later_go (asks t s words l) (U y) (outcome t s words) (λ x left. asks (k x) s left l) (λ x left. outcome (k x) s left) (y, rest)
      (λ x left f. (later x).each left rest y f)
      (sym (outcome_bind t k s words) ∙ is);
}

pub sure_gives : {A : Type 0} (s : State) (l : Location) (T : A → Bool) (x : A) → T x ≡ true → Sure s l T (gives x)
sure_gives s l T x taken = record { each = λ words rest y is. subst (λ z. (false || T z) ≡ true) (ap (λ w. w.0) (same_Some (x, words) (y, rest) is)) taken }

pub sure_faults : {A : Type 0} (s : State) (l : Location) (T : A → Bool) → Sure s l T faults
sure_faults s l T = record { each = λ words rest y is. absurd (none-some _ is) }

-- -- Leaves

asked_or : (a b c : Bool) → a ≡ true → ((a || b) || c) ≡ true
asked_or true b c e = refl
asked_or false b c e = absurd (false≢true e)

pub register_sure : {A : Type 0} (s : State) (n : ℕ) (T : A → Bool) (k : ℕ → Reading A) → Sure s (InRegister n) T (register n k)
register_sure s n T k = record { each = λ words rest x is. asked_or (n == n) _ _ (same_number n) }

pub flag_sure : {A : Type 0} (s : State) (n : ℕ) (T : A → Bool) (k : Bool → Reading A) → Sure s (InFlag n) T (flag n k)
flag_sure s n T k = record { each = λ words rest x is. asked_or (n == n) _ _ (same_number n) }

later_or : (a b c : Bool) → (b || c) ≡ true → ((a || b) || c) ≡ true
later_or true b c e = refl
later_or false b c e = e

pub flag_later : {A : Type 0} (s : State) (l : Location) (n : ℕ) (T : A → Bool) (k : Bool → Reading A) → ((v : Bool) → Sure s l T (k v)) → Sure s l T (flag n k)
flag_later s l n T k later = record { each = λ words rest x is. later_or (is_flag n l) _ _ ((later (s.flags n)).each words rest x is) }

pub register_later : {A : Type 0} (s : State) (l : Location) (T : A → Bool) (n : ℕ) (k : ℕ → Reading A) → Sure s l T (k (s.registers n)) → Sure s l T (register n k)
register_later s l T n k later = record { each = λ words rest x is. later_or (is_register n l) _ _ (later.each words rest x is) }

-- one register of a list
pub one_of : (r : Reg) (n : ℕ) {P : Type 0} → has_register (r ∷ []) n ≡ true → (reg_number r ≡ n → P) → P
one_of r n has next = or_true (reg_number r == n) false has (λ e. next (same r n e)) (λ e. absurd (false≢true e))
  where
    same : (r : Reg) (n : ℕ) → (reg_number r == n) ≡ true → reg_number r ≡ n
    same r n e = eqb-true (reg_number r) n e

pub either : (a b : List Reg) (n : ℕ) {P : Type 0} → has_register (a ++ b) n ≡ true → (has_register a n ≡ true → P) → (has_register b n ≡ true → P) → P
either a b n has first second = or_true _ _ (sym (list_any-append (λ r. reg_number r == n) a b) ∙ has) first second

module _ (s : State) where
  pub whole_sure : (n : ℕ) → Sure s (InRegister n) never (whole_register n)
  unfolding whole_register
  whole_sure n = register_sure s n never (λ v. gives v)

  pub flag_value_sure : (n : ℕ) → Sure s (InFlag n) never (flag_value n)
  unfolding flag_value
  flag_value_sure n = flag_sure s n never (λ v. gives v)

  some_sure : (r : Option Reg) (n : ℕ) → has_register (option_to_list r) n ≡ true → Sure s (InRegister n) never (register_or_zero r)
  unfolding register_or_zero
  some_sure None n has = absurd (false≢true has)
  some_sure (Some r) n has = one_of r n has (λ e. subst (λ m. Sure s (InRegister m) never (register (reg_number r) (λ v. gives v))) e (register_sure s (reg_number r) never (λ v. gives v)))

  pub address_sure : (m : Mem) (n : ℕ) → has_register (places.address_of m) n ≡ true → Sure s (InRegister n) never (address m)
  unfolding address
  address_sure m n has = either (option_to_list m.base) (option_to_list m.index) n has
      (λ e. sure_first s (InRegister n) never (register_or_zero m.base) _ (some_sure m.base n e))
      (λ e. sure_later s (InRegister n) never (register_or_zero m.base) _ (λ base. sure_first s (InRegister n) never (register_or_zero m.index) _ (some_sure m.index n e)))

  pub value_sure : (width : Width) (o : Option Operand) (n : ℕ) → has_register (places.value_of o) n ≡ true → Sure s (InRegister n) never (value_of width o)
  unfolding value_of value
  value_sure width None n has = sure_faults s (InRegister n) never
  value_sure width (Some (operand.Reg r)) n has =
      one_of r n has (λ e. subst (λ m. Sure s (InRegister m) never (register (reg_number r) (λ v. gives (low_part width v)))) e (register_sure s (reg_number r) never _))
  value_sure width (Some (operand.High r)) n has =
      one_of r n has (λ e. subst (λ m. Sure s (InRegister m) never (register (reg_number r) (λ v. gives (v / 256 % 256)))) e (register_sure s (reg_number r) never _))
  value_sure width (Some (operand.Imm k)) n has = absurd (false≢true has)
  value_sure width (Some (operand.Mem m)) n has = sure_first s (InRegister n) never (address m) _ (address_sure m n has)

  pub address_of_sure : (o : Option Operand) (n : ℕ) → has_register (places.value_of o) n ≡ true → Sure s (InRegister n) never (address_of o)
  unfolding address_of
  address_of_sure None n has = sure_faults s (InRegister n) never
  address_of_sure (Some (operand.Reg r)) n has = sure_faults s (InRegister n) never
  address_of_sure (Some (operand.High r)) n has = sure_faults s (InRegister n) never
  address_of_sure (Some (operand.Imm k)) n has = sure_faults s (InRegister n) never
  address_of_sure (Some (operand.Mem m)) n has = address_sure m n has

  -- what is stored takes over the rest of a register of which it is a part
  abbrev pub taken : ℕ → List Effect → Bool
  taken n es = effects_take es (InRegister n)

  unless_gs : (gs : Bool) (n : ℕ) (t : Reading (List Effect)) → Sure s (InRegister n) (taken n) t → Sure s (InRegister n) (taken n) (if gs then faults else t)
  unless_gs true n t sure = sure_faults s (InRegister n) (taken n)
  unless_gs false n t sure = sure

  pub store_sure : (width : Width) (o : Option Operand) (v n : ℕ) → has_register (places.place_of width o) n ≡ true → Sure s (InRegister n) (taken n) (store_to width o v)
  unfolding store_to store
  store_sure width None v n has = sure_faults s (InRegister n) (taken n)
  store_sure B8 (Some (operand.Reg r)) v n has = sure_gives s (InRegister n) (taken n) _ has
  store_sure W16 (Some (operand.Reg r)) v n has = sure_gives s (InRegister n) (taken n) _ has
  store_sure D32 (Some (operand.Reg r)) v n has = absurd (false≢true has)
  store_sure width (Some (operand.High r)) v n has = sure_gives s (InRegister n) (taken n) _ has
  store_sure width (Some (operand.Imm k)) v n has = sure_faults s (InRegister n) (taken n)
  store_sure width (Some (operand.Mem m)) v n has = unless_gs m.gs n _ (sure_first s (InRegister n) (taken n) (address m) _ (address_sure m n has))

  pub taken_front : (n : ℕ) (es fs : List Effect) → taken n es ≡ true → taken n (es ++ fs) ≡ true
  taken_front n [] fs e = absurd (false≢true e)
  taken_front n (x ∷ es) fs e = or_true (effect_takes x (InRegister n)) (taken n es) e (or_left _ _) (λ later. or_right _ _ (taken_front n es fs later))

  pub taken_back : (n : ℕ) (es fs : List Effect) → taken n fs ≡ true → taken n (es ++ fs) ≡ true
  taken_back n [] fs e = e
  taken_back n (x ∷ es) fs e = or_right _ _ (taken_back n es fs e)

  -- what an outcome takes over
  abbrev pub done_takes : Location → Outcome → Bool
  done_takes l done = effects_take done.effects l
