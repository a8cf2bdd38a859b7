-- Registers as functions of their numbers.
use Rattle.std.proofs.Common.{◌≡◌, ℕ, zero, suc, ◌+◌, [], ◌∷◌, ◌++◌, arith, ◌<◌, ◌==◌, Bool, true, false, cond, List, length, get_or, refl, sym, ◌∙◌, ap, ⊎_elim}
use Rattle.std.specs.Prelude.{slice_set, replicate}
use Rattle.std.proofs.lemmas.Bool.{cases_Bool, eqb-true, eq-eqb, cond-true, cond-false, true≢false}
use Rattle.std.proofs.lemmas.List.{get_or-set_other, ext_get_or}
use Rattle.std.proofs.lemmas.Grind.{get_or-set_at}
use Rattle.ia32_semantics.specs.Effects.{Part, Whole}
use Rattle.ia32_semantics.specs.State.{put}
use Rattle.vset.specs.Values.{Values, Top}
use Rattle.abs_semantics.specs.States.{AbsState as State}
use Rattle.abs_semantics.specs.Operands.{with_part_value, fact_without, with_register}
use Rattle.abs_state.specs.Registers.{register_in}

other_number : (n m : ℕ) → (n == m) ≡ false → m ≡ n → ⊥
other_number n m no' e = true≢false (sym (eq-eqb n m (sym e)) ∙ no')

pub register_put : (vs out : List Values) (n : ℕ) (v : Values) → out ≡ slice_set vs n v → n < length vs → register_in out ≡ put (register_in vs) n v
register_put vs out n v is lt = λ i m. (ap (λ (ws : List Values). register_in ws m) is ∙ point m) i
  where
    point : (m : ℕ) → register_in (slice_set vs n v) m ≡ put (register_in vs) n v m
    point m =
        ⊎_elim
        (λ same. get_or-set_at vs n m v Top (sym (eqb-true n m same)) lt ∙ sym (cond-true (n == m) v (register_in vs m) same))
        (λ other. get_or-set_other vs n m v Top (other_number n m other) ∙ sym (cond-false (n == m) v (register_in vs m) other))
        (cases_Bool (n == m))

-- eight values are told by their numbers
pub same_registers : (xs ys : List Values) → length xs ≡ 8 → length ys ≡ 8 → register_in xs ≡ register_in ys → xs ≡ ys
same_registers xs ys e f same = ext_get_or Top xs ys (e ∙ sym f) (λ i lt. ap (λ (g : ℕ → Values). g i) same)

-- a whole register that takes what a part makes of it
pub whole_is : (s : State) (part : Part) (n : ℕ) (v w : Values) → w ≡ with_part_value part (s.registers n) v → with_register s Whole n w ≡ with_register s part n v
unfolding with_part_value
whole_is s part n v w is = ap (λ (u : Values). record s { registers = put s.registers n u; fact = fact_without n s.fact }) is

-- one more register that may hold every value
pushed : (n : ℕ) → replicate n Top ++ Top ∷ [] ≡ replicate (n + 1) Top
pushed zero = refl
pushed (suc n) = let more : suc (n + 1) ≡ suc n + 1 = omega arith in ap (λ t. Top ∷ t) (pushed n) ∙ ap (λ k. replicate k Top) more

pub one_top_more : (n : ℕ) (vs next : List Values) (v : Values) → vs ≡ replicate n Top → v ≡ Top → next ≡ vs ++ v ∷ [] → next ≡ replicate (n + 1) Top
one_top_more n vs next v is top put = put ∙ (λ i. is i ++ top i ∷ []) ∙ pushed n
