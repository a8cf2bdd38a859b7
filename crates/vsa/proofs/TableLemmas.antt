-- States as tables and back.
use Rattle.std.proofs.Common.{◌≡◌, ℕ, zero, suc, Bool, true, false, cond, nat_lt, map, length, get_or, refl, sym, arith}
use Rattle.std.proofs.lemmas.Bool.{cond-false, le-ltb}
use Rattle.std.proofs.lemmas.List.{get_or_past}
use mathlib.Core.Path.{fun_ext}
use Rattle.abs_state.specs.declared.state.AbsState.{AbsState as Held}
use Rattle.abs_state.specs.Views.{seen}
use Rattle.vset.specs.Values.{Values, Top}
use Rattle.abs_semantics.specs.States.{AbsState}
use Rattle.abs_semantics.specs.Below.{register_numbers, flag_numbers}
use Rattle.vsa.specs.Tables.{table_of, state_of}

-- registers past the eighth may hold every value
pub register_again : (f : ℕ → Values) (n : ℕ) → ((k : ℕ) → f (suc (suc (suc (suc (suc (suc (suc (suc k)))))))) ≡ Top) → get_or (map f register_numbers) n Top ≡ f n
register_again f zero past = refl
register_again f (suc zero) past = refl
register_again f (suc (suc zero)) past = refl
register_again f (suc (suc (suc zero))) past = refl
register_again f (suc (suc (suc (suc zero)))) past = refl
register_again f (suc (suc (suc (suc (suc zero))))) past = refl
register_again f (suc (suc (suc (suc (suc (suc zero)))))) past = refl
register_again f (suc (suc (suc (suc (suc (suc (suc zero))))))) past = refl
register_again f (suc (suc (suc (suc (suc (suc (suc (suc k)))))))) past = sym (past k)

pub flag_again : (f : ℕ → Bool) (n : ℕ) → ((k : ℕ) → f (suc (suc (suc (suc (suc (suc k)))))) ≡ true) → get_or (map f flag_numbers) n true ≡ f n
flag_again f zero past = refl
flag_again f (suc zero) past = refl
flag_again f (suc (suc zero)) past = refl
flag_again f (suc (suc (suc zero))) past = refl
flag_again f (suc (suc (suc (suc zero)))) past = refl
flag_again f (suc (suc (suc (suc (suc zero))))) past = refl
flag_again f (suc (suc (suc (suc (suc (suc k)))))) past = sym (past k)

pub state_again : (a : AbsState) → ((k : ℕ) → a.registers (suc (suc (suc (suc (suc (suc (suc (suc k)))))))) ≡ Top) → ((k : ℕ) (t : Bool) → a.flags (suc (suc (suc (suc (suc (suc k)))))) t ≡ true)
    → state_of (table_of a) ≡ a
state_again a registers flags =
    let values : (λ n. get_or (map a.registers register_numbers) n Top) ≡ a.registers = fun_ext (λ n. register_again a.registers n registers) in
    let truths : (λ n t. get_or (cond t (map (λ k. a.flags k true) flag_numbers) (map (λ k. a.flags k false) flag_numbers)) n true) ≡ a.flags = fun_ext (λ n. fun_ext (λ t. by_truth n t)) in
    λ i. record a { registers = values i; flags = truths i }
  where
    by_truth : (n : ℕ) (t : Bool) → get_or (cond t (map (λ k. a.flags k true) flag_numbers) (map (λ k. a.flags k false) flag_numbers)) n true ≡ a.flags n t
    by_truth n true = flag_again (λ k. a.flags k true) n (λ k. flags k true)
    by_truth n false = flag_again (λ k. a.flags k false) n (λ k. flags k false)

-- what the code's states tell is within the tables
pub seen_again : (s : Held) → length s.registers ≡ 8 → state_of (table_of (seen s)) ≡ seen s
seen_again s eight =
    state_again (seen s) (λ k. get_or_past s.registers (suc (suc (suc (suc (suc (suc (suc (suc k)))))))) Top (omega arith)) (λ k t. cond-false (nat_lt (suc (suc (suc (suc (suc (suc k)))))) 6) _ true (le-ltb (suc (suc (suc (suc (suc (suc k)))))) 6 (omega arith)))
