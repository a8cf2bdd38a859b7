-- What differs becomes everything, as the code has it.
use Rattle.std.proofs.Common.{◌≡◌, ℕ, zero, suc, ◌+◌, ◌<◌, ◌≤◌, Bool, true, false, cond, not, ◌||◌, ◌&&◌, List, [], ◌∷◌, ◌++◌, length, drop, get_or, refl, sym, ◌∙◌, ap, append_assoc, append-nil, arith}
use Rattle.std.specs.Prelude.{nat_lt}
use Rattle.std.proofs.lemmas.List.{drop_all}
use Rattle.ia32_types.specs.declared.Flag.{Flag}
use Rattle.ia32_types.specs.declared.Flag.TheVariants.{Cf, Pf, Zf, Sf, Of, Df}
use Rattle.ia32_types.specs.declared.sets.FlagSet.{FlagSet}
use Rattle.ia32_types.specs.Numbers.{flag_of, is_same_flag}
use Rattle.ia32_types.specs.Sets.{has_flag}
use Rattle.vset.specs.declared.facts.AbsFlags.{AbsFlags}
use Rattle.vset.specs.Values.{Values}
use Rattle.abs_semantics.specs.Joins.{same_flag}
use Rattle.cell_map.proofs.ListLemmas.{more}
use Rattle.abs_state.specs.Registers.{register_in}
use Rattle.abs_state.specs.Same.{same_flag_of}
use Rattle.abs_state.specs.Views.{flag_in}
use Rattle.sweeps.specs.Kept.{zip_with}
use Rattle.vsa.specs.Topped.{topped_value, is_flag_kept}

-- -- Two lists, element by element

module _ {A B C : Type 0} (f : A → B → C) (xs : List A) (ys : List B) (i : ℕ) where
  pub pairs_step : (x : A) (y : B) (v : C) (out next whole : List C) → i < length xs → i < length ys → x ≡ get_or xs i x → y ≡ get_or ys i y → v ≡ f x y → next ≡ out ++ v ∷ [] → out ++ zip_with f (drop i xs) (drop i ys) ≡ whole
      → next ++ zip_with f (drop (i + 1) xs) (drop (i + 1) ys) ≡ whole
  pairs_step x y v out next whole lx ly ix iy is put h =
      ap (λ t. t ++ zip_with f (drop (i + 1) xs) (drop (i + 1) ys)) put
      ∙ append_assoc out (v ∷ []) (zip_with f (drop (i + 1) xs) (drop (i + 1) ys))
      ∙ ap (λ w. out ++ (w ∷ zip_with f (drop (i + 1) xs) (drop (i + 1) ys))) is
      ∙ ap (λ t. out ++ zip_with f t (y ∷ drop (i + 1) ys)) (sym (more xs i x lx ix))
      ∙ ap (λ t. out ++ zip_with f (drop i xs) t) (sym (more ys i y ly iy))
      ∙ h

  pub pairs_end : (out whole : List C) → length xs ≤ i → out ++ zip_with f (drop i xs) (drop i ys) ≡ whole → out ≡ whole
  pairs_end out whole le h = sym (append-nil out) ∙ ap (λ t. out ++ zip_with f t (drop i ys)) (sym (drop_all i xs le)) ∙ h

pub pairs_length : {A B C : Type 0} (f : A → B → C) (xs : List A) (ys : List B) → length xs ≡ length ys → length (zip_with f xs ys) ≡ length xs
pairs_length f [] ys e = refl
pairs_length f (x ∷ xs) [] e = absurd (omega (arith, e))
pairs_length f (x ∷ xs) (y ∷ ys) e = ap suc (pairs_length f xs ys (omega arith))

-- -- Registers

register_topped : (xs ys : List Values) (n : ℕ) → length xs ≡ length ys → register_in (zip_with topped_value xs ys) n ≡ topped_value (register_in xs n) (register_in ys n)
register_topped [] [] n e = refl
register_topped [] (y ∷ ys) n e = absurd (omega (arith, e))
register_topped (x ∷ xs) [] n e = absurd (omega (arith, e))
register_topped (x ∷ xs) (y ∷ ys) zero e = refl
register_topped (x ∷ xs) (y ∷ ys) (suc n) e = register_topped xs ys n (omega arith)

pub registers_topped : (r xs ys : List Values) → r ≡ zip_with topped_value xs ys → length xs ≡ length ys → register_in r ≡ (λ n. topped_value (register_in xs n) (register_in ys n))
registers_topped r xs ys is e = λ i n. (ap (λ (t : List Values). register_in t n) is ∙ register_topped xs ys n e) i

-- -- Flags

or_false : (b : Bool) → (b || false) ≡ b
or_false true = refl
or_false false = refl

-- each flag is among those that differ where it differs
pub among_all : (keeps : Flag → Bool) (x : Flag)
    → ((is_same_flag x Cf && not (keeps Cf) || (is_same_flag x Pf && not (keeps Pf))) || ((is_same_flag x Zf && not (keeps Zf) || (is_same_flag x Sf && not (keeps Sf))) || (is_same_flag x Of && not (keeps Of) || (is_same_flag x Df && not (keeps Df))))) ≡ not (keeps x)
among_all keeps Cf = or_false _ ∙ or_false _
among_all keeps Pf = or_false _
among_all keeps Zf = or_false _ ∙ or_false _
among_all keeps Sf = or_false _
among_all keeps Of = or_false _
among_all keeps Df = refl

pub flags_topped : (r f g : AbsFlags) (changed : FlagSet) → ((x : Flag) → has_flag changed x ≡ not (is_flag_kept f g x)) → ((x : Flag) → has_flag r.zero x ≡ (has_flag g.zero x || has_flag changed x)) → ((x : Flag) → has_flag r.one x ≡ (has_flag g.one x || has_flag changed x))
    → flag_in r ≡ (λ n t. flag_in g n t || not (same_flag_of f g n))
flags_topped r f g changed differ zeros ones = λ i n t. point n t i
  where
    told : (s a z fo go fz gz : Bool) → a ≡ (z || not (same_flag fo go && same_flag fz gz)) → cond s a true ≡ (cond s z true || not (same_flag (cond s fo true) (cond s go true) && same_flag (cond s fz true) (cond s gz true)))
    told true a z fo go fz gz e = e
    told false a z fo go fz gz e = refl

    by : (s : Bool) (x : Flag) (t : Bool) → cond s (has_flag (cond t r.one r.zero) x) true ≡ (cond s (has_flag (cond t g.one g.zero) x) true || not (same_flag (cond s (has_flag f.one x) true) (cond s (has_flag g.one x) true) && same_flag (cond s (has_flag f.zero x) true) (cond s (has_flag g.zero x) true)))
    by s x true = told s (has_flag r.one x) (has_flag g.one x) (has_flag f.one x) (has_flag g.one x) (has_flag f.zero x) (has_flag g.zero x) (ones x ∙ ap (λ b. has_flag g.one x || b) (differ x))
    by s x false = told s (has_flag r.zero x) (has_flag g.zero x) (has_flag f.one x) (has_flag g.one x) (has_flag f.zero x) (has_flag g.zero x) (zeros x ∙ ap (λ b. has_flag g.zero x || b) (differ x))

    point : (n : ℕ) (t : Bool) → flag_in r n t ≡ (flag_in g n t || not (same_flag_of f g n))
    point n t = by (nat_lt n 6) (flag_of n) t
