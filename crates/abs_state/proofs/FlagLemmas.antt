-- Flags of two sets, by number.
use Rattle.std.proofs.Common.{◌≡◌, ℕ, zero, suc, ◌<◌, ◌≤◌, ◌==◌, Bool, true, false, cond, not, ◌||◌, ◌&&◌, refl, sym, ◌∙◌, ap, arith}
use Rattle.std.specs.Prelude.{nat_lt}
use Rattle.std.proofs.lemmas.Bool.{le-ltb, ne_eqb}
use Rattle.ia32_types.specs.declared.Flag.{Flag}
use Rattle.ia32_types.specs.declared.Flag.TheVariants.{Cf, Pf, Zf, Sf, Of, Df}
use Rattle.ia32_types.specs.Numbers.{flag_of, is_same_flag}
use Rattle.ia32_types.specs.declared.sets.FlagSet.{FlagSet}
use Rattle.ia32_types.specs.Sets.{has_flag}
use Rattle.vset.specs.declared.facts.AbsFlags.{AbsFlags}
use Rattle.abs_steps.specs.Flags.{allows, with_five, any_five, with_direction}
use Rattle.abs_state.specs.Views.{flag_in}

-- -- Parts of sets

but : (h d : Bool) → (h && not d) ≡ cond d false h
but true true = refl
but true false = refl
but false true = refl
but false false = refl

alone : (h d : Bool) → (h && d) ≡ cond d h false
alone true true = refl
alone true false = refl
alone false true = refl
alone false false = refl

-- the five of a set, and DF of it
pub has_five : (r five f : FlagSet) → ((x : Flag) → has_flag five x ≡ not (is_same_flag x Df)) → ((x : Flag) → has_flag r x ≡ (has_flag f x && has_flag five x))
    → (x : Flag) → has_flag r x ≡ cond (is_same_flag x Df) false (has_flag f x)
has_five r five f are is x = is x ∙ ap (λ t. has_flag f x && t) (are x) ∙ but (has_flag f x) (is_same_flag x Df)

pub has_direction : (r df f : FlagSet) → ((x : Flag) → has_flag df x ≡ is_same_flag x Df) → ((x : Flag) → has_flag r x ≡ (has_flag f x && has_flag df x))
    → (x : Flag) → has_flag r x ≡ cond (is_same_flag x Df) (has_flag f x) false
has_direction r df f are is x = is x ∙ ap (λ t. has_flag f x && t) (are x) ∙ alone (has_flag f x) (is_same_flag x Df)

-- -- The five and DF

or_none : (t : Bool) → (t || false) ≡ t
or_none true = refl
or_none false = refl

either : (s u v : Bool) → (cond s false u || cond s v false) ≡ cond s v u
either true u v = refl
either false u v = or_none u

-- what the two tell of each flag
abbrev pub IsSplit : FlagSet → FlagSet → FlagSet → Type 0
IsSplit r f g = (x : Flag) → has_flag r x ≡ cond (is_same_flag x Df) (has_flag g x) (has_flag f x)

pub split : (r a b f g : FlagSet) → ((x : Flag) → has_flag r x ≡ (has_flag a x || has_flag b x)) → ((x : Flag) → has_flag a x ≡ cond (is_same_flag x Df) false (has_flag f x))
    → ((x : Flag) → has_flag b x ≡ cond (is_same_flag x Df) (has_flag g x) false) → IsSplit r f g
split r a b f g both first second x = both x ∙ (λ i. first x i || second x i) ∙ either (is_same_flag x Df) (has_flag f x) (has_flag g x)

beyond : (n m : ℕ) → m ≤ n → nat_lt n m ≡ false
beyond n m le = le-ltb n m le

split_number : (r f g : FlagSet) → IsSplit r f g → (n : ℕ) → cond (nat_lt n 6) (has_flag r (flag_of n)) true ≡ cond (nat_lt n 5) (has_flag f (flag_of n)) (cond (nat_lt n 6) (has_flag g (flag_of n)) true)
split_number r f g is zero = is Cf
split_number r f g is (suc zero) = is Pf
split_number r f g is (suc (suc zero)) = is Zf
split_number r f g is (suc (suc (suc zero))) = is Sf
split_number r f g is (suc (suc (suc (suc zero)))) = is Of
split_number r f g is (suc (suc (suc (suc (suc zero))))) = is Df
split_number r f g is (suc (suc (suc (suc (suc (suc n)))))) =
    let m = suc (suc (suc (suc (suc (suc n))))) in
    ap (λ t. cond t (has_flag r (flag_of m)) true) (beyond m 6 (omega arith))
    ∙ sym (λ i. cond (beyond m 5 (omega arith) i) (has_flag f (flag_of m)) (cond (beyond m 6 (omega arith) i) (has_flag g (flag_of m)) true))

pub five_are : (r f g : AbsFlags) → IsSplit r.zero f.zero g.zero → IsSplit r.one f.one g.one → flag_in r ≡ with_five f (flag_in g)
five_are r f g zeros ones = λ i n t. point n t i
  where
    point : (n : ℕ) (t : Bool) → flag_in r n t ≡ with_five f (flag_in g) n t
    point n true = split_number r.one f.one g.one ones n
    point n false = split_number r.zero f.zero g.zero zeros n

-- any of the five, and DF of a set
pub any_split : (r five b g : FlagSet) → ((x : Flag) → has_flag five x ≡ not (is_same_flag x Df)) → ((x : Flag) → has_flag r x ≡ (has_flag five x || has_flag b x)) → ((x : Flag) → has_flag b x ≡ cond (is_same_flag x Df) (has_flag g x) false)
    → (n : ℕ) → cond (nat_lt n 6) (has_flag r (flag_of n)) true ≡ cond (nat_lt n 5) true (cond (nat_lt n 6) (has_flag g (flag_of n)) true)
any_split r five b g are both second zero = both Cf ∙ ap (λ t. t || has_flag b Cf) (are Cf)
any_split r five b g are both second (suc zero) = both Pf ∙ ap (λ t. t || has_flag b Pf) (are Pf)
any_split r five b g are both second (suc (suc zero)) = both Zf ∙ ap (λ t. t || has_flag b Zf) (are Zf)
any_split r five b g are both second (suc (suc (suc zero))) = both Sf ∙ ap (λ t. t || has_flag b Sf) (are Sf)
any_split r five b g are both second (suc (suc (suc (suc zero)))) = both Of ∙ ap (λ t. t || has_flag b Of) (are Of)
any_split r five b g are both second (suc (suc (suc (suc (suc zero))))) = both Df ∙ ap (λ t. t || has_flag b Df) (are Df) ∙ second Df
any_split r five b g are both second (suc (suc (suc (suc (suc (suc n)))))) =
    let m = suc (suc (suc (suc (suc (suc n))))) in
    ap (λ t. cond t (has_flag r (flag_of m)) true) (beyond m 6 (omega arith))
    ∙ sym (λ i. cond (beyond m 5 (omega arith) i) true (cond (beyond m 6 (omega arith) i) (has_flag g (flag_of m)) true))

pub any_five_are : (r g : AbsFlags) (five b also c : FlagSet) → ((x : Flag) → has_flag five x ≡ not (is_same_flag x Df)) → ((x : Flag) → has_flag also x ≡ not (is_same_flag x Df))
    → ((x : Flag) → has_flag r.zero x ≡ (has_flag five x || has_flag b x)) → ((x : Flag) → has_flag b x ≡ cond (is_same_flag x Df) (has_flag g.zero x) false)
    → ((x : Flag) → has_flag r.one x ≡ (has_flag also x || has_flag c x)) → ((x : Flag) → has_flag c x ≡ cond (is_same_flag x Df) (has_flag g.one x) false) → flag_in r ≡ any_five (flag_in g)
any_five_are r g five b also c are also_are zeros zero-df ones one-df = λ i n t. point n t i
  where
    point : (n : ℕ) (t : Bool) → flag_in r n t ≡ any_five (flag_in g) n t
    point n true = any_split r.one also c g.one also_are ones one-df n
    point n false = any_split r.zero five b g.zero are zeros zero-df n

-- the five of a set, and DF that is known
pub known_split : (r a b f : FlagSet) (has : Bool) → ((x : Flag) → has_flag r x ≡ (has_flag a x || has_flag b x)) → ((x : Flag) → has_flag a x ≡ cond (is_same_flag x Df) false (has_flag f x))
    → ((x : Flag) → has_flag b x ≡ (is_same_flag x Df && has)) → (n : ℕ) → cond (nat_lt n 6) (has_flag r (flag_of n)) true ≡ cond (n == 5) has (cond (nat_lt n 6) (has_flag f (flag_of n)) true)
known_split r a b f has both first second n = cases n
  where
    told : (x : Flag) → is_same_flag x Df ≡ false → has_flag r x ≡ has_flag f x
    told x other = both x ∙ (λ i. first x i || second x i) ∙ (λ i. cond (other i) false (has_flag f x) || (other i && has)) ∙ or_none (has_flag f x)

    other : (m : ℕ) → 6 ≤ m → (m == 5) ≡ false
    other m le = ne_eqb m 5 (λ e. absurd (omega (arith, e)))

    cases : (n : ℕ) → cond (nat_lt n 6) (has_flag r (flag_of n)) true ≡ cond (n == 5) has (cond (nat_lt n 6) (has_flag f (flag_of n)) true)
    cases zero = told Cf refl
    cases (suc zero) = told Pf refl
    cases (suc (suc zero)) = told Zf refl
    cases (suc (suc (suc zero))) = told Sf refl
    cases (suc (suc (suc (suc zero)))) = told Of refl
    cases (suc (suc (suc (suc (suc zero))))) = both Df ∙ (λ i. first Df i || second Df i)
    cases (suc (suc (suc (suc (suc (suc n)))))) =
        let m = suc (suc (suc (suc (suc (suc n))))) in
        ap (λ t. cond t (has_flag r (flag_of m)) true) (beyond m 6 (omega arith))
        ∙ sym (λ i. cond (other m (omega arith) i) has (cond (beyond m 6 (omega arith) i) (has_flag f (flag_of m)) true))

pub direction_is : (r f : AbsFlags) (set : Bool) (a b c d : FlagSet) → ((x : Flag) → has_flag r.zero x ≡ (has_flag a x || has_flag b x)) → ((x : Flag) → has_flag a x ≡ cond (is_same_flag x Df) false (has_flag f.zero x))
    → ((x : Flag) → has_flag b x ≡ (is_same_flag x Df && not set)) → ((x : Flag) → has_flag r.one x ≡ (has_flag c x || has_flag d x)) → ((x : Flag) → has_flag c x ≡ cond (is_same_flag x Df) false (has_flag f.one x))
    → ((x : Flag) → has_flag d x ≡ (is_same_flag x Df && set)) → flag_in r ≡ with_direction set (flag_in f)
direction_is r f set a b c d zeros zero-five zero-df ones one-five one-df = λ i n t. point n t i
  where
    set_true : (s : Bool) → s ≡ cond s true (not true)
    set_true true = refl
    set_true false = refl

    set_false : (s : Bool) → not s ≡ cond s false (not false)
    set_false true = refl
    set_false false = refl

    point : (n : ℕ) (t : Bool) → flag_in r n t ≡ with_direction set (flag_in f) n t
    point n true = known_split r.one c d f.one set ones one-five one-df n ∙ ap (λ t. cond (n == 5) t (flag_in f n true)) (set_true set)
    point n false = known_split r.zero a b f.zero (not set) zeros zero-five zero-df n ∙ ap (λ t. cond (n == 5) t (flag_in f n false)) (set_false set)
