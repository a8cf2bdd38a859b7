-- What flags may be: as sets, after an operation, and whether a condition may hold and may fail. The rules are the project's own; the
-- numbers of conditions are those of the SDM, volume 1, appendix B.
use Rattle.std.specs.Prelude.{ℕ, ◌/◌, ◌%◌, ◌==◌, ◌&&◌, ◌||◌, not, nat_lt, Bool, true, false, if◌then◌else◌}
use Rattle.ia32_types.specs.Numbers.{flag_number, flag_of}
use Rattle.ia32_types.specs.Sets.{has_flag}
use Rattle.vset.specs.declared.facts.AbsFlags.{AbsFlags}
use Rattle.ia32_types.specs.Sets.{flag_set}

-- whether each flag, by its number, may be so
abbrev pub MayBe : Type 0
MayBe = ℕ → Bool → Bool

-- -- As sets

abbrev pub sets_of : MayBe → AbsFlags
sets_of may = record { zero = flag_set (λ f. may (flag_number f) false); one = flag_set (λ f. may (flag_number f) true) }

abbrev pub allows : AbsFlags → ℕ → Bool → Bool
allows f n value = has_flag (if value then f.one else f.zero) (flag_of n)

-- the five flags of arithmetic are as the sets say; DF stays
abbrev pub with_five : AbsFlags → MayBe → MayBe
with_five f may n value = if nat_lt n 5 then allows f n value else may n value

-- each of the five may be either
abbrev pub any_five : MayBe → MayBe
any_five may n value = if nat_lt n 5 then true else may n value

abbrev pub with_direction : Bool → MayBe → MayBe
with_direction set may n value = if n == 5 then (if set then value else not value) else may n value

-- -- Conditions

-- whether one of two tests may come out true, and whether both may come out false
abbrev pub either : (Bool → Bool) → (Bool → Bool) → Bool → Bool
either p q true = p true || q true
either p q false = p false && q false

-- whether two tests may differ, and whether they may agree
abbrev pub differ : (Bool → Bool) → (Bool → Bool) → Bool → Bool
differ p q true = (p true && q false) || (p false && q true)
differ p q false = (p true && q true) || (p false && q false)

-- SF differs from OF
abbrev pub is_less : MayBe → Bool → Bool
is_less may = differ (may 3) (may 4)

-- whether the condition of number 2n may come out so
unfoldable pub even_condition : ℕ → MayBe → Bool → Bool
even_condition n may holds =
    (if n == 0 then may 4 holds else
    (if n == 1 then may 0 holds else
    (if n == 2 then may 2 holds else
    (if n == 3 then either (may 0) (may 2) holds else
    (if n == 4 then may 3 holds else
    (if n == 5 then may 1 holds else
    (if n == 6 then is_less may holds else
    either (may 2) (is_less may) holds)))))))

-- whether a condition may come out so
unfoldable pub may_hold : ℕ → MayBe → Bool → Bool
may_hold condition may holds =
    if condition % 2 == 1 then even_condition (condition / 2) may (not holds) else even_condition (condition / 2) may holds

-- by whether something may be so and may not: what stands for a yes, for a no, or for neither of them being sure
abbrev pub decided : {A : Type 0} → Bool → Bool → A → A → A → A
decided may may_not sure never other = if may then (if may_not then other else sure) else (if may_not then never else other)
