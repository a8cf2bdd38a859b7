-- What the standard library's lemmas on options lack.
use Rattle.std.proofs.Common.{◌≡◌, refl, sym}
use Rattle.std.specs.Prelude.{Bool, true, false, cond, Option, Some, None, is_some}
use Rattle.std.specs.Option.{option_or, option_map_or}
use Rattle.std.proofs.lemmas.Bool.{false≢true}
use Rattle.std.proofs.lemmas.Option.{none-some}

-- where the first of two is none, neither is there
pub option_or_none : {A : Type 0} (x y : Option A) → option_or x y ≡ None → (x ≡ None) × (y ≡ None)
option_or_none None y none = (refl, none)
option_or_none (Some a) y none = absurd (none-some a (sym none))

-- what passes a test is there
pub some_passes : {A : Type 0} (o : Option A) (test : A → Bool) → option_map_or test o false ≡ true → is_some o ≡ true
some_passes None test passes = absurd (false≢true passes)
some_passes (Some x) test passes = refl

pub some_there : {A : Type 0} (o : Option A) → is_some o ≡ true → (x : A) × (o ≡ Some x)
some_there None is = absurd (false≢true is)
some_there (Some x) is = (x, refl)

-- what is given was not cut off
pub not_cut : {A : Type 0} (cut : Bool) (o : Option A) (x : A) → cond cut None o ≡ Some x → cut ≡ false
not_cut true o x is = absurd (none-some x is)
not_cut false o x is = refl
