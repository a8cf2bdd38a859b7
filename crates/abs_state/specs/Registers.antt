-- Registers as a list. The project's own.
use Rattle.std.specs.Prelude.{ℕ, List, [], ◌∷◌, get_or}
use Rattle.vset.specs.declared.part.Both.{Both}
use Rattle.vset.specs.Values.{Values, Top}
use Rattle.vset.specs.Operations.{of_both}

-- registers by their numbers
abbrev pub register_in : List Values → ℕ → Values
register_in vs n = get_or vs n Top

-- registers of both
unfoldable pub registers_of : Both → List Values → List Values → List Values
registers_of both [] ys = []
registers_of both (x ∷ xs) [] = []
registers_of both (x ∷ xs) (y ∷ ys) = of_both both x y ∷ registers_of both xs ys
