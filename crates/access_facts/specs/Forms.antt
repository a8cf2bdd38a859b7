-- The form that reaches have. The project's own.
use Rattle.std.specs.Prelude.{List, [], ◌∷◌}
use Rattle.vset.specs.Values.{AreCanonical}
use Rattle.access_facts.specs.declared.reach.Reach.{Reach}
use Rattle.access_facts.specs.declared.reach.Reach.TheVariants.{Anywhere, Within}

-- all intervals have the one form of their members
abbrev pub IsFormed : Reach → Type 0
IsFormed Anywhere = Unit {0}
IsFormed (Within len xs) = AreCanonical xs

abbrev pub AreFormed : List Reach → Type 0
AreFormed [] = Unit {0}
AreFormed (r ∷ rs) = IsFormed r × AreFormed rs
