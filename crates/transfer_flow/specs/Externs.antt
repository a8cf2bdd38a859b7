-- What an extern leaves, as the code goes. The project's own.
use Rattle.std.specs.Prelude.{◌≤◌, Bool, true, false, if◌then◌else◌, List, [], ◌∷◌, IfSome}
use Rattle.image_map.specs.declared.region.Kind.{Kind}
use Rattle.image_map.specs.declared.region.Kind.TheVariants as kind
use Rattle.abs_semantics.specs.declared.parts.RangeValue.TheVariants as range
use Rattle.abs_steps.specs.declared.accesses.Access.{Access}
use Rattle.abs_steps.specs.Effects.{AbsEffect, fills}
use Rattle.abs_steps.specs.Externs.{result_effects}

-- the access, where there is one alone, leaves any bytes
abbrev pub fills_of : List Access → List AbsEffect
fills_of (x ∷ []) = fills x.addr x.len range.Any ∷ []
fills_of _ = []

-- it is one of a byte at least
abbrev pub IsOfBytes : List Access → Type 0
IsOfBytes (x ∷ []) = IfSome x.len (λ n. 1 ≤ n)
IsOfBytes _ = Unit {0}

-- it may return
abbrev pub comes_back : Kind → Bool
comes_back kind.Stop = false
comes_back _ = true

abbrev pub gives_block : Kind → Bool
gives_block kind.Alloc = true
gives_block _ = false

-- what is left in registers and flags
abbrev pub left_by : Kind → List AbsEffect
left_by k = if comes_back k then result_effects else []
