-- What the forms of a value-set mean.

use Rattle.std.specs.Prelude.{List, [], ◌∷◌, Vec, Option, Some, None}
use Rattle.std.specs.declared.alloc.Global.{Global}
use Rattle.vset.specs.declared.part.Part.{Part}
use Rattle.vset.specs.declared.value.Form.{Form}
use Rattle.vset.specs.declared.value.Form.TheVariants as form
use Rattle.vset.specs.Values.{Values, Top, Parts}

abbrev pub values_of : Form → Values
values_of form.Top = Top
values_of (form.One p) = Parts (p ∷ [])
values_of (form.Many v) = Parts v.items

-- the list of a vector of parts, where there is one
abbrev pub listed : Option (Vec Part Global) → Option (List Part)
listed None = None
listed (Some v) = Some v.items
