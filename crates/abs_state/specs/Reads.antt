-- What the code's results tell. The project's own.
use Rattle.std.specs.Prelude.{List, Option, Some, None, Vec}
use Rattle.std.specs.declared.alloc.Global.{Global}
use Rattle.abs_semantics.specs.Resolve.{Resolved}
use Rattle.abs_resolve.specs.declared.search.Places.{Places}

abbrev pub items_of : {A : Type 0} → Option (Vec A Global) → Option (List A)
items_of None = None
items_of (Some v) = Some v.items

abbrev pub told_by : Places → Resolved
told_by p = record { entries = p.entries.items; reasons = p.reasons.items }
