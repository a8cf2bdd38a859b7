-- Names of warnings put behind others. The project's own.
use Rattle.std.specs.Prelude.{Bool, List, [], ◌∷◌, ◌++◌, if◌then◌else◌}
use Rattle.abs_steps.specs.declared.warnings.WarnName.{WarnName}
use Rattle.abs_steps.specs.declared.warnings.WarnName.TheVariants as name
use Rattle.abs_semantics.specs.declared.parts.Reason.TheVariants as reason
use Rattle.transfer_flow.specs.Written.{Met, with_reason}

-- a name, if it is wanted
abbrev pub only : Bool → WarnName → List WarnName
only wanted x = if wanted then x ∷ [] else []

-- the names of why places of writes may be others, behind some names
abbrev pub with_reasons : List WarnName → List Met → List WarnName
with_reasons names ms =
    names ++ only (with_reason reason.UnknownWrite ms) name.UnknownWrite ++ only (with_reason reason.OutOfRegion ms) name.OutOfRegion
    ++ only (with_reason reason.HeapOverrun ms) name.HeapOverrun
