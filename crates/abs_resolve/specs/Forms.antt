-- What the code's verdicts and results mean.
use Rattle.std.specs.Prelude.{◌≡◌}
use Rattle.abs_semantics.specs.Resolve as resolve
use Rattle.abs_semantics.specs.Resolve.{Resolved}
use Rattle.abs_resolve.specs.declared.verdicts.Verdict.{Verdict}
use Rattle.abs_resolve.specs.declared.verdicts.Verdict.TheVariants.{Refuses, Stays, Follows}
use Rattle.abs_resolve.specs.declared.search.Places.{Places}

abbrev pub verdict_of : Verdict → resolve.Verdict
verdict_of (Refuses r) = resolve.Refuses r
verdict_of Stays = resolve.Stays
verdict_of (Follows as_well) = resolve.Follows as_well

-- these places and reasons are the ones that are told
abbrev pub AreTold : Places → Resolved → Type 0
AreTold p r = (p.entries.items ≡ r.entries) × (p.reasons.items ≡ r.reasons)
