-- The warnings of a round. The project's own.
use Rattle.std.specs.Prelude.{ℕ, List, length, map, codes}
use Rattle.abs_steps.specs.declared.warnings.WarnName.{WarnName}
use Rattle.abs_steps.specs.declared.warnings.WarnName.TheVariants as name
use Rattle.vsa.specs.declared.warning.Warning.{Warning}
use Rattle.requests.specs.Texts.{warnings_text}
use Rattle.rounds.specs.declared.round.Round.{Round}

abbrev pub name_text : WarnName → List ℕ
name_text name.Undecoded = codes "Undecoded"
name_text name.UnresolvedJump = codes "UnresolvedJump"
name_text name.UnknownWrite = codes "UnknownWrite"
name_text name.OutOfRegion = codes "OutOfRegion"
name_text name.HeapOverrun = codes "HeapOverrun"
name_text name.ReturnSlot = codes "ReturnSlot"
name_text name.StackLost = codes "StackLost"
name_text name.UnknownExtern = codes "UnknownExtern"
name_text name.Full = codes "Full"
name_text name.NotClosed = codes "NotClosed"

abbrev pub named : Warning → List ℕ × ℕ
named warning = (name_text warning.name, warning.at)

-- how many warnings a round has
abbrev pub warning_count : Round → ℕ
warning_count r = length r.warnings.items

-- the reply that lists the warnings of a round
abbrev pub warnings_reply : Round → List ℕ
warnings_reply r = warnings_text r.number r.lane (map named r.warnings.items)
