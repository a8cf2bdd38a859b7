use Rattle.service.proofs.OpenLemmas.{Opened}
use Rattle.service.proofs.make.open.Given as goal

abbrev pub invariant-loop-sites : goal.invariant-loop-sites
invariant-loop-sites l = Opened l.image l.settings l.wanted l.sites l.rounds.items l.lanes
