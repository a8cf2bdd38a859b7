use Rattle.std.proofs.Common.{sym, ◌∙◌}
use Rattle.access_facts.proofs.CoreLemmas.{cores_stopping, cores_returning}
use Rattle.access_facts.proofs.core_sets.extern_cores.Goals as goal

pub returns-then-stops : goal.returns-then-stops
returns-then-stops c = λ state. cores_stopping state c.args.kind.now c.no_cores.result (sym c.stops.ensures ∙ c.if-stops.true) c.no_cores.ensures

pub returns : goal.returns
returns c = λ state. cores_returning state c.args.kind.now c.returning_cores.result (sym c.stops.ensures ∙ c.if-stops.false) c.returning_cores.ensures
