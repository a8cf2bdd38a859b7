use Rattle.last_writers.proofs.CutLemmas.{behind_none}
use Rattle.last_writers.proofs.spans.behind.Goals as goal

pub returns-else-at-spans-clause-rest : goal.returns-else-at-spans-clause-rest
returns-else-at-spans-clause-rest c = behind_none c.args.at c.args.spans.now c.if-at-spans.false
