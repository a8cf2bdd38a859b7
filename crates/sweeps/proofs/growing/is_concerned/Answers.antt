use Rattle.std.proofs.Common.{sym}
use Rattle.sweeps.proofs.StepLemmas.{any_none}
use Rattle.sweeps.proofs.growing.is_concerned.Goals as goal

pub returns-then-not-looks_at_others : goal.returns-then-not-looks_at_others
returns-then-not-looks_at_others g c = sym (any_none _ c.args.places.now (c.looks_at_others.ensures c.if-not-looks_at_others.true))
