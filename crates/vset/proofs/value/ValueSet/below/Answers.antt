use Rattle.std.proofs.Common.{sym, ◌∙◌}
use Rattle.vset.proofs.BelowLemmas.{below_has}
use Rattle.vset.proofs.value.ValueSet.below.Goals as goal

pub returns-clause-sound : goal.returns-clause-sound
returns-clause-sound c = λ lane w n t m. below_has lane w n c.args.self.now c.args.other.now c.is_below.ensures.form (sym c.is_below.ensures.value ∙ t) m
