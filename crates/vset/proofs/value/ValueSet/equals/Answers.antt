use Rattle.std.proofs.Common.{sym, ◌∙◌}
use Rattle.vset.proofs.SameLemmas.{same_values-equal, equal-same_values}
use Rattle.vset.proofs.value.ValueSet.equals.Goals as goal

pub returns-clause-exact : goal.returns-clause-exact
returns-clause-exact c = (
  (λ t. same_values-equal c.args.self.now c.args.other.now (sym c.is_same_set.ensures ∙ t)),
  (λ e. c.is_same_set.ensures ∙ equal-same_values c.args.self.now c.args.other.now e),
)
