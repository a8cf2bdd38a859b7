use Rattle.std.proofs.Common.{rules}
use Rattle.std.proofs.lemmas.Fn.{filter_same}
use Rattle.abs_semantics.specs.Touching.{is_within}
use Rattle.abs_state.proofs.ranges.keep_within.Goals as goal

pub returns : goal.returns
returns c = filter_same _ (is_within c.args.len c.args.x.now) _ (λ x b q h. search rules) _ _ c.retain.ensures.filtered
