use Rattle.std.proofs.Common.{ap, sym, ◌∙◌}
use Rattle.std.specs.Prelude.{option_to_list}
use Rattle.first_cuts.specs.Taking.{taken_from}
use Rattle.first_cuts.proofs.ScanLemmas.{nothing_taken}
use Rattle.first_cuts.proofs.constants.take_if_some.Goals as goal

pub returns-in-None : goal.returns-in-None
returns-in-None c = nothing_taken c.args.image.now c.args.taken.now.items ∙ ap (λ o. taken_from c.args.image.now c.args.taken.now.items (option_to_list o)) (sym c.in-None.is)
