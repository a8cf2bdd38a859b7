use Rattle.std.proofs.Common.{arith, ◌∙◌, ap}
use Rattle.std.specs.FinSet as sets
use Rattle.round_core.proofs.FlagLemmas.{flagged-set_false}
use Rattle.round_core.proofs.readers.Readers.remove.Goals as goal

pub returns : goal.returns
returns c = flagged-set_false c.self.inside.flags c.args.seat (omega (arith, c.requires, c.self.told)) ∙ ap (λ s. sets.remove s c.args.seat) c.self.view_is
