use Rattle.std.proofs.Common.{arith, sym, ◌∙◌, ap, false}
use Rattle.std.specs.Prelude.{unwrap_or}
use Rattle.std.specs.FinSet as sets
use Rattle.round_core.proofs.FlagLemmas.{contains-flagged}
use Rattle.round_core.proofs.readers.Readers.contains.Goals as goal

pub returns : goal.returns
returns c =
    c.unwrap_or.ensures
    ∙ ap (λ o. unwrap_or o false) c.copied.ensures
    ∙ c.get.ensures.lookup.4 (omega arith) false
    ∙ sym (contains-flagged c.self.inside.flags c.args.seat)
    ∙ ap (λ s. sets.contains s c.args.seat) c.self.view_is
