use Rattle.control_walks.proofs.FloodLemmas.{word-set}
use Rattle.control_walks.proofs.rows.with_bit.Goals as goal

pub returns : goal.returns
returns c = λ j. word-set c.args.is_set c.args.word c.args.k j c.if-not-is_set.false c.requires
