use Rattle.std.proofs.Common.{arith}
use Rattle.requests.proofs.FilledLemmas.{filled_put}
use Rattle.requests.proofs.text.put.Goals as goal

pub returns-clause-text : goal.returns-clause-text
returns-clause-text c before text filled =
    filled_put before c.args.into.now c.args.piece.now _ c.args.at _ text c.requires (omega arith) c.copy_from_slice.ensures.after filled
