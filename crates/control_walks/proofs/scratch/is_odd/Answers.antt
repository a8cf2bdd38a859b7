use Rattle.control_walks.proofs.FloodLemmas.{odd-bit}
use Rattle.control_walks.proofs.scratch.is_odd.Goals as goal

pub returns : goal.returns
returns c = odd-bit c.args.word
