use Rattle.control_walks.proofs.SplitLemmas.{share-test}
use Rattle.control_walks.proofs.split.share.Goals as goal

pub returns : goal.returns
returns c = share-test c.args.a c.args.b c.ranges.a.fits
