use Rattle.first_cuts.proofs.TakingLemmas.{list_pushed}
use Rattle.first_cuts.proofs.cuts.first_lists.Goals as goal

pub returns : goal.returns
returns c = list_pushed c.args.image.now c.new-lists.result.items c.push.new.self.items c.from_vec.result c.in_ok-cuts.cuts.items c.new-lists.ensures.items c.in_ok-push.ensures.items c.from_vec.ensures c.in_ok-cuts.ensures
