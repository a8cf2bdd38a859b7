use Rattle.chops.proofs.AlongLemmas.{along_follows, along_grows}
use Rattle.chops.proofs.search.follow_edge.Goals as goal

pub returns-clause-grows : goal.returns-clause-grows
returns-clause-grows c =
    along_grows c.args.pairs.now c.args.place c.args.queue.now.size c.has-is_met.result c.args.queue.now.nodes c.mark_if.new.self.nodes c.requires.within c.has-is_met.ensures c.mark_if.ensures.adds

pub returns-clause-follows : goal.returns-clause-follows
returns-clause-follows c =
    along_follows c.args.pairs.now c.args.place c.args.queue.now.size c.has-is_met.result c.args.queue.now.nodes c.mark_if.new.self.nodes c.requires.within c.requires.room c.has-is_met.ensures c.mark_if.ensures.adds
