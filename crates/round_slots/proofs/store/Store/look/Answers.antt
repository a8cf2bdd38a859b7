use Rattle.std.proofs.Common.{rules}
use Rattle.round_slots.proofs.StepLemmas.{look_allowed}
use Rattle.round_slots.proofs.SitLemmas.{after_look}
use Rattle.round_slots.proofs.store.Store.look.Goals as goal

pub load-requires : goal.load-requires
load-requires g c = let s = c.requires.sits in (search rules, search rules, look_allowed g.T.Numbered.possible _ _ _ _ s.view _ s.is_view c.requires.lane)

pub returns-clause-sits : goal.returns-clause-sits
returns-clause-sits g c = let t = c.load.ensures in
    (after_look g.T.Numbered.possible _ _ _ _ _ c.args.self.now.words.shared.table_id.slots _ _ c.requires.sits c.requires.lane t.0 t.1 t.2 c.unpack.ensures.word).0

pub returns-clause-loads : goal.returns-clause-loads
returns-clause-loads g c = let t = c.load.ensures in
    (after_look g.T.Numbered.possible _ _ _ _ _ c.args.self.now.words.shared.table_id.slots _ _ c.requires.sits c.requires.lane t.0 t.1 t.2 c.unpack.ensures.word).1
