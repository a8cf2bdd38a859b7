use Rattle.std.proofs.Common.{arith}
use Rattle.round_slots.specs.Joins.{joined_lane}
use Rattle.round_slots.proofs.JoinLemmas.{joins_allowed, joined_merges, sits_joined}
use Rattle.round_slots.proofs.store.Store.join.Goals as goal

pub join_seat-requires : goal.join_seat-requires
join_seat-requires g c = let s = c.requires.sits in let t = c.requires.other_sits in let key = c.args.self.now.words.shared.key in let z = c.args.self.now.sized in (
  s.table,
  t.table,
  t.empty,
  omega (arith, z.0, z.4),
  joins_allowed g.T.Numbered.possible key joined_lane (joined_merges g.T.Numbered.possible key) _ _ _ _ s.view t.view s.is_view t.is_view,
)

pub returns-clause-sits : goal.returns-clause-sits
returns-clause-sits g c = let t = c.join_seat.ensures in sits_joined g.T.Numbered.possible _ _ _ _ _ c.requires.sits c.requires.other_sits t.0 t.2
