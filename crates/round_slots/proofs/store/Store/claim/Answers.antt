use Rattle.std.proofs.Common.{rules}
use Rattle.round_slots.proofs.ClaimLemmas.{refused_at_exchange}
use Rattle.round_slots.proofs.store.Store.claim.Goals as goal

pub returns-in-Err-clause-refuses : goal.returns-in-Err-clause-refuses
returns-in-Err-clause-refuses g c = let h = c.unwrap_or.ensures in let m = c.in-Err.ensures.lost in
    refused_at_exchange g.T.Numbered.possible _ _ _ c.look-word.new.seat.place _ _ _ c.look-word.result c.in-Err.found _ c.requires.sits c.requires.lane c.look-word.ensures.loads (search rules) m.0 m.1 (search rules)
