use Rattle.std.proofs.Common.{ap, rules}
use Rattle.round_slots.proofs.JoinLemmas.{adds_allowed}
use Rattle.round_slots.proofs.make.fresh_seats.Goals as goal

pub split_seat-other-requires : goal.split_seat-other-requires
split_seat-other-requires g c = let i = c.loop.invariant in let key = c.args.words.now.shared.key in
    (i.2.0, c.requires.some_word, adds_allowed g.T.Numbered.possible key _ _ _ (ap (λ m. m.0) i.2.1) (search rules))
