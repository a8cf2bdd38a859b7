use Rattle.std.proofs.Common.{◌≡◌, ℕ, ◌<◌, ◌≤◌, None, length, get_or}
use Rattle.round_slots.specs.Ends.{EndsAt}
use Rattle.round_slots.proofs.store.Store.close.Given as goal

abbrev pub invariant-loop-lane : goal.invariant-loop-lane
invariant-loop-lane g l =
    (length l.fronts ≡ 4)
    × ((k : ℕ) → k < l.lane → EndsAt g.T.Numbered.possible l.fn.self.words.shared.key (λ seat. seat.place) l.fn.seats.items k (get_or l.fronts k None))
    × ((k : ℕ) → l.lane ≤ k → get_or l.fronts k None ≡ None)
