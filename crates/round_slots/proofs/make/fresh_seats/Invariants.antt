use Rattle.std.proofs.Common.{◌≡◌, ◌+◌, length}
use Rattle.std.specs.List.{All}
use Rattle.std.specs.Prelude.{false}
use Rattle.round_slots.specs.Ends.{IsFresh}
use Rattle.round_slots.proofs.make.fresh_seats.Given as goal

abbrev pub invariant-loop : goal.invariant-loop
invariant-loop g l =
    (length l.all.items + 1 ≡ l.counter)
    × All (λ seat. IsFresh l.fn.words.shared.table_id l.fn.words.shared.key seat.place × (seat.pinned ≡ false)) l.all.items
    × IsFresh l.fn.words.shared.table_id l.fn.words.shared.key l.place
