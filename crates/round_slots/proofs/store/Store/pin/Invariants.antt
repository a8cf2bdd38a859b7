use Rattle.std.proofs.Common.{List}
use Rattle.round_core.specs.declared.word.Word.{Word}
use Rattle.round_slots.specs.View.{saw}
use Rattle.round_slots.specs.Seats.{Sits, Becomes, view_in}
use Rattle.round_slots.proofs.store.Store.pin.Given as goal

abbrev pub invariant-loop : goal.invariant-loop
invariant-loop g l = Sits g.T.Numbered.possible l.fn.self.words.shared.table_id l.fn.self.words.shared.key l.seat.place
    × ((ws : List Word) × Becomes l.fn.seat.place l.seat.place l.fn.lane (saw (view_in l.fn.seat.place l.fn.lane) ws))
