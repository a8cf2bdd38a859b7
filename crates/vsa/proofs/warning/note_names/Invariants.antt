use Rattle.std.proofs.Common.{◌≡◌, drop, map}
use Rattle.std.specs.List.{fold}
use Rattle.vsa.specs.Warned.{with_warning, named_at}
use Rattle.vsa.proofs.warning.note_names.Given as goal

abbrev pub invariant-loop-i : goal.invariant-loop-i
invariant-loop-i l = fold with_warning l.ws.items (map (named_at l.at) (drop l.i l.names)) ≡ fold with_warning l.fn.ws.items (map (named_at l.at) l.names)
