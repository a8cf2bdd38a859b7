use Rattle.std.proofs.Common.{◌≡◌, ◌++◌, length}
use Rattle.std.specs.List.{flat_map}
use Rattle.replay.specs.Texts.{verdict_line}
use Rattle.replay.proofs.text.push_verdicts.Given as goal

abbrev pub invariant-addresses_left : goal.invariant-addresses_left
invariant-addresses_left l = l.text.items ++ flat_map (verdict_line l.fn.slice) l.rest ≡ l.fn.text.items ++ flat_map (verdict_line l.fn.slice) l.fn.addresses

abbrev pub decreases-addresses_left : goal.decreases-addresses_left
decreases-addresses_left l = length l.rest
