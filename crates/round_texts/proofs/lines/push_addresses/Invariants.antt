use Rattle.std.proofs.Common.{◌≡◌, ◌++◌, length}
use Rattle.std.specs.List.{flat_map}
use Rattle.requests.specs.Texts.{address_line}
use Rattle.round_texts.proofs.lines.push_addresses.Given as goal

abbrev pub invariant-addresses_left : goal.invariant-addresses_left
invariant-addresses_left l = l.text.items ++ flat_map address_line l.rest ≡ l.fn.text.items ++ flat_map address_line l.fn.addresses

abbrev pub decreases-addresses_left : goal.decreases-addresses_left
decreases-addresses_left l = length l.rest
