use Rattle.std.proofs.Common.{◌≡◌, ◌≤◌, ◌+◌, length}
use Rattle.replay.specs.Texts.{missing}
use Rattle.replay.proofs.text.missing.Given as goal

abbrev pub invariant-addresses_left : goal.invariant-addresses_left
invariant-addresses_left l = record {
  counted : l.count + missing l.fn.slice l.rest ≡ missing l.fn.slice l.fn.addresses;
  few : l.count + length l.rest ≤ length l.fn.addresses;
}

abbrev pub decreases-addresses_left : goal.decreases-addresses_left
decreases-addresses_left l = length l.rest
