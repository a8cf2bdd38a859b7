use Rattle.std.proofs.Common.{◌≡◌, ◌++◌, length, map}
use Rattle.std.specs.List.{flat_map}
use Rattle.requests.specs.Texts.{arrow_line}
use Rattle.round_answers.specs.Replies.{arrow_to}
use Rattle.round_answers.proofs.path.push_arrows.Given as goal

abbrev pub invariant-hops_left : goal.invariant-hops_left
invariant-hops_left l = l.text.items ++ flat_map arrow_line (map arrow_to l.rest) ≡ l.fn.text.items ++ flat_map arrow_line (map arrow_to l.fn.hops)

abbrev pub decreases-hops_left : goal.decreases-hops_left
decreases-hops_left l = length l.rest
