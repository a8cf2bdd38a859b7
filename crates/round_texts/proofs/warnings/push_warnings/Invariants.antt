use Rattle.std.proofs.Common.{◌≡◌, ◌++◌, length, map}
use Rattle.std.specs.List.{flat_map}
use Rattle.requests.specs.Texts.{warning_line}
use Rattle.round_texts.specs.Warnings.{named}
use Rattle.round_texts.proofs.warnings.push_warnings.Given as goal

abbrev pub invariant-warnings_left : goal.invariant-warnings_left
invariant-warnings_left l = l.text.items ++ flat_map warning_line (map named l.rest) ≡ l.fn.text.items ++ flat_map warning_line (map named l.fn.warnings)

abbrev pub decreases-warnings_left : goal.decreases-warnings_left
decreases-warnings_left l = length l.rest
