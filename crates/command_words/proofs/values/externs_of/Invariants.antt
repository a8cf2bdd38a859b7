use Rattle.std.proofs.Common.{◌≡◌, ◌+◌, length}
use Rattle.std.specs.Option.{option_map_or}
use Rattle.command_words.specs.Values.{extern_kinds, externs, parts_left}
use Rattle.command_words.proofs.ExternLemmas.{joined}
use Rattle.command_words.proofs.values.externs_of.Given as goal

abbrev pub invariant-parts : goal.invariant-parts
invariant-parts l = joined l.kinds (extern_kinds (parts_left l.left)) ≡ externs l.fn.text

abbrev pub decreases-parts : goal.decreases-parts
decreases-parts l = option_map_or (λ text. length text.now + 1) l.left 0
