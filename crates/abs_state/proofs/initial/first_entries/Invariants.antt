use Rattle.std.proofs.Common.{◌≡◌, ◌++◌, true, drop}
use Rattle.image_map.specs.declared.region.Cell.{Cell}
use Rattle.abs_semantics.specs.Start.{first_value}
use Rattle.abs_state.specs.Writes.{news_of}
use Rattle.abs_state.proofs.initial.first_entries.Given as goal

abbrev pub invariant-loop-i : goal.invariant-loop-i
invariant-loop-i l = l.out.items ++ news_of (λ (c : Cell). true) (first_value l.image l.entry) (drop l.i l.found) ≡ news_of (λ (c : Cell). true) (first_value l.image l.entry) l.found
