use Rattle.std.proofs.Common.{◌≡◌, ◌++◌, drop}
use Rattle.std.specs.List.{flat_map}
use Rattle.first_cuts.specs.FirstCuts.{word_ends}
use Rattle.first_cuts.proofs.cuts.push_words.Given as goal

abbrev pub invariant-loop-word : goal.invariant-loop-word
invariant-loop-word l = l.cuts.items ++ flat_map word_ends (drop l.word-index l.words) ≡ l.initial.cuts.items ++ flat_map word_ends l.words
