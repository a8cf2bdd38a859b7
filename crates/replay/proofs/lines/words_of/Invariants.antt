use Rattle.std.proofs.Common.{length}
use Rattle.replay.proofs.LineLemmas.{Read}
use Rattle.replay.proofs.lines.words_of.Given as goal

abbrev pub invariant-words_left : goal.invariant-words_left
invariant-words_left l = Read l.fn.text l.rest l.words.items

abbrev pub decreases-words_left : goal.decreases-words_left
decreases-words_left l = length l.rest
