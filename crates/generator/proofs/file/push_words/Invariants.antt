use Rattle.std.proofs.Common.{◌≡◌, ◌++◌, length}
use Rattle.generator.specs.Files.{words}
use Rattle.generator.proofs.file.push_words.Given as goal

abbrev pub invariant-words_left : goal.invariant-words_left
invariant-words_left l = l.bytes.items ++ words l.rest ≡ l.fn.bytes.items ++ words l.fn.words

abbrev pub decreases-words_left : goal.decreases-words_left
decreases-words_left l = length l.rest
