use Rattle.std.proofs.Common.{◌≡◌, ◌≤◌, take}
use Rattle.std.specs.Prelude.{map}
use Rattle.strided.specs.Operations.{count}
use Rattle.si_bits.specs.Concrete.{word}
use Rattle.abs_semantics.specs.Joins.{numbers_of}
use Rattle.abs_semantics.specs.Touching.{members}
use Rattle.abs_steps.specs.Places.{words_in}
use Rattle.transfer_flow.proofs.target_lists.put_words.Given as goal

abbrev pub invariant-members : goal.invariant-members
invariant-members l = (l.left ≤ count l.x) × (numbers_of (map word (take l.left (members l.x))) l.words.items ≡ numbers_of (words_in l.x) l.initial.words.items)

abbrev pub decreases-members : goal.decreases-members
decreases-members l = l.left
