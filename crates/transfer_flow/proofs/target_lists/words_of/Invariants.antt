use Rattle.std.proofs.Common.{◌≡◌, [], length}
use Rattle.abs_state.specs.Puts.{folded}
use Rattle.transfer_flow.proofs.TargetLemmas.{is_many, with_words}
use Rattle.transfer_flow.proofs.target_lists.words_of.Given as goal

abbrev pub invariant-loop-x : goal.invariant-loop-x
invariant-loop-x l = (folded with_words l.rest l.out.items ≡ folded with_words l.xs []) × (is_many l.rest ≡ is_many l.xs)

abbrev pub decreases-loop-x : goal.decreases-loop-x
decreases-loop-x l = length l.rest
