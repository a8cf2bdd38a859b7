-- The example.
use Rattle.slice_soundness.proofs.laws.premises_can_be_met.Goals as goal
use Rattle.slice_soundness.proofs.ExampleCoverLemmas.{slots_are_kept, located}
use Rattle.slice_soundness.proofs.ExampleRunLemmas.{describes, lists_dependences, has_dependences}

pub returns-clause-described : goal.returns-clause-described
returns-clause-described c = describes

pub returns-clause-slots : goal.returns-clause-slots
returns-clause-slots c = slots_are_kept

pub returns-clause-listed : goal.returns-clause-listed
returns-clause-listed c = lists_dependences

pub returns-clause-depends : goal.returns-clause-depends
returns-clause-depends c = has_dependences

pub returns-clause-layout : goal.returns-clause-layout
returns-clause-layout c = located
