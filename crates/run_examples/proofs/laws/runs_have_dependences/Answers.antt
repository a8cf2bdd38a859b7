use Rattle.run_examples.proofs.ExampleLemmas.{has_dependences}
use Rattle.run_examples.proofs.StartLemmas.{example_is}
use Rattle.run_examples.proofs.laws.runs_have_dependences.Goals as goal

pub returns : goal.returns
returns c = record { is_image = example_is; dependences = has_dependences }
