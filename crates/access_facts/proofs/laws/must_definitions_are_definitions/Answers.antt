use Rattle.access_facts.proofs.SetLaws.{must_is_may}
use Rattle.access_facts.proofs.laws.must_definitions_are_definitions.Goals as goal

pub returns : goal.returns
returns c = must_is_may
