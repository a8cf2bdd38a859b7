use Rattle.access_facts.proofs.SetLaws.{use_rises, def_rises, must_rises}
use Rattle.access_facts.proofs.laws.places_rise.Goals as goal

pub returns-clause-used : goal.returns-clause-used
returns-clause-used c = use_rises

pub returns-clause-defined : goal.returns-clause-defined
returns-clause-defined c = def_rises

pub returns-clause-always : goal.returns-clause-always
returns-clause-always c = must_rises
