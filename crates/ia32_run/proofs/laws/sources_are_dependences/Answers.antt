use Rattle.ia32_run.proofs.DependenceLemmas as lemmas
use Rattle.ia32_run.proofs.laws.sources_are_dependences.Goals as goal

pub returns : goal.returns
returns c = lemmas.sources_are_dependences
