use Rattle.ia32_run.proofs.TraceLemmas as lemmas
use Rattle.ia32_run.proofs.laws.traces_are_runs.Goals as goal

pub returns : goal.returns
returns c = lemmas.traces_are_runs
