use Rattle.rounds.proofs.SizeLemmas.{few_nodes, few_warnings}
use Rattle.rounds.proofs.laws.rounds_are_small.Goals as goal

pub returns-clause-nodes : goal.returns-clause-nodes
returns-clause-nodes c = few_nodes

pub returns-clause-warnings : goal.returns-clause-warnings
returns-clause-warnings c = few_warnings
