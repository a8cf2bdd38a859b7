use Rattle.flow_graph.proofs.BitLemmas.{IsBit-zero}
use Rattle.control_walks.proofs.rows.word_if.Goals as goal

pub returns-then-not-is_wished : goal.returns-then-not-is_wished
returns-then-not-is_wished c = λ k. (λ is. absurd (IsBit-zero k is), λ both. let wished = both.0 in absurd (cc))
