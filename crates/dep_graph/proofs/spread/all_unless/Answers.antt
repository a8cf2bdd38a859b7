use Rattle.std.proofs.Common.{refl}
use Rattle.flow_graph.proofs.BitLemmas.{IsBit-zero}
use Rattle.dep_graph.proofs.SpreadLemmas.{ones-bit}
use Rattle.dep_graph.proofs.spread.all_unless.Goals as goal

pub returns-then-is_none : goal.returns-then-is_none
returns-then-is_none c = λ k small. (λ is on. IsBit-zero k is, λ other. absurd (other c.if-is_none.true))

pub returns : goal.returns
returns c = λ k small. (λ is on. let off = c.if-is_none.false in absurd (cc), λ other. ones-bit 18446744073709551615 k refl small)
