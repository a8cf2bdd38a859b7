use Rattle.std.proofs.Common.{ap, sym, ◌∙◌}
use Rattle.vsa.specs.Tables.{state_of}
use Rattle.vsa.proofs.TableLemmas.{seen_again}
use Rattle.vsa.proofs.table.Tabled.state.Goals as goal

pub returns-clause-state : goal.returns-clause-state
returns-clause-state c = sym (seen_again c.self.inside.state c.self.invariant) ∙ ap state_of c.self.view_is
