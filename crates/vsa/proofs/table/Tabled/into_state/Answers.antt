use Rattle.std.proofs.Common.{ap, sym, ◌∙◌}
use Rattle.vsa.specs.Tables.{state_of}
use Rattle.vsa.proofs.TableLemmas.{seen_again}
use Rattle.vsa.proofs.table.Tabled.into_state.Goals as goal

pub returns : goal.returns
returns c = sym (seen_again c.self.inside.state c.self.invariant) ∙ ap state_of c.self.view_is
