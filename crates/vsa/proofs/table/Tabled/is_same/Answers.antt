use Rattle.abs_state.specs.Views.{seen}
use Rattle.vsa.proofs.SameLemmas.{same_told}
use Rattle.vsa.proofs.table.Tabled.is_same.Goals as goal

pub returns : goal.returns
returns c =
    same_told c.equals.result (seen c.state.result.now) (seen c.state-2.result.now) c.args.self.now c.args.other.now c.state.ensures.table c.state.ensures.state c.state-2.ensures.table c.state-2.ensures.state c.equals.ensures
