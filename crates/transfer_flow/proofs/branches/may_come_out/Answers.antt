use Rattle.std.proofs.Common.{sym, ◌∙◌}
use Rattle.abs_state.proofs.ViewLemmas.{holds_told}
use Rattle.transfer_flow.proofs.branches.may_come_out.Goals as goal

pub returns : goal.returns
returns c = c.may_hold.ensures ∙ sym (holds_told c.args.cond c.args.a.now.flags c.args.holds)
