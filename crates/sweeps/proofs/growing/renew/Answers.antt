use Rattle.std.proofs.Common.{arith}
use Rattle.sweeps.specs.Kept.{renewed, kept_table}
use Rattle.sweeps.proofs.StepLemmas.{over_within}
use Rattle.sweeps.proofs.CodeLemmas.{renew_more}
use Rattle.sweeps.proofs.growing.renew.Goals as goal

pub renew_row-requires : goal.renew_row-requires
renew_row-requires g c = over_within (renewed (g.D.Domain.meaning c.args.domain.now) (kept_table c.args.kept.now.items)) c.args.kept.now.items c.loop-at.kept.items c.loop-at.at (omega (arith, c.loop-at-test.true, c.len-at-end.ensures, c.args.kept.now.ok.0)) c.loop-at.invariant

pub loop-at-preserved : goal.loop-at-preserved
loop-at-preserved g c = renew_more (g.D.Domain.meaning c.args.domain.now) c.args.kept.now.items c.loop-at.kept.items c.renew_row.new.kept.items c.loop-at.at (omega (arith, c.loop-at-test.true, c.len-at-end.ensures, c.args.kept.now.ok.0)) c.loop-at.invariant c.in_ok-renew_row.ensures
