use Rattle.std.proofs.Common.{arith}
use Rattle.std.proofs.lemmas.List.Edits.{map_over_more}
use Rattle.sweeps.specs.Kept.{made_stale}
use Rattle.sweeps.proofs.StepLemmas.{over_all}
use Rattle.sweeps.proofs.shrinking.make_stale.Goals as goal

pub loop-at-preserved : goal.loop-at-preserved
loop-at-preserved g c =
    map_over_more made_stale c.args.kept.now.items c.loop-at.kept.items c.loop-at.at c.index_mut.result.now (omega (arith, c.loop-at-test.true, c.len-at-end.ensures, c.args.kept.now.ok.0)) c.loop-at.invariant c.index_mut.ensures.value

pub returns : goal.returns
returns g c = over_all made_stale c.args.kept.now.items c.loop-at.kept.items c.loop-at.at (omega (arith, c.loop-at-test.false, c.len-at-end.ensures, c.args.kept.now.ok.0)) c.loop-at.invariant
