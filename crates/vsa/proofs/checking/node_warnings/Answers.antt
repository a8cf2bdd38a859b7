use Rattle.std.proofs.Common.{◌<◌, [], length, arith}
use Rattle.vsa.specs.Views.{states_with}
use Rattle.vsa.specs.Warned.{warnings_at}
use Rattle.vsa.proofs.NoteLemmas.{nodes_step, nodes_end}
use Rattle.vsa.proofs.checking.node_warnings.Goals as goal

pub loop-i-preserved : goal.loop-i-preserved
loop-i-preserved c =
    let p = c.args.program.now in
    let lt : c.loop-i.i < length c.args.values.now = omega (arith, c.requires.as_many, c.loop-i-test.true) in
    nodes_step (warnings_at p.image.now p.settings.now (states_with p [])) c.args.nodes.now c.args.values.now c.loop-i.i c.index-nodes-i.result c.index-values-i.result c.loop-i.out.items _ _ c.loop-i-test.true lt c.index-nodes-i.is c.index-values-i.is c.in_ok-note_node.ensures c.loop-i.invariant

pub returns : goal.returns
returns c =
    let p = c.args.program.now in
    nodes_end (warnings_at p.image.now p.settings.now (states_with p [])) c.args.nodes.now c.args.values.now c.loop-i.i c.loop-i.out.items _ c.loop-i-test.false c.loop-i.invariant
