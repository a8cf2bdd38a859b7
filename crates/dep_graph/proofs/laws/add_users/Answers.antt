use Rattle.std.proofs.Common.{◌∙◌, refl}
use Rattle.dep_graph.proofs.WalkedLemmas.{IsUserAt, marks_below-none, marks_below-more, user-at, users-all}
use Rattle.dep_graph.proofs.laws.add_users.Goals as goal

pub loop-n-init : goal.loop-n-init
loop-n-init c = record { len = refl; marks = marks_below-none (IsUserAt c.args.nodes.now c.args.marks.now c.args.place) c.args.row.now }

pub loop-n-preserved : goal.loop-n-preserved
loop-n-preserved c = record {
  len = c.set_if.ensures.len ∙ c.loop-n.invariant.len;
  marks = marks_below-more (IsUserAt c.args.nodes.now c.args.marks.now c.args.place) c.args.row.now c.loop-n.row c.set_if.new.row c.loop-n.n c.is_user-is_listed.result c.loop-n.invariant.len
      (user-at c.args.nodes.now c.args.marks.now c.args.place c.loop-n.n c.index-nodes-n.result c.is_user-is_listed.result c.loop-n-test.true c.index-nodes-n.is c.is_user-is_listed.ensures)
      c.set_if.ensures.marks c.loop-n.invariant.marks;
}

pub returns-clause-marks : goal.returns-clause-marks
returns-clause-marks c = users-all c.args.nodes.now c.args.marks.now c.args.row.now c.loop-n.row c.args.place c.loop-n.n c.loop-n-test.false c.loop-n.invariant.marks
