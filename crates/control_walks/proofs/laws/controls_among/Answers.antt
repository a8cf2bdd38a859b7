use Rattle.control_walks.specs.Plain.{ControlsFrom}
use Rattle.control_walks.proofs.SplitLemmas.{none-more, none-all}
use Rattle.control_walks.proofs.laws.controls_among.Goals as goal

pub loop-x-preserved : goal.loop-x-preserved
loop-x-preserved c =
    none-more (ControlsFrom c.args.graph.now.nodes c.args.node c.args.next.now) c.args.next.now c.loop-x.x-index
    (λ some. let is = c.in_ok-controls_from.ensures.1 some in absurd (cc)) c.loop-x.invariant

pub returns : goal.returns
returns c = (
  λ never. absurd (cc),
  λ some. absurd (none-all (ControlsFrom c.args.graph.now.nodes c.args.node c.args.next.now) c.args.next.now c.loop-x.x-index c.loop-x-test.false c.loop-x.invariant some),
)
