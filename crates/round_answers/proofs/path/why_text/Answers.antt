use Rattle.slicer.proofs.SliceLaws.{edges-nodes}
use Rattle.round_answers.proofs.path.why_text.Goals as goal

pub why-requires : goal.why-requires
why-requires c = edges-nodes c.args.round.now.graph.flow.nodes c.args.round.now.graph.edges.ordinary c.args.round.now.graph.edges.sp c.requires.edges
