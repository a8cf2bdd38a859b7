use Rattle.std.proofs.Common.{[], ◌∷◌}
use Rattle.std.specs.Prelude.{codes}
use Rattle.slicer.proofs.SliceLaws.{edges-nodes}
use Rattle.slicer.specs.Slicer.{IsSlice}
use Rattle.round_answers.specs.Replies.{EdgeOf}
use Rattle.round_answers.proofs.TellLemmas.{list_told}
use Rattle.round_answers.proofs.lists.slice_text.Goals as goal

pub backward-requires-clause-nodes : goal.backward-requires-clause-nodes
backward-requires-clause-nodes c = edges-nodes c.args.round.now.graph.flow.nodes c.args.round.now.graph.edges.ordinary c.args.round.now.graph.edges.sp c.requires.edges

pub returns : goal.returns
returns c =
    list_told (λ text. text.items) c.args.round.now (codes "slice") (c.args.at ∷ []) c.addresses.result.now c.backward.new.s.addresses
    (IsSlice (EdgeOf c.args.round.now c.args.skip_sp) c.args.round.now.graph.flow.nodes c.args.at)
    c.listed_text.result c.addresses.ensures.listed c.backward.ensures.slice c.listed_text.ensures
