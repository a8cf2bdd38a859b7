use Rattle.std.proofs.Common.{[], ◌∷◌}
use Rattle.std.specs.Prelude.{codes}
use Rattle.slicer.proofs.SliceLaws.{edges-nodes}
use Rattle.chops.specs.Chops.{IsForwardSlice}
use Rattle.round_answers.specs.Replies.{EdgeOf}
use Rattle.round_answers.proofs.TellLemmas.{list_told}
use Rattle.round_answers.proofs.lists.forward_text.Goals as goal

pub forward-requires-clause-nodes : goal.forward-requires-clause-nodes
forward-requires-clause-nodes c = edges-nodes c.args.round.now.graph.flow.nodes c.args.round.now.graph.edges.ordinary c.args.round.now.graph.edges.sp c.requires.edges

pub returns : goal.returns
returns c =
    list_told (λ text. text.items) c.args.round.now (codes "forward") (c.args.at ∷ []) c.addresses.result.now c.forward.new.s.addresses
    (IsForwardSlice (EdgeOf c.args.round.now c.args.skip_sp) c.args.round.now.graph.flow.nodes c.args.at)
    c.listed_text.result c.addresses.ensures c.forward.ensures.slice c.listed_text.ensures
