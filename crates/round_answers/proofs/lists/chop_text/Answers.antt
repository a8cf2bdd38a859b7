use Rattle.std.proofs.Common.{[], ◌∷◌}
use Rattle.std.specs.Prelude.{codes}
use Rattle.slicer.proofs.SliceLaws.{edges-nodes}
use Rattle.chops.specs.Chops.{IsChop}
use Rattle.round_answers.specs.Replies.{EdgeOf}
use Rattle.round_answers.proofs.TellLemmas.{list_told}
use Rattle.round_answers.proofs.lists.chop_text.Goals as goal

pub chop-requires-clause-nodes : goal.chop-requires-clause-nodes
chop-requires-clause-nodes c = edges-nodes c.args.round.now.graph.flow.nodes c.args.round.now.graph.edges.ordinary c.args.round.now.graph.edges.sp c.requires.edges

pub returns : goal.returns
returns c =
    list_told (λ text. text.items) c.args.round.now (codes "chop") (c.args.from ∷ c.args.at ∷ []) c.addresses.result.now c.chop.new.s.addresses
    (IsChop (EdgeOf c.args.round.now c.args.skip_sp) c.args.round.now.graph.flow.nodes c.args.from c.args.at)
    c.listed_text.result c.addresses.ensures c.chop.ensures.chop c.listed_text.ensures
