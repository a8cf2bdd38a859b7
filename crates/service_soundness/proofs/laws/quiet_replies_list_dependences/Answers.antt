use Rattle.round_soundness.proofs.ArrowLaws.{round_lists}
use Rattle.slicer.proofs.SliceLaws.{slice-of_edges}
use Rattle.service_soundness.proofs.laws.quiet_replies_list_dependences.Goals as goal

pub returns : goal.returns
returns c = λ shop old new at skip_sp reply image settings s none listed run is_run.
    let r = s.pinned in
    let round = s.is_pinned.is_round in
    round_lists shop.image shop.settings r (record { image_is = image; settings_are = settings; round_is = round; none = none }) run is_run skip_sp at listed.addresses
    ((slice-of_edges r.graph.flow.nodes r.graph.edges.ordinary r.graph.edges.sp skip_sp at listed.addresses round.edges).1 listed.slice)
