use Rattle.std.proofs.Common.{◌≡◌, ◌∙◌, sym}
use Rattle.std.specs.Prelude.{map}
use Rattle.std.specs.List.{flat_map}
use Rattle.abs_state.specs.Views.{seen}
use Rattle.transfer_flow.specs.Successors.{placed_of, states_of, caller_by, if_near, by_link}
use Rattle.call_states.proofs.LoopLemmas.{flat_map_map}
use Rattle.transfer_flow.proofs.ReturnLemmas.{each_near}
use Rattle.transfer_flow.proofs.returning.returned_each.Goals as goal

pub returns : goal.returns
returns c =
    let n = c.args.site.now.node.now in
    let p = c.args.site.now.program.now in
    let s = states_of p c.args.others.now in
    let a = seen c.args.from.now in
    let links : c.as_slice-links.result.now ≡ a.links = c.as_slice-links.ensures in
    let near = if_near p.image.now p.settings.now s n in
    let told : map caller_by c.in_ok-found.found.items ≡ flat_map (near a.links) s.placed =
    c.in_ok-found.ensures ∙ (λ k. flat_map (λ o. near (links k) (placed_of o)) c.args.others.now) ∙ sym (flat_map_map (near a.links) placed_of c.args.others.now) in
    c.in_ok-placed.ensures
    ∙ (λ k. flat_map (by_link (map caller_by (c.as_slice.ensures.value k)) n.context.proc c.args.extra a) (links k))
    ∙ (λ k. flat_map (by_link (told k) n.context.proc c.args.extra a) a.links)
    ∙ each_near p.image.now p.settings.now s n c.args.extra a
