use Rattle.std.proofs.Common.{[], sym, ◌∙◌, ap}
use Rattle.std.proofs.lemmas.Bool.{cond-true, cond-false}
use Rattle.abs_steps.specs.Externs.{block_key, answered}
use Rattle.abs_steps.specs.Successors.{is_at_slot, returned_each}
use Rattle.abs_state.specs.Views.{seen}
use Rattle.transfer_flow.specs.Successors.{all_placed, states_of, view_at}
use Rattle.transfer_flow.proofs.externs.answered_from.Goals as goal

pub returns-then-not-is_at_slot : goal.returns-then-not-is_at_slot
returns-then-not-is_at_slot c =
    let site = c.args.site.now in
    let p = site.program.now in
    let after = answered (view_at site) p.image.now (block_key p.lane site.node.now) c.args.kind.now in
    ap all_placed c.new.ensures.items
    ∙ sym (cond-false (is_at_slot site.node.now.context.proc (seen site.state.now)) (returned_each p.image.now p.settings.now (states_of p c.args.others.now) site.node.now 0 after) [] (sym c.is_at_slot.ensures ∙ c.if-not-is_at_slot.true))

pub returns : goal.returns
returns c =
    let site = c.args.site.now in
    let p = site.program.now in
    let each = returned_each p.image.now p.settings.now (states_of p c.args.others.now) site.node.now 0 in
    let after = answered (view_at site) p.image.now (block_key p.lane site.node.now) c.args.kind.now in
    c.in_ok-placed.ensures ∙ ap each c.in_ok-after.ensures
    ∙ sym (cond-true (is_at_slot site.node.now.context.proc (seen site.state.now)) (each after) [] (sym c.is_at_slot.ensures ∙ c.if-not-is_at_slot.false))
