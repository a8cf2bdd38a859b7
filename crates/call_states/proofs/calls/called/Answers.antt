use Rattle.std.proofs.Common.{◌+ℤ◌, pos, ◌∙◌, ap}
use Rattle.image_map.specs.declared.region.RegionId.TheVariants.{Frame}
use Rattle.abs_semantics.specs.States.{known_of}
use Rattle.abs_steps.specs.Calls.{cut_off, grown_old_if_live, entered, called}
use Rattle.abs_state.specs.Views.{seen}
use Rattle.call_states.proofs.calls.called.Goals as goal

pub returns : goal.returns
unfolding called
returns c =
    let k = c.args.call.now in
    let align = c.known_number-align.ensures ∙ ap (known_of (Frame k.caller)) c.as_slice.ensures in
    let cut = c.in_ok-cut_off.ensures ∙ ap (λ (x : _). cut_off k.caller (k.offset +ℤ pos 4) (seen x)) c.in_ok-out.ensures.cases in
    let grown = c.in_ok-grow_old_if_live.ensures ∙ ap (grown_old_if_live k.callee) cut in
    c.in_ok-enter.ensures ∙ (λ i. entered c.args.cells.now k.callee k.caller k.offset k.next (align i) (grown i))
