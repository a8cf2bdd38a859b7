use Rattle.std.proofs.Common.{◌++◌, [], sym, ◌∙◌}
use Rattle.abs_steps.specs.Calls.{moved}
use Rattle.call_states.specs.Moving.{moved_value, put_each}
use Rattle.call_states.proofs.CellLemmas.{put_append, put_rebuilt}
use Rattle.call_states.proofs.moving.moved_cells.Goals as goal

pub returns : goal.returns
returns c =
    let es = c.args.cells.now in
    let m = c.args.change.now in
    let f = moved_value es m in
    let more = moved m.from m.to es in
    c.in_ok-put_all_taken.ensures
    ∙ (λ i. put_each f (moved m.from m.to (c.entries-2.ensures.value i)) (c.in_ok-put_listed.ensures i))
    ∙ (λ i. put_each f more (put_each f (c.entries.ensures.value i) (c.new-out.ensures i)))
    ∙ sym (put_append f es more [])
    ∙ put_rebuilt f (es ++ more)
