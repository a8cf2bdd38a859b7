use Rattle.std.proofs.Common.{◌≡◌, subst, sym, ◌∙◌, ap}
use Rattle.abs_semantics.specs.States.{AbsState}
use Rattle.abs_steps.specs.Effects.{all_done}
use Rattle.abs_steps.specs.Accesses.{extern_writes}
use Rattle.abs_state.specs.Views.{seen}
use Rattle.transfer.specs.Views.{view_by}
use Rattle.transfer_flow.specs.Externs.{fills_of, left_by, IsOfBytes}
use Rattle.transfer_flow.specs.Successors.{view_at}
use Rattle.transfer_flow.proofs.ExternLemmas.{writes_bytes, row_told, filled_first}
use Rattle.transfer_flow.proofs.externs.acted.Goals as goal

pub fill-requires : goal.fill-requires
fill-requires c = subst IsOfBytes (sym (c.as_slice.ensures.value ∙ c.in_ok-written.ensures)) (writes_bytes (view_by c.view.result) c.args.kind.now)

pub returns : goal.returns
returns c =
    let site = c.args.site.now in
    let k = c.args.kind.now in
    let d = site.program.now.cells.now in
    let image = site.program.now.image.now in
    let p = site.node.now.context.proc in
    let a : AbsState = seen site.state.now in
    let written : c.as_slice.result.now ≡ extern_writes (view_at site) k = c.as_slice.ensures.value ∙ c.in_ok-written.ensures ∙ ap (λ v. extern_writes v k) c.view.ensures in
    let filled : seen c.fill.new.a ≡ all_done d image p (fills_of (extern_writes (view_at site) k)) a =
    c.in_ok-fill.ensures
    ∙ (λ i. all_done (c.memory.ensures.cells i) (c.memory.ensures.image i) (c.memory.ensures.procedure i) (fills_of (written i)) (seen (c.in_ok-out.ensures.cases i))) in
    c.leave_results.ensures d image p
    ∙ ap (all_done d image p (left_by k)) filled
    ∙ filled_first d image p (extern_writes (view_at site) k) (left_by k) a
    ∙ ap (λ es. all_done d image p es a) (row_told (view_at site) k)
