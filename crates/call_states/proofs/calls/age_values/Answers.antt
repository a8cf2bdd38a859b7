use Rattle.std.proofs.Common.{◌∙◌, ap}
use Rattle.image_map.specs.declared.region.RegionId.TheVariants.{Frame, OldFrame}
use Rattle.vset.specs.Operations.{age}
use Rattle.abs_semantics.specs.States.{AbsState}
use Rattle.abs_steps.specs.Calls.{with_cells, with_values}
use Rattle.abs_state.specs.Views.{seen}
use Rattle.call_states.specs.Moving.{taken_value}
use Rattle.call_states.specs.Lists.{taken_by_older}
use Rattle.call_states.proofs.LifeLemmas.{aged_cells}
use Rattle.call_states.proofs.calls.age_values.Goals as goal

pub returns : goal.returns
returns c =
    let t = c.args.callee in
    let s = seen c.args.a.now in
    let k = c.taken_by_older-taking.result in
    c.in_ok-move_cells.ensures
    ∙ ap (λ (x : AbsState). with_cells (OldFrame t) (Frame t) (taken_value x.cells (record { to = OldFrame t; from = Frame t; taking = k })) x) c.in_ok-rename.ensures
    ∙ aged_cells t (with_values (age (Frame t) (OldFrame t)) s) k (c.taken_by_older-taking.ensures ∙ ap (taken_by_older t) c.as_slice.ensures)
