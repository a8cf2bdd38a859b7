use Rattle.std.proofs.Common.{ℕ, List, subst, sym}
use Rattle.std.specs.Prelude.{Bool, ◌↔◌}
use Rattle.flow_graph.specs.Walks.{IsOn}
use Rattle.dynamic_slices.specs.Slices.{IsToldToDepend, IsInSlice}
use Rattle.dynamic_slices.proofs.PlaceLemmas.{sliced}
use Rattle.dynamic_slices.proofs.slices.dynamic_slice.Goals as goal

pub returns : goal.returns
returns c =
    sliced (IsToldToDepend c.args.skip_sp c.args.steps.now) c.args.steps.now c.args.last c.deref.result.now c.in_ok-found.found.items c.listed.result.items
    (subst (λ (ms : List Bool). (n : ℕ) → IsOn ms n ↔ IsInSlice (IsToldToDepend c.args.skip_sp c.args.steps.now) c.args.last n) (sym c.deref.ensures.value) c.in_ok-marks.ensures)
    c.in_ok-found.ensures c.listed.ensures.rising c.listed.ensures.same
