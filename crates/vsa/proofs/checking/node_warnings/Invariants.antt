use Rattle.std.proofs.Common.{◌≡◌, drop, []}
use Rattle.std.specs.List.{flat_map, fold}
use Rattle.vsa.specs.Views.{placed_with, states_with}
use Rattle.vsa.specs.Warned.{with_warning, warnings_at}
use Rattle.vsa.proofs.checking.node_warnings.Given as goal

abbrev pub invariant-loop-i : goal.invariant-loop-i
invariant-loop-i l =
    fold with_warning l.out.items (flat_map (warnings_at l.program.image.now l.program.settings.now (states_with l.program [])) (placed_with (drop l.i l.nodes) (drop l.i l.values)))
    ≡ fold with_warning [] (flat_map (warnings_at l.program.image.now l.program.settings.now (states_with l.program [])) (placed_with l.nodes l.values))
