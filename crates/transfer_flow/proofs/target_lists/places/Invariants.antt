use Rattle.std.proofs.Common.{◌≡◌, ◌++◌, ◌∷◌, [], cond, drop}
use Rattle.std.specs.List.{flat_map}
use Rattle.abs_steps.specs.Places.{is_place}
use Rattle.transfer_flow.proofs.target_lists.places.Given as goal

abbrev pub invariant-loop-at : goal.invariant-loop-at
invariant-loop-at l =
    l.out.items ++ flat_map (λ t. cond (is_place l.image t) (t ∷ []) []) (drop l.at l.targets) ≡ flat_map (λ t. cond (is_place l.image t) (t ∷ []) []) l.targets
