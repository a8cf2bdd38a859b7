-- The kinds of settings.
use Rattle.std.proofs.Common.{⊎_elim, ℕ, Option, sym, subst}
use Rattle.std.specs.Prelude.{slice_get, IfSome}
use Rattle.std.proofs.lemmas.Option.{slice_get_cases}
use Rattle.std.proofs.lemmas.List.Elements.{All-get_or}
use Rattle.image_map.specs.declared.region.Kind.{Kind}
use Rattle.image_map.specs.declared.region.Settings.{Settings}
use Rattle.image_map.specs.CallModel.{IsKind, AreSettings}

pub kind_there : (settings : Settings) (n k : ℕ) → AreSettings n settings → IfSome (slice_get settings.kinds k) IsKind
kind_there settings n k are =
    ⊎_elim
    (λ w. subst (λ (o : Option Kind). IfSome o IsKind) (sym w.2) (subst IsKind w.3 (All-get_or IsKind settings.kinds k w.0 w.1 are.kinds)))
    (λ w. subst (λ (o : Option Kind). IfSome o IsKind) (sym w.1) tt)
    (slice_get_cases settings.kinds k).1
