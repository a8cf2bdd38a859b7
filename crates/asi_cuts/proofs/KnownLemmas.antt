-- Cuts in slots.
use Rattle.std.proofs.Common.{◌≡◌, ℕ, ◌<◌, ◌≤◌, ◌⊎◌, ⊎_elim, Bool, true, Some, List, length, get_or, sym, subst, ap, ◌∙◌}
use Rattle.std.specs.Prelude.{Contains, Option}
use Rattle.std.specs.declared.result.Result.TheVariants.{Ok}
use Rattle.asi_cuts.specs.declared.set.Cut.{Cut}
use Rattle.asi_cuts.specs.Adding.{Adds, AreKnown}
use Rattle.asi_cuts.specs.Closed.{same_cut}
use Rattle.asi_cuts.proofs.AddLemmas.{adds_none, kept_there}
use Rattle.asi_cuts.proofs.OrderLemmas.{same_cut-equal}

pub stands : (recent : List (Option Cut)) (slot : ℕ) (x cut : Cut) (o : Option Cut) (answer : Bool) → slot < length recent → ((d : Option Cut) → o ≡ get_or recent slot d) → o ≡ Some x → answer ≡ same_cut x cut → answer ≡ true → Contains recent (Some cut)
stands recent slot x cut o answer lt at is same told = (slot, lt, sym (at (Some cut)) ∙ (is ∙ ap (λ c. Some c) (same_cut-equal x cut (sym same ∙ told))))

pub known_there : (recent held : List (Option Cut)) (cuts now : List Cut) (cut : Cut) → held ≡ recent → cuts ≡ now → AreKnown recent cuts → length now ≤ 1024 → Contains held (Some cut) → Adds (λ x. x ≡ cut) now now (Ok tt)
known_there recent held cuts now cut same whose known few h =
    adds_none (λ x. x ≡ cut) now few (λ x e. subst (λ (y : Cut). Contains now y) (sym e) (subst (λ (l : List Cut). Contains l cut) whose (known cut (subst (λ (l : List (Option Cut)). Contains l (Some cut)) same h))))

pub known_still : (old new : List (Option Cut)) (cuts more : List Cut) (cut : Cut) → AreKnown old cuts → ((x : Cut) → Contains new (Some x) → Contains old (Some x) ⊎ (x ≡ cut)) → Adds (λ x. x ≡ cut) cuts more (Ok tt) → AreKnown new more
known_still old new cuts more cut known put a x h = ⊎_elim (λ k. kept_there (λ y. y ≡ cut) cuts more x a.0 (known x k)) (λ k. a.1 x k) (put x h)
