-- When a round is the last one.
use Rattle.std.proofs.Common.{◌≡◌, ◌≢◌, ◌↔◌, ◌⊎◌, inl, inr, ⊎_elim, ℕ, Bool, true, List, refl, sym, subst, ◌∙◌}
use Rattle.std.specs.Prelude.{IsTrue}
use Rattle.std.specs.Ordering.{int_eq}
use Rattle.std.specs.Cmp.Lexicographic.{pointwise}
use Rattle.std.specs.Cmp.Rules.{signed_items}
use Rattle.std.proofs.lemmas.Bool.{and_parts, and_from}
use Rattle.image_map.specs.declared.image.Segment.{Segment}
use Rattle.image_map.specs.Regions.{same_region}
use Rattle.image_map.proofs.OrderLaws.{same_region-equal, same_region-itself}
use Rattle.alocs.specs.declared.cells.CutList.{CutList}
use Rattle.asi_cuts.specs.declared.facts.Constraint.{Constraint}
use Rattle.asi_cuts.specs.Closed.{AreLeast, AreTooMany}
use Rattle.cell_map.specs.Lists.{same_lists}
use Rattle.cell_map.proofs.SameLemmas.{same_lists-equal, same_lists-itself}
use Rattle.rounds.specs.Same.{same_cuts}
use Rattle.rounds.proofs.OneLemmas.{one_least}

same_cuts-equal : (l m : CutList) → same_cuts l m ≡ true → l ≡ m
same_cuts-equal l m e =
    let both = and_parts (same_region l.region m.region) (pointwise int_eq l.cuts m.cuts) e in
    let region : l.region ≡ m.region = same_region-equal l.region m.region both.0 in
    let cuts : l.cuts ≡ m.cuts = (signed_items l.cuts m.cuts).0 both.1 in
    λ i. record { region = region i; cuts = cuts i }

same_cuts-itself : (l : CutList) → same_cuts l l ≡ true
same_cuts-itself l = and_from _ _ (same_region-itself l.region) ((signed_items l.cuts l.cuts).1 refl)

module _ (kept : List CutList) (facts : List Constraint) (segments : List Segment) where
  -- the least lists are known
  pub ends_same : (own next : List CutList) (is_same : Bool) → is_same ≡ same_lists same_cuts own next → AreLeast kept facts segments next × ¬ AreTooMany kept facts segments
      → IsTrue is_same ↔ (AreLeast kept facts segments own ⊎ AreTooMany kept facts segments)
  ends_same own next is_same e a = (
    λ t. inl (subst (λ (ls : List CutList). AreLeast kept facts segments ls) (sym (same_lists-equal same_cuts same_cuts-equal own next (sym e ∙ t))) a.0),
    λ h. ⊎_elim
        (λ (least : AreLeast kept facts segments own).
        let one : own ≡ next = one_least kept facts segments own next least a.0 in
        e ∙ subst (λ (ls : List CutList). same_lists same_cuts own ls ≡ true) one (same_lists-itself same_cuts same_cuts-itself own))
        (λ many. absurd (a.1 many))
        h,
  )

  pub ends_many : (own : List CutList) → AreTooMany kept facts segments → IsTrue true ↔ (AreLeast kept facts segments own ⊎ AreTooMany kept facts segments)
  ends_many own many = (λ t. inr many, λ h. refl)

-- by what is left of the number of rounds
pub last_by_number : {P : Type 0} (m n : ℕ) → m ≡ n → IsTrue true ↔ ((m ≡ n) ⊎ P)
last_by_number m n e = (λ t. inl e, λ h. refl)

pub last_by_cuts : {P : Type 0} (m n : ℕ) (b : Bool) → m ≢ n → IsTrue b ↔ P → IsTrue b ↔ ((m ≡ n) ⊎ P)
last_by_cuts m n b other h = (λ t. inr (h.0 t), λ q. ⊎_elim (λ e. absurd (other e)) h.1 q)
