-- Of no block it becomes known how its base is aligned.
use Rattle.std.proofs.Common.{◌≡◌, ℕ, Bool, true, false, cond, not, ◌&&◌, List, [], ◌∷◌, ◌++◌, Option, Some, None, refl, sym, ◌∙◌, ap}
use Rattle.std.specs.Prelude.{filter}
use Rattle.std.proofs.lemmas.Bool.{cond_both}
use Rattle.std.proofs.lemmas.Option.{none-some}
use Rattle.image_map.specs.declared.region.RegionId.{RegionId}
use Rattle.image_map.specs.declared.region.RegionId.TheVariants.{Frame, OldFrame, Heap, OldHeap}
use Rattle.image_map.specs.Regions.{same_region}
use Rattle.abs_semantics.specs.declared.parts.Known.{Known}
use Rattle.abs_semantics.specs.States.{AbsState, known_of, has_region}
use Rattle.abs_semantics.specs.Joins.{agreed, joined_align, with_known, known_anew, joined_state}
use Rattle.abs_steps.specs.Calls.{with_only}
use Rattle.call_soundness.specs.Maps.{IsUnaligned}
use Rattle.call_soundness.proofs.CallLaws.{apart_from}
use Rattle.call_soundness.proofs.ListLaws.{put_known_value, only_other}

-- what is known only where it was known
none_of : (r : RegionId) (xs ys : List Known) → ((n : ℕ) → known_of r ys ≡ Some n → known_of r xs ≡ Some n) → known_of r xs ≡ None → known_of r ys ≡ None
none_of r xs ys back none = by (known_of r ys) refl
  where
    by : (o : Option ℕ) → known_of r ys ≡ o → o ≡ None
    by None e = refl
    by (Some n) e = absurd (none-some n (sym none ∙ back n e))

abbrev IsNoBlock : RegionId → Type 0
IsNoBlock r = (key : ℕ) → (r ≡ Heap key → ⊥) × (r ≡ OldHeap key → ⊥)

only_unaligned : (r : RegionId) → IsNoBlock r → (o : Option ℕ) (ks : List Known) → IsUnaligned ks → IsUnaligned (with_only r o ks)
only_unaligned r apart o ks none key = (
  none_of (Heap key) ks (with_only r o ks) (λ n e. only_other (Heap key) r o ks n (apart_from r (Heap key) (apart key).0) e) (none key).0,
  none_of (OldHeap key) ks (with_only r o ks) (λ n e. only_other (OldHeap key) r o ks n (apart_from r (OldHeap key) (apart key).1) e) (none key).1,
)

pub frame_unaligned : (p : ℕ) (o : Option ℕ) (ks : List Known) → IsUnaligned ks → IsUnaligned (with_only (Frame p) o ks)
frame_unaligned p = only_unaligned (Frame p) (λ key. (λ e. cc, λ e. cc))

pub old_frame_unaligned : (p : ℕ) (o : Option ℕ) (ks : List Known) → IsUnaligned ks → IsUnaligned (with_only (OldFrame p) o ks)
old_frame_unaligned p = only_unaligned (OldFrame p) (λ key. (λ e. cc, λ e. cc))

-- -- Some of what is known

left_none : (r : RegionId) (test : Known → Bool) (ks : List Known) → known_of r ks ≡ None → known_of r (filter test ks) ≡ None
left_none r test [] none = none
left_none r test (k ∷ ks) none = by (left_none r test ks) (same_region k.region r) refl (test k)
  where
    by : (known_of r ks ≡ None → known_of r (filter test ks) ≡ None) → (b : Bool) → same_region k.region r ≡ b → (t : Bool) → known_of r (cond t (k ∷ filter test ks) (filter test ks)) ≡ None
    by rest true e t = absurd (none-some k.number (sym none ∙ ap (λ s. cond s (Some k.number) (known_of r ks)) e))
    by rest false e true = ap (λ s. cond s (Some k.number) (known_of r (filter test ks))) e ∙ rest (sym (ap (λ s. cond s (Some k.number) (known_of r ks)) e) ∙ none)
    by rest false e false = rest (sym (ap (λ s. cond s (Some k.number) (known_of r ks)) e) ∙ none)

pub left_unaligned : (test : Known → Bool) (ks : List Known) → IsUnaligned ks → IsUnaligned (filter test ks)
left_unaligned test ks none key = (left_none (Heap key) test ks (none key).0, left_none (OldHeap key) test ks (none key).1)

-- -- What two states know

anew_none : (r : RegionId) (f : RegionId → Option ℕ) (ks : List Known) → f r ≡ None → known_of r (known_anew f ks) ≡ None
unfolding known_anew
anew_none r f [] none = refl
anew_none r f (k ∷ ks) none = by (anew_none r f ks none) (f k.region) refl
  where
    by : known_of r (known_anew f ks) ≡ None → (o : Option ℕ) → f k.region ≡ o → known_of r (with_known k.region o (known_anew f ks)) ≡ None
    by rest None e = rest
    by rest (Some n) e =
        put_known_value (λ o. o ≡ None) r (record { region = k.region; number = n }) (known_anew f ks) rest
        (λ same. absurd (none-some n (sym none ∙ ap f (sym same) ∙ e)))

module _ (a b : AbsState) where
  joined_none : (r : RegionId) → known_of r a.aligns ≡ None → known_of r b.aligns ≡ None → joined_align a b r ≡ None
  joined_none r first second =
      cond_both (has_region a r && not (has_region b r)) (known_of r a.aligns) (cond (has_region b r && not (has_region a r)) (known_of r b.aligns) (agreed (known_of r a.aligns) (known_of r b.aligns))) (λ (o : Option ℕ). o ≡ None) (λ _. first)
      (λ _. cond_both (has_region b r && not (has_region a r)) (known_of r b.aligns) (agreed (known_of r a.aligns) (known_of r b.aligns)) (λ (o : Option ℕ). o ≡ None) (λ _. second)
      (λ _. ap (λ o. agreed o (known_of r b.aligns)) first))

  pub joined_unaligned : IsUnaligned a.aligns → IsUnaligned b.aligns → IsUnaligned (joined_state a b).aligns
  joined_unaligned first second key = (
    anew_none (Heap key) (joined_align a b) (a.aligns ++ b.aligns) (joined_none (Heap key) (first key).0 (second key).0),
    anew_none (OldHeap key) (joined_align a b) (a.aligns ++ b.aligns) (joined_none (OldHeap key) (first key).1 (second key).1),
  )
