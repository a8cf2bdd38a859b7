-- Returns go home, and states stay whole.
use Rattle.std.proofs.Common.{◌≡◌, ⊎_elim, suc, List, [], ◌∷◌, length, sym, ap, subst, ◌∙◌, arith}
use Rattle.image_map.specs.declared.region.Activation.{Activation}
use Rattle.ia32_semantics.specs.Machine.{Machine}
use Rattle.ia32_semantics.specs.Runs.{OccurrenceOf}
use Rattle.slice_soundness.specs.Maps.{Map}
use Rattle.slice_soundness.specs.Premises.{GoesOn, SlotsAreKept, Follows}
use Rattle.slice_soundness.specs.Laws.{StatesAreWhole, RunsKeepSlots, ReturnsHome}
use Rattle.slice_soundness.proofs.RunLemmas.{comes_at}

-- no list has one element more than itself
longer : (x : Activation) (xs : List Activation) → x ∷ xs ≡ xs → ⊥
longer x xs same = let e : suc (length xs) ≡ length xs = ap length same in absurd (omega arith)

longer_by_two : (x y : Activation) (xs : List Activation) → x ∷ y ∷ xs ≡ xs → ⊥
longer_by_two x y xs same = let e : suc (suc (length xs)) ≡ length xs = ap length same in absurd (omega arith)

first_of_list : Activation → List Activation → Activation
first_of_list d [] = d
first_of_list d (x ∷ xs) = x

pub same_first : (x y : Activation) (xs ys : List Activation) → x ∷ xs ≡ y ∷ ys → x ≡ y
unfolding first_of_list
same_first x y xs ys same = ap (first_of_list x) same

module _ (m : Machine) (v : Map) (f : Follows m v) where
  home_of : (o : OccurrenceOf m) → GoesOn m v o → (ending : Activation) (older : List Activation) → o.before.activations ≡ ending ∷ older → o.after.activations ≡ older → m.IsPlaceAfter ending.site o.after.eip
  home_of o g ending older were are =
      ⊎_elim
      (λ stays. absurd (longer ending older (sym were ∙ sym stays.same ∙ are)))
      (λ other.
      ⊎_elim
      (λ calls. absurd (longer_by_two calls.new ending older (ap (λ activations. calls.new ∷ activations) (sym were) ∙ sym calls.grown ∙ are)))
      (λ returns.
      subst (λ a. m.IsPlaceAfter a.site o.after.eip) (same_first returns.ending ending (returns.parent ∷ returns.older) older (sym returns.were ∙ were)) returns.place)
      other)
      (f.steps.row o g)

  pub returns_home : ReturnsHome m
  returns_home run is k o at not_last ending older were are = home_of o (record { comes = comes_at m v f run is k o at; not_last = not_last }) ending older were are

  pub states_are_whole : StatesAreWhole m v
  states_are_whole run is k o at =
      let comes = comes_at m v f run is k o at in
      (comes.ready.whole, λ not_last. f.steps.whole o (record { comes = comes; not_last = not_last }))

  pub runs_keep_slots : SlotsAreKept m v → RunsKeepSlots m
  runs_keep_slots kept run is k o at = kept o (comes_at m v f run is k o at)
