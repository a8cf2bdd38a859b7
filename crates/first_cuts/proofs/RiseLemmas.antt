-- The cuts that are taken rise.
use Rattle.std.proofs.Common.{◌≡◌, ◌≤◌, suc, false, cond, List, [], ◌∷◌, length, ℤ, arith}
use Rattle.std.specs.Prelude.{nat_le, int_lt, ◌<ℤ◌}
use Rattle.std.specs.Ordering.{int_eq}
use Rattle.std.proofs.lemmas.Int.{ints}
use Rattle.std.proofs.lemmas.Bool.{cond_both, leb-false}
use Rattle.std.proofs.lemmas.Bool.Decides.{Decides-int_eq}
use Rattle.std.proofs.lemmas.List.Elements.{All-nil}
use Rattle.image_map.specs.declared.image.Image.{Image}
use Rattle.image_map.specs.declared.region.RegionId.TheVariants.{Global}
use Rattle.image_map.specs.Regions.{same_region}
use Rattle.alocs.specs.declared.cells.CutList.{CutList}
use Rattle.alocs.specs.Cells.{RiseAbove, AreRising, AreCutLists}
use Rattle.alocs.proofs.CellLemmas.{int_lt_true, int_lt_false}
use Rattle.first_cuts.specs.FirstCuts.{with_offset, with_taken, taken_onto, first_cuts, first_lists, candidates}

-- another offset stands above
other : (x c : ℤ) → int_eq x c ≡ false → int_lt x c ≡ false → c <ℤ x
other x c differs above =
    let le = int_lt_false x c above in
    let apart : x ≡ c → ⊥ = λ same. absurd (cc ((Decides-int_eq x c).1 same, differs)) in
    grind (arith, ints)

rise_put : (low c : ℤ) (xs : List ℤ) → low <ℤ c → RiseAbove low xs → RiseAbove low (with_offset c xs)
rise_put low c [] lt rise = (lt, tt)
rise_put low c (x ∷ xs) lt rise =
    cond_both (int_eq x c) (x ∷ xs) (cond (int_lt x c) (x ∷ with_offset c xs) (c ∷ x ∷ xs)) (RiseAbove low) (λ _. rise)
    (λ differs. cond_both (int_lt x c) (x ∷ with_offset c xs) (c ∷ x ∷ xs) (RiseAbove low)
    (λ below. (rise.0, rise_put x c xs (int_lt_true x c below) rise.1))
    (λ above. (lt, (other x c differs above, rise.1))))

put_rises : (c : ℤ) (xs : List ℤ) → AreRising xs → AreRising (with_offset c xs)
put_rises c [] rise = tt
put_rises c (x ∷ xs) rise =
    cond_both (int_eq x c) (x ∷ xs) (cond (int_lt x c) (x ∷ with_offset c xs) (c ∷ x ∷ xs)) AreRising (λ _. rise)
    (λ differs. cond_both (int_lt x c) (x ∷ with_offset c xs) (c ∷ x ∷ xs) AreRising
    (λ below. rise_put x c xs (int_lt_true x c below) rise)
    (λ above. (other x c differs above, rise)))

put_longer : (c : ℤ) (xs : List ℤ) → length (with_offset c xs) ≤ suc (length xs)
put_longer c [] = omega arith
put_longer c (x ∷ xs) =
    let rest = put_longer c xs in
    cond_both (int_eq x c) (x ∷ xs) (cond (int_lt x c) (x ∷ with_offset c xs) (c ∷ x ∷ xs)) (λ ys. length ys ≤ suc (suc (length xs))) (λ _. omega arith)
    (λ _. cond_both (int_lt x c) (x ∷ with_offset c xs) (c ∷ x ∷ xs) (λ ys. length ys ≤ suc (suc (length xs))) (λ _. omega arith) (λ _. omega arith))

-- rising, and few
record IsTaken (xs : List ℤ) : Type 0 where
  rise : AreRising xs
  few : length xs ≤ 512

one_taken : (xs : List ℤ) (c : ℤ) → IsTaken xs → IsTaken (with_taken xs c)
one_taken xs c h =
    cond_both (nat_le 512 (length xs)) xs (with_offset c xs) IsTaken (λ _. h)
    (λ room. record { rise = put_rises c xs h.rise; few = let longer = put_longer c xs in let less = leb-false 512 (length xs) room in omega arith })

all_taken : (xs cs : List ℤ) → IsTaken xs → IsTaken (taken_onto xs cs)
unfolding taken_onto
all_taken xs [] h = h
all_taken xs (c ∷ cs) h = all_taken (with_taken xs c) cs (one_taken xs c h)

first_taken : (image : Image) → IsTaken (first_cuts image)
unfolding first_cuts
first_taken image = all_taken [] (candidates image) (record { rise = tt; few = omega arith })

pub first_rise : (image : Image) → AreCutLists (first_lists image)
first_rise image = ((first_taken image).rise, All-nil (λ (l : CutList). same_region l.region Global ≡ false), tt)

pub first_few : (image : Image) → length (first_cuts image) ≤ 512
first_few image = (first_taken image).few
