-- Where an offset is put among others, and what the code takes of numbers. The project's own.
use Rattle.std.specs.Prelude.{ℕ, ◌≡◌, ◌||◌, not, Bool, true, false, ℤ, int_lt, List, [], ◌∷◌}
use Rattle.std.specs.Ordering.{int_eq}
use Rattle.image_map.specs.declared.image.Image.{Image}
use Rattle.first_cuts.specs.Constants.{addresses}
use Rattle.first_cuts.specs.FirstCuts.{taken_onto}

-- an offset at the head of a list
abbrev pub begins_with : ℤ → List ℤ → Bool
begins_with c [] = false
begins_with c (x ∷ xs) = int_eq x c

-- A list's head is the offset, or doesn't stand below it: here the offset is put.
abbrev pub IsPlaceOf : ℤ → List ℤ → Type 0
IsPlaceOf c [] = Unit {0}
IsPlaceOf c (x ∷ xs) = (int_eq x c || not (int_lt x c)) ≡ true

-- the addresses among some numbers, taken one after the other
abbrev pub taken_from : Image → List ℤ → List ℕ → List ℤ
taken_from image taken ns = taken_onto taken (addresses image ns)
