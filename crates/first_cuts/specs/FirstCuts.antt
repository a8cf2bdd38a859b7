-- The cuts with which an analysis begins: those of `Global`, as the file and its code tell them. The project's own.
use Rattle.std.specs.Prelude.{ℕ, ◌+◌, ◌^◌, nat_le, nat_lt, ℤ, pos, int_lt, if◌then◌else◌, List, [], ◌∷◌, ◌++◌, length}
use Rattle.std.specs.List.{flat_map}
use Rattle.std.specs.Ordering.{int_eq}
use Rattle.image_map.specs.declared.image.Image.{Image}
use Rattle.image_map.specs.declared.image.Segment.{Segment}
use Rattle.image_map.specs.declared.region.RegionId.TheVariants.{Global}
use Rattle.image_map.specs.Whole.{end_of}
use Rattle.alocs.specs.declared.cells.CutList.{CutList}
use Rattle.first_cuts.specs.Constants.{constants}

-- -- What the file tells

abbrev pub ends_of : Segment → List ℤ
ends_of s = pos s.start ∷ pos (end_of s) ∷ []

-- each word of an image lies in a segment, which ends below 2^31
abbrev pub word_ends : ℕ → List ℤ
word_ends w = if nat_lt (w + 4) (2 ^ 31) then pos w ∷ pos (w + 4) ∷ [] else []

-- the start and the end of each segment, and then those of each relocated word
unfoldable pub file_cuts : Image → List ℤ
file_cuts image = flat_map ends_of image.segments ++ flat_map word_ends image.words

-- -- So many of them

-- an offset among rising ones, once
abbrev pub with_offset : ℤ → List ℤ → List ℤ
with_offset c [] = c ∷ []
with_offset c (x ∷ xs) = if int_eq x c then x ∷ xs else (if int_lt x c then x ∷ with_offset c xs else c ∷ x ∷ xs)

-- no more than 512 are taken
abbrev pub with_taken : List ℤ → ℤ → List ℤ
with_taken taken c = if nat_le 512 (length taken) then taken else with_offset c taken

-- one after the other, to others that rise
unfoldable pub taken_onto : List ℤ → List ℤ → List ℤ
taken_onto taken [] = taken
taken_onto taken (c ∷ cs) = taken_onto (with_taken taken c) cs

-- -- The lists

abbrev pub candidates : Image → List ℤ
candidates image = file_cuts image ++ constants image

-- the first 512 different cuts, rising
unfoldable pub first_cuts : Image → List ℤ
first_cuts image = taken_onto [] (candidates image)

-- the one list is of `Global`
abbrev pub first_lists : Image → List CutList
first_lists image = record { region = Global; cuts = first_cuts image } ∷ []
