-- Offsets taken one after the other.
use Rattle.std.proofs.Common.{◌≡◌, ◌≤◌, ◌<◌, ℕ, ◌+◌, Bool, true, false, cond, not, ◌||◌, List, [], ◌∷◌, ◌++◌, length, drop, get_or, map, ℤ, pos, refl, sym, ◌∙◌, ap, append_assoc, append-nil}
use Rattle.std.specs.Prelude.{nat_le, int_lt}
use Rattle.std.specs.List.{flat_map, filter}
use Rattle.std.specs.Ordering.{int_eq}
use Rattle.std.proofs.lemmas.List.{drop_more, drop_all}
use Rattle.std.proofs.lemmas.Bool.{true≢false}
use Rattle.image_map.specs.declared.image.Image.{Image}
use Rattle.image_map.specs.Queries.{is_in_segment}
use Rattle.image_map.specs.declared.region.RegionId.TheVariants.{Global}
use Rattle.alocs.specs.declared.cells.CutList.{CutList}
use Rattle.image_map.specs.declared.image.Segment.{Segment}
use Rattle.image_map.specs.Whole.{end_of}
use Rattle.first_cuts.specs.Constants.{addresses, constants}
use Rattle.first_cuts.specs.FirstCuts.{with_offset, with_taken, taken_onto, ends_of, word_ends, file_cuts, candidates, first_cuts, first_lists}
use Rattle.first_cuts.specs.Taking.{IsPlaceOf, begins_with, taken_from}

-- -- Where an offset is put

pub passes : (c x : ℤ) (xs : List ℤ) → (int_eq x c || not (int_lt x c)) ≡ false → with_offset c (x ∷ xs) ≡ x ∷ with_offset c xs
passes c x xs is = by_tests (int_eq x c) (int_lt x c) is
  where
    by_tests : (s b : Bool) → (s || not b) ≡ false → cond s (x ∷ xs) (cond b (x ∷ with_offset c xs) (c ∷ x ∷ xs)) ≡ x ∷ with_offset c xs
    by_tests true b is = absurd (true≢false is)
    by_tests false true is = refl
    by_tests false false is = absurd (true≢false is)

pub put_there : (c : ℤ) (xs : List ℤ) → begins_with c xs ≡ true → with_offset c xs ≡ xs
put_there c [] is = absurd (true≢false (sym is))
put_there c (x ∷ xs) is = by_test (int_eq x c) is
  where
    by_test : (s : Bool) → s ≡ true → cond s (x ∷ xs) (cond (int_lt x c) (x ∷ with_offset c xs) (c ∷ x ∷ xs)) ≡ x ∷ xs
    by_test true is = refl
    by_test false is = absurd (true≢false (sym is))

pub put_first : (c : ℤ) (xs : List ℤ) → IsPlaceOf c xs → begins_with c xs ≡ false → with_offset c xs ≡ c ∷ xs
put_first c [] place isnt = refl
put_first c (x ∷ xs) place isnt = by_tests (int_eq x c) (int_lt x c) place isnt
  where
    by_tests : (s b : Bool) → (s || not b) ≡ true → s ≡ false → cond s (x ∷ xs) (cond b (x ∷ with_offset c xs) (c ∷ x ∷ xs)) ≡ c ∷ x ∷ xs
    by_tests true b place isnt = absurd (true≢false isnt)
    by_tests false true place isnt = absurd (true≢false (sym place))
    by_tests false false place isnt = refl

-- -- One after the other

pub taken_append : (taken xs ys : List ℤ) → taken_onto taken (xs ++ ys) ≡ taken_onto (taken_onto taken xs) ys
unfolding taken_onto
taken_append taken [] ys = refl
taken_append taken (x ∷ xs) ys = taken_append (with_taken taken x) xs ys

-- where enough are taken no more are
pub taken_full : (taken xs : List ℤ) → nat_le 512 (length taken) ≡ true → taken_onto taken xs ≡ taken
unfolding taken_onto
taken_full taken [] full = refl
taken_full taken (x ∷ xs) full = ap (λ t. taken_onto t xs) (ap (λ b. cond b taken (with_offset x taken)) full) ∙ taken_full taken xs full

addresses_append : (image : Image) (xs ys : List ℕ) → addresses image (xs ++ ys) ≡ addresses image xs ++ addresses image ys
addresses_append image [] ys = refl
addresses_append image (x ∷ xs) ys = by_test (is_in_segment image x) (addresses_append image xs ys)
  where
    by_test : (b : Bool) → addresses image (xs ++ ys) ≡ addresses image xs ++ addresses image ys
        → map pos (cond b (x ∷ filter (is_in_segment image) (xs ++ ys)) (filter (is_in_segment image) (xs ++ ys))) ≡ map pos (cond b (x ∷ filter (is_in_segment image) xs) (filter (is_in_segment image) xs)) ++ addresses image ys
    by_test true rest = ap (λ t. pos x ∷ t) rest
    by_test false rest = rest

pub from_append : (image : Image) (taken : List ℤ) (xs ys : List ℕ) → taken_from image taken (xs ++ ys) ≡ taken_from image (taken_from image taken xs) ys
from_append image taken xs ys = ap (taken_onto taken) (addresses_append image xs ys) ∙ taken_append taken (addresses image xs) (addresses image ys)

-- -- Lists that are gone through

pub item_scanned : {A : Type 0} (image : Image) (f : A → List ℕ) (xs : List A) (i : ℕ) (x : A) (out next whole : List ℤ) → i < length xs → x ≡ get_or xs i x → next ≡ taken_from image out (f x)
    → taken_from image out (flat_map f (drop i xs)) ≡ whole → taken_from image next (flat_map f (drop (i + 1) xs)) ≡ whole
item_scanned {A} image f xs i x out next whole lt is took e =
    let rest : List ℕ = flat_map f (drop (i + 1) xs) in
    ap (λ t. taken_from image t rest) (took ∙ ap (λ y. taken_from image out (f y)) is) ∙ sym (from_append image out (f (get_or xs i x)) rest) ∙ sym (ap (λ (ys : List A). taken_from image out (flat_map f ys)) (drop_more xs i x lt)) ∙ e

pub items_scanned : {A : Type 0} (image : Image) (f : A → List ℕ) (xs : List A) (i : ℕ) (out whole : List ℤ) → length xs ≤ i → taken_from image out (flat_map f (drop i xs)) ≡ whole → out ≡ whole
unfolding taken_onto
items_scanned {A} image f xs i out whole le e = sym (ap (λ (ys : List A). taken_from image out (flat_map f ys)) (drop_all i xs le)) ∙ e

-- -- Lists of ends

pub ends_pushed : {A : Type 0} (f : A → List ℤ) (xs : List A) (i : ℕ) (x : A) (out next whole : List ℤ) → i < length xs → x ≡ get_or xs i x → next ≡ out ++ f x
    → out ++ flat_map f (drop i xs) ≡ whole → next ++ flat_map f (drop (i + 1) xs) ≡ whole
ends_pushed {A} f xs i x out next whole lt is put e =
    let rest : List ℤ = flat_map f (drop (i + 1) xs) in
    ap (λ t. t ++ rest) (put ∙ ap (λ y. out ++ f y) is) ∙ append_assoc out (f (get_or xs i x)) rest ∙ sym (ap (λ (ys : List A). out ++ flat_map f ys) (drop_more xs i x lt)) ∙ e

pub segment_pushed : (s : Segment) (a b : ℤ) (out next : List ℤ) → a ≡ pos s.start → b ≡ pos (end_of s) → next ≡ out ++ a ∷ b ∷ [] → next ≡ out ++ ends_of s
segment_pushed s a b out next first last put = put ∙ ap (λ x. out ++ x ∷ b ∷ []) first ∙ ap (λ x. out ++ pos s.start ∷ x ∷ []) last

pub ends_all : {A : Type 0} (f : A → List ℤ) (xs : List A) (i : ℕ) (out whole : List ℤ) → length xs ≤ i → out ++ flat_map f (drop i xs) ≡ whole → out ≡ whole
ends_all {A} f xs i out whole le e = sym (append-nil out) ∙ sym (ap (λ (ys : List A). out ++ flat_map f ys) (drop_all i xs le)) ∙ e

pub offset_taken : (xs : List ℤ) (i : ℕ) (out next whole : List ℤ) → i < length xs → next ≡ with_taken out (get_or xs i (pos 0)) → taken_onto out (drop i xs) ≡ whole → taken_onto next (drop (i + 1) xs) ≡ whole
unfolding taken_onto
offset_taken xs i out next whole lt took e = ap (λ t. taken_onto t (drop (i + 1) xs)) took ∙ sym (ap (taken_onto out) (drop_more xs i (pos 0) lt)) ∙ e

pub offsets_taken : (xs : List ℤ) (i : ℕ) (out whole : List ℤ) → length xs ≤ i → taken_onto out (drop i xs) ≡ whole → out ≡ whole
unfolding taken_onto
offsets_taken xs i out whole le e = sym (ap (taken_onto out) (drop_all i xs le)) ∙ e

pub file_pushed : (image : Image) (segments : List Segment) (none first all : List ℤ) (ws : List ℕ) → segments ≡ image.segments → ws ≡ image.words → none ≡ [] → first ≡ none ++ flat_map ends_of segments
    → all ≡ first ++ flat_map word_ends ws → all ≡ file_cuts image
unfolding file_cuts
file_pushed image segments none first all ws is are empty put more =
    more ∙ ap (λ t. t ++ flat_map word_ends ws) (put ∙ ap (λ t. t ++ flat_map ends_of segments) empty ∙ ap (flat_map ends_of) is) ∙ ap (λ t. flat_map ends_of image.segments ++ flat_map word_ends t) are

pub first_taken : (image : Image) (told view none first all : List ℤ) → told ≡ file_cuts image → view ≡ told → none ≡ [] → first ≡ taken_onto none view → all ≡ taken_onto first (constants image) → all ≡ taken_onto [] (candidates image)
first_taken image told view none first all is seen empty took more =
    more ∙ ap (λ t. taken_onto t (constants image)) (took ∙ ap (λ t. taken_onto t view) empty ∙ ap (taken_onto []) (seen ∙ is)) ∙ sym (taken_append [] (file_cuts image) (constants image))

pub list_pushed : (image : Image) (none all : List CutList) (made cuts : List ℤ) → none ≡ [] → all ≡ none ++ record { region = Global; cuts = made } ∷ [] → made ≡ cuts → cuts ≡ taken_onto [] (candidates image) → all ≡ first_lists image
unfolding first_cuts
list_pushed image none all made cuts empty put is taken =
    put ∙ ap (λ t. t ++ record { region = Global; cuts = made } ∷ []) empty ∙ ap (λ c. record { region = Global; cuts = c } ∷ []) (is ∙ taken)
