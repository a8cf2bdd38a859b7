-- One byte of the segments is replaced.
use Rattle.std.proofs.Common.{◌≡◌, ℕ, ◌+◌, ◌-◌, ◌<◌, Bool, true, false, cond, ◌||◌, if◌then◌else◌, Option, Some, None, List, [], ◌∷◌, length, refl, ap, sym, ◌∙◌, get_or}
use Rattle.std.specs.Prelude.{slice_set, ◌==◌}
use Rattle.std.specs.List.{list_any, position, position_from}
use Rattle.std.proofs.lemmas.Option.{none-some}
use Rattle.std.proofs.lemmas.Iterator.Adapters.{position_from-zero}
use Rattle.image_map.specs.declared.image.Segment.{Segment}
use Rattle.image_map.specs.Memory.{holds, byte_in}
use Rattle.image_map.proofs.SegmentLaws.{segment_with, set_at_first}
use Rattle.item_list.proofs.TruthLaws.{eqb_swapped}
use Rattle.image_map.specs.Shapes.{shapes}
use Rattle.elf32.specs.Shapes.{in_shape}

-- with the byte in the first segment that holds the address, the memory is as before but for that byte
pub set_byte : (ss : List Segment) (i : ℕ) (d : Segment) (a b : ℕ) → i < length ss → holds a (get_or ss i d) ≡ true
    → ((k : ℕ) → k < i → holds a (get_or ss k d) ≡ false)
    → (x : ℕ) → byte_in (slice_set ss i (segment_with (get_or ss i d) a b)) x ≡ (if x == a then Some b else byte_in ss x)
set_byte ss i d a b lt here before x = set_at_first ss i d a b lt here before x ∙ ap (λ same. cond same (Some b) (byte_in ss x)) (eqb_swapped a x)

-- an address in a shape is in a segment
pub shape_held : (ss : List Segment) (a : ℕ) → list_any (in_shape a) (shapes ss) ≡ list_any (holds a) ss
shape_held [] a = refl
shape_held (s ∷ ss) a = ap (λ v. holds a s || v) (shape_held ss a)

none_go : (b l : Bool) (i : ℕ) (rest : Option ℕ) → (rest ≡ None → l ≡ false) → cond b (Some i) rest ≡ None → (b || l) ≡ false
none_go true l i rest h k = absurd (none-some i (sym k))
none_go false l i rest h k = h k

none_passes : {A : Type 0} (p : A → Bool) (i : ℕ) (xs : List A) → position_from p i xs ≡ None → list_any p xs ≡ false
none_passes p i [] h = refl
none_passes p i (x ∷ xs) h = none_go (p x) (list_any p xs) i (position_from p (i + 1) xs) (none_passes p (i + 1) xs) h

-- where a segment has an address there is a first one
pub not_none : (ss : List Segment) (a : ℕ) → list_any (in_shape a) (shapes ss) ≡ true → position (holds a) ss ≡ None → ⊥
not_none ss a h k =
    let e : list_any (holds a) ss ≡ false = none_passes (holds a) 0 ss (sym (position_from-zero (holds a) ss) ∙ k) in
    let t : true ≡ false = sym h ∙ (shape_held ss a ∙ e) in
    cc
