-- Segments: the byte at an address, by the first segment that has it, and once one byte is replaced.
use Rattle.std.proofs.Common.{◌≡◌, ◌≢◌, ℕ, zero, suc, ◌+◌, ◌-◌, ◌<◌, Bool, true, false, cond, ◌&&◌, nat_le, nat_lt, Option, Some, None, List, [], ◌∷◌, length, get_or, refl, ap, sym, ◌∙◌, arith}
use Rattle.std.specs.Prelude.{slice_get, slice_set, ◌==◌, is_some}
use Rattle.std.specs.List.{find}
use Rattle.std.specs.Option.{option_and_then}
use Rattle.std.proofs.lemmas.Bool.{cond_both, true≢false, and_parts, ltb-true, leb-true}
use Rattle.std.proofs.lemmas.Bool.Decides.{nat_tests}
use Rattle.std.proofs.lemmas.List.{length-set}
use Rattle.std.proofs.lemmas.Option.{none-some}
use Rattle.std.proofs.Math.Seq.{map-set_same}
use Rattle.image_map.specs.declared.image.Image.{Image}
use Rattle.image_map.specs.declared.image.Segment.{Segment}
use Rattle.image_map.specs.Memory.{holds, segment_at, byte_in}
use Rattle.image_map.specs.Queries.{byte_at, is_in_segment}
use Rattle.image_map.specs.Ranges.{is_any}
use Rattle.image_map.specs.Shapes.{shape, shapes}
use Rattle.image_map.specs.Whole.{IsPlaced, ArePlaced}

-- -- Where a byte is known

-- a known byte comes from a segment
from_segment : (any : Bool) (o : Option Segment) (f : Segment → Option ℕ) (byte : ℕ) → cond any None (option_and_then f o) ≡ Some byte → is_some o ≡ true
from_segment true o f byte e = absurd (none-some byte e)
from_segment false None f byte e = absurd (none-some byte e)
from_segment false (Some s) f byte e = refl

-- where a byte is known, an address is in a segment
pub known_there : (image : Image) (a byte : ℕ) → byte_at image a ≡ Some byte → is_in_segment image a ≡ true
known_there image a byte e = from_segment (is_any image.any_bytes a) (segment_at image.segments a) _ byte e

-- -- The first segment

-- an address of a segment has a place among its bytes
pub offset_within : (s : Segment) (a : ℕ) → holds a s ≡ true → a - s.start < length s.bytes
offset_within s a h = grind (arith, nat_tests)

head_go : (h : Bool) (s : Segment) (rest : Option Segment) (x : ℕ) → option_and_then (λ (t : Segment). slice_get t.bytes (x - t.start)) (cond h (Some s) rest) ≡ cond h (slice_get s.bytes (x - s.start)) (option_and_then (λ (t : Segment). slice_get t.bytes (x - t.start)) rest)
head_go true s rest x = refl
head_go false s rest x = refl

-- the memory of segments, by the first of them
pub head_in : (s : Segment) (ss : List Segment) (x : ℕ) → byte_in (s ∷ ss) x ≡ cond (holds x s) (slice_get s.bytes (x - s.start)) (byte_in ss x)
head_in s ss x = head_go (holds x s) s (find (holds x) ss) x

-- -- Where segments lie

held_below : (s : Segment) (a : ℕ) → IsPlaced s → holds a s ≡ true → a < 0x7FFFFFFF
held_below s a placed h =
    let both = and_parts (nat_le s.start a) (nat_lt (a - s.start) (length s.bytes)) h in
    let low = leb-true s.start a both.0 in
    let high = ltb-true (a - s.start) (length s.bytes) both.1 in
    let end = placed.high in
    omega arith

below_by_test : (s : Segment) (a : ℕ) (o : Option Segment) (b : Bool) → holds a s ≡ b → IsPlaced s → (is_some o ≡ true → a < 0x7FFFFFFF) → is_some (cond b (Some s) o) ≡ true → a < 0x7FFFFFFF
below_by_test s a o true e placed rest h = held_below s a placed e
below_by_test s a o false e placed rest h = rest h

-- an address of a segment lies below the end of images
pub segments_below : (segments : List Segment) (a : ℕ) → ArePlaced segments → is_some (segment_at segments a) ≡ true → a < 0x7FFFFFFF
segments_below [] a placed h = absurd (true≢false (sym h))
segments_below (s ∷ ss) a placed h = below_by_test s a (segment_at ss a) (holds a s) refl placed.0 (segments_below ss a placed.2) h

-- -- One byte is replaced

get-set_same : (xs : List ℕ) (i b : ℕ) → i < length xs → slice_get (slice_set xs i b) i ≡ Some b
get-set_same [] i b h = absurd (omega arith)
get-set_same (x ∷ xs) zero b h = refl
get-set_same (x ∷ xs) (suc i) b h = get-set_same xs i b (omega arith)

get-set_other : (xs : List ℕ) (i j b : ℕ) → j ≢ i → slice_get (slice_set xs i b) j ≡ slice_get xs j
get-set_other [] i j b h = refl
get-set_other (x ∷ xs) zero zero b h = absurd (h refl)
get-set_other (x ∷ xs) zero (suc j) b h = refl
get-set_other (x ∷ xs) (suc i) zero b h = refl
get-set_other (x ∷ xs) (suc i) (suc j) b h = get-set_other xs i j b (λ e. h (ap suc e))

-- the segment with a byte at an address
abbrev pub segment_with : Segment → ℕ → ℕ → Segment
segment_with s a b = record { start = s.start; bytes = slice_set s.bytes (a - s.start) b; flags = s.flags }

holds_still : (s : Segment) (a b x : ℕ) → holds x (segment_with s a b) ≡ holds x s
holds_still s a b x = ap (λ n. nat_le s.start x && nat_lt (x - s.start) n) (length-set s.bytes (a - s.start) b)

apart : (s : Segment) (a x : ℕ) → holds a s ≡ true → holds x s ≡ false → (a == x) ≡ false
apart s a x h k = grind (arith, nat_tests)

elsewhere : (s : Segment) (a x : ℕ) → holds a s ≡ false → holds x s ≡ true → (a == x) ≡ false
elsewhere s a x h k = grind (arith, nat_tests)

inside : (s : Segment) (a x : ℕ) → holds a s ≡ true → holds x s ≡ true → (a == x) ≡ false → (x - s.start) ≢ (a - s.start)
inside s a x h k n = grind (arith, nat_tests)

in_segment : (s : Segment) (a b x : ℕ) → holds a s ≡ true → holds x s ≡ true → slice_get (slice_set s.bytes (a - s.start) b) (x - s.start) ≡ cond (a == x) (Some b) (slice_get s.bytes (x - s.start))
in_segment s a b x h k =
    cond_both (a == x) (Some b) (slice_get s.bytes (x - s.start)) (λ v. slice_get (slice_set s.bytes (a - s.start) b) (x - s.start) ≡ v)
    (λ same. let e : x ≡ a = grind (arith, nat_tests) in rw e (get-set_same s.bytes (a - s.start) b (offset_within s a h)))
    (λ other. get-set_other s.bytes (a - s.start) (x - s.start) b (inside s a x h k other))

zero_go : (h e : Bool) (u v w sb : Option ℕ) → (h ≡ true → u ≡ cond e sb v) → (h ≡ false → e ≡ false) → cond h u w ≡ cond e sb (cond h v w)
zero_go true e u v w sb here there = here refl
zero_go false e u v w sb here there = rw (there refl) refl

suc_go : (h e : Bool) (v w after sb : Option ℕ) → (h ≡ true → e ≡ false) → after ≡ cond e sb w → cond h v after ≡ cond e sb (cond h v w)
suc_go true e v w after sb here so = rw (here refl) refl
suc_go false e v w after sb here so = so

-- with the byte in the first segment that holds the address, the memory is as before but for that byte
pub set_at_first : (ss : List Segment) (i : ℕ) (d : Segment) (a b : ℕ) → i < length ss → holds a (get_or ss i d) ≡ true
    → ((k : ℕ) → k < i → holds a (get_or ss k d) ≡ false)
    → (x : ℕ) → byte_in (slice_set ss i (segment_with (get_or ss i d) a b)) x ≡ cond (a == x) (Some b) (byte_in ss x)
set_at_first [] i d a b lt here before x = absurd (omega arith)
set_at_first (s ∷ ss) zero d a b lt here before x =
    head_in (segment_with s a b) ss x
    ∙ (ap (λ v. cond v (slice_get (slice_set s.bytes (a - s.start) b) (x - s.start)) (byte_in ss x)) (holds_still s a b x)
    ∙ (zero_go (holds x s) (a == x) (slice_get (slice_set s.bytes (a - s.start) b) (x - s.start)) (slice_get s.bytes (x - s.start)) (byte_in ss x) (Some b)
    (λ k. in_segment s a b x here k) (λ k. apart s a x here k)
    ∙ ap (λ v. cond (a == x) (Some b) v) (sym (head_in s ss x))))
set_at_first (s ∷ ss) (suc i) d a b lt here before x =
    head_in s (slice_set ss i (segment_with (get_or ss i d) a b)) x
    ∙ (suc_go (holds x s) (a == x) (slice_get s.bytes (x - s.start)) (byte_in ss x) (byte_in (slice_set ss i (segment_with (get_or ss i d) a b)) x) (Some b)
    (λ k. elsewhere s a x (before 0 (omega arith)) k) (set_at_first ss i d a b (omega arith) here (λ k h. before (suc k) (omega arith)) x)
    ∙ ap (λ v. cond (a == x) (Some b) v) (sym (head_in s ss x)))

-- its shapes are as before
pub set_shapes : (ss : List Segment) (i : ℕ) (d : Segment) (a b : ℕ) → shapes (slice_set ss i (segment_with (get_or ss i d) a b)) ≡ shapes ss
set_shapes ss i d a b = map-set_same shape ss i (segment_with (get_or ss i d) a b) d (ap (λ n. record { start = (get_or ss i d).start; len = n; flags = (get_or ss i d).flags }) (length-set (get_or ss i d).bytes (a - (get_or ss i d).start) b))
