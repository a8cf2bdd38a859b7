-- One byte of the first segment that has its address is replaced.
use Rattle.std.proofs.Common.{◌≡◌, ℕ, zero, suc, ◌+◌, ◌-◌, ◌<◌, ◌≤◌, ◌^◌, Bool, true, false, cond, ◌&&◌, Option, Some, None, List, [], ◌∷◌, length, get_or, refl, ap, sym, subst, ◌∙◌, arith, min}
use Rattle.std.specs.Prelude.{slice_get, slice_set, ◌==◌, is_some}
use Rattle.std.specs.List.{position, position_from}
use Rattle.std.proofs.lemmas.Bool.Decides.{nat_tests}
use Rattle.std.proofs.lemmas.Option.{none-some, slice_get-get_or}
use Rattle.std.proofs.lemmas.Iterator.Adapters.{position_from-zero}
use Rattle.std.proofs.lemmas.List.{length-set, get_or-set_other}
use mathlib.Core.Path.{fun_ext}
use Rattle.std.proofs.lemmas.Bool.{cond_both}
use Rattle.image_map.specs.declared.image.Segment.{Segment}
use Rattle.image_map.specs.Memory.{holds, byte_in}
use Rattle.ia32_semantics.specs.State.{Bytes}
use Rattle.image_map.proofs.SegmentLaws.{offset_within, head_in, segment_with, set_at_first}
use Rattle.ia32_memory.specs.Mapped.{bytes_of, AreWithin, IsClear}
use Rattle.ia32_memory.specs.Changes.{with_byte}

-- the byte at an address that a segment has is there
mapped_first : (ss : List Segment) (i : ℕ) (d : Segment) (a : ℕ) → i < length ss → holds a (get_or ss i d) ≡ true
    → ((k : ℕ) → k < i → holds a (get_or ss k d) ≡ false) → is_some (byte_in ss a) ≡ true
mapped_first [] i d a lt here before = absurd (omega arith)
mapped_first (s ∷ ss) zero d a lt here before =
    ap is_some (head_in s ss a ∙ ap (λ h. cond h (slice_get s.bytes (a - s.start)) (byte_in ss a)) here ∙ slice_get-get_or s.bytes (a - s.start) 0 (offset_within s a here))
mapped_first (s ∷ ss) (suc i) d a lt here before =
    ap is_some (head_in s ss a ∙ ap (λ h. cond h (slice_get s.bytes (a - s.start)) (byte_in ss a)) (before 0 (omega arith)))
    ∙ mapped_first ss i d a (omega arith) here (λ k h. before (suc k) (omega arith))

test_go : (a x : ℕ) (m : Bytes) (v : Option ℕ) → is_some (m a) ≡ true → cond (a == x) v (m x) ≡ cond (a == x && is_some (m x)) v (m x)
test_go a x m v mapped =
    cond_both (a == x) v (m x) (λ r. r ≡ cond (a == x && is_some (m x)) v (m x))
    (λ same. let e : x ≡ a = grind (arith, nat_tests) in rw (same, e, mapped) refl)
    (λ other. rw other refl)

-- with the byte in the first segment that holds the address, memory is as before but for that byte
pub put_here : (ss : List Segment) (i : ℕ) (d : Segment) (a b : ℕ) → i < length ss → holds a (get_or ss i d) ≡ true
    → ((k : ℕ) → k < i → holds a (get_or ss k d) ≡ false)
    → bytes_of (slice_set ss i (segment_with (get_or ss i d) a b)) ≡ with_byte (bytes_of ss) a b
put_here ss i d a b lt here before =
    fun_ext (λ x. set_at_first ss i d a b lt here before x ∙ test_go a x (bytes_of ss) (Some b) (mapped_first ss i d a lt here before))

none_go : (b : Bool) (i : ℕ) (rest : Option ℕ) → cond b (Some i) rest ≡ None → (b ≡ false) × (rest ≡ None)
none_go true i rest k = absurd (none-some i (sym k))
none_go false i rest k = (refl, k)

unmapped : (ss : List Segment) (i a : ℕ) → position_from (holds a) i ss ≡ None → byte_in ss a ≡ None
unmapped [] i a h = refl
unmapped (s ∷ ss) i a h =
    let p = none_go (holds a s) i (position_from (holds a) (i + 1) ss) h in
    head_in s ss a ∙ ap (λ t. cond t (slice_get s.bytes (a - s.start)) (byte_in ss a)) p.0 ∙ unmapped ss (i + 1) a p.1

nowhere_go : (a x : ℕ) (m : Bytes) (v : Option ℕ) → is_some (m a) ≡ false → m x ≡ cond (a == x && is_some (m x)) v (m x)
nowhere_go a x m v unmapped =
    cond_both (a == x) v (m x) (λ r. m x ≡ cond (a == x && is_some (m x)) v (m x))
    (λ same. let e : x ≡ a = grind (arith, nat_tests) in rw (same, e, unmapped) refl)
    (λ other. rw other refl)

-- where no byte is mapped, none is replaced
pub put_unmapped : (m : Bytes) (a b : ℕ) → m a ≡ None → m ≡ with_byte m a b
put_unmapped m a b none = fun_ext (λ x. nowhere_go a x m (Some b) (ap is_some none))

-- where no segment holds the address, no byte is replaced
pub put_nowhere : (ss : List Segment) (a b : ℕ) → position (holds a) ss ≡ None → bytes_of ss ≡ with_byte (bytes_of ss) a b
put_nowhere ss a b h =
    let none : bytes_of ss a ≡ None = unmapped ss 0 a (sym (position_from-zero (holds a) ss) ∙ h) in
    put_unmapped (bytes_of ss) a b none

-- -- What holds of each memory

pub set_within : (ss : List Segment) (i : ℕ) (d : Segment) (a b : ℕ) → AreWithin ss → AreWithin (slice_set ss i (segment_with (get_or ss i d) a b))
set_within [] i d a b within = within
set_within (s ∷ ss) zero d a b within = (subst (λ n. s.start + n ≤ 2 ^ 32) (sym (length-set s.bytes (a - s.start) b)) within.0, within.1)
set_within (s ∷ ss) (suc i) d a b within = (within.0, set_within ss i d a b within.1)

-- the bytes below the one that is replaced stay clear
pub set_first_clear : (ss : List Segment) (count : ℕ) (d : Segment) (a b : ℕ) → IsClear count ss → IsClear (min count (a - (get_or ss 0 d).start)) (slice_set ss 0 (segment_with (get_or ss 0 d) a b))
set_first_clear [] count d a b clear = clear
set_first_clear (s ∷ ss) count d a b clear =
    λ k h. get_or-set_other s.bytes (a - s.start) k b 0 (omega arith) ∙ clear k (omega arith)

pub set_later_clear : (ss : List Segment) (i count : ℕ) (s : Segment) → 0 < i → IsClear count ss → IsClear count (slice_set ss i s)
set_later_clear [] i count s later clear = clear
set_later_clear (t ∷ ss) zero count s later clear = absurd (omega arith)
set_later_clear (t ∷ ss) (suc i) count s later clear = clear
