-- A part of the first segment is cleared.
use Rattle.std.proofs.Common.{◌≡◌, ℕ, zero, suc, ◌+◌, ◌-◌, ◌<◌, ◌≤◌, ◌^◌, Bool, true, false, cond, ◌&&◌, nat_le, nat_lt, Option, Some, List, [], ◌∷◌, length, get_or, refl, ap, sym, subst, ◌∙◌, arith, max}
use Rattle.std.specs.Prelude.{slice_get, slice_set, is_some}
use Rattle.std.proofs.lemmas.Bool.Decides.{nat_tests}
use Rattle.std.proofs.lemmas.Option.{slice_get-get_or}
use mathlib.Core.Path.{fun_ext}
use Rattle.image_map.specs.declared.image.Segment.{Segment}
use Rattle.image_map.specs.Memory.{holds, byte_in}
use Rattle.ia32_memory.specs.Mapped.{bytes_of, AreWithin, IsClear, is_in_first, bytes_below}
use Rattle.ia32_memory.specs.Changes.{zeroed, cleared}
use Rattle.ia32_semantics.proofs.EffectLemmas.{by_test}
use Rattle.image_map.proofs.SegmentLaws.{offset_within, head_in}
use Rattle.image_map.specs.Shapes.{shapes}

-- -- Lists

pub zeroed_length : (from n : ℕ) (xs : List ℕ) → length (zeroed from n xs) ≡ length xs
zeroed_length from zero xs = refl
zeroed_length zero (suc n) [] = refl
zeroed_length zero (suc n) (x ∷ xs) = ap suc (zeroed_length zero n xs)
zeroed_length (suc from) (suc n) [] = refl
zeroed_length (suc from) (suc n) (x ∷ xs) = ap suc (zeroed_length from (suc n) xs)

pub zeroed_in : (from n : ℕ) (xs : List ℕ) (k : ℕ) → from ≤ k → k < from + n → get_or (zeroed from n xs) k 0 ≡ 0
zeroed_in from zero xs k low high = absurd (omega arith)
zeroed_in zero (suc n) [] k low high = refl
zeroed_in zero (suc n) (x ∷ xs) zero low high = refl
zeroed_in zero (suc n) (x ∷ xs) (suc k) low high = zeroed_in zero n xs k (omega arith) (omega arith)
zeroed_in (suc from) (suc n) [] k low high = refl
zeroed_in (suc from) (suc n) (x ∷ xs) zero low high = absurd (omega arith)
zeroed_in (suc from) (suc n) (x ∷ xs) (suc k) low high = zeroed_in from (suc n) xs k (omega arith) (omega arith)

pub zeroed_below : (from n : ℕ) (xs : List ℕ) (k : ℕ) → k < from → get_or (zeroed from n xs) k 0 ≡ get_or xs k 0
zeroed_below from zero xs k low = refl
zeroed_below zero (suc n) [] k low = refl
zeroed_below zero (suc n) (x ∷ xs) k low = absurd (omega arith)
zeroed_below (suc from) (suc n) [] k low = refl
zeroed_below (suc from) (suc n) (x ∷ xs) zero low = refl
zeroed_below (suc from) (suc n) (x ∷ xs) (suc k) low = zeroed_below from (suc n) xs k (omega arith)

pub zeroed_above : (from n : ℕ) (xs : List ℕ) (k : ℕ) → from + n ≤ k → get_or (zeroed from n xs) k 0 ≡ get_or xs k 0
zeroed_above from zero xs k high = refl
zeroed_above zero (suc n) [] k high = refl
zeroed_above zero (suc n) (x ∷ xs) zero high = absurd (omega arith)
zeroed_above zero (suc n) (x ∷ xs) (suc k) high = zeroed_above zero n xs k (omega arith)
zeroed_above (suc from) (suc n) [] k high = refl
zeroed_above (suc from) (suc n) (x ∷ xs) zero high = absurd (omega arith)
zeroed_above (suc from) (suc n) (x ∷ xs) (suc k) high = zeroed_above from (suc n) xs k (omega arith)

set_later : (x : ℕ) (xs : List ℕ) (i j : ℕ) → i ≡ suc j → slice_set (x ∷ xs) i 0 ≡ x ∷ slice_set xs j 0
set_later x xs i j e = ap (λ k. slice_set (x ∷ xs) k 0) e

-- one more
pub zeroed_more : (from n : ℕ) (xs : List ℕ) → slice_set (zeroed from n xs) (from + n) 0 ≡ zeroed from (suc n) xs
zeroed_more zero zero [] = refl
zeroed_more zero zero (x ∷ xs) = refl
zeroed_more zero (suc n) [] = refl
zeroed_more zero (suc n) (x ∷ xs) = set_later 0 (zeroed zero n xs) (zero + suc n) (zero + n) (omega arith) ∙ ap (λ t. 0 ∷ t) (zeroed_more zero n xs)
zeroed_more (suc from) zero [] = refl
zeroed_more (suc from) zero (x ∷ xs) = set_later x xs (suc from + zero) (from + zero) (omega arith) ∙ ap (λ t. x ∷ t) (zeroed_more from zero xs)
zeroed_more (suc from) (suc n) [] = refl
zeroed_more (suc from) (suc n) (x ∷ xs) = set_later x (zeroed from (suc n) xs) (suc from + suc n) (from + suc n) (omega arith) ∙ ap (λ t. x ∷ t) (zeroed_more from (suc n) xs)

-- -- Segments

-- the segment with n bytes from an index on at 0
abbrev pub segment_zeroed : Segment → ℕ → ℕ → Segment
segment_zeroed s from n = record { start = s.start; bytes = zeroed from n s.bytes; flags = s.flags }

-- a part from the clear bytes on up to those below an address
abbrev pub first_cleared : Segment → ℕ → ℕ → Segment
first_cleared s clear below = segment_zeroed s clear (bytes_below s below - clear)

-- an address of the segment at or above the limit
far : (s : Segment) (a below : ℕ) → holds a s ≡ true → nat_lt a below ≡ false → bytes_below s below ≤ a - s.start
far s a below h k = grind (arith, nat_tests)

near : (s : Segment) (a below : ℕ) → holds a s ≡ true → nat_lt a below ≡ true → a - s.start < bytes_below s below
near s a below h k = grind (arith, nat_tests)

pub clear_as : (xs : List ℕ) (clear limit : ℕ) → ((k : ℕ) → k < clear → get_or xs k 0 ≡ 0) → (k : ℕ) → k < max clear limit → get_or (zeroed clear (limit - clear) xs) k 0 ≡ 0
clear_as xs clear limit clean k lt =
    by_test (nat_lt k clear)
    (λ e. let low : k < clear = grind (arith, nat_tests) in zeroed_below clear (limit - clear) xs k low ∙ clean k low)
    (λ e. let high : clear ≤ k = grind (arith, nat_tests) in zeroed_in clear (limit - clear) xs k high (omega arith))

pub kept_as : (xs : List ℕ) (clear limit k : ℕ) → limit ≤ k → get_or (zeroed clear (limit - clear) xs) k 0 ≡ get_or xs k 0
kept_as xs clear limit k past =
    by_test (nat_lt k clear)
    (λ e. let low : k < clear = grind (arith, nat_tests) in zeroed_below clear (limit - clear) xs k low)
    (λ e. let high : clear ≤ k = grind (arith, nat_tests) in zeroed_above clear (limit - clear) xs k (omega arith))

byte_cleared : (s : Segment) (clear below x : ℕ) → ((k : ℕ) → k < clear → get_or s.bytes k 0 ≡ 0) → holds x s ≡ true
    → slice_get (zeroed clear (bytes_below s below - clear) s.bytes) (x - s.start) ≡ cond (nat_lt x below) (Some 0) (slice_get s.bytes (x - s.start))
byte_cleared s clear below x clean held =
    slice_get-get_or (zeroed clear (bytes_below s below - clear) s.bytes) (x - s.start) 0 (subst (λ n. x - s.start < n) (sym (zeroed_length clear (bytes_below s below - clear) s.bytes)) (offset_within s x held))
    ∙ by_test (nat_lt x below)
    (λ e. let inside : x - s.start < max clear (bytes_below s below) = let h = near s x below held e in omega arith in
    ap (λ v. Some v) (clear_as s.bytes clear (bytes_below s below) clean (x - s.start) inside) ∙ sym (ap (λ b. cond b (Some 0) (slice_get s.bytes (x - s.start))) e))
    (λ e. ap (λ v. Some v) (kept_as s.bytes clear (bytes_below s below) (x - s.start) (far s x below held e)) ∙ sym (slice_get-get_or s.bytes (x - s.start) 0 (offset_within s x held))
    ∙ sym (ap (λ b. cond b (Some 0) (slice_get s.bytes (x - s.start))) e))

cleared_go : (h : Bool) (t : Bool) (u v w : Option ℕ) → (h ≡ true → u ≡ cond t (Some 0) v) → (h ≡ true → is_some v ≡ true) → cond h u w ≡ cond (h && t && is_some (cond h v w)) (Some 0) (cond h v w)
cleared_go true true u v w in_it there = in_it refl ∙ sym (rw (there refl) refl)
cleared_go true false u v w in_it there = in_it refl
cleared_go false t u v w in_it there = refl

pub first_bytes : (s : Segment) (ss : List Segment) (clear below : ℕ) → ((k : ℕ) → k < clear → get_or s.bytes k 0 ≡ 0)
    → bytes_of (first_cleared s clear below ∷ ss) ≡ cleared (λ a. holds a s && nat_lt a below) (bytes_of (s ∷ ss))
first_bytes s ss clear below clean = fun_ext (λ x.
    head_in (first_cleared s clear below) ss x
    ∙ ap (λ n. cond (nat_le s.start x && nat_lt (x - s.start) n) (slice_get (zeroed clear (bytes_below s below - clear) s.bytes) (x - s.start)) (byte_in ss x)) (zeroed_length clear (bytes_below s below - clear) s.bytes)
    ∙ cleared_go (holds x s) (nat_lt x below) (slice_get (zeroed clear (bytes_below s below - clear) s.bytes) (x - s.start)) (slice_get s.bytes (x - s.start)) (byte_in ss x)
    (λ held. byte_cleared s clear below x clean held) (λ held. ap is_some (slice_get-get_or s.bytes (x - s.start) 0 (offset_within s x held)))
    ∙ ap (λ v. cond (holds x s && nat_lt x below && is_some v) (Some 0) v) (sym (head_in s ss x)))

-- -- Lists of segments

pub some_first : (ss : List Segment) (count : ℕ) → IsClear count ss → 0 < length ss
some_first [] count clear = absurd clear
some_first (s ∷ ss) count clear = omega arith

-- the first segment with a part cleared
abbrev pub all_cleared : List Segment → ℕ → ℕ → Segment → List Segment
all_cleared ss clear below d = slice_set ss 0 (first_cleared (get_or ss 0 d) clear below)

pub all_cleared_bytes : (ss : List Segment) (clear below : ℕ) (d : Segment) → IsClear clear ss
    → bytes_of (all_cleared ss clear below d) ≡ cleared (λ a. is_in_first ss a && nat_lt a below) (bytes_of ss)
all_cleared_bytes [] clear below d clean = absurd clean
all_cleared_bytes (s ∷ ss) clear below d clean = first_bytes s ss clear below clean

pub all_cleared_shapes : (ss : List Segment) (clear below : ℕ) (d : Segment) → shapes (all_cleared ss clear below d) ≡ shapes ss
all_cleared_shapes [] clear below d = refl
all_cleared_shapes (s ∷ ss) clear below d = ap (λ n. record { start = s.start; len = n; flags = s.flags } ∷ shapes ss) (zeroed_length clear (bytes_below s below - clear) s.bytes)

pub all_cleared_within : (ss : List Segment) (clear below : ℕ) (d : Segment) → AreWithin ss → AreWithin (all_cleared ss clear below d)
all_cleared_within [] clear below d within = within
all_cleared_within (s ∷ ss) clear below d within = (subst (λ n. s.start + n ≤ 2 ^ 32) (sym (zeroed_length clear (bytes_below s below - clear) s.bytes)) within.0, within.1)

pub all_cleared_clear : (ss : List Segment) (clear below : ℕ) (d : Segment) → IsClear clear ss → IsClear (max clear (bytes_below (get_or ss 0 d) below)) (all_cleared ss clear below d)
all_cleared_clear [] clear below d clean = clean
all_cleared_clear (s ∷ ss) clear below d clean = clear_as s.bytes clear (bytes_below s below) clean

pub zeroed_next : (from at : ℕ) (xs ys : List ℕ) → from ≤ at → ys ≡ zeroed from (at - from) xs → slice_set ys at 0 ≡ zeroed from (at + 1 - from) xs
zeroed_next from at xs ys low is =
    let here : at ≡ from + (at - from) = omega arith in
    let more : suc (at - from) ≡ at + 1 - from = omega arith in
    ap (λ y. slice_set y at 0) is ∙ ap (λ k. slice_set (zeroed from (at - from) xs) k 0) here ∙ zeroed_more from (at - from) xs ∙ ap (λ n. zeroed from n xs) more

pub zeroed_end : (from to last at : ℕ) (xs ys : List ℕ) → last ≡ max to from → at ≤ last → last ≤ at → ys ≡ zeroed from (at - from) xs → ys ≡ zeroed from (to - from) xs
zeroed_end from to last at xs ys top within past is =
    let n : at - from ≡ to - from = omega arith in is ∙ ap (λ k. zeroed from k xs) n

-- as code has them
pub cleared_first : (ss : List Segment) (clear below : ℕ) (d : Segment) (end : ℕ) (new : List ℕ) → end ≡ bytes_below (get_or ss 0 d) below → new ≡ zeroed clear (end - clear) (get_or ss 0 d).bytes
    → slice_set ss 0 (record { start = (get_or ss 0 d).start; bytes = new; flags = (get_or ss 0 d).flags }) ≡ all_cleared ss clear below d
cleared_first ss clear below d end new at is =
    ap (λ b. slice_set ss 0 (record { start = (get_or ss 0 d).start; bytes = b; flags = (get_or ss 0 d).flags }))
    (is ∙ ap (λ e. zeroed clear (e - clear) (get_or ss 0 d).bytes) at)
