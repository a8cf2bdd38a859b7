-- Segments of zeros, and the memory in which a run starts.
use Rattle.std.proofs.Common.{◌≡◌, ℕ, ◌+◌, ◌-◌, ◌<◌, ◌≤◌, ◌^◌, List, [], ◌∷◌, ◌++◌, get_or, refl, ap, sym, subst, ◌∙◌, arith}
use Rattle.std.specs.Prelude.{Bool, true, false, cond, ◌&&◌, nat_le, nat_lt, Option, Some, None, slice_get, is_some, replicate}
use Rattle.std.proofs.lemmas.Bool.Decides.{nat_tests}
use Rattle.std.proofs.lemmas.List.{length-replicate, get_or-replicate, get_or_past}
use Rattle.std.proofs.lemmas.Option.{slice_get-get_or}
use mathlib.Core.Path.{fun_ext}
use Rattle.image_map.specs.declared.image.Segment.{Segment}
use Rattle.image_map.specs.Memory.{holds, has_flag, byte_in}
use Rattle.image_map.specs.Whole.{end_of}
use Rattle.ia32_semantics.proofs.EffectLemmas.{by_test}
use Rattle.image_map.proofs.SegmentLaws.{offset_within, head_in}
use Rattle.item_list.specs.Ranges.{within}
use Rattle.ia32_memory.specs.Mapped.{bytes_of, is_open_at, is_in_first, AreWithin, IsClear, zeros_from}
use Rattle.ia32_memory.specs.Changes.{with_zeros}
use Rattle.ia32_memory.proofs.ShapeLaws.{open_head}

-- -- One segment of zeros

pub zeros_start : (start size : ℕ) → (zeros_from start size).start ≡ start
unfolding zeros_from
zeros_start start size = refl

zeros_end : (start size : ℕ) → end_of (zeros_from start size) ≡ start + size
unfolding zeros_from
zeros_end start size = ap (λ n. start + n) (length-replicate size 0)

pub zeros_within : (start size : ℕ) → start + size ≤ 2 ^ 32 → end_of (zeros_from start size) ≤ 2 ^ 32
zeros_within start size fits = subst (λ n. n ≤ 2 ^ 32) (sym (zeros_end start size)) fits

zero_there : (size k : ℕ) → get_or {A = ℕ} (replicate size 0) k 0 ≡ 0
zero_there size k =
    by_test (nat_lt k size)
    (λ e. let low : k < size = grind (arith, nat_tests) in get_or-replicate size k 0 0 low)
    (λ e. let high : size ≤ k = grind (arith, nat_tests) in get_or_past (replicate size 0) k 0 (subst (λ n. n ≤ k) (sym (length-replicate size 0)) high))

pub zeros_clear : (start size k : ℕ) → get_or (zeros_from start size).bytes k 0 ≡ 0
unfolding zeros_from
zeros_clear start size k = zero_there size k

in_range : (start size x : ℕ) → (nat_le start x && nat_lt (x - start) size) ≡ within start (start + size) x
in_range start size x = grind (arith, nat_tests)

pub zeros_hold : (start size x : ℕ) → holds x (zeros_from start size) ≡ within start (start + size) x
unfolding zeros_from
zeros_hold start size x = ap (λ n. nat_le start x && nat_lt (x - start) n) (length-replicate size 0) ∙ in_range start size x

pub zeros_open : (start size : ℕ) → has_flag 2 (zeros_from start size) ≡ true
unfolding zeros_from
zeros_open start size = refl

pub zeros_byte : (start size x : ℕ) → holds x (zeros_from start size) ≡ true → slice_get (zeros_from start size).bytes (x - (zeros_from start size).start) ≡ Some 0
zeros_byte start size x h =
    slice_get-get_or (zeros_from start size).bytes (x - (zeros_from start size).start) 0 (offset_within (zeros_from start size) x h)
    ∙ ap (λ v. Some v) (zeros_clear start size (x - (zeros_from start size).start))

-- -- Zeros put behind segments

pub is_some_held : (s : Segment) (x : ℕ) → holds x s ≡ true → is_some (slice_get s.bytes (x - s.start)) ≡ true
is_some_held s x h = ap is_some (slice_get-get_or s.bytes (x - s.start) 0 (offset_within s x h))

added_go : {A : Type 0} (h : Bool) (v w : Option ℕ) (p q r : A) → (h ≡ true → is_some v ≡ true) → cond h p (cond (is_some w) q r) ≡ cond (is_some (cond h v w)) (cond h p q) r
added_go true v w p q r there = sym (ap (λ b. cond b p r) (there refl))
added_go false v w p q r there = refl

added_byte : (ss : List Segment) (t : Segment) (x : ℕ) → byte_in (ss ++ t ∷ []) x ≡ cond (is_some (byte_in ss x)) (byte_in ss x) (byte_in (t ∷ []) x)
added_byte [] t x = refl
added_byte (s ∷ ss) t x =
    head_in s (ss ++ t ∷ []) x
    ∙ ap (λ r. cond (holds x s) (slice_get s.bytes (x - s.start)) r) (added_byte ss t x)
    ∙ added_go (holds x s) (slice_get s.bytes (x - s.start)) (byte_in ss x) (slice_get s.bytes (x - s.start)) (byte_in ss x) (byte_in (t ∷ []) x) (is_some_held s x)
    ∙ ap (λ v. cond (is_some v) v (byte_in (t ∷ []) x)) (sym (head_in s ss x))

lone_byte : (start size x : ℕ) → byte_in (zeros_from start size ∷ []) x ≡ cond (within start (start + size) x) (Some 0) None
lone_byte start size x =
    head_in (zeros_from start size) [] x
    ∙ by_test (holds x (zeros_from start size))
    (λ h. ap (λ b. cond b (slice_get (zeros_from start size).bytes (x - (zeros_from start size).start)) None) h ∙ zeros_byte start size x h
    ∙ sym (ap (λ b. cond b (Some 0) None) (sym (zeros_hold start size x) ∙ h)))
    (λ h. ap (λ b. cond b (slice_get (zeros_from start size).bytes (x - (zeros_from start size).start)) None) h
    ∙ sym (ap (λ b. cond b (Some 0) None) (sym (zeros_hold start size x) ∙ h)))

pub added_zeros : (ss : List Segment) (start size : ℕ) → bytes_of (ss ++ zeros_from start size ∷ []) ≡ with_zeros (bytes_of ss) start size
added_zeros ss start size = fun_ext (λ x.
    added_byte ss (zeros_from start size) x ∙ ap (λ r. cond (is_some (byte_in ss x)) (byte_in ss x) r) (lone_byte start size x))

added_open : (ss : List Segment) (t : Segment) (x : ℕ) → is_open_at (ss ++ t ∷ []) x ≡ cond (is_some (byte_in ss x)) (is_open_at ss x) (is_open_at (t ∷ []) x)
added_open [] t x = refl
added_open (s ∷ ss) t x =
    open_head s (ss ++ t ∷ []) x
    ∙ ap (λ r. cond (holds x s) (has_flag 2 s) r) (added_open ss t x)
    ∙ added_go (holds x s) (slice_get s.bytes (x - s.start)) (byte_in ss x) (has_flag 2 s) (is_open_at ss x) (is_open_at (t ∷ []) x) (is_some_held s x)
    ∙ ap (λ v. cond (is_some v) (cond (holds x s) (has_flag 2 s) (is_open_at ss x)) (is_open_at (t ∷ []) x)) (sym (head_in s ss x))
    ∙ ap (λ o. cond (is_some (byte_in (s ∷ ss) x)) o (is_open_at (t ∷ []) x)) (sym (open_head s ss x))

-- the zeros may be written
pub added_zeros_open : (ss : List Segment) (start size x : ℕ) → is_open_at (ss ++ zeros_from start size ∷ []) x ≡ cond (is_some (bytes_of ss x)) (is_open_at ss x) (within start (start + size) x)
added_zeros_open ss start size x =
    added_open ss (zeros_from start size) x
    ∙ ap (λ r. cond (is_some (byte_in ss x)) (is_open_at ss x) r)
    (open_head (zeros_from start size) [] x ∙ ap (λ f. cond (holds x (zeros_from start size)) f false) (zeros_open start size)
    ∙ ap (λ h. cond h true false) (zeros_hold start size x) ∙ same_test (within start (start + size) x)) where
      same_test : (b : Bool) → cond b true false ≡ b
      same_test true = refl
      same_test false = refl

pub added_within : (ss : List Segment) (t : Segment) → AreWithin ss → end_of t ≤ 2 ^ 32 → AreWithin (ss ++ t ∷ [])
added_within [] t within fits = (fits, tt)
added_within (s ∷ ss) t within fits = (within.0, added_within ss t within.1 fits)

pub added_clear : (ss : List Segment) (t : Segment) (count : ℕ) → IsClear count ss → IsClear count (ss ++ t ∷ [])
added_clear [] t count clear = absurd clear
added_clear (s ∷ ss) t count clear = clear

pub added_first : (ss : List Segment) (t : Segment) (count x : ℕ) → IsClear count ss → is_in_first (ss ++ t ∷ []) x ≡ is_in_first ss x
added_first [] t count x clear = absurd clear
added_first (s ∷ ss) t count x clear = refl
