-- A value that is stored: the abstract state after the write stands for the machine's state after it.
use Rattle.std.proofs.Common.{◌≡◌, ℕ, zero, suc, ◌+◌, ◌*◌, ◌/◌, ◌%◌, ◌^◌, ◌<◌, ◌≤◌, ◌==◌, ◌||◌, ◌⊎◌, inl, inr, Bool, true, false, cond, List, Some, refl, sym, ◌∙◌, ap, subst, arith}
use Rattle.std.proofs.lemmas.Bool.{eqb-true, eq-eqb, and_parts}
use Rattle.image_map.specs.declared.image.Image.{Image}
use Rattle.ia32_types.specs.declared.Width.{Width}
use Rattle.ia32_types.specs.declared.Width.TheVariants.{B8, W16, D32}
use Rattle.ia32_semantics.specs.Effects.{stores, changed, overwritten, is_of_bytes, all_of_bytes, is_open, effect_fits}
use Rattle.ia32_types.specs.Numbers.{size}
use Rattle.ia32_semantics.specs.Operands.{bits, number_bytes}
use Rattle.ia32_semantics.specs.State.{State, Bytes, bytes_at, joined, little_endian, put}
use Rattle.ia32_semantics.proofs.EffectLemmas.{overwritten_other}
use Rattle.alocs.specs.Cells.{Division}
use Rattle.vset.specs.Values.{Values, CanonicalValues}
use Rattle.vset.specs.Members.{HasValue}
use Rattle.abs_semantics.specs.States.{AbsState, HasCanonical}
use Rattle.abs_semantics.specs.StandsFor.{StandsFor, world_of}
use Rattle.abs_semantics.specs.Ownership.{IsKnown, IsRange}
use Rattle.abs_semantics.specs.Stores.{IsStored}
use Rattle.abs_semantics.proofs.StoreLemmas.{same_bytes}
use Rattle.abs_semantics.proofs.RangeLemmas.{numbers_of, numbers_1, numbers_2, numbers_4}
use Rattle.abs_semantics.proofs.WriteLemmas.{written_stands}
use Rattle.abs_steps.specs.Effects.{saves, done}

-- the bytes of a number lie from an address on, and nowhere else
pub outside : (k at v y : ℕ) → (y < at) ⊎ (at + k ≤ y) → is_of_bytes at (number_bytes k v) y ≡ false
outside zero at v y h = refl
outside (suc k) at v y h = by (at == y) refl (outside k (at + 1) (v / 256) y (further h))
  where
    apart : (at ≡ y) → (y < at) ⊎ (at + suc k ≤ y) → ⊥
    apart e (inl lt) = omega (arith, e, lt)
    apart e (inr le) = omega (arith, e, le)

    further : (y < at) ⊎ (at + suc k ≤ y) → (y < at + 1) ⊎ (at + 1 + k ≤ y)
    further (inl lt) = inl (omega (arith, lt))
    further (inr le) = inr (omega (arith, le))

    by : (b : Bool) → (at == y) ≡ b → is_of_bytes (at + 1) (number_bytes k (v / 256)) y ≡ false → (b || is_of_bytes (at + 1) (number_bytes k (v / 256)) y) ≡ false
    by true e rest = absurd (apart (eqb-true at y e) h)
    by false e rest = rest

-- they are read back
pub read_back : (k at v : ℕ) (m : Bytes) → bytes_at (overwritten m at (number_bytes k v)) at k ≡ Some (number_bytes k v)
unfolding bytes_at
read_back zero at v m = refl
read_back (suc k) at v m =
    let first : put (overwritten m (at + 1) (number_bytes k (v / 256))) at (Some (v % 256 % 256)) at ≡ Some (v % 256) =
    ap (λ b. cond b (Some (v % 256 % 256)) (overwritten m (at + 1) (number_bytes k (v / 256)) at)) (eq-eqb at at refl) ∙ ap Some (let e : v % 256 % 256 ≡ v % 256 = omega arith in e) in
    let rest : bytes_at (put (overwritten m (at + 1) (number_bytes k (v / 256))) at (Some (v % 256 % 256))) (at + 1) k ≡ Some (number_bytes k (v / 256)) =
    same_bytes (put (overwritten m (at + 1) (number_bytes k (v / 256))) at (Some (v % 256 % 256))) (overwritten m (at + 1) (number_bytes k (v / 256))) (at + 1) (at + 1) k
    (λ j lt. ap (λ b. cond b (Some (v % 256 % 256)) (overwritten m (at + 1) (number_bytes k (v / 256)) (at + 1 + j))) (lower j))
    ∙ read_back k (at + 1) (v / 256) m in
    (λ i. joined (first i) (rest i))
  where
    lower : (j : ℕ) → (at == at + 1 + j) ≡ false
    lower j = by (at == at + 1 + j) refl
      where
        by : (b : Bool) → (at == at + 1 + j) ≡ b → b ≡ false
        by true e = let f : at ≡ at + 1 + j = eqb-true at (at + 1 + j) e in absurd (omega (arith, f))
        by false e = refl

pub number_back : (k v : ℕ) → v < numbers_of k → little_endian (number_bytes k v) ≡ v
unfolding little_endian numbers_of
number_back zero v lt = omega (arith, lt)
number_back (suc k) v lt =
    let rest : little_endian (number_bytes k (v / 256)) ≡ v / 256 = number_back k (v / 256) (omega (arith, lt)) in
    ap (λ n. v % 256 + 256 * n) rest ∙ (let e : v % 256 + 256 * (v / 256) ≡ v = omega arith in e)

-- each of them passes a test
pub each_passes : (test : ℕ → Bool) (k at v : ℕ) → all_of_bytes test at (number_bytes k v) ≡ true → (j : ℕ) → j < k → test (at + j) ≡ true
each_passes test zero at v h j lt = absurd (omega (arith, lt))
each_passes test (suc k) at v h zero lt =
    let same : at + 0 ≡ at = omega arith in
    subst (λ x. test x ≡ true) (sym same) (and_parts (test at) (all_of_bytes test (at + 1) (number_bytes k (v / 256))) h).0
each_passes test (suc k) at v h (suc j) lt =
    let same : at + 1 + j ≡ at + suc j = omega arith in
    subst (λ x. test x ≡ true) same (each_passes test k (at + 1) (v / 256) (and_parts (test at) (all_of_bytes test (at + 1) (number_bytes k (v / 256))) h).1 j (omega (arith, lt)))

pub some_size : (width : Width) → 1 ≤ size width
some_size B8 = omega arith
some_size W16 = omega arith
some_size D32 = omega arith

fits_size : (width : Width) (n : ℕ) → n < 2 ^ bits width → n < numbers_of (size width)
fits_size B8 n lt = omega (arith, lt, numbers_1)
fits_size W16 n lt = omega (arith, lt, numbers_2)
fits_size D32 n lt = omega (arith, lt, numbers_4)

-- the bytes of a number that fits at an address that a value has
pub saved_range : (image : Image) (lane : ℕ) (s : State) (width : Width) (at n : ℕ) (v : Values) → at < 4294967296 → HasValue lane (world_of s) at v
    → effect_fits image s.memory (stores at (number_bytes (size width) n)) ≡ true → IsRange lane s v at (size width) (size width)
saved_range image lane s width at n v word has fits =
    record { word = word; member = has; some = some_size width; within = omega arith; mapped = λ j lt. (and_parts _ _ (each_passes (is_open image s.memory) (size width) at n fits j lt)).0 }

pub saved_bytes : (image : Image) (s : State) (width : Width) (at n : ℕ) → effect_fits image s.memory (stores at (number_bytes (size width) n)) ≡ true
    → IsStored image s at (size width) (overwritten s.memory at (number_bytes (size width) n))
saved_bytes image s width at n fits =
    record { are_open = each_passes (is_open image s.memory) (size width) at n fits; others = λ y h. overwritten_other s.memory at (number_bytes (size width) n) y (outside (size width) at n y h) }

module _ (image : Image) (lane : ℕ) (a : AbsState) (p : ℕ) (s : State) (d : Division) (known_ : IsKnown image lane a p s) (form : HasCanonical a) where
  pub saves_stand : (width : Width) (at n : ℕ) (v w : Values) → CanonicalValues v → CanonicalValues w → at < 4294967296 → n < 2 ^ bits width → HasValue lane (world_of s) at v → HasValue lane (world_of s) n w
      → effect_fits image s.memory (stores at (number_bytes (size width) n)) ≡ true
      → StandsFor lane (done d image p (saves v (size width) w) a) (changed (stores at (number_bytes (size width) n)) s)
  saves_stand width at n v w fv fw word small has held fits =
      written_stands image lane a p s d v at (size width) w (overwritten s.memory at (number_bytes (size width) n)) known_ form fv fw
      (saved_range image lane s width at n v word has fits) (saved_bytes image s width at n fits) number
    where
      number : (bytes : List ℕ) → bytes_at (overwritten s.memory at (number_bytes (size width) n)) at (size width) ≡ Some bytes → HasValue lane (world_of s) (little_endian bytes) w
      number bytes e =
          let back : bytes_at (overwritten s.memory at (number_bytes (size width) n)) at (size width) ≡ Some (number_bytes (size width) n) = read_back (size width) at n s.memory in
          let same : number_bytes (size width) n ≡ bytes = cc in
          subst (λ b. HasValue lane (world_of s) (little_endian b) w) same
          (subst (λ m. HasValue lane (world_of s) m w) (sym (number_back (size width) n (fits_size width n small))) held)
