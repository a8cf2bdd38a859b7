-- What memory gives of an operand is a value of the operand in the abstract state.
use Rattle.std.proofs.Common.{◌≡◌, ℕ, zero, suc, ◌+◌, ◌*◌, ◌%◌, ◌^◌, ◌<◌, ◌≤◌, Bool, true, false, cond, List, [], ◌∷◌, Option, Some, None, refl, sym, ◌∙◌, ap, subst, arith}
use Rattle.std.specs.Prelude.{is_some}
use Rattle.image_map.specs.declared.image.Image.{Image}
use Rattle.ia32_types.specs.declared.Mem.{Mem}
use Rattle.ia32_types.specs.declared.Width.{Width}
use Rattle.ia32_types.specs.declared.Width.TheVariants.{B8, W16, D32}
use Rattle.ia32_types.specs.Numbers.{size}
use Rattle.ia32_semantics.specs.Operands.{bits, low_part, stored_number, any_word, memory_value as memory_read}
use Rattle.ia32_semantics.specs.Reading.{Reading, gives, with_byte, outcome, ◌>>=◌}
use Rattle.ia32_semantics.specs.State.{State, IsSized, bytes_at, little_endian, joined}
use Rattle.ia32_semantics.proofs.ReadingLemmas.{then_outcome, outcome_bind}
use Rattle.alocs.specs.Cells.{Division}
use Rattle.si_bits.specs.Operations.{up_to}
use Rattle.si_bits.proofs.MemberLemmas.{member-up_to}
use Rattle.strided.specs.Interval.{Interval}
use Rattle.abs_alu.proofs.WordLemmas.{numbers_has, only_has}
use Rattle.vset.specs.Members.{HasValue}
use Rattle.vset.specs.Values.{Values, only_number}
use Rattle.vset.specs.World.{World}
use Rattle.abs_semantics.specs.States.{AbsState, HasCanonical}
use Rattle.abs_semantics.specs.Operands.{address, any_of, numbers_or_any, read_as}
use Rattle.abs_semantics.specs.Accesses.{read}
use Rattle.abs_semantics.specs.StandsFor.{world_of}
use Rattle.abs_semantics.specs.Ownership.{IsKnown, IsRange}
use Rattle.abs_semantics.specs.Laws.{MemoryOperandsAreMembers}
use Rattle.abs_semantics.proofs.FirstLemmas.{below_bytes, bytes_mapped}
use Rattle.abs_semantics.proofs.RangeLemmas.{numbers_1, numbers_2, numbers_4}
use Rattle.abs_semantics.proofs.ReadLemmas.{read_has}

-- -- What is read

value_or : {A : Type 0} → A → Option (A × List ℕ) → A
value_or x None = x
value_or x (Some p) = p.0

abbrev given : {A : Type 0} → A → List ℕ → Option (A × List ℕ)
given x words = Some (x, words)

gives_one : {A : Type 0} {x y : A} {words rest : List ℕ} → given x words ≡ given y rest → x ≡ y
unfolding value_or
gives_one {A} {x} {y} {words} {rest} e = ap (value_or x) e

-- a reading and then another
record Then (A B : Type 0) (t : Reading A) (k : A → Reading B) (s : State) (words rest : List ℕ) (y : B) : Type 0 where
  first : A
  between : List ℕ
  first_is : outcome t s words ≡ Some (first, between)
  second_is : outcome (k first) s between ≡ Some (y, rest)

split : {A B : Type 0} (t : Reading A) (k : A → Reading B) (s : State) (words rest : List ℕ) (y : B) → outcome (t >>= k) s words ≡ Some (y, rest) → Then A B t k s words rest y
split {A} {B} t k s words rest y e = by_first (outcome t s words) refl (sym (outcome_bind t k s words) ∙ e)
  where
    by_first : (o : Option (A × List ℕ)) → outcome t s words ≡ o → then_outcome o (λ x more. outcome (k x) s more) ≡ Some (y, rest) → Then A B t k s words rest y
    by_first None is e = absurd (cc)
    by_first (Some p) is e = record { first = p.0; between = p.1; first_is = is; second_is = e }

-- what memory gives is the number of its bytes
number_bytes : (s : State) (n at v : ℕ) (words rest : List ℕ) → outcome (stored_number n at) s words ≡ Some (v, rest) → (bytes : List ℕ) × (bytes_at s.memory at n ≡ Some bytes) × (little_endian bytes ≡ v)
unfolding stored_number bytes_at little_endian
number_bytes s zero at v words rest e = ([], refl, gives_one e)
number_bytes s (suc n) at v words rest e = by_byte (λ x more e'. number_bytes s n (at + 1) x words more e') (s.memory at) refl e
  where
    Rest : ℕ → Type 0
    Rest x = (bytes : List ℕ) × (bytes_at s.memory (at + 1) n ≡ Some bytes) × (little_endian bytes ≡ x)

    by_rest : (b : ℕ) → s.memory at ≡ Some b → (t : Then ℕ ℕ (stored_number n (at + 1)) (λ more. gives (b + 256 * more)) s words rest v) → Rest t.first
        → (bytes : List ℕ) × (joined (s.memory at) (bytes_at s.memory (at + 1) n) ≡ Some bytes) × (little_endian bytes ≡ v)
    by_rest b is t more = (b ∷ more.0, (λ i. joined (is i) (more.1 i)), ap (λ x. b + 256 * x) more.2 ∙ gives_one t.second_is)

    by_byte : ((x : ℕ) (more : List ℕ) → outcome (stored_number n (at + 1)) s words ≡ Some (x, more) → Rest x) → (m : Option ℕ) → s.memory at ≡ m
        → with_byte m None (λ b. outcome (stored_number n (at + 1) >>= (λ more. gives (b + 256 * more))) s words) ≡ Some (v, rest)
        → (bytes : List ℕ) × (joined (s.memory at) (bytes_at s.memory (at + 1) n) ≡ Some bytes) × (little_endian bytes ≡ v)
    by_byte shorter None m_is e = absurd (cc)
    by_byte shorter (Some b) m_is e =
        let t = split (stored_number n (at + 1)) (λ more. gives (b + 256 * more)) s words rest v e in
        by_rest b m_is t (shorter t.first t.between t.first_is)

module _ (lane : ℕ) (w : World) (n : ℕ) where
  -- any number of so many bits
  any_has : (width : Width) → n < 2 ^ bits width → HasValue lane w n (any_of width)
  any_has B8 lt = numbers_has lane w n (omega arith) (up_to 255) (member-up_to 255 n (omega arith) (omega arith))
  any_has W16 lt = numbers_has lane w n (omega arith) (up_to 65535) (member-up_to 65535 n (omega arith) (omega arith))
  any_has D32 lt = tt

  numbers_read : (width : Width) (v : Values) → n < 2 ^ bits width → n < 2 ^ 32 → HasValue lane w n v → HasValue lane w n (numbers_or_any width (only_number v))
  numbers_read width v lt word has = by_option (only_number v) refl
    where
      by_option : (o : Option Interval) → only_number v ≡ o → HasValue lane w n (numbers_or_any width o)
      by_option None is = any_has width lt
      by_option (Some x) is = numbers_has lane w n word x (only_has lane w n word v x is has)

  read_as_has : (width : Width) (v : Values) → n < 2 ^ bits width → HasValue lane w n v → HasValue lane w n (read_as width v)
  read_as_has B8 v lt has = numbers_read B8 v lt (omega arith) has
  read_as_has W16 v lt has = numbers_read W16 v lt (omega arith) has
  read_as_has D32 v lt has = has

module _ (image : Image) (lane : ℕ) (a : AbsState) (p : ℕ) (s : State) (d : Division) (known : IsKnown image lane a p s) (form : HasCanonical a) where
  sized : IsSized s
  sized = known.whole.laid_out.sized

  -- a number of so many bytes
  bytes_below : (width : Width) (at : ℕ) (bytes : List ℕ) → bytes_at s.memory at (size width) ≡ Some bytes → little_endian bytes < 2 ^ bits width
  bytes_below B8 at bytes e = let b = below_bytes s.memory sized.memory at 1 bytes e in let n = numbers_1 in omega arith
  bytes_below W16 at bytes e = let b = below_bytes s.memory sized.memory at 2 bytes e in let n = numbers_2 in omega arith
  bytes_below D32 at bytes e = let b = below_bytes s.memory sized.memory at 4 bytes e in let n = numbers_4 in omega arith

  -- bytes that are read are there
  are_mapped : (at n : ℕ) (bytes : List ℕ) → bytes_at s.memory at n ≡ Some bytes → (k : ℕ) → k < n → is_some (s.memory (at + k)) ≡ true
  are_mapped at n bytes e k lt = bytes_mapped s.memory at n bytes e k lt

  stored_has : (width : Width) (m : Mem) (at n : ℕ) (words rest : List ℕ) → at < 2 ^ 32 → HasValue lane (world_of s) at (address a m) → outcome (stored_number (size width) at) s words ≡ Some (n, rest)
      → HasValue lane (world_of s) n (read_as width (read a d p (address a m) (size width)))
  stored_has width m at n words rest lt has e =
      let b = number_bytes s (size width) at n words rest e in
      let range : IsRange lane s (address a m) at (size width) (size width) =
      record { word = lt; member = has; some = some width; within = omega arith; mapped = are_mapped at (size width) b.0 b.1 } in
      subst (λ x. HasValue lane (world_of s) x (read_as width (read a d p (address a m) (size width)))) b.2
      (read_as_has lane (world_of s) (little_endian b.0) width (read a d p (address a m) (size width)) (bytes_below width at b.0 b.1)
      (read_has image lane a p s known at (size width) d (address a m) range form b.0 b.1))
    where
      some : (width : Width) → 1 ≤ size width
      some B8 = omega arith
      some W16 = omega arith
      some D32 = omega arith

  any_low : (width : Width) (word : ℕ) → HasValue lane (world_of s) (low_part width word) (any_of width)
  any_low B8 word = any_has lane (world_of s) (word % 256) B8 (omega arith)
  any_low W16 word = any_has lane (world_of s) (word % 65536) W16 (omega arith)
  any_low D32 word = tt

  in_memory : (width : Width) (m : Mem) (gs : Bool) (at n : ℕ) (words rest : List ℕ) → at < 2 ^ 32 → HasValue lane (world_of s) at (address a m) → outcome (memory_read width gs at) s words ≡ Some (n, rest)
      → HasValue lane (world_of s) n (cond gs (any_of width) (read_as width (read a d p (address a m) (size width))))
  unfolding memory_read any_word
  in_memory width m true at n [] rest lt has e = absurd (cc)
  in_memory width m true at n (word ∷ words) rest lt has e = subst (λ x. HasValue lane (world_of s) x (any_of width)) (gives_one e) (any_low width word)
  in_memory width m false at n words rest lt has e = stored_has width m at n words rest lt has e

pub memory_operands : MemoryOperandsAreMembers
memory_operands image lane a p s d width m at words rest n known form lt has e = in_memory image lane a p s d known form width m m.gs at n words rest lt has e
