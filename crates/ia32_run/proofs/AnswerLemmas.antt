-- What the rows of externs read and give, where what they ask for is mapped; and that they give nothing where it isn't.
use Rattle.std.proofs.Common.{◌≡◌, ℕ, zero, suc, ◌+◌, ◌*◌, ◌<◌, List, [], ◌∷◌, ◌++◌, length, refl, sym, ap, ◌∙◌, subst, append_assoc, arith}
use Rattle.std.specs.Prelude.{Bool, true, false, ◌&&◌, ◌||◌, ◌==◌, Option, Some, None, is_some, option_map}
use Rattle.std.proofs.lemmas.Bool.Decides.{nat_tests}
use Rattle.std.proofs.lemmas.Option.{none-some, same_Some}
use Rattle.item_list.specs.Ranges.{within}
use Rattle.item_list.proofs.OptionLaws.{some_there}
use Rattle.ia32_semantics.specs.State.{State, Bytes, Location, InRegister, InFlag, AtByte, bytes_at, little_endian, joined, word_at}
use Rattle.ia32_semantics.specs.Division.{division_flags}
use Rattle.ia32_semantics.specs.Reading.{Reading, gives, byte, ◌>>=◌, outcome, asks, with_byte, is_register, is_byte}
use Rattle.ia32_semantics.specs.Effects.{at_byte, all_among, is_mapped}
use Rattle.ia32_semantics.specs.Operands.{stored_number, stored_word, whole_register, any_word, any_flag, any_flags}
use Rattle.ia32_semantics.specs.Externs.{Results, any_results, words_from, nth_of}
use Rattle.ia32_semantics.proofs.EffectLemmas.{and_left, and_right}
use Rattle.std.proofs.lemmas.Bool.{and_from}
use Rattle.ia32_semantics.proofs.ReadingLemmas.{then_outcome, then_asks, outcome_bind, asks_bind}
use Rattle.ia32_memory.specs.Mapped.{number_at}
use Rattle.ia32_machine.proofs.SpanLemmas.{here_or}
use Rattle.ia32_run.specs.Answers.{results_of}

-- -- Eight words are the results

pub any_given : {A : Type 0} (k : Results → Reading A) (s : State) (words rest : List ℕ) → length words ≡ 8 → outcome (any_results >>= k) s (words ++ rest) ≡ outcome (k (results_of words)) s rest
unfolding any_results any_word any_flags any_flag division_flags
any_given k s (a ∷ b ∷ c ∷ d ∷ e ∷ f ∷ g ∷ h ∷ []) rest long = refl
any_given k s (a ∷ b ∷ c ∷ d ∷ e ∷ f ∷ g ∷ h ∷ i ∷ more) rest long = absurd (omega arith)
any_given k s (a ∷ b ∷ c ∷ d ∷ e ∷ f ∷ g ∷ []) rest long = absurd (omega arith)
any_given k s (a ∷ b ∷ c ∷ d ∷ e ∷ f ∷ []) rest long = absurd (omega arith)
any_given k s (a ∷ b ∷ c ∷ d ∷ e ∷ []) rest long = absurd (omega arith)
any_given k s (a ∷ b ∷ c ∷ d ∷ []) rest long = absurd (omega arith)
any_given k s (a ∷ b ∷ c ∷ []) rest long = absurd (omega arith)
any_given k s (a ∷ b ∷ []) rest long = absurd (omega arith)
any_given k s (a ∷ []) rest long = absurd (omega arith)
any_given k s [] rest long = absurd (omega arith)

pub any_asks : {A : Type 0} (k : Results → Reading A) (s : State) (words rest : List ℕ) (l : Location) → length words ≡ 8 → asks (any_results >>= k) s (words ++ rest) l ≡ asks (k (results_of words)) s rest l
unfolding any_results any_word any_flags any_flag division_flags
any_asks k s (a ∷ b ∷ c ∷ d ∷ e ∷ f ∷ g ∷ h ∷ []) rest l long = refl
any_asks k s (a ∷ b ∷ c ∷ d ∷ e ∷ f ∷ g ∷ h ∷ i ∷ more) rest l long = absurd (omega arith)
any_asks k s (a ∷ b ∷ c ∷ d ∷ e ∷ f ∷ g ∷ []) rest l long = absurd (omega arith)
any_asks k s (a ∷ b ∷ c ∷ d ∷ e ∷ f ∷ []) rest l long = absurd (omega arith)
any_asks k s (a ∷ b ∷ c ∷ d ∷ e ∷ []) rest l long = absurd (omega arith)
any_asks k s (a ∷ b ∷ c ∷ d ∷ []) rest l long = absurd (omega arith)
any_asks k s (a ∷ b ∷ c ∷ []) rest l long = absurd (omega arith)
any_asks k s (a ∷ b ∷ []) rest l long = absurd (omega arith)
any_asks k s (a ∷ []) rest l long = absurd (omega arith)
any_asks k s [] rest l long = absurd (omega arith)

pub register_given : {A : Type 0} (n : ℕ) (k : ℕ → Reading A) (s : State) (words : List ℕ) → outcome (whole_register n >>= k) s words ≡ outcome (k (s.registers n)) s words
unfolding whole_register
register_given n k s words = refl

pub register_asks : {A : Type 0} (n : ℕ) (k : ℕ → Reading A) (s : State) (words : List ℕ) (l : Location) → asks (whole_register n >>= k) s words l ≡ (is_register n l || asks (k (s.registers n)) s words l)
unfolding whole_register
register_asks n k s words l = refl

-- -- Readings of bytes alone

-- it gives this, takes these words, and asks for the n bytes from an address on
pub record ReadsBytes {A : Type 0} (t : Reading A) (s : State) (used : List ℕ) (a n : ℕ) (x : A) : Type 0 where
  pub given : (rest : List ℕ) → outcome t s (used ++ rest) ≡ Some (x, rest)
  pub asked : (rest : List ℕ) (l : Location) → asks t s (used ++ rest) l ≡ at_byte (within a (a + n)) l

at_either : (p q r : ℕ → Bool) (l : Location) → ((x : ℕ) → (p x || q x) ≡ r x) → (at_byte p l || at_byte q l) ≡ at_byte r l
at_either p q r (InRegister n) same = refl
at_either p q r (InFlag n) same = refl
at_either p q r (AtByte x) same = same x

pub at_never : (a : ℕ) (l : Location) → false ≡ at_byte (within a (a + 0)) l
at_never a (InRegister n) = refl
at_never a (InFlag n) = refl
at_never a (AtByte x) = grind (arith, nat_tests)

at_one : (a n : ℕ) (l : Location) → (is_byte a l || at_byte (within (a + 1) (a + 1 + n)) l) ≡ at_byte (within a (a + suc n)) l
at_one a n (InRegister m) = refl
at_one a n (InFlag m) = refl
at_one a n (AtByte x) = let more : a + 1 + n ≡ a + suc n = omega arith in ap (λ e. a == x || within (a + 1) e x) more ∙ here_or a (a + suc n) x (omega arith)

pub reads_gives : {A : Type 0} (s : State) (a : ℕ) (x : A) → ReadsBytes (gives x) s [] a 0 x
reads_gives s a x = record { given = λ rest. refl; asked = λ rest l. at_never a l }

or_none : (b : Bool) → (b || false) ≡ b
or_none true = refl
or_none false = refl

pub reads_last : {A B : Type 0} (t : Reading A) (f : A → B) (s : State) (used : List ℕ) (a n : ℕ) (x : A) → ReadsBytes t s used a n x → ReadsBytes (t >>= (λ v. gives (f v))) s used a n (f x)
reads_last t f s used a n x r = record {
  given = λ rest. outcome_bind t (λ v. gives (f v)) s (used ++ rest) ∙ ap (λ o. then_outcome o (λ v left. Some (f v, left))) (r.given rest);
  asked = λ rest l. asks_bind t (λ v. gives (f v)) s (used ++ rest) l ∙ ap (λ o. asks t s (used ++ rest) l || then_asks o (λ v left. false)) (r.given rest)
      ∙ or_none (asks t s (used ++ rest) l) ∙ r.asked rest l;
}

-- one after another, with the words of both
module _ {A B : Type 0} (t : Reading A) (k : A → Reading B) (s : State) (u v : List ℕ) (b c m n : ℕ) (x : A) (y : B) (r : ReadsBytes t s u b m x) (q : ReadsBytes (k x) s v c n y) where
  both_given : (rest : List ℕ) → outcome (t >>= k) s ((u ++ v) ++ rest) ≡ Some (y, rest)
  both_given rest =
      ap (outcome (t >>= k) s) (append_assoc u v rest) ∙ outcome_bind t k s (u ++ (v ++ rest)) ∙ ap (λ o. then_outcome o (λ z left. outcome (k z) s left)) (r.given (v ++ rest)) ∙ q.given rest

  both_asked : (rest : List ℕ) (l : Location) → asks (t >>= k) s ((u ++ v) ++ rest) l ≡ (at_byte (within b (b + m)) l || at_byte (within c (c + n)) l)
  both_asked rest l =
      ap (λ w. asks (t >>= k) s w l) (append_assoc u v rest) ∙ asks_bind t k s (u ++ (v ++ rest)) l
      ∙ ap (λ o. asks t s (u ++ (v ++ rest)) l || then_asks o (λ z left. asks (k z) s left l)) (r.given (v ++ rest))
      ∙ ap (λ z. z || asks (k x) s (v ++ rest) l) (r.asked (v ++ rest) l) ∙ ap (λ z. at_byte (within b (b + m)) l || z) (q.asked rest l)

-- the later bytes first
pub reads_back : {A B : Type 0} (t : Reading A) (k : A → Reading B) (s : State) (u v : List ℕ) (a m n : ℕ) (x : A) (y : B) → ReadsBytes t s u (a + m) n x → ReadsBytes (k x) s v a m y → ReadsBytes (t >>= k) s (u ++ v) a (m + n) y
reads_back t k s u v a m n x y r q = record {
  given = both_given t k s u v (a + m) a n m x y r q;
  asked = λ rest l. both_asked t k s u v (a + m) a n m x y r q rest l ∙ at_either (within (a + m) (a + m + n)) (within a (a + m)) (within a (a + (m + n))) l (λ z. grind (arith, nat_tests));
}

-- and the earlier ones first
pub reads_on : {A B : Type 0} (t : Reading A) (k : A → Reading B) (s : State) (u v : List ℕ) (a m n : ℕ) (x : A) (y : B) → ReadsBytes t s u a m x → ReadsBytes (k x) s v (a + m) n y → ReadsBytes (t >>= k) s (u ++ v) a (m + n) y
reads_on t k s u v a m n x y r q = record {
  given = both_given t k s u v a (a + m) m n x y r q;
  asked = λ rest l. both_asked t k s u v a (a + m) m n x y r q rest l ∙ at_either (within a (a + m)) (within (a + m) (a + m + n)) (within a (a + (m + n))) l (λ z. grind (arith, nat_tests));
}

-- the first of which asks for nothing
pub reads_free : {A B : Type 0} (t : Reading A) (k : A → Reading B) (s : State) (u v : List ℕ) (a n : ℕ) (x : A) (y : B) → ReadsBytes t s u a 0 x → ReadsBytes (k x) s v a n y → ReadsBytes (t >>= k) s (u ++ v) a n y
reads_free t k s u v a n x y r q = record {
  given = both_given t k s u v a a 0 n x y r q;
  asked = λ rest l. both_asked t k s u v a a 0 n x y r q rest l ∙ ap (λ z. z || at_byte (within a (a + n)) l) (sym (at_never a l));
}

pub reads_byte : {A : Type 0} (a b n : ℕ) (k : ℕ → Reading A) (s : State) (used : List ℕ) (y : A) → s.memory a ≡ Some b → ReadsBytes (k b) s used (a + 1) n y → ReadsBytes (byte a k) s used a (suc n) y
reads_byte a b n k s used y is q = record {
  given = λ rest. ap (λ m. with_byte m None (λ v. outcome (k v) s (used ++ rest))) is ∙ q.given rest;
  asked = λ rest l. ap (λ m. is_byte a l || with_byte m false (λ v. asks (k v) s (used ++ rest) l)) is ∙ ap (λ z. is_byte a l || z) (q.asked rest l) ∙ at_one a n l;
}

-- -- Mapped bytes

and_group : (p q r : Bool) → (p && (q && r)) ≡ ((p && q) && r)
and_group true q r = refl
and_group false q r = refl

pub all_split : (test : ℕ → Bool) (a m n : ℕ) → all_among test a (m + n) ≡ (all_among test a m && all_among test (a + m) n)
all_split test a zero n =
    let none : 0 + n ≡ n = omega arith in let same : a ≡ a + 0 = omega arith in
    ap (λ k. all_among test a k) none ∙ ap (λ k. all_among test k n) same
all_split test a (suc m) n =
    let long : suc m + n ≡ suc (m + n) = omega arith in
    let more : a + 1 + m ≡ a + suc m = omega arith in
    ap (λ k. all_among test a k) long
    ∙ ap (λ b. test a && b) (all_split test (a + 1) m n ∙ ap (λ k. all_among test (a + 1) m && all_among test k n) more)
    ∙ and_group (test a) (all_among test (a + 1) m) (all_among test (a + suc m) n)

pub first_of : (test : ℕ → Bool) (a m n : ℕ) → all_among test a (m + n) ≡ true → all_among test a m ≡ true
first_of test a m n all = and_left (all_among test a m) (all_among test (a + m) n) (sym (all_split test a m n) ∙ all)

pub rest_of : (test : ℕ → Bool) (a m n : ℕ) → all_among test a (m + n) ≡ true → all_among test (a + m) n ≡ true
rest_of test a m n all = and_right (all_among test a m) (all_among test (a + m) n) (sym (all_split test a m n) ∙ all)

pub both_of : (test : ℕ → Bool) (a m n : ℕ) → all_among test a m ≡ true → all_among test (a + m) n ≡ true → all_among test a (m + n) ≡ true
both_of test a m n first rest = all_split test a m n ∙ and_from (all_among test a m) (all_among test (a + m) n) first rest

-- the number of bytes that are mapped is there, and it is what is read
pub record HasNumber (s : State) (n a : ℕ) : Type 0 where
  pub number : ℕ
  pub is : number_at s.memory n a ≡ Some number
  pub reads : ReadsBytes (stored_number n a) s [] a n number

pub number_more : (b v : ℕ) (m : Bytes) (a n : ℕ) → m a ≡ Some b → number_at m n (a + 1) ≡ Some v → number_at m (suc n) a ≡ Some (b + 256 * v)
unfolding bytes_at little_endian
number_more b v m a n is rest = ap (λ o. option_map little_endian (joined o (bytes_at m (a + 1) n))) is ∙ go (bytes_at m (a + 1) n) rest
  where
    go : (o : Option (List ℕ)) → option_map little_endian o ≡ Some v → option_map little_endian (joined (Some b) o) ≡ Some (b + 256 * v)
    go None e = absurd (none-some _ e)
    go (Some bytes) e = let same : little_endian bytes ≡ v = same_Some _ _ e in ap (λ w. Some (b + 256 * w)) same

pub has_number : (s : State) (n a : ℕ) → all_among (is_mapped s.memory) a n ≡ true → HasNumber s n a
unfolding stored_number bytes_at little_endian
has_number s zero a mapped = record { number = 0; is = refl; reads = reads_gives s a 0 }
has_number s (suc n) a mapped =
    let one = some_there (s.memory a) (and_left (is_mapped s.memory a) _ mapped) in
    let rest = has_number s n (a + 1) (and_right (is_mapped s.memory a) _ mapped) in
    record {
      number = one.0 + 256 * rest.number;
      is = number_more one.0 rest.number s.memory a n one.1 rest.is;
      reads = reads_byte a one.0 n _ s [] (one.0 + 256 * rest.number) one.1 (reads_last (stored_number n (a + 1)) (λ v. one.0 + 256 * v) s [] (a + 1) n rest.number rest.reads);
    }

-- and so are words
pub record HasWords (s : State) (n a : ℕ) : Type 0 where
  pub words : List ℕ
  pub reads : ReadsBytes (words_from a n) s [] a (4 * n) words
  pub nth : (k v : ℕ) → k < n → word_at s.memory (a + 4 * k) ≡ Some v → nth_of k words ≡ v

pub has_words : (s : State) (n a : ℕ) → all_among (is_mapped s.memory) a (4 * n) ≡ true → HasWords s n a
unfolding words_from
has_words s zero a mapped = record { words = []; reads = reads_gives s a []; nth = λ k v lt. absurd (omega arith) }
has_words s (suc n) a mapped =
    let long : 4 * suc n ≡ 4 + 4 * n = omega arith in
    let all : all_among (is_mapped s.memory) a (4 + 4 * n) ≡ true = ap (all_among (is_mapped s.memory) a) (sym long) ∙ mapped in
    let one = has_number s 4 a (first_of (is_mapped s.memory) a 4 (4 * n) all) in
    let rest = has_words s n (a + 4) (rest_of (is_mapped s.memory) a 4 (4 * n) all) in
    record {
      words = one.number ∷ rest.words;
      reads = subst (λ m. ReadsBytes (words_from a (suc n)) s [] a m (one.number ∷ rest.words)) (sym long)
          (reads_on (stored_word a) _ s [] [] a 4 (4 * n) one.number (one.number ∷ rest.words) one.reads (reads_last (words_from (a + 4) n) (λ others. one.number ∷ others) s [] (a + 4) (4 * n) rest.words rest.reads));
      nth = λ k v lt. go one.number one.is rest.words rest.nth k v lt;
    }
  where
    go : (first : ℕ) → number_at s.memory 4 a ≡ Some first → (others : List ℕ) → ((k v : ℕ) → k < n → word_at s.memory (a + 4 + 4 * k) ≡ Some v → nth_of k others ≡ v)
        → (k v : ℕ) → k < suc n → word_at s.memory (a + 4 * k) ≡ Some v → nth_of k (first ∷ others) ≡ v
    go first is others later zero v lt at = let same : a ≡ a + 4 * 0 = omega arith in same_Some first v (sym is ∙ ap (word_at s.memory) same ∙ at)
    go first is others later (suc k) v lt at = let same : a + 4 + 4 * k ≡ a + 4 * suc k = omega arith in later k v (omega arith) (ap (word_at s.memory) same ∙ at)

-- -- What isn't mapped isn't read

-- where it gives something the n bytes from an address on are mapped
pub record Needs {A : Type 0} (t : Reading A) (s : State) (a n : ℕ) : Type 0 where
  pub mapped : (words left : List ℕ) (x : A) → outcome t s words ≡ Some (x, left) → all_among (is_mapped s.memory) a n ≡ true

pub record Two {A B : Type 0} (t : Reading A) (k : A → Reading B) (s : State) (words left : List ℕ) (y : B) : Type 0 where
  pub x : A
  pub mid : List ℕ
  pub first : outcome t s words ≡ Some (x, mid)
  pub second : outcome (k x) s mid ≡ Some (y, left)

two_go : {A B : Type 0} (t : Reading A) (k : A → Reading B) (s : State) (words left : List ℕ) (y : B) (o : Option (A × List ℕ)) → outcome t s words ≡ o
    → then_outcome o (λ x mid. outcome (k x) s mid) ≡ Some (y, left) → Two t k s words left y
two_go t k s words left y None is e = absurd (none-some _ e)
two_go t k s words left y (Some done) is e = record { x = done.0; mid = done.1; first = is; second = e }

pub in_two : {A B : Type 0} (t : Reading A) (k : A → Reading B) (s : State) (words left : List ℕ) (y : B) → outcome (t >>= k) s words ≡ Some (y, left) → Two t k s words left y
in_two t k s words left y e = two_go t k s words left y (outcome t s words) refl (sym (outcome_bind t k s words) ∙ e)

pub needs_first : {A B : Type 0} (t : Reading A) (k : A → Reading B) (s : State) (a n : ℕ) → Needs t s a n → Needs (t >>= k) s a n
needs_first t k s a n needs = record { mapped = λ words left y e. let two = in_two t k s words left y e in needs.mapped words two.mid two.x two.first }

pub needs_later : {A B : Type 0} (t : Reading A) (k : A → Reading B) (s : State) (a n : ℕ) → ((x : A) → Needs (k x) s a n) → Needs (t >>= k) s a n
needs_later t k s a n needs = record { mapped = λ words left y e. let two = in_two t k s words left y e in (needs two.x).mapped two.mid left y two.second }

pub needs_both : {A : Type 0} (t : Reading A) (s : State) (a m n : ℕ) → Needs t s a m → Needs t s (a + m) n → Needs t s a (m + n)
needs_both t s a m n one more = record { mapped = λ words left y e. both_of (is_mapped s.memory) a m n (one.mapped words left y e) (more.mapped words left y e) }

pub needs_none : {A : Type 0} (t : Reading A) (s : State) (a : ℕ) → Needs t s a 0
needs_none t s a = record { mapped = λ words left y e. refl }

pub needs_byte : {A : Type 0} (k : ℕ → Reading A) (s : State) (a n : ℕ) → ((b : ℕ) → Needs (k b) s (a + 1) n) → Needs (byte a k) s a (suc n)
needs_byte {A = A} k s a n later = record { mapped = λ words left y e. go (s.memory a) refl words left y e }
  where
    go : (o : Option ℕ) → s.memory a ≡ o → (words left : List ℕ) (y : A) → with_byte o None (λ v. outcome (k v) s words) ≡ Some (y, left) → all_among (is_mapped s.memory) a (suc n) ≡ true
    go None is words left y e = absurd (none-some _ e)
    go (Some b) is words left y e = and_from (is_mapped s.memory a) _ (ap is_some is) ((later b).mapped words left y e)

pub needs_number : (s : State) (n a : ℕ) → Needs (stored_number n a) s a n
unfolding stored_number
needs_number s zero a = needs_none _ s a
needs_number s (suc n) a = needs_byte _ s a n (λ b. needs_first (stored_number n (a + 1)) _ s (a + 1) n (needs_number s n (a + 1)))

pub needs_words : (s : State) (n a : ℕ) → Needs (words_from a n) s a (4 * n)
unfolding words_from
needs_words s zero a = needs_none _ s a
needs_words s (suc n) a =
    let long : 4 + 4 * n ≡ 4 * suc n = omega arith in
    subst (λ m. Needs (words_from a (suc n)) s a m) long
    (needs_both _ s a 4 (4 * n) (needs_first (stored_word a) _ s a 4 (needs_number s 4 a)) (needs_later (stored_word a) _ s (a + 4) (4 * n) (λ first. needs_first (words_from (a + 4) n) _ s (a + 4) (4 * n) (needs_words s n (a + 4)))))
