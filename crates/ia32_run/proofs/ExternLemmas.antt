-- The rows of externs with their words: what they give, and which bytes they ask for.
use Rattle.std.proofs.Common.{◌≡◌, ℕ, zero, suc, ◌+◌, ◌-◌, ◌*◌, ◌%◌, ◌≤◌, List, [], ◌∷◌, ◌++◌, length, replicate, refl, sym, ap, ◌∙◌, subst, append_assoc, arith}
use Rattle.std.specs.Prelude.{Bool, true, false, ◌||◌, ◌==◌, nat_lt, if◌then◌else◌, cond, max, Some}
use Rattle.std.proofs.lemmas.Bool.Decides.{nat_tests}
use Rattle.std.proofs.lemmas.List.{append-nil}
use Rattle.std.proofs.lemmas.Option.{same_Some}
use Rattle.item_list.specs.Ranges.{within}
use Rattle.item_list.proofs.OptionLaws.{some_there}
use Rattle.ia32_semantics.specs.State.{State, Bytes, Location, bytes_at, little_endian, word_at}
use Rattle.ia32_semantics.specs.Reading.{Reading, gives, faults, ◌>>=◌, outcome, asks, is_register}
use Rattle.ia32_semantics.specs.Effects.{at_byte, all_among, is_mapped, overwritten}
use Rattle.ia32_semantics.specs.Outcome.{Outcome}
use Rattle.ia32_semantics.specs.Operands.{stored_word, whole_register, any_word}
use Rattle.ia32_semantics.specs.Externs.{Results, any_results, any_words, any_prefix, arguments, argument, answered, pure, allocator, filler, number_over, byte_over}
use Rattle.ia32_semantics.proofs.EffectLemmas.{and_left, and_right, over_byte}
use Rattle.ia32_semantics.proofs.ReadingLemmas.{then_outcome, then_asks, outcome_bind, asks_bind}
use Rattle.ia32_memory.specs.Mapped.{number_at}
use Rattle.ia32_run.specs.Answers.{results_of, plain_row, plain_done, alloc_done, fill_done}
use Rattle.ia32_run.proofs.AnswerLemmas.{any_given, any_asks, register_given, register_asks, at_never, ReadsBytes, reads_gives, reads_last, reads_back, reads_free, reads_byte, first_of, rest_of, has_number, number_more, has_words, Needs, needs_none, needs_first, needs_later, needs_both, needs_byte, needs_number, needs_words}

abbrev pub sp : State → ℕ
sp s = s.registers 4

-- with these words a row gives this, and asks for ESP and the bytes from there on
pub record RowDone (t : Reading Outcome) (s : State) (choices : List ℕ) (bytes : ℕ) (done : Outcome) : Type 0 where
  pub given : (rest : List ℕ) → outcome t s (choices ++ rest) ≡ Some (done, rest)
  pub asked : (rest : List ℕ) (l : Location) → asks t s (choices ++ rest) l ≡ (is_register 4 l || at_byte (within (s.registers 4) (s.registers 4 + bytes)) l)

body_done : (k : Results → ℕ → Reading Outcome) (s : State) (words used : List ℕ) (n : ℕ) (y : Outcome) → length words ≡ 8 → ReadsBytes (k (results_of words) (s.registers 4)) s used (s.registers 4) n y
    → RowDone (any_results >>= (λ r. whole_register 4 >>= (λ sp. k r sp))) s (words ++ used) n y
body_done k s words used n y long r = record {
  given = λ rest.
      ap (outcome (any_results >>= (λ r. whole_register 4 >>= (λ sp. k r sp))) s) (append_assoc words used rest)
      ∙ any_given (λ r. whole_register 4 >>= (λ sp. k r sp)) s words (used ++ rest) long ∙ register_given 4 (λ sp. k (results_of words) sp) s (used ++ rest) ∙ r.given rest;
  asked = λ rest l.
      ap (λ w. asks (any_results >>= (λ r. whole_register 4 >>= (λ sp. k r sp))) s w l) (append_assoc words used rest)
      ∙ any_asks (λ r. whole_register 4 >>= (λ sp. k r sp)) s words (used ++ rest) l long ∙ register_asks 4 (λ sp. k (results_of words) sp) s (used ++ rest) l ∙ ap (λ b. is_register 4 l || b) (r.asked rest l);
}

words_done : (k : Results → ℕ → Reading Outcome) (s : State) (words : List ℕ) (n : ℕ) (y : Outcome) → length words ≡ 8 → ReadsBytes (k (results_of words) (s.registers 4)) s [] (s.registers 4) n y
    → RowDone (any_results >>= (λ r. whole_register 4 >>= (λ sp. k r sp))) s words n y
words_done k s words n y long r =
    subst (λ c. RowDone (any_results >>= (λ r. whole_register 4 >>= (λ sp. k r sp))) s c n y) (append-nil words) (body_done k s words [] n y long r)

or_none : (b : Bool) → (b || false) ≡ b
or_none true = refl
or_none false = refl

row_last : (t : Reading Outcome) (f : Outcome → Outcome) (s : State) (choices : List ℕ) (n : ℕ) (x : Outcome) → RowDone t s choices n x → RowDone (t >>= (λ v. gives (f v))) s choices n (f x)
row_last t f s choices n x r = record {
  given = λ rest. outcome_bind t (λ v. gives (f v)) s (choices ++ rest) ∙ ap (λ o. then_outcome o (λ v left. Some (f v, left))) (r.given rest);
  asked = λ rest l. asks_bind t (λ v. gives (f v)) s (choices ++ rest) l ∙ ap (λ o. asks t s (choices ++ rest) l || then_asks o (λ v left. false)) (r.given rest)
      ∙ or_none (asks t s (choices ++ rest) l) ∙ r.asked rest l;
}

needs_register : (n : ℕ) (k : ℕ → Reading Outcome) (s : State) (a m : ℕ) → Needs (k (s.registers n)) s a m → Needs (whole_register n >>= k) s a m
needs_register n k s a m needs = record { mapped = λ words left y e. needs.mapped words left y (sym (register_given n k s words) ∙ e) }

-- -- Externs that only answer

pure_done : (n : ℕ) (s : State) (words : List ℕ) (place : ℕ) → length words ≡ 8 → all_among (is_mapped s.memory) (s.registers 4) (4 + 4 * n) ≡ true → word_at s.memory (s.registers 4) ≡ Some place
    → RowDone (pure n) s words (4 + 4 * n) (answered (results_of words) (s.registers 4) place)
pure_done n s words place long mapped at =
    let word = has_number s 4 (s.registers 4) (first_of (is_mapped s.memory) (s.registers 4) 4 (4 * n) mapped) in
    let args = has_words s n (s.registers 4 + 4) (rest_of (is_mapped s.memory) (s.registers 4) 4 (4 * n) mapped) in
    let same : word.number ≡ place = same_Some word.number place (sym word.is ∙ at) in
    words_done (λ r sp. arguments sp n >>= (λ read. stored_word sp >>= (λ place. gives (answered r sp place)))) s words (4 + 4 * n) (answered (results_of words) (s.registers 4) place) long
    (reads_back (arguments (s.registers 4) n) (λ read. stored_word (s.registers 4) >>= (λ place. gives (answered (results_of words) (s.registers 4) place))) s [] [] (s.registers 4) 4 (4 * n) args.words
    (answered (results_of words) (s.registers 4) place) args.reads
    (subst (λ p. ReadsBytes (stored_word (s.registers 4) >>= (λ place. gives (answered (results_of words) (s.registers 4) place))) s [] (s.registers 4) 4 (answered (results_of words) (s.registers 4) p)) same
    (reads_last (stored_word (s.registers 4)) (λ place. answered (results_of words) (s.registers 4) place) s [] (s.registers 4) 4 word.number word.reads)))

pub plain_is : (reads_all : Bool) (n : ℕ) (s : State) (words : List ℕ) (place : ℕ) → length words ≡ 8 → all_among (is_mapped s.memory) (s.registers 4) (4 + 4 * n) ≡ true → word_at s.memory (s.registers 4) ≡ Some place
    → RowDone (plain_row reads_all n) s words (4 + 4 * n) (plain_done reads_all (results_of words) (s.registers 4) place)
plain_is false n s words place long mapped at = pure_done n s words place long mapped at
plain_is true n s words place long mapped at =
    row_last (pure n) (λ done. record done { reads_all = true }) s words (4 + 4 * n) (answered (results_of words) (s.registers 4) place) (pure_done n s words place long mapped at)

pure_needs : (n : ℕ) (s : State) → Needs (pure n) s (s.registers 4) (4 + 4 * n)
pure_needs n s =
    needs_later any_results _ s (s.registers 4) (4 + 4 * n) (λ r. needs_register 4 _ s (s.registers 4) (4 + 4 * n)
    (needs_both _ s (s.registers 4) 4 (4 * n)
    (needs_later (arguments (s.registers 4) n) _ s (s.registers 4) 4 (λ read. needs_first (stored_word (s.registers 4)) _ s (s.registers 4) 4 (needs_number s 4 (s.registers 4))))
    (needs_first (arguments (s.registers 4) n) _ s (s.registers 4 + 4) (4 * n) (needs_words s n (s.registers 4 + 4)))))

pub plain_needs : (reads_all : Bool) (n : ℕ) (s : State) → Needs (plain_row reads_all n) s (s.registers 4) (4 + 4 * n)
plain_needs false n s = pure_needs n s
plain_needs true n s = needs_first (pure n) _ s (s.registers 4) (4 + 4 * n) (pure_needs n s)

-- -- An extern that allocates

pub alloc_is : (at : ℕ) (s : State) (words : List ℕ) (place size : ℕ) → length words ≡ 8 → all_among (is_mapped s.memory) (s.registers 4) 8 ≡ true
    → word_at s.memory (s.registers 4) ≡ Some place → word_at s.memory (s.registers 4 + 4) ≡ Some size
    → RowDone (allocator at) s words 8 (alloc_done at (results_of words) (s.registers 4) place size)
alloc_is at s words place size long mapped is_place is_size =
    let word = has_number s 4 (s.registers 4) (first_of (is_mapped s.memory) (s.registers 4) 4 4 mapped) in
    let arg = has_number s 4 (s.registers 4 + 4) (rest_of (is_mapped s.memory) (s.registers 4) 4 4 mapped) in
    let same : word.number ≡ place = same_Some word.number place (sym word.is ∙ is_place) in
    let same_size : arg.number ≡ size = same_Some arg.number size (sym arg.is ∙ is_size) in
    words_done (λ r sp. stored_word (sp + 4) >>= (λ count. stored_word sp >>= (λ place. gives (alloc_done at r sp place count)))) s words 8 (alloc_done at (results_of words) (s.registers 4) place size) long
    (reads_back (stored_word (s.registers 4 + 4)) (λ count. stored_word (s.registers 4) >>= (λ place. gives (alloc_done at (results_of words) (s.registers 4) place count))) s [] [] (s.registers 4) 4 4 size
    (alloc_done at (results_of words) (s.registers 4) place size) (subst (λ v. ReadsBytes (stored_word (s.registers 4 + 4)) s [] (s.registers 4 + 4) 4 v) same_size arg.reads)
    (reads_last (stored_word (s.registers 4)) (λ place. alloc_done at (results_of words) (s.registers 4) place size) s [] (s.registers 4) 4 place (subst (λ v. ReadsBytes (stored_word (s.registers 4)) s [] (s.registers 4) 4 v) same word.reads)))

pub alloc_needs : (at : ℕ) (s : State) → Needs (allocator at) s (s.registers 4) 8
alloc_needs at s =
    needs_later any_results _ s (s.registers 4) 8 (λ r. needs_register 4 _ s (s.registers 4) 8
    (needs_both _ s (s.registers 4) 4 4
    (needs_later (stored_word (s.registers 4 + 4)) _ s (s.registers 4) 4 (λ read. needs_first (stored_word (s.registers 4)) _ s (s.registers 4) 4 (needs_number s 4 (s.registers 4))))
    (needs_first (stored_word (s.registers 4 + 4)) _ s (s.registers 4 + 4) 4 (needs_number s 4 (s.registers 4 + 4)))))

-- -- An extern that fills

pub record Over (s : State) (to : ℕ) (bytes : List ℕ) (n a : ℕ) : Type 0 where
  pub number : ℕ
  pub is : number_at (overwritten s.memory to bytes) n a ≡ Some number
  pub reads : ReadsBytes (number_over to bytes n a) s [] a n number

pub over_is : (s : State) (to : ℕ) (bytes : List ℕ) (n a : ℕ) → all_among (is_mapped s.memory) a n ≡ true → Over s to bytes n a
unfolding number_over bytes_at little_endian
over_is s to bytes zero a mapped = record { number = 0; is = refl; reads = reads_gives s a 0 }
over_is s to bytes (suc n) a mapped =
    let one = some_there (s.memory a) (and_left (is_mapped s.memory a) _ mapped) in
    let rest = over_is s to bytes n (a + 1) (and_right (is_mapped s.memory a) _ mapped) in
    record {
      number = byte_over to bytes a one.0 + 256 * rest.number;
      is = number_more (byte_over to bytes a one.0) rest.number (overwritten s.memory to bytes) a n (over_byte s.memory to a one.0 bytes one.1) rest.is;
      reads = reads_byte a one.0 n _ s [] _ one.1 (reads_last (number_over to bytes n (a + 1)) (λ v. byte_over to bytes a one.0 + 256 * v) s [] (a + 1) n rest.number rest.reads);
    }

-- what an extern that fills does when it has its arguments
abbrev filled_after : Results → ℕ → ℕ → ℕ → Reading Outcome
filled_after r sp to count = any_prefix count >>= (λ bytes. number_over to bytes 4 sp >>= (λ place. gives (fill_done r sp to bytes place)))

-- n words of choice that are all the same
same_words : (n w : ℕ) (s : State) (rest : List ℕ) → outcome (any_words n) s (replicate n w ++ rest) ≡ Some (replicate n w, rest)
unfolding any_words any_word
same_words zero w s rest = refl
same_words (suc n) w s rest =
    outcome_bind (any_words n) (λ others. gives (w ∷ others)) s (replicate n w ++ rest) ∙ ap (λ o. then_outcome o (λ others left. Some (w ∷ others, left))) (same_words n w s rest)

words_ask : (n w : ℕ) (s : State) (rest : List ℕ) (l : Location) → asks (any_words n) s (replicate n w ++ rest) l ≡ false
unfolding any_words any_word
words_ask zero w s rest l = refl
words_ask (suc n) w s rest l =
    asks_bind (any_words n) (λ others. gives (w ∷ others)) s (replicate n w ++ rest) l
    ∙ ap (λ o. asks (any_words n) s (replicate n w ++ rest) l || then_asks o (λ others left. false)) (same_words n w s rest)
    ∙ or_none (asks (any_words n) s (replicate n w ++ rest) l) ∙ words_ask n w s rest l

not_above : (n : ℕ) → nat_lt n n ≡ false
not_above n = grind (arith, nat_tests)

-- a whole range of one byte
prefix_is : (n w a : ℕ) (s : State) → ReadsBytes (any_prefix n) s (n ∷ replicate n w) a 0 (replicate n w)
unfolding any_prefix any_word
prefix_is n w a s = record {
  given = λ rest. ap (λ b. outcome (if b then faults else any_words n) s (replicate n w ++ rest)) (not_above n) ∙ same_words n w s rest;
  asked = λ rest l. ap (λ b. asks (if b then faults else any_words n) s (replicate n w ++ rest) l) (not_above n) ∙ words_ask n w s rest l ∙ at_never a l;
}

pub record Fills (s : State) (words : List ℕ) (buffer len to count w place : ℕ) : Type 0 where
  pub long : length words ≡ 8
  pub mapped : all_among (is_mapped s.memory) (s.registers 4) (4 + 4 * max buffer len) ≡ true
  pub some_buffer : 1 ≤ buffer
  pub some_len : 1 ≤ len
  pub to_is : word_at s.memory (s.registers 4 + 4 * buffer) ≡ Some to
  pub count_is : word_at s.memory (s.registers 4 + 4 * len) ≡ Some count
  pub place_is : word_at (overwritten s.memory to (replicate count w)) (s.registers 4) ≡ Some place

pub fill_is : (s : State) (words : List ℕ) (buffer len to count w place : ℕ) → Fills s words buffer len to count w place
    → RowDone (filler buffer len) s (words ++ (count ∷ replicate count w)) (4 + 4 * max buffer len) (fill_done (results_of words) (s.registers 4) to (replicate count w) place)
fill_is s words buffer len to count w place f =
    let a = s.registers 4 in
    let args = has_words s (max buffer len) (s.registers 4 + 4) (rest_of (is_mapped s.memory) (s.registers 4) 4 (4 * max buffer len) f.mapped) in
    let over = over_is s to (replicate count w) 4 (s.registers 4) (first_of (is_mapped s.memory) (s.registers 4) 4 (4 * max buffer len) f.mapped) in
    let same_place : over.number ≡ place = same_Some over.number place (sym over.is ∙ f.place_is) in
    let some_buffer = f.some_buffer in
    let some_len = f.some_len in
    let at_buffer : s.registers 4 + 4 * buffer ≡ s.registers 4 + 4 + 4 * (buffer - 1) = omega arith in
    let at_len : s.registers 4 + 4 * len ≡ s.registers 4 + 4 + 4 * (len - 1) = omega arith in
    let same_to : argument args.words buffer ≡ to = args.nth (buffer - 1) to (omega arith) (ap (word_at s.memory) (sym at_buffer) ∙ f.to_is) in
    let same_count : argument args.words len ≡ count = args.nth (len - 1) count (omega arith) (ap (word_at s.memory) (sym at_len) ∙ f.count_is) in
    let used = count ∷ replicate count w in
    let done = fill_done (results_of words) (s.registers 4) to (replicate count w) place in
    let last : ReadsBytes (number_over to (replicate count w) 4 (s.registers 4) >>= (λ place. gives (fill_done (results_of words) (s.registers 4) to (replicate count w) place))) s [] (s.registers 4) 4 done
    = subst (λ p. ReadsBytes (number_over to (replicate count w) 4 (s.registers 4) >>= (λ place. gives (fill_done (results_of words) (s.registers 4) to (replicate count w) place))) s [] (s.registers 4) 4
    (fill_done (results_of words) (s.registers 4) to (replicate count w) p)) same_place
    (reads_last (number_over to (replicate count w) 4 (s.registers 4)) (λ place. fill_done (results_of words) (s.registers 4) to (replicate count w) place) s [] (s.registers 4) 4 over.number over.reads) in
    let middle : ReadsBytes (filled_after (results_of words) (s.registers 4) to count) s used (s.registers 4) 4 done
    = subst (λ u. ReadsBytes (filled_after (results_of words) (s.registers 4) to count) s u (s.registers 4) 4 done) (append-nil used)
    (reads_free (any_prefix count) _ s used [] (s.registers 4) 4 (replicate count w) done (prefix_is count w (s.registers 4) s) last) in
    let there : ReadsBytes (filled_after (results_of words) (s.registers 4) (argument args.words buffer) (argument args.words len)) s used (s.registers 4) 4 done
    = subst (λ c. ReadsBytes (filled_after (results_of words) (s.registers 4) (argument args.words buffer) c) s used (s.registers 4) 4 done) (sym same_count)
    (subst (λ t. ReadsBytes (filled_after (results_of words) (s.registers 4) t count) s used (s.registers 4) 4 done) (sym same_to) middle) in
    body_done (λ r sp. arguments sp (max buffer len) >>= (λ read. filled_after r sp (argument read buffer) (argument read len))) s words used (4 + 4 * max buffer len) done f.long
    (reads_back (arguments (s.registers 4) (max buffer len)) (λ read. filled_after (results_of words) (s.registers 4) (argument read buffer) (argument read len)) s [] used (s.registers 4) 4 (4 * max buffer len)
    args.words done args.reads there)

needs_over : (s : State) (to : ℕ) (bytes : List ℕ) (n a : ℕ) → Needs (number_over to bytes n a) s a n
unfolding number_over
needs_over s to bytes zero a = needs_none _ s a
needs_over s to bytes (suc n) a = needs_byte _ s a n (λ b. needs_first (number_over to bytes n (a + 1)) _ s (a + 1) n (needs_over s to bytes n (a + 1)))

pub fill_needs : (buffer len : ℕ) (s : State) → Needs (filler buffer len) s (s.registers 4) (4 + 4 * max buffer len)
fill_needs buffer len s =
    let n = max buffer len in
    needs_later any_results _ s (s.registers 4) (4 + 4 * max buffer len) (λ r. needs_register 4 _ s (s.registers 4) (4 + 4 * max buffer len)
    (needs_both _ s (s.registers 4) 4 (4 * max buffer len)
    (needs_later (arguments (s.registers 4) (max buffer len)) _ s (s.registers 4) 4
    (λ read. needs_later (any_prefix (argument read len)) _ s (s.registers 4) 4 (λ bytes. needs_first (number_over (argument read buffer) bytes 4 (s.registers 4)) _ s (s.registers 4) 4 (needs_over s (argument read buffer) bytes 4 (s.registers 4)))))
    (needs_first (arguments (s.registers 4) (max buffer len)) _ s (s.registers 4 + 4) (4 * max buffer len) (needs_words s (max buffer len) (s.registers 4 + 4)))))
