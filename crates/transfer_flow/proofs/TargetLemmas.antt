-- Values of targets as numbers, and numbers as words.
use Rattle.std.proofs.Common.{◌≡◌, ℕ, zero, suc, ◌+◌, ◌*◌, ◌<◌, ◌≤◌, Bool, true, false, ◌||◌, not, List, [], ◌∷◌, ◌++◌, length, take, drop, get_or, Option, Some, None, ℤ, pos, ◌+ℤ◌, refl, sym, ◌∙◌, ap, append_assoc, append-nil, arith}
use Rattle.std.specs.Prelude.{map, nat_lt}
use Rattle.std.specs.List.{list_any}
use Rattle.std.proofs.lemmas.Int.{ints}
use Rattle.std.proofs.lemmas.List.{drop_all, take_more, take_all, map-append}
use Rattle.std.proofs.lemmas.List.Folds.{list_any-append}
use Rattle.std.proofs.lemmas.Bool.{cond-true, cond-false}
use Rattle.std.proofs.Math.Bool.{or-false}
use Rattle.cell_map.proofs.ListLemmas.{more}
use Rattle.strided.specs.Interval.{Interval, member_after}
use Rattle.strided.specs.Operations.{count}
use Rattle.si_bits.specs.Concrete.{word}
use Rattle.vset.specs.Values.{Values, only_number}
use Rattle.abs_semantics.specs.Joins.{with_number, numbers_of}
use Rattle.abs_semantics.specs.Touching.{offsets, members}
use Rattle.abs_semantics.proofs.JoinLemmas.{numbers_append}
use Rattle.abs_state.specs.Puts.{folded}
use Rattle.abs_steps.specs.Places.{number_before, all_numbers, words_in, all_words, if_few, few_words}

-- -- Numbers

abbrev pub prefixed : List Interval → Option (List Interval) → Option (List Interval)
prefixed out None = None
prefixed out (Some xs) = Some (out ++ xs)

one_more : (out : List Interval) (x : Interval) (r : Option (List Interval)) → prefixed (out ++ x ∷ []) r ≡ prefixed out (number_before (Some x) r)
one_more out x None = refl
one_more out x (Some xs) = ap (λ t. Some t) (append_assoc out (x ∷ []) xs)

module _ (vs : List Values) (i : ℕ) where
  pub numbers_step : (v : Values) (x : Interval) (out next : List Interval) (whole : Option (List Interval)) → i < length vs → v ≡ get_or vs i v → only_number v ≡ Some x → next ≡ out ++ x ∷ []
      → prefixed out (all_numbers (drop i vs)) ≡ whole → prefixed next (all_numbers (drop (i + 1) vs)) ≡ whole
  unfolding all_numbers
  numbers_step v x out next whole lt here num is h =
      let rest = all_numbers (drop (i + 1) vs) in
      ap (λ t. prefixed t rest) is ∙ one_more out x rest ∙ ap (λ o. prefixed out (number_before o rest)) (sym num)
      ∙ ap (λ t. prefixed out (all_numbers t)) (sym (more vs i v lt here)) ∙ h

  pub numbers_missing : (v : Values) (out : List Interval) (whole : Option (List Interval)) → i < length vs → v ≡ get_or vs i v → only_number v ≡ None → prefixed out (all_numbers (drop i vs)) ≡ whole → None ≡ whole
  unfolding all_numbers
  numbers_missing v out whole lt here none h =
      let rest = all_numbers (drop (i + 1) vs) in
      ap (λ o. prefixed out (number_before o rest)) (sym none) ∙ ap (λ t. prefixed out (all_numbers t)) (sym (more vs i v lt here)) ∙ h

  pub numbers_end : (out : List Interval) (whole : Option (List Interval)) → length vs ≤ i → prefixed out (all_numbers (drop i vs)) ≡ whole → Some out ≡ whole
  unfolding all_numbers
  numbers_end out whole le h = ap (λ t. Some t) (sym (append-nil out)) ∙ ap (λ t. prefixed out (all_numbers t)) (sym (drop_all i vs le)) ∙ h

-- -- Members

offset_at : (n s k : ℕ) (from d : ℤ) → k < n → get_or (offsets n s from) k d ≡ from +ℤ pos (k * s)
offset_at zero s k from d lt = absurd (omega arith)
offset_at (suc n) s zero from d lt = omega (arith, ints)
offset_at (suc n) s (suc k) from d lt =
    let rest : get_or (offsets n s (from +ℤ pos s)) k d ≡ (from +ℤ pos s) +ℤ pos (k * s) = offset_at n s k (from +ℤ pos s) d (omega arith) in
    let times : suc k * s ≡ s + k * s = omega arith in
    rest ∙ omega (arith, ints, times)

offsets_count : (n s : ℕ) (from : ℤ) → length (offsets n s from) ≡ n
offsets_count zero s from = refl
offsets_count (suc n) s from = let rest = offsets_count n s (from +ℤ pos s) in omega (arith, rest)

module _ (x : Interval) where
  pub words_start : (out : List ℕ) → numbers_of (map word (take (count x) (members x))) out ≡ numbers_of (words_in x) out
  words_start out =
      let few = offsets_count (count x) x.stride x.lo in
      ap (λ t. numbers_of (map word t) out) (take_all (count x) (members x) (omega (arith, few)))

  pub words_step : (left k w : ℕ) (m : ℤ) (out next whole : List ℕ) → left ≡ k + 1 → k < count x → m ≡ member_after x k → w ≡ word m → next ≡ with_number w out
      → numbers_of (map word (take left (members x))) out ≡ whole → numbers_of (map word (take k (members x))) next ≡ whole
  unfolding numbers_of
  words_step left k w m out next whole one lt here made is h =
      let few = offsets_count (count x) x.stride x.lo in
      let there : get_or (members x) k m ≡ m = offset_at (count x) x.stride k x.lo m lt ∙ sym here in
      ap (numbers_of (map word (take k (members x)))) (is ∙ ap (λ n. with_number n out) made)
      ∙ sym (numbers_append (map word (take k (members x))) (word m ∷ []) out)
      ∙ ap (λ t. numbers_of t out) (sym (map-append word (take k (members x)) (m ∷ [])))
      ∙ ap (λ z. numbers_of (map word (take k (members x) ++ z ∷ [])) out) (sym there)
      ∙ ap (λ t. numbers_of (map word t) out) (sym (take_more (members x) k m (omega (arith, few))))
      ∙ ap (λ n. numbers_of (map word (take n (members x))) out) (sym one)
      ∙ h

  pub words_end : (left : ℕ) (out whole : List ℕ) → left ≡ 0 → numbers_of (map word (take left (members x))) out ≡ whole → out ≡ whole
  unfolding numbers_of
  words_end left out whole none h = ap (λ n. numbers_of (map word (take n (members x))) out) (sym none) ∙ h

-- -- Words

abbrev pub is_many : List Interval → Bool
is_many xs = list_any (λ (x : Interval). nat_lt 1024 (count x)) xs

abbrev pub with_words : Interval → List ℕ → List ℕ
with_words x ws = numbers_of (words_in x) ws

pub words_are : (xs : List Interval) → folded with_words xs [] ≡ all_words xs
unfolding folded all_words
words_are [] = refl
words_are (x ∷ xs) = ap (with_words x) (words_are xs)

module _ (rest before : List Interval) (x : Interval) (is : rest ≡ before ++ x ∷ []) where
  last_many : is_many rest ≡ (is_many before || nat_lt 1024 (count x))
  last_many =
      ap is_many is ∙ list_any-append (λ (y : Interval). nat_lt 1024 (count y)) before (x ∷ []) ∙ ap (λ t. is_many before || t) (or-false (nat_lt 1024 (count x)))

  pub many_before : (whole : Bool) → nat_lt 1024 (count x) ≡ false → is_many rest ≡ whole → is_many before ≡ whole
  many_before whole few h = sym (or-false (is_many before)) ∙ ap (λ t. is_many before || t) (sym few) ∙ sym last_many ∙ h

  or_true : (b : Bool) → (b || true) ≡ true
  or_true true = refl
  or_true false = refl

  pub many_here : (xs : List Interval) → nat_lt 1024 (count x) ≡ true → is_many rest ≡ is_many xs → None ≡ few_words (Some xs)
  many_here xs many h =
      sym (cond-true (is_many xs) None (if_few (all_words xs)) (sym h ∙ last_many ∙ ap (λ t. is_many before || t) many ∙ or_true (is_many before)))

pub words_told : (xs : List Interval) (out : List ℕ) (r : Option (List ℕ)) → false ≡ is_many xs → out ≡ folded with_words xs [] → r ≡ if_few out → r ≡ few_words (Some xs)
words_told xs out r none is told = told ∙ ap if_few (is ∙ words_are xs) ∙ sym (cond-false (is_many xs) None (if_few (all_words xs)) (sym none))

pub many_end : (rest : List Interval) (whole : Bool) → length rest ≡ 0 → is_many rest ≡ whole → false ≡ whole
many_end [] whole none h = h
many_end (x ∷ xs) whole none h = absurd (omega arith)
