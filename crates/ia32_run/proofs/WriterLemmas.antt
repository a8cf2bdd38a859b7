-- Going over spans and numbers, one after another.
use Rattle.std.proofs.Common.{◌≡◌, ◌⊎◌, ◌↔◌, inl, inr, ⊎_elim, ℕ, ◌+◌, ◌-◌, ◌<◌, ◌≤◌, List, ◌∷◌, ◌++◌, length, drop, get_or, refl, sym, ap, ◌∙◌, subst, arith}
use Rattle.std.specs.Prelude.{Bool, true, false, ◌&&◌, ◌||◌, nat_lt, if◌then◌else◌, Option, Some, Contains}
use Rattle.std.proofs.lemmas.Bool.{false≢true, or_right, or_left}
use Rattle.std.proofs.lemmas.Bool.Decides.{nat_tests}
use Rattle.std.proofs.lemmas.List.{drop_more, drop_all}
use Rattle.std.proofs.lemmas.List.Elements.{Contains-append_left, Contains-append_right, Contains-append_cases}
use Rattle.image_map.specs.declared.spans.Span.{Span}
use Rattle.image_map.specs.Ranges.{is_any}
use Rattle.ia32_semantics.proofs.EffectLemmas.{by_test, or_true}
use Rattle.ia32_types.specs.declared.sets.NumberSet.{NumberSet}
use Rattle.ia32_types.specs.Sets.{has_number}
use Rattle.last_writers.specs.declared.spans.Written.{Written}
use Rattle.last_writers.specs.Writers.{writer_at}
use Rattle.item_list.specs.Ranges.{within}
use Rattle.ia32_run.specs.Writers.{is_wanted, WroteNumbers, WritesSpans, WritesNumbers}

-- -- An empty range

pub empty_write : (start end a : ℕ) (step : Option ℕ) (old : Option ℕ) → end ≤ start → old ≡ (if within start end a then step else old)
empty_write start end a step old empty =
    let none : within start end a ≡ false = grind (arith, nat_tests) in sym (ap (λ b. if b then step else old) none)

pub nothing_in : (start end a : ℕ) {P : Type 0} → end ≤ start → within start end a ≡ true → P
nothing_in start end a empty e = absurd (let none : within start end a ≡ false = grind (arith, nat_tests) in false≢true (sym none ∙ e))

-- -- Spans

-- what is still to be written
abbrev pub WriteLeft : List Span → ℕ → ℕ → List Written → List Written → Type 0
WriteLeft spans i step old now = (a : ℕ) → (if is_any (drop i spans) a then Some step else writer_at now a) ≡ (if is_any spans a then Some step else writer_at old a)

one_then : (w rest : Bool) (s old : Option ℕ) → (if rest then s else (if w then s else old)) ≡ (if w || rest then s else old)
one_then true true s old = refl
one_then true false s old = refl
one_then false true s old = refl
one_then false false s old = refl

pub write_more : (spans : List Span) (i step : ℕ) (old now next : List Written) (d : Span) → i < length spans
    → ((a : ℕ) → writer_at next a ≡ (if within (get_or spans i d).start (get_or spans i d).end a then Some step else writer_at now a))
    → WriteLeft spans i step old now → WriteLeft spans (i + 1) step old next
write_more spans i step old now next d lt wrote left a =
    let x = get_or spans i d in
    ap (λ o. if is_any (drop (i + 1) spans) a then Some step else o) (wrote a)
    ∙ one_then (within x.start x.end a) (is_any (drop (i + 1) spans) a) (Some step) (writer_at now a)
    ∙ ap (λ (l : List Span). if is_any l a then Some step else writer_at now a) (sym (drop_more spans i d lt)) ∙ left a

pub write_all : (spans : List Span) (i step : ℕ) (old now : List Written) → length spans ≤ i → WriteLeft spans i step old now
    → (a : ℕ) → writer_at now a ≡ (if is_any spans a then Some step else writer_at old a)
write_all spans i step old now le left a = ap (λ (l : List Span). if is_any l a then Some step else writer_at now a) (sym (drop_all i spans le)) ∙ left a

-- what is still to be added
pub record AddLeft (ws : List Written) (spans : List Span) (i : ℕ) (old now : List ℕ) : Type 0 where
  pub forth : (k : ℕ) → (Contains now k ⊎ WritesSpans ws (drop i spans) k) → (Contains old k ⊎ WritesSpans ws spans k)
  pub back : (k : ℕ) → (Contains old k ⊎ WritesSpans ws spans k) → (Contains now k ⊎ WritesSpans ws (drop i spans) k)

pub add_start : (ws : List Written) (spans : List Span) (old : List ℕ) → AddLeft ws spans 0 old old
add_start ws spans old = record { forth = λ k e. e; back = λ k e. e }

pub add_more : (ws : List Written) (spans : List Span) (i : ℕ) (old now next : List ℕ) (d : Span) → i < length spans
    → ((k : ℕ) → Contains next k ↔ (Contains now k ⊎ ((a : ℕ) × (within (get_or spans i d).start (get_or spans i d).end a ≡ true) × (writer_at ws a ≡ Some k))))
    → AddLeft ws spans i old now → AddLeft ws spans (i + 1) old next
add_more ws spans i old now next d lt added left = record {
  forth = λ k e. left.forth k (⊎_elim
      (λ here. ⊎_elim (λ was. inl was) (λ one. inr (one.0, ap (λ (l : List Span). is_any l one.0) split ∙ or_left _ _ one.1, one.2)) ((added k).0 here))
      (λ later. inr (later.0, ap (λ (l : List Span). is_any l later.0) split ∙ or_right (within x.start x.end later.0) _ later.1, later.2)) e);
  back = λ k e. ⊎_elim
      (λ was. inl ((added k).1 (inl was)))
      (λ any. or_true (within x.start x.end any.0) _ (sym (ap (λ (l : List Span). is_any l any.0) split) ∙ any.1)
      (λ here. inl ((added k).1 (inr (any.0, here, any.2))))
      (λ later. inr (any.0, later, any.2)))
      (left.back k e);
}
  where
    x : Span
    x = get_or spans i d

    split : drop i spans ≡ x ∷ drop (i + 1) spans
    split = drop_more spans i d lt

pub add_all : (ws : List Written) (spans : List Span) (i : ℕ) (old now : List ℕ) → length spans ≤ i → AddLeft ws spans i old now
    → (k : ℕ) → Contains now k ↔ (Contains old k ⊎ WritesSpans ws spans k)
add_all ws spans i old now le left k = (
  λ here. left.forth k (inl here),
  λ e. ⊎_elim (λ here. here) (λ any. absurd (false≢true (sym (ap (λ (l : List Span). is_any l any.0) (drop_all i spans le)) ∙ any.1))) (left.back k e),
)

-- -- Numbers

pub no_numbers : (numbers : NumberSet) (low step : ℕ) (old : List Written) → WroteNumbers numbers low 0 step old old
no_numbers numbers low step old a =
    let none : within low (low + 0) a ≡ false = grind (arith, nat_tests) in sym (ap (λ b. if b && has_number numbers (a - low) then Some step else writer_at old a) none)

number_case : (numbers : NumberSet) (low n a : ℕ) (s o : Option ℕ)
    → (if within (low + n) (low + n + 1) a && has_number numbers n then s else (if within low (low + n) a && has_number numbers (a - low) then s else o))
    ≡ (if within low (low + (n + 1)) a && has_number numbers (a - low) then s else o)
number_case numbers low n a s o =
    by_test (within (low + n) (low + n + 1) a)
    (λ here.
    let is : a - low ≡ n = grind (arith, nat_tests) in
    let before : within low (low + n) a ≡ false = grind (arith, nat_tests) in
    let all : within low (low + (n + 1)) a ≡ true = grind (arith, nat_tests) in
    ap (λ b. if b && has_number numbers n then s else (if within low (low + n) a && has_number numbers (a - low) then s else o)) here
    ∙ ap (λ b. if has_number numbers n then s else (if b && has_number numbers (a - low) then s else o)) before
    ∙ ap (λ k. if has_number numbers k then s else o) (sym is)
    ∙ ap (λ b. if b && has_number numbers (a - low) then s else o) (sym all))
    (λ off.
    let same : within low (low + n) a ≡ within low (low + (n + 1)) a = same_range low n a off in
    ap (λ b. if b && has_number numbers n then s else (if within low (low + n) a && has_number numbers (a - low) then s else o)) off
    ∙ ap (λ b. if b && has_number numbers (a - low) then s else o) same)
  where
    same_range : (low n a : ℕ) → within (low + n) (low + n + 1) a ≡ false → within low (low + n) a ≡ within low (low + (n + 1)) a
    same_range low n a off = by_test (within low (low + n) a)
        (λ e. let f : within low (low + (n + 1)) a ≡ true = grind (arith, nat_tests) in e ∙ sym f)
        (λ e. let f : within low (low + (n + 1)) a ≡ false = grind (arith, nat_tests) in e ∙ sym f)

pub one_number : (numbers : NumberSet) (low n step : ℕ) (old now next : List Written)
    → ((a : ℕ) → writer_at next a ≡ (if within (low + n) (low + n + 1) a && has_number numbers n then Some step else writer_at now a))
    → WroteNumbers numbers low n step old now → WroteNumbers numbers low (n + 1) step old next
one_number numbers low n step old now next wrote before a =
    wrote a ∙ ap (λ o. if within (low + n) (low + n + 1) a && has_number numbers n then Some step else o) (before a) ∙ number_case numbers low n a (Some step) (writer_at old a)

-- the numbers added so far
pub record AddedNumbers (ws : List Written) (numbers : NumberSet) (skip low n : ℕ) (old now : List ℕ) : Type 0 where
  pub forth : (k : ℕ) → Contains now k → (Contains old k ⊎ WritesNumbers ws numbers skip low n k)
  pub back : (k : ℕ) → (Contains old k ⊎ WritesNumbers ws numbers skip low n k) → Contains now k

pub added_none : (ws : List Written) (numbers : NumberSet) (skip low : ℕ) (old : List ℕ) → AddedNumbers ws numbers skip low 0 old old
added_none ws numbers skip low old = record { forth = λ k e. inl e; back = λ k e. ⊎_elim (λ was. was) (λ none. absurd (let lt : none.0 < 0 = none.1 in omega arith)) e }

pub added_one : (ws : List Written) (numbers : NumberSet) (skip low n : ℕ) (old now next : List ℕ)
    → ((k : ℕ) → Contains next k ↔ (Contains now k ⊎ ((is_wanted numbers skip n ≡ true) × (writer_at ws (low + n) ≡ Some k))))
    → AddedNumbers ws numbers skip low n old now → AddedNumbers ws numbers skip low (n + 1) old next
added_one ws numbers skip low n old now next added before = record {
  forth = λ k e. ⊎_elim
      (λ was. ⊎_elim (λ old. inl old) (λ some. let lt : some.0 < n = some.1 in inr (some.0, omega arith, some.2, some.3)) (before.forth k was))
      (λ one. inr (n, omega arith, one.0, one.1)) ((added k).0 e);
  back = λ k e. ⊎_elim
      (λ old. (added k).1 (inl (before.back k (inl old))))
      (λ some. by_test (nat_lt some.0 n)
      (λ lt. let low_ : some.0 < n = grind (arith, nat_tests) in (added k).1 (inl (before.back k (inr (some.0, low_, some.2, some.3)))))
      (λ ge. let up : some.0 < n + 1 = some.1 in let is : some.0 ≡ n = grind (arith, nat_tests) in
      (added k).1 (inr (subst (λ m. (is_wanted numbers skip m ≡ true) × (writer_at ws (low + m) ≡ Some k)) is (some.2, some.3)))))
      e;
}

-- -- Lists that rise

pub spans_added : (old steps new : List ℕ) (i : ℕ) (P : Type 0) → new ≡ old ++ steps → (Contains steps i ↔ P) → Contains new i ↔ (Contains old i ⊎ P)
spans_added old steps new i P is all = (
  λ e. ⊎_elim (λ was. inl was) (λ now. inr (all.0 now)) (Contains-append_cases old steps i (subst (λ l. Contains l i) is e)),
  λ e. subst (λ l. Contains l i) (sym is) (⊎_elim (λ was. Contains-append_left old steps i was) (λ now. Contains-append_right old steps i (all.1 now)) e),
)

pub none_added : (found : List ℕ) (start end i : ℕ) (ws : List Written) → end ≤ start
    → Contains found i ↔ (Contains found i ⊎ ((a : ℕ) × (within start end a ≡ true) × (writer_at ws a ≡ Some i)))
none_added found start end i ws empty = (λ e. inl e, λ e. ⊎_elim (λ was. was) (λ any. nothing_in start end any.0 empty any.1) e)

pub number_added : (old new : List ℕ) (low n i : ℕ) (ws : List Written) (has : Bool) → has ≡ true
    → (Contains new i ↔ (Contains old i ⊎ ((a : ℕ) × (within (low + n) (low + n + 1) a ≡ true) × (writer_at ws a ≡ Some i))))
    → Contains new i ↔ (Contains old i ⊎ ((has ≡ true) × (writer_at ws (low + n) ≡ Some i)))
number_added old new low n i ws has h added = (
  λ e. ⊎_elim (λ was. inl was) (λ one. let is : one.0 ≡ low + n = grind (arith, nat_tests) in inr (h, subst (λ k. writer_at ws k ≡ Some i) is one.2)) (added.0 e),
  λ e. added.1 (⊎_elim (λ was. inl was) (λ one. let here : within (low + n) (low + n + 1) (low + n) ≡ true = grind (arith, nat_tests) in inr (low + n, here, one.1)) e),
)

pub number_missing : (found : List ℕ) (at i : ℕ) (ws : List Written) (has : Bool) → has ≡ false → Contains found i ↔ (Contains found i ⊎ ((has ≡ true) × (writer_at ws at ≡ Some i)))
number_missing found at i ws has h = (λ e. inl e, λ e. ⊎_elim (λ was. was) (λ one. absurd (false≢true (sym h ∙ one.0))) e)
