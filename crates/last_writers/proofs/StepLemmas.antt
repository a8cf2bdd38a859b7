-- The steps of the spans in a range are the writers of its addresses.
use Rattle.std.proofs.Common.{◌≡◌, ◌⊎◌, inl, inr, ⊎_elim, ℕ, zero, suc, ◌+◌, ◌≤◌, ◌<◌, max, true, false, nat_le, nat_lt, eqb, if◌then◌else◌, Some, List, [], ◌∷◌, ◌++◌, length, get_or, drop, refl, ap, ◌∙◌, sym, subst, append_assoc, arith}
use Rattle.std.specs.Prelude.{◌↔◌, Contains}
use Rattle.std.specs.List.{dedup}
use Rattle.std.specs.List.Retain.{IsFiltered, DiffersFromLast}
use Rattle.std.specs.List.Sorted.{IsPermutation, IsSorted, IsStrictlyIncreasing}
use Rattle.std.specs.Ordering.{nat_cmp}
use Rattle.std.proofs.lemmas.Bool.{ltb-true, leb-true, leb-false, cond_both}
use Rattle.std.proofs.lemmas.Bool.Decides.{nat_tests}
use Rattle.std.proofs.lemmas.Option.{none-some, same_Some}
use Rattle.std.proofs.lemmas.List.{drop_more, append-nil}
use Rattle.std.proofs.lemmas.List.Sorted.{Contains-permutation, IsPermutation-sym}
use Rattle.std.proofs.lemmas.List.Filters.{dedup_is}
use Rattle.std.proofs.lemmas.List.Kept.{Contains-dedup_nat, Contains-from_dedup}
use Rattle.std.proofs.lemmas.Map.Keys.{IsStrictlyIncreasing-dedup}
use Rattle.item_list.proofs.TruthLaws.{counted}
use Rattle.item_list.specs.Ranges.{within}
use Rattle.last_writers.specs.declared.spans.Written.{Written}
use Rattle.last_writers.specs.Writers.{writer_at, IsWriterIn, IsRisingFrom, IsRising}
use Rattle.last_writers.specs.Cuts.{passed, steps_before}

-- a list has a number, by recursion
abbrev Has : List ℕ → ℕ → Type 0
Has [] x = ⊥
Has (y ∷ ys) x = (y ≡ x) ⊎ Has ys x

contained : (xs : List ℕ) (x : ℕ) → Has xs x → Contains xs x
contained [] x has = absurd has
contained (y ∷ ys) x has =
    ⊎_elim (λ is. (0, omega arith, is)) (λ later. let c = contained ys x later in let le = c.1 in (suc c.0, omega (arith, le), c.2)) has

has_at : (xs : List ℕ) (x k : ℕ) → k < length xs → get_or xs k x ≡ x → Has xs x
has_at [] x k lt is = absurd (omega arith)
has_at (y ∷ ys) x zero lt is = inl is
has_at (y ∷ ys) x (suc k) lt is = inr (has_at ys x k (omega arith) is)

contains-has : (xs : List ℕ) (x : ℕ) → Contains xs x → Has xs x
contains-has xs x c = has_at xs x c.0 c.1 c.2

-- -- From a span to an address

-- a step of the spans that begin below an end wrote an address below it
begun_forth : (end low : ℕ) (ws : List Written) (step : ℕ) → IsRisingFrom low ws → Has (steps_before end ws) step
    → (a : ℕ) × (low ≤ a) × (a < end) × (writer_at ws a ≡ Some step)
begun_forth end low [] step r has = absurd has
begun_forth end low (w ∷ ws) step r has =
    cond_both (nat_lt w.start end) (w.step ∷ steps_before end ws) [] (λ v. Has v step → (a : ℕ) × (low ≤ a) × (a < end) × (writer_at (w ∷ ws) a ≡ Some step))
    (λ yes. λ h.
    let e : w.start < end = ltb-true _ _ yes in let p = r.0 in let q = r.1 in
    ⊎_elim
    (λ is.
    let here : within w.start w.end w.start ≡ true = grind (arith, nat_tests) in
    (w.start, p, e, rw here (ap (λ n. Some n) is)))
    (λ later.
    let found = begun_forth end w.end ws step r.2 later in
    let above = found.1 in
    let not_here : within w.start w.end found.0 ≡ false = grind (arith, nat_tests) in
    (found.0, omega (arith, above), found.2, rw not_here found.3))
    h)
    (λ no. λ h. absurd h)
    has

-- the same of the spans that end above a start
pub touched_forth : (start end low : ℕ) (ws : List Written) (step : ℕ) → start < end → IsRisingFrom low ws
    → Has (steps_before end (drop (passed start ws) ws)) step → IsWriterIn ws start end step
touched_forth start end low [] step range r has = absurd has
touched_forth start end low (w ∷ ws) step range r has =
    counted (nat_le w.end start) (passed start ws) (λ n. Has (steps_before end (drop n (w ∷ ws))) step → IsWriterIn (w ∷ ws) start end step)
    (λ yes. λ h.
    let e : w.end ≤ start = leb-true _ _ yes in
    let found = touched_forth start end w.end ws step range r.2 h in
    let inside = found.1 in
    let not_here : within w.start w.end found.0 ≡ false = grind (arith, nat_tests) in
    (found.0, inside, rw not_here found.2))
    (λ no. λ h. first start end low w ws step range r (leb-false _ _ no) h)
    has
  where
    first : (start end low : ℕ) (w : Written) (ws : List Written) (step : ℕ) → start < end → IsRisingFrom low (w ∷ ws) → start < w.end
        → Has (steps_before end (w ∷ ws)) step → IsWriterIn (w ∷ ws) start end step
    first start end low w ws step range r ends has =
        cond_both (nat_lt w.start end) (w.step ∷ steps_before end ws) [] (λ v. Has v step → IsWriterIn (w ∷ ws) start end step)
        (λ yes. λ h.
        let e : w.start < end = ltb-true _ _ yes in let q = r.1 in
        ⊎_elim
        (λ is.
        let here : within w.start w.end (max start w.start) ≡ true = grind (arith, nat_tests) in
        let inside : within start end (max start w.start) ≡ true = grind (arith, nat_tests) in
        (max start w.start, inside, rw here (ap (λ n. Some n) is)))
        (λ later.
        let found = begun_forth end w.end ws step r.2 later in
        let above = found.1 in let under = found.2 in
        let not_here : within w.start w.end found.0 ≡ false = grind (arith, nat_tests) in
        let inside : within start end found.0 ≡ true = grind (arith, nat_tests) in
        (found.0, inside, rw not_here found.3))
        h)
        (λ no. λ h. absurd h)
        has

-- -- From an address to a span

-- an address with a writer isn't below the place that the spans rise from
not_below : (low : ℕ) (ws : List Written) (a step : ℕ) → IsRisingFrom low ws → writer_at ws a ≡ Some step → low ≤ a
not_below low [] a step r is = absurd (none-some _ is)
not_below low (w ∷ ws) a step r is =
    cond_both (within w.start w.end a) (Some w.step) (writer_at ws a) (λ v. v ≡ Some step → low ≤ a)
    (λ yes. λ e. let p = r.0 in grind (arith, nat_tests))
    (λ no. λ e. let p = r.0 in let q = r.1 in let h = not_below w.end ws a step r.2 e in omega (arith, p, q, h))
    is

begun_back : (end low : ℕ) (ws : List Written) (a step : ℕ) → IsRisingFrom low ws → a < end → writer_at ws a ≡ Some step → Has (steps_before end ws) step
begun_back end low [] a step r under is = absurd (none-some _ is)
begun_back end low (w ∷ ws) a step r under is =
    cond_both (within w.start w.end a) (Some w.step) (writer_at ws a) (λ v. v ≡ Some step → Has (steps_before end (w ∷ ws)) step)
    (λ yes. λ e.
    let begins : nat_lt w.start end ≡ true = grind (arith, nat_tests) in
    rw begins (inl (same_Some w.step step e)))
    (λ no. λ e.
    let h = not_below w.end ws a step r.2 e in let q = r.1 in
    let begins : nat_lt w.start end ≡ true = grind (arith, nat_tests) in
    rw begins (inr (begun_back end w.end ws a step r.2 under e)))
    is

pub touched_back : (start end low : ℕ) (ws : List Written) (a step : ℕ) → IsRisingFrom low ws → start ≤ a → a < end → writer_at ws a ≡ Some step
    → Has (steps_before end (drop (passed start ws) ws)) step
touched_back start end low [] a step r over under is = absurd (none-some _ is)
touched_back start end low (w ∷ ws) a step r over under is =
    counted (nat_le w.end start) (passed start ws) (λ n. Has (steps_before end (drop n (w ∷ ws))) step)
    (λ yes.
    let e : w.end ≤ start = leb-true _ _ yes in
    let not_here : within w.start w.end a ≡ false = grind (arith, nat_tests) in
    let later : writer_at ws a ≡ Some step = rw not_here at is in
    touched_back start end w.end ws a step r.2 over under later)
    (λ no. begun_back end low (w ∷ ws) a step r under is)

-- -- The list of writers

inside_both : (start end a : ℕ) → within start end a ≡ true → (start ≤ a) × (a < end)
inside_both start end a is = (grind (arith, nat_tests), grind (arith, nat_tests))

-- after a sort, and with each once
pub writers_are : (start end : ℕ) (ws : List Written) (found sorted new : List ℕ) (step : ℕ) → start < end → IsRising ws
    → found ≡ steps_before end (drop (passed start ws) ws)
    → IsPermutation found sorted → IsFiltered (DiffersFromLast eqb) [] sorted new
    → Contains new step ↔ IsWriterIn ws start end step
writers_are start end ws found sorted new step range r is moved filtered =
    let kept : new ≡ dedup eqb sorted = dedup_is eqb sorted new filtered in (
      λ among. touched_forth start end 0 ws step range r
          (subst (λ xs. Has xs step) is
          (contains-has found step
          (Contains-permutation sorted found step (IsPermutation-sym found sorted moved)
          (Contains-from_dedup eqb sorted step (subst (λ xs. Contains xs step) kept among))))),
      λ writes.
          let both = inside_both start end writes.0 writes.1 in
          subst (λ xs. Contains xs step) (sym kept)
          (Contains-dedup_nat sorted step
          (Contains-permutation found sorted step moved
          (contained found step
          (subst (λ xs. Has xs step) (sym is) (touched_back start end 0 ws writes.0 step r both.0 both.1 writes.2))))),
    )

pub writers_rise : (sorted new : List ℕ) → IsSorted nat_cmp sorted → IsFiltered (DiffersFromLast eqb) [] sorted new → IsStrictlyIncreasing new
writers_rise sorted new sorts filtered =
    subst (λ xs. IsStrictlyIncreasing xs) (sym (dedup_is eqb sorted new filtered)) (IsStrictlyIncreasing-dedup sorted sorts)

-- -- The loop over the spans

before_at : (end i : ℕ) (ws : List Written) (d : Written) → i < length ws
    → steps_before end (drop i ws) ≡ (if nat_lt (get_or ws i d).start end then (get_or ws i d).step ∷ steps_before end (drop (i + 1) ws) else [])
before_at end i ws d lt = ap (λ v. steps_before end v) (drop_more ws i d lt)

pub before_stop : (end i : ℕ) (ws : List Written) (d : Written) (steps all : List ℕ) → i < length ws → end ≤ (get_or ws i d).start
    → steps ++ steps_before end (drop i ws) ≡ all → steps ≡ all
before_stop end i ws d steps all lt over kept =
    let here : nat_lt (get_or ws i d).start end ≡ false = grind (arith, nat_tests) in
    sym (append-nil steps) ∙ ap (λ v. steps ++ v) (sym (before_at end i ws d lt ∙ rw here refl)) ∙ kept

pub before_more : (end i : ℕ) (ws : List Written) (d : Written) (steps all : List ℕ) → i < length ws → (get_or ws i d).start < end
    → steps ++ steps_before end (drop i ws) ≡ all → (steps ++ (get_or ws i d).step ∷ []) ++ steps_before end (drop (i + 1) ws) ≡ all
before_more end i ws d steps all lt under kept =
    let here : nat_lt (get_or ws i d).start end ≡ true = grind (arith, nat_tests) in
    append_assoc steps ((get_or ws i d).step ∷ []) (steps_before end (drop (i + 1) ws))
    ∙ ap (λ v. steps ++ v) (sym (before_at end i ws d lt ∙ rw here refl)) ∙ kept
