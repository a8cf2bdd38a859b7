-- What the standard library's lemmas on lists lack.
use Rattle.std.proofs.Common.{◌≡◌, ℕ, ◌≤◌, Bool, false, eqb, Option, Some, List, [], ◌++◌, length, take, drop, sym, ap, ◌∙◌, subst}
use Rattle.std.specs.Prelude.{◌↔◌, Contains}
use Rattle.std.specs.List.{find, dedup, list_any}
use Rattle.std.specs.List.Retain.{IsFiltered, DiffersFromLast}
use Rattle.std.specs.List.Sorted.{IsPermutation}
use Rattle.std.specs.Option.{option_or}
use Rattle.std.proofs.lemmas.List.{take-append-drop, take-take, drop_all}
use Rattle.std.proofs.lemmas.List.Filters.{dedup_is}
use Rattle.std.proofs.lemmas.List.Folds.{find-append}
use Rattle.std.proofs.lemmas.List.Kept.{Contains-dedup_nat, Contains-from_dedup}
use Rattle.std.proofs.lemmas.List.Sorted.{Contains-permutation, IsPermutation-sym}

-- what is found in a list is found where more stands behind it
pub found_first : {A : Type 0} (test : A → Bool) (xs more : List A) (x : A) → find test xs ≡ Some x → find test (xs ++ more) ≡ Some x
found_first test xs more x found = find-append test xs more ∙ ap (λ o. option_or o (find test more)) found

-- past the end of a list a test has no element to pass it
pub any_none : {A : Type 0} (test : A → Bool) (xs : List A) (i : ℕ) (whole : Bool) → length xs ≤ i → list_any test (drop i xs) ≡ whole → false ≡ whole
any_none test xs i whole past e = ap (list_any test) (sym (drop_all i xs past)) ∙ e

-- a beginning of a beginning, and the rest of it
pub take_split : {A : Type 0} (xs : List A) (m n : ℕ) → m ≤ n → take n xs ≡ take m xs ++ drop m (take n xs)
take_split xs m n within = sym (take-append-drop m (take n xs)) ∙ ap (λ front. front ++ drop m (take n xs)) (take-take m n xs within)

-- sorted and without doubles, a list has the numbers that it had
pub sorted_kept : (old sorted new : List ℕ) (n : ℕ) → IsPermutation old sorted → IsFiltered (DiffersFromLast eqb) [] sorted new → Contains new n ↔ Contains old n
sorted_kept old sorted new n moved filtered =
    let is : new ≡ dedup eqb sorted = dedup_is eqb sorted new filtered in (
      λ among. Contains-permutation sorted old n (IsPermutation-sym old sorted moved) (Contains-from_dedup eqb sorted n (subst (λ xs. Contains xs n) is among)),
      λ among. subst (λ xs. Contains xs n) (sym is) (Contains-dedup_nat sorted n (Contains-permutation old sorted n moved among)),
    )
