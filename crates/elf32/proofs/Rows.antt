-- The rows of a table, read one after the other.
use Rattle.std.proofs.Common.{◌≡◌, ℕ, suc, ◌+◌, ◌-◌, ◌≤◌, ◌<◌, Bool, true, false, filter, List, [], ◌∷◌, ◌++◌, refl, ap, sym, ◌∙◌, append_assoc, arith}
use Rattle.elf32.specs.Fields.{rows_from}

-- one more row
pub rows_step : {A : Type 0} (row : ℕ → A) (i n : ℕ) → i < n → rows_from row i (n - i) ≡ row i ∷ rows_from row (i + 1) (n - (i + 1))
rows_step row i n h = let k : n - i ≡ suc (n - (i + 1)) = omega arith in rw k refl

-- no row is left
pub rows_end : {A : Type 0} (row : ℕ → A) (i n : ℕ) → n ≤ i → rows_from row i (n - i) ≡ []
rows_end row i n h = let k : n - i ≡ 0 = omega arith in rw k refl

-- one more row stands in the list
pub row_pushed : {A : Type 0} (row : ℕ → A) (i n : ℕ) (before after all : List A) → i < n → after ≡ before ++ row i ∷ []
    → before ++ rows_from row i (n - i) ≡ all → after ++ rows_from row (i + 1) (n - (i + 1)) ≡ all
row_pushed row i n before after all h e so_far =
    ap (λ v. v ++ rows_from row (i + 1) (n - (i + 1))) e
    ∙ (append_assoc before (row i ∷ []) (rows_from row (i + 1) (n - (i + 1)))
    ∙ (ap (λ v. before ++ v) (sym (rows_step row i n h)) ∙ so_far))

-- the same where only the rows that pass a test are kept
pub row_kept : {A : Type 0} (p : A → Bool) (row : ℕ → A) (i n : ℕ) (before after all : List A) → i < n → p (row i) ≡ true → after ≡ before ++ row i ∷ []
    → before ++ filter p (rows_from row i (n - i)) ≡ all → after ++ filter p (rows_from row (i + 1) (n - (i + 1))) ≡ all
row_kept p row i n before after all h kept e so_far =
    let one : filter p (rows_from row i (n - i)) ≡ row i ∷ filter p (rows_from row (i + 1) (n - (i + 1))) = rw (rows_step row i n h, kept) refl in
    ap (λ v. v ++ filter p (rows_from row (i + 1) (n - (i + 1)))) e
    ∙ (append_assoc before (row i ∷ []) (filter p (rows_from row (i + 1) (n - (i + 1))))
    ∙ (ap (λ v. before ++ v) (sym one) ∙ so_far))

pub row_skipped : {A : Type 0} (p : A → Bool) (row : ℕ → A) (i n : ℕ) (before after all : List A) → i < n → p (row i) ≡ false → after ≡ before
    → before ++ filter p (rows_from row i (n - i)) ≡ all → after ++ filter p (rows_from row (i + 1) (n - (i + 1))) ≡ all
row_skipped p row i n before after all h left e so_far =
    let one : filter p (rows_from row i (n - i)) ≡ filter p (rows_from row (i + 1) (n - (i + 1))) = rw (rows_step row i n h, left) refl in
    ap (λ v. v ++ filter p (rows_from row (i + 1) (n - (i + 1)))) e
    ∙ (ap (λ v. before ++ v) (sym one) ∙ so_far)
