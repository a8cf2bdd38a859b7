-- Words that are taken one after another.
use Rattle.std.proofs.Common.{◌≡◌, ℕ, zero, suc, ◌+◌, ◌<◌, ◌≤◌, List, [], ◌∷◌, ◌++◌, length, drop, refl, sym, ap, ◌∙◌, arith}
use Rattle.std.specs.Prelude.{slice_index}
use Rattle.ia32_run.specs.Traces.{eight_words}

drop_nothing : (n : ℕ) → drop {A = ℕ} n [] ≡ []
drop_nothing zero = refl
drop_nothing (suc n) = refl

drop_more : (j k : ℕ) (xs : List ℕ) → drop (j + k) xs ≡ drop k (drop j xs)
drop_more zero k xs = let same : 0 + k ≡ k = omega arith in ap (λ n. drop n xs) same
drop_more (suc j) k [] = drop_nothing (suc j + k) ∙ sym (drop_nothing k)
drop_more (suc j) k (x ∷ xs) = let long : suc j + k ≡ suc (j + k) = omega arith in ap (λ n. drop n (x ∷ xs)) long ∙ drop_more j k xs

one_dropped : (n : ℕ) (xs : List ℕ) → n < length xs → drop n xs ≡ slice_index xs n ∷ drop (n + 1) xs
one_dropped zero [] lt = absurd (omega arith)
one_dropped zero (x ∷ xs) lt = refl
one_dropped (suc n) [] lt = absurd (omega arith)
one_dropped (suc n) (x ∷ xs) lt = let more : suc n + 1 ≡ suc (n + 1) = omega arith in one_dropped n xs (omega arith) ∙ ap (λ m. slice_index xs n ∷ drop m (x ∷ xs)) (sym more)

-- the words from one on are eight and the others
pub eight_dropped : (n : ℕ) (xs : List ℕ) → n + 8 ≤ length xs → drop n xs ≡ eight_words xs n ++ drop (n + 8) xs
eight_dropped n xs fits =
    one_dropped n xs (omega arith)
    ∙ ap (λ l. slice_index xs n ∷ l) (one_dropped (n + 1) xs (omega arith) ∙ ap (λ m. slice_index xs (n + 1) ∷ drop m xs) (let e : n + 1 + 1 ≡ n + 2 = omega arith in e)
    ∙ ap (λ l. slice_index xs (n + 1) ∷ l) (one_dropped (n + 2) xs (omega arith) ∙ ap (λ m. slice_index xs (n + 2) ∷ drop m xs) (let e : n + 2 + 1 ≡ n + 3 = omega arith in e)
    ∙ ap (λ l. slice_index xs (n + 2) ∷ l) (one_dropped (n + 3) xs (omega arith) ∙ ap (λ m. slice_index xs (n + 3) ∷ drop m xs) (let e : n + 3 + 1 ≡ n + 4 = omega arith in e)
    ∙ ap (λ l. slice_index xs (n + 3) ∷ l) (one_dropped (n + 4) xs (omega arith) ∙ ap (λ m. slice_index xs (n + 4) ∷ drop m xs) (let e : n + 4 + 1 ≡ n + 5 = omega arith in e)
    ∙ ap (λ l. slice_index xs (n + 4) ∷ l) (one_dropped (n + 5) xs (omega arith) ∙ ap (λ m. slice_index xs (n + 5) ∷ drop m xs) (let e : n + 5 + 1 ≡ n + 6 = omega arith in e)
    ∙ ap (λ l. slice_index xs (n + 5) ∷ l) (one_dropped (n + 6) xs (omega arith) ∙ ap (λ m. slice_index xs (n + 6) ∷ drop m xs) (let e : n + 6 + 1 ≡ n + 7 = omega arith in e)
    ∙ ap (λ l. slice_index xs (n + 6) ∷ l) (one_dropped (n + 7) xs (omega arith) ∙ ap (λ m. slice_index xs (n + 7) ∷ drop m xs) (let e : n + 7 + 1 ≡ n + 8 = omega arith in e))))))))

drop_short : (k : ℕ) (xs ys : List ℕ) → k ≤ length xs → drop k (xs ++ ys) ≡ drop k xs ++ ys
drop_short zero xs ys le = refl
drop_short (suc k) [] ys le = absurd (omega arith)
drop_short (suc k) (x ∷ xs) ys le = drop_short k xs ys (omega arith)

-- and those that are left when some of the eight were taken
pub left_dropped : (n k : ℕ) (xs : List ℕ) → n + 8 ≤ length xs → k ≤ 8 → drop (n + k) xs ≡ drop k (eight_words xs n) ++ drop (n + 8) xs
left_dropped n k xs fits few =
    drop_more n k xs ∙ ap (drop k) (eight_dropped n xs fits) ∙ drop_short k (eight_words xs n) (drop (n + 8) xs) few
