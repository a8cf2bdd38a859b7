-- Numbers put among others from the last on.
use Rattle.std.proofs.Common.{◌≡◌, ℕ, List, [], ◌∷◌, ◌++◌, length, arith, sym, ◌∙◌, ap}
use Rattle.abs_semantics.specs.Joins.{numbers_of, with_number}
use Rattle.abs_semantics.proofs.JoinLemmas.{numbers_append}

-- one from the end
pub last_put : (rest before : List ℕ) (n : ℕ) (found more whole : List ℕ) → rest ≡ before ++ n ∷ [] → more ≡ with_number n found → numbers_of rest found ≡ whole → numbers_of before more ≡ whole
unfolding numbers_of
last_put rest before n found more whole split put e =
    ap (numbers_of before) put ∙ sym (numbers_append before (n ∷ []) found) ∙ sym (ap (λ t. numbers_of t found) split) ∙ e

pub none_left : (rest found whole : List ℕ) → length rest ≡ 0 → numbers_of rest found ≡ whole → found ≡ whole
unfolding numbers_of
none_left [] found whole none e = e
none_left (n ∷ ns) found whole none e = absurd (omega arith)
