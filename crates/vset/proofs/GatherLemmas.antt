-- Joining the results of pairs, step by step.

use Rattle.std.proofs.Common.{◌≡◌, ℕ, ◌+◌, ◌<◌, ◌≤◌, List, [], ◌∷◌, ◌++◌, length, map, drop, get_or, Option, Some, None, refl, sym, ◌∙◌, ap}
use Rattle.std.proofs.lemmas.List.{drop_more, drop_all}
use Rattle.vset.specs.declared.part.Part.{Part}
use Rattle.vset.specs.declared.part.Both.TheVariants.{Joined}
use Rattle.vset.specs.declared.sums.Pairing.{Pairing}
use Rattle.vset.specs.Operations.{pair_of, pairs, with_part, gathered}

-- -- A row: one part and each of some others

-- what is left of a row
abbrev pub row : Pairing → Part → List Part → List (Option Part)
row pairing x ys = map (pair_of pairing x) ys

next_in_row : (pairing : Pairing) (x : Part) (ys : List Part) (i : ℕ) (y : Part) → i < length ys → y ≡ get_or ys i y → row pairing x (drop i ys) ≡ pair_of pairing x y ∷ row pairing x (drop (i + 1) ys)
next_in_row pairing x ys i y lt is =
    ap (row pairing x) (drop_more ys i y lt) ∙ ap (λ (v : Part). pair_of pairing x v ∷ row pairing x (drop (i + 1) ys)) (sym is)

gathered_some : (out : List Part) (o : Option Part) (p : Part) (rest : List (Option Part)) → o ≡ Some p → gathered out (o ∷ rest) ≡ gathered (with_part Joined p out) rest
unfolding gathered
gathered_some out o p rest e = ap (λ v. gathered out (v ∷ rest)) e

gathered_none : (out : List Part) (o : Option Part) (rest : List (Option Part)) → o ≡ None → gathered out (o ∷ rest) ≡ None
unfolding gathered
gathered_none out o rest e = ap (λ v. gathered out (v ∷ rest)) e

module _ (pairing : Pairing) (x : Part) (ys : List Part) (i : ℕ) (y : Part) where
  pub row_step : (p : Part) (items out next : List Part) (whole : Option (List Part)) → i < length ys → y ≡ get_or ys i y → Some p ≡ pair_of pairing x y → items ≡ out → next ≡ with_part Joined p items → gathered out (row pairing x (drop i ys)) ≡ whole → gathered next (row pairing x (drop (i + 1) ys)) ≡ whole
  row_step p items out next whole lt is made lent put e =
      ap (λ t. gathered t (row pairing x (drop (i + 1) ys))) (put ∙ ap (with_part Joined p) lent)
      ∙ sym (gathered_some out (pair_of pairing x y) p (row pairing x (drop (i + 1) ys)) (sym made))
      ∙ ap (gathered out) (sym (next_in_row pairing x ys i y lt is))
      ∙ e

  pub row_none : (out : List Part) (whole : Option (List Part)) → i < length ys → y ≡ get_or ys i y → None ≡ pair_of pairing x y → gathered out (row pairing x (drop i ys)) ≡ whole → None ≡ whole
  row_none out whole lt is made e =
      sym (gathered_none out (pair_of pairing x y) (row pairing x (drop (i + 1) ys)) (sym made))
      ∙ ap (gathered out) (sym (next_in_row pairing x ys i y lt is))
      ∙ e

pub row_all : (pairing : Pairing) (x : Part) (ys : List Part) (i : ℕ) (out : List Part) (whole : Option (List Part)) → length ys ≤ i → gathered out (row pairing x (drop i ys)) ≡ whole → Some out ≡ whole
unfolding gathered
row_all pairing x ys i out whole h e = ap (λ t. gathered out (row pairing x t)) (sym (drop_all i ys h)) ∙ e

-- -- All rows

-- what goes on after a row
abbrev after_row : Option (List Part) → List (Option Part) → Option (List Part)
after_row None rest = None
after_row (Some out) rest = gathered out rest

gathered_append : (out : List Part) (r rest : List (Option Part)) → gathered out (r ++ rest) ≡ after_row (gathered out r) rest
unfolding gathered
gathered_append out [] rest = refl
gathered_append out (None ∷ r) rest = refl
gathered_append out (Some p ∷ r) rest = gathered_append (with_part Joined p out) r rest

module _ (pairing : Pairing) (xs ys : List Part) (i : ℕ) (x : Part) where
  rows_from : i < length xs → x ≡ get_or xs i x → pairs pairing (drop i xs) ys ≡ row pairing x ys ++ pairs pairing (drop (i + 1) xs) ys
  rows_from lt is =
      ap (λ t. pairs pairing t ys) (drop_more xs i x lt) ∙ ap (λ (v : Part). row pairing v ys ++ pairs pairing (drop (i + 1) xs) ys) (sym is)

  pub rows_step : (out : List Part) (o : Option (List Part)) (whole : Option (List Part)) → i < length xs → x ≡ get_or xs i x → o ≡ gathered out (row pairing x ys) → gathered out (pairs pairing (drop i xs) ys) ≡ whole → after_row o (pairs pairing (drop (i + 1) xs) ys) ≡ whole
  rows_step out o whole lt is made e =
      ap (λ t. after_row t (pairs pairing (drop (i + 1) xs) ys)) made
      ∙ sym (gathered_append out (row pairing x ys) (pairs pairing (drop (i + 1) xs) ys))
      ∙ ap (gathered out) (sym (rows_from lt is))
      ∙ e

pub rows_all : (pairing : Pairing) (xs ys : List Part) (i : ℕ) (out : List Part) (whole : Option (List Part)) → length xs ≤ i → gathered out (pairs pairing (drop i xs) ys) ≡ whole → Some out ≡ whole
unfolding gathered
rows_all pairing xs ys i out whole h e = ap (λ t. gathered out (pairs pairing t ys)) (sym (drop_all i xs h)) ∙ e
