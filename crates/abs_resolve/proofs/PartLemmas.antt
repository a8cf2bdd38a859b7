-- Putting parts among others, one after the other.
use Rattle.std.proofs.Common.{◌≡◌, ◌≤◌, ◌<◌, suc, Bool, true, false, cond, not, ◌||◌, List, [], ◌∷◌, ◌++◌, length, refl, sym, arith}
use Rattle.std.proofs.lemmas.Bool.{cond_both, lt-ltb, ltb-true, true≢false}
use Rattle.vset.specs.declared.part.Part.{Part}
use Rattle.vset.specs.Operations.{same_part}
use Rattle.abs_semantics.specs.Resolve.{part_before, put_part, rising_onto}
use Rattle.abs_resolve.specs.Search.{IsPlaceOf, begins_with, is_crowd}

pub rising_append : (acc xs ys : List Part) → rising_onto acc (xs ++ ys) ≡ rising_onto (rising_onto acc xs) ys
unfolding rising_onto
rising_append acc [] ys = refl
rising_append acc (x ∷ xs) ys = rising_append (put_part x acc) xs ys

-- -- Lengths

pub put_longer : (x : Part) (ys : List Part) → length ys ≤ length (put_part x ys)
put_longer x [] = omega arith
put_longer x (y ∷ ys) =
    let rest : length ys ≤ length (put_part x ys) = put_longer x ys in
    cond_both (same_part y x) (y ∷ ys) (cond (part_before y x) (y ∷ put_part x ys) (x ∷ y ∷ ys)) (λ zs. suc (length ys) ≤ length zs) (λ _. omega arith)
    (λ _. cond_both (part_before y x) (y ∷ put_part x ys) (x ∷ y ∷ ys) (λ zs. suc (length ys) ≤ length zs) (λ _. omega arith) (λ _. omega arith))

pub rising_longer : (acc xs : List Part) → length acc ≤ length (rising_onto acc xs)
unfolding rising_onto
rising_longer acc [] = omega arith
rising_longer acc (x ∷ xs) = let first = put_longer x acc in let rest = rising_longer (put_part x acc) xs in omega arith

pub more_crowd : (xs ys : List Part) → length xs ≤ length ys → is_crowd xs ≡ true → is_crowd ys ≡ true
more_crowd xs ys le crowd = let many : 1024 < length xs = ltb-true 1024 (length xs) crowd in lt-ltb 1024 (length ys) (omega arith)

pub grown_crowd : (acc xs : List Part) → is_crowd acc ≡ true → is_crowd (rising_onto acc xs) ≡ true
grown_crowd acc xs crowd = more_crowd acc (rising_onto acc xs) (rising_longer acc xs) crowd

-- -- Where a part is put

pub passes : (x y : Part) (ys : List Part) → (same_part y x || not (part_before y x)) ≡ false → put_part x (y ∷ ys) ≡ y ∷ put_part x ys
passes x y ys is = by_tests (same_part y x) (part_before y x) is
  where
    by_tests : (s b : Bool) → (s || not b) ≡ false → cond s (y ∷ ys) (cond b (y ∷ put_part x ys) (x ∷ y ∷ ys)) ≡ y ∷ put_part x ys
    by_tests true b is = absurd (true≢false is)
    by_tests false true is = refl
    by_tests false false is = absurd (true≢false is)

pub put_there : (x : Part) (ys : List Part) → begins_with x ys ≡ true → put_part x ys ≡ ys
put_there x [] is = absurd (true≢false (sym is))
put_there x (y ∷ ys) is = by_test (same_part y x) is
  where
    by_test : (s : Bool) → s ≡ true → cond s (y ∷ ys) (cond (part_before y x) (y ∷ put_part x ys) (x ∷ y ∷ ys)) ≡ y ∷ ys
    by_test true is = refl
    by_test false is = absurd (true≢false (sym is))

pub put_first : (x : Part) (ys : List Part) → IsPlaceOf x ys → begins_with x ys ≡ false → put_part x ys ≡ x ∷ ys
put_first x [] place isnt = refl
put_first x (y ∷ ys) place isnt = by_tests (same_part y x) (part_before y x) place isnt
  where
    by_tests : (s b : Bool) → (s || not b) ≡ true → s ≡ false → cond s (y ∷ ys) (cond b (y ∷ put_part x ys) (x ∷ y ∷ ys)) ≡ x ∷ y ∷ ys
    by_tests true b place isnt = absurd (true≢false isnt)
    by_tests false true place isnt = absurd (true≢false (sym place))
    by_tests false false place isnt = refl
