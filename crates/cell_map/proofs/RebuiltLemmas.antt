-- Cells that are made anew rise, none may hold every value, and each holds what it is given.
use Rattle.std.proofs.Common.{◌≡◌, Bool, true, false, cond, ◌||◌, List, [], ◌∷◌, refl, sym, ◌∙◌, ap, subst}
use Rattle.std.proofs.lemmas.Bool.{cond_both}
use Rattle.image_map.specs.declared.region.Cell.{Cell}
use Rattle.image_map.specs.Regions.{same_cell, cell_before}
use Rattle.image_map.proofs.OrderLaws.{same_cell-equal, cell_before-total}
use Rattle.vset.specs.Values.{Values, Top, Parts}
use Rattle.abs_semantics.specs.declared.parts.CellValue.{CellValue}
use Rattle.abs_semantics.specs.States.{value_in, inserted, with_value, rebuilt}
use Rattle.abs_semantics.specs.Start.{is_top}
use Rattle.cell_map.specs.Lists.{IsBefore, AreRising}
use Rattle.cell_map.proofs.OrderLemmas.{before_all, AreKnown, tail_value}

-- -- A value that is put among others

other_too : (c : Cell) (x e : CellValue) → same_cell x.cell e.cell ≡ true → same_cell e.cell c ≡ false → same_cell x.cell c ≡ false
other_too c x e same other = ap (λ d. same_cell d c) (same_cell-equal x.cell e.cell same) ∙ other

branch : (s : Bool) (u v w : Values) → (s ≡ false → v ≡ w) → cond s u v ≡ cond s u w
branch true u v w h = refl
branch false u v w h = h refl

swap : (s t : Bool) (u v w : Values) → (s ≡ true → t ≡ true → ⊥) → cond s u (cond t v w) ≡ cond t v (cond s u w)
swap true true u v w h = absurd (h refl refl)
swap true false u v w h = refl
swap false true u v w h = refl
swap false false u v w h = refl

pub inserted_value : (c : Cell) (e : CellValue) (xs : List CellValue) → value_in c (inserted e xs) ≡ cond (same_cell e.cell c) e.value (value_in c xs)
inserted_value c e [] = refl
inserted_value c e (x ∷ xs) =
    cond_both (same_cell x.cell e.cell) (e ∷ xs) (cond (cell_before x.cell e.cell) (x ∷ inserted e xs) (e ∷ x ∷ xs)) (λ es. value_in c es ≡ cond (same_cell e.cell c) e.value (value_in c (x ∷ xs)))
    (λ same. branch (same_cell e.cell c) e.value (value_in c xs) (value_in c (x ∷ xs)) (λ other. sym (tail_value c x xs (other_too c x e same other))))
    (λ apart. cond_both (cell_before x.cell e.cell) (x ∷ inserted e xs) (e ∷ x ∷ xs) (λ es. value_in c es ≡ cond (same_cell e.cell c) e.value (value_in c (x ∷ xs)))
    (λ _. ap (λ v. cond (same_cell x.cell c) x.value v) (inserted_value c e xs) ∙ swap (same_cell x.cell c) (same_cell e.cell c) x.value e.value (value_in c xs) (λ is too. not_two x.cell e.cell c apart is too))
    (λ _. refl))
  where
    not_two : (a b d : Cell) → same_cell a b ≡ false → same_cell a d ≡ true → same_cell b d ≡ true → ⊥
    not_two a b d apart is too = absurd (cc (sym apart ∙ subst (λ k. same_cell a k ≡ true) (sym (same_cell-equal b d too)) is))

before_inserted : (c : Cell) (e : CellValue) (xs : List CellValue) → cell_before c e.cell ≡ true → IsBefore c xs → IsBefore c (inserted e xs)
before_inserted c e [] b bs = (b, tt)
before_inserted c e (x ∷ xs) b bs =
    cond_both (same_cell x.cell e.cell) (e ∷ xs) (cond (cell_before x.cell e.cell) (x ∷ inserted e xs) (e ∷ x ∷ xs)) (IsBefore c)
    (λ _. (b, bs.1))
    (λ _. cond_both (cell_before x.cell e.cell) (x ∷ inserted e xs) (e ∷ x ∷ xs) (IsBefore c)
    (λ _. (bs.0, before_inserted c e xs b bs.1))
    (λ _. (b, bs)))

pub rising_inserted : (e : CellValue) (xs : List CellValue) → AreRising xs → AreRising (inserted e xs)
rising_inserted e [] r = (tt, tt)
rising_inserted e (x ∷ xs) r =
    cond_both (same_cell x.cell e.cell) (e ∷ xs) (cond (cell_before x.cell e.cell) (x ∷ inserted e xs) (e ∷ x ∷ xs)) AreRising
    (λ same. (subst (λ d. IsBefore d xs) (same_cell-equal x.cell e.cell same) r.0, r.1))
    (λ apart. cond_both (cell_before x.cell e.cell) (x ∷ inserted e xs) (e ∷ x ∷ xs) AreRising
    (λ b. (before_inserted x.cell e xs b r.0, rising_inserted e xs r.1))
    (λ n.
    let b = cell_before-total x.cell e.cell apart n in
    ((b, before_all e.cell x.cell xs b r.0), r)))

known_inserted : (e : CellValue) (xs : List CellValue) → is_top e.value ≡ false → AreKnown xs → AreKnown (inserted e xs)
known_inserted e [] k ks = (k, tt)
known_inserted e (x ∷ xs) k ks =
    cond_both (same_cell x.cell e.cell) (e ∷ xs) (cond (cell_before x.cell e.cell) (x ∷ inserted e xs) (e ∷ x ∷ xs)) AreKnown
    (λ _. (k, ks.1))
    (λ _. cond_both (cell_before x.cell e.cell) (x ∷ inserted e xs) (e ∷ x ∷ xs) AreKnown
    (λ _. (ks.0, known_inserted e xs k ks.1))
    (λ _. (k, ks)))

pub rising_with : (c : Cell) (v : Values) (es : List CellValue) → AreRising es → AreRising (with_value c v es)
rising_with c Top es r = r
rising_with c (Parts ps) es r = rising_inserted (record { cell = c; value = Parts ps }) es r

pub known_with : (c : Cell) (v : Values) (es : List CellValue) → AreKnown es → AreKnown (with_value c v es)
known_with c Top es k = k
known_with c (Parts ps) es k = known_inserted (record { cell = c; value = Parts ps }) es refl k

pub with_value_is : (c d : Cell) (v : Values) (es : List CellValue) → (v ≡ Top → same_cell d c ≡ true → value_in c es ≡ Top) → value_in c (with_value d v es) ≡ cond (same_cell d c) v (value_in c es)
with_value_is c d Top es h = cond_both (same_cell d c) Top (value_in c es) (λ w. value_in c es ≡ w) (λ same. h refl same) (λ _. refl)
with_value_is c d (Parts ps) es h = inserted_value c (record { cell = d; value = Parts ps }) es

-- -- Cells made anew

abbrev pub is_among : Cell → List CellValue → Bool
is_among c [] = false
is_among c (e ∷ es) = same_cell e.cell c || is_among c es

pub rebuilt_rising : (f : Cell → Values) (es : List CellValue) → AreRising (rebuilt f es)
unfolding rebuilt
rebuilt_rising f [] = tt
rebuilt_rising f (e ∷ es) = rising_with e.cell (f e.cell) (rebuilt f es) (rebuilt_rising f es)

pub rebuilt_known : (f : Cell → Values) (es : List CellValue) → AreKnown (rebuilt f es)
unfolding rebuilt
rebuilt_known f [] = tt
rebuilt_known f (e ∷ es) = known_with e.cell (f e.cell) (rebuilt f es) (rebuilt_known f es)

top_anyway : (t : Bool) (v w : Values) → v ≡ Top → w ≡ cond t v Top → w ≡ Top
top_anyway true v w top is = is ∙ top
top_anyway false v w top is = is

by_head : (s t : Bool) (u v w : Values) → (s ≡ true → u ≡ v) → w ≡ cond t v Top → cond s u w ≡ cond (s || t) v Top
by_head true t u v w here later = here refl
by_head false t u v w here later = later

pub rebuilt_is : (f : Cell → Values) (c : Cell) (es : List CellValue) → value_in c (rebuilt f es) ≡ cond (is_among c es) (f c) Top
unfolding rebuilt
rebuilt_is f c [] = refl
rebuilt_is f c (e ∷ es) =
    with_value_is c e.cell (f e.cell) (rebuilt f es) (λ top same. top_anyway (is_among c es) (f c) (value_in c (rebuilt f es)) (sym (ap f (same_cell-equal e.cell c same)) ∙ top) (rebuilt_is f c es))
    ∙ by_head (same_cell e.cell c) (is_among c es) (f e.cell) (f c) (value_in c (rebuilt f es)) (λ same. ap f (same_cell-equal e.cell c same)) (rebuilt_is f c es)
