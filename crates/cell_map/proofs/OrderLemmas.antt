-- Rising lists of cells: what is found in them, and that they are the same where the same is found.
use Rattle.std.proofs.Common.{◌≡◌, Bool, true, false, List, [], ◌∷◌, refl, sym, ◌∙◌, ap, subst, ⊎_elim}
use Rattle.std.proofs.lemmas.Bool.{cond-true, cond-false, true≢false, cases_Bool}
use Rattle.image_map.specs.declared.region.Cell.{Cell}
use Rattle.image_map.specs.Regions.{same_cell, cell_before}
use Rattle.image_map.proofs.OrderLaws.{same_cell-equal, same_cell-itself, cell_before-itself, cell_before-trans, cell_before-total}
use Rattle.vset.specs.Values.{Values, Top}
use Rattle.abs_semantics.specs.declared.parts.CellValue.{CellValue}
use Rattle.abs_semantics.specs.States.{value_in}
use Rattle.abs_semantics.specs.Start.{is_top}
use Rattle.cell_map.specs.Lists.{IsBefore, AreRising}

pub is_false : (t : Bool) → (t ≡ true → ⊥) → t ≡ false
is_false true h = absurd (h refl)
is_false false h = refl

-- -- The order

pub not_itself : (a b : Cell) → a ≡ b → cell_before a b ≡ true → ⊥
not_itself a b e h = true≢false (sym h ∙ ap (λ d. cell_before a d) (sym e) ∙ cell_before-itself a)

pub before_other : (a b : Cell) → cell_before a b ≡ true → same_cell a b ≡ false
before_other a b h = is_false (same_cell a b) (λ same. not_itself a b (same_cell-equal a b same) h)

pub after_other : (a b : Cell) → cell_before a b ≡ true → same_cell b a ≡ false
after_other a b h = is_false (same_cell b a) (λ same. not_itself a b (sym (same_cell-equal b a same)) h)

pub same_sym : (a b : Cell) → same_cell a b ≡ true → same_cell b a ≡ true
same_sym a b same = subst (λ d. same_cell d a ≡ true) (same_cell-equal a b same) (same_cell-itself a)

pub before_all : (a b : Cell) (es : List CellValue) → cell_before a b ≡ true → IsBefore b es → IsBefore a es
before_all a b [] h bs = tt
before_all a b (e ∷ es) h bs = (cell_before-trans a b e.cell h bs.0, before_all a b es h bs.1)

-- -- What is found

pub head_value : (c : Cell) (e : CellValue) (es : List CellValue) → same_cell e.cell c ≡ true → value_in c (e ∷ es) ≡ e.value
head_value c e es same = cond-true (same_cell e.cell c) e.value (value_in c es) same

pub tail_value : (c : Cell) (e : CellValue) (es : List CellValue) → same_cell e.cell c ≡ false → value_in c (e ∷ es) ≡ value_in c es
tail_value c e es other = cond-false (same_cell e.cell c) e.value (value_in c es) other

-- a cell before all of them isn't among them
pub above_top : (c : Cell) (es : List CellValue) → IsBefore c es → value_in c es ≡ Top
above_top c [] b = refl
above_top c (e ∷ es) b = tail_value c e es (after_other c e.cell b.0) ∙ above_top c es b.1

-- -- Lists without cells that may hold every value

abbrev pub AreKnown : List CellValue → Type 0
AreKnown [] = Unit {0}
AreKnown (e ∷ es) = (is_top e.value ≡ false) × AreKnown es

pub known_top : (v : Values) → is_top v ≡ false → v ≡ Top → ⊥
known_top v known top = true≢false (sym (ap is_top top) ∙ known)

same_entry : (x y : CellValue) → x.cell ≡ y.cell → x.value ≡ y.value → x ≡ y
same_entry x y c v = λ i. record { cell = c i; value = v i }

not_before_known : (x y : CellValue) (xs ys : List CellValue) → IsBefore y.cell ys → is_top x.value ≡ false → ((c : Cell) → value_in c (x ∷ xs) ≡ value_in c (y ∷ ys)) → cell_before x.cell y.cell ≡ true → ⊥
not_before_known x y xs ys by kx h b =
    known_top x.value kx (sym (head_value x.cell x xs (same_cell-itself x.cell)) ∙ h x.cell ∙ above_top x.cell (y ∷ ys) (b, before_all x.cell y.cell ys b by))

same_tail : (c : Cell) (x y : CellValue) (xs ys : List CellValue) → x.cell ≡ y.cell → IsBefore x.cell xs → IsBefore y.cell ys → value_in c (x ∷ xs) ≡ value_in c (y ∷ ys) → value_in c xs ≡ value_in c ys
same_tail c x y xs ys e bx by h =
    ⊎_elim
    (λ same.
    let here : x.cell ≡ c = same_cell-equal x.cell c same in
    above_top c xs (subst (λ d. IsBefore d xs) here bx) ∙ sym (above_top c ys (subst (λ d. IsBefore d ys) (sym e ∙ here) by)))
    (λ other. sym (tail_value c x xs other) ∙ h ∙ tail_value c y ys (ap (λ d. same_cell d c) (sym e) ∙ other))
    (cases_Bool (same_cell x.cell c))

-- rising lists of known cells are the same where the same is found in them
pub same_entries : (xs ys : List CellValue) → AreRising xs → AreRising ys → AreKnown xs → AreKnown ys → ((c : Cell) → value_in c xs ≡ value_in c ys) → xs ≡ ys
same_entries [] [] rx ry kx ky h = refl
same_entries [] (y ∷ ys) rx ry kx ky h = absurd (known_top y.value ky.0 (sym (head_value y.cell y ys (same_cell-itself y.cell)) ∙ sym (h y.cell)))
same_entries (x ∷ xs) [] rx ry kx ky h = absurd (known_top x.value kx.0 (sym (head_value x.cell x xs (same_cell-itself x.cell)) ∙ h x.cell))
same_entries (x ∷ xs) (y ∷ ys) rx ry kx ky h =
    ⊎_elim
    (λ same.
    let cells : x.cell ≡ y.cell = same_cell-equal x.cell y.cell same in
    let value : x.value ≡ y.value = sym (head_value x.cell x xs (same_cell-itself x.cell)) ∙ h x.cell ∙ head_value x.cell y ys (same_sym x.cell y.cell same) in
    let here : x ≡ y = same_entry x y cells value in
    let later : xs ≡ ys = same_entries xs ys rx.1 ry.1 kx.1 ky.1 (λ c. same_tail c x y xs ys cells rx.0 ry.0 (h c)) in
    λ i. here i ∷ later i)
    (λ other. ⊎_elim
    (λ b. absurd (not_before_known x y xs ys ry.0 kx.0 h b))
    (λ n. absurd (not_before_known y x ys xs rx.0 ky.0 (λ c. sym (h c)) (cell_before-total x.cell y.cell other n)))
    (cases_Bool (cell_before x.cell y.cell)))
    (cases_Bool (same_cell x.cell y.cell))
