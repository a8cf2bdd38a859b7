-- One pass over two rising lists gives the cells of both made anew.
use Rattle.std.proofs.Common.{◌≡◌, true, false, cond, List, [], ◌∷◌, ◌++◌, refl, sym, ◌∙◌, ap, subst}
use Rattle.std.proofs.lemmas.Bool.{cond_both, or_parts}
use Rattle.image_map.specs.declared.region.Cell.{Cell}
use Rattle.image_map.specs.Regions.{same_cell, cell_before}
use Rattle.image_map.proofs.OrderLaws.{same_cell-equal, cell_before-total}
use Rattle.vset.specs.Values.{Values, Top, Parts}
use Rattle.abs_semantics.specs.declared.parts.CellValue.{CellValue}
use Rattle.abs_semantics.specs.States.{value_in, rebuilt}
use Rattle.cell_map.specs.Lists.{IsBefore, AreRising}
use Rattle.cell_map.specs.Merges.{entry, second_alone, merged_from, merged}
use Rattle.cell_map.proofs.OrderLemmas.{before_all, AreKnown, head_value, tail_value, above_top, same_entries}
use Rattle.cell_map.proofs.RebuiltLemmas.{is_among, rebuilt_rising, rebuilt_known, rebuilt_is}

-- -- A cell before others

before_entry : (d c : Cell) (v : Values) (rest : List CellValue) → cell_before d c ≡ true → IsBefore d rest → IsBefore d (entry c v ++ rest)
before_entry d c Top rest b bs = bs
before_entry d c (Parts ps) rest b bs = (b, bs)

rising_entry : (c : Cell) (v : Values) (rest : List CellValue) → IsBefore c rest → AreRising rest → AreRising (entry c v ++ rest)
rising_entry c Top rest b r = r
rising_entry c (Parts ps) rest b r = (b, r)

known_entry : (c : Cell) (v : Values) (rest : List CellValue) → AreKnown rest → AreKnown (entry c v ++ rest)
known_entry c Top rest k = k
known_entry c (Parts ps) rest k = (refl, k)

entry_value : (c d : Cell) (v : Values) (rest : List CellValue) → IsBefore d rest → value_in c (entry d v ++ rest) ≡ cond (same_cell d c) v (value_in c rest)
entry_value c d Top rest b =
    cond_both (same_cell d c) Top (value_in c rest) (λ w. value_in c rest ≡ w) (λ same. above_top c rest (subst (λ k. IsBefore k rest) (same_cell-equal d c same) b)) (λ _. refl)
entry_value c d (Parts ps) rest b = refl

-- what is found behind such a cell
entry_is : (c d : Cell) (v : Values) (rest : List CellValue) (w : Values) → IsBefore d rest → (same_cell d c ≡ true → v ≡ w) → (same_cell d c ≡ false → value_in c rest ≡ w) → value_in c (entry d v ++ rest) ≡ w
entry_is c d v rest w b here later = entry_value c d v rest b ∙ cond_both (same_cell d c) v (value_in c rest) (λ z. z ≡ w) here later

module _ (f : Cell → Values → Values → Values) (nothing : (c : Cell) → f c Top Top ≡ Top) where
  given : (c d : Cell) (v v' w w' : Values) → c ≡ d → v ≡ v' → w ≡ w' → f c v w ≡ f d v' w'
  given c d v v' w w' p q r = λ i. f (p i) (q i) (r i)

  -- what a pass over the first list and any second one keeps
  record Merges (xs : List CellValue) (rest : List CellValue → List CellValue) : Type 0 where
    before : (d : Cell) (ys : List CellValue) → IsBefore d xs → IsBefore d ys → IsBefore d (rest ys)
    rising : (ys : List CellValue) → AreRising ys → AreRising (rest ys)
    known : (ys : List CellValue) → AreKnown (rest ys)
    value : (c : Cell) (ys : List CellValue) → AreRising ys → value_in c (rest ys) ≡ f c (value_in c xs) (value_in c ys)

  -- -- The second list alone

  alone_before : (d : Cell) (ys : List CellValue) → IsBefore d ys → IsBefore d (second_alone f ys)
  unfolding second_alone
  alone_before d [] b = tt
  alone_before d (y ∷ ys) b = before_entry d y.cell (f y.cell Top y.value) (second_alone f ys) b.0 (alone_before d ys b.1)

  alone_rising : (ys : List CellValue) → AreRising ys → AreRising (second_alone f ys)
  unfolding second_alone
  alone_rising [] r = tt
  alone_rising (y ∷ ys) r = rising_entry y.cell (f y.cell Top y.value) (second_alone f ys) (alone_before y.cell ys r.0) (alone_rising ys r.1)

  alone_known : (ys : List CellValue) → AreKnown (second_alone f ys)
  unfolding second_alone
  alone_known [] = tt
  alone_known (y ∷ ys) = known_entry y.cell (f y.cell Top y.value) (second_alone f ys) (alone_known ys)

  alone_value : (c : Cell) (ys : List CellValue) → AreRising ys → value_in c (second_alone f ys) ≡ f c Top (value_in c ys)
  unfolding second_alone
  alone_value c [] r = sym (nothing c)
  alone_value c (y ∷ ys) r =
      entry_is c y.cell (f y.cell Top y.value) (second_alone f ys) (f c Top (value_in c (y ∷ ys))) (alone_before y.cell ys r.0)
      (λ same. given y.cell c Top Top y.value (value_in c (y ∷ ys)) (same_cell-equal y.cell c same) refl (sym (head_value c y ys same)))
      (λ other. alone_value c ys r.1 ∙ ap (λ v. f c Top v) (sym (tail_value c y ys other)))

  alone : Merges [] (second_alone f)
  alone = record { before = λ d ys _ b. alone_before d ys b; rising = alone_rising; known = alone_known; value = alone_value }

  -- -- One cell more of the first list

  module _ (x : CellValue) (xs : List CellValue) (rest : List CellValue → List CellValue) (first : IsBefore x.cell xs) (m : Merges xs rest) where
    from_before : (d : Cell) (ys : List CellValue) → cell_before d x.cell ≡ true → IsBefore d xs → IsBefore d ys → IsBefore d (merged_from f x rest ys)
    unfolding merged_from
    from_before d [] b bs cs = before_entry d x.cell (f x.cell x.value Top) (rest []) b (m.before d [] bs tt)
    from_before d (y ∷ ys) b bs cs =
        cond_both (same_cell x.cell y.cell) _ _ (IsBefore d)
        (λ _. before_entry d x.cell (f x.cell x.value y.value) (rest ys) b (m.before d ys bs cs.1))
        (λ _. cond_both (cell_before x.cell y.cell) _ _ (IsBefore d)
        (λ _. before_entry d x.cell (f x.cell x.value Top) (rest (y ∷ ys)) b (m.before d (y ∷ ys) bs cs))
        (λ _. before_entry d y.cell (f y.cell Top y.value) (merged_from f x rest ys) cs.0 (from_before d ys b bs cs.1)))

    -- the rest of both lies above a cell of both
    same_above : (y : CellValue) (ys : List CellValue) → IsBefore y.cell ys → same_cell x.cell y.cell ≡ true → IsBefore x.cell (rest ys)
    same_above y ys by same = m.before x.cell ys first (subst (λ d. IsBefore d ys) (sym (same_cell-equal x.cell y.cell same)) by)

    first_above : (y : CellValue) (ys : List CellValue) → IsBefore y.cell ys → cell_before x.cell y.cell ≡ true → IsBefore x.cell (rest (y ∷ ys))
    first_above y ys by b = m.before x.cell (y ∷ ys) first (b, before_all x.cell y.cell ys b by)

    second_above : (y : CellValue) (ys : List CellValue) → IsBefore y.cell ys → cell_before y.cell x.cell ≡ true → IsBefore y.cell (merged_from f x rest ys)
    second_above y ys by b = from_before y.cell ys b (before_all y.cell x.cell xs b first) by

    from_rising : (ys : List CellValue) → AreRising ys → AreRising (merged_from f x rest ys)
    unfolding merged_from
    from_rising [] r = rising_entry x.cell (f x.cell x.value Top) (rest []) (m.before x.cell [] first tt) (m.rising [] tt)
    from_rising (y ∷ ys) r =
        cond_both (same_cell x.cell y.cell) _ _ AreRising
        (λ same. rising_entry x.cell (f x.cell x.value y.value) (rest ys) (same_above y ys r.0 same) (m.rising ys r.1))
        (λ apart. cond_both (cell_before x.cell y.cell) _ _ AreRising
        (λ b. rising_entry x.cell (f x.cell x.value Top) (rest (y ∷ ys)) (first_above y ys r.0 b) (m.rising (y ∷ ys) r))
        (λ n. rising_entry y.cell (f y.cell Top y.value) (merged_from f x rest ys) (second_above y ys r.0 (cell_before-total x.cell y.cell apart n)) (from_rising ys r.1)))

    from_known : (ys : List CellValue) → AreKnown (merged_from f x rest ys)
    unfolding merged_from
    from_known [] = known_entry x.cell (f x.cell x.value Top) (rest []) (m.known [])
    from_known (y ∷ ys) =
        cond_both (same_cell x.cell y.cell) _ _ AreKnown
        (λ _. known_entry x.cell (f x.cell x.value y.value) (rest ys) (m.known ys))
        (λ _. cond_both (cell_before x.cell y.cell) _ _ AreKnown
        (λ _. known_entry x.cell (f x.cell x.value Top) (rest (y ∷ ys)) (m.known (y ∷ ys)))
        (λ _. known_entry y.cell (f y.cell Top y.value) (merged_from f x rest ys) (from_known ys)))

    -- a cell that is the one of the first list, and what the second list has of it
    here_is : (c : Cell) (w : Values) (ys : List CellValue) → same_cell x.cell c ≡ true → w ≡ value_in c ys → f x.cell x.value w ≡ f c (value_in c (x ∷ xs)) (value_in c ys)
    here_is c w ys same is = given x.cell c x.value (value_in c (x ∷ xs)) w (value_in c ys) (same_cell-equal x.cell c same) (sym (head_value c x xs same)) is

    later_is : (c : Cell) (ys zs : List CellValue) → AreRising zs → same_cell x.cell c ≡ false → value_in c zs ≡ value_in c ys → value_in c (rest zs) ≡ f c (value_in c (x ∷ xs)) (value_in c ys)
    later_is c ys zs r other is = m.value c zs r ∙ given c c (value_in c xs) (value_in c (x ∷ xs)) (value_in c zs) (value_in c ys) refl (sym (tail_value c x xs other)) is

    from_value : (c : Cell) (ys : List CellValue) → AreRising ys → value_in c (merged_from f x rest ys) ≡ f c (value_in c (x ∷ xs)) (value_in c ys)
    unfolding merged_from
    from_value c [] r =
        entry_is c x.cell (f x.cell x.value Top) (rest []) (f c (value_in c (x ∷ xs)) Top) (m.before x.cell [] first tt)
        (λ same. here_is c Top [] same refl) (λ other. later_is c [] [] tt other refl)
    from_value c (y ∷ ys) r =
        cond_both (same_cell x.cell y.cell) _ _ (λ es. value_in c es ≡ f c (value_in c (x ∷ xs)) (value_in c (y ∷ ys)))
        (λ same. entry_is c x.cell (f x.cell x.value y.value) (rest ys) _ (same_above y ys r.0 same)
        (λ is. here_is c y.value (y ∷ ys) is (sym (head_value c y ys (subst (λ d. same_cell d c ≡ true) (same_cell-equal x.cell y.cell same) is))))
        (λ other. later_is c (y ∷ ys) ys r.1 other (sym (tail_value c y ys (subst (λ d. same_cell d c ≡ false) (same_cell-equal x.cell y.cell same) other)))))
        (λ apart. cond_both (cell_before x.cell y.cell) _ _ (λ es. value_in c es ≡ f c (value_in c (x ∷ xs)) (value_in c (y ∷ ys)))
        (λ b. entry_is c x.cell (f x.cell x.value Top) (rest (y ∷ ys)) _ (first_above y ys r.0 b)
        (λ is. here_is c Top (y ∷ ys) is (sym (above_top c (y ∷ ys) (subst (λ d. IsBefore d (y ∷ ys)) (same_cell-equal x.cell c is) (b, before_all x.cell y.cell ys b r.0)))))
        (λ other. later_is c (y ∷ ys) (y ∷ ys) r other refl))
        (λ n.
        let b = cell_before-total x.cell y.cell apart n in
        entry_is c y.cell (f y.cell Top y.value) (merged_from f x rest ys) _ (second_above y ys r.0 b)
        (λ is. given y.cell c Top (value_in c (x ∷ xs)) y.value (value_in c (y ∷ ys)) (same_cell-equal y.cell c is)
        (sym (above_top c (x ∷ xs) (subst (λ d. IsBefore d (x ∷ xs)) (same_cell-equal y.cell c is) (b, before_all y.cell x.cell xs b first)))) (sym (head_value c y ys is)))
        (λ other. from_value c ys r.1 ∙ ap (λ v. f c (value_in c (x ∷ xs)) v) (sym (tail_value c y ys other)))))

    one_more : Merges (x ∷ xs) (merged_from f x rest)
    one_more = record { before = λ d ys b c. from_before d ys b.0 b.1 c; rising = from_rising; known = from_known; value = from_value }

  merges : (xs : List CellValue) → AreRising xs → Merges xs (merged f xs)
  unfolding merged
  merges [] r = alone
  merges (x ∷ xs) r = one_more x xs (merged f xs) r.0 (merges xs r.1)

  pub merged_rising : (xs ys : List CellValue) → AreRising xs → AreRising ys → AreRising (merged f xs ys)
  merged_rising xs ys rx ry = let m = merges xs rx in m.rising ys ry

  pub merged_value : (c : Cell) (xs ys : List CellValue) → AreRising xs → AreRising ys → value_in c (merged f xs ys) ≡ f c (value_in c xs) (value_in c ys)
  merged_value c xs ys rx ry = let m = merges xs rx in m.value c ys ry

  -- -- Cells made anew

  top_beside : (c : Cell) (xs ys : List CellValue) → is_among c (xs ++ ys) ≡ false → (value_in c xs ≡ Top) × (value_in c ys ≡ Top)
  top_beside c [] [] out = (refl, refl)
  top_beside c [] (y ∷ ys) out =
      let parts = or_parts (same_cell y.cell c) (is_among c ys) out in
      (refl, tail_value c y ys parts.0 ∙ (top_beside c [] ys parts.1).1)
  top_beside c (x ∷ xs) ys out =
      let parts = or_parts (same_cell x.cell c) (is_among c (xs ++ ys)) out in
      let tops = top_beside c xs ys parts.1 in
      (tail_value c x xs parts.0 ∙ tops.0, tops.1)

  pub merged_rebuilt : (xs ys : List CellValue) → AreRising xs → AreRising ys → merged f xs ys ≡ rebuilt (λ c. f c (value_in c xs) (value_in c ys)) (xs ++ ys)
  merged_rebuilt xs ys rx ry =
      let m = merges xs rx in
      let f' : Cell → Values = λ c. f c (value_in c xs) (value_in c ys) in
      same_entries (merged f xs ys) (rebuilt f' (xs ++ ys)) (m.rising ys ry) (rebuilt_rising f' (xs ++ ys)) (m.known ys) (rebuilt_known f' (xs ++ ys))
      (λ c. m.value c ys ry ∙ sym (rebuilt_is f' c (xs ++ ys) ∙ cond_both (is_among c (xs ++ ys)) (f' c) Top (λ v. v ≡ f' c) (λ _. refl)
      (λ out. let tops = top_beside c xs ys out in sym (given c c (value_in c xs) Top (value_in c ys) Top refl tops.0 tops.1 ∙ nothing c))))
