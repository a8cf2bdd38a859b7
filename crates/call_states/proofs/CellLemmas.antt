-- Cells that are put one after the other are cells made anew.
use Rattle.std.proofs.Common.{◌≡◌, ℕ, ◌+◌, ◌<◌, ◌≤◌, Bool, true, false, cond, ◌||◌, ◌&&◌, List, [], ◌∷◌, ◌++◌, length, drop, get_or, refl, sym, ◌∙◌, ap, subst}
use Rattle.std.specs.Prelude.{map, filter, pos, is_some}
use Rattle.std.proofs.lemmas.List.{drop_all}
use Rattle.std.proofs.lemmas.Bool.{cond_both, cond-true, true≢false}
use Rattle.image_map.specs.declared.region.Cell.{Cell}
use Rattle.image_map.specs.declared.region.RegionId.{RegionId}
use Rattle.image_map.specs.Regions.{same_cell}
use Rattle.image_map.specs.declared.region.RegionId.TheVariants.{Frame}
use Rattle.image_map.proofs.OrderLaws.{same_cell-equal, same_cell-itself, same_region-itself}
use Rattle.vset.specs.Values.{Values, Top}
use Rattle.abs_semantics.specs.declared.parts.CellValue.{CellValue}
use Rattle.alocs.specs.Cells.{Division}
use Rattle.abs_semantics.specs.States.{AbsState as State, value_in, value_at, with_value, rebuilt}
use Rattle.abs_semantics.specs.Accesses.{without_value}
use Rattle.abs_semantics.specs.Operands.{word_number}
use Rattle.abs_semantics.specs.Touching.{cell_at}
use Rattle.cell_map.specs.Lists.{AreRising}
use Rattle.cell_map.proofs.ListLemmas.{more}
use Rattle.cell_map.proofs.OrderLemmas.{AreKnown, same_entries, same_sym, is_false}
use Rattle.cell_map.proofs.RebuiltLemmas.{is_among, rising_with, known_with, rebuilt_rising, rebuilt_known, rebuilt_is, with_value_is}
use Rattle.abs_steps.specs.Calls.{is_in, as_of, moved, return_slot, entered_value}
use Rattle.call_states.specs.Moving.{put_each}

module _ (f : Cell → Values) where
  -- a cell that is given every value has none
  abbrev IsFree : List CellValue → Type 0
  IsFree into = (c : Cell) → f c ≡ Top → value_in c into ≡ Top

  value_put : (c d : Cell) (into : List CellValue) → IsFree into → value_in c (with_value d (f d) into) ≡ cond (same_cell d c) (f d) (value_in c into)
  value_put c d into free = with_value_is c d (f d) into (λ top same. free c (sym (ap f (same_cell-equal d c same)) ∙ top))

  free_put : (d : Cell) (into : List CellValue) → IsFree into → IsFree (with_value d (f d) into)
  free_put d into free c top =
      value_put c d into free
      ∙ cond_both (same_cell d c) (f d) (value_in c into) (λ v. v ≡ Top) (λ same. ap f (same_cell-equal d c same) ∙ top) (λ _. free c top)

  put_rising : (es into : List CellValue) → AreRising into → AreRising (put_each f es into)
  unfolding put_each
  put_rising [] into r = r
  put_rising (e ∷ es) into r = put_rising es (with_value e.cell (f e.cell) into) (rising_with e.cell (f e.cell) into r)

  put_known : (es into : List CellValue) → AreKnown into → AreKnown (put_each f es into)
  unfolding put_each
  put_known [] into k = k
  put_known (e ∷ es) into k = put_known es (with_value e.cell (f e.cell) into) (known_with e.cell (f e.cell) into k)

  heads : (s t : Bool) (u v w : Values) → (s ≡ true → u ≡ v) → cond t v (cond s u w) ≡ cond (s || t) v w
  heads true true u v w here = refl
  heads true false u v w here = here refl
  heads false t u v w here = refl

  put_value : (c : Cell) (es into : List CellValue) → IsFree into → value_in c (put_each f es into) ≡ cond (is_among c es) (f c) (value_in c into)
  unfolding put_each
  put_value c [] into free = refl
  put_value c (e ∷ es) into free =
      put_value c es (with_value e.cell (f e.cell) into) (free_put e.cell into free)
      ∙ ap (λ v. cond (is_among c es) (f c) v) (value_put c e.cell into free)
      ∙ heads (same_cell e.cell c) (is_among c es) (f e.cell) (f c) (value_in c into) (λ same. ap f (same_cell-equal e.cell c same))

  nothing_free : IsFree []
  nothing_free c top = refl

  pub put_rebuilt : (es : List CellValue) → put_each f es [] ≡ rebuilt f es
  put_rebuilt es =
      same_entries (put_each f es []) (rebuilt f es) (put_rising es [] tt) (rebuilt_rising f es) (put_known es [] tt) (rebuilt_known f es)
      (λ c. put_value c es [] nothing_free ∙ sym (rebuilt_is f c es))

  pub put_append : (xs ys into : List CellValue) → put_each f (xs ++ ys) into ≡ put_each f ys (put_each f xs into)
  unfolding put_each
  put_append [] ys into = refl
  put_append (x ∷ xs) ys into = put_append xs ys (with_value x.cell (f x.cell) into)

  -- -- One after the other

  pub put_step : (es : List CellValue) (i : ℕ) (e : CellValue) (out next whole : List CellValue) → i < length es → e ≡ get_or es i e → next ≡ with_value e.cell (f e.cell) out
      → put_each f (drop i es) out ≡ whole → put_each f (drop (i + 1) es) next ≡ whole
  unfolding put_each
  put_step es i e out next whole lt here is h =
      ap (put_each f (drop (i + 1) es)) is ∙ ap (λ t. put_each f t out) (sym (more es i e lt here)) ∙ h

  pub put_end : (es : List CellValue) (i : ℕ) (out whole : List CellValue) → length es ≤ i → put_each f (drop i es) out ≡ whole → out ≡ whole
  unfolding put_each
  put_end es i out whole le h = ap (λ t. put_each f t out) (sym (drop_all i es le)) ∙ h

-- -- Cells that a region takes over

moved_more : (from to : RegionId) (e : CellValue) (es : List CellValue) → moved from to (e ∷ es) ≡ moved from to (e ∷ []) ++ moved from to es
moved_more from to e es = by_test (is_in from e.cell)
  where
    renamed : CellValue → CellValue
    renamed x = record x { cell = as_of to x.cell }

    by_test : (b : Bool) → map renamed (cond b (e ∷ filter (λ (x : CellValue). is_in from x.cell) es) (filter (λ (x : CellValue). is_in from x.cell) es))
        ≡ map renamed (cond b (e ∷ []) []) ++ moved from to es
    by_test true = refl
    by_test false = refl

abbrev one_taken : RegionId → RegionId → CellValue → Bool → List CellValue
one_taken from to e b = map (λ (x : CellValue). record x { cell = as_of to x.cell }) (cond b (e ∷ []) [])

module _ (f : Cell → Values) (from to : RegionId) where
  pub is_taken : (e : CellValue) (out next : List CellValue) → is_in from e.cell ≡ true → next ≡ with_value (as_of to e.cell) (f (as_of to e.cell)) out → next ≡ put_each f (moved from to (e ∷ [])) out
  unfolding put_each
  is_taken e out next same is = is ∙ ap (λ b. put_each f (one_taken from to e b) out) (sym same)

  pub not_taken : (e : CellValue) (out : List CellValue) → is_in from e.cell ≡ false → out ≡ put_each f (moved from to (e ∷ [])) out
  unfolding put_each
  not_taken e out other = ap (λ b. put_each f (one_taken from to e b) out) (sym other)

  pub taken_step : (es : List CellValue) (i : ℕ) (e : CellValue) (out next whole : List CellValue) → i < length es → e ≡ get_or es i e → next ≡ put_each f (moved from to (e ∷ [])) out
      → put_each f (moved from to (drop i es)) out ≡ whole → put_each f (moved from to (drop (i + 1) es)) next ≡ whole
  taken_step es i e out next whole lt here is h =
      ap (put_each f (moved from to (drop (i + 1) es))) is
      ∙ sym (put_append f (moved from to (e ∷ [])) (moved from to (drop (i + 1) es)) out)
      ∙ ap (λ t. put_each f t out) (sym (moved_more from to e (drop (i + 1) es)))
      ∙ ap (λ t. put_each f (moved from to t) out) (sym (more es i e lt here))
      ∙ h

  pub taken_end : (es : List CellValue) (i : ℕ) (out whole : List CellValue) → length es ≤ i → put_each f (moved from to (drop i es)) out ≡ whole → out ≡ whole
  unfolding put_each
  taken_end es i out whole le h = ap (λ t. put_each f (moved from to t) out) (sym (drop_all i es le)) ∙ h

-- -- A cell that is given a value

pub assigned_cells : (c : Cell) (v : Values) (es : List CellValue) → with_value c v (rebuilt (λ x. cond (same_cell x c) v (value_in x es)) es) ≡ rebuilt (λ x. cond (same_cell x c) v (value_in x es)) (without_value c ∷ es)
unfolding rebuilt
assigned_cells c v es =
    ap (λ w. with_value c w (rebuilt (λ x. cond (same_cell x c) v (value_in x es)) es)) (sym (cond-true (same_cell c c) v (value_in c es) (same_cell-itself c)))

-- -- A callee's cells

module _ (d : Division) (t next : ℕ) (s : State) where
  abbrev slot : Cell
  slot = return_slot t

  abbrev cut : Cell → Values
  cut c = cond (is_in (Frame t) c) Top (value_at s c)

  abbrev is_slot_cell : Bool
  is_slot_cell = is_some (cell_at d (Frame t) (pos 0) 4)

  slot_in : is_in (Frame t) slot ≡ true
  slot_in = same_region-itself (Frame t)

  -- nothing is known of the slot after the cut
  slot_cut : value_in slot (rebuilt cut s.cells) ≡ Top
  slot_cut =
      rebuilt_is cut slot s.cells
      ∙ ap (λ v. cond (is_among slot s.cells) v Top) (cond-true (is_in (Frame t) slot) Top (value_at s slot) slot_in)
      ∙ either_top (is_among slot s.cells)
    where
      either_top : (b : Bool) → cond b Top Top ≡ Top
      either_top true = refl
      either_top false = refl

  other_value : (c : Cell) → same_cell c slot ≡ false → cut c ≡ entered_value d t next s c
  other_value c other = sym (λ i. cond (is_in (Frame t) c) (cond (other i && is_slot_cell) (word_number next) Top) (value_at s c))

  slot_value : is_slot_cell ≡ true → entered_value d t next s slot ≡ word_number next
  slot_value known =
      (λ i. cond (slot_in i) (cond (same_cell-itself slot i && known i) (word_number next) Top) (value_at s slot))

  and_none : (b : Bool) (v : Values) → cond (b && false) v Top ≡ Top
  and_none true v = refl
  and_none false v = refl

  no_slot : is_slot_cell ≡ false → (c : Cell) → cut c ≡ entered_value d t next s c
  no_slot unknown c =
      ap (λ v. cond (is_in (Frame t) c) v (value_at s c)) (sym (and_none (same_cell c slot) (word_number next)))
      ∙ sym (λ i. cond (is_in (Frame t) c) (cond (same_cell c slot && unknown i) (word_number next) Top) (value_at s c))

  by_slot : (b m : Bool) (w x f : Values) → (b ≡ true → w ≡ f) → (b ≡ false → x ≡ cond m f Top) → cond b w x ≡ cond (b || m) f Top
  by_slot true m w x f here there = here refl
  by_slot false m w x f here there = there refl

  pub entered_slot : is_slot_cell ≡ true → with_value slot (word_number next) (rebuilt cut s.cells) ≡ rebuilt (entered_value d t next s) (without_value slot ∷ s.cells)
  entered_slot known =
      same_entries (with_value slot (word_number next) (rebuilt cut s.cells)) (rebuilt (entered_value d t next s) (without_value slot ∷ s.cells))
      (rising_with slot (word_number next) (rebuilt cut s.cells) (rebuilt_rising cut s.cells)) (rebuilt_rising (entered_value d t next s) (without_value slot ∷ s.cells))
      (known_with slot (word_number next) (rebuilt cut s.cells) (rebuilt_known cut s.cells)) (rebuilt_known (entered_value d t next s) (without_value slot ∷ s.cells))
      (λ c.
      with_value_is c slot (word_number next) (rebuilt cut s.cells) (λ top same. subst (λ x. value_in x (rebuilt cut s.cells) ≡ Top) (same_cell-equal slot c same) slot_cut)
      ∙ by_slot (same_cell slot c) (is_among c s.cells) (word_number next) (value_in c (rebuilt cut s.cells)) (entered_value d t next s c)
      (λ same. sym (slot_value known) ∙ ap (entered_value d t next s) (same_cell-equal slot c same))
      (λ other. rebuilt_is cut c s.cells ∙ ap (λ v. cond (is_among c s.cells) v Top) (other_value c (is_false (same_cell c slot) (λ h. true≢false (sym (same_sym c slot h) ∙ other)))))
      ∙ sym (rebuilt_is (entered_value d t next s) c (without_value slot ∷ s.cells)))

  pub entered_nowhere : is_slot_cell ≡ false → rebuilt cut s.cells ≡ rebuilt (entered_value d t next s) (without_value slot ∷ s.cells)
  unfolding rebuilt
  entered_nowhere unknown =
      let nothing : entered_value d t next s slot ≡ Top = sym (no_slot unknown slot) ∙ cond-true (is_in (Frame t) slot) Top (value_at s slot) slot_in in
      (λ i. rebuilt (λ c. no_slot unknown c i) s.cells)
      ∙ ap (λ v. with_value slot v (rebuilt (entered_value d t next s) s.cells)) (sym nothing)
