-- Reads and writes give values whose intervals have the one form.
use Rattle.std.proofs.Common.{◌≡◌, ℕ, ⊎_elim, Bool, true, cond, ◌<◌, ◌&&◌, List, [], ◌∷◌, ◌++◌, map, Option, Some, None, subst, arith, pos, ◌+ℤ◌}
use Rattle.std.specs.Prelude.{FitsSigned, ◌<ℤ◌, filter}
use Rattle.std.specs.Int.{int_gap, cast_signed, w32}
use Rattle.std.proofs.lemmas.Bool.{cond_both}
use Rattle.std.proofs.lemmas.Int.{ints}
use Rattle.image_map.specs.declared.image.Image.{Image}
use Rattle.image_map.specs.declared.region.Cell.{Cell}
use Rattle.ia32_types.specs.Numbers.{size}
use Rattle.ia32_semantics.specs.State.{little_endian}
use Rattle.alocs.specs.Cells.{Division, cells_of}
use Rattle.image_map.specs.Regions.{same_cell, cell_before}
use Rattle.strided.proofs.MemberLemmas.{int_either}
use Rattle.strided.proofs.SpacedLemmas.{gap_is}
use Rattle.abs_semantics.proofs.CellLemmas.{value_canonical}
use Rattle.abs_semantics.proofs.RangeLemmas.{few_bytes, held_end, held_length}
use Rattle.abs_semantics.proofs.ReadLemmas.{join_form}
use Rattle.strided.proofs.SumLemmas.{signed_fits}
use Rattle.abs_alu.proofs.CanonicalLemmas.{number_canonical}
use Rattle.abs_alu.proofs.WordLemmas.{signed_is}
use Rattle.vset.specs.declared.part.Part.{Part}
use Rattle.vset.specs.Operations.{join}
use Rattle.vset.specs.Values.{Values, Top, Parts, CanonicalValues}
use Rattle.abs_semantics.specs.declared.parts.CellValue.{CellValue}
use Rattle.abs_semantics.specs.declared.parts.RangeValue.{RangeValue}
use Rattle.abs_semantics.specs.declared.parts.RangeValue.TheVariants as range
use Rattle.abs_semantics.specs.States.{AbsState, HasCanonical, CellsAreCanonical, value_at, inserted, with_value, rebuilt}
use Rattle.abs_semantics.specs.Joins.{may_hold, held_by}
use Rattle.abs_semantics.specs.Resolve.{resolve}
use Rattle.abs_semantics.specs.Touching.{any_touches, any_crosses, is_range, touches, sure_place, cell_at, is_within}
use Rattle.abs_semantics.specs.Accesses.{sure_entries, cells_read, joined_onto, value_of_cells, read, may_change, without_value, changed_value, overwritten, overwritten_anywhere, value_if_range, listed, value_if_met, written_by, written_to, write}
use Rattle.abs_semantics.specs.Operands.{word_number}
use Rattle.abs_semantics.specs.Ranges.{value_of_cell, lone_range, value_within, read_range, repeated, repeated_value, is_clear, copied, stored, value_if_within, range_written_by, range_written_to, write_range}
use Rattle.abs_semantics.specs.Laws.{ReadsHaveForm, WritesKeepForm, RangeWritesKeepForm}

-- -- Cells that are made anew

inserted_form : (e : CellValue) (es : List CellValue) → CanonicalValues e.value → CellsAreCanonical es → CellsAreCanonical (inserted e es)
inserted_form e [] form forms = (form, tt)
inserted_form e (x ∷ xs) form forms =
    cond_both (same_cell x.cell e.cell) (e ∷ xs) (cond (cell_before x.cell e.cell) (x ∷ inserted e xs) (e ∷ x ∷ xs)) CellsAreCanonical (λ _. (form, forms.1))
    (λ _. cond_both (cell_before x.cell e.cell) (x ∷ inserted e xs) (e ∷ x ∷ xs) CellsAreCanonical (λ _. (forms.0, inserted_form e xs form forms.1)) (λ _. (form, forms)))

with_form : (c : Cell) (v : Values) (es : List CellValue) → CanonicalValues v → CellsAreCanonical es → CellsAreCanonical (with_value c v es)
with_form c Top es form forms = forms
with_form c (Parts ps) es form forms = inserted_form (record { cell = c; value = Parts ps }) es form forms

pub rebuilt_form : (f : Cell → Values) (es : List CellValue) → ((c : Cell) → CanonicalValues (f c)) → CellsAreCanonical (rebuilt f es)
unfolding rebuilt
rebuilt_form f [] forms = tt
rebuilt_form f (e ∷ es) forms = with_form e.cell (f e.cell) (rebuilt f es) (forms e.cell) (rebuilt_form f es forms)

pub held_form : (c : Cell) (v : Values) → CanonicalValues v → CanonicalValues (held_by c v)
held_form c v form = cond_both (may_hold c v) v Top CanonicalValues (λ _. form) (λ _. tt)

pub word_form : (n : ℕ) → n < 4294967296 → CanonicalValues (word_number n)
word_form n lt = number_canonical (cast_signed w32 n) (subst (λ z. FitsSigned w32 z) (signed_is n lt) (signed_fits (pos n)))

module _ (a : AbsState) (form : HasCanonical a) where
  at_form : (c : Cell) → CanonicalValues (value_at a c)
  at_form c = value_canonical c a.cells form.cells

  pub overwritten_form : (image : Image) (touched : Cell → Bool) (given : Cell → Values) (cs : List Cell) → ((c : Cell) → CanonicalValues (given c)) → HasCanonical (overwritten image a touched given cs)
  overwritten_form image touched given cs forms =
      record {
        registers = form.registers;
        cells = rebuilt_form (changed_value image a touched given) (a.cells ++ map without_value cs)
            (λ c. cond_both (touched c && may_change image c) (given c) (value_at a c) CanonicalValues (λ _. forms c) (λ _. at_form c));
        links = form.links;
      }

  anywhere_form : (image : Image) → HasCanonical (overwritten_anywhere image a)
  anywhere_form image = overwritten_form image (may_change image) (λ c. Top) [] (λ c. tt)

  -- -- Reads

  joined_forms : (into : Values) (cs : List Cell) → CanonicalValues into → CanonicalValues (joined_onto a into cs)
  joined_forms into [] form_in = form_in
  joined_forms into (c ∷ cs) form_in = joined_forms (join into (value_at a c)) cs (join_form into (value_at a c) form_in (at_form c))

  cells_form : (o : Option (List Cell)) → CanonicalValues (value_of_cells a o)
  cells_form None = tt
  cells_form (Some cs) = joined_forms (Parts []) cs tt

  cell_form : (o : Option Cell) → CanonicalValues (value_of_cell a o)
  cell_form None = tt
  cell_form (Some c) = at_form c

  within_form : (d : Division) (distance bytes : ℕ) (o : Option Part) → CanonicalValues (value_within a d distance bytes o)
  within_form d distance bytes None = tt
  within_form d distance bytes (Some x) = cell_form (cell_at d x.region (x.si.lo +ℤ pos distance) bytes)

  range_read_form : (d : Division) (p : ℕ) (v : Values) (len distance bytes : ℕ) → CanonicalValues (read_range a d p v len distance bytes)
  unfolding read_range
  range_read_form d p v len distance bytes = within_form d distance bytes (lone_range a p v len)

  -- -- Writes

  module _ (image : Image) (d : Division) (p len : ℕ) where
    by_form : (w : Values) (xs : List Part) → CanonicalValues w → (o : Option Part) → HasCanonical (written_by image a d len w xs o)
    by_form w xs form_w (Some x) =
        overwritten_form image (λ c. touches len c x) (value_if_range len x w) (listed (cell_at d x.region x.si.lo len))
        (λ c. cond_both (is_range len c x.si) (held_by c w) Top CanonicalValues (λ _. held_form c w form_w) (λ _. tt))
    by_form w xs form_w None =
        overwritten_form image (any_touches len xs) (value_if_met a len w xs) []
        (λ c. cond_both (any_crosses len xs c) Top (held_by c (join (value_at a c) w)) CanonicalValues (λ _. tt) (λ _. held_form c (join (value_at a c) w) (join_form (value_at a c) w (at_form c) form_w)))

    to_form : (w : Values) → CanonicalValues w → (o : Option (List Part)) → HasCanonical (written_to image a d len w o)
    to_form w form_w None = anywhere_form image
    to_form w form_w (Some xs) = by_form w xs form_w (sure_place xs)

    stored_form : (x : Part) (w : RangeValue) (c : Cell) (distance : ℕ) → c.end ≡ c.start +ℤ pos (int_gap c.start c.end) → CanonicalValues (held_by c (stored a d p len x w distance (int_gap c.start c.end)))
    stored_form x range.Any c distance end = held_form c Top tt
    stored_form x (range.Number n width) c distance end =
        cond_both (may_hold c (repeated_value (size width) n distance (int_gap c.start c.end))) (repeated_value (size width) n distance (int_gap c.start c.end)) Top CanonicalValues
        (λ may. word_form (little_endian (repeated (size width) n distance (int_gap c.start c.end)))
        (few_bytes (size width) n distance (int_gap c.start c.end) (held_length c (repeated_value (size width) n distance (int_gap c.start c.end)) (int_gap c.start c.end) end may)))
        (λ _. tt)
    stored_form x (range.Copy v) c distance end =
        held_form c (copied a d p v len x distance (int_gap c.start c.end))
        (cond_both (is_clear len x (lone_range a p v len)) (read_range a d p v len distance (int_gap c.start c.end)) Top CanonicalValues (λ _. range_read_form d p v len distance (int_gap c.start c.end)) (λ _. tt))

    -- a cell that ends before its start holds every value
    held_anyway : (v : Values) (c : Cell) → (c.end ≡ c.start +ℤ pos (int_gap c.start c.end) → CanonicalValues (held_by c v)) → CanonicalValues (held_by c v)
    held_anyway v c form_v =
        ⊎_elim (λ up. form_v (gap_is c.start c.end up))
        (λ down. cond_both (may_hold c v) v Top CanonicalValues (λ may. absurd (no_length may down)) (λ _. tt)) (int_either c.start c.end)
      where
        no_length : may_hold c v ≡ true → c.end <ℤ c.start → ⊥
        no_length may down = let h = held_end c v may in let last : c.end ≡ c.start +ℤ pos h.0 = h.2 in omega (arith, ints)

    range_form : (w : RangeValue) (xs : List Part) (o : Option Part) → HasCanonical (range_written_by image a d p len w xs o)
    range_form w xs (Some x) =
        overwritten_form image (λ c. touches len c x) (value_if_within a d p len x w) (filter (is_within len x) (cells_of d x.region))
        (λ c. cond_both (is_within len x c) (held_by c (stored a d p len x w (int_gap x.si.lo c.start) (int_gap c.start c.end))) Top CanonicalValues
        (λ _. held_anyway (stored a d p len x w (int_gap x.si.lo c.start) (int_gap c.start c.end)) c (stored_form x w c (int_gap x.si.lo c.start))) (λ _. tt))
    range_form w xs None = overwritten_form image (any_touches len xs) (λ c. Top) [] (λ c. tt)

    range_to_form : (w : RangeValue) (o : Option (List Part)) → HasCanonical (range_written_to image a d p len w o)
    range_to_form w None = anywhere_form image
    range_to_form w (Some xs) = range_form w xs (sure_place xs)

pub reads_have_form : ReadsHaveForm
unfolding read
reads_have_form a d p v len form = cells_form a form (cells_read a d p v len)

pub writes_keep_form : WritesKeepForm
unfolding write
writes_keep_form image a d p v len w form form_w = to_form a form image d p len w form_w (sure_entries (resolve a p v len))

pub range_writes_keep_form : RangeWritesKeepForm
unfolding write_range
range_writes_keep_form image a d p v None w form = anywhere_form a form image
range_writes_keep_form image a d p v (Some len) w form = range_to_form a form image d p len w (sure_entries (resolve a p v len))
