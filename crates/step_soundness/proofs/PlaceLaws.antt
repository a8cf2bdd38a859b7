-- What an address resolves to doesn't depend on registers, flags and cells; and what writes leave as it was.
use Rattle.std.proofs.Common.{◌≡◌, ℕ, zero, suc, ◌+◌, Bool, List, [], ◌++◌, Option, Some, None, refl, ap}
use Rattle.image_map.specs.declared.image.Image.{Image}
use Rattle.image_map.specs.declared.region.Cell.{Cell}
use Rattle.alocs.specs.Cells.{Division, cells_of}
use Rattle.vset.specs.declared.facts.CmpFact.{CmpFact}
use Rattle.vset.specs.declared.part.Part.{Part}
use Rattle.vset.specs.Values.{Values, Top, Parts}
use Rattle.std.specs.List.{flat_map}
use Rattle.abs_semantics.specs.declared.parts.CellValue.{CellValue}
use Rattle.abs_semantics.specs.declared.parts.RangeValue.{RangeValue}
use Rattle.abs_semantics.specs.States.{AbsState, rebuilt}
use Rattle.abs_semantics.specs.Resolve.{met_after, verdict, next_of, rising_onto, levels, told_of_few, most_links, resolve}
use Rattle.std.specs.Prelude.{map, filter}
use Rattle.abs_semantics.specs.Touching.{sure_place, any_touches, touches, cell_at, is_within}
use Rattle.abs_semantics.specs.Accesses.{sure_entries, written_to, written_by, write, overwritten, changed_value, without_value, untouched_fact, may_change, value_if_met, value_if_range, listed}
use Rattle.abs_semantics.specs.Ranges.{range_written_to, range_written_by, value_if_within, write_range}

-- a state with other registers, flags, cells and another fact
abbrev pub with_core : AbsState → (ℕ → Values) → (ℕ → Bool → Bool) → List CellValue → Option CmpFact → AbsState
with_core a registers flags cells fact = record a { registers = registers; flags = flags; cells = cells; fact = fact }

module _ (a : AbsState) (registers : ℕ → Values) (flags : ℕ → Bool → Bool) (cells : List CellValue) (fact : Option CmpFact) (p len : ℕ) where
  levels_stay : (fuel n : ℕ) (xs : List Part) → levels (with_core a registers flags cells fact) p len fuel n xs ≡ levels a p len fuel n xs
  unfolding levels verdict
  levels_stay zero n xs = refl
  levels_stay (suc fuel) n xs = ap (λ ms. map (met_after n) xs ++ ms) (levels_stay fuel (n + 1) (rising_onto [] (flat_map (next_of a p len n) xs)))

  pub resolve_stays : (v : Values) → resolve (with_core a registers flags cells fact) p v len ≡ resolve a p v len
  unfolding resolve verdict
  resolve_stays Top = refl
  resolve_stays (Parts xs) = ap (told_of_few a p len) (levels_stay (most_links a + 1) 0 (rising_onto [] xs))

-- a write changes cells and the fact alone
module _ (a : AbsState) (d : Division) (image : Image) (p : ℕ) (P : AbsState → Type 0) (h : (cells : List CellValue) (fact : Option CmpFact) → P (record a { cells = cells; fact = fact })) where
  left : (touched : Cell → Bool) (given : Cell → Values) (cs : List Cell) → P (overwritten image a touched given cs)
  left touched given cs = h (rebuilt (changed_value image a touched given) (a.cells ++ map without_value cs)) (untouched_fact touched a.fact)

  pub write_leaves : (v : Values) (len : ℕ) (w : Values) → P (write a d image p v len w)
  unfolding write
  write_leaves v len w = by_entries (sure_entries (resolve a p v len))
    where
      by_place : (xs : List Part) (o : Option Part) → P (written_by image a d len w xs o)
      by_place xs None = left (any_touches len xs) (value_if_met a len w xs) []
      by_place xs (Some x) = left (λ c. touches len c x) (value_if_range len x w) (listed (cell_at d x.region x.si.lo len))

      by_entries : (o : Option (List Part)) → P (written_to image a d len w o)
      by_entries None = left (may_change image) (λ c. Top) []
      by_entries (Some xs) = by_place xs (sure_place xs)

  pub write_range_leaves : (v : Values) (len : Option ℕ) (w : RangeValue) → P (write_range a d image p v len w)
  unfolding write_range
  write_range_leaves v None w = left (may_change image) (λ c. Top) []
  write_range_leaves v (Some len) w = by_entries (sure_entries (resolve a p v len))
    where
      by_place : (xs : List Part) (o : Option Part) → P (range_written_by image a d p len w xs o)
      by_place xs None = left (any_touches len xs) (λ c. Top) []
      by_place xs (Some x) = left (λ c. touches len c x) (value_if_within a d p len x w) (filter (is_within len x) (cells_of d x.region))

      by_entries : (o : Option (List Part)) → P (range_written_to image a d p len w o)
      by_entries None = left (may_change image) (λ c. Top) []
      by_entries (Some xs) = by_place xs (sure_place xs)
