-- Calls, returns and allocations keep the form of a state.
use Rattle.std.proofs.Common.{ℕ, ◌==◌, ◌<◌, Bool, true, false, cond, not, ◌&&◌, List, [], ◌∷◌, ◌++◌, map, Option, Some, None, arith, pos, ℤ, ◌+ℤ◌}
use Rattle.std.specs.Prelude.{FitsSigned, filter, is_some}
use Rattle.std.specs.Int.{w32}
use Rattle.std.proofs.lemmas.Bool.{cond_both}
use Rattle.std.proofs.lemmas.Int.{ints}
use Rattle.image_map.specs.declared.region.Cell.{Cell}
use Rattle.image_map.specs.declared.region.RegionId.{RegionId}
use Rattle.image_map.specs.declared.region.RegionId.TheVariants.{Frame, OldFrame, Heap, OldHeap}
use Rattle.image_map.specs.Regions.{same_region, same_cell}
use Rattle.ia32_semantics.proofs.EffectLemmas.{put_all}
use Rattle.strided.specs.Interval.{Interval, IsCanonical, one}
use Rattle.strided.specs.Operations as interval
use Rattle.strided.proofs.MemberLemmas.{one_canonical}
use Rattle.strided.proofs.SumLemmas.{add_canonical}
use Rattle.si_bits.proofs.SignLemmas.{fits_between}
use Rattle.alocs.specs.Cells.{Division}
use Rattle.vset.specs.declared.part.Part.{Part}
use Rattle.vset.specs.Values.{Values, Top, Parts, AreCanonical, CanonicalValues}
use Rattle.vset.specs.Operations.{part, join, with_renamed, drop_region, age, also}
use Rattle.std.specs.List.{list_any}
use Rattle.abs_alu.proofs.CanonicalLemmas.{settled_canonical}
use Rattle.abs_semantics.specs.declared.parts.Link.{Link}
use Rattle.abs_semantics.specs.States.{AbsState, HasCanonical, LinksAreCanonical, value_at, has_procedure, known_of}
use Rattle.abs_semantics.specs.Joins.{held_by, with_link, links_of}
use Rattle.abs_semantics.specs.Operands.{word_number}
use Rattle.abs_semantics.specs.Touching.{cell_at}
use Rattle.abs_semantics.proofs.CellLemmas.{value_canonical}
use Rattle.abs_semantics.proofs.FormLemmas.{rebuilt_form, held_form, word_form}
use Rattle.abs_semantics.proofs.ReadLemmas.{join_form}
use Rattle.abs_state.proofs.FormLemmas.{joins_keep_form}
use Rattle.abs_steps.specs.Calls.{with_values, cleared, is_in, lies_below, as_of, moved, with_cells, is_of_age, links_as, without_young, cut_off, older_value, older_align, with_older_cells, grown_old, grown_old_if_live, return_slot, moved_align, new_link, entered_value, entered, called, ended, with_revived_cells, revived, ended_or_revived, esp_after, returned, older_block_value, with_older_block, block_or_none, allocated}
use Rattle.call_soundness.specs.Maps.{HasForm, IsUnaligned}
use Rattle.call_soundness.proofs.CallLaws.{age_form, renamed_form}
use Rattle.state_forms.proofs.AlignForms.{frame_unaligned, old_frame_unaligned}

-- -- Values

zero_form : IsCanonical (one (pos 0))
zero_form = one_canonical (pos 0) (fits_between (pos 0) (omega (arith, ints)) (omega (arith, ints)))

also_form : (old young : RegionId) (v : Values) → CanonicalValues v → CanonicalValues (also old young v)
unfolding also
also_form old young Top form = tt
also_form old young (Parts ps) form = settled_canonical (with_renamed old young ps ps) (renamed_form old young ps ps form form)

drop_form : (r : RegionId) (v : Values) → CanonicalValues v → CanonicalValues (drop_region r v)
unfolding drop_region
drop_form r Top form = tt
drop_form r (Parts ps) form = cond_both (list_any (λ p. same_region p.region r) ps) Top (Parts ps) CanonicalValues (λ _. tt) (λ _. form)

-- -- Links

pub links_left : (test : Link → Bool) (ls : List Link) → LinksAreCanonical ls → LinksAreCanonical (filter test ls)
links_left test [] forms = tt
links_left test (l ∷ ls) forms = cond_both (test l) (l ∷ filter test ls) (filter test ls) LinksAreCanonical (λ _. (forms.0, links_left test ls forms.1)) (λ _. links_left test ls forms.1)

links_renamed : (now : Bool) (ls : List Link) → LinksAreCanonical ls → LinksAreCanonical (map (λ (l : Link). record l { aged = now }) ls)
links_renamed now [] forms = tt
links_renamed now (l ∷ ls) forms = (forms.0, links_renamed now ls forms.1)

links_as_form : (child : ℕ) (aged now : Bool) (ls : List Link) → LinksAreCanonical ls → LinksAreCanonical (links_as child aged now ls)
links_as_form child aged now ls forms = links_renamed now (filter (is_of_age child aged) ls) (links_left (is_of_age child aged) ls forms)

-- -- Parts of states

module _ (s : AbsState) (form : HasCanonical s) where
  at_form : (c : Cell) → CanonicalValues (value_at s c)
  at_form c = value_canonical c s.cells form.cells

  with_links : (ls : List Link) → LinksAreCanonical ls → HasCanonical (record s { links = ls })
  with_links ls forms = record { registers = form.registers; cells = form.cells; links = forms }

  links_both : (ls ms : List Link) → LinksAreCanonical ls → LinksAreCanonical ms → LinksAreCanonical (links_of ls ms)
  links_both ls ms first second = (joins_keep_form (record s { links = ms }) (record s { links = ls }) (with_links ms second) (with_links ls first)).links

  link_put : (l : Link) (ms : List Link) → IsCanonical l.off → LinksAreCanonical ms → LinksAreCanonical (with_link l ms)
  unfolding links_of
  link_put l ms first second = links_both (l ∷ []) ms (first, tt) second

  values_form : (f : Values → Values) → ((v : Values) → CanonicalValues v → CanonicalValues (f v)) → HasCanonical (with_values f s)
  values_form f keeps =
      record { registers = λ n. keeps (s.registers n) (form.registers n); cells = rebuilt_form (λ c. f (value_at s c)) s.cells (λ c. keeps (value_at s c) (at_form c)); links = form.links }

  cleared_form : (is_lost : Cell → Bool) → HasCanonical (cleared is_lost s)
  cleared_form is_lost =
      record { registers = form.registers; cells = rebuilt_form (λ c. cond (is_lost c) Top (value_at s c)) s.cells (λ c. cond_both (is_lost c) Top (value_at s c) CanonicalValues (λ _. tt) (λ _. at_form c)); links = form.links }

  cells_form : (to from : RegionId) (f : Cell → Values) → ((c : Cell) → CanonicalValues (f c)) → HasCanonical (with_cells to from f s)
  cells_form to from f forms =
      record {
        registers = form.registers;
        cells = rebuilt_form (λ c. cond (is_in to c) (f c) (value_at s c)) (s.cells ++ moved from to s.cells) (λ c. cond_both (is_in to c) (f c) (value_at s c) CanonicalValues (λ _. forms c) (λ _. at_form c));
        links = form.links;
      }

  older_form : (t : ℕ) (c : Cell) → CanonicalValues (older_value s t c)
  older_form t c =
      cond_both (has_procedure t s.older) (held_by c (join (value_at s c) (value_at s (as_of (Frame t) c)))) (value_at s (as_of (Frame t) c)) CanonicalValues
      (λ _. held_form c (join (value_at s c) (value_at s (as_of (Frame t) c))) (join_form (value_at s c) (value_at s (as_of (Frame t) c)) (at_form c) (at_form (as_of (Frame t) c)))) (λ _. at_form (as_of (Frame t) c))

  older_cells_form : (t : ℕ) → HasCanonical (with_older_cells t s)
  older_cells_form t = cells_form (OldFrame t) (Frame t) (older_value s t) (older_form t)

  revived_cells_form : (q : ℕ) → HasCanonical (with_revived_cells q s)
  revived_cells_form q = cells_form (Frame q) (OldFrame q) (λ c. value_at s (as_of (OldFrame q) c)) (λ c. at_form (as_of (OldFrame q) c))

  block_form : (young old : Option ℕ) (key : ℕ) (c : Cell) → CanonicalValues (older_block_value young old s key c)
  block_form None old key c = at_form c
  block_form (Some m) None key c = at_form (as_of (Heap key) c)
  block_form (Some m) (Some n) key c =
      held_form c (join (value_at s c) (value_at s (as_of (Heap key) c))) (join_form (value_at s c) (value_at s (as_of (Heap key) c)) (at_form c) (at_form (as_of (Heap key) c)))

  older_block_form : (key : ℕ) → HasCanonical (with_older_block key s)
  older_block_form key =
      cells_form (OldHeap key) (Heap key) (older_block_value (known_of (Heap key) s.blocks) (known_of (OldHeap key) s.blocks) s key) (block_form (known_of (Heap key) s.blocks) (known_of (OldHeap key) s.blocks) key)

-- -- A call

module _ (t : ℕ) (s : AbsState) (form : HasCanonical s) where
  abbrev aged : AbsState
  aged = with_values (age (Frame t) (OldFrame t)) s

  aged_form : HasCanonical aged
  aged_form = values_form s form (age (Frame t) (OldFrame t)) (age_form (Frame t) (OldFrame t))

  grown_form : HasCanonical (grown_old t s)
  grown_form =
      let cells = older_cells_form aged aged_form t in
      record {
        registers = cells.registers;
        cells = cells.cells;
        links = links_both s form (links_as t false true s.links) (without_young t s.links) (links_as_form t false true s.links form.links) (links_left (λ l. not (is_of_age t false l)) s.links form.links);
      }

  grown_if_form : HasCanonical (grown_old_if_live t s)
  grown_if_form = cond_both (has_procedure t s.live) (grown_old t s) s HasCanonical (λ _. grown_form) (λ _. form)

  grown_unaligned : IsUnaligned s.aligns → IsUnaligned (grown_old_if_live t s).aligns
  grown_unaligned none = cond_both (has_procedure t s.live) (grown_old t s) s (λ (x : AbsState). IsUnaligned x.aligns) (λ _. old_frame_unaligned t (older_align s t) s.aligns none) (λ _. none)

entered_form : (d : Division) (t p : ℕ) (offset : ℤ) (next : ℕ) (align : Option ℕ) (s : AbsState) → HasCanonical s → FitsSigned w32 offset → next < 4294967296 → HasCanonical (entered d t p offset next align s)
entered_form d t p offset next align s form fits word =
    record {
      registers = put_all (λ k w. CanonicalValues w) s.registers 4 (Parts (part (Frame t) (one (pos 0)) ∷ [])) (zero_form, tt) form.registers;
      cells = rebuilt_form (entered_value d t next s) (record { cell = return_slot t; value = Top } ∷ s.cells)
          (λ c. cond_both (is_in (Frame t) c) (cond (same_cell c (return_slot t) && is_some (cell_at d (Frame t) (pos 0) 4)) (word_number next) Top) (value_at s c) CanonicalValues
          (λ _. cond_both (same_cell c (return_slot t) && is_some (cell_at d (Frame t) (pos 0) 4)) (word_number next) Top CanonicalValues (λ _. word_form next word) (λ _. tt))
          (λ _. at_form s form c));
      links = link_put s form (new_link t p offset) (without_young t s.links) (one_canonical offset fits) (links_left (λ l. not (is_of_age t false l)) s.links form.links);
    }

pub called_formed : (d : Division) (p : ℕ) (offset : ℤ) (t next : ℕ) (s : AbsState) → HasForm s → FitsSigned w32 offset → next < 4294967296 → HasForm (called d p offset t next s)
unfolding called
called_formed d p offset t next s form fits word =
    let cut = cut_off p (offset +ℤ pos 4) s in
    let cut_form = cleared_form s form.canonical (lies_below (Frame p) (offset +ℤ pos 4)) in
    let align = known_of (Frame p) s.aligns in
    record {
      canonical = entered_form d t p offset next align (grown_old_if_live t cut) (grown_if_form t cut cut_form) fits word;
      fact = tt;
      unaligned = frame_unaligned t (moved_align offset align) (grown_old_if_live t cut).aligns (grown_unaligned t cut cut_form form.unaligned);
    }

-- -- A return

module _ (q : ℕ) (s : AbsState) (form : HasCanonical s) where
  ended_form : HasCanonical (ended q s)
  ended_form =
      let rest = cleared_form s form (is_in (Frame q)) in
      record { registers = rest.registers; cells = rest.cells; links = links_left (λ (l : Link). not (l.child == q)) s.links form.links }

  abbrev renewed : AbsState
  renewed = with_values (also (OldFrame q) (Frame q)) s

  renewed_form : HasCanonical renewed
  renewed_form = values_form s form (also (OldFrame q) (Frame q)) (also_form (OldFrame q) (Frame q))

  revived_form : HasCanonical (revived q s)
  revived_form =
      let cells = revived_cells_form renewed renewed_form q in
      record {
        registers = cells.registers;
        cells = cells.cells;
        links = links_both s form (links_as q true false s.links) (without_young q s.links) (links_as_form q true false s.links form.links) (links_left (λ l. not (is_of_age q false l)) s.links form.links);
      }

  back_form : HasCanonical (ended_or_revived q s)
  back_form = cond_both (has_procedure q s.older) (revived q s) (ended q s) HasCanonical (λ _. revived_form) (λ _. ended_form)

  back_unaligned : IsUnaligned s.aligns → IsUnaligned (ended_or_revived q s).aligns
  back_unaligned none =
      cond_both (has_procedure q s.older) (revived q s) (ended q s) (λ (x : AbsState). IsUnaligned x.aligns) (λ _. frame_unaligned q (known_of (OldFrame q) s.aligns) s.aligns none) (λ _. frame_unaligned q None s.aligns none)

esp_form : (parent : ℕ) (off : Interval) (n : ℕ) → IsCanonical off → n < 65536 → CanonicalValues (esp_after parent off n)
esp_form parent off n form few =
    let four = one_canonical (pos 4) (fits_between (pos 4) (omega (arith, ints)) (omega (arith, ints))) in
    let more = one_canonical (pos n) (fits_between (pos n) (omega (arith, ints)) (omega (arith, ints))) in
    settled_canonical (part (Frame parent) (interval.add (interval.add off (one (pos 4))) (one (pos n))) ∷ []) (add_canonical (interval.add off (one (pos 4))) (one (pos n)) (add_canonical off (one (pos 4)) form four) more, tt)

pub returned_formed : (q parent : ℕ) (off : Interval) (n : ℕ) (s : AbsState) → HasForm s → IsCanonical off → n < 65536 → HasForm (returned q parent off n s)
unfolding returned
returned_formed q parent off n s form off_form few =
    let dropped = with_values (drop_region (Frame q)) s in
    let dropped_form = values_form s form.canonical (drop_region (Frame q)) (drop_form (Frame q)) in
    let back = ended_or_revived q dropped in
    let lost = cleared_form back (back_form q dropped dropped_form) (lies_below (Frame parent) (off.hi +ℤ pos 4 +ℤ pos n)) in
    record {
      canonical = record {
        registers = put_all (λ k w. CanonicalValues w) back.registers 4 (esp_after parent off n) (esp_form parent off n off_form few) lost.registers;
        cells = lost.cells;
        links = lost.links;
      };
      fact = tt;
      unaligned = back_unaligned q dropped dropped_form form.unaligned;
    }

-- -- An allocation

pub block_or_none_form : (key : ℕ) → CanonicalValues (block_or_none key)
block_or_none_form key = (zero_form, (zero_form, tt))

pub allocated_formed : (key : ℕ) (argument : Values) (s : AbsState) → HasForm s → HasForm (allocated key argument s)
unfolding allocated
allocated_formed key argument s form =
    let young = with_values (age (Heap key) (OldHeap key)) s in
    let young_form = values_form s form.canonical (age (Heap key) (OldHeap key)) (age_form (Heap key) (OldHeap key)) in
    let lost = cleared_form (with_older_block key young) (older_block_form young young_form key) (is_in (Heap key)) in
    record { canonical = record { registers = lost.registers; cells = lost.cells; links = lost.links }; fact = form.fact; unaligned = form.unaligned }
