-- What a call, a return and an allocation do to an abstract state. The rules are the project's own.
--
-- The newest activation of a procedure has its own region, and so has the newest block of a key. A call of a procedure that runs
-- already, and an allocation at a key that has a block, make the newest one old; a return makes an old one the newest again.
use Rattle.std.specs.Prelude.{ℕ, ◌==◌, ◌&&◌, not, Bool, true, false, ℤ, pos, ◌+ℤ◌, int_lt, unsigned_abs, if◌then◌else◌, List, [], ◌∷◌, ◌++◌, map, filter, Option, Some, None, is_some}
use Rattle.std.specs.Int.{int_rem_euclid}
use Rattle.image_map.specs.declared.region.Cell.{Cell}
use Rattle.image_map.specs.declared.region.RegionId.{RegionId}
use Rattle.image_map.specs.declared.region.RegionId.TheVariants.{Global, Frame, OldFrame, Heap, OldHeap}
use Rattle.image_map.specs.Regions.{same_region, same_cell}
use Rattle.ia32_semantics.specs.State.{put}
use Rattle.strided.specs.Interval.{Interval, one}
use Rattle.strided.specs.Operations as interval
use Rattle.vset.specs.Values.{Values, Top, Parts, settled, only_number}
use Rattle.vset.specs.Operations.{part, join, drop_region, age, also}
use Rattle.alocs.specs.Cells.{Division}
use Rattle.abs_semantics.specs.declared.parts.CellValue.{CellValue}
use Rattle.abs_semantics.specs.declared.parts.Link.{Link}
use Rattle.abs_semantics.specs.declared.parts.Known.{Known}
use Rattle.abs_semantics.specs.States.{AbsState, value_at, has_procedure, known_of, rebuilt}
use Rattle.abs_semantics.specs.Joins.{held_by, with_number, with_link, links_of, agreed, with_known, lesser}
use Rattle.abs_semantics.specs.Operands.{word_number}
use Rattle.abs_semantics.specs.Touching.{cell_at}

-- -- Values, cells and numbers of a region

-- each value that registers and cells have, by a function
abbrev pub with_values : (Values → Values) → AbsState → AbsState
with_values f s = record s { registers = λ n. f (s.registers n); cells = rebuilt (λ c. f (value_at s c)) s.cells }

-- some cells may hold every value
abbrev pub cleared : (Cell → Bool) → AbsState → AbsState
cleared is_lost s = record s { cells = rebuilt (λ c. if is_lost c then Top else value_at s c) s.cells }

abbrev pub is_in : RegionId → Cell → Bool
is_in r c = same_region c.region r

-- a cell of a region has a byte below an offset
abbrev pub lies_below : RegionId → ℤ → Cell → Bool
lies_below r limit c = is_in r c && int_lt c.start limit

-- the same offsets of a region
abbrev pub as_of : RegionId → Cell → Cell
as_of r c = record c { region = r }

-- the cells of one region, as cells of another
abbrev pub moved : RegionId → RegionId → List CellValue → List CellValue
moved from to es = map (λ (e : CellValue). record e { cell = as_of to e.cell }) (filter (λ (e : CellValue). is_in from e.cell) es)

-- a region's cells have the values that a function gives them, where another region has such cells or the region itself
abbrev pub with_cells : RegionId → RegionId → (Cell → Values) → AbsState → AbsState
with_cells to from f s =
    record s { cells = rebuilt (λ c. if is_in to c then f c else value_at s c) (s.cells ++ moved from to s.cells) }

-- what is known of a region, or that nothing is, in the place of what was known
abbrev pub with_only : RegionId → Option ℕ → List Known → List Known
with_only r n ks = with_known r n (filter (λ (k : Known). not (same_region k.region r)) ks)

-- -- Links

abbrev pub is_of_age : ℕ → Bool → Link → Bool
is_of_age child aged l = l.child == child && (if aged then l.aged else not l.aged)

-- the links of a child of one age, as links of an age
abbrev pub links_as : ℕ → Bool → Bool → List Link → List Link
links_as child aged now ls = map (λ (l : Link). record l { aged = now }) (filter (is_of_age child aged) ls)

-- the links but those of a child that are not old
abbrev pub without_young : ℕ → List Link → List Link
without_young child ls = filter (λ l. not (is_of_age child false l)) ls

-- -- A call

-- The first of three steps: the caller's bytes below the end of the new return slot are lost.
abbrev pub cut_off : ℕ → ℤ → AbsState → AbsState
cut_off p end s = cleared (lies_below (Frame p) end) s

-- a cell of older activations, where the newest one of a procedure becomes one of them
abbrev pub older_value : AbsState → ℕ → Cell → Values
older_value s t c =
    if has_procedure t s.older then held_by c (join (value_at s c) (value_at s (as_of (Frame t) c))) else value_at s (as_of (Frame t) c)

abbrev pub older_align : AbsState → ℕ → Option ℕ
older_align s t =
    if has_procedure t s.older then agreed (known_of (Frame t) s.aligns) (known_of (OldFrame t) s.aligns) else known_of (Frame t) s.aligns

abbrev pub with_older_cells : ℕ → AbsState → AbsState
with_older_cells t s = with_cells (OldFrame t) (Frame t) (older_value s t) s

-- The second: where the callee runs already, its newest activation grows old.
abbrev pub grown_old : ℕ → AbsState → AbsState
grown_old t s =
    record (with_older_cells t (with_values (age (Frame t) (OldFrame t)) s)) {
      older = with_number t s.older;
      links = links_of (links_as t false true s.links) (without_young t s.links);
      aligns = with_only (OldFrame t) (older_align s t) s.aligns;
    }

abbrev pub grown_old_if_live : ℕ → AbsState → AbsState
grown_old_if_live t s = if has_procedure t s.live then grown_old t s else s

abbrev pub return_slot : ℕ → Cell
return_slot t = record { region = Frame t; start = pos 0; end = pos 4 }

-- the remainder modulo 2^n of a number
abbrev pub remainder : ℤ → ℕ → ℕ
remainder z m = unsigned_abs (int_rem_euclid z (pos m))

-- what the base of an activation leaves modulo 16, by what its caller's leaves
abbrev pub moved_align : ℤ → Option ℕ → Option ℕ
moved_align offset None = None
moved_align offset (Some n) = Some (remainder (pos n +ℤ offset) 16)

-- the one link of the newest activation of the callee
abbrev pub new_link : ℕ → ℕ → ℤ → Link
new_link t p offset = record { child = t; aged = false; parent = p; off = one offset }

-- the callee's cells may hold every value, but that its return slot, where this is a cell, holds the place after the call
abbrev pub entered_value : Division → ℕ → ℕ → AbsState → Cell → Values
entered_value d t next s c =
    if is_in (Frame t) c then (if same_cell c (return_slot t) && is_some (cell_at d (Frame t) (pos 0) 4) then word_number next else Top) else value_at s c

-- The third: the callee's newest activation begins, so far from the caller's base.
abbrev pub entered : Division → ℕ → ℕ → ℤ → ℕ → Option ℕ → AbsState → AbsState
entered d t p offset next align s =
    record s {
      registers = put s.registers 4 (Parts (part (Frame t) (one (pos 0)) ∷ []));
      cells = rebuilt (entered_value d t next s) (record { cell = return_slot t; value = Top } ∷ s.cells);
      live = with_number t s.live;
      links = with_link (new_link t p offset) (without_young t s.links);
      aligns = with_only (Frame t) (moved_align offset align) s.aligns;
      fact = None;
    }

-- After a call of t from p whose return slot lies so far from p's base, where `next` is the place after the call.
unfoldable pub called : Division → ℕ → ℤ → ℕ → ℕ → AbsState → AbsState
called d p offset t next s =
    entered d t p offset next (known_of (Frame p) s.aligns) (grown_old_if_live t (cut_off p (offset +ℤ pos 4) s))

-- -- A return

-- the activation of q that ends was the only one
abbrev pub ended : ℕ → AbsState → AbsState
ended q s =
    record (cleared (is_in (Frame q)) s) {
      live = filter (λ (t : ℕ). not (t == q)) s.live;
      links = filter (λ (l : Link). not (l.child == q)) s.links;
      aligns = with_only (Frame q) None s.aligns;
    }

abbrev pub with_revived_cells : ℕ → AbsState → AbsState
with_revived_cells q s = with_cells (Frame q) (OldFrame q) (λ c. value_at s (as_of (OldFrame q) c)) s

-- one of the older activations of q is the newest now
abbrev pub revived : ℕ → AbsState → AbsState
revived q s =
    record (with_revived_cells q (with_values (also (OldFrame q) (Frame q)) s)) {
      links = links_of (links_as q true false s.links) (without_young q s.links);
      aligns = with_only (Frame q) (known_of (OldFrame q) s.aligns) s.aligns;
    }

abbrev pub ended_or_revived : ℕ → AbsState → AbsState
ended_or_revived q s = if has_procedure q s.older then revived q s else ended q s

-- ESP behind the return slot and n further bytes, as an offset in the caller's activation
abbrev pub esp_after : ℕ → Interval → ℕ → Values
esp_after parent off n = settled (part (Frame parent) (interval.add (interval.add off (one (pos 4))) (one (pos n))) ∷ [])

-- the caller goes on: its bytes below ESP are lost
abbrev pub gone_back : ℕ → Interval → ℕ → AbsState → AbsState
gone_back parent off n s =
    record (cleared (lies_below (Frame parent) (off.hi +ℤ pos 4 +ℤ pos n)) s) {
      registers = put s.registers 4 (esp_after parent off n);
      fact = None;
    }

-- After a return that takes n bytes more, of an activation of q whose base lies so far from one of its parent.
unfoldable pub returned : ℕ → ℕ → Interval → ℕ → AbsState → AbsState
returned q parent off n s = gone_back parent off n (ended_or_revived q (with_values (drop_region (Frame q)) s))

-- -- An allocation

-- a cell of the older blocks, by whether the key has a newest block and older ones
abbrev pub older_block_value : Option ℕ → Option ℕ → AbsState → ℕ → Cell → Values
older_block_value None old s key c = value_at s c
older_block_value (Some m) None s key c = value_at s (as_of (Heap key) c)
older_block_value (Some m) (Some n) s key c = held_by c (join (value_at s c) (value_at s (as_of (Heap key) c)))

abbrev pub older_size : Option ℕ → Option ℕ → Option ℕ
older_size None old = old
older_size (Some m) old = Some (lesser m old)

abbrev pub with_older_block : ℕ → AbsState → AbsState
with_older_block key s =
    with_cells (OldHeap key) (Heap key) (older_block_value (known_of (Heap key) s.blocks) (known_of (OldHeap key) s.blocks) s key) s

-- the least size of what is asked for
abbrev pub size_of : Option Interval → ℕ
size_of None = 0
size_of (Some si) = if int_lt si.lo (pos 0) then 0 else unsigned_abs si.lo

abbrev pub sizes_after : ℕ → ℕ → List Known → List Known
sizes_after key size ks =
    with_only (Heap key) (Some size) (with_only (OldHeap key) (older_size (known_of (Heap key) ks) (known_of (OldHeap key) ks)) ks)

-- EAX is 0, or the base of the new block
abbrev pub block_or_none : ℕ → Values
block_or_none key = Parts (part Global (one (pos 0)) ∷ part (Heap key) (one (pos 0)) ∷ [])

-- After an allocation at a key, of as many bytes as an argument says.
unfoldable pub allocated : ℕ → Values → AbsState → AbsState
allocated key argument s =
    record (cleared (is_in (Heap key)) (with_older_block key (with_values (age (Heap key) (OldHeap key)) s))) {
      blocks = sizes_after key (size_of (only_number argument)) s.blocks;
    }
