-- How two abstract states become one. The rules are the project's own.
use Rattle.std.specs.Prelude.{ℕ, ◌==◌, ◌&&◌, ◌||◌, not, nat_le, nat_lt, Bool, true, false, ℤ, pos, int_le, ◌+ℤ◌, if◌then◌else◌, List, [], ◌∷◌, ◌++◌, map, Option, Some, None}
use Rattle.std.specs.Ordering.{int_eq}
use Rattle.image_map.specs.declared.region.Cell.{Cell}
use Rattle.image_map.specs.declared.region.RegionId.{RegionId}
use Rattle.image_map.specs.Regions.{same_region, same_cell, region_before}
use Rattle.strided.specs.Interval.{Interval}
use Rattle.vset.specs.declared.facts.CmpFact.{CmpFact}
use Rattle.vset.specs.declared.facts.CmpPlace.{CmpPlace}
use Rattle.vset.specs.declared.facts.CmpPlace.TheVariants as place
use Rattle.vset.specs.declared.part.Both.{Both}
use Rattle.vset.specs.declared.part.Both.TheVariants.{Joined, Widened}
use Rattle.vset.specs.Values.{Values, Top, only_number}
use Rattle.vset.specs.Operations.{both_of, join, widen, same_interval}
use Rattle.ia32_types.specs.Numbers.{reg_number}
use Rattle.abs_semantics.specs.declared.parts.Link.{Link}
use Rattle.abs_semantics.specs.declared.parts.Known.{Known}
use Rattle.abs_semantics.specs.States.{AbsState, value_at, known_of, has_region, rebuilt}

-- -- What a cell may hold, by its length and the value alone

-- numbers that so many bytes make
abbrev pub fits_below : ℤ → Option Interval → Bool
fits_below most None = false
fits_below most (Some si) = int_le (pos 0) si.lo && int_le si.hi most

abbrev pub has_length : ℕ → Cell → Bool
has_length len c = int_eq c.end (c.start +ℤ pos len)

abbrev pub may_hold : Cell → Values → Bool
may_hold c v =
    has_length 4 c || (has_length 1 c && fits_below (pos 255) (only_number v)) || (has_length 2 c && fits_below (pos 65535) (only_number v))

-- the value, or every value where the cell may not hold it
abbrev pub held_by : Cell → Values → Values
held_by c v = if may_hold c v then v else Top

-- -- Cells

-- Where one state alone has the cell's region its value stands, and the other's is dropped. Else both are joined, also where none
-- has the region.
abbrev pub joined_value : AbsState → AbsState → Cell → Values
joined_value a b c =
    if has_region a c.region && not (has_region b c.region) then value_at a c
    else (if has_region b c.region && not (has_region a c.region) then value_at b c else held_by c (join (value_at a c) (value_at b c)))

-- where the old state hasn't the cell's region there is nothing to widen from
abbrev pub widened_value : AbsState → AbsState → Cell → Values
widened_value old new c =
    if has_region old c.region then held_by c (widen (value_at old c) (value_at new c)) else value_at new c

-- -- Procedures

-- a number put among rising ones, once
abbrev pub with_number : ℕ → List ℕ → List ℕ
with_number n [] = n ∷ []
with_number n (x ∷ xs) = if x == n then x ∷ xs else (if nat_lt x n then x ∷ with_number n xs else n ∷ x ∷ xs)

unfoldable pub numbers_of : List ℕ → List ℕ → List ℕ
numbers_of [] ys = ys
numbers_of (x ∷ xs) ys = with_number x (numbers_of xs ys)

-- -- Links

abbrev pub same_flag : Bool → Bool → Bool
same_flag true b = b
same_flag false b = not b

-- links between the same procedures, of the same age
abbrev pub same_link : Link → Link → Bool
same_link l m = l.child == m.child && (same_flag l.aged m.aged && l.parent == m.parent)

abbrev pub offsets_of : Both → Link → Link → Link
offsets_of both l m = record l { off = both_of both l.off m.off }

-- by child, then by age, not the old first, then by parent
abbrev pub link_before : Link → Link → Bool
link_before l m =
    if l.child == m.child then (if same_flag l.aged m.aged then nat_lt l.parent m.parent else m.aged)
    else nat_lt l.child m.child

-- a link put among others: offsets of the same two procedures and age become one
abbrev pub with_link : Link → List Link → List Link
with_link l [] = l ∷ []
with_link l (m ∷ ms) =
    if same_link m l then offsets_of Joined m l ∷ ms else (if link_before m l then m ∷ with_link l ms else l ∷ m ∷ ms)

unfoldable pub links_of : List Link → List Link → List Link
links_of [] ms = ms
links_of (l ∷ ls) ms = with_link l (links_of ls ms)

-- the offsets of a link widen those that it had, if it was there
abbrev pub widened_link : List Link → Link → Link
widened_link [] l = l
widened_link (m ∷ ms) l = if same_link m l then offsets_of Widened m l else widened_link ms l

-- -- Alignments and sizes

-- known where both know it and agree
abbrev pub agreed : Option ℕ → Option ℕ → Option ℕ
agreed None n = None
agreed (Some m) None = None
agreed (Some m) (Some n) = if m == n then Some m else None

-- the alignment of a region in both: where one state alone has the region, as that one knows it
abbrev pub joined_align : AbsState → AbsState → RegionId → Option ℕ
joined_align a b r =
    if has_region a r && not (has_region b r) then known_of r a.aligns
    else (if has_region b r && not (has_region a r) then known_of r b.aligns else agreed (known_of r a.aligns) (known_of r b.aligns))

abbrev pub put_known : Known → List Known → List Known
put_known k [] = k ∷ []
put_known k (x ∷ xs) =
    if same_region x.region k.region then k ∷ xs else (if region_before x.region k.region then x ∷ put_known k xs else k ∷ x ∷ xs)

abbrev pub with_known : RegionId → Option ℕ → List Known → List Known
with_known r None ks = ks
with_known r (Some n) ks = put_known (record { region = r; number = n }) ks

-- the regions of some entries, each with the number that a function gives it
unfoldable pub known_anew : (RegionId → Option ℕ) → List Known → List Known
known_anew f [] = []
known_anew f (k ∷ ks) = with_known k.region (f k.region) (known_anew f ks)

-- the lesser of a number and of one that may be known
abbrev pub lesser : ℕ → Option ℕ → ℕ
lesser m None = m
lesser m (Some n) = if nat_le m n then m else n

-- a region's size put among others: of two sizes the lesser stays
abbrev pub with_size : Known → List Known → List Known
with_size k ks = put_known (record k { number = lesser k.number (known_of k.region ks) }) ks

unfoldable pub sizes_of : List Known → List Known → List Known
sizes_of [] ls = ls
sizes_of (k ∷ ks) ls = with_size k (sizes_of ks ls)

-- -- What the flags were made of

abbrev pub same_place : CmpPlace → CmpPlace → Bool
same_place (place.Reg r) (place.Reg q) = reg_number r == reg_number q
same_place (place.Cell c) (place.Cell d) = same_cell c d
same_place _ _ = false

abbrev pub same_fact : CmpFact → CmpFact → Bool
same_fact f g = same_place f.place g.place && same_interval f.bound g.bound

-- the fact of both, where they have the same
abbrev pub fact_of : Option CmpFact → Option CmpFact → Option CmpFact
fact_of None g = None
fact_of (Some f) None = None
fact_of (Some f) (Some g) = if same_fact f g then Some f else None

-- -- States

abbrev pub joined_state : AbsState → AbsState → AbsState
joined_state a b =
    record {
      registers = λ n. join (a.registers n) (b.registers n);
      flags = λ n t. a.flags n t || b.flags n t;
      cells = rebuilt (joined_value a b) (a.cells ++ b.cells);
      live = numbers_of b.live a.live;
      older = numbers_of b.older a.older;
      links = links_of b.links a.links;
      aligns = known_anew (joined_align a b) (a.aligns ++ b.aligns);
      blocks = sizes_of b.blocks a.blocks;
      fact = fact_of a.fact b.fact;
      root = a.root;
    }

-- Registers, cells and the offsets of links are widened, and all else is that of the new state.
abbrev pub widened_state : AbsState → AbsState → AbsState
widened_state old new =
    record new {
      registers = λ n. widen (old.registers n) (new.registers n);
      cells = rebuilt (widened_value old new) (old.cells ++ new.cells);
      links = map (widened_link old.links) new.links;
    }
