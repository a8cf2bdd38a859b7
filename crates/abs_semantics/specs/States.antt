-- Abstract states: what is known of a machine's state at a place of a program. They are the project's own.
--
-- Registers and flags are functions of their numbers, so that a change of one stays apart from the others by computation. The lists
-- rise, and have each key once.
use Rattle.std.specs.Prelude.{ℕ, ◌==◌, Bool, true, if◌then◌else◌, List, [], ◌∷◌, Option, Some, None, is_some}
use Rattle.std.specs.List.{list_any}
use Rattle.image_map.specs.declared.region.Cell.{Cell}
use Rattle.image_map.specs.declared.region.RegionId.{RegionId}
use Rattle.image_map.specs.declared.region.RegionId.TheVariants.{Global, Frame, OldFrame, Heap, OldHeap}
use Rattle.image_map.specs.Regions.{same_region, same_cell, cell_before}
use Rattle.strided.specs.Interval.{IsCanonical}
use Rattle.vset.specs.declared.facts.CmpFact.{CmpFact}
use Rattle.vset.specs.Values.{Values, Top, Parts, CanonicalValues}
use Rattle.abs_semantics.specs.declared.parts.CellValue.{CellValue}
use Rattle.abs_semantics.specs.declared.parts.Known.{Known}
use Rattle.abs_semantics.specs.declared.parts.Link.{Link}

pub record AbsState : Type 0 where
  -- by the numbers of registers: EAX, ECX, EDX, EBX, ESP, EBP, ESI, EDI
  pub registers : ℕ → Values
  -- by the numbers of flags, CF, PF, ZF, SF, OF and DF: whether the flag may be so
  pub flags : ℕ → Bool → Bool
  -- a cell that isn't among them may hold every value
  pub cells : List CellValue
  -- procedures that have an activation
  pub live : List ℕ
  -- procedures that have an activation besides their newest
  pub older : List ℕ
  pub links : List Link
  -- what the bases of a region leave modulo 16
  pub aligns : List Known
  -- the keys of blocks, by region, and a size that each block of the region has at least
  pub blocks : List Known
  -- what the flags were made of
  pub fact : Option CmpFact
  -- the procedure at which runs start
  pub root : ℕ

-- -- Look-ups

abbrev pub value_in : Cell → List CellValue → Values
value_in c [] = Top
value_in c (e ∷ es) = if same_cell e.cell c then e.value else value_in c es

-- what a cell may hold
abbrev pub value_at : AbsState → Cell → Values
value_at a c = value_in c a.cells

abbrev pub has_procedure : ℕ → List ℕ → Bool
has_procedure p ps = list_any (λ q. q == p) ps

abbrev pub known_of : RegionId → List Known → Option ℕ
known_of region [] = None
known_of region (k ∷ ks) = if same_region k.region region then Some k.number else known_of region ks

-- Whether a state has a region: numbers always, activations by their procedures, and blocks by their keys.
abbrev pub has_region : AbsState → RegionId → Bool
has_region a Global = true
has_region a (Frame p) = has_procedure p a.live
has_region a (OldFrame p) = has_procedure p a.older
has_region a (Heap key) = is_some (known_of (Heap key) a.blocks)
has_region a (OldHeap key) = is_some (known_of (OldHeap key) a.blocks)

-- -- Cells that are made anew

-- a cell's value put where the order wants it; every value stands nowhere
abbrev pub inserted : CellValue → List CellValue → List CellValue
inserted e [] = e ∷ []
inserted e (x ∷ xs) = if same_cell x.cell e.cell then e ∷ xs else (if cell_before x.cell e.cell then x ∷ inserted e xs else e ∷ x ∷ xs)

abbrev pub with_value : Cell → Values → List CellValue → List CellValue
with_value c Top es = es
with_value c (Parts ps) es = inserted (record { cell = c; value = Parts ps }) es

-- the cells of some lists, each with the value that a function gives it
unfoldable pub rebuilt : (Cell → Values) → List CellValue → List CellValue
rebuilt f [] = []
rebuilt f (e ∷ es) = with_value e.cell (f e.cell) (rebuilt f es)

-- -- The form that the analysis keeps

abbrev pub CellsAreCanonical : List CellValue → Type 0
CellsAreCanonical [] = Unit {0}
CellsAreCanonical (e ∷ es) = CanonicalValues e.value × CellsAreCanonical es

abbrev pub LinksAreCanonical : List Link → Type 0
LinksAreCanonical [] = Unit {0}
LinksAreCanonical (l ∷ ls) = IsCanonical l.off × LinksAreCanonical ls

-- all intervals have the one form of their members
pub record HasCanonical (a : AbsState) : Type 0 where
  pub registers : (n : ℕ) → CanonicalValues (a.registers n)
  pub cells : CellsAreCanonical a.cells
  pub links : LinksAreCanonical a.links
