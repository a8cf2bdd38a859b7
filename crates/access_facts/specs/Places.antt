-- The numbers of places in a graph: registers, flags, and then the cells of memory that the graph has. The project's own.
use Rattle.std.specs.Prelude.{ℕ, ◌+◌, Bool, if◌then◌else◌, List, [], ◌∷◌, ◌++◌, map}
use Rattle.std.specs.List.{flat_map}
use Rattle.image_map.specs.declared.region.Cell.{Cell}
use Rattle.image_map.specs.declared.region.RegionId.{RegionId}
use Rattle.image_map.specs.declared.region.RegionId.TheVariants.{Global, Frame, Heap}
use Rattle.image_map.specs.Regions.{number}
use Rattle.ia32_types.specs.declared.Reg.{Reg}
use Rattle.ia32_types.specs.declared.Reg.TheVariants.{Eax, Ecx, Edx, Ebx, Esp, Ebp, Esi, Edi}
use Rattle.ia32_types.specs.declared.Flag.{Flag}
use Rattle.ia32_types.specs.declared.Flag.TheVariants.{Cf, Pf, Zf, Sf, Of, Df}
use Rattle.ia32_types.specs.Sets.{is_listed_reg, is_listed_flag}
use Rattle.alocs.specs.Cells.{cells_of}
use Rattle.abs_semantics.specs.declared.parts.Known.{Known}
use Rattle.call_strings.specs.declared.context.Node.{Node}
use Rattle.abs_semantics.specs.States.{AbsState}
use Rattle.abs_semantics.specs.Joins.{numbers_of}
use Rattle.abs_steps.specs.Successors.{Placed, States}

-- the numbers, counted from one on, of the things of a list that a test picks
unfoldable pub picked : {A : Type 0} → (A → Bool) → ℕ → List A → List ℕ
picked test first [] = []
picked test first (x ∷ xs) = if test x then first ∷ picked test (first + 1) xs else picked test (first + 1) xs

-- -- Registers and flags

abbrev pub all_registers : List Reg
all_registers = Eax ∷ Ecx ∷ Edx ∷ Ebx ∷ Esp ∷ Ebp ∷ Esi ∷ Edi ∷ []

abbrev pub all_flags : List Flag
all_flags = Cf ∷ Pf ∷ Zf ∷ Sf ∷ Of ∷ Df ∷ []

-- registers have 0 to 7
unfoldable pub register_places : List Reg → List ℕ
register_places rs = picked (is_listed_reg rs) 0 all_registers

-- flags have 8 to 13
unfoldable pub flag_places : List Flag → List ℕ
flag_places fs = picked (is_listed_flag fs) 8 all_flags

-- -- Cells

-- the procedures that have a node, rising
unfoldable pub procedures : List Node → List ℕ
procedures ns = numbers_of (map (λ (n : Node). n.context.proc) ns) []

abbrev pub keys_in : AbsState → List ℕ
keys_in a = map (λ (k : Known). number k.region) a.blocks

-- the keys of the blocks that a state of the map has, rising
unfoldable pub keys : List AbsState → List ℕ
keys states = numbers_of (flat_map keys_in states) []

abbrev pub nodes_of : States → List Node
nodes_of s = map (λ (p : Placed). p.node) s.placed

abbrev pub states_of : States → List AbsState
states_of s = map (λ (p : Placed). p.state) s.placed

-- the regions of these procedures and keys, in order
abbrev pub regions_of : List ℕ → List ℕ → List RegionId
regions_of ps ks = Global ∷ map Frame ps ++ map Heap ks

-- the regions whose cells the graph of a map has
unfoldable pub graph_regions : States → List RegionId
graph_regions s = regions_of (procedures (nodes_of s)) (keys (states_of s))

-- in order of region and start
unfoldable pub graph_cells : States → List Cell
graph_cells s = flat_map (cells_of s.cells) (graph_regions s)

-- cells have the numbers from 14 on
abbrev pub cell_places : (Cell → Bool) → List Cell → List ℕ
cell_places test cs = picked test 14 cs
