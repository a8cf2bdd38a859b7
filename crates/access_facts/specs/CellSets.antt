-- Which cells accesses may read, may write, and write for certain. The project's own.
use Rattle.std.specs.Prelude.{ℕ, ◌&&◌, not, Bool, true, false, List, Option, Some, None}
use Rattle.std.specs.List.{list_any}
use Rattle.image_map.specs.declared.image.Image.{Image}
use Rattle.image_map.specs.declared.region.Cell.{Cell}
use Rattle.image_map.specs.declared.region.RegionId.{RegionId}
use Rattle.image_map.specs.declared.region.RegionId.TheVariants.{Global, Frame, OldFrame, Heap, OldHeap}
use Rattle.vset.specs.declared.part.Part.{Part}
use Rattle.abs_semantics.specs.States.{has_procedure}
use Rattle.abs_semantics.specs.Touching.{touches, is_within, sure_place}
use Rattle.abs_semantics.specs.Accesses.{may_change}
use Rattle.access_facts.specs.declared.reach.Reach.{Reach}
use Rattle.access_facts.specs.declared.reach.Reach.TheVariants.{Anywhere, Within}
use Rattle.access_facts.specs.Reach.{at_home}

-- one of the ranges has a byte of the cell
abbrev pub meets : ℕ → List Part → Cell → Bool
meets len xs c = list_any (λ (x : Part). touches len c (at_home x)) xs

-- a read from anywhere may read every cell
abbrev pub may_read : Cell → Reach → Bool
may_read c Anywhere = true
may_read c (Within len xs) = meets len xs c

-- a write to anywhere may write every cell of activations and blocks, and of the segments that may be written
abbrev pub may_write : Image → Cell → Reach → Bool
may_write image c Anywhere = may_change image c
may_write image c (Within len xs) = meets len xs c

-- Global, and the newest activation of a procedure that has no older one: its bytes are these and no others.
abbrev pub is_sure : List ℕ → RegionId → Bool
is_sure older Global = true
is_sure older (Frame p) = not (has_procedure p older)
is_sure older (OldFrame p) = false
is_sure older (Heap key) = false
is_sure older (OldHeap key) = false

abbrev pub fills_place : List ℕ → ℕ → Cell → Option Part → Bool
fills_place older len c None = false
fills_place older len c (Some x) = is_sure older x.region && is_within len x c

-- the cell lies as a whole in a write to one place, where these procedures have older activations after it
abbrev pub must_write : List ℕ → Cell → Reach → Bool
must_write older c Anywhere = false
must_write older c (Within len xs) = fills_place older len c (sure_place xs)

-- -- By some of them

abbrev pub is_read : List Reach → Cell → Bool
is_read rs c = list_any (may_read c) rs

abbrev pub is_written : Image → List Reach → Cell → Bool
is_written image rs c = list_any (may_write image c) rs

abbrev pub is_filled : List ℕ → List Reach → Cell → Bool
is_filled older rs c = list_any (must_write older c) rs
