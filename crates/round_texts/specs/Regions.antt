-- How regions are written. The project's own.
use Rattle.std.specs.Prelude.{ℕ, List, ◌∷◌, ◌++◌, codes}
use Rattle.surf_base.specs.Hex.{hex8_text}
use Rattle.image_map.specs.declared.region.RegionId.{RegionId}
use Rattle.image_map.specs.declared.region.RegionId.TheVariants.{Global, Frame, OldFrame, Heap, OldHeap}

-- a region's word, and, behind a byte that parts them, the address of its procedure or its key
abbrev pub region_text : ℕ → RegionId → List ℕ
region_text between Global = codes "global"
region_text between (Frame procedure) = codes "frame" ++ (between ∷ hex8_text procedure)
region_text between (OldFrame procedure) = codes "oldframe" ++ (between ∷ hex8_text procedure)
region_text between (Heap key) = codes "heap" ++ (between ∷ hex8_text key)
region_text between (OldHeap key) = codes "oldheap" ++ (between ∷ hex8_text key)
