-- The cells and the graph that access facts give of a map, as the argument on slices asks for them. The project's own.
use Rattle.std.specs.Prelude.{◌≡◌, ℕ, suc, ◌+◌, ℤ, pos, ◌-ℤ◌, ◌&&◌, if◌then◌else◌, List, [], ◌∷◌, Option, Some, None}
use Rattle.image_map.specs.declared.image.Image.{Image}
use Rattle.image_map.specs.declared.region.Cell.{Cell}
use Rattle.image_map.specs.declared.region.RegionId.{RegionId}
use Rattle.image_map.specs.declared.region.Settings.{Settings}
use Rattle.image_map.specs.Regions.{same_region}
use Rattle.alocs.specs.Cells.{holds}
use Rattle.vset.specs.World.{key_of}
use Rattle.call_strings.specs.declared.context.Node.{Node}
use Rattle.call_strings.specs.Nodes.{same_node}
use Rattle.abs_steps.specs.Successors.{Placed, States}
use Rattle.slice_soundness.specs.Located.{Spot, spot_of, Division}
use Rattle.slice_soundness.specs.Maps.{Map}
use Rattle.call_soundness.specs.Maps.{Drawn, map_of}
use Rattle.access_facts.specs.Flow.{flow}
use Rattle.access_facts.specs.Places.{graph_cells}

-- the place of the cell that has an offset of a region, where the first cell has this place
unfoldable pub place_in : ℕ → List Cell → RegionId → ℤ → Option ℕ
place_in first [] region offset = None
place_in first (c ∷ cs) region offset = if same_region c.region region && holds offset c then Some first else place_in (first + 1) cs region offset

abbrev pub place_at : List Cell → Option Spot → ℕ → Option ℕ
place_at cs None byte = None
place_at cs (Some spot) byte = place_in 14 cs spot.region (pos byte -ℤ pos spot.base)

-- the index of a node in the map
unfoldable pub number_in : List Placed → Node → ℕ
number_in [] n = 0
number_in (x ∷ xs) n = if same_node x.node n then 0 else suc (number_in xs n)

abbrev pub drawn_of : Image → Settings → States → Drawn
drawn_of image settings states =
    record {
      place_of = λ s byte. place_at (graph_cells states) (spot_of (key_of states.lane) s byte) byte;
      graph = flow image settings states;
      number = number_in states.placed;
    }

-- the map with the graph of its own accesses
abbrev pub map_drawn : Image → Settings → States → Map
map_drawn image settings states = map_of image settings states (drawn_of image settings states)

-- how its cells divide the regions
abbrev pub division_of : States → Division
division_of states =
    record {
      key = key_of states.lane;
      IsDivided = λ region offset. (place : ℕ) × (place_in 14 (graph_cells states) region offset ≡ Some place);
      IsInCell = λ region offset place. place_in 14 (graph_cells states) region offset ≡ Some place;
    }
