-- The lists of cuts that the round after a map keeps. The project's own.
use Rattle.std.specs.Prelude.{ℕ, ◌==◌, pos, negsuc, if◌then◌else◌, List, [], ◌∷◌, ◌++◌, map}
use Rattle.image_map.specs.declared.image.Image.{Image}
use Rattle.image_map.specs.declared.region.RegionId.TheVariants.{Global, Frame, Heap}
use Rattle.alocs.specs.declared.cells.CutList.{CutList}
use Rattle.alocs.specs.Cells.{Division}
use Rattle.abs_steps.specs.Successors.{States}
use Rattle.first_cuts.specs.FirstCuts.{file_cuts}
use Rattle.access_facts.specs.Places.{procedures, keys, nodes_of, states_of}

-- segments and relocated words
abbrev pub global_list : Image → CutList
global_list image = record { region = Global; cuts = file_cuts image }

-- the ends of a Frame, and those of its return slot
abbrev pub frame_list : ℕ → CutList
frame_list p = record { region = Frame p; cuts = negsuc 1048575 ∷ pos 0 ∷ pos 4 ∷ pos 65536 ∷ [] }

-- the ends of a block
abbrev pub heap_list : ℕ → CutList
heap_list key = record { region = Heap key; cuts = pos 0 ∷ pos 536870912 ∷ [] }

-- the lists of a round are kept but for those of the first one, 0
abbrev pub round_lists : ℕ → Division → List CutList
round_lists n d = if n == 0 then [] else d.lists

abbrev pub lists_of : Image → List ℕ → List ℕ → List CutList → List CutList
lists_of image ps ks more = global_list image ∷ map frame_list ps ++ map heap_list ks ++ more

-- after the map of round n
unfoldable pub kept_lists : Image → ℕ → States → List CutList
kept_lists image n s = lists_of image (procedures (nodes_of s)) (keys (states_of s)) (round_lists n s.cells)
