-- Rounds in which nothing is warned of, and what depends on what in a run. The project's own.
use Rattle.std.specs.Prelude.{◌≡◌, ◌⊎◌, ℕ, Bool, List, [], length, slice_get, Some, Contains}
use Rattle.image_map.specs.declared.image.Image.{Image}
use Rattle.image_map.specs.declared.region.Settings.{Settings}
use Rattle.image_map.specs.CallModel.{AreSettings}
use Rattle.image_map.specs.Whole.{IsImage}
use Rattle.flow_graph.specs.declared.graph.FlowNode.{FlowNode}
use Rattle.ia32_semantics.specs.Dependence.{Depends}
use Rattle.ia32_semantics.specs.Machine.{Machine}
use Rattle.ia32_semantics.specs.Runs.{OccurrenceOf, stands_at}
use Rattle.slicer.specs.Slicer.{ListedEdge}
use Rattle.chops.specs.declared.hops.Hop.{Hop}
use Rattle.chops.specs.Chops.{IsForwardSlice, IsChop}
use Rattle.chops.specs.Hops.{IsWhy}
use Rattle.slice_soundness.specs.Maps.{Map}
use Rattle.vsa.specs.Views.{told}
use Rattle.graph_soundness.specs.Drawn.{map_drawn}
use Rattle.rounds.specs.declared.round.Round.{Round}
use Rattle.rounds.specs.Rounds.{IsRound}

-- A round of an image and settings for it, without warnings.
pub record IsQuietRound (image : Image) (settings : Settings) (r : Round) : Type 0 where
  pub image_is : IsImage image
  pub settings_are : AreSettings (length image.externs) settings
  pub round_is : IsRound image settings r
  pub none : r.warnings.items ≡ []

-- its map, with the graph of the map's own accesses
abbrev pub map_in : Image → Settings → Round → Map
map_in image settings r = map_drawn image settings (told r.states)

abbrev pub nodes_in : Round → List FlowNode
nodes_in r = r.graph.flow.nodes

-- an edge that the round lists goes from m to n; with skip_sp those by ESP are left out
abbrev pub EdgeIn : Round → Bool → ℕ → ℕ → Type 0
EdgeIn r skip_sp m n = ListedEdge r.graph.edges.ordinary r.graph.edges.sp skip_sp m n

-- -- Dependences from one address to another

-- in a run occurrence j, at one address, depends on occurrence i at another
pub record DependsOn (m : Machine) (skip_sp : Bool) (run : List (OccurrenceOf m)) (from to j i : ℕ) : Type 0 where
  pub later : OccurrenceOf m
  pub earlier : OccurrenceOf m
  pub later_is : slice_get run j ≡ Some later
  pub earlier_is : slice_get run i ≡ Some earlier
  pub ends : stands_at later ≡ to
  pub begins : stands_at earlier ≡ from
  pub depends : Depends m skip_sp run j i

-- occurrence k is one of them, or j depends on i through it
pub record LiesOnWay (m : Machine) (skip_sp : Bool) (run : List (OccurrenceOf m)) (j i k : ℕ) : Type 0 where
  pub occurrence : OccurrenceOf m
  pub is_there : slice_get run k ≡ Some occurrence
  pub above : (j ≡ k) ⊎ Depends m skip_sp run j k
  pub below : (k ≡ i) ⊎ Depends m skip_sp run k i

-- The forward slice of the one address has the other, there is a shortest path, and the chop has the address of whatever lies on the way.
pub record TellsWay (m : Machine) (r : Round) (skip_sp : Bool) (run : List (OccurrenceOf m)) (from to j i : ℕ) : Type 0 where
  pub forward : (addresses : List ℕ) → IsForwardSlice (EdgeIn r skip_sp) (nodes_in r) from addresses → Contains addresses to
  pub why : (hops : List Hop) → IsWhy (EdgeIn r skip_sp) (nodes_in r) from to hops → ¬ (hops ≡ [])
  pub chop : (addresses : List ℕ) → IsChop (EdgeIn r skip_sp) (nodes_in r) from to addresses → (k : ℕ) → (way : LiesOnWay m skip_sp run j i k) → Contains addresses (stands_at way.occurrence)
