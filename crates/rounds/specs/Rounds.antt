-- The rounds of an analysis, by number. The project's own.
use Rattle.std.specs.Prelude.{ℕ, zero, suc, ◌≡◌, ◌↔◌, length, IsTrue}
use Rattle.image_map.specs.declared.image.Image.{Image}
use Rattle.image_map.specs.declared.region.Settings.{Settings}
use Rattle.alocs.specs.Cells.{Division}
use Rattle.alocs.specs.Extents.{AreOfImage}
use Rattle.dep_graph.specs.Edges.{HasEdges}
use Rattle.first_cuts.specs.FirstCuts.{first_lists}
use Rattle.abs_steps.specs.Successors.{States}
use Rattle.access_facts.specs.Flow.{flow}
use Rattle.vsa.specs.declared.states.States.{States as HeldStates}
use Rattle.vsa.specs.Analysis.{Analysis, analysis_of}
use Rattle.vsa.specs.Swept.{analysed, placed_in}
use Rattle.vsa.specs.Views.{told, NodesRise}
use Rattle.vsa.specs.Warned.{map_warnings}
use Rattle.rounds.specs.declared.round.Round.{Round}
use Rattle.rounds.specs.Next.{AreNext, IsLast}

-- the map that the sweeps give
abbrev pub map_of : Analysis → States
map_of x = record { lane = x.lane; cells = x.cells; placed = placed_in (analysed x) }

-- where a round has these cells
abbrev pub map_with : Image → Settings → ℕ → Division → States
map_with image settings lane d = map_of (analysis_of image settings d lane)

-- The lists of these cells are those behind round n, which isn't the last.
pub record AreBehind (image : Image) (settings : Settings) (lane n : ℕ) (IsOfRound : Division → Type 0) (d : Division) : Type 0 where
  -- the cells of round n
  pub before : Division
  pub is_of_round : IsOfRound before
  pub goes_on : ¬ IsLast image settings n (map_with image settings lane before)
  pub lists : AreNext image settings n (map_with image settings lane before) d.lists

-- The cells of the round of this number, where nodes keep so many call sites. Round 0 has the first lists of cuts. Behind the last round
-- there is none.
abbrev pub HasCells : Image → Settings → ℕ → ℕ → Division → Type 0
HasCells image settings lane zero d = AreOfImage image.segments d.image × (d.lists ≡ first_lists image)
HasCells image settings lane (suc n) d = AreOfImage image.segments d.image × AreBehind image settings lane n (HasCells image settings lane n) d

-- nodes rise, and each has a state
pub record HasForm (s : HeldStates) : Type 0 where
  pub rising : NodesRise s.nodes.items
  pub as_many : length s.nodes.items ≡ length s.values.items

-- The round of its number, of an image and settings: its cells, the map that the sweeps give with them, what can't be followed there, the
-- flow graph and the data edges of that map, and whether the round is the last.
pub record IsRound (image : Image) (settings : Settings) (r : Round) : Type 0 where
  pub cells : HasCells image settings r.lane r.number r.cells
  pub states : told r.states ≡ map_with image settings r.lane r.cells
  pub full : r.states.full ≡ (analysed (analysis_of image settings r.cells r.lane)).full
  pub form : HasForm r.states
  pub warnings : r.warnings.items ≡ map_warnings image settings (told r.states) r.states.full
  pub flow : r.graph.flow.nodes ≡ flow image settings (told r.states)
  pub edges : HasEdges r.graph.flow.nodes r.graph.edges.ordinary r.graph.edges.sp
  pub last : IsTrue r.last ↔ IsLast image settings r.number (told r.states)
