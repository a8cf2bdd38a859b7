-- The replies to questions about a round. The project's own.
use Rattle.std.specs.Prelude.{◌≡◌, ℕ, Bool, true, false, List, [], ◌∷◌, ◌++◌, map, codes, Contains, Option, Some, None}
use Rattle.image_map.specs.declared.image.Image.{Image}
use Rattle.image_map.specs.declared.region.Settings.{Settings}
use Rattle.slicer.specs.Slicer.{IsSlice, ListedEdge}
use Rattle.chops.specs.declared.hops.Hop.{Hop}
use Rattle.chops.specs.declared.hops.HopKind.{HopKind}
use Rattle.chops.specs.declared.hops.HopKind.TheVariants.{ByPlace}
use Rattle.chops.specs.Chops.{AreAddresses, IsChop, IsForwardSlice}
use Rattle.chops.specs.Hops.{IsWhy}
use Rattle.matched_calls.specs.declared.kinds.StepKinds.{StepKinds}
use Rattle.matched_calls.specs.Slices.{HasMatches, InSliceOver}
use Rattle.access_facts.specs.Kinds.{step_kinds}
use Rattle.vsa.specs.declared.warning.Warning.{Warning}
use Rattle.vsa.specs.Views.{told}
use Rattle.requests.specs.Texts.{listed, why_text}
use Rattle.rounds.specs.declared.round.Round.{Round}
use Rattle.round_texts.specs.Graph.{IsGraphReply}
use Rattle.round_texts.specs.Locations.{locations_reply}
use Rattle.round_texts.specs.Values.{values_reply}
use Rattle.round_texts.specs.Warnings.{warning_count, warnings_reply}
use Rattle.round_answers.specs.declared.question.Question.{Question}
use Rattle.round_answers.specs.declared.question.Question.TheVariants as asks
use Rattle.round_answers.specs.Questions.{HasAll}

-- -- Lists of addresses

-- an edge of the round goes from m to n; with skip_sp those by ESP are left out
abbrev pub EdgeOf : Round → Bool → ℕ → ℕ → Type 0
EdgeOf r skip_sp m n = ListedEdge r.graph.edges.ordinary r.graph.edges.sp skip_sp m n

-- the slice over those edges and that control of the round that come by matched walks, where steps are of these kinds
pub record IsMatchedSlice (kinds : StepKinds) (r : Round) (at : ℕ) (skip_sp : Bool) (addresses : List ℕ) : Type 0 where
  pub ordinary : List (ℕ × ℕ)
  pub sp : List (ℕ × ℕ)
  pub control : List (ℕ × ℕ)
  pub matches : HasMatches r.graph.flow.nodes kinds ordinary sp control
  pub are : AreAddresses r.graph.flow.nodes (InSliceOver (ListedEdge ordinary sp skip_sp) (λ b n. Contains control (b, n)) r.graph.flow.nodes at) addresses

-- the reply lists addresses of which this holds
pub record Lists (r : Round) (word asked : List ℕ) (Are : List ℕ → Type 0) (text : List ℕ) : Type 0 where
  pub addresses : List ℕ
  pub are : Are addresses
  pub text_is : text ≡ listed word asked r.number r.lane addresses (warning_count r)

-- -- Paths

abbrev pub is_by_place : HopKind → Bool
is_by_place ByPlace = true
is_by_place other = false

-- an arrow leads to each hop but the first
abbrev pub arrow_to : Hop → Bool × ℕ
arrow_to hop = (is_by_place hop.kind, hop.at)

-- the arrows of a path that has some node
abbrev pub arrows_of : List Hop → Option (List (Bool × ℕ))
arrows_of [] = None
arrows_of (first ∷ hops) = Some (map arrow_to hops)

-- the reply tells the shortest path from one address to another, or that there is none
pub record TellsPath (r : Round) (from to : ℕ) (skip_sp : Bool) (text : List ℕ) : Type 0 where
  pub hops : List Hop
  pub are : IsWhy (EdgeOf r skip_sp) r.graph.flow.nodes from to hops
  pub text_is : text ≡ why_text from to r.number r.lane (arrows_of hops) (warning_count r)

-- -- Replies

-- the reply itself
abbrev pub IsOwnReply : Image → Settings → Round → Question → List ℕ → Type 0
IsOwnReply image settings r (asks.Slice at skip_sp) text = Lists r (codes "slice") (at ∷ []) (IsSlice (EdgeOf r skip_sp) r.graph.flow.nodes at) text
IsOwnReply image settings r (asks.Values at) text = values_reply r at ≡ Some text
IsOwnReply image settings r asks.Locations text = text ≡ locations_reply r
IsOwnReply image settings r asks.Graph text = IsGraphReply r text
IsOwnReply image settings r (asks.Forward at skip_sp) text = Lists r (codes "forward") (at ∷ []) (IsForwardSlice (EdgeOf r skip_sp) r.graph.flow.nodes at) text
IsOwnReply image settings r (asks.Chop from at skip_sp) text = Lists r (codes "chop") (from ∷ at ∷ []) (IsChop (EdgeOf r skip_sp) r.graph.flow.nodes from at) text
IsOwnReply image settings r (asks.Why from at skip_sp) text = TellsPath r from at skip_sp text
IsOwnReply image settings r (asks.Matched at skip_sp) text = Lists r (codes "matched") (at ∷ []) (IsMatchedSlice (step_kinds image settings (told r.states)) r at skip_sp) text

-- the round has warnings
abbrev pub has_some : List Warning → Bool
has_some [] = false
has_some (w ∷ ws) = true

abbrev pub is_warned : Round → Bool
is_warned r = has_some r.warnings.items

-- what stands behind the reply itself: the warnings, where there are any
abbrev pub unless_none : Bool → List ℕ → List ℕ
unless_none true text = text
unless_none false text = []

abbrev pub warnings_behind : Round → List ℕ
warnings_behind r = unless_none (is_warned r) (warnings_reply r)

-- the reply to a question about a round, and the warnings of the round behind it
pub record IsReply (image : Image) (settings : Settings) (r : Round) (question : Question) (text : List ℕ) : Type 0 where
  pub present : HasAll r question
  pub own : List ℕ
  pub is_own : IsOwnReply image settings r question own
  pub text_is : text ≡ own ++ warnings_behind r
