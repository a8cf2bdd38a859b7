-- Small rounds, computed.
use Rattle.std.proofs.Common.{◌≡◌, inl, [], ◌∷◌, refl}
use Rattle.image_map.specs.declared.image.Image.{Image}
use Rattle.image_map.specs.declared.region.Settings.{Settings}
use Rattle.image_map.specs.declared.region.RegionId.TheVariants.{Global}
use Rattle.alocs.specs.Cells.{Division}
use Rattle.alocs.proofs.MemberLaws.{contains-none}
use Rattle.abs_steps.specs.Successors.{States}
use Rattle.access_facts.specs.Kept.{kept_lists}
use Rattle.access_facts.specs.Places.{procedures, keys}
use Rattle.abs_semantics.specs.Joins.{numbers_of}
use Rattle.first_cuts.specs.Constants.{constants}
use Rattle.first_cuts.specs.FirstCuts.{first_cuts, taken_onto, file_cuts}
use Rattle.rounds.specs.Next.{IsLast}
use Rattle.rounds.specs.Rounds.{HasCells}

-- an image without a segment, and settings that allow one round
abbrev nothing : Image
nothing = record { segments = []; entry = 4096; symbols = []; externs = []; any_bytes = []; words = []; bias = 0 }

abbrev once : Settings
once = record { entry = 4096; rounds = 1; kinds = [] }

-- its round 0 has one list, of Global, without a cut
abbrev no_cells : Division
no_cells = record { lists = record { region = Global; cuts = [] } ∷ []; image = [] }

round_0 : HasCells nothing once 2 0 no_cells
unfolding first_cuts taken_onto file_cuts constants
round_0 = (record { rise = tt; each = λ x. (λ k. absurd (contains-none x k), λ h. absurd (contains-none h.0 h.1)) }, refl)

-- whatever its map, it is the last
is_last : (s : States) → IsLast nothing once 0 s
is_last s = inl refl

-- the round behind a map without nodes would keep the list of Global alone
abbrev no_map : States
no_map = record { lane = 2; cells = no_cells; placed = [] }

kept : kept_lists nothing 0 no_map ≡ record { region = Global; cuts = [] } ∷ []
unfolding kept_lists file_cuts procedures keys numbers_of
kept = refl
