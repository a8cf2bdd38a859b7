-- Which offsets of regions the accesses of a node may concern. The project's own.
use Rattle.std.specs.Prelude.{◌≡◌, ◌⊎◌, ℕ, not, Bool, true, ℤ, pos, ◌+ℤ◌, ◌<ℤ◌, ◌≤ℤ◌, List, [], ◌∷◌, Option, Some, None, Contains}
use Rattle.image_map.specs.declared.image.Image.{Image}
use Rattle.image_map.specs.declared.region.RegionId.{RegionId}
use Rattle.image_map.specs.declared.region.Settings.{Settings}
use Rattle.strided.specs.Interval.{IsMember}
use Rattle.alocs.specs.Extents.{home}
use Rattle.vset.specs.declared.part.Part as vset_part
use Rattle.call_strings.specs.declared.context.Node.{Node}
use Rattle.abs_semantics.specs.States.{AbsState}
use Rattle.abs_semantics.specs.Touching.{sure_place}
use Rattle.abs_steps.specs.Places.{Content, content_at}
use Rattle.abs_steps.specs.Rows.{view_of}
use Rattle.abs_steps.specs.Successors.{States}
use Rattle.abs_steps.specs.Views.{View}
use Rattle.slice_soundness.specs.Located.{Part, OfCore, OfRegion, Accesses}
use Rattle.call_soundness.specs.Maps.{state_in}
use Rattle.access_facts.specs.declared.reach.Reach.{Reach}
use Rattle.access_facts.specs.declared.reach.Reach.TheVariants.{Anywhere, Within}
use Rattle.access_facts.specs.CellSets.{is_sure}
use Rattle.access_facts.specs.Flow.{next_of, is_empty}
use Rattle.access_facts.specs.Sets.{read_reaches, write_reaches, sure_reaches, older_behind}
use Rattle.graph_soundness.specs.Cores.{core_used, core_defined, core_always}

-- -- Ranges of so many bytes from the offsets of a part on

-- an offset of a region lies in such a range; older activations and blocks have the offsets of the newest
pub record IsInRange (len : ℕ) (x : vset_part.Part) (region : RegionId) (offset : ℤ) : Type 0 where
  pub region_is : home x.region ≡ region
  pub from : ℤ
  pub member : IsMember from x.si
  pub low : from ≤ℤ offset
  pub high : offset <ℤ (from +ℤ pos len)

abbrev pub IsInSome : ℕ → List vset_part.Part → RegionId → ℤ → Type 0
IsInSome len [] region offset = ⊥
IsInSome len (x ∷ xs) region offset = IsInRange len x region offset ⊎ IsInSome len xs region offset

-- -- Reads: from anywhere every offset may be read

abbrev pub IsRead : Reach → RegionId → ℤ → Type 0
IsRead Anywhere region offset = Unit {0}
IsRead (Within len xs) region offset = IsInSome len xs region offset

abbrev pub IsReadBy : List Reach → RegionId → ℤ → Type 0
IsReadBy [] region offset = ⊥
IsReadBy (r ∷ rs) region offset = IsRead r region offset ⊎ IsReadBy rs region offset

-- -- Writes: where no warning stands none goes anywhere

abbrev pub IsWritten : Reach → RegionId → ℤ → Type 0
IsWritten Anywhere region offset = ⊥
IsWritten (Within len xs) region offset = IsInSome len xs region offset

abbrev pub IsWrittenBy : List Reach → RegionId → ℤ → Type 0
IsWrittenBy [] region offset = ⊥
IsWrittenBy (r ∷ rs) region offset = IsWritten r region offset ⊎ IsWrittenBy rs region offset

-- -- What is written in any case

-- an offset of the one place of a write
pub record IsSureAt (older : List ℕ) (len : ℕ) (x : vset_part.Part) (region : RegionId) (offset : ℤ) : Type 0 where
  pub sure : is_sure older x.region ≡ true
  pub region_is : x.region ≡ region
  pub low : x.si.lo ≤ℤ offset
  pub high : offset <ℤ (x.si.lo +ℤ pos len)

abbrev pub IsSureIn : List ℕ → ℕ → Option vset_part.Part → RegionId → ℤ → Type 0
IsSureIn older len None region offset = ⊥
IsSureIn older len (Some x) region offset = IsSureAt older len x region offset

abbrev pub IsFilled : List ℕ → Reach → RegionId → ℤ → Type 0
IsFilled older Anywhere region offset = ⊥
IsFilled older (Within len xs) region offset = IsSureIn older len (sure_place xs) region offset

abbrev pub IsFilledBy : List ℕ → List Reach → RegionId → ℤ → Type 0
IsFilledBy older [] region offset = ⊥
IsFilledBy older (r ∷ rs) region offset = IsFilled older r region offset ⊎ IsFilledBy older rs region offset

-- -- Of a node

abbrev pub MayRead : View → Content → Part → Type 0
MayRead v content (OfCore place) = Contains (core_used content) place
MayRead v content (OfRegion region offset) = IsReadBy (read_reaches v content) region offset

abbrev pub MayWrite : Image → View → Content → Bool → Part → Type 0
MayWrite image v content goes_on (OfCore place) = Contains (core_defined content) place
MayWrite image v content goes_on (OfRegion region offset) = IsWrittenBy (write_reaches image v content goes_on) region offset

abbrev pub MustWrite : Image → View → Content → Bool → Part → Type 0
MustWrite image v content goes_on (OfCore place) = Contains (core_always v.state content) place
MustWrite image v content goes_on (OfRegion region offset) = IsFilledBy (older_behind v content goes_on) (sure_reaches image v content goes_on) region offset

-- control may go on from a node to another of the map
abbrev pub goes_on_from : Image → Settings → States → Node → AbsState → Bool
goes_on_from image settings states n a = not (is_empty (next_of image settings states (record { node = n; state = a })))

-- at a node of the map, in its abstract state
pub record IsAtNode (states : States) (P : View → Type 0) (n : Node) : Type 0 where
  pub state : AbsState
  pub has_state : state_in n states.placed ≡ Some state
  pub does : P (view_of state states.cells n.context.proc)

abbrev pub accesses_of : Image → Settings → States → Accesses
accesses_of image settings states =
    record {
      Reads = λ n part. IsAtNode states (λ v. MayRead v (content_at image settings n.at) part) n;
      Writes = λ n part. IsAtNode states (λ v. MayWrite image v (content_at image settings n.at) (goes_on_from image settings states n v.state) part) n;
      Always = λ n part. IsAtNode states (λ v. MustWrite image v (content_at image settings n.at) (goes_on_from image settings states n v.state) part) n;
    }
