-- What it means that an address lies where an abstract state tells. The project's own.
use Rattle.std.specs.Prelude.{◌≡◌, ℕ, ◌+◌, ◌<◌, ◌≤◌, ◌^◌, ◌⊎◌, true, ℤ, pos, ◌+ℤ◌, List, [], ◌∷◌, is_some}
use Rattle.image_map.specs.declared.image.Image.{Image}
use Rattle.image_map.specs.declared.region.Activation.{Activation}
use Rattle.image_map.specs.Whole.{IsImage}
use Rattle.ia32_semantics.specs.CallModel.{IsWhole}
use Rattle.ia32_semantics.specs.State.{State}
use Rattle.strided.specs.Interval.{IsMember}
use Rattle.vset.specs.declared.part.Part.{Part}
use Rattle.vset.specs.Members.{HasValue}
use Rattle.vset.specs.Values.{Values}
use Rattle.vset.specs.World.{Thing, IsIn, base_of, region_of}
use Rattle.abs_semantics.specs.States.{AbsState}
use Rattle.abs_semantics.specs.StandsFor.{StandsFor, Owns, world_of}

-- A whole state in which procedure p runs, for which an abstract state stands.
pub record IsKnown (image : Image) (lane : ℕ) (a : AbsState) (p : ℕ) (s : State) : Type 0 where
  pub image_is : IsImage image
  pub whole : IsWhole image s
  pub stands : StandsFor lane a s
  pub newest : Activation
  pub others : List Activation
  pub activations : s.activations ≡ newest ∷ others
  pub runs : newest.callee ≡ p

-- So many bytes from an address on, each of them there: the first of a range of `len` bytes that an address means.
pub record IsRange (lane : ℕ) (s : State) (v : Values) (at count len : ℕ) : Type 0 where
  pub word : at < 2 ^ 32
  pub member : HasValue lane (world_of s) at v
  pub some : 1 ≤ count
  pub within : count ≤ len
  pub mapped : (k : ℕ) → k < count → is_some (s.memory (at + k)) ≡ true

-- They are the bytes of one thing, from one of the part's offsets on.
pub record IsOwnedAt (lane : ℕ) (s : State) (at count : ℕ) (x : Part) : Type 0 where
  pub thing : Thing
  pub is_in : IsIn (world_of s) thing
  pub region : region_of lane thing ≡ x.region
  pub offset : ℤ
  pub within : IsMember offset x.si
  pub reached : pos at ≡ pos (base_of thing) +ℤ offset
  pub owned : (k : ℕ) → k < count → Owns s thing (at + k)

-- they are those of one of the parts
abbrev pub IsOwnedAmong : ℕ → State → ℕ → ℕ → List Part → Type 0
IsOwnedAmong lane s at count [] = ⊥
IsOwnedAmong lane s at count (x ∷ xs) = IsOwnedAt lane s at count x ⊎ IsOwnedAmong lane s at count xs
