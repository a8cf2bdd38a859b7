-- The instructions of an image one after another, and their text. The project's own.
use Rattle.std.specs.Prelude.{◌≡◌, ℕ, zero, suc, ◌+◌, ◌<◌, ◌^◌, List, [], ◌∷◌, ◌++◌, length, codes}
use Rattle.std.specs.List.{flat_map}
use Rattle.std.specs.Fmt.{decimal}
use Rattle.image_map.specs.declared.image.Image.{Image}
use Rattle.ia32_types.specs.declared.Instr.{Instr}
use Rattle.ia32_print.specs.Text.{instr_text}
use Rattle.surf_base.specs.Hex.{hex8_text}
use Rattle.ia32_semantics.specs.Fetch.{IsFetched}

-- this instruction stands at an address of 32 bits
abbrev pub StandsAt : Image → ℕ → Instr → Type 0
StandsAt image at i = (at < 2 ^ 32) × IsFetched image at i

-- These instructions stand one after the other from an address on. They are n at most, and fewer only where none follows.
unfoldable pub Follow : Image → ℕ → ℕ → List Instr → Type 0
Follow image zero at is = is ≡ []
Follow image (suc n) at [] = (i : Instr) → ¬ StandsAt image at i
Follow image (suc n) at (i ∷ is) = StandsAt image at i × Follow image n (at + i.len) is

-- its address and its text
abbrev pub instr_line : Instr → List ℕ
instr_line i = hex8_text i.at ++ (32 ∷ (instr_text i ++ 10 ∷ []))

-- a line for each, and how many there are
abbrev pub listing_text : List Instr → List ℕ
listing_text is = flat_map instr_line is ++ (codes "end " ++ (decimal (length is) ++ 10 ∷ []))

-- the text lists what stands from an address on, at most so many instructions
pub record IsListing (image : Image) (at steps : ℕ) (text : List ℕ) : Type 0 where
  pub instrs : List Instr
  pub follow : Follow image steps at instrs
  pub text_is : text ≡ listing_text instrs

-- the text lists them, and no other does
abbrev pub IsTheListing : Image → ℕ → ℕ → List ℕ → Type 0
IsTheListing image at steps text = IsListing image at steps text × ((other : List ℕ) → IsListing image at steps other → other ≡ text)
