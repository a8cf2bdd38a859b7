-- Where an image is entered. The project's own.
use Rattle.std.specs.Prelude.{◌≡◌, ℕ, true, false, Option, Some, None, MatchOption}
use Rattle.image_map.specs.declared.image.Image.{Image}
use Rattle.image_map.specs.Names.{value_of}
use Rattle.image_map.specs.Queries.{is_code}
use Rattle.command_words.specs.declared.line.Entry.{Entry}
use Rattle.command_words.specs.declared.line.Entry.TheVariants as entries

-- the place that is named, or that of the file: none where no symbol has the name
abbrev pub entry_place : Image → Option Entry → Option ℕ
entry_place image None = Some image.entry
entry_place image (Some (entries.Address at)) = Some at
entry_place image (Some (entries.Symbol name)) = value_of image.symbols name

-- the image is entered in code, at this place
pub record Enters (image : Image) (entry : Option Entry) (place : ℕ) : Type 0 where
  pub finds : entry_place image entry ≡ Some place
  pub enters : is_code image place ≡ true

-- no symbol has the name, or the place isn't code
abbrev pub IsNoEntry : Image → Option Entry → Type 0
IsNoEntry image entry = MatchOption (entry_place image entry) (Unit {0}) (λ place. is_code image place ≡ false)
