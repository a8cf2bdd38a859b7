-- Symbols that have been found, where a later one of a name that stands at the same place is left out. The project's own.
use Rattle.std.specs.Prelude.{ℕ, ◌≡◌, Bool, true, false, is_some, List, ◌++◌, length, slice_index_or}
use Rattle.image_map.specs.Names.{Symbol, value_of, HaveSameValues}
use Rattle.image_map.specs.Texts.{text_at}

-- each place that has been seen has a text that is the name of one of the symbols
pub record IsFound (buffer : List ℕ) (seen : List Bool) (symbols : List Symbol) : Type 0 where
  pub all : length seen ≡ length buffer
  pub each : (p : ℕ) → slice_index_or seen p false ≡ true → is_some (value_of symbols (text_at buffer p)) ≡ true

-- the values are those of the old symbols, then those that were added, whatever symbols follow
abbrev pub Adds : List Symbol → List Symbol → List Symbol → Type 0
Adds old new added = (rest : List Symbol) → HaveSameValues (new ++ rest) (old ++ (added ++ rest))
