-- Externs and symbols. Where externs stand is the project's own.
use Rattle.std.specs.Prelude.{ℕ, ◌≡◌, ◌+◌, ◌*◌, ◌-◌, ◌/◌, ◌%◌, nat_lt, ◌==◌, if◌then◌else◌, Option, Some, None, List, find, map}
use Rattle.std.specs.Option.{option_map}
use Rattle.std.specs.Str.{bytes_eq}
use Rattle.image_map.specs.declared.symbols.SymbolPlace.{SymbolPlace}
use Rattle.image_map.specs.Texts.{text_at}

-- where extern number i stands
abbrev pub extern_address : ℕ → ℕ
extern_address i = 0xF0000000 + 16 * i

-- of `count` externs, the number of the one that stands at an address
unfoldable pub extern_number : ℕ → ℕ → Option ℕ
extern_number count a =
    if nat_lt a 0xF0000000 then None else (if (a - 0xF0000000) % 16 == 0 then (if nat_lt ((a - 0xF0000000) / 16) count then Some ((a - 0xF0000000) / 16) else None) else None)

-- a name of the image and its value
pub record Symbol : Type 0 where
  pub name : List ℕ
  pub value : ℕ

-- the symbol whose name stands in a buffer
abbrev pub symbol_at : List ℕ → SymbolPlace → Symbol
symbol_at buffer place = record { name = text_at buffer place.start; value = place.value }

abbrev pub symbols_at : List ℕ → List SymbolPlace → List Symbol
symbols_at buffer places = map (symbol_at buffer) places

-- the value of the first symbol with a name
abbrev pub value_of : List Symbol → List ℕ → Option ℕ
value_of symbols name = option_map (λ s. s.value) (find (λ s. bytes_eq s.name name) symbols)

-- two lists have the same value for each name
abbrev pub HaveSameValues : List Symbol → List Symbol → Type 0
HaveSameValues xs ys = (n : List ℕ) → value_of xs n ≡ value_of ys n
