-- The text that a page shows. The project's own.
use Rattle.std.specs.Prelude.{ℕ, ◌≤◌, List, take}
use Rattle.service.specs.declared.page.Shown.{Shown}
use Rattle.service.specs.declared.page.Shown.TheVariants.{Slice, Short, Whole}

-- a slice stands in the first of these bytes
abbrev pub shown_text : List ℕ → Shown → List ℕ
shown_text bytes (Slice len) = take len bytes
shown_text bytes (Short line) = line.items
shown_text bytes (Whole text) = text.items

-- a slice has at most so many bytes as there is room for
abbrev pub IsWithin : Shown → Type 0
IsWithin (Slice len) = len ≤ 40960
IsWithin other = Unit {0}
