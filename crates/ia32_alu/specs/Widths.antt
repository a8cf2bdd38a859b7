-- The widths of operands in bits (SDM volume 1, 4.1).

use Rattle.std.specs.Prelude.{◌≡◌, ℕ, ◌⊎◌}

abbrev pub IsWidth : ℕ → Type 0
IsWidth w = (w ≡ 8) ⊎ ((w ≡ 16) ⊎ (w ≡ 32))
