-- One flag a seat, read as the set of the seats whose flag is up.
use Rattle.std.specs.Prelude.{ℕ, ◌+◌, Bool, List, [], ◌∷◌, if◌then◌else◌}
use Rattle.std.specs.Ordering.{nat_cmp}
use Rattle.std.specs.FinSet as set

-- the flags stand for the seats from `first` on
abbrev pub flagged : ℕ → List Bool → set.FinSet nat_cmp
flagged first [] = set.empty
flagged first (reads ∷ flags) = if reads then set.insert (flagged (first + 1) flags) first else flagged (first + 1) flags
