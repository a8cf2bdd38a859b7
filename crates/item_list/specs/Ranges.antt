-- Ranges of addresses. The project's own.
use Rattle.std.specs.Prelude.{ℕ, Bool, ◌&&◌, nat_le, nat_lt}

-- an address from start up to, and without, end
abbrev pub within : ℕ → ℕ → ℕ → Bool
within start end a = nat_le start a && nat_lt a end
