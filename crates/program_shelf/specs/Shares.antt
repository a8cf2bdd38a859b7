-- How many refiners each program has: they are shared out in turn, and the first goes to the first program. The project's own.
use Rattle.std.specs.Prelude.{ℕ, ◌%◌, ◌==◌, List, [], ◌∷◌, length, filter, map}
use Rattle.std.specs.List.{range_with_len}

-- how many of so many refiners go to a program, all counted from 0
abbrev pub share : ℕ → ℕ → ℕ → ℕ
share refiners programs program = length (filter (λ refiner. refiner % programs == program) (range_with_len 0 refiners))

-- the shares of four programs
abbrev pub shares : ℕ → ℕ → List ℕ
shares refiners programs = map (share refiners programs) (0 ∷ 1 ∷ 2 ∷ 3 ∷ [])
