-- What is told of a run beside a slice. The project's own.
use Rattle.std.specs.Prelude.{ℕ, ◌+◌, ◌==◌, Bool, true, false, List, [], ◌∷◌, ◌++◌, codes, if◌then◌else◌}
use Rattle.std.specs.List.{flat_map, list_any}
use Rattle.std.specs.Fmt.{decimal}
use Rattle.surf_base.specs.Hex.{hex8_text}

-- the first line: the criterion, and of which round the slice is
abbrev pub header : ℕ → ℕ → ℕ → List ℕ
header at round lane = codes "replay " ++ (hex8_text at ++ (codes " round " ++ (decimal round ++ (codes " lane " ++ (decimal lane ++ 10 ∷ [])))))

-- a slice lists an address
abbrev pub lists : List ℕ → ℕ → Bool
lists slice address = list_any (λ a. a == address) slice

abbrev pub verdict : Bool → List ℕ
verdict true = codes " listed"
verdict false = codes " missing"

abbrev pub verdict_line : List ℕ → ℕ → List ℕ
verdict_line slice address = hex8_text address ++ (verdict (lists slice address) ++ 10 ∷ [])

-- how many of some addresses a slice doesn't list
abbrev pub is_missing : List ℕ → ℕ → ℕ
is_missing slice address = if lists slice address then 0 else 1

unfoldable pub missing : List ℕ → List ℕ → ℕ
missing slice [] = 0
missing slice (address ∷ addresses) = is_missing slice address + missing slice addresses

-- the last line: how many steps the run has, how many addresses are missing, and how many warnings the round has
abbrev pub end_line : ℕ → ℕ → ℕ → List ℕ
end_line steps gone warnings = codes "end " ++ (decimal steps ++ (codes " steps " ++ (decimal gone ++ (codes " missing " ++ (decimal warnings ++ (codes " warnings" ++ 10 ∷ []))))))

-- the addresses of a dynamic slice, each with whether a slice lists it
abbrev pub replay_text : ℕ → ℕ → ℕ → List ℕ → List ℕ → ℕ → ℕ → List ℕ
replay_text at round lane addresses slice steps warnings =
    header at round lane ++ (flat_map (verdict_line slice) addresses ++ end_line steps (missing slice addresses) warnings)
