-- The texts of replies that need no abstract state: lines of ASCII, each ended by LF (10). The project's own.
use Rattle.std.specs.Prelude.{ℕ, List, [], ◌∷◌, ◌++◌, length, codes, Bool, if◌then◌else◌, Option, Some, None}
use Rattle.std.specs.List.{flat_map}
use Rattle.std.specs.Fmt.{decimal}
use Rattle.surf_base.specs.Hex.{hex8_text}

-- the line of an address
abbrev pub address_line : ℕ → List ℕ
address_line address = hex8_text address ++ 10 ∷ []

-- how the first line of a reply from a round ends
abbrev pub round_and_lane : ℕ → ℕ → List ℕ
round_and_lane round lane = codes " round " ++ (decimal round ++ (codes " lane " ++ (decimal lane ++ 10 ∷ [])))

-- the first line: a word, the addresses that were asked about, and of which round the reply is
abbrev pub first_line : List ℕ → List ℕ → ℕ → ℕ → List ℕ
first_line word asked round lane = word ++ (flat_map (λ at. 32 ∷ hex8_text at) asked ++ round_and_lane round lane)

-- the last line: how many things were listed, what they are, and how many warnings the round has
abbrev pub last_line : List ℕ → List ℕ → ℕ → List ℕ
last_line count things warnings = codes "end " ++ (count ++ (things ++ (decimal warnings ++ (codes " warnings" ++ 10 ∷ []))))

-- a list of addresses
abbrev pub listed : List ℕ → List ℕ → ℕ → ℕ → List ℕ → ℕ → List ℕ
listed word asked round lane addresses warnings =
    first_line word asked round lane
    ++ (flat_map address_line addresses ++ last_line (decimal (length addresses)) (codes " addresses ") warnings)

-- the replies that list addresses
abbrev pub slice_text : ℕ → ℕ → ℕ → List ℕ → ℕ → List ℕ
slice_text at round lane addresses warnings = listed (codes "slice") (at ∷ []) round lane addresses warnings

abbrev pub forward_text : ℕ → ℕ → ℕ → List ℕ → ℕ → List ℕ
forward_text at round lane addresses warnings = listed (codes "forward") (at ∷ []) round lane addresses warnings

abbrev pub matched_text : ℕ → ℕ → ℕ → List ℕ → ℕ → List ℕ
matched_text at round lane addresses warnings = listed (codes "matched") (at ∷ []) round lane addresses warnings

abbrev pub chop_text : ℕ → ℕ → ℕ → ℕ → List ℕ → ℕ → List ℕ
chop_text from to round lane addresses warnings = listed (codes "chop") (from ∷ to ∷ []) round lane addresses warnings

-- an arrow of a path: whether it is one of data, and the address that it leads to
abbrev pub arrow_line : Bool × ℕ → List ℕ
arrow_line arrow = (if arrow.0 then codes "data " else codes "control ") ++ address_line arrow.1

-- a path from an address, or none
abbrev pub why_text : ℕ → ℕ → ℕ → ℕ → Option (List (Bool × ℕ)) → ℕ → List ℕ
why_text from to round lane None warnings =
    first_line (codes "why") (from ∷ to ∷ []) round lane ++ last_line (codes "none") (codes " ") warnings
why_text from to round lane (Some arrows) warnings =
    first_line (codes "why") (from ∷ to ∷ []) round lane
    ++ (address_line from ++ (flat_map arrow_line arrows ++ last_line (decimal (length arrows)) (codes " steps ") warnings))

-- a warning: its name and its address
abbrev pub warning_line : List ℕ × ℕ → List ℕ
warning_line warning = codes "warning " ++ (warning.0 ++ (32 ∷ address_line warning.1))

-- the warnings of a round
abbrev pub warnings_text : ℕ → ℕ → List (List ℕ × ℕ) → List ℕ
warnings_text round lane warnings =
    first_line (codes "warnings") [] round lane
    ++ (flat_map warning_line warnings ++ (codes "end " ++ (decimal (length warnings) ++ (codes " warnings" ++ 10 ∷ []))))

-- the next round was published with this number, or the round is the last one
abbrev pub stepped_text : ℕ → ℕ → List ℕ
stepped_text round lane = codes "stepped " ++ (decimal round ++ (codes " lane " ++ (decimal lane ++ 10 ∷ [])))

abbrev pub settled_text : ℕ → ℕ → List ℕ
settled_text round lane = codes "settled " ++ (decimal round ++ (codes " lane " ++ (decimal lane ++ 10 ∷ [])))

-- no node of the round stands at the address
abbrev pub absent_text : ℕ → ℕ → ℕ → List ℕ
absent_text at round lane = first_line (codes "absent") (at ∷ []) round lane

-- another lane, and another program
abbrev pub lane_text : ℕ → List ℕ
lane_text lane = codes "lane " ++ (decimal lane ++ 10 ∷ [])

abbrev pub program_text : ℕ → List ℕ
program_text program = codes "program " ++ (decimal program ++ 10 ∷ [])
