-- What registers may hold at an address, by the states of a round. The project's own.
use Rattle.std.specs.Prelude.{ℕ, ℤ, ◌==◌, List, [], ◌∷◌, ◌++◌, length, map, reverse, codes, Option, Some, None}
use Rattle.std.specs.List.{filter, flat_map, join_with_byte}
use Rattle.std.specs.Fmt.{decimal, signed_decimal}
use Rattle.surf_base.specs.Hex.{hex8_text}
use Rattle.strided.specs.Interval.{Interval}
use Rattle.vset.specs.declared.part.Part.{Part}
use Rattle.vset.specs.Values.{Values, Top, Parts}
use Rattle.call_strings.specs.declared.context.Node.{Node}
use Rattle.abs_steps.specs.Successors.{Placed}
use Rattle.vsa.specs.Views.{told}
use Rattle.requests.specs.Texts.{address_line, first_line, last_line}
use Rattle.rounds.specs.declared.round.Round.{Round}
use Rattle.round_texts.specs.Regions.{region_text}
use Rattle.round_texts.specs.Warnings.{warning_count}

-- -- Values

-- the least number and the greatest in brackets (91 and 93), with a comma (44) between them
abbrev pub ends_text : ℤ → ℤ → List ℕ
ends_text lo hi = 91 ∷ (signed_decimal lo ++ (44 ∷ (signed_decimal hi ++ 93 ∷ [])))

-- how far neighbouring members are apart, and the ends
abbrev pub interval_text : Interval → List ℕ
interval_text a = decimal a.stride ++ ends_text a.lo a.hi

-- offsets in a region: the region, a colon (58), and the offsets
abbrev pub part_text : Part → List ℕ
part_text p = region_text 46 p.region ++ (58 ∷ interval_text p.si)

-- every value, or parts with spaces (32) between them
abbrev pub value_text : Values → List ℕ
value_text Top = codes "top"
value_text (Parts ps) = join_with_byte 32 (map part_text ps)

-- -- Nodes

-- call sites, which a node has from the newest to the oldest, from the oldest to the newest, with commas (44) between them
abbrev pub sites_text : List ℕ → List ℕ
sites_text [] = codes "-"
sites_text (site ∷ sites) = join_with_byte 44 (map hex8_text (reverse (site ∷ sites)))

abbrev pub node_line : Node → List ℕ
node_line n = codes "node " ++ (hex8_text n.context.proc ++ (32 ∷ (sites_text n.context.sites ++ (32 ∷ address_line n.at))))

abbrev pub register_line : List ℕ → Values → List ℕ
register_line name value = name ++ (32 ∷ (value_text value ++ 10 ∷ []))

-- the registers EAX, ECX, EDX and EBX have the numbers 0 to 3
abbrev pub data_lines : (ℕ → Values) → List ℕ
data_lines registers =
    register_line (codes "eax") (registers 0) ++ (register_line (codes "ecx") (registers 1)
    ++ (register_line (codes "edx") (registers 2) ++ register_line (codes "ebx") (registers 3)))

-- ESP, EBP, ESI and EDI have the numbers 4 to 7
abbrev pub pointer_lines : (ℕ → Values) → List ℕ
pointer_lines registers =
    register_line (codes "esp") (registers 4) ++ (register_line (codes "ebp") (registers 5)
    ++ (register_line (codes "esi") (registers 6) ++ register_line (codes "edi") (registers 7)))

abbrev pub register_lines : (ℕ → Values) → List ℕ
register_lines registers = data_lines registers ++ pointer_lines registers

abbrev pub node_text : Placed → List ℕ
node_text p = node_line p.node ++ register_lines p.state.registers

-- -- The reply

-- those of some nodes that stand at an address
abbrev pub placed_at : ℕ → List Placed → List Placed
placed_at at placed = filter (λ (p : Placed). p.node.at == at) placed

-- the reply that tells these nodes at an address
abbrev pub values_text : Round → ℕ → List Placed → List ℕ
values_text r at placed =
    first_line (codes "values") (at ∷ []) r.number r.lane
    ++ (flat_map node_text placed ++ last_line (decimal (length placed)) (codes " nodes ") (warning_count r))

abbrev pub unless_none : Round → ℕ → List Placed → Option (List ℕ)
unless_none r at [] = None
unless_none r at (p ∷ ps) = Some (values_text r at (p ∷ ps))

-- the reply that tells the nodes of a round at an address, if there is such a node
abbrev pub values_reply : Round → ℕ → Option (List ℕ)
values_reply r at = unless_none r at (placed_at at (told r.states).placed)
