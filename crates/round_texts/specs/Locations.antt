-- The cells of a round. The project's own.
use Rattle.std.specs.Prelude.{ℕ, ℤ, List, [], ◌∷◌, ◌++◌, length, codes}
use Rattle.std.specs.Int.{cast_unsigned, w32}
use Rattle.std.specs.List.{flat_map}
use Rattle.std.specs.Fmt.{decimal, signed_decimal}
use Rattle.surf_base.specs.Hex.{hex8_text}
use Rattle.image_map.specs.declared.region.Cell.{Cell}
use Rattle.image_map.specs.declared.region.RegionId.{RegionId}
use Rattle.image_map.specs.declared.region.RegionId.TheVariants.{Global}
use Rattle.alocs.specs.declared.cells.CutList.{CutList}
use Rattle.alocs.specs.Cells.{Division, cells_of}
use Rattle.requests.specs.Texts.{first_line, last_line}
use Rattle.rounds.specs.declared.round.Round.{Round}
use Rattle.round_texts.specs.Regions.{region_text}
use Rattle.round_texts.specs.Warnings.{warning_count}

-- where a cell begins or ends: addresses have hexadecimal digits, and offsets decimal ones
abbrev pub end_text : RegionId → ℤ → List ℕ
end_text Global offset = hex8_text (cast_unsigned w32 offset)
end_text region offset = signed_decimal offset

-- where a cell begins, and where it ends
abbrev pub ends_text : Cell → List ℕ
ends_text c = end_text c.region c.start ++ (32 ∷ end_text c.region c.end)

-- a cell: its region, and its ends
abbrev pub cell_line : Cell → List ℕ
cell_line c = region_text 32 c.region ++ (32 ∷ (ends_text c ++ 10 ∷ []))

-- the cells of the regions that have a list
unfoldable pub listed_cells : Division → List Cell
listed_cells d = flat_map (λ (l : CutList). cells_of d l.region) d.lists

-- the reply that lists the cells of a round
abbrev pub locations_reply : Round → List ℕ
locations_reply r =
    first_line (codes "locations") [] r.number r.lane
    ++ (flat_map cell_line (listed_cells r.cells) ++ last_line (decimal (length (listed_cells r.cells))) (codes " cells ") (warning_count r))
