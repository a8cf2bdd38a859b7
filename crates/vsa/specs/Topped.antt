-- The state after many changes: whatever differs from what it was becomes everything. The project's own.
use Rattle.std.specs.Prelude.{ℕ, ◌&&◌, ◌||◌, not, Bool, true, false, if◌then◌else◌, List, map, filter}
use Rattle.std.specs.List.{list_any}
use Rattle.image_map.specs.declared.region.Cell.{Cell}
use Rattle.strided.specs.Interval.{full}
use Rattle.vset.specs.Values.{Values, Top}
use Rattle.vset.specs.Operations.{same_values}
use Rattle.vset.specs.declared.facts.AbsFlags.{AbsFlags}
use Rattle.ia32_types.specs.declared.Flag.{Flag}
use Rattle.ia32_types.specs.Sets.{has_flag}
use Rattle.abs_semantics.specs.declared.parts.Known.{Known}
use Rattle.abs_semantics.specs.declared.parts.Link.{Link}
use Rattle.abs_semantics.specs.States.{AbsState, value_at, known_of, rebuilt}
use Rattle.abs_semantics.specs.Joins.{same_flag, fact_of}
use Rattle.abs_semantics.specs.Below.{is_number}
use Rattle.cell_map.specs.Lists.{same_whole}

abbrev pub topped_value : Values → Values → Values
topped_value old new = if same_values old new then new else Top

abbrev pub is_same_flag : AbsState → AbsState → ℕ → Bool
is_same_flag old new n =
    same_flag (old.flags n true) (new.flags n true) && same_flag (old.flags n false) (new.flags n false)

abbrev pub topped_flag : AbsState → AbsState → ℕ → Bool → Bool
topped_flag old new n t = new.flags n t || not (is_same_flag old new n)

abbrev pub topped_cell : AbsState → AbsState → Cell → Values
topped_cell old new c = topped_value (value_at old c) (value_at new c)

-- one of some links is between the same procedures, of the same age, with the same offsets
abbrev pub has_link : List Link → Link → Bool
has_link ms l = list_any (λ m. same_whole m l) ms

abbrev pub topped_link : List Link → Link → Link
topped_link old l = if has_link old l then l else record l { off = full }

-- the number of a region is known, and it is this one
abbrev pub has_known : List Known → Known → Bool
has_known old k = is_number (known_of k.region old) k.number

-- the size that every block has
abbrev pub topped_size : List Known → Known → Known
topped_size old k = if has_known old k then k else record k { number = 0 }

-- Procedures, the keys of blocks and the links themselves stay.
unfoldable pub topped : AbsState → AbsState → AbsState
topped old new =
    record new {
      registers = λ n. topped_value (old.registers n) (new.registers n);
      flags = topped_flag old new;
      cells = rebuilt (topped_cell old new) new.cells;
      links = map (topped_link old.links) new.links;
      aligns = filter (has_known old.aligns) new.aligns;
      blocks = map (topped_size old.blocks) new.blocks;
      fact = fact_of old.fact new.fact;
    }

-- a flag may be the same by both
abbrev pub is_flag_kept : AbsFlags → AbsFlags → Flag → Bool
is_flag_kept f g x = same_flag (has_flag f.one x) (has_flag g.one x) && same_flag (has_flag f.zero x) (has_flag g.zero x)
