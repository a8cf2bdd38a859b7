-- Which abstract states tell no less than others. The rules are the project's own.
use Rattle.std.specs.Prelude.{ℕ, ◌==◌, ◌&&◌, ◌||◌, not, nat_le, Bool, true, false, List, [], ◌∷◌, Option, Some, None}
use Rattle.std.specs.List.{list_any, list_all}
use Rattle.strided.specs.Operations as interval
use Rattle.vset.specs.declared.facts.CmpFact.{CmpFact}
use Rattle.vset.specs.Operations as values
use Rattle.abs_semantics.specs.declared.parts.CellValue.{CellValue}
use Rattle.abs_semantics.specs.declared.parts.Link.{Link}
use Rattle.abs_semantics.specs.declared.parts.Known.{Known}
use Rattle.abs_semantics.specs.States.{AbsState, value_at, has_procedure, known_of, has_region}
use Rattle.abs_semantics.specs.Joins.{same_link, same_fact}

-- the numbers of registers and of flags
abbrev pub register_numbers : List ℕ
register_numbers = 0 ∷ 1 ∷ 2 ∷ 3 ∷ 4 ∷ 5 ∷ 6 ∷ 7 ∷ []

abbrev pub flag_numbers : List ℕ
flag_numbers = 0 ∷ 1 ∷ 2 ∷ 3 ∷ 4 ∷ 5 ∷ []

-- what the one allows, the other does too
abbrev pub implies : Bool → Bool → Bool
implies x y = not x || y

abbrev pub is_flag_below : AbsState → AbsState → ℕ → Bool
is_flag_below a b n = implies (a.flags n true) (b.flags n true) && implies (a.flags n false) (b.flags n false)

-- cells of regions that the first hasn't don't count; a cell that the second has no value for may hold every value there
abbrev pub is_cell_below : AbsState → CellValue → Bool
is_cell_below a e = implies (has_region a e.cell.region) (values.below (value_at a e.cell) e.value)

abbrev pub is_link_below : List Link → Link → Bool
is_link_below ms l = list_any (λ m. same_link m l && interval.below l.off m.off) ms

abbrev pub is_at_most : Option ℕ → ℕ → Bool
is_at_most None n = false
is_at_most (Some m) n = nat_le m n

abbrev pub is_size_below : List Known → Known → Bool
is_size_below ks k = is_at_most (known_of k.region ks) k.number

abbrev pub is_number : Option ℕ → ℕ → Bool
is_number None n = false
is_number (Some m) n = m == n

abbrev pub is_align_below : AbsState → Known → Bool
is_align_below a k = implies (has_region a k.region) (is_number (known_of k.region a.aligns) k.number)

abbrev pub is_fact_below : Option CmpFact → Option CmpFact → Bool
is_fact_below f None = true
is_fact_below None (Some g) = false
is_fact_below (Some f) (Some g) = same_fact f g

-- each known number of a region by its first entry
abbrev pub state_below : AbsState → AbsState → Bool
state_below a b =
    a.root == b.root
    && (list_all (λ n. values.below (a.registers n) (b.registers n)) register_numbers
    && (list_all (is_flag_below a b) flag_numbers
    && (list_all (is_cell_below a) b.cells
    && (list_all (λ p. has_procedure p b.live) a.live
    && (list_all (λ p. has_procedure p b.older) a.older
    && (list_all (is_link_below b.links) a.links
    && (list_all (is_size_below b.blocks) a.blocks
    && (list_all (is_align_below a) b.aligns
    && is_fact_below a.fact b.fact))))))))
