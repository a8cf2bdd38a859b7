-- Whether two of the code's states are the same but for registers and cells. The project's own.
use Rattle.std.specs.Prelude.{ℕ, ◌==◌, ◌&&◌, Bool, true, false, Option, Some, None}
use Rattle.std.specs.List.{list_all}
use Rattle.vset.specs.declared.facts.AbsFlags.{AbsFlags}
use Rattle.vset.specs.declared.facts.CmpFact.{CmpFact}
use Rattle.abs_semantics.specs.Joins.{same_flag, same_fact}
use Rattle.abs_semantics.specs.Below.{flag_numbers}
use Rattle.cell_map.specs.Lists.{same_lists, same_whole, same_known}
use Rattle.abs_state.specs.declared.state.AbsState.{AbsState}
use Rattle.abs_state.specs.Views.{flag_in}

abbrev pub same_flag_of : AbsFlags → AbsFlags → ℕ → Bool
same_flag_of f g n = same_flag (flag_in f n true) (flag_in g n true) && same_flag (flag_in f n false) (flag_in g n false)

abbrev pub same_facts : Option CmpFact → Option CmpFact → Bool
same_facts None None = true
same_facts (Some f) (Some g) = same_fact f g
same_facts _ _ = false

abbrev pub same_numbers : ℕ → ℕ → Bool
same_numbers m n = m == n

abbrev pub same_lists_of : AbsState → AbsState → Bool
same_lists_of a b =
    same_lists same_numbers a.live b.live
    && (same_lists same_numbers a.older b.older
    && (same_lists same_whole a.links b.links && (same_lists same_known a.aligns b.aligns && same_lists same_known a.blocks b.blocks)))

abbrev pub same_but_values : AbsState → AbsState → Bool
same_but_values a b =
    a.root == b.root && (list_all (same_flag_of a.flags b.flags) flag_numbers && (same_facts a.fact b.fact && same_lists_of a b))
