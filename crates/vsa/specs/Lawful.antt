-- The sweeps may go by nodes with tables: nodes stand in one strict order, and a table is the same as itself.
use Rattle.std.proofs.Common.{◌≡◌, true, refl, eq-eqb}
use Rattle.std.proofs.lemmas.Bool.{and_from}
use Rattle.vset.specs.Operations.{same_values}
use Rattle.vset.proofs.SameLemmas.{equal-same_values}
use Rattle.cell_map.specs.Lists.{same_entry, same_whole, same_known}
use Rattle.cell_map.proofs.SameLemmas.{same_lists-itself, same_entry-itself, same_flag-itself, same_whole-itself, same_known-itself}
use Rattle.abs_semantics.specs.Joins.{same_flag}
use Rattle.abs_state.specs.Same.{same_numbers}
use Rattle.abs_state.proofs.EqualLemmas.{facts_itself}
use Rattle.sweeps.specs.Meaning.{IsLawful}
use Rattle.vsa.specs.Tables.{Table}
use Rattle.vsa.specs.Same.{same_table}
use Rattle.vsa.specs.NodeOrder.{nodes_irreflexive, nodes_transitive, nodes_total}
use Rattle.vsa.specs.Analysis.{Analysis, meaning_of}

pub table_itself : (t : Table) → same_table t t ≡ true
unfolding same_table
table_itself t =
    and_from _ _ (same_lists-itself same_values (λ v. equal-same_values v v refl) t.registers)
    (and_from _ _ (same_lists-itself same_flag same_flag-itself t.one)
    (and_from _ _ (same_lists-itself same_flag same_flag-itself t.zero)
    (and_from _ _ (same_lists-itself same_entry same_entry-itself t.cells)
    (and_from _ _ (same_lists-itself same_numbers (λ n. eq-eqb n n refl) t.live)
    (and_from _ _ (same_lists-itself same_numbers (λ n. eq-eqb n n refl) t.older)
    (and_from _ _ (same_lists-itself same_whole same_whole-itself t.links)
    (and_from _ _ (same_lists-itself same_known same_known-itself t.aligns)
    (and_from _ _ (same_lists-itself same_known same_known-itself t.blocks)
    (and_from _ _ (facts_itself t.fact) (eq-eqb t.root t.root refl))))))))))

pub is_lawful : (x : Analysis) → IsLawful (meaning_of x)
is_lawful x = record {
  irreflexive = nodes_irreflexive;
  transitive = nodes_transitive;
  total = nodes_total;
  same_as_itself = table_itself;
}
