-- The test of tables tells whether they are equal.
use Rattle.std.proofs.Common.{◌≡◌, ◌==◌, Bool, true, false, refl, sym, ap, subst, ◌∙◌, eqb-true}
use Rattle.std.specs.Prelude.{◌↔◌, IsTrue}
use Rattle.std.proofs.lemmas.Bool.{and_parts, true≢false}
use Rattle.abs_semantics.specs.States.{AbsState}
use Rattle.vset.specs.Operations.{same_values}
use Rattle.vset.proofs.SameLemmas.{same_values-equal}
use Rattle.cell_map.specs.Lists.{same_lists, same_entry, same_whole, same_known}
use Rattle.cell_map.proofs.SameLemmas.{same_lists-equal, same_entry-equal, same_whole-equal, same_known-equal}
use Rattle.abs_semantics.specs.Joins.{same_flag}
use Rattle.abs_semantics.proofs.BelowLemmas.{same_flag-equal}
use Rattle.abs_state.specs.Same.{same_facts, same_numbers}
use Rattle.abs_state.proofs.EqualLemmas.{facts_equal}
use Rattle.vsa.specs.Tables.{Table, table_of, state_of}
use Rattle.vsa.specs.Same.{same_table}
use Rattle.vsa.specs.Lawful.{table_itself}

pub table_equal : (a b : Table) → same_table a b ≡ true → a ≡ b
unfolding same_table
table_equal a b e =
    let p0 = and_parts (same_lists same_values a.registers b.registers) _ e in
    let p1 = and_parts (same_lists same_flag a.one b.one) _ p0.1 in
    let p2 = and_parts (same_lists same_flag a.zero b.zero) _ p1.1 in
    let p3 = and_parts (same_lists same_entry a.cells b.cells) _ p2.1 in
    let p4 = and_parts (same_lists same_numbers a.live b.live) _ p3.1 in
    let p5 = and_parts (same_lists same_numbers a.older b.older) _ p4.1 in
    let p6 = and_parts (same_lists same_whole a.links b.links) _ p5.1 in
    let p7 = and_parts (same_lists same_known a.aligns b.aligns) _ p6.1 in
    let p8 = and_parts (same_lists same_known a.blocks b.blocks) _ p7.1 in
    let p9 = and_parts (same_facts a.fact b.fact) (a.root == b.root) p8.1 in
    let registers : a.registers ≡ b.registers = same_lists-equal same_values same_values-equal a.registers b.registers p0.0 in
    let one : a.one ≡ b.one = same_lists-equal same_flag same_flag-equal a.one b.one p1.0 in
    let zero : a.zero ≡ b.zero = same_lists-equal same_flag same_flag-equal a.zero b.zero p2.0 in
    let cells : a.cells ≡ b.cells = same_lists-equal same_entry same_entry-equal a.cells b.cells p3.0 in
    let live : a.live ≡ b.live = same_lists-equal same_numbers (λ m n. eqb-true m n) a.live b.live p4.0 in
    let older : a.older ≡ b.older = same_lists-equal same_numbers (λ m n. eqb-true m n) a.older b.older p5.0 in
    let links : a.links ≡ b.links = same_lists-equal same_whole same_whole-equal a.links b.links p6.0 in
    let aligns : a.aligns ≡ b.aligns = same_lists-equal same_known same_known-equal a.aligns b.aligns p7.0 in
    let blocks : a.blocks ≡ b.blocks = same_lists-equal same_known same_known-equal a.blocks b.blocks p8.0 in
    let fact : a.fact ≡ b.fact = facts_equal a.fact b.fact p9.0 in
    let root : a.root ≡ b.root = eqb-true a.root b.root p9.1 in
    λ i. record {
      registers = registers i;
      one = one i;
      zero = zero i;
      cells = cells i;
      live = live i;
      older = older i;
      links = links i;
      aligns = aligns i;
      blocks = blocks i;
      fact = fact i;
      root = root i;
    }

-- a test of two states is the test of their tables
pub same_told : (r : Bool) (a b : AbsState) (ta tb : Table) → table_of a ≡ ta → a ≡ state_of ta → table_of b ≡ tb → b ≡ state_of tb → IsTrue r ↔ (a ≡ b) → r ≡ same_table ta tb
same_told true a b ta tb ta_is sa tb_is sb exact =
    let equal : ta ≡ tb = sym ta_is ∙ ap table_of (exact.0 refl) ∙ tb_is in
    subst (λ t. true ≡ same_table ta t) equal (sym (table_itself ta))
same_told false a b ta tb ta_is sa tb_is sb exact = by (same_table ta tb) refl
  where
    by : (s : Bool) → same_table ta tb ≡ s → false ≡ same_table ta tb
    by true e = absurd (true≢false (sym (exact.1 (sa ∙ ap state_of (table_equal ta tb e) ∙ sym sb))))
    by false e = sym e
