use Rattle.std.proofs.Common.{length, map, ap, sym, subst, ◌∙◌}
use Rattle.std.proofs.lemmas.List.{length-map}
use Rattle.call_strings.specs.declared.context.Node.{Node}
use Rattle.abs_state.specs.Views.{seen}
use Rattle.sweeps.specs.Kept.{zip_with}
use Rattle.sweeps.specs.Sweeps.{AreRising, is_closed as is_table_closed}
use Rattle.vsa.specs.Tables.{state_of}
use Rattle.vsa.specs.Analysis.{meaning_of, program_of}
use Rattle.vsa.specs.Closed.{is_closed}
use Rattle.vsa.specs.Views.{states_with, lent_tables}
use Rattle.vsa.proofs.LentLemmas.{beside, beside_placed, nodes_beside, lent_nodes, rising_nodes}
use Rattle.vsa.proofs.ClosedLemmas.{closed_told}
use Rattle.vsa.proofs.checking.is_map_closed.Goals as goal

pub rows-requires : goal.rows-requires
rows-requires c =
    c.requires.as_many ∙ sym (length-map c.args.values.now seen) ∙ sym (ap length c.in_ok-held.ensures) ∙ length-map c.in_ok-held.held.items state_of ∙ sym (ap length c.as_slice.ensures.value)

pub is_closed-requires : goal.is_closed-requires
is_closed-requires c =
    let nodes = c.args.nodes.now in
    let held = c.as_slice.result.now in
    let as_many = c.requires.as_many ∙ sym (length-map c.args.values.now seen) ∙ sym (ap length c.in_ok-held.ensures) ∙ length-map c.in_ok-held.held.items state_of ∙ sym (ap length c.as_slice.ensures.value) in
    let same = lent_nodes c.as_slice-2.result.now ∙ ap (λ xs. map {B = Node} (λ e. e.0) (lent_tables xs)) c.as_slice-2.ensures.value ∙ ap (map {B = Node} (λ e. e.0)) c.in_ok-lent.ensures ∙ nodes_beside nodes held as_many in
    subst (AreRising (meaning_of c.new-domain.result)) (sym same) (rising_nodes c.new-domain.result nodes c.requires.rising)

pub returns : goal.returns
returns c =
    let p = c.args.program.now in
    let nodes = c.args.nodes.now in
    let values = c.args.values.now in
    let held = c.in_ok-held.held.items in
    let lent = ap lent_tables c.as_slice-2.ensures.value ∙ c.in_ok-lent.ensures ∙ ap (zip_with beside nodes) c.as_slice.ensures.value in
    c.in_ok-closed.ensures
    ∙ (λ i. is_table_closed (meaning_of (c.new-domain.ensures i)) (c.entry_node-entry.ensures i) (c.in_ok-first.ensures i) (lent i))
    ∙ closed_told (program_of p) (zip_with beside nodes held)
    ∙ ap (λ placed. is_closed p.image.now p.settings.now (states_with p placed)) (sym (beside_placed nodes values held c.in_ok-held.ensures))
