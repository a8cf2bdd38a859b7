use Rattle.std.proofs.Common.{length, map, ap, sym, subst, ◌∙◌}
use Rattle.std.proofs.lemmas.List.{length-map}
use Rattle.call_strings.specs.declared.context.Node.{Node}
use Rattle.abs_state.specs.Views.{seen}
use Rattle.sweeps.specs.declared.row.Row.{Row}
use Rattle.sweeps.specs.Sweeps.{entry_of}
use Rattle.vsa.specs.Tables.{Table, state_of}
use Rattle.vsa.specs.Analysis.{placed_of}
use Rattle.vsa.specs.Views.{NodesRise}
use Rattle.vsa.proofs.LentLemmas.{split_placed}
use Rattle.vsa.proofs.sweep.sweep_all.Goals as goal

pub returns-clause-placed : goal.returns-clause-placed
returns-clause-placed c =
    let parts = c.in_ok-parts.parts in
    split_placed parts.0.items parts.1.items c.in_ok-swept.swept.rows.items c.in_ok-parts.ensures.nodes c.in_ok-parts.ensures.values
    ∙ ap (λ rows. placed_of (map entry_of rows)) c.in_ok-swept.ensures.rows

pub returns-clause-rising : goal.returns-clause-rising
returns-clause-rising c = subst NodesRise (sym c.in_ok-parts.ensures.nodes) c.in_ok-swept.ensures.rising

pub returns-clause-as_many : goal.returns-clause-as_many
returns-clause-as_many c =
    let rows = c.in_ok-swept.swept.rows.items in
    ap length c.in_ok-parts.ensures.nodes ∙ length-map rows (λ (r : Row Node Table). r.place) ∙ sym (length-map rows (λ (r : Row Node Table). state_of r.state)) ∙ sym (ap length c.in_ok-parts.ensures.values) ∙ length-map c.in_ok-parts.parts.1.items seen
