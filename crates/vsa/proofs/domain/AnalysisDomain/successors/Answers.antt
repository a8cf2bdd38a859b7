use Rattle.std.proofs.Common.{map, ap, ◌∙◌}
use Rattle.abs_steps.specs.Successors.{successors}
use Rattle.transfer_flow.specs.Successors.{placed_of}
use Rattle.vsa.specs.Analysis.{program_of, successors_in}
use Rattle.vsa.specs.Views.{tables_of, lent_tables}
use Rattle.vsa.proofs.domain.AnalysisDomain.successors.Goals as goal

pub returns : goal.returns
returns c =
    let x = program_of c.self.inside.program.now in
    let n = c.args.place.now in
    let held = ap (map placed_of) c.as_slice.ensures.value ∙ c.in_ok-held.ensures in
    c.in_ok-tabled.ensures
    ∙ ap tables_of (c.in_ok-placed.ensures ∙ (λ i. successors x.image x.settings (record { lane = x.lane; cells = x.cells; placed = held i }) n (c.state.ensures.state i)))
    ∙ (λ i. successors_in (c.self.view_is i) n c.args.state.now (lent_tables c.args.others.now))
