use Rattle.rounds.proofs.RoundLemmas.{one_division, told_is, full_is}
use Rattle.rounds.proofs.making.made.Goals as goal

pub returns-clause-round : goal.returns-clause-round
returns-clause-round c =
    let cells = c.in_ok-cells.cells in
    let own = c.in_ok-own.own in
    let s = c.in_ok-states in
    let one = one_division c.args.image.now.segments c.args.lists.now own cells c.in_ok-own.ensures.lists c.in_ok-cells.ensures.lists c.in_ok-own.ensures.image c.in_ok-cells.ensures.image in
    record {
      cells = c.requires.cells cells c.in_ok-cells.ensures.lists c.in_ok-cells.ensures.image;
      states = told_is c.args.image.now c.args.settings.now c.args.name.lane own cells s.states one s.ensures.placed s.ensures.lane s.ensures.cells;
      full = full_is c.args.image.now c.args.settings.now c.args.name.lane own cells s.states.full one s.ensures.full;
      form = record { rising = s.ensures.rising; as_many = s.ensures.as_many };
      warnings = c.in_ok-warnings.ensures;
      flow = c.in_ok-found.ensures.flow;
      edges = c.in_ok-found.ensures.edges;
      last = c.in_ok-found.ensures.last;
    }
