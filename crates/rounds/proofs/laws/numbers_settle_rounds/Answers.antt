use Rattle.rounds.proofs.RoundLemmas.{one_cells, one_map, one_warnings, one_flow, one_last}
use Rattle.rounds.proofs.laws.numbers_settle_rounds.Goals as goal

pub returns-clause-cells : goal.returns-clause-cells
returns-clause-cells c = one_cells

pub returns-clause-map : goal.returns-clause-map
returns-clause-map c = one_map

pub returns-clause-warnings : goal.returns-clause-warnings
returns-clause-warnings c = one_warnings

pub returns-clause-flow : goal.returns-clause-flow
returns-clause-flow c = one_flow

pub returns-clause-last : goal.returns-clause-last
returns-clause-last c = one_last
