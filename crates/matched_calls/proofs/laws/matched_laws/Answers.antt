use Rattle.matched_calls.proofs.LawLemmas.{edge_of, plain_edge, slice_within}
use Rattle.matched_calls.proofs.laws.matched_laws.Goals as goal

pub returns-clause-edges : goal.returns-clause-edges
returns-clause-edges c = edge_of

pub returns-clause-plain : goal.returns-clause-plain
returns-clause-plain c = plain_edge

pub returns-clause-control : goal.returns-clause-control
returns-clause-control c = λ g kinds b n matched. matched.controls

pub returns-clause-slices : goal.returns-clause-slices
returns-clause-slices c = slice_within
