use Rattle.std.proofs.Common.{◌≢◌, subst}
use Rattle.std.specs.List.{AllPairs}
use Rattle.call_strings.proofs.NodeLemmas.{different}
use Rattle.call_strings.proofs.table.NodeTable.nodes.Goals as goal

pub returns-clause-different : goal.returns-clause-different
returns-clause-different c = subst (AllPairs (λ x y. x ≢ y)) c.self.view_is (different c.self.inside.nodes.keys c.as_slice.ensures.unique)
