use Rattle.slicer.specs.Slicer.{ListedEdge}
use Rattle.chops.proofs.ReachLemmas.{lies_between, path_back, path_forward}
use Rattle.chops.proofs.laws.chop_laws.Goals as goal

pub returns-clause-forward : goal.returns-clause-forward
returns-clause-forward c = λ ordinary sp skip_sp. path_forward (ListedEdge ordinary sp skip_sp)

pub returns-clause-back : goal.returns-clause-back
returns-clause-back c = λ ordinary sp skip_sp. path_back (ListedEdge ordinary sp skip_sp)

pub returns-clause-between : goal.returns-clause-between
returns-clause-between c = λ ordinary sp skip_sp. lies_between (ListedEdge ordinary sp skip_sp)
