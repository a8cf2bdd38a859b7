-- What is answered of a shortest path. The project's own.
use Rattle.std.specs.Prelude.{◌≡◌, ◌⊎◌, ℕ, Option, Some, None, List, [], ◌∷◌, reverse}
use Rattle.std.specs.declared.result.Result.{Result}
use Rattle.std.specs.declared.result.Result.TheVariants.{Ok, Err}
use Rattle.flow_graph.specs.declared.graph.FlowNode.{FlowNode}
use Rattle.flow_graph.specs.FlowGraph.{IsAt}
use Rattle.slicer.specs.Slicer.{Arrow}
use Rattle.chops.specs.declared.hops.Hop.{Hop}
use Rattle.chops.specs.declared.hops.HopKind.{HopKind}
use Rattle.chops.specs.declared.hops.HopKind.TheVariants.{First, ByPlace, ByBranch}
use Rattle.chops.specs.declared.path.WhyError.{WhyError}
use Rattle.chops.specs.declared.path.WhyError.TheVariants.{From, To, Memory}
use Rattle.chops.specs.Answers.{IsPresent}
use Rattle.chops.specs.Paths.{IsTrace, IsShortestPath}

-- how the path comes to a node: it begins there, or by an edge from the node before it, or, where there is none, by control
abbrev pub IsKind : (ℕ → ℕ → Type 0) → Option ℕ → ℕ → HopKind → Type 0
IsKind Edge None n First = Unit {0}
IsKind Edge None n ByPlace = ⊥
IsKind Edge None n ByBranch = ⊥
IsKind Edge (Some m) n First = ⊥
IsKind Edge (Some m) n ByPlace = Edge m n
IsKind Edge (Some m) n ByBranch = ¬ Edge m n

-- a hop to node n, from the node before it if there is one
pub record IsHop (Edge : ℕ → ℕ → Type 0) (g : List FlowNode) (before : Option ℕ) (n : ℕ) (hop : Hop) : Type 0 where
  pub stands : IsAt g hop.at n
  pub comes : IsKind Edge before n hop.kind

abbrev pub first_of : List ℕ → Option ℕ
first_of [] = None
first_of (n ∷ ns) = Some n

-- a hop for each node of a path, both read from the end
abbrev pub AreHops : (ℕ → ℕ → Type 0) → List FlowNode → List ℕ → List Hop → Type 0
AreHops Edge g [] [] = Unit {0}
AreHops Edge g [] (hop ∷ hops) = ⊥
AreHops Edge g (n ∷ ms) [] = ⊥
AreHops Edge g (n ∷ ms) (hop ∷ hops) = IsHop Edge g (first_of ms) n hop × AreHops Edge g ms hops

-- the nodes of the shortest path, or none where there is no path
abbrev pub IsPath : (ℕ → ℕ → Type 0) → List FlowNode → ℕ → ℕ → List ℕ → Type 0
IsPath Edge g from to nodes = IsShortestPath Edge g from to nodes ⊎ ((nodes ≡ []) × ((trace : List ℕ) → ¬ IsTrace (Arrow Edge g) (IsAt g from) (IsAt g to) trace))

-- the hops along that path
abbrev pub IsWhy : (ℕ → ℕ → Type 0) → List FlowNode → ℕ → ℕ → List Hop → Type 0
IsWhy Edge g from to hops = (nodes : List ℕ) × IsPath Edge g from to nodes × AreHops Edge g (reverse nodes) (reverse hops)

-- From where no node stands at the one address, To where one does and none stands at the other; want of memory may come of any graph
abbrev pub WhyAnswer : {A : Type 0} → List FlowNode → ℕ → ℕ → Result A WhyError → Type 0
WhyAnswer g from to (Err From) = ¬ IsPresent g from
WhyAnswer g from to (Err To) = IsPresent g from × ¬ IsPresent g to
WhyAnswer g from to (Err Memory) = IsPresent g from × IsPresent g to
WhyAnswer g from to (Ok hops) = IsPresent g from × IsPresent g to
