-- What is read was last written at a node from which an edge comes.
use Rattle.std.proofs.Common.{ℕ, List}
use Rattle.std.specs.Prelude.{Bool}
use Rattle.flow_graph.specs.FlowGraph.{MustDefine}
use Rattle.slicer.specs.Slicer.{FlowEdge}
use Rattle.ia32_semantics.specs.State.{Location}
use Rattle.ia32_semantics.specs.Machine.{Machine}
use Rattle.ia32_semantics.specs.Runs.{OccurrenceOf, IsRun}
use Rattle.ia32_semantics.specs.Dependence.{DataDependence}
use Rattle.slice_soundness.specs.Maps.{Map, number_of}
use Rattle.slice_soundness.specs.Premises.{IsGraphOf, Covers, Follows}
use Rattle.slice_soundness.specs.Laws.{between, numbers_of, DataHasEdges}
use Rattle.slice_soundness.proofs.PlaceLemmas.{place_lives}
use Rattle.slice_soundness.proofs.WalkLemmas.{runs_walk, all_between}

data_edge : (m : Machine) (v : Map) (f : Follows m v) (g : IsGraphOf m v) (c : Covers m v) (run : List (OccurrenceOf m)) (is : IsRun m run) (skip_sp : Bool) (l : Location) (j i : ℕ) (d : DataDependence m skip_sp run l j i)
    → FlowEdge v.graph skip_sp (number_of v d.writer.before) (number_of v d.reader.before)
data_edge m v f g c run is skip_sp l j i d =
    let lives = place_lives m v f c run is skip_sp l j i d in (
      lives.place,
      lives.other,
      record {
        defines = lives.defines;
        uses = lives.uses;
        inner = numbers_of m v (between run i j);
        walk = runs_walk m v f g run is i j d.writer d.reader d.earlier d.writer_is d.reader_is;
        kept = all_between m v f g (λ node. ¬ MustDefine v.graph lives.place node) run i j d.reader d.earlier d.reader_is lives.kept;
      },
    )

pub data_has_edges : (m : Machine) (v : Map) → Follows m v → IsGraphOf m v → Covers m v → DataHasEdges m v
data_has_edges m v f g c run is skip_sp l j i d = data_edge m v f g c run is skip_sp l j i d
