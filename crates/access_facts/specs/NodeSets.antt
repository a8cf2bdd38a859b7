-- The accesses and the sets of a node as the code has them. The project's own.
use Rattle.std.specs.Prelude.{ℕ, ◌≡◌, Bool, List}
use Rattle.image_map.specs.declared.image.Image.{Image}
use Rattle.image_map.specs.declared.region.Cell.{Cell}
use Rattle.abs_semantics.specs.States.{AbsState}
use Rattle.abs_steps.specs.Places.{Content}
use Rattle.abs_steps.specs.Views.{View}
use Rattle.access_facts.specs.declared.node.NodeAccesses.{NodeAccesses}
use Rattle.access_facts.specs.declared.node.NodeSets.{NodeSets}
use Rattle.access_facts.specs.Sets as set

pub record AreAccesses (image : Image) (v : View) (content : Content) (goes_on : Bool) (n : NodeAccesses) : Type 0 where
  pub reads : n.reads.items ≡ set.read_reaches v content
  pub writes : n.writes.items ≡ set.write_reaches image v content goes_on
  pub sure : n.is_sure ≡ set.writes_surely v content goes_on
  pub older : n.older.items ≡ set.older_behind v content goes_on

pub record AreSets (image : Image) (cs : List Cell) (v : View) (content : Content) (goes_on : Bool) (n : NodeSets) : Type 0 where
  pub may_use : n.may_use ≡ set.may_use cs v content
  pub may_def : n.may_def ≡ set.may_def image cs v content goes_on
  pub must_def : n.must_def ≡ set.must_def image cs v content goes_on

-- the view is of this state, at a node of this procedure
abbrev pub IsOf : View → AbsState → ℕ → Type 0
IsOf v a p = (v.state ≡ a) × (v.procedure ≡ p)
