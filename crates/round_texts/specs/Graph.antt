-- The graph of a round, as compact JSON. The project's own.
use Rattle.std.specs.Prelude.{◌≡◌, ℕ, List, [], ◌∷◌, ◌++◌, reverse, codes}
use Rattle.serde_json.specs.Data.{Data, Items, array, object, number, unsigned, no_items, item, no_members, member}
use Rattle.serde_json.specs.Events.{SendsValue}
use Rattle.serde_json.specs.Written.{compact_text}
use Rattle.serde.specs.Event.{Log, Logs, field_key}
use Rattle.serde.specs.declared.name.Case.TheVariants.{AsIs}
use Rattle.call_strings.specs.declared.context.Node.{Node}
use Rattle.dep_graph.specs.Edges.{ListsPairs}
use Rattle.control_walks.specs.ControlWalks.{Controls}
use Rattle.rounds.specs.declared.round.Round.{Round}

abbrev pub items_of : {A : Type 0} → (A → Data) → List A → Items
items_of data_of [] = no_items
items_of data_of (x ∷ xs) = item (data_of x) (items_of data_of xs)

abbrev pub list_data : {A : Type 0} → (A → Data) → List A → Data
list_data data_of xs = array (items_of data_of xs)

abbrev pub number_data : ℕ → Data
number_data n = number (unsigned n)

-- a pair of positions of nodes
abbrev pub pair_data : ℕ × ℕ → Data
pair_data pair = array (item (number_data pair.0) (item (number_data pair.1) no_items))

-- a node, with its call sites from the oldest to the newest
abbrev pub node_data : Node → Data
node_data n =
    object (member (codes "at") (number_data n.at) (member (codes "proc") (number_data n.context.proc)
    (member (codes "sites") (list_data number_data (reverse n.context.sites)) no_members)))

-- the graph: which branch controls which node, and along which pairs of nodes data goes, by ESP or otherwise
abbrev pub graph_data : Round → List (ℕ × ℕ) → Data
graph_data r control =
    object (member (codes "control") (list_data pair_data control)
    (member (codes "edges") (list_data pair_data r.graph.edges.ordinary)
    (member (codes "lane") (number_data r.lane)
    (member (codes "nodes") (list_data node_data r.states.nodes.items)
    (member (codes "round") (number_data r.number)
    (member (codes "sp") (list_data pair_data r.graph.edges.sp) no_members))))))

-- The text is the one line of the graph of a round: each pair of a branch and a node that it controls stands in it once, rising.
pub record IsGraphReply (r : Round) (text : List ℕ) : Type 0 where
  pub control : List (ℕ × ℕ)
  pub pairs : ListsPairs (Controls r.graph.flow.nodes) control
  pub text_is : text ≡ compact_text (graph_data r control) ++ 10 ∷ []

-- what is sent of a member of an object: its key and its value
abbrev pub SendsMember : List ℕ → Data → Log → Log → Type 0
SendsMember key value old new = (named : Log) × Logs old named (field_key key AsIs) × SendsValue value named new
