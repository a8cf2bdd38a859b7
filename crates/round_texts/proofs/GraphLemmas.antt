-- Lists and members that are sent to a serializer.
use Rattle.std.proofs.Common.{◌≡◌, ℕ, suc, List, [], ◌∷◌, length, reverse, codes, false, Some, refl, ap, sym, ◌∙◌, subst, arith}
use Rattle.serde.specs.Event.{Log, Logs, seq_begins, seq_ends, map_begins, map_ends}
use Rattle.serde_json.specs.Data.{Data}
use Rattle.serde_json.specs.Events.{items_len, SendsValue, SendsItems}
use Rattle.serde_json.specs.Written.{has_float, items_have_float}
use Rattle.std.proofs.lemmas.Bool.{or_from}
use Rattle.call_strings.specs.declared.context.Node.{Node}
use Rattle.rounds.specs.declared.round.Round.{Round}
use Rattle.round_texts.specs.Graph.{items_of, list_data, number_data, pair_data, node_data, graph_data, SendsMember}

items_count : {A : Type 0} (f : A → Data) (xs : List A) → items_len (items_of f xs) ≡ length xs
items_count f [] = refl
items_count f (x ∷ xs) = ap suc (items_count f xs)

nothing_left : {A : Type 0} (f : A → Data) (left : List A) (log end : Log) → length left ≡ 0 → Logs log end seq_ends → SendsItems (items_of f left) log end
nothing_left f [] log end none ended = ended
nothing_left f (x ∷ xs) log end none ended = absurd (omega arith)

-- a list is sent where its beginning was, then its items, and then its end
pub list_sent : {A : Type 0} (f : A → Data) (xs left : List A) (count : ℕ) (old first last end : Log) → Logs old first (seq_begins (Some count)) → count ≡ length xs → length left ≡ 0 → ((e : Log) → SendsItems (items_of f left) last e → SendsItems (items_of f xs) first e) → Logs last end seq_ends → SendsValue (list_data f xs) old end
list_sent f xs left count old first last end begun counted none items ended = (
  first,
  subst (λ n. Logs old first (seq_begins (Some n))) (counted ∙ sym (items_count f xs)) begun,
  items end (nothing_left f left last end none ended),
)

-- a list that is lent is the one that is held
pub same_list : {A : Type 0} (f : A → Data) (key : List ℕ) (old new : Log) (lent held : List A) → lent ≡ held → SendsMember key (list_data f lent) old new → SendsMember key (list_data f held) old new
same_list f key old new lent held same sent = subst (λ xs. SendsMember key (list_data f xs) old new) same sent

-- a node is sent by its three members
pub node_sent : (n : Node) (old first at proc sites end : Log) → Logs old first (map_begins (Some 3)) → SendsMember (codes "at") (number_data n.at) first at → SendsMember (codes "proc") (number_data n.context.proc) at proc
    → SendsMember (codes "sites") (list_data number_data (reverse n.context.sites)) proc sites → Logs sites end map_ends → SendsValue (node_data n) old end
node_sent n old first at proc sites end begun one two three ended =
    (first, begun, (one.0, at, one.1, one.2, (two.0, proc, two.1, two.2, (three.0, sites, three.1, three.2, ended))))

-- the graph is sent by its six members
pub graph_sent : (r : Round) (pairs : List (ℕ × ℕ)) (old first control edges lane nodes round sp end : Log) → Logs old first (map_begins (Some 6)) → SendsMember (codes "control") (list_data pair_data pairs) first control
    → SendsMember (codes "edges") (list_data pair_data r.graph.edges.ordinary) control edges → SendsMember (codes "lane") (number_data r.lane) edges lane → SendsMember (codes "nodes") (list_data node_data r.states.nodes.items) lane nodes
    → SendsMember (codes "round") (number_data r.number) nodes round → SendsMember (codes "sp") (list_data pair_data r.graph.edges.sp) round sp → Logs sp end map_ends → SendsValue (graph_data r pairs) old end
graph_sent r pairs old first control edges lane nodes round sp end begun one two three four five six ended =
    (first, begun, (one.0, control, one.1, one.2, (two.0, edges, two.1, two.2, (three.0, lane, three.1, three.2, (four.0, nodes, four.1, four.2, (five.0, round, five.1, five.2, (six.0, sp, six.1, six.2, ended)))))))

-- -- No floats

no_float : {A : Type 0} (f : A → Data) → ((x : A) → has_float (f x) ≡ false) → (xs : List A) → items_have_float (items_of f xs) ≡ false
no_float f each [] = refl
no_float f each (x ∷ xs) = or_from (has_float (f x)) (items_have_float (items_of f xs)) (each x) (no_float f each xs)

node_has_none : (n : Node) → has_float (node_data n) ≡ false
node_has_none n = or_from (items_have_float (items_of number_data (reverse n.context.sites))) false (no_float number_data (λ _. refl) (reverse n.context.sites)) refl

-- a graph holds no float
pub graph_has_none : (r : Round) (pairs : List (ℕ × ℕ)) → has_float (graph_data r pairs) ≡ false
graph_has_none r pairs =
    let pairs_have : (xs : List (ℕ × ℕ)) → items_have_float (items_of pair_data xs) ≡ false = no_float pair_data (λ _. refl) in
    or_from _ _ (pairs_have pairs) (or_from _ _ (pairs_have r.graph.edges.ordinary) (or_from _ _ (no_float node_data node_has_none r.states.nodes.items) (or_from _ _ (pairs_have r.graph.edges.sp) refl)))
