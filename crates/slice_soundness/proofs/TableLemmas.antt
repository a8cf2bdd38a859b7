-- What the check of a table finds, and what the rows give the graph.
use Rattle.std.proofs.Common.{◌≡◌, zero, suc, Bool, true, false, not, List, [], ◌∷◌, map, refl, sym, ap, subst, ◌∙◌, arith, IsTrue}
use Rattle.std.specs.Prelude.{if◌then◌else◌, Option, Some, None, Contains}
use Rattle.std.specs.List.{list_all}
use Rattle.std.proofs.lemmas.Option.{none-some, same_Some}
use Rattle.std.proofs.lemmas.Bool.{not-true, and_parts}
use Rattle.flow_graph.specs.declared.graph.FlowNode.{FlowNode}
use Rattle.flow_graph.specs.FlowGraph.{Has}
use Rattle.ia32_semantics.specs.Machine.{Machine}
use Rattle.call_strings.specs.declared.context.Node.{Node}
use Rattle.call_strings.specs.Nodes.{same_node}
use Rattle.call_strings.specs.NodeKeys.{same_is}
use Rattle.slice_soundness.specs.Nodes.{entry_node}
use Rattle.slice_soundness.specs.Maps.{Map, here}
use Rattle.slice_soundness.specs.Premises.{IsClean, IsGraphOf}
use Rattle.slice_soundness.specs.Tables.{value_in, number_in, Table, IsKept, is_above, has_above, is_closed, is_quiet, IsFlow}
use Rattle.slice_soundness.proofs.RunLemmas.{not_both}

-- -- Rows

-- what a test of all elements says of one
pub all_at : {A : Type 0} (test : A → Bool) (xs : List A) (x : A) → list_all test xs ≡ true → Contains xs x → test x ≡ true
all_at test [] x all has = absurd (omega (arith, has.1))
all_at test (y ∷ ys) x all (zero, within, is) = ap test (sym is) ∙ (and_parts (test y) _ all).0
all_at test (y ∷ ys) x all (suc k, within, is) = all_at test ys x (and_parts (test y) _ all).1 (k, omega arith, is)

same_row : {A : Type 0} (row : Node × A) (n : Node) (a : A) → row.0 ≡ n → row.1 ≡ a → ◌≡◌ {A = Node × A} row (n, a)
same_row row n a one two = λ i. (one i, two i)

row_by : {A : Type 0} (b : Bool) (row : Node × A) (rows : List (Node × A)) (n : Node) (a : A) → (b ≡ true → row.0 ≡ n)
    → (value_in rows n ≡ Some a → Contains rows (n, a)) → (if b then Some row.1 else value_in rows n) ≡ Some a → Contains (row ∷ rows) (n, a)
row_by true row rows n a same rest found = (0, omega arith, same_row row n a (same refl) (same_Some row.1 a found))
row_by false row rows n a same rest found = let later = rest found in (suc later.0, omega (arith, later.1), later.2)

-- an abstract state that is found stands in a row of the node
pub row_in : {A : Type 0} (rows : List (Node × A)) (n : Node) (a : A) → value_in rows n ≡ Some a → Contains rows (n, a)
unfolding value_in
row_in [] n a found = absurd (none-some a found)
row_in (row ∷ rows) n a found = row_by (same_node row.0 n) row rows n a (same_is row.0 n) (row_in rows n a) found

number_by : {A : Type 0} (node : Node × A → FlowNode) (P : FlowNode → Type 0) (b : Bool) (row : Node × A) (rows : List (Node × A)) (n : Node) (a : A) → (b ≡ true → row.0 ≡ n)
    → (value_in rows n ≡ Some a → Has (map node rows) (number_in rows n) P) → (if b then Some row.1 else value_in rows n) ≡ Some a → P (node (n, a))
    → Has (map node (row ∷ rows)) (if b then 0 else suc (number_in rows n)) P
number_by node P true row rows n a same rest found holds = subst P (ap node (sym (same_row row n a (same refl) (same_Some row.1 a found)))) holds
number_by node P false row rows n a same rest found holds = rest found

-- the graph's node of a row
pub number_has : {A : Type 0} (node : Node × A → FlowNode) (P : FlowNode → Type 0) (rows : List (Node × A)) (n : Node) (a : A) → value_in rows n ≡ Some a → P (node (n, a)) → Has (map node rows) (number_in rows n) P
unfolding value_in number_in
number_has node P [] n a found holds = absurd (none-some a found)
number_has node P (row ∷ rows) n a found holds =
    number_by node P (same_node row.0 n) row rows n a (same_is row.0 n) (λ later. number_has node P rows n a later holds) found holds

-- -- Closed and quiet

above_is : {A : Type 0} (is_below : A → A → Bool) (found : Option A) (a : A) → is_above is_below found a ≡ true → (b : A) × (found ≡ Some b) × (is_below a b ≡ true)
above_is is_below None a above = absurd (not_both false above refl)
above_is is_below (Some b) a above = (b, refl, above)

module _ (m : Machine) (v : Map) (t : Table v) (kept : IsKept v t) where
  -- an abstract state of the map above another
  pub there_above : (n : Node) (a : v.Abs) → has_above v t (n, a) ≡ true → (b : v.Abs) × (v.value n ≡ Some b) × v.Below a b
  there_above n a above =
      let found = above_is t.is_below (value_in t.rows n) a above in
      (found.0, kept.values n ∙ found.1, kept.below a found.0 found.2)

  pub tables_are_clean : is_closed v t m.entry ≡ true → is_quiet v t ≡ true → IsClean m v
  tables_are_clean closed quiet =
      let both = and_parts (has_above v t (entry_node m.entry, v.initial)) _ closed in
      let entry = there_above (entry_node m.entry) v.initial both.0 in
      record {
        entry = entry.0;
        entry_is = entry.1;
        entry_below = entry.2;
        closed = λ n to a next is comes.
            let row = row_in t.rows n a (sym (kept.values n) ∙ is) in
            let rows = all_at (λ row. list_all (has_above v t) (t.successors row.0 row.1)) t.rows (n, a) both.1 row in
            there_above to next (all_at (has_above v t) (t.successors n a) (to, next) rows (kept.successors n to a next is comes));
        quiet = λ n a is. not-true (v.is_warned n) (all_at (λ row. not (v.is_warned row.0)) t.rows (n, a) quiet (row_in t.rows n a (sym (kept.values n) ∙ is)));
        canonical = kept.canonical;
      }

  -- what a node of the table gives its node of the graph
  pub has_row : (P : FlowNode → Type 0) (n : Node) (a : v.Abs) → v.value n ≡ Some a → P (t.flow n a) → Has v.graph (v.number n) P
  has_row P n a is holds =
      subst (λ g. Has g (v.number n) P) (sym kept.graph)
      (subst (λ k. Has (map (λ row. t.flow row.0 row.1) t.rows) k P) (sym (kept.numbers n))
      (number_has (λ row. t.flow row.0 row.1) P t.rows n a (sym (kept.values n) ∙ is) holds))

  pub tables_have_graphs : IsFlow m v t → IsGraphOf m v
  tables_have_graphs flow = record {
    stands = λ n a is. has_row (λ node. node.at ≡ n.at) n a is (flow.at n a is);
    steps = λ n to a b next is comes there.
        subst (λ k. Has v.graph (v.number n) (λ node. Contains node.next k)) (sym (kept.numbers to))
        (has_row (λ node. Contains node.next (number_in t.rows to)) n a is (flow.next n to a b next is (kept.successors n to a next is comes) there));
    branches = λ o comes branch. has_row (λ node. IsTrue node.branch) (here v o.before) comes.ready.value comes.ready.has_value (flow.branch o comes.ready.value comes comes.ready.has_value branch);
    ends = λ o comes last. has_row (λ node. IsTrue node.end) (here v o.before) comes.ready.value comes.ready.has_value (flow.end o comes.ready.value comes comes.ready.has_value last);
  }
