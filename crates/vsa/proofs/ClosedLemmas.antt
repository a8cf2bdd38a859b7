-- A table is closed where the map is that it stands for.
use Rattle.std.proofs.Common.{◌≡◌, ◌&&◌, not, Bool, true, false, cond, List, [], ◌∷◌, refl, ap, sym, subst, ◌∙◌}
use Rattle.std.specs.List.{list_all, flat_map, filter}
use Rattle.std.proofs.lemmas.Bool.{and_parts, not-true}
use Rattle.std.proofs.lemmas.List.Folds.{list_all-append}
use Rattle.std.specs.Cmp.{IsEquivalence}
use Rattle.std.proofs.lemmas.Cmp.{on_equiv, nat_list_eq_equiv}
use Rattle.item_list.proofs.TruthLaws.{same_test}
use Rattle.call_strings.specs.declared.context.Node.{Node}
use Rattle.call_strings.specs.Nodes.{same_node, node_before, numbers_of}
use Rattle.call_strings.specs.NodeKeys.{same_is}
use Rattle.abs_semantics.specs.States.{AbsState}
use Rattle.abs_semantics.specs.Below.{state_below}
use Rattle.abs_semantics.specs.Start.{initial_state}
use Rattle.abs_steps.specs.Successors.{Placed, at_node, successors}
use Rattle.sweeps.specs.Sweeps.{is_same_place, successors_of, has_above as table_has_above, is_closed as is_table_closed}
use Rattle.vsa.specs.Tables.{Table, table_of, state_of}
use Rattle.vsa.specs.Views.{tables_of}
use Rattle.vsa.specs.Analysis.{Analysis, meaning_of, may_return_to, placed_of, states_of}
use Rattle.vsa.specs.Closed.{entry_node, has_above, goes_within, is_closed}
use Rattle.vsa.specs.Swept.{first_table}
use Rattle.vsa.specs.NodeOrder.{nodes_irreflexive, nodes_total}
use Rattle.vsa.proofs.LookLemmas.{looks_near}

module _ (x : Analysis) where
  node_itself : (n : Node) → same_node n n ≡ true
  node_itself n = let equiv : IsEquivalence same_node = on_equiv numbers_of nat_list_eq_equiv in equiv.refl n

  same_place : (a b : Node) → is_same_place (meaning_of x) a b ≡ same_node b a
  same_place a b = same_test (is_same_place (meaning_of x) a b) (same_node b a) forth back
    where
      forth : is_same_place (meaning_of x) a b ≡ true → same_node b a ≡ true
      forth e =
          let both = and_parts (not (node_before a b)) (not (node_before b a)) e in
          let equal : a ≡ b = nodes_total a b (not-true (node_before a b) both.0) (not-true (node_before b a) both.1) in
          subst (λ c. same_node b c ≡ true) (sym equal) (node_itself b)

      back : same_node b a ≡ true → is_same_place (meaning_of x) a b ≡ true
      back e =
          let equal : b ≡ a = same_is b a e in
          subst (λ c. is_same_place (meaning_of x) a c ≡ true) (sym equal) (λ i. not (nodes_irreflexive a i) && not (nodes_irreflexive a i))

  above_told : (rows : List (Node × Table)) (n : Node) (a : AbsState) → table_has_above (meaning_of x) rows (n, table_of a) ≡ has_above (placed_of rows) (at_node n a)
  unfolding table_has_above has_above
  above_told [] n a = refl
  above_told (r ∷ rows) n a =
      (λ i. cond (same_place n r.0 i) (state_below a (state_of r.1)) (table_has_above (meaning_of x) rows (n, table_of a)))
      ∙ ap (λ t. cond (same_node r.0 n) (state_below a (state_of r.1)) t) (above_told rows n a)

  all_above : (rows : List (Node × Table)) (ps : List Placed) → list_all (table_has_above (meaning_of x) rows) (tables_of ps) ≡ list_all (has_above (placed_of rows)) ps
  all_above rows [] = refl
  all_above rows (p ∷ ps) = λ i. above_told rows p.node p.state i && all_above rows ps i

  all_within : (rows es : List (Node × Table)) → list_all (table_has_above (meaning_of x) rows) (flat_map (successors_of (meaning_of x) rows) es) ≡ list_all (goes_within x.image x.settings (states_of x rows)) (placed_of es)
  all_within rows [] = refl
  all_within rows (e ∷ es) =
      list_all-append (table_has_above (meaning_of x) rows) (successors_of (meaning_of x) rows e) (flat_map (successors_of (meaning_of x) rows) es)
      ∙ (λ i. one i && all_within rows es i)
    where
      one : list_all (table_has_above (meaning_of x) rows) (successors_of (meaning_of x) rows e) ≡ goes_within x.image x.settings (states_of x rows) (at_node e.0 (state_of e.1))
      one =
          all_above rows (successors x.image x.settings (states_of x (filter (λ o. may_return_to x e.0 o.0) rows)) e.0 (state_of e.1))
          ∙ ap (list_all (has_above (placed_of rows))) (sym (looks_near x e.0 rows (state_of e.1)))

  pub closed_told : (rows : List (Node × Table)) → is_table_closed (meaning_of x) (entry_node x.settings.entry) (first_table x) rows ≡ is_closed x.image x.settings (states_of x rows)
  unfolding is_table_closed is_closed
  closed_told rows = λ i. above_told rows (entry_node x.settings.entry) (initial_state x.image x.cells x.settings.entry) i && all_within rows rows i
