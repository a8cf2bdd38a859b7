-- A map in which the check finds nothing is clean.
use Rattle.std.proofs.Common.{◌≡◌, ◌&&◌, not, Bool, true, false, cond, List, [], ◌∷◌, Some, refl, sym, ap, subst, ◌∙◌}
use Rattle.std.specs.List.{list_all, AllByRecursion}
use Rattle.std.proofs.lemmas.Bool.{and_from}
use Rattle.image_map.specs.declared.image.Image.{Image}
use Rattle.image_map.specs.declared.region.Settings.{Settings}
use Rattle.ia32_semantics.specs.Ia32.{machine}
use Rattle.call_strings.specs.declared.context.Node.{Node}
use Rattle.call_strings.specs.Nodes.{same_node}
use Rattle.call_strings.specs.NodeKeys.{same_is}
use Rattle.abs_semantics.specs.Below.{state_below}
use Rattle.abs_semantics.specs.Start.{initial_state}
use Rattle.abs_steps.specs.Places.{content_at}
use Rattle.abs_steps.specs.Rows.{view_of}
use Rattle.abs_steps.specs.Successors.{Placed, States, at_node, successors}
use Rattle.abs_steps.specs.Warnings.{warnings}
use Rattle.slice_soundness.specs.Nodes.{entry_node}
use Rattle.slice_soundness.specs.Premises.{IsClean}
use Rattle.call_soundness.specs.Maps.{is_empty, state_in, warned_by}
use Rattle.vsa.specs.Closed as check
use Rattle.vsa.specs.Laws.{node_warnings, IsClean as IsChecked}
use Rattle.vsa.specs.Warned.{map_warnings}
use Rattle.vsa.proofs.CleanLemmas.{clean_without_warning}
use Rattle.graph_soundness.specs.Checks.{is_above, has_above, is_closed, HaveForms}
use Rattle.graph_soundness.specs.Drawn.{map_drawn}
use Rattle.graph_soundness.proofs.CheckLaws.{clean_is}

-- -- Closed maps

above_same : (ps : List Placed) (p : Placed) → check.has_above ps p ≡ is_above (state_in p.node ps) p.state
unfolding check.has_above
above_same [] p = refl
above_same (q ∷ qs) p = by (same_node q.node p.node) (above_same qs p)
  where
    by : (b : Bool) → check.has_above qs p ≡ is_above (state_in p.node qs) p.state → cond b (state_below p.state q.state) (check.has_above qs p) ≡ is_above (cond b (Some q.state) (state_in p.node qs)) p.state
    by true rest = refl
    by false rest = rest

all_same : {A : Type 0} (f g : A → Bool) → ((x : A) → f x ≡ g x) → (xs : List A) → list_all f xs ≡ list_all g xs
all_same f g same [] = refl
all_same f g same (x ∷ xs) = λ i. same x i && all_same f g same xs i

pub closed_same : (image : Image) (settings : Settings) (states : States) → check.is_closed image settings states ≡ is_closed image settings states
unfolding check.is_closed
closed_same image settings states =
    λ i. above_same states.placed (at_node (entry_node settings.entry) (initial_state image states.cells settings.entry)) i
    && all_same (check.goes_within image settings states) (λ (p : Placed). list_all (has_above states) (successors image settings states p.node p.state))
    (λ p. all_same (check.has_above states.placed) (has_above states) (above_same states.placed) (successors image settings states p.node p.state)) states.placed i

-- -- Maps without warnings

module _ (image : Image) (settings : Settings) (states : States) where
  none_warned : (n : Node) (ps : List Placed) → AllByRecursion (λ p. node_warnings image settings states p ≡ []) ps → warned_by image settings states n (state_in n ps) ≡ false
  none_warned n [] quiet = refl
  none_warned n (x ∷ xs) quiet = by (same_node x.node n) refl (none_warned n xs quiet.1)
    where
      by : (b : Bool) → same_node x.node n ≡ b → warned_by image settings states n (state_in n xs) ≡ false → warned_by image settings states n (cond b (Some x.state) (state_in n xs)) ≡ false
      by true same rest =
          subst (λ (m : Node). not (is_empty (warnings (content_at image settings m.at) image (view_of x.state states.cells m.context.proc))) ≡ false) (same_is x.node n same)
          (ap (λ ws. not (is_empty ws)) quiet.0)
      by false same rest = rest

  all_quiet : (ps : List Placed) → AllByRecursion (λ p. node_warnings image settings states p ≡ []) states.placed
      → list_all (λ (p : Placed). not (warned_by image settings states p.node (state_in p.node states.placed))) ps ≡ true
  all_quiet [] quiet = refl
  all_quiet (p ∷ ps) quiet =
      and_from (not (warned_by image settings states p.node (state_in p.node states.placed))) (list_all (λ (q : Placed). not (warned_by image settings states q.node (state_in q.node states.placed))) ps)
      (ap not (none_warned p.node states.placed quiet)) (all_quiet ps quiet)

  pub clean_unwarned : (full : Bool) → map_warnings image settings states full ≡ [] → HaveForms states → IsClean (machine image settings) (map_drawn image settings states)
  clean_unwarned full none forms =
      let checked : IsChecked image settings states full = clean_without_warning image settings states full none in
      clean_is image settings states (sym (closed_same image settings states) ∙ checked.closed) (all_quiet states.placed checked.quiet) forms
