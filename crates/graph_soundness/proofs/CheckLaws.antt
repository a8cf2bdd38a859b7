-- A map whose check passes is clean.
use Rattle.std.proofs.Common.{◌≡◌, inl, inr, ℕ, zero, suc, Bool, true, not, List, [], ◌∷◌, Option, Some, None, refl, sym, subst, ◌∙◌}
use Rattle.std.specs.Prelude.{slice_get}
use Rattle.std.specs.List.{list_all}
use Rattle.std.proofs.lemmas.Bool.{false≢true, and_parts, not-true}
use Rattle.std.proofs.lemmas.Option.{none-some, same_Some}
use Rattle.image_map.specs.declared.image.Image.{Image}
use Rattle.image_map.specs.declared.region.Settings.{Settings}
use Rattle.ia32_semantics.specs.Ia32.{machine}
use Rattle.abs_semantics.specs.Below.{state_below}
use Rattle.abs_semantics.specs.Start.{initial_state}
use Rattle.abs_semantics.specs.States.{AbsState}
use Rattle.abs_steps.specs.Successors.{Placed, States, at_node, successors}
use Rattle.slice_soundness.specs.Nodes.{entry_node}
use Rattle.slice_soundness.specs.Premises.{IsClean}
use Rattle.call_soundness.specs.Maps.{IsListed, state_in, warned_by}
use Rattle.graph_soundness.specs.Checks.{is_above, has_above, is_closed, is_quiet, HaveForms}
use Rattle.graph_soundness.specs.Drawn.{map_drawn, number_in}
use Rattle.graph_soundness.proofs.GraphLaws.{row_there}

all_at : {A : Type 0} (test : A → Bool) (xs : List A) (k : ℕ) (x : A) → list_all test xs ≡ true → slice_get xs k ≡ Some x → test x ≡ true
all_at test [] k x all e = absurd (none-some x e)
all_at test (y ∷ ys) zero x all e = subst (λ z. test z ≡ true) (same_Some y x e) (and_parts (test y) (list_all test ys) all).0
all_at test (y ∷ ys) (suc k) x all e = all_at test ys k x (and_parts (test y) (list_all test ys) all).1 e

all_listed : {A : Type 0} (test : A → Bool) (xs : List A) (x : A) → list_all test xs ≡ true → IsListed x xs → test x ≡ true
all_listed test [] x all h = absurd h
all_listed test (y ∷ ys) x all (inl e) = subst (λ z. test z ≡ true) e (and_parts (test y) (list_all test ys) all).0
all_listed test (y ∷ ys) x all (inr h) = all_listed test ys x (and_parts (test y) (list_all test ys) all).1 h

above_is : (found : Option AbsState) (a : AbsState) → is_above found a ≡ true → (b : AbsState) × (found ≡ Some b) × (state_below a b ≡ true)
above_is None a e = absurd (false≢true e)
above_is (Some b) a e = (b, refl, e)

pub clean_is : (image : Image) (settings : Settings) (states : States) → is_closed image settings states ≡ true → is_quiet image settings states ≡ true → HaveForms states
    → IsClean (machine image settings) (map_drawn image settings states)
clean_is image settings states closed quiet forms =
    let both = and_parts (has_above states (at_node (entry_node settings.entry) (initial_state image states.cells settings.entry)))
    (list_all (λ (p : Placed). list_all (has_above states) (successors image settings states p.node p.state)) states.placed) closed in
    let entry = above_is (state_in (entry_node settings.entry) states.placed) (initial_state image states.cells settings.entry) both.0 in
    record {
      entry = entry.0;
      entry_is = entry.1;
      entry_below = entry.2;
      closed = λ n to a next e leads.
          let same : leads.state ≡ a = same_Some leads.state a (sym leads.has_state ∙ e) in
          let listed : IsListed (at_node to next) (successors image settings states n a) = subst (λ s. IsListed (at_node to next) (successors image settings states n s)) same leads.listed in
          let row = all_at (λ (p : Placed). list_all (has_above states) (successors image settings states p.node p.state)) states.placed (number_in states.placed n) (at_node n a) both.1 (row_there states.placed n a e) in
          above_is (state_in to states.placed) next (all_listed (has_above states) (successors image settings states n a) (at_node to next) row listed);
      quiet = λ n a e.
          not-true (warned_by image settings states n (state_in n states.placed))
          (all_at (λ (p : Placed). not (warned_by image settings states p.node (state_in p.node states.placed))) states.placed (number_in states.placed n) (at_node n a) quiet (row_there states.placed n a e));
      canonical = λ n a e. forms n a e;
    }
