-- Warnings that are put among others one by one.
use Rattle.std.proofs.Common.{◌≡◌, ℕ, ◌+◌, ◌<◌, ◌≤◌, ◌||◌, true, false, not, List, ◌∷◌, length, map, drop, get_or, sym, ◌∙◌, ap, subst}
use Rattle.std.specs.Prelude.{set}
use Rattle.std.specs.List.{fold, flat_map, insert, position_or_len}
use Rattle.std.proofs.lemmas.List.{drop_all}
use Rattle.std.proofs.lemmas.List.Sums.{fold-append}
use Rattle.cell_map.proofs.ListLemmas.{more}
use Rattle.abs_state.specs.declared.state.AbsState.{AbsState as Held}
use Rattle.abs_state.specs.Views.{seen}
use Rattle.abs_state.proofs.PutLemmas.{IsStop, is_stop, put_over, put_new, within}
use Rattle.abs_steps.specs.Successors.{Placed, at_node}
use Rattle.call_strings.specs.declared.context.Node.{Node}
use Rattle.vsa.specs.declared.warning.Warning.{Warning}
use Rattle.vsa.specs.Views.{placed_with}
use Rattle.vsa.specs.Warned.{same_warning, warning_before, with_warning}

module _ (w d : Warning) (i : ℕ) (ws : List Warning) (is : i ≡ position_or_len (λ x. same_warning x w || not (warning_before x w)) ws) where
  warning_stop : IsStop (λ x. same_warning x w) (λ x. warning_before x w) (λ x. w) w i ws
  warning_stop = subst (λ n. IsStop (λ x. same_warning x w) (λ x. warning_before x w) (λ x. w) w n ws) (sym is) (is_stop (λ x. same_warning x w) (λ x. warning_before x w) (λ x. w) w ws)

  pub warning_within : i ≤ length ws
  warning_within = subst (λ n. n ≤ length ws) (sym is) (within (λ x. same_warning x w) (λ x. warning_before x w) (λ x. w) w ws)

  pub warning_there : i < length ws → same_warning (get_or ws i d) w ≡ true → set ws i w ≡ with_warning ws w
  warning_there lt same = sym (put_over (λ x. same_warning x w) (λ x. warning_before x w) (λ x. w) w d ws i warning_stop lt same)

  pub warning_new : (i < length ws → same_warning (get_or ws i d) w ≡ false) → insert ws i w ≡ with_warning ws w
  warning_new other = sym (put_new (λ x. same_warning x w) (λ x. warning_before x w) (λ x. w) w d ws i warning_stop warning_within other)

-- -- Loops

pub names_step : {A B C : Type 0} (g : A → C → A) (f : B → C) (xs : List B) (i : ℕ) (x : B) (out next whole : A) → i < length xs → x ≡ get_or xs i x → next ≡ g out (f x)
    → fold g out (map f (drop i xs)) ≡ whole → fold g next (map f (drop (i + 1) xs)) ≡ whole
names_step g f xs i x out next whole lt here put h = ap (λ a. fold g a (map f (drop (i + 1) xs))) put ∙ ap (λ t. fold g out (map f t)) (sym (more xs i x lt here)) ∙ h

pub names_end : {A B C : Type 0} (g : A → C → A) (f : B → C) (xs : List B) (i : ℕ) (out whole : A) → length xs ≤ i → fold g out (map f (drop i xs)) ≡ whole → out ≡ whole
names_end g f xs i out whole le h = ap (λ t. fold g out (map f t)) (sym (drop_all i xs le)) ∙ h

module _ (told : Placed → List Warning) (nodes : List Node) (values : List Held) (i : ℕ) where
  pub nodes_step : (n : Node) (a : Held) (out next whole : List Warning) → i < length nodes → i < length values → n ≡ get_or nodes i n → a ≡ get_or values i a → next ≡ fold with_warning out (told (at_node n (seen a)))
      → fold with_warning out (flat_map told (placed_with (drop i nodes) (drop i values))) ≡ whole → fold with_warning next (flat_map told (placed_with (drop (i + 1) nodes) (drop (i + 1) values))) ≡ whole
  nodes_step n a out next whole ln la here there put h =
      let rest = flat_map told (placed_with (drop (i + 1) nodes) (drop (i + 1) values)) in
      ap (λ t. fold with_warning t rest) put ∙ sym (fold-append with_warning out (told (at_node n (seen a))) rest)
      ∙ ap (λ t. fold with_warning out (flat_map told (placed_with t (a ∷ drop (i + 1) values)))) (sym (more nodes i n ln here))
      ∙ ap (λ t. fold with_warning out (flat_map told (placed_with (drop i nodes) t))) (sym (more values i a la there))
      ∙ h

  pub nodes_end : (out whole : List Warning) → length nodes ≤ i → fold with_warning out (flat_map told (placed_with (drop i nodes) (drop i values))) ≡ whole → out ≡ whole
  nodes_end out whole le h = ap (λ t. fold with_warning out (flat_map told (placed_with t (drop i values)))) (sym (drop_all i nodes le)) ∙ h
