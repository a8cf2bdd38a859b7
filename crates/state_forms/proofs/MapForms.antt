-- Each state of a map that the sweeps give has the form that the analysis keeps.
use Rattle.std.proofs.Common.{◌≡◌, ℕ, zero, suc, List, [], ◌∷◌, map, get_or, Option, Some, subst}
use Rattle.std.specs.List.{AllByRecursion}
use Rattle.std.proofs.lemmas.Bool.{cond_both}
use Rattle.std.proofs.lemmas.Option.{none-some, same_Some}
use Rattle.call_strings.specs.declared.context.Node.{Node}
use Rattle.call_strings.specs.Nodes.{same_node}
use Rattle.vset.specs.Values.{Values, Top, CanonicalValues}
use Rattle.abs_semantics.specs.States.{AbsState}
use Rattle.abs_semantics.specs.Below.{register_numbers}
use Rattle.abs_semantics.specs.Joins.{joined_state, widened_state}
use Rattle.abs_semantics.specs.Start.{initial_state}
use Rattle.abs_steps.specs.Successors.{Placed, successors}
use Rattle.sweeps.specs.declared.row.Row.{Row}
use Rattle.sweeps.specs.Sweeps.{entry_of}
use Rattle.vsa.specs.Analysis.{Analysis, meaning_of, placed_of, states_of}
use Rattle.vsa.specs.Closed.{entry_node}
use Rattle.vsa.specs.Swept.{first_table, analysed, placed_in}
use Rattle.vsa.specs.Tables.{Table, table_of, state_of}
use Rattle.vsa.specs.Topped.{topped}
use Rattle.vsa.specs.Views.{tables_of}
use Rattle.call_soundness.specs.Maps.{HasForm, state_in}
use Rattle.state_forms.specs.Kept.{IsPreserved}
use Rattle.state_forms.specs.Images.{HasBytes}
use Rattle.state_forms.specs.Formed.{ArePlacedFormed}
use Rattle.state_forms.proofs.JoinForms.{joined_formed, widened_formed, topped_formed}
use Rattle.state_forms.proofs.StartForms.{initial_formed}
use Rattle.state_forms.proofs.StepForms.{successors_formed}
use Rattle.state_forms.proofs.SweepForms.{swept_held}

-- -- Tables

listed_form : (f : ℕ → Values) → ((n : ℕ) → CanonicalValues (f n)) → (ns : List ℕ) (n : ℕ) → CanonicalValues (get_or (map f ns) n Top)
listed_form f forms [] n = tt
listed_form f forms (k ∷ ns) zero = forms k
listed_form f forms (k ∷ ns) (suc n) = listed_form f forms ns n

table_formed : (a : AbsState) → HasForm a → HasForm (state_of (table_of a))
table_formed a form =
    record {
      canonical = record { registers = listed_form a.registers form.canonical.registers register_numbers; cells = form.canonical.cells; links = form.canonical.links };
      fact = form.fact;
      unaligned = form.unaligned;
    }

tables_formed : (ps : List Placed) → ArePlacedFormed ps → AllByRecursion (λ (e : Node × Table). HasForm (state_of e.1)) (tables_of ps)
tables_formed [] forms = tt
tables_formed (p ∷ ps) forms = (table_formed p.state forms.0, tables_formed ps forms.1)

-- -- Maps

module _ (x : Analysis) (bytes : HasBytes x.image) where
  abbrev Holds : Table → Type 0
  Holds t = HasForm (state_of t)

  forms_preserved : IsPreserved (meaning_of x) Holds
  forms_preserved =
      record {
        joins = λ s t first second. table_formed (joined_state (state_of s) (state_of t)) (joined_formed (state_of s) (state_of t) first second);
        widens = λ old new first second. table_formed (widened_state (state_of old) (state_of new)) (widened_formed (state_of old) (state_of new) first second);
        tops = λ old new first second. table_formed (topped (state_of old) (state_of new)) (topped_formed (state_of old) (state_of new) first second);
        steps = λ n t others form. tables_formed (successors x.image x.settings (states_of x others) n (state_of t)) (successors_formed x.image x.settings (states_of x others) n (state_of t) form bytes);
      }

  rows_formed : (rows : List (Row Node Table)) → AllByRecursion (λ (r : Row Node Table). Holds r.state) rows → ArePlacedFormed (placed_of (map entry_of rows))
  rows_formed [] forms = tt
  rows_formed (r ∷ rows) forms = (forms.0, rows_formed rows forms.1)

  pub map_formed : ArePlacedFormed (placed_in (analysed x))
  unfolding analysed
  map_formed =
      rows_formed _ (swept_held (meaning_of x) Holds forms_preserved (entry_node x.settings.entry) (first_table x) (table_formed (initial_state x.image x.cells x.settings.entry) (initial_formed x.image bytes x.cells x.settings.entry)) 4096)

-- a state that stands at a node is one of these
pub state_formed : (ps : List Placed) → ArePlacedFormed ps → (n : Node) (a : AbsState) → state_in n ps ≡ Some a → HasForm a
state_formed [] forms n a e = absurd (none-some a e)
state_formed (p ∷ ps) forms n a e =
    cond_both (same_node p.node n) (Some p.state) (state_in n ps) (λ (o : Option AbsState). o ≡ Some a → HasForm a) (λ _ f. subst HasForm (same_Some p.state a f) forms.0) (λ _ f. state_formed ps forms.1 n a f) e
