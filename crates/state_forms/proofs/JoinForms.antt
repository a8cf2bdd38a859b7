-- States that become one have the form that the analysis keeps where all of them do.
use Rattle.std.proofs.Common.{List, [], ◌∷◌, map}
use Rattle.std.proofs.lemmas.Bool.{cond_both}
use Rattle.vset.specs.Values.{Values, Top, CanonicalValues}
use Rattle.strided.specs.Interval.{IsCanonical, full}
use Rattle.strided.proofs.MemberLemmas.{full_canonical}
use Rattle.vset.specs.Operations.{same_values}
use Rattle.abs_semantics.specs.declared.parts.Link.{Link}
use Rattle.abs_semantics.specs.States.{AbsState, LinksAreCanonical, value_at}
use Rattle.abs_semantics.specs.Joins.{joined_state, widened_state}
use Rattle.abs_semantics.proofs.CellLemmas.{value_canonical}
use Rattle.abs_semantics.proofs.FormLemmas.{rebuilt_form}
use Rattle.abs_state.proofs.FormLemmas.{joins_keep_form, widenings_keep_form}
use Rattle.vsa.specs.Topped.{topped_value, topped_cell, has_link, topped_link, has_known, topped}
use Rattle.call_soundness.specs.Maps.{HasForm}
use Rattle.state_forms.proofs.AlignForms.{joined_unaligned, left_unaligned}
use Rattle.state_forms.proofs.EffectForms.{both_one}

pub joined_formed : (a b : AbsState) → HasForm a → HasForm b → HasForm (joined_state a b)
joined_formed a b first second =
    record {
      canonical = joins_keep_form a b first.canonical second.canonical;
      fact = both_one a.fact b.fact first.fact;
      unaligned = joined_unaligned a b first.unaligned second.unaligned;
    }

pub widened_formed : (old new : AbsState) → HasForm old → HasForm new → HasForm (widened_state old new)
widened_formed old new first second =
    record { canonical = widenings_keep_form old new first.canonical second.canonical; fact = second.fact; unaligned = second.unaligned }

topped_form : (old new : Values) → CanonicalValues new → CanonicalValues (topped_value old new)
topped_form old new form = cond_both (same_values old new) new Top CanonicalValues (λ _. form) (λ _. tt)

topped_links : (old ls : List Link) → LinksAreCanonical ls → LinksAreCanonical (map (topped_link old) ls)
topped_links old [] forms = tt
topped_links old (l ∷ ls) forms =
    (cond_both (has_link old l) l (record l { off = full }) (λ (k : Link). IsCanonical k.off) (λ _. forms.0) (λ _. full_canonical), topped_links old ls forms.1)

pub topped_formed : (old new : AbsState) → HasForm old → HasForm new → HasForm (topped old new)
unfolding topped
topped_formed old new first second =
    record {
      canonical = record {
        registers = λ n. topped_form (old.registers n) (new.registers n) (second.canonical.registers n);
        cells = rebuilt_form (topped_cell old new) new.cells (λ c. topped_form (value_at old c) (value_at new c) (value_canonical c new.cells second.canonical.cells));
        links = topped_links old.links new.links second.canonical.links;
      };
      fact = both_one old.fact new.fact first.fact;
      unaligned = left_unaligned (has_known old.aligns) new.aligns second.unaligned;
    }
