-- Changes whose values have the one form leave a state in the form that the analysis keeps.
use Rattle.std.proofs.Common.{◌≡◌, ℕ, Bool, List, [], ◌∷◌, ◌++◌, Option, Some, None, refl, sym, subst}
use Rattle.std.proofs.lemmas.Bool.{cond_both}
use Rattle.image_map.specs.declared.image.Image.{Image}
use Rattle.image_map.specs.declared.region.Cell.{Cell}
use Rattle.ia32_semantics.proofs.EffectLemmas.{put_all}
use Rattle.alocs.specs.Cells.{Division}
use Rattle.vset.specs.declared.facts.CmpFact.{CmpFact}
use Rattle.vset.specs.declared.part.Part.{Part}
use Rattle.vset.specs.Values.{Values, CanonicalValues}
use Rattle.abs_semantics.specs.declared.parts.RangeValue.{RangeValue}
use Rattle.abs_semantics.specs.States.{AbsState, HasCanonical}
use Rattle.abs_semantics.specs.Joins.{same_fact, fact_of}
use Rattle.abs_semantics.specs.Resolve.{resolve}
use Rattle.abs_semantics.specs.Touching.{touches, any_touches, sure_place}
use Rattle.abs_semantics.specs.Accesses.{sure_entries, lasts, untouched_fact, may_change, overwritten_anywhere, written_by, written_to, write}
use Rattle.abs_semantics.specs.Ranges.{range_written_by, range_written_to, write_range}
use Rattle.abs_semantics.specs.Operands.{is_register, fact_without, with_part_value, with_register}
use Rattle.abs_semantics.proofs.FormLemmas.{writes_keep_form, range_writes_keep_form}
use Rattle.abs_steps.specs.Effects.{AbsEffect, puts, turns, frees, steers, saves, fills, learns, done, all_done}
use Rattle.ia32_semantics.specs.Effects.{Part as RegisterPart}
use Rattle.step_soundness.proofs.SinceLaws.{part_form}
use Rattle.call_soundness.specs.Maps.{IsOfOne, IsUnaligned, HasForm}
use Rattle.state_forms.specs.Formed.{IsFormedEffect, AreFormedEffects}

-- -- What is remembered of a comparison

untouched_one : (touched : Cell → Bool) (o : Option CmpFact) → IsOfOne o → IsOfOne (untouched_fact touched o)
untouched_one touched None one = tt
untouched_one touched (Some f) one = cond_both (lasts touched f.place) (Some f) None IsOfOne (λ _. one) (λ _. tt)

without_one : (n : ℕ) (o : Option CmpFact) → IsOfOne o → IsOfOne (fact_without n o)
without_one n None one = tt
without_one n (Some f) one = cond_both (is_register n f.place) None (Some f) IsOfOne (λ _. tt) (λ _. one)

pub both_one : (o p : Option CmpFact) → IsOfOne o → IsOfOne (fact_of o p)
both_one None p one = tt
both_one (Some f) None one = tt
both_one (Some f) (Some g) one = cond_both (same_fact f g) (Some f) None IsOfOne (λ _. one) (λ _. tt)

-- -- Writes

-- what a write to memory leaves of the rest
abbrev Keeps : AbsState → AbsState → Type 0
Keeps a b = (IsOfOne a.fact → IsOfOne b.fact) × (b.aligns ≡ a.aligns)

module _ (image : Image) (a : AbsState) where
  anywhere_keeps : Keeps a (overwritten_anywhere image a)
  anywhere_keeps = (untouched_one (may_change image) a.fact, refl)

  module _ (d : Division) (p len : ℕ) where
    by_keeps : (w : Values) (xs : List Part) (o : Option Part) → Keeps a (written_by image a d len w xs o)
    by_keeps w xs (Some x) = (untouched_one (λ c. touches len c x) a.fact, refl)
    by_keeps w xs None = (untouched_one (any_touches len xs) a.fact, refl)

    to_keeps : (w : Values) (o : Option (List Part)) → Keeps a (written_to image a d len w o)
    to_keeps w None = anywhere_keeps
    to_keeps w (Some xs) = by_keeps w xs (sure_place xs)

    range_by_keeps : (w : RangeValue) (xs : List Part) (o : Option Part) → Keeps a (range_written_by image a d p len w xs o)
    range_by_keeps w xs (Some x) = (untouched_one (λ c. touches len c x) a.fact, refl)
    range_by_keeps w xs None = (untouched_one (any_touches len xs) a.fact, refl)

    range_to_keeps : (w : RangeValue) (o : Option (List Part)) → Keeps a (range_written_to image a d p len w o)
    range_to_keeps w None = anywhere_keeps
    range_to_keeps w (Some xs) = range_by_keeps w xs (sure_place xs)

  write_keeps : (d : Division) (p : ℕ) (v : Values) (len : ℕ) (w : Values) → Keeps a (write a d image p v len w)
  unfolding write
  write_keeps d p v len w = to_keeps d p len w (sure_entries (resolve a p v len))

  range_keeps : (d : Division) (p : ℕ) (v : Values) (o : Option ℕ) (w : RangeValue) → Keeps a (write_range a d image p v o w)
  unfolding write_range
  range_keeps d p v None w = anywhere_keeps
  range_keeps d p v (Some len) w = range_to_keeps d p len w (sure_entries (resolve a p v len))

-- -- Registers

pub register_formed : (a : AbsState) (part : RegisterPart) (n : ℕ) (v : Values) → HasForm a → CanonicalValues v → HasForm (with_register a part n v)
register_formed a part n v form fv =
    record {
      canonical = record {
        registers = put_all (λ k w. CanonicalValues w) a.registers n (with_part_value part (a.registers n) v) (part_form (a.registers n) v fv part) form.canonical.registers;
        cells = form.canonical.cells;
        links = form.canonical.links;
      };
      fact = without_one n a.fact form.fact;
      unaligned = form.unaligned;
    }

-- -- One change and many

module _ (d : Division) (image : Image) (p : ℕ) where
  same_canonical : (a : AbsState) → HasForm a → (f : ℕ → Bool → Bool) (o : Option CmpFact) → IsOfOne o → HasForm (record a { flags = f; fact = o })
  same_canonical a form f o one =
      record { canonical = record { registers = form.canonical.registers; cells = form.canonical.cells; links = form.canonical.links }; fact = one; unaligned = form.unaligned }

  kept_formed : (a b : AbsState) → HasForm a → HasCanonical b → Keeps a b → HasForm b
  kept_formed a b form canonical keeps = record { canonical = canonical; fact = keeps.0 form.fact; unaligned = subst IsUnaligned (sym keeps.1) form.unaligned }

  pub done_formed : (a : AbsState) (e : AbsEffect) → HasForm a → IsFormedEffect e → HasForm (done d image p e a)
  done_formed a (puts part n v) form formed = register_formed a part n v form formed
  done_formed a (turns f) form formed = same_canonical a form _ None tt
  done_formed a frees form formed = same_canonical a form _ None tt
  done_formed a (steers set) form formed = same_canonical a form _ None tt
  done_formed a (saves at len v) form formed = kept_formed a (write a d image p at len v) form (writes_keep_form image a d p at len v form.canonical formed) (write_keeps image a d p at len v)
  done_formed a (fills at len v) form formed = kept_formed a (write_range a d image p at len v) form (range_writes_keep_form image a d p at len v form.canonical) (range_keeps image a d p at len v)
  done_formed a (learns f) form formed = same_canonical a form a.flags (Some f) formed

  pub all_formed : (es : List AbsEffect) (a : AbsState) → HasForm a → AreFormedEffects es → HasForm (all_done d image p es a)
  all_formed [] a form formed = form
  all_formed (e ∷ es) a form formed = all_formed es (done d image p e a) (done_formed a e form formed.0) formed.1

pub effects_both : (es fs : List AbsEffect) → AreFormedEffects es → AreFormedEffects fs → AreFormedEffects (es ++ fs)
effects_both [] fs first second = second
effects_both (e ∷ es) fs first second = (first.0, effects_both es fs first.1 second)
