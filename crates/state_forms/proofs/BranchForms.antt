-- The sides of a branch keep the form of a state.
use Rattle.std.proofs.Common.{ℕ, ◌==◌, ◌&&◌, Bool, cond, List, [], ◌∷◌, Option, Some, None, ℤ, pos, ◌+ℤ◌, ◌-ℤ◌}
use Rattle.std.specs.Prelude.{IfSome}
use Rattle.std.specs.List.{filter_map, cons_option}
use Rattle.std.specs.Ordering.{int_eq}
use Rattle.std.proofs.lemmas.Bool.{cond_both}
use Rattle.image_map.specs.declared.region.RegionId.TheVariants.{Global}
use Rattle.image_map.specs.Regions.{same_region, same_cell}
use Rattle.ia32_types.specs.Numbers.{reg_number}
use Rattle.ia32_semantics.proofs.EffectLemmas.{put_all}
use Rattle.strided.specs.Interval.{Interval, IsCanonical, least, greatest, full}
use Rattle.strided.specs.Operations.{clip}
use Rattle.strided.proofs.BoundLemmas.{clip_canonical}
use Rattle.strided.proofs.MemberLemmas.{full_canonical}
use Rattle.vset.specs.declared.facts.CmpFact.{CmpFact}
use Rattle.vset.specs.declared.facts.CmpPlace.{CmpPlace}
use Rattle.vset.specs.declared.facts.CmpPlace.TheVariants as place
use Rattle.vset.specs.declared.part.Part.{Part}
use Rattle.vset.specs.Operations.{part}
use Rattle.vset.specs.Values.{Values, Top, Parts, AreCanonical, CanonicalValues}
use Rattle.abs_alu.proofs.CanonicalLemmas.{settled_canonical}
use Rattle.abs_cmp.specs.Refine.{numbers, refined_part, refine}
use Rattle.abs_cmp.specs.Rows.{less, at_most, at_least, greater, is_natural, below, not_above, not_below, above, without_end, not_equal, is_zero, negative, not_negative, row, held}
use Rattle.abs_semantics.specs.States.{AbsState, value_at}
use Rattle.abs_semantics.specs.Accesses.{without_value}
use Rattle.abs_semantics.proofs.CellLemmas.{value_canonical}
use Rattle.abs_semantics.proofs.FormLemmas.{rebuilt_form}
use Rattle.abs_steps.specs.Flags.{may_hold}
use Rattle.abs_steps.specs.Successors.{has_member, place_value, with_place_value, narrowed, side}
use Rattle.call_soundness.specs.Maps.{HasForm}

-- -- Intervals that are cut

abbrev IsCut : Option Interval → Type 0
IsCut o = IfSome o IsCanonical

less_form : (x : Interval) (z : ℤ) → IsCanonical x → IsCut (less x z)
unfolding less
less_form x z form = cond_both (int_eq z least) None (clip x least (z -ℤ pos 1)) IsCut (λ _. tt) (λ _. clip_canonical x least (z -ℤ pos 1) form)

at_most_form : (x : Interval) (z : ℤ) → IsCanonical x → IsCut (at_most x z)
unfolding at_most
at_most_form x z form = clip_canonical x least z form

at_least_form : (x : Interval) (z : ℤ) → IsCanonical x → IsCut (at_least x z)
unfolding at_least
at_least_form x z form = clip_canonical x z greatest form

greater_form : (x : Interval) (z : ℤ) → IsCanonical x → IsCut (greater x z)
unfolding greater
greater_form x z form = cond_both (int_eq z greatest) None (clip x (z +ℤ pos 1) greatest) IsCut (λ _. tt) (λ _. clip_canonical x (z +ℤ pos 1) greatest form)

below_form : (x bound : Interval) → IsCanonical x → IsCut (below x bound)
unfolding below
below_form x bound form =
    cond_both (is_natural bound) (cond (int_eq bound.hi (pos 0)) None (clip x (pos 0) (bound.hi -ℤ pos 1))) (Some x) IsCut
    (λ _. cond_both (int_eq bound.hi (pos 0)) None (clip x (pos 0) (bound.hi -ℤ pos 1)) IsCut (λ _. tt) (λ _. clip_canonical x (pos 0) (bound.hi -ℤ pos 1) form)) (λ _. form)

not_above_form : (x bound : Interval) → IsCanonical x → IsCut (not_above x bound)
unfolding not_above
not_above_form x bound form = cond_both (is_natural bound) (clip x (pos 0) bound.hi) (Some x) IsCut (λ _. clip_canonical x (pos 0) bound.hi form) (λ _. form)

not_below_form : (x bound : Interval) → IsCanonical x → IsCut (not_below x bound)
unfolding not_below
not_below_form x bound form = cond_both (is_natural bound && is_natural x) (at_least x bound.lo) (Some x) IsCut (λ _. at_least_form x bound.lo form) (λ _. form)

above_form : (x bound : Interval) → IsCanonical x → IsCut (above x bound)
unfolding above
above_form x bound form = cond_both (is_natural bound && is_natural x) (greater x bound.lo) (Some x) IsCut (λ _. greater_form x bound.lo form) (λ _. form)

without_form : (x : Interval) (z : ℤ) → IsCanonical x → IsCut (without_end x z)
unfolding without_end
without_form x z form =
    cond_both (int_eq z x.lo) (greater x z) (cond (int_eq z x.hi) (less x z) (Some x)) IsCut (λ _. greater_form x z form) (λ _. cond_both (int_eq z x.hi) (less x z) (Some x) IsCut (λ _. less_form x z form) (λ _. form))

not_equal_form : (x bound : Interval) → IsCanonical x → IsCut (not_equal x bound)
unfolding not_equal
not_equal_form x bound form = cond_both (int_eq bound.lo bound.hi) (without_end x bound.lo) (Some x) IsCut (λ _. without_form x bound.lo form) (λ _. form)

negative_form : (x bound : Interval) → IsCanonical x → IsCut (negative x bound)
unfolding negative
negative_form x bound form = cond_both (is_zero bound) (less x (pos 0)) (Some x) IsCut (λ _. less_form x (pos 0) form) (λ _. form)

not_negative_form : (x bound : Interval) → IsCanonical x → IsCut (not_negative x bound)
unfolding not_negative
not_negative_form x bound form = cond_both (is_zero bound) (at_least x (pos 0)) (Some x) IsCut (λ _. at_least_form x (pos 0) form) (λ _. form)

row_form : (c : ℕ) (x bound : Interval) → IsCanonical x → IsCut (row c x bound)
unfolding row
row_form c x bound form =
    cond_both (c == 2) (below x bound) _ IsCut (λ _. below_form x bound form)
    (λ _. cond_both (c == 3) (not_below x bound) _ IsCut (λ _. not_below_form x bound form)
    (λ _. cond_both (c == 4) (clip x bound.lo bound.hi) _ IsCut (λ _. clip_canonical x bound.lo bound.hi form)
    (λ _. cond_both (c == 5) (not_equal x bound) _ IsCut (λ _. not_equal_form x bound form)
    (λ _. cond_both (c == 6) (not_above x bound) _ IsCut (λ _. not_above_form x bound form)
    (λ _. cond_both (c == 7) (above x bound) _ IsCut (λ _. above_form x bound form)
    (λ _. cond_both (c == 8) (negative x bound) _ IsCut (λ _. negative_form x bound form)
    (λ _. cond_both (c == 9) (not_negative x bound) _ IsCut (λ _. not_negative_form x bound form)
    (λ _. cond_both (c == 12) (less x bound.hi) _ IsCut (λ _. less_form x bound.hi form)
    (λ _. cond_both (c == 13) (at_least x bound.lo) _ IsCut (λ _. at_least_form x bound.lo form)
    (λ _. cond_both (c == 14) (at_most x bound.hi) _ IsCut (λ _. at_most_form x bound.hi form)
    (λ _. cond_both (c == 15) (greater x bound.lo) (Some x) IsCut (λ _. greater_form x bound.lo form) (λ _. form))))))))))))

-- -- Values that are refined

abbrev IsFormedPart : Option Part → Type 0
IsFormedPart o = IfSome o (λ (p : Part). IsCanonical p.si)

numbers_form : (o : Option Interval) → IsCut o → IsFormedPart (numbers o)
numbers_form None form = tt
numbers_form (Some x) form = form

part_form : (c : ℕ) (bound : Interval) (p : Part) → IsCanonical p.si → IsFormedPart (refined_part c bound p)
part_form c bound p form = cond_both (same_region p.region Global) (numbers (row c p.si bound)) (Some p) IsFormedPart (λ _. numbers_form (row c p.si bound) (row_form c p.si bound form)) (λ _. form)

parts_form : (c : ℕ) (bound : Interval) (ps : List Part) → AreCanonical ps → AreCanonical (filter_map (refined_part c bound) ps)
parts_form c bound [] forms = tt
parts_form c bound (p ∷ ps) forms = by (refined_part c bound p) (part_form c bound p forms.0) (parts_form c bound ps forms.1)
  where
    by : (o : Option Part) → IsFormedPart o → AreCanonical (filter_map (refined_part c bound) ps) → AreCanonical (cons_option o (filter_map (refined_part c bound) ps))
    by None form rest = rest
    by (Some q) form rest = (form, rest)

refined_form : (c : ℕ) (taken : Bool) (bound : Interval) (v : Values) → CanonicalValues v → CanonicalValues (refine c taken bound v)
unfolding refine
refined_form c taken bound Top form = settled_canonical (filter_map (refined_part (held c taken) bound) (part Global full ∷ [])) (parts_form (held c taken) bound (part Global full ∷ []) (full_canonical, tt))
refined_form c taken bound (Parts ps) form = settled_canonical (filter_map (refined_part (held c taken) bound) ps) (parts_form (held c taken) bound ps form)

-- -- States

module _ (a : AbsState) (form : HasForm a) where
  at_place : (q : CmpPlace) → CanonicalValues (place_value a q)
  at_place (place.Reg r) = form.canonical.registers (reg_number r)
  at_place (place.Cell c) = value_canonical c a.cells form.canonical.cells

  place_formed : (q : CmpPlace) (v : Values) → CanonicalValues v → HasForm (with_place_value a q v)
  place_formed (place.Reg r) v fv =
      record {
        canonical = record { registers = put_all (λ k w. CanonicalValues w) a.registers (reg_number r) v fv form.canonical.registers; cells = form.canonical.cells; links = form.canonical.links };
        fact = form.fact;
        unaligned = form.unaligned;
      }
  place_formed (place.Cell c) v fv =
      record {
        canonical = record {
          registers = form.canonical.registers;
          cells = rebuilt_form (λ y. cond (same_cell y c) v (value_at a y)) (without_value c ∷ a.cells)
              (λ y. cond_both (same_cell y c) v (value_at a y) CanonicalValues (λ _. fv) (λ _. value_canonical y a.cells form.canonical.cells));
          links = form.canonical.links;
        };
        fact = form.fact;
        unaligned = form.unaligned;
      }

  narrowed_formed : (c : ℕ) (taken : Bool) (o : Option CmpFact) → IfSome (narrowed a c taken o) HasForm
  narrowed_formed c taken None = form
  narrowed_formed c taken (Some f) =
      let v = refine c taken f.bound (place_value a f.place) in
      cond_both (has_member v) (Some (with_place_value a f.place v)) None (λ o. IfSome o HasForm) (λ _. place_formed f.place v (refined_form c taken f.bound (place_value a f.place) (at_place f.place))) (λ _. tt)

  pub side_formed : (c : ℕ) (taken : Bool) → IfSome (side a c taken) HasForm
  unfolding side
  side_formed c taken = cond_both (may_hold c a.flags taken) (narrowed a c taken a.fact) None (λ o. IfSome o HasForm) (λ _. narrowed_formed c taken a.fact) (λ _. tt)
