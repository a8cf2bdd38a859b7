-- What all forced cuts, or too many, make of the answer.
use Rattle.std.proofs.Common.{◌≡◌, List, [], ◌++◌, length, subst, ap, ◌∙◌, arith}
use Rattle.std.specs.Prelude.{Contains}
use Rattle.std.specs.List.Sorted.{IsPermutation}
use Rattle.std.specs.declared.result.Result.{Result}
use Rattle.std.specs.declared.result.Result.TheVariants.{Ok, Err}
use Rattle.std.proofs.lemmas.List.Sorted.{IsPermutation-sym, Contains-permutation, length_permutation}
use Rattle.image_map.specs.declared.image.Segment.{Segment}
use Rattle.alocs.specs.declared.cells.CutList.{CutList}
use Rattle.asi_cuts.specs.declared.facts.Constraint.{Constraint}
use Rattle.asi_cuts.specs.declared.set.Cut.{Cut}
use Rattle.asi_cuts.specs.declared.set.Halt.{Halt}
use Rattle.asi_cuts.specs.declared.set.Halt.TheVariants.{TooMany}
use Rattle.asi_cuts.specs.Adding.{Adds, Grows, IsForced}
use Rattle.asi_cuts.specs.Closed.{AreDifferent, AreLeast, AreTooMany}
use Rattle.asi_cuts.specs.Listing.{AreListsOf}
use Rattle.asi_cuts.proofs.CountLemmas.{no_more}

all_of : (P : Cut → Type 0) (old new : List Cut) → old ≡ [] → Grows P old new → (x : Cut) → Contains new x → P x
all_of P old new none g x h = g.each x (subst (λ (l : List Cut). Contains l x) (g.is ∙ ap (λ l. l ++ g.more) none) h)

pub too_many : (segments : List Segment) (kept : List CutList) (facts : List Constraint) (old found sorted : List Cut) → old ≡ [] → Adds (IsForced segments kept facts) old found (Err TooMany) → AreDifferent sorted → IsPermutation found sorted
    → AreTooMany kept facts segments
too_many segments kept facts old found sorted none a different same = record {
  cuts = sorted;
  different = different;
  many = let e : length sorted ≡ length found = length_permutation found sorted same in let m = a.1 in omega arith;
  each = λ x h. all_of (IsForced segments kept facts) old found none a.0 x (Contains-permutation sorted found x (IsPermutation-sym found sorted same) h);
}

pub least_of : (segments : List Segment) (kept : List CutList) (facts : List Constraint) (old found sorted : List Cut) (lists : List CutList) → old ≡ [] → Adds (IsForced segments kept facts) old found (Ok tt) → IsPermutation found sorted
    → AreListsOf sorted lists → AreLeast kept facts segments lists
least_of segments kept facts old found sorted lists none a same l = record {
  rise = l.rise;
  some = l.some;
  each = λ r offset. (
    λ h. all_of (IsForced segments kept facts) old found none a.0 (record { region = r; offset = offset }) (Contains-permutation sorted found _ (IsPermutation-sym found sorted same) ((l.each (record { region = r; offset = offset })).0 h)),
    λ h. (l.each (record { region = r; offset = offset })).1 (Contains-permutation found sorted _ same (a.1 (record { region = r; offset = offset }) h)),
  );
}

pub not_many : (segments : List Segment) (kept : List CutList) (facts : List Constraint) (old found sorted : List Cut) → Adds (IsForced segments kept facts) old found (Ok tt) → AreDifferent sorted → IsPermutation found sorted
    → AreTooMany kept facts segments → ⊥
not_many segments kept facts old found sorted a different same m =
    let e : length sorted ≡ length found = length_permutation found sorted same in
    let few = a.2 in
    let many = m.many in
    let le = no_more m.cuts sorted m.different different (λ x h. Contains-permutation found sorted x same (a.1 x (m.each x h))) in
    absurd (omega arith)

-- the segments that the code has at hand
pub same_segments : (segments held : List Segment) (kept : List CutList) (facts : List Constraint) (old found : List Cut) (r : Result (Unit {0}) Halt) → held ≡ segments → Adds (IsForced held kept facts) old found r → Adds (IsForced segments kept facts) old found r
same_segments segments held kept facts old found r same a = subst (λ (s : List Segment). Adds (IsForced s kept facts) old found r) same a

pub too_many_told : (segments : List Segment) (kept : List CutList) (facts : List Constraint) (old found sorted : List Cut) (halt : Halt) → halt ≡ TooMany → old ≡ [] → Adds (IsForced segments kept facts) old found (Err halt) → AreDifferent sorted → IsPermutation found sorted
    → AreTooMany kept facts segments
too_many_told segments kept facts old found sorted halt is none a different same =
    too_many segments kept facts old found sorted none (subst (λ (h : Halt). Adds (IsForced segments kept facts) old found (Err h)) is a) different same
