-- When every cut that was found has been followed, all forced cuts are found.
use Rattle.std.proofs.Common.{◌≡◌, ℕ, zero, suc, ◌+◌, ◌<◌, ◌≤◌, ⊎_elim, ℤ, Some, None, List, [], ◌∷◌, ◌++◌, length, get_or, refl, sym, subst, ap, ◌∙◌, arith}
use Rattle.std.specs.Prelude.{Contains, slice_get}
use Rattle.std.specs.declared.result.Result.TheVariants.{Ok, Err}
use Rattle.std.proofs.lemmas.Option.{none-some, same_Some}
use Rattle.image_map.specs.declared.image.Segment.{Segment}
use Rattle.image_map.specs.declared.region.RegionId.{RegionId}
use Rattle.alocs.specs.declared.cells.CutList.{CutList}
use Rattle.asi_cuts.specs.declared.facts.Constraint.{Constraint}
use Rattle.asi_cuts.specs.declared.set.Cut.{Cut}
use Rattle.asi_cuts.specs.declared.set.Halt.{Halt}
use Rattle.asi_cuts.specs.Adding.{Adds, Grows, IsCarriedBy, IsFollowing, IsForced, IsKept, IsMade}
use Rattle.asi_cuts.specs.Cuts.{IsCut, keeps, makes, carries}
use Rattle.std.proofs.lemmas.List.Elements.{Contains-append_cases}
use Rattle.asi_cuts.specs.declared.set.Halt.TheVariants.{TooMany, Memory}
use Rattle.asi_cuts.proofs.AddLemmas.{kept_there}
use Rattle.asi_cuts.proofs.RowLemmas.{lt_or_ge}

pub forced_kept : (segments : List Segment) (kept : List CutList) (facts : List Constraint) (x : Cut) → IsKept segments kept x → IsForced segments kept facts x
forced_kept segments kept facts x h =
    let list = h.0 in
    let inner = h.2 in
    keeps (list, h.1, inner.2.0.0, subst (λ (o : ℤ). Contains list.cuts o) (sym inner.2.0.1) inner.1) inner.2.1

pub forced_made : (segments : List Segment) (kept : List CutList) (facts : List Constraint) (x : Cut) → IsMade segments facts x → IsForced segments kept facts x
forced_made segments kept facts x h = makes h.1 h.2.0 h.2.1

pub forced_more : (segments : List Segment) (kept : List CutList) (facts : List Constraint) (q x : Cut) → IsForced segments kept facts q → IsFollowing segments facts q x → IsForced segments kept facts x
forced_more segments kept facts q x p h = carries h.1 h.2.0 p h.2.1

-- the first cuts found are followed
pub record Followed (segments : List Segment) (kept : List CutList) (facts : List Constraint) (n : ℕ) (found : List Cut) : Type 0 where
  pub forced : (x : Cut) → Contains found x → IsForced segments kept facts x
  pub kept_found : (x : Cut) → IsKept segments kept x → Contains found x
  pub made_found : (x : Cut) → IsMade segments facts x → Contains found x
  pub followed : (k : ℕ) (d : Cut) → k < n → (x : Cut) → IsFollowing segments facts (get_or found k d) x → Contains found x
  pub reached : n ≤ length found
  pub few : length found ≤ 1024

got : (xs : List Cut) (i : ℕ) (x : Cut) → slice_get xs i ≡ Some x → (i < length xs) × ((d : Cut) → get_or xs i d ≡ x)
got [] i x some = absurd (none-some x some)
got (y ∷ ys) zero x some = (omega arith, λ d. same_Some y x some)
got (y ∷ ys) (suc i) x some = let r = got ys i x some in ((let lt = r.0 in omega arith), r.1)

past : (xs : List Cut) (i : ℕ) → slice_get xs i ≡ None → length xs ≤ i
past [] i none = omega arith
past (y ∷ ys) zero none = absurd (none-some y (sym none))
past (y ∷ ys) (suc i) none = let r = past ys i none in omega arith

pub found_there : (xs : List Cut) (i : ℕ) (x : Cut) → slice_get xs i ≡ Some x → Contains xs x
found_there xs i x some = let r = got xs i x some in (i, r.0, r.1 x)

length_append : (xs ys : List Cut) → length (xs ++ ys) ≡ length xs + length ys
length_append [] ys = omega arith
length_append (x ∷ xs) ys = let e = length_append xs ys in omega arith

get_before : (xs ys : List Cut) (k : ℕ) (d : Cut) → k < length xs → get_or (xs ++ ys) k d ≡ get_or xs k d
get_before [] ys k d lt = absurd (omega arith)
get_before (x ∷ xs) ys zero d lt = refl
get_before (x ∷ xs) ys (suc k) d lt = get_before xs ys k d (omega arith)

pub all_forced : (segments : List Segment) (kept : List CutList) (facts : List Constraint) (n : ℕ) (found : List Cut) → slice_get found n ≡ None → Followed segments kept facts n found
    → (r : RegionId) (offset : ℤ) → IsCut kept facts segments r offset → Contains found (record { region = r; offset = offset })
all_forced segments kept facts n found none f r offset (keeps has lies) = f.kept_found _ (has.0, has.1, (offset, has.3, ((has.2, refl), lies)))
all_forced segments kept facts n found none f r offset (makes among by lies) = f.made_found _ (_, among, (by, lies))
all_forced segments kept facts n found none f r offset (carries {f = g} {q = q} {cut = cut} among by there lies) =
    let was = all_forced segments kept facts n found none f q cut there in
    let end = past found n none in
    let lt = was.1 in
    f.followed was.0 (record { region = q; offset = cut }) (omega arith) (record { region = r; offset = offset })
    (g, among, (subst (λ (c : Cut). IsCarriedBy c g (record { region = r; offset = offset })) (sym was.2) by, lies))

-- one more is followed
pub follow_more : (segments : List Segment) (kept : List CutList) (facts : List Constraint) (n : ℕ) (q : Cut) (found new : List Cut) → slice_get found n ≡ Some q → Followed segments kept facts n found
    → Adds (IsFollowing segments facts q) found new (Ok tt) → Followed segments kept facts (n + 1) new
follow_more segments kept facts n q found new some f a = record {
  forced = λ x h. grown x h;
  kept_found = λ x h. kept_there (IsFollowing segments facts q) found new x a.0 (f.kept_found x h);
  made_found = λ x h. kept_there (IsFollowing segments facts q) found new x a.0 (f.made_found x h);
  followed = λ k d lt x h. more k d lt x h;
  reached = (let s = here.0 in let l = longer in omega arith);
  few = a.2;
} where
  here : (n < length found) × ((d : Cut) → get_or found n d ≡ q)
  here = got found n q some

  longer : length found ≤ length new
  longer = let e : length new ≡ length (found ++ a.0.more) = ap length a.0.is in let l : length (found ++ a.0.more) ≡ length found + length a.0.more = length_append found a.0.more in omega arith

  grown : (x : Cut) → Contains new x → IsForced segments kept facts x
  grown x h = ⊎_elim (λ k. f.forced x k) (λ k. forced_more segments kept facts q x (f.forced q (n, here.0, here.1 q)) (a.0.each x k)) (Contains-append_cases found a.0.more x (subst (λ (l : List Cut). Contains l x) a.0.is h))

  same : (k : ℕ) (d : Cut) → k < length found → get_or new k d ≡ get_or found k d
  same k d lt = ap (λ (l : List Cut). get_or l k d) a.0.is ∙ get_before found a.0.more k d lt

  more : (k : ℕ) (d : Cut) → k < n + 1 → (x : Cut) → IsFollowing segments facts (get_or new k d) x → Contains new x
  more k d lt x h =
      let inside = here.0 in
      let e = same k d (omega arith) in
      let h' = subst (λ (c : Cut). IsFollowing segments facts c x) e h in
      ⊎_elim (λ (p : k < n). kept_there (IsFollowing segments facts q) found new x a.0 (f.followed k d p x h'))
      (λ (p : n ≤ k). let s : k ≡ n = omega arith in a.1 x (subst (λ (c : Cut). IsFollowing segments facts c x) (ap (λ j. get_or found j d) s ∙ here.1 d) h'))
      (lt_or_ge k n)

-- and where that forces too many
pub follow_stop : (segments : List Segment) (kept : List CutList) (facts : List Constraint) (n : ℕ) (q : Cut) (old found new : List Cut) (e : Halt) → old ≡ [] → slice_get found n ≡ Some q → Followed segments kept facts n found
    → Adds (IsFollowing segments facts q) found new (Err e) → Adds (IsForced segments kept facts) old new (Err e)
follow_stop segments kept facts n q old found new TooMany none some f a = (
  subst (λ (o : List Cut). Grows (IsForced segments kept facts) o new) (sym none) (record { more = new; is = refl; each = λ x h. ⊎_elim (λ k. f.forced x k) (λ k. forced_more segments kept facts q x (f.forced q (found_there found n q some)) (a.0.each x k)) (Contains-append_cases found a.0.more x (subst (λ (l : List Cut). Contains l x) a.0.is h)) }),
  a.1,
)
follow_stop segments kept facts n q old found new Memory none some f a = tt

pub follow_end : (segments : List Segment) (kept : List CutList) (facts : List Constraint) (n : ℕ) (old found : List Cut) → old ≡ [] → slice_get found n ≡ None → Followed segments kept facts n found → Adds (IsForced segments kept facts) old found (Ok tt)
follow_end segments kept facts n old found none end f = (
  subst (λ (o : List Cut). Grows (IsForced segments kept facts) o found) (sym none) (record { more = found; is = refl; each = f.forced }),
  λ x h. all_forced segments kept facts n found end f x.region x.offset h,
  f.few,
)

-- before any is followed
pub follow_begin : (segments : List Segment) (kept : List CutList) (facts : List Constraint) (old mid found : List Cut) → old ≡ [] → Adds (IsKept segments kept) old mid (Ok tt) → Adds (IsMade segments facts) mid found (Ok tt) → Followed segments kept facts 0 found
follow_begin segments kept facts old mid found none a b = record {
  forced = λ x h. ⊎_elim (λ k. first x k) (λ k. forced_made segments kept facts x (b.0.each x k)) (Contains-append_cases mid b.0.more x (subst (λ (l : List Cut). Contains l x) b.0.is h));
  kept_found = λ x h. kept_there (IsMade segments facts) mid found x b.0 (a.1 x h);
  made_found = b.1;
  followed = λ k d lt. absurd (omega arith);
  reached = omega arith;
  few = b.2;
} where
  first : (x : Cut) → Contains mid x → IsForced segments kept facts x
  first x h =
      let is : mid ≡ a.0.more = a.0.is ∙ ap (λ l. l ++ a.0.more) none in
      forced_kept segments kept facts x (a.0.each x (subst (λ (l : List Cut). Contains l x) is h))
