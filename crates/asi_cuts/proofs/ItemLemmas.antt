-- What is added item by item.
use Rattle.std.proofs.Common.{◌≡◌, ℕ, ◌+◌, ◌<◌, ◌≤◌, inl, inr, ⊎_elim, List, [], ◌∷◌, ◌++◌, length, take, get_or, sym, subst, ap, ◌∙◌}
use Rattle.std.specs.Prelude.{Contains}
use Rattle.std.specs.declared.result.Result.TheVariants.{Ok, Err}
use Rattle.std.proofs.lemmas.List.{get_or_default, take_more, take_all}
use Rattle.std.proofs.lemmas.List.Elements.{Contains-push_cases}
use Rattle.alocs.proofs.MemberLaws.{contains-none}
use Rattle.asi_cuts.specs.declared.set.Cut.{Cut}
use Rattle.asi_cuts.specs.declared.set.Halt.{Halt}
use Rattle.asi_cuts.specs.Adding.{Adds, IsOfAny}
use Rattle.asi_cuts.proofs.AddLemmas.{Reached, reach_begin, reach_more, reach_stop, reach_end}

contains_at : {Y : Type 0} (ys : List Y) (i : ℕ) (y : Y) → i < length ys → y ≡ get_or ys i y → Contains ys y
contains_at ys i y lt is = (i, lt, sym is)

pub items_begin : {Y : Type 0} (Q : Y → Cut → Type 0) (ys : List Y) (old : List Cut) → length old ≤ 1024 → Reached (IsOfAny Q ys) (IsOfAny Q (take 0 ys)) old old
items_begin Q ys old few = reach_begin (IsOfAny Q ys) (IsOfAny Q (take 0 ys)) old few (λ x h. absurd (contains-none h.0 h.1))

pub items_more : {Y : Type 0} (Q : Y → Cut → Type 0) (ys : List Y) (i : ℕ) (y : Y) (old now new : List Cut) → i < length ys → y ≡ get_or ys i y
    → Reached (IsOfAny Q ys) (IsOfAny Q (take i ys)) old now → Adds (Q y) now new (Ok tt) → Reached (IsOfAny Q ys) (IsOfAny Q (take (i + 1) ys)) old new
items_more {Y} Q ys i y old now new lt is r a =
    reach_more (IsOfAny Q ys) (Q y) (IsOfAny Q (take i ys)) (IsOfAny Q (take (i + 1) ys)) old now new r a (λ x q. (y, contains_at ys i y lt is, q))
    (λ x h. ⊎_elim (λ k. inl (h.0, k, h.2)) (λ (k : y ≡ h.0). inr (inl (subst (λ (z : Y). Q z x) (sym k) h.2)))
    (Contains-push_cases (take i ys) y h.0 (subst (λ (l : List Y). Contains l h.0) all h.1)))
  where
    all : take (i + 1) ys ≡ take i ys ++ y ∷ []
    all = take_more ys i y lt ∙ ap (λ t. take i ys ++ t ∷ []) (sym is)

pub items_stop : {Y : Type 0} (Q : Y → Cut → Type 0) (ys : List Y) (i : ℕ) (y : Y) (old now new : List Cut) (e : Halt) → i < length ys → y ≡ get_or ys i y
    → Reached (IsOfAny Q ys) (IsOfAny Q (take i ys)) old now → Adds (Q y) now new (Err e) → Adds (IsOfAny Q ys) old new (Err e)
items_stop Q ys i y old now new e lt is r a = reach_stop (IsOfAny Q ys) (Q y) (IsOfAny Q (take i ys)) old now new e r a (λ x q. (y, contains_at ys i y lt is, q))

pub items_end : {Y : Type 0} (Q : Y → Cut → Type 0) (ys : List Y) (i : ℕ) (old now : List Cut) → length ys ≤ i → Reached (IsOfAny Q ys) (IsOfAny Q (take i ys)) old now → Adds (IsOfAny Q ys) old now (Ok tt)
items_end {Y} Q ys i old now le r =
    reach_end (IsOfAny Q ys) (IsOfAny Q (take i ys)) old now r (λ x h. inl (h.0, subst (λ (l : List Y). Contains l h.0) (sym (take_all i ys le)) h.1, h.2))

-- an item of a list that the code holds
pub held_item : {Y : Type 0} (held ys : List Y) (i : ℕ) (d : Y) → held ≡ ys → i < length held → (i < length ys) × (get_or held i d ≡ get_or ys i (get_or held i d))
held_item {Y} held ys i d same lt =
    subst (λ (l : List Y). (i < length l) × (get_or held i d ≡ get_or l i (get_or held i d))) same (lt, get_or_default held i d (get_or held i d) lt)
