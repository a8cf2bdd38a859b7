-- Rows of cuts within their regions.
use Rattle.std.proofs.Common.{◌≡◌, ℕ, ◌*◌, ◌≤◌, ◌↔◌, Bool, true, false, ◌||◌, inl, ⊎_elim, ℤ, pos, ◌+ℤ◌, List, [], ◌∷◌, length, refl, sym, subst, ap, ◌∙◌, arith}
use Rattle.std.specs.Prelude.{Contains}
use Rattle.std.specs.List.{list_any}
use Rattle.std.specs.declared.result.Result.{Result}
use Rattle.std.proofs.lemmas.Bool.{true≢false}
use Rattle.std.proofs.lemmas.Int.{ints}
use Rattle.image_map.specs.declared.image.Segment.{Segment}
use Rattle.image_map.specs.declared.region.RegionId.{RegionId}
use Rattle.image_map.specs.declared.region.RegionId.TheVariants.{Global}
use Rattle.image_map.specs.Whole.{end_of}
use Rattle.alocs.proofs.MemberLaws.{contains-cases, contains-head, contains-tail, contains-none}
use Rattle.asi_cuts.specs.declared.rows.Row.{Row}
use Rattle.asi_cuts.specs.declared.set.Cut.{Cut}
use Rattle.asi_cuts.specs.declared.set.Halt.{Halt}
use Rattle.asi_cuts.specs.Adding.{Adds, IsAt, IsIn, IsInSegment, IsOf, IsOfAny}
use Rattle.asi_cuts.specs.Cuts.{lies_in, spans}
use Rattle.asi_cuts.proofs.AddLemmas.{adds_like}

any_found : {X : Type 0} (p : X → Bool) (xs : List X) → list_any p xs ≡ true → (x : X) × Contains xs x × (p x ≡ true)
any_found p [] h = absurd (true≢false (sym h))
any_found {X} p (x ∷ xs) h = go (p x) refl h (λ e. any_found p xs e)
  where
    go : (b : Bool) → p x ≡ b → (b || list_any p xs) ≡ true → (list_any p xs ≡ true → (y : X) × Contains xs y × (p y ≡ true)) → (y : X) × Contains (x ∷ xs) y × (p y ≡ true)
    go true is e f = (x, contains-head x xs, is)
    go false is e f = let r = f e in (r.0, contains-tail x xs r.0 r.1, r.2)

any_of : {X : Type 0} (p : X → Bool) (xs : List X) (x : X) → Contains xs x → p x ≡ true → list_any p xs ≡ true
any_of p [] x h is = absurd (contains-none x h)
any_of {X} p (y ∷ ys) x h is = ⊎_elim (λ (e : y ≡ x). let t : p y ≡ true = ap p e ∙ is in rw t refl) (λ k. late (p y) (any_of p ys x k is)) (contains-cases y ys x h)
  where
    late : (b : Bool) → list_any p ys ≡ true → (b || list_any p ys) ≡ true
    late true e = refl
    late false e = e

-- a row in Global
pub row_global : (segments : List Segment) (row from : Row) (old new : List Cut) (r : Result (Unit {0}) Halt) → row.region ≡ Global → ((x : Cut) → IsOf row x ↔ IsOf from x) → length old ≤ 1024
    → Adds (IsOfAny (IsInSegment row) segments) old new r → Adds (IsIn segments (IsOf from)) old new r
row_global segments row from old new r global same few a =
    adds_like (IsIn segments (IsOf from)) (IsOfAny (IsInSegment row) segments) old new r few a
    (λ x h. ((same x).0 h.2.0, subst (λ (q : RegionId). lies_in segments q x.offset ≡ true) (sym (h.2.0.0 ∙ global)) (any_of (λ (s : Segment). spans (pos s.start) (pos (end_of s)) x.offset) segments h.0 h.1 h.2.1)))
    (λ x h.
    let of = (same x).1 h.0 in
    let found = any_found (λ (s : Segment). spans (pos s.start) (pos (end_of s)) x.offset) segments (subst (λ (q : RegionId). lies_in segments q x.offset ≡ true) (of.0 ∙ global) h.1) in
    inl (found.0, found.1, (of, found.2)))

-- a row in a region of one stretch
pub row_window : (segments : List Segment) (row from : Row) (low high : ℤ) (old new : List Cut) (r : Result (Unit {0}) Halt) → ((offset : ℤ) → lies_in segments row.region offset ≡ spans low high offset) → ((x : Cut) → IsOf row x ↔ IsOf from x)
    → length old ≤ 1024 → Adds (λ x. IsOf row x × (spans low high x.offset ≡ true)) old new r → Adds (IsIn segments (IsOf from)) old new r
row_window segments row from low high old new r fits same few a =
    adds_like (IsIn segments (IsOf from)) (λ x. IsOf row x × (spans low high x.offset ≡ true)) old new r few a
    (λ x h. ((same x).0 h.0, subst (λ (q : RegionId). lies_in segments q x.offset ≡ true) (sym h.0.0) (fits x.offset ∙ h.1)))
    (λ x h.
    let of = (same x).1 h.0 in
    inl (of, sym (fits x.offset) ∙ subst (λ (q : RegionId). lies_in segments q x.offset ≡ true) of.0 h.1))

-- a row of one cut
pub one_is : (r : RegionId) (start : ℤ) (shift : ℕ) (x : Cut) → IsOf (record { region = r; start = start; shift = shift; stride = 1; count = 1 }) x ↔ IsAt r (start +ℤ pos shift) x
one_is r start shift x = (
  λ h. (h.0, (let at = h.1.2 in let lt = h.1.1 in let none : h.1.0 ≡ 0 = omega arith in let step : h.1.0 * 1 ≡ 0 = omega arith in omega (arith, ints))),
  λ h. (h.0, (0, omega arith, (let at = h.1 in omega (arith, ints)))),
)

pub adds_one : (segments : List Segment) (row : Row) (r : RegionId) (start : ℤ) (shift : ℕ) (offset : ℤ) (old new : List Cut) (res : Result (Unit {0}) Halt) → row ≡ record { region = r; start = start; shift = shift; stride = 1; count = 1 }
    → start +ℤ pos shift ≡ offset → length old ≤ 1024 → Adds (IsIn segments (IsOf row)) old new res → Adds (IsIn segments (IsAt r offset)) old new res
adds_one segments row r start shift offset old new res is at few a =
    adds_like (IsIn segments (IsAt r offset)) (IsIn segments (IsOf row)) old new res few a
    (λ x h. (let o = (one_is r start shift x).0 (subst (λ (q : Row). IsOf q x) is h.0) in (o.0, o.1 ∙ at), h.1))
    (λ x h. inl (subst (λ (q : Row). IsOf q x) (sym is) ((one_is r start shift x).1 (h.0.0, h.0.1 ∙ sym at)), h.1))
