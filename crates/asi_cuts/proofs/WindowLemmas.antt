-- The cuts of a row within a window, number by number.
use Rattle.std.proofs.Common.{◌≡◌, ℕ, ◌+◌, ◌<◌, ◌≤◌, ◌↔◌, true, inl, inr, ⊎_elim, ℤ, pos, ◌+ℤ◌, List, length, sym, subst, ap, ◌∙◌, arith}
use Rattle.std.specs.Prelude.{◌≤ℤ◌, ◌<ℤ◌, int_le}
use Rattle.std.specs.declared.result.Result.TheVariants.{Ok, Err}
use Rattle.std.proofs.lemmas.Bool.{and_from, and_parts}
use Rattle.std.proofs.lemmas.Int.{ints}
use Rattle.strided.proofs.MemberLemmas.{int_either, int_le_true, le_int_le}
use Rattle.asi_cuts.specs.declared.rows.Row.{Row}
use Rattle.asi_cuts.specs.declared.set.Cut.{Cut}
use Rattle.asi_cuts.specs.declared.set.Halt.{Halt}
use Rattle.asi_cuts.specs.Adding.{Adds, IsInWindow}
use Rattle.asi_cuts.specs.Cuts.{element, spans}
use Rattle.asi_cuts.proofs.RowLemmas.{lt_or_ge}
use Rattle.asi_cuts.proofs.AddLemmas.{Reached, reach_begin, reach_more, reach_stop, reach_end}

-- the offset of a row with a number
abbrev pub place : Row → ℕ → ℤ
place row k = element row.start row.stride k +ℤ pos row.shift

-- one whose number is reached
abbrev pub IsDone : Row → ℕ → ℕ → Cut → Type 0
IsDone row below n x = (x.region ≡ row.region) × ((k : ℕ) × (below ≤ k) × (k < n) × (x.offset ≡ place row k))

pub window_begin : (row : Row) (low high : ℤ) (below : ℕ) (old : List Cut) → length old ≤ 1024 → Reached (IsInWindow row low high) (IsDone row below below) old old
window_begin row low high below old few = reach_begin (IsInWindow row low high) (IsDone row below below) old few (λ x h. let p = h.1.1 in let q = h.1.2 in absurd (omega arith))

pub window_more : (row : Row) (low high : ℤ) (below within n : ℕ) (cut : Cut) (old now new : List Cut)
    → ((k : ℕ) → (place row k <ℤ low) ↔ (k < below)) → ((k : ℕ) → ((k < row.count) × (place row k ≤ℤ high)) ↔ (k < within)) → below ≤ n → n < within
    → cut.region ≡ row.region → cut.offset ≡ place row n → Reached (IsInWindow row low high) (IsDone row below n) old now → Adds (λ x. x ≡ cut) now new (Ok tt)
    → Reached (IsInWindow row low high) (IsDone row below (n + 1)) old new
window_more row low high below within n cut old now new from to le lt region at r a =
    reach_more (IsInWindow row low high) (λ x. x ≡ cut) (IsDone row below n) (IsDone row below (n + 1)) old now new r a
    (λ x e. subst (λ (y : Cut). IsInWindow row low high y) (sym e) here)
    (λ x h. ⊎_elim (λ (k : h.1.0 < n). inl (h.0, (h.1.0, h.1.1, k, h.1.3))) (λ (k : n ≤ h.1.0). let e : h.1.0 ≡ n = (let p = h.1.2 in omega arith) in inr (inl (same x h.0 (h.1.3 ∙ ap (place row) e)))) (lt_or_ge h.1.0 n))
  where
    upper : (n < row.count) × (place row n ≤ℤ high)
    upper = (to n).1 lt

    lower : low ≤ℤ place row n
    lower = ⊎_elim (λ (q : low ≤ℤ place row n). q) (λ (q : place row n <ℤ low). let s = (from n).0 q in absurd (omega arith)) (int_either low (place row n))

    here : IsInWindow row low high cut
    here = ((region, (n, upper.0, at)), and_from (int_le low cut.offset) (int_le cut.offset high) (le_int_le low cut.offset (let l = lower in omega (arith, ints))) (le_int_le cut.offset high (let u = upper.1 in omega (arith, ints))))

    same : (x : Cut) → x.region ≡ row.region → x.offset ≡ place row n → x ≡ cut
    same x p q = let s : x.region ≡ cut.region = p ∙ sym region in let t : x.offset ≡ cut.offset = q ∙ sym at in λ i. record { region = s i; offset = t i }

pub window_stop : (row : Row) (low high : ℤ) (below within n : ℕ) (cut : Cut) (old now new : List Cut) (e : Halt)
    → ((k : ℕ) → (place row k <ℤ low) ↔ (k < below)) → ((k : ℕ) → ((k < row.count) × (place row k ≤ℤ high)) ↔ (k < within)) → below ≤ n → n < within
    → cut.region ≡ row.region → cut.offset ≡ place row n → Reached (IsInWindow row low high) (IsDone row below n) old now → Adds (λ x. x ≡ cut) now new (Err e)
    → Adds (IsInWindow row low high) old new (Err e)
window_stop row low high below within n cut old now new e from to le lt region at r a =
    reach_stop (IsInWindow row low high) (λ x. x ≡ cut) (IsDone row below n) old now new e r a
    (λ x q. subst (λ (y : Cut). IsInWindow row low high y) (sym q) here)
  where
    upper : (n < row.count) × (place row n ≤ℤ high)
    upper = (to n).1 lt

    lower : low ≤ℤ place row n
    lower = ⊎_elim (λ (q : low ≤ℤ place row n). q) (λ (q : place row n <ℤ low). let s = (from n).0 q in absurd (omega arith)) (int_either low (place row n))

    here : IsInWindow row low high cut
    here = ((region, (n, upper.0, at)), and_from (int_le low cut.offset) (int_le cut.offset high) (le_int_le low cut.offset (let l = lower in omega (arith, ints))) (le_int_le cut.offset high (let u = upper.1 in omega (arith, ints))))

pub window_end : (row : Row) (low high : ℤ) (below within n : ℕ) (old now : List Cut)
    → ((k : ℕ) → (place row k <ℤ low) ↔ (k < below)) → ((k : ℕ) → ((k < row.count) × (place row k ≤ℤ high)) ↔ (k < within)) → within ≤ n
    → Reached (IsInWindow row low high) (IsDone row below n) old now → Adds (IsInWindow row low high) old now (Ok tt)
window_end row low high below within n old now from to le r =
    reach_end (IsInWindow row low high) (IsDone row below n) old now r (λ x h. inl (h.0.0, (h.0.1.0, lower x h.0.1.0 h.0.1.2 h.1, upper x h.0.1.0 h.0.1.1 h.0.1.2 h.1, h.0.1.2)))
  where
    lower : (x : Cut) (k : ℕ) → x.offset ≡ place row k → spans low high x.offset ≡ true → below ≤ k
    lower x k at h =
        let p : low ≤ℤ x.offset = int_le_true low x.offset (and_parts (int_le low x.offset) (int_le x.offset high) h).0 in
        ⊎_elim (λ (q : k < below). let s = (from k).1 q in absurd (omega (arith, ints))) (λ (q : below ≤ k). q) (lt_or_ge k below)

    upper : (x : Cut) (k : ℕ) → k < row.count → x.offset ≡ place row k → spans low high x.offset ≡ true → k < n
    upper x k lt at h =
        let p : x.offset ≤ℤ high = int_le_true x.offset high (and_parts (int_le low x.offset) (int_le x.offset high) h).1 in
        let q = (to k).0 (lt, omega (arith, ints)) in
        omega arith

-- what isn't below isn't
pub window_above : (row : Row) (low : ℤ) (below n : ℕ) → ((k : ℕ) → (place row k <ℤ low) ↔ (k < below)) → below ≤ n → low ≤ℤ place row n
window_above row low below n from le =
    ⊎_elim (λ (q : low ≤ℤ place row n). q) (λ (q : place row n <ℤ low). let s = (from n).0 q in absurd (omega arith)) (int_either low (place row n))
