-- Sets of seats: what adding and taking away one seat does, and flags as such a set.
use Rattle.std.proofs.Common.{◌≡◌, ◌≢◌, ℕ, zero, suc, ◌+◌, ◌<◌, Bool, true, false, List, [], ◌∷◌, length, get_or, set, refl, sym, ◌∙◌, ◌==◌, arith, get_or-set_same, get_or-set_other}
use Rattle.std.specs.Prelude.{not}
use Rattle.std.specs.List.{list_any}
use Rattle.std.specs.Ordering.{nat_cmp, eq_by_cmp}
use Rattle.std.specs.Cmp.{unsigned_tied}
use Rattle.std.specs.FinMap.{nat_cmp-IsAntisymmetric}
use Rattle.std.specs.FinSet as sets
use Rattle.std.proofs.lemmas.Cmp.{nat_cmp_total}
use Rattle.std.proofs.lemmas.Bool.{ne_eqb, eq-eqb, eqb-true, true≢false}
use Rattle.round_core.specs.Flags.{flagged}

pub tied_itself : (q : ℕ) → eq_by_cmp nat_cmp q q ≡ true
tied_itself q = unsigned_tied q q ∙ eq-eqb q q refl

pub untied : (q k : ℕ) → q ≢ k → eq_by_cmp nat_cmp q k ≡ false
untied q k ne = unsigned_tied q k ∙ ne_eqb q k ne

-- `contains` after an `insert` or a `remove`
pub contains-insert_same : (s : sets.FinSet nat_cmp) (k : ℕ) → sets.contains (sets.insert s k) k ≡ true
contains-insert_same s k = sets.contains-insert nat_cmp_total s k k ∙ rw (tied_itself k)

pub contains-insert_other : (s : sets.FinSet nat_cmp) (k q : ℕ) → q ≢ k → sets.contains (sets.insert s k) q ≡ sets.contains s q
contains-insert_other s k q ne = sets.contains-insert nat_cmp_total s k q ∙ rw (untied q k ne)

pub contains-remove_same : (s : sets.FinSet nat_cmp) (k : ℕ) → sets.contains (sets.remove s k) k ≡ false
contains-remove_same s k = sets.contains-remove nat_cmp_total s k k ∙ rw (tied_itself k)

pub contains-remove_other : (s : sets.FinSet nat_cmp) (k q : ℕ) → q ≢ k → sets.contains (sets.remove s k) q ≡ sets.contains s q
contains-remove_other s k q ne = sets.contains-remove nat_cmp_total s k q ∙ rw (untied q k ne)

-- seats before the first flag are not in the set
flagged_below : (first : ℕ) (flags : List Bool) (q : ℕ) → q < first → sets.contains (flagged first flags) q ≡ false
flagged_below first [] q h = sets.contains-empty nat_cmp q
flagged_below first (true ∷ flags) q h = contains-insert_other (flagged (first + 1) flags) first q (omega arith) ∙ flagged_below (first + 1) flags q (omega arith)
flagged_below first (false ∷ flags) q h = flagged_below (first + 1) flags q (omega arith)

-- a seat is in the set where its flag is up
flagged_at : (first : ℕ) (flags : List Bool) (k q : ℕ) → q ≡ first + k → sets.contains (flagged first flags) q ≡ get_or flags k false
flagged_at first [] k q e = sets.contains-empty nat_cmp q
flagged_at first (true ∷ flags) zero q e = let same : q ≡ first = omega arith in rw same (contains-insert_same (flagged (first + 1) flags) first)
flagged_at first (false ∷ flags) zero q e = flagged_below (first + 1) flags q (omega arith)
flagged_at first (true ∷ flags) (suc k) q e = contains-insert_other (flagged (first + 1) flags) first q (omega arith) ∙ flagged_at (first + 1) flags k q (omega arith)
flagged_at first (false ∷ flags) (suc k) q e = flagged_at (first + 1) flags k q (omega arith)

pub contains-flagged : (flags : List Bool) (q : ℕ) → sets.contains (flagged 0 flags) q ≡ get_or flags q false
contains-flagged flags q = flagged_at 0 flags q q (omega arith)

set_apart : (flags : List Bool) (k : ℕ) (b : Bool) (s : sets.FinSet nat_cmp) → k < length flags → sets.contains s k ≡ b → ((q : ℕ) → q ≢ k → sets.contains s q ≡ sets.contains (flagged 0 flags) q) → flagged 0 (set flags k b) ≡ s
set_apart flags k b s h here apart = sets.same_set nat_cmp_total nat_cmp-IsAntisymmetric _ _ (λ q. contains-flagged (set flags k b) q ∙ at q (q == k) refl) where
  at : (q : ℕ) (same : Bool) → (q == k) ≡ same → get_or (set flags k b) q false ≡ sets.contains s q
  at q true e = let is : q ≡ k = eqb-true q k e in rw is (get_or-set_same flags k b false h ∙ sym here)
  at q false e = let ne : q ≢ k = λ is. true≢false (sym (eq-eqb q k is) ∙ e) in get_or-set_other flags k q b false ne ∙ sym (apart q ne ∙ contains-flagged flags q)

-- a flag that goes up, or down
pub flagged-set_true : (flags : List Bool) (k : ℕ) → k < length flags → flagged 0 (set flags k true) ≡ sets.insert (flagged 0 flags) k
flagged-set_true flags k h = set_apart flags k true (sets.insert (flagged 0 flags) k) h (contains-insert_same (flagged 0 flags) k) (contains-insert_other (flagged 0 flags) k)

pub flagged-set_false : (flags : List Bool) (k : ℕ) → k < length flags → flagged 0 (set flags k false) ≡ sets.remove (flagged 0 flags) k
flagged-set_false flags k h = set_apart flags k false (sets.remove (flagged 0 flags) k) h (contains-remove_same (flagged 0 flags) k) (contains-remove_other (flagged 0 flags) k)

-- the set is empty where no flag is up
pub len-flagged : (first : ℕ) (flags : List Bool) → not (list_any (λ up. up) flags) ≡ (sets.len (flagged first flags) == 0)
len-flagged first [] = sym (rw (sets.len-empty nat_cmp) refl)
len-flagged first (true ∷ flags) =
    rw (sets.len-insert nat_cmp_total (flagged (first + 1) flags) first, flagged_below (first + 1) flags first (omega arith)) (sym (ne_eqb _ 0 (λ e. omega arith)))
len-flagged first (false ∷ flags) = len-flagged (first + 1) flags
