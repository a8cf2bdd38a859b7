-- What follows of every total order, and the comparisons that the code makes.
use Rattle.std.proofs.Common.{◌≡◌, ℕ, Bool, true, false, cond, nat_lt, refl, ap, sym, ◌∙◌, arith, eq-eqb, eqb-true, ltb-true}
use Rattle.std.specs.Prelude.{ℤ, ◌==◌, int_lt}
use Rattle.std.specs.Cmp.{IsTotalOrder, tied_itself}
use Rattle.std.specs.declared.cmp.Ordering.{Ordering}
use Rattle.std.specs.declared.cmp.Ordering.TheVariants.{Less, Equal, Greater}
use Rattle.std.specs.Ordering.{nat_cmp, int_cmp, ordering_then, ordering_reverse, is_eq, is_lt}
use Rattle.image_map.specs.declared.region.RegionId.{RegionId}
use Rattle.image_map.specs.declared.region.Cell.{Cell}
use Rattle.image_map.specs.Regions.{rank, number, region_cmp, same_region, region_before, ends_cmp, cell_cmp, same_cell, cell_before}

-- -- Every total order

pub less : (o : Ordering) → is_lt o ≡ true → o ≡ Less
less Less h = refl
less Equal h = absurd (cc)
less Greater h = absurd (cc)

reversed : (o : Ordering) → is_eq o ≡ false → is_lt o ≡ false → is_lt (ordering_reverse o) ≡ true
reversed Less e h = absurd (cc)
reversed Equal e h = absurd (cc)
reversed Greater e h = refl

pub before-trans : {K : Type 0} {R : K → K → Ordering} → IsTotalOrder R → (x y z : K) → is_lt (R x y) ≡ true → is_lt (R y z) ≡ true → is_lt (R x z) ≡ true
before-trans {K} {R} o x y z h k = ap is_lt (o.trans x y z (less (R x y) h) (less (R y z) k))

pub before-irreflexive : {K : Type 0} {R : K → K → Ordering} → IsTotalOrder R → (x : K) → is_lt (R x x) ≡ false
before-irreflexive o x = ap is_lt (tied_itself o x)

pub before-total : {K : Type 0} {R : K → K → Ordering} → IsTotalOrder R → (x y : K) → is_eq (R x y) ≡ false → is_lt (R x y) ≡ false → is_lt (R y x) ≡ true
before-total {K} {R} o x y e h = ap is_lt (o.antisymm y x) ∙ reversed (R x y) e h

pub same-itself : {K : Type 0} {R : K → K → Ordering} → IsTotalOrder R → (x : K) → is_eq (R x x) ≡ true
same-itself o x = ap is_eq (tied_itself o x)

-- -- One comparison after another

pub then-tied : (o p : Ordering) → is_eq o ≡ true → ordering_then o p ≡ p
then-tied Less p h = absurd (cc)
then-tied Equal p h = refl
then-tied Greater p h = absurd (cc)

pub before-then : (o p : Ordering) → is_eq o ≡ false → is_lt o ≡ is_lt (ordering_then o p)
before-then Less p h = refl
before-then Equal p h = absurd (cc)
before-then Greater p h = refl

pub same-then : (o p : Ordering) → is_eq o ≡ false → is_eq o ≡ is_eq (ordering_then o p)
same-then Less p h = refl
same-then Equal p h = absurd (cc)
same-then Greater p h = refl

-- -- Numbers

lt_go : (below same : Bool) → is_lt (cond below Less (cond same Equal Greater)) ≡ below
lt_go true same = refl
lt_go false true = refl
lt_go false false = refl

pub nat_before : (m n : ℕ) → is_lt (nat_cmp m n) ≡ nat_lt m n
nat_before m n = lt_go (nat_lt m n) (m == n)

eq_go : (below same : Bool) → (below ≡ true → same ≡ true → ⊥) → is_eq (cond below Less (cond same Equal Greater)) ≡ same
eq_go true true h = absurd (h refl refl)
eq_go true false h = refl
eq_go false true h = refl
eq_go false false h = refl

pub nat_same : (m n : ℕ) → is_eq (nat_cmp m n) ≡ (m == n)
nat_same m n = eq_go (nat_lt m n) (m == n) (λ below same. let h = ltb-true m n below in let e = eqb-true m n same in absurd (omega arith))

int_go : (below above : Bool) → is_lt (cond below Less (cond above Greater Equal)) ≡ below
int_go true above = refl
int_go false true = refl
int_go false false = refl

pub int_before : (x y : ℤ) → is_lt (int_cmp x y) ≡ int_lt x y
int_before x y = int_go (int_lt x y) (int_lt y x)

-- -- Regions

tied_ranks : (m n : ℕ) → m ≡ n → is_eq (nat_cmp m n) ≡ true
tied_ranks m n e = nat_same m n ∙ eq-eqb m n e

other_ranks : (m n : ℕ) → (m ≡ n → ⊥) → is_eq (nat_cmp m n) ≡ false
other_ranks m n h = nat_same m n ∙ grind arith

pub region_alike : (a b : RegionId) → rank a ≡ rank b → region_cmp a b ≡ nat_cmp (number a) (number b)
unfolding region_cmp
region_alike a b e = then-tied (nat_cmp (rank a) (rank b)) _ (tied_ranks (rank a) (rank b) e)

pub before_unlike : (a b : RegionId) → (rank a ≡ rank b → ⊥) → nat_lt (rank a) (rank b) ≡ region_before a b
unfolding region_cmp
before_unlike a b h = sym (nat_before (rank a) (rank b)) ∙ before-then (nat_cmp (rank a) (rank b)) _ (other_ranks (rank a) (rank b) h)

pub same_unlike : (a b : RegionId) → (rank a ≡ rank b → ⊥) → (rank a == rank b) ≡ same_region a b
unfolding region_cmp
same_unlike a b h = sym (nat_same (rank a) (rank b)) ∙ same-then (nat_cmp (rank a) (rank b)) _ (other_ranks (rank a) (rank b) h)

-- the same of numbers that the code reads
pub before_alike : (a b : RegionId) (r s m n : ℕ) → r ≡ rank a → s ≡ rank b → r ≡ s → m ≡ number a → n ≡ number b → nat_lt m n ≡ region_before a b
before_alike a b r s m n ra sb e ma nb =
    rw (ma, nb) (sym (ap is_lt (region_alike a b (sym ra ∙ (e ∙ sb))) ∙ nat_before (number a) (number b)))

pub before_other : (a b : RegionId) (r s x y : ℕ) → r ≡ rank a → s ≡ rank b → (r ≡ s → ⊥) → x ≡ rank a → y ≡ rank b → nat_lt x y ≡ region_before a b
before_other a b r s x y ra sb e xa yb = rw (xa, yb) (before_unlike a b (λ q. e (ra ∙ (q ∙ sym sb))))

pub same_alike : (a b : RegionId) (r s m n : ℕ) → r ≡ rank a → s ≡ rank b → r ≡ s → m ≡ number a → n ≡ number b → (m == n) ≡ same_region a b
same_alike a b r s m n ra sb e ma nb =
    rw (ma, nb) (sym (ap is_eq (region_alike a b (sym ra ∙ (e ∙ sb))) ∙ nat_same (number a) (number b)))

pub same_other : (a b : RegionId) (r s : ℕ) → r ≡ rank a → s ≡ rank b → (r ≡ s → ⊥) → (r == s) ≡ same_region a b
same_other a b r s ra sb e = rw (ra, sb) (same_unlike a b (λ q. e (ra ∙ (q ∙ sym sb))))

-- -- Cells

pub cell_before_alike : (a b : Cell) (here : Bool) → true ≡ same_region a.region b.region → here ≡ is_lt (ends_cmp a b) → here ≡ cell_before a b
unfolding cell_cmp
cell_before_alike a b here e is = is ∙ ap is_lt (sym (then-tied (region_cmp a.region b.region) (ends_cmp a b) (sym e)))

pub cell_before_other : (a b : Cell) (here : Bool) → false ≡ same_region a.region b.region → here ≡ region_before a.region b.region → here ≡ cell_before a b
unfolding cell_cmp
cell_before_other a b here e is = is ∙ before-then (region_cmp a.region b.region) (ends_cmp a b) (sym e)

pub same_cell_alike : (a b : Cell) (here : Bool) → true ≡ same_region a.region b.region → here ≡ is_eq (ends_cmp a b) → here ≡ same_cell a b
unfolding cell_cmp
same_cell_alike a b here e is = is ∙ ap is_eq (sym (then-tied (region_cmp a.region b.region) (ends_cmp a b) (sym e)))

pub same_cell_other : (a b : Cell) → false ≡ same_region a.region b.region → false ≡ same_cell a b
unfolding cell_cmp
same_cell_other a b e = e ∙ same-then (region_cmp a.region b.region) (ends_cmp a b) (sym e)
