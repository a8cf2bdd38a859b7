-- The members of both intervals are members of the join, and of the widened interval.
use Rattle.std.proofs.Common.{◌≡◌, ℕ, ◌+◌, ◌*◌, ◌/◌, ◌%◌, ◌-◌, ◌<◌, ◌≤◌, ℤ, pos, ◌+ℤ◌, refl, sym, subst, ap, ◌∙◌, ⊎_elim, arith}
use Rattle.std.specs.Prelude.{◌≤ℤ◌, ◌<ℤ◌, ◌-ℤ◌, int_le, unsigned_abs}
use Rattle.std.specs.Int.{int_gap, int_min, int_max, ◌∣◌}
use Rattle.std.proofs.Math.Nat.{dvd_trans, dvd-zero, dvd-mul_left, div-mul_cancel, le-div_iff_mul-le, mod-lt, pos_of_dvd_of_pos, pos_of_ne-zero, eq-zero_of_zero-dvd, div-mul-le_self, lt-div-mul-add}
use Rattle.std.proofs.lemmas.Nat.{div-add-mod'}
use Rattle.std.proofs.lemmas.Bool.{cond_both, cond-true, cond-false}
use Rattle.std.proofs.lemmas.Int.{ints, clamps}
use Rattle.strided.specs.Gcd.{gcd}
use Rattle.strided.specs.Interval.{Interval, interval, IsMember, IsCanonical, least, greatest}
use Rattle.strided.specs.Operations.{joint_stride, join, lowest, widen, widened_lo, widened_hi}
use Rattle.strided.specs.Rows.{HasJoinedEnds, HasWidenedEnds}
use Rattle.strided.proofs.MemberLemmas.{member_within, canonical_order, int_le_true, int_le_false, le_int_le, lt_int_le, int_either}
use Rattle.strided.proofs.GcdLemmas.{gcd_divides_left, gcd_divides_right}
use Rattle.strided.proofs.SpacedLemmas.{gap_is, member_spaced, spaced_canonical, spaced_lo, spaced_hi, spaced_hi_member}

-- ---- what the joint stride divides

pub joint_left : (a b : Interval) → joint_stride a b ∣ a.stride
unfolding joint_stride
joint_left a b =
    dvd_trans (joint_stride a b) (gcd_divides_left (gcd a.stride b.stride) (unsigned_abs (a.lo -ℤ b.lo))) (gcd_divides_left a.stride b.stride)

pub joint_right : (a b : Interval) → joint_stride a b ∣ b.stride
unfolding joint_stride
joint_right a b =
    dvd_trans (joint_stride a b) (gcd_divides_left (gcd a.stride b.stride) (unsigned_abs (a.lo -ℤ b.lo))) (gcd_divides_right a.stride b.stride)

pub joint_apart : (a b : Interval) (n : ℕ) → n ≡ unsigned_abs (a.lo -ℤ b.lo) → joint_stride a b ∣ n
unfolding joint_stride
joint_apart a b n is =
    rw is (gcd_divides_right (gcd a.stride b.stride) (unsigned_abs (a.lo -ℤ b.lo)))

-- ---- joins

member_join_by : (v : ℤ) (a b c : Interval) (d : ℕ) → IsMember v c → joint_stride a b ∣ c.stride → joint_stride a b ∣ d → c.lo ≡ int_min a.lo b.lo +ℤ pos d → c.hi ≤ℤ int_max a.hi b.hi → IsMember v (join a b)
unfolding join
member_join_by v a b c d h fits near at below =
    member_spaced v (joint_stride a b) (int_min a.lo b.lo) (int_max a.hi b.hi)
    (member_within v c (joint_stride a b) d (int_min a.lo b.lo) (int_max a.hi b.hi) h at below near fits)

pub member_join_left : (v : ℤ) (a b : Interval) → IsMember v a → IsMember v (join a b)
member_join_left v a b h =
    ⊎_elim
    (λ (le : a.lo ≤ℤ b.lo). member_join_by v a b a 0 h (joint_left a b) (dvd-zero (joint_stride a b)) (omega (arith, ints, clamps)) (omega (arith, ints, clamps)))
    (λ (gt : b.lo <ℤ a.lo).
    let n : ℕ = unsigned_abs (a.lo -ℤ b.lo) in
    member_join_by v a b a n h (joint_left a b) (joint_apart a b n refl) (omega (arith, ints, clamps)) (omega (arith, ints, clamps)))
    (int_either a.lo b.lo)

pub member_join_right : (v : ℤ) (a b : Interval) → IsMember v b → IsMember v (join a b)
member_join_right v a b h =
    ⊎_elim
    (λ (le : a.lo ≤ℤ b.lo).
    let n : ℕ = unsigned_abs (a.lo -ℤ b.lo) in
    member_join_by v a b b n h (joint_right a b) (joint_apart a b n refl) (omega (arith, ints, clamps)) (omega (arith, ints, clamps)))
    (λ (gt : b.lo <ℤ a.lo). member_join_by v a b b 0 h (joint_right a b) (dvd-zero (joint_stride a b)) (omega (arith, ints, clamps)) (omega (arith, ints, clamps)))
    (int_either a.lo b.lo)

pub join_canonical : (a b : Interval) → IsCanonical a → IsCanonical b → IsCanonical (join a b)
unfolding join
join_canonical a b h k =
    let up : a.lo ≤ℤ a.hi = canonical_order a h in
    spaced_canonical (joint_stride a b) (int_min a.lo b.lo) (int_max a.hi b.hi) (omega (arith, ints, clamps)) (omega (arith, ints, clamps)) (omega (arith, ints, clamps))

-- ---- widening

-- the least word lies whole strides below z
lowest_below : (s : ℕ) (z : ℤ) → least ≤ℤ z → z ≡ lowest s z +ℤ pos (int_gap least z / s * s)
unfolding lowest
lowest_below s z up =
    let e : z ≡ least +ℤ pos (int_gap least z) = gap_is least z up in
    let split : int_gap least z / s * s + int_gap least z % s ≡ int_gap least z = div-add-mod' (int_gap least z) s in
    omega (arith, ints)

-- where y lies whole strides below z, y too lies whole strides above the least word
lowest_under : (s q : ℕ) (y z : ℤ) → least ≤ℤ y → z ≡ y +ℤ pos (q * s) → 0 < s → (q ≤ int_gap least z / s) × (y ≡ lowest s z +ℤ pos ((int_gap least z / s - q) * s))
lowest_under s q y z up at some =
    let e : z ≡ least +ℤ pos (int_gap least z) = gap_is least z (omega (arith, ints)) in
    let fits : q * s ≤ int_gap least z = omega (arith, ints) in
    let most : q ≤ int_gap least z / s = (le-div_iff_mul-le some).1 fits in
    let from : z ≡ lowest s z +ℤ pos (int_gap least z / s * s) = lowest_below s z (omega (arith, ints)) in
    let all : int_gap least z / s ≡ q + (int_gap least z / s - q) = omega arith in
    let times : int_gap least z / s * s ≡ (q + (int_gap least z / s - q)) * s = ap (λ (k : ℕ). k * s) all in
    (most, omega (arith, ints))

lowest_in : (s : ℕ) (z : ℤ) → least ≤ℤ z → (least ≤ℤ lowest s z) × (lowest s z ≤ℤ z)
unfolding lowest
lowest_in s z up =
    let e : z ≡ least +ℤ pos (int_gap least z) = gap_is least z up in
    let split : int_gap least z / s * s + int_gap least z % s ≡ int_gap least z = div-add-mod' (int_gap least z) s in
    (omega (arith, ints), omega (arith, ints))

lo_old : (a b : Interval) → least ≤ℤ a.lo → IsMember a.lo (interval (joint_stride a b) (widened_lo (joint_stride a b) a b) a.lo)
unfolding widened_lo
lo_old a b up =
    let s : ℕ = joint_stride a b in
    cond_both (int_le a.lo b.lo) a.lo (lowest s a.lo) (λ (l : ℤ). IsMember a.lo (interval s l a.lo))
    (λ yes. record { turns = 0; reached = omega (arith, ints); in_range = omega (arith, ints) })
    (λ no. record { turns = int_gap least a.lo / s; reached = lowest_below s a.lo up; in_range = omega (arith, ints) })

lo_new : (a b : Interval) → least ≤ℤ b.lo → IsMember b.lo (interval (joint_stride a b) (widened_lo (joint_stride a b) a b) b.lo)
unfolding widened_lo
lo_new a b up =
    let s : ℕ = joint_stride a b in
    let n : ℕ = unsigned_abs (a.lo -ℤ b.lo) in
    let whole : n / s * s ≡ n = div-mul_cancel s (joint_apart a b n refl) in
    cond_both (int_le a.lo b.lo) a.lo (lowest s a.lo) (λ (l : ℤ). IsMember b.lo (interval s l b.lo))
    (λ yes.
    let le : a.lo ≤ℤ b.lo = int_le_true a.lo b.lo yes in
    record { turns = n / s; reached = omega (arith, ints); in_range = omega (arith, ints) })
    (λ no.
    let gt : b.lo <ℤ a.lo = int_le_false a.lo b.lo no in
    let some : 0 < s = pos_of_dvd_of_pos (joint_apart a b n refl) (omega (arith, ints)) in
    let under = lowest_under s (n / s) b.lo a.lo up (omega (arith, ints)) some in
    record { turns = int_gap least a.lo / s - n / s; reached = under.1; in_range = omega (arith, ints) })

hi_old : (a b : Interval) → a.hi ≤ℤ greatest → a.hi ≤ℤ widened_hi a b
unfolding widened_hi
hi_old a b top =
    cond_both (int_le b.hi a.hi) a.hi greatest (λ (h : ℤ). a.hi ≤ℤ h) (λ yes. omega (arith, ints)) (λ no. top)

hi_new : (a b : Interval) → b.hi ≤ℤ greatest → b.hi ≤ℤ widened_hi a b
unfolding widened_hi
hi_new a b top =
    cond_both (int_le b.hi a.hi) a.hi greatest (λ (h : ℤ). b.hi ≤ℤ h) (λ yes. int_le_true b.hi a.hi yes) (λ no. top)

member_widen_by : (v : ℤ) (a b c : Interval) → IsMember v c → joint_stride a b ∣ c.stride → IsMember c.lo (interval (joint_stride a b) (widened_lo (joint_stride a b) a b) c.lo) → c.hi ≤ℤ widened_hi a b → IsMember v (widen a b)
unfolding widen
member_widen_by v a b c h fits from below =
    member_spaced v (joint_stride a b) (widened_lo (joint_stride a b) a b) (widened_hi a b)
    (member_within v c (joint_stride a b) (from.turns * joint_stride a b) (widened_lo (joint_stride a b) a b) (widened_hi a b) h from.reached below
    (dvd-mul_left (joint_stride a b) from.turns) fits)

pub member_widen_old : (v : ℤ) (a b : Interval) → IsCanonical a → IsMember v a → IsMember v (widen a b)
member_widen_old v a b form h = member_widen_by v a b a h (joint_left a b) (lo_old a b form.low) (hi_old a b form.high)

pub member_widen_new : (v : ℤ) (a b : Interval) → IsCanonical b → IsMember v b → IsMember v (widen a b)
member_widen_new v a b form h = member_widen_by v a b b h (joint_right a b) (lo_new a b form.low) (hi_new a b form.high)

widened_in : (a b : Interval) → IsCanonical a → (least ≤ℤ widened_lo (joint_stride a b) a b) × (widened_lo (joint_stride a b) a b ≤ℤ a.lo)
unfolding widened_lo
widened_in a b form =
    cond_both (int_le a.lo b.lo) a.lo (lowest (joint_stride a b) a.lo) (λ (l : ℤ). (least ≤ℤ l) × (l ≤ℤ a.lo))
    (λ yes. (form.low, omega (arith, ints)))
    (λ no. lowest_in (joint_stride a b) a.lo form.low)

widened_top : (a b : Interval) → IsCanonical a → (widened_hi a b ≤ℤ greatest) × (a.hi ≤ℤ widened_hi a b)
unfolding widened_hi
widened_top a b form =
    cond_both (int_le b.hi a.hi) a.hi greatest (λ (h : ℤ). (h ≤ℤ greatest) × (a.hi ≤ℤ h))
    (λ yes. (form.high, omega (arith, ints)))
    (λ no. (omega (arith, ints), form.high))

pub widened_order : (a b : Interval) → IsCanonical a → widened_lo (joint_stride a b) a b ≤ℤ widened_hi a b
widened_order a b form =
    let up : a.lo ≤ℤ a.hi = canonical_order a form in
    let lower = widened_in a b form in
    let upper = widened_top a b form in
    omega (arith, ints)

pub widen_canonical : (a b : Interval) → IsCanonical a → IsCanonical (widen a b)
unfolding widen
widen_canonical a b form =
    let lower = widened_in a b form in
    let upper = widened_top a b form in
    spaced_canonical (joint_stride a b) (widened_lo (joint_stride a b) a b) (widened_hi a b) (widened_order a b form) lower.0 upper.0

-- ---- what a call answers

pub lo_kept : (r : ℤ) (s : ℕ) (a b : Interval) → a.lo ≤ℤ b.lo → r ≡ a.lo → r ≡ widened_lo s a b
unfolding widened_lo
lo_kept r s a b le e = e ∙ sym (cond-true (int_le a.lo b.lo) a.lo (lowest s a.lo) (le_int_le a.lo b.lo le))

pub lo_moved : (r : ℤ) (s : ℕ) (a b : Interval) → b.lo <ℤ a.lo → r ≡ lowest s a.lo → r ≡ widened_lo s a b
unfolding widened_lo
lo_moved r s a b lt e = e ∙ sym (cond-false (int_le a.lo b.lo) a.lo (lowest s a.lo) (lt_int_le a.lo b.lo lt))

pub hi_kept : (r : ℤ) (a b : Interval) → b.hi ≤ℤ a.hi → r ≡ a.hi → r ≡ widened_hi a b
unfolding widened_hi
hi_kept r a b le e = e ∙ sym (cond-true (int_le b.hi a.hi) a.hi greatest (le_int_le b.hi a.hi le))

pub hi_moved : (r : ℤ) (a b : Interval) → a.hi <ℤ b.hi → r ≡ greatest → r ≡ widened_hi a b
unfolding widened_hi
hi_moved r a b lt e = e ∙ sym (cond-false (int_le b.hi a.hi) a.hi greatest (lt_int_le b.hi a.hi lt))

pub same_lowest : {r : ℤ} {s : ℕ} {z : ℤ} → r ≡ lowest s z → (s' : ℕ) (y : ℤ) → s ≡ s' → z ≡ y → r ≡ lowest s' y
same_lowest e s' y p q = cc

-- ---- the ends

-- a member at the top stays one where the interval reaches lower by whole strides
top_within : (a : Interval) (s d : ℕ) (lo : ℤ) → IsCanonical a → a.lo ≡ lo +ℤ pos d → s ∣ d → s ∣ a.stride → IsMember a.hi (interval s lo a.hi)
top_within a s d lo form at near fits = member_within a.hi a s d lo a.hi form.last at (omega (arith, ints)) near fits

join_top_left : (a b : Interval) → IsCanonical a → IsMember a.hi (interval (joint_stride a b) (int_min a.lo b.lo) a.hi)
join_top_left a b form =
    ⊎_elim
    (λ (le : a.lo ≤ℤ b.lo). top_within a (joint_stride a b) 0 (int_min a.lo b.lo) form (omega (arith, ints, clamps)) (dvd-zero (joint_stride a b)) (joint_left a b))
    (λ (gt : b.lo <ℤ a.lo).
    let n : ℕ = unsigned_abs (a.lo -ℤ b.lo) in
    top_within a (joint_stride a b) n (int_min a.lo b.lo) form (omega (arith, ints, clamps)) (joint_apart a b n refl) (joint_left a b))
    (int_either a.lo b.lo)

join_top_right : (a b : Interval) → IsCanonical b → IsMember b.hi (interval (joint_stride a b) (int_min a.lo b.lo) b.hi)
join_top_right a b form =
    ⊎_elim
    (λ (le : a.lo ≤ℤ b.lo).
    let n : ℕ = unsigned_abs (a.lo -ℤ b.lo) in
    top_within b (joint_stride a b) n (int_min a.lo b.lo) form (omega (arith, ints, clamps)) (joint_apart a b n refl) (joint_right a b))
    (λ (gt : b.lo <ℤ a.lo). top_within b (joint_stride a b) 0 (int_min a.lo b.lo) form (omega (arith, ints, clamps)) (dvd-zero (joint_stride a b)) (joint_right a b))
    (int_either a.lo b.lo)

join_top : (a b : Interval) → IsCanonical a → IsCanonical b → IsMember (int_max a.hi b.hi) (interval (joint_stride a b) (int_min a.lo b.lo) (int_max a.hi b.hi))
join_top a b h k =
    ⊎_elim
    (λ (le : a.hi ≤ℤ b.hi).
    let top : b.hi ≡ int_max a.hi b.hi = omega (arith, ints, clamps) in
    subst (λ (z : ℤ). IsMember z (interval (joint_stride a b) (int_min a.lo b.lo) z)) top (join_top_right a b k))
    (λ (gt : b.hi <ℤ a.hi).
    let top : a.hi ≡ int_max a.hi b.hi = omega (arith, ints, clamps) in
    subst (λ (z : ℤ). IsMember z (interval (joint_stride a b) (int_min a.lo b.lo) z)) top (join_top_left a b h))
    (int_either a.hi b.hi)

pub join_ends : (a b : Interval) → IsCanonical a → IsCanonical b → HasJoinedEnds a b (join a b)
unfolding join
join_ends a b h k =
    record {
      lo = spaced_lo (joint_stride a b) (int_min a.lo b.lo) (int_max a.hi b.hi);
      hi = spaced_hi_member (joint_stride a b) (int_min a.lo b.lo) (int_max a.hi b.hi) (join_top a b h k);
    }

-- the joint stride is 0 for one number and itself alone
joint_some : (a b : Interval) → IsCanonical a → IsCanonical b → a.hi <ℤ b.hi → 0 < joint_stride a b
joint_some a b h k lt =
    pos_of_ne-zero (λ e.
    let left : a.stride ≡ 0 = eq-zero_of_zero-dvd (subst (λ (s : ℕ). s ∣ a.stride) e (joint_left a b)) in
    let right : b.stride ≡ 0 = eq-zero_of_zero-dvd (subst (λ (s : ℕ). s ∣ b.stride) e (joint_right a b)) in
    let n : ℕ = unsigned_abs (a.lo -ℤ b.lo) in
    let apart : n ≡ 0 = eq-zero_of_zero-dvd (subst (λ (s : ℕ). s ∣ n) e (joint_apart a b n refl)) in
    let first : a.lo ≡ a.hi = h.alone.0 left in
    let second : b.lo ≡ b.hi = k.alone.0 right in
    absurd (omega (arith, ints)))

lowest_least : (s : ℕ) (z : ℤ) → 0 < s → lowest s z <ℤ (least +ℤ pos s)
unfolding lowest
lowest_least s z some =
    let small : int_gap least z % s < s = mod-lt (int_gap least z) some in
    omega (arith, ints)

widen_lo_is : (a b : Interval) → (widen a b).lo ≡ widened_lo (joint_stride a b) a b
unfolding widen
widen_lo_is a b = spaced_lo (joint_stride a b) (widened_lo (joint_stride a b) a b) (widened_hi a b)

widen_lo_moved : (a b : Interval) → b.lo <ℤ a.lo → (widen a b).lo ≡ lowest (joint_stride a b) a.lo
widen_lo_moved a b lt = widen_lo_is a b ∙ sym (lo_moved (lowest (joint_stride a b) a.lo) (joint_stride a b) a b lt refl)

widen_hi_kept : (a b : Interval) → IsCanonical a → b.hi ≤ℤ a.hi → (widen a b).hi ≡ a.hi
unfolding widen
widen_hi_kept a b form le =
    let s : ℕ = joint_stride a b in
    let from : IsMember a.lo (interval s (widened_lo s a b) a.lo) = lo_old a b form.low in
    let top : a.hi ≡ widened_hi a b = hi_kept a.hi a b le refl in
    let m : IsMember a.hi (interval s (widened_lo s a b) a.hi) =
    top_within a s (from.turns * s) (widened_lo s a b) form from.reached (dvd-mul_left s from.turns) (joint_left a b) in
    spaced_hi_member s (widened_lo s a b) (widened_hi a b) (subst (λ (z : ℤ). IsMember z (interval s (widened_lo s a b) z)) top m) ∙ sym top

widen_hi_moved : (a b : Interval) → a.hi <ℤ b.hi → (widen a b).hi ≡ widened_lo (joint_stride a b) a b +ℤ pos (int_gap (widened_lo (joint_stride a b) a b) greatest / joint_stride a b * joint_stride a b)
unfolding widen
widen_hi_moved a b lt =
    let top : widened_hi a b ≡ greatest = sym (hi_moved greatest a b lt refl) in
    rw top (spaced_hi (joint_stride a b) (widened_lo (joint_stride a b) a b) greatest)

-- the greatest word at whole strides from z, z itself lying whole strides above the lower end
top_whole : (s d n : ℕ) (lo z top : ℤ) → 0 < s → z ≡ lo +ℤ pos (d * s) → z ≤ℤ greatest → greatest ≡ lo +ℤ pos n → top ≡ lo +ℤ pos (n / s * s) → IsMember top (interval s z top) × (top ≤ℤ greatest) × (greatest <ℤ (top +ℤ pos s))
top_whole s d n lo z top some at up end is =
    let under : n / s * s ≤ n = div-mul-le_self n s in
    let over : n < n / s * s + s = lt-div-mul-add some in
    let fits : d * s ≤ n = omega (arith, ints) in
    let most : d ≤ n / s = (le-div_iff_mul-le some).1 fits in
    let all : n / s ≡ d + (n / s - d) = omega arith in
    let times : n / s * s ≡ (d + (n / s - d)) * s = ap (λ (k : ℕ). k * s) all in (
      record { turns = n / s - d; reached = omega (arith, ints); in_range = omega (arith, ints) },
      omega (arith, ints),
      omega (arith, ints),
    )

widen_top : (a b : Interval) → IsCanonical a → IsCanonical b → a.hi <ℤ b.hi → IsMember (widen a b).hi (interval (joint_stride a b) a.lo (widen a b).hi) × ((widen a b).hi ≤ℤ greatest) × (greatest <ℤ ((widen a b).hi +ℤ pos (joint_stride a b)))
widen_top a b h k lt =
    let s : ℕ = joint_stride a b in
    let from : IsMember a.lo (interval s (widened_lo s a b) a.lo) = lo_old a b h.low in
    let lower = widened_in a b h in
    let up : a.lo ≤ℤ a.hi = canonical_order a h in
    let end : greatest ≡ widened_lo s a b +ℤ pos (int_gap (widened_lo s a b) greatest) = gap_is (widened_lo s a b) greatest (omega (arith, ints, lower.1, h.high)) in
    top_whole s from.turns (int_gap (widened_lo s a b) greatest) (widened_lo s a b) a.lo (widen a b).hi (joint_some a b h k lt)
    from.reached (omega (arith, ints, h.high)) end (widen_hi_moved a b lt)

joint_some_lo : (a b : Interval) → b.lo <ℤ a.lo → 0 < joint_stride a b
joint_some_lo a b lt =
    let n : ℕ = unsigned_abs (a.lo -ℤ b.lo) in
    pos_of_dvd_of_pos (joint_apart a b n refl) (omega (arith, ints))

pub widen_ends : (a b : Interval) → IsCanonical a → IsCanonical b → HasWidenedEnds a b (widen a b)
widen_ends a b h k =
    let s : ℕ = joint_stride a b in
    let is : (widen a b).lo ≡ widened_lo s a b = widen_lo_is a b in
    let lower = widened_in a b h in
    record {
      lo_kept = λ le. is ∙ sym (lo_kept a.lo s a b le refl);
      lo_whole = λ lt. subst (λ (z : ℤ). IsMember a.lo (interval s z a.lo)) (sym is) (lo_old a b h.low);
      lo_least = λ lt.
          let e : (widen a b).lo ≡ lowest s a.lo = widen_lo_moved a b lt in
          let small : lowest s a.lo <ℤ (least +ℤ pos s) = lowest_least s a.lo (joint_some_lo a b lt) in
          (omega (arith, ints, lower.0), omega (arith, ints));
      hi_kept = λ le. widen_hi_kept a b h le;
      hi_whole = λ lt. let t = widen_top a b h k lt in t.0;
      hi_greatest = λ lt. let t = widen_top a b h k lt in (t.1, t.2);
    }
