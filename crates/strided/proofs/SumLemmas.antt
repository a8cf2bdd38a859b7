-- Sums, differences and negations of members are members of the sum, the difference and the negation.
use Rattle.std.proofs.Common.{◌≡◌, ℕ, suc, ◌+◌, ◌*◌, ◌/◌, ◌%◌, ◌-◌, ◌<◌, ◌≤◌, true, false, ℤ, pos, negsuc, ◌+ℤ◌, neg_ℤ, ⊎_elim, refl, sym, ap, ◌∙◌, arith}
use Rattle.std.specs.Prelude.{◌≤ℤ◌, ◌<ℤ◌, ◌-ℤ◌, ◌*ℤ◌, FitsSigned, int_le}
use Rattle.std.specs.Int.{int_wrap, cast_signed, int_gap, w32, ◌∣◌}
use Rattle.std.proofs.Math.Nat.{dvd-mul_left_of_dvd, dvd-add, dvd-sub, mod-lt}
use Rattle.std.proofs.lemmas.Nat.{div-add-mod'}
use Rattle.std.proofs.lemmas.Bool.{cond_both, cases_lt, cond-true, cond-false}
use Rattle.std.proofs.lemmas.Int.{ints, to_z-of_z, int_wrap_fits, int_wrap-add_left, int_wrap-add_right, int_wrap-mul_right, SFits-int_wrap}
use Rattle.strided.specs.Gcd.{gcd}
use Rattle.strided.specs.Interval.{Interval, interval, IsMember, IsCanonical, least, greatest, full, one}
use Rattle.strided.specs.Concrete.{signed, sum_of, difference_of, negation_of}
use Rattle.strided.specs.Operations.{spaced, fitted, wrap, add, sub, neg}
use Rattle.strided.specs.Rows.{turned, IsWrapped}
use Rattle.strided.proofs.MemberLemmas.{member_at, int_le_true, le_int_le, lt_int_le, full_canonical, one_canonical, canonical_order}
use Rattle.strided.proofs.GcdLemmas.{gcd_divides_left, gcd_divides_right}
use Rattle.strided.proofs.SpacedLemmas.{gap_is, member_spaced, spaced_canonical}

pub signed_fits : (z : ℤ) → FitsSigned w32 (signed z)
signed_fits z = SFits-int_wrap w32 z

pub member_full : (v : ℤ) → FitsSigned w32 v → IsMember v full
member_full v fits =
    let up : least ≤ℤ v = omega (arith, ints) in
    let e : v ≡ least +ℤ pos (int_gap least v) = gap_is least v up in
    record { turns = int_gap least v; reached = omega (arith, ints); in_range = omega (arith, ints) }

-- ---- the interval of two ends, brought into the signed words

pub fitted_canonical : (s : ℕ) (lo hi : ℤ) → lo ≤ℤ hi → least ≤ℤ lo → IsCanonical (fitted s lo hi)
unfolding fitted
fitted_canonical s lo hi up low =
    cond_both (int_le hi greatest) (spaced s lo hi) full IsCanonical
    (λ yes. spaced_canonical s lo hi up low (int_le_true hi greatest yes))
    (λ no. full_canonical)

pub wrap_canonical : (s : ℕ) (lo hi : ℤ) → lo ≤ℤ hi → IsCanonical (wrap s lo hi)
unfolding wrap
wrap_canonical s lo hi up =
    let fits : FitsSigned w32 (signed lo) = signed_fits lo in
    fitted_canonical s (signed lo) (signed lo +ℤ (hi -ℤ lo)) (omega (arith, ints)) (omega (arith, ints))

pub member_wrap : (v : ℤ) (s : ℕ) (lo hi : ℤ) → IsMember v (interval s lo hi) → IsMember (signed v) (wrap s lo hi)
unfolding wrap fitted
member_wrap v s lo hi h =
    let low : FitsSigned w32 (signed lo) = signed_fits lo in
    let moved : signed (signed lo +ℤ pos (h.turns * s)) ≡ signed (lo +ℤ pos (h.turns * s)) = int_wrap-add_left w32 lo (pos (h.turns * s)) in
    let same : signed v ≡ signed (signed lo +ℤ pos (h.turns * s)) = ap signed h.reached ∙ sym moved in
    cond_both (int_le (signed lo +ℤ (hi -ℤ lo)) greatest)
    (spaced s (signed lo) (signed lo +ℤ (hi -ℤ lo))) full (λ (a : Interval). IsMember (signed v) a)
    (λ yes.
    let top : (signed lo +ℤ (hi -ℤ lo)) ≤ℤ greatest = int_le_true _ _ yes in
    let stays : signed (signed lo +ℤ pos (h.turns * s)) ≡ signed lo +ℤ pos (h.turns * s) =
    int_wrap_fits w32 (signed lo +ℤ pos (h.turns * s)) (omega (arith, ints)) in
    member_spaced (signed v) s (signed lo) (signed lo +ℤ (hi -ℤ lo))
    (record { turns = h.turns; reached = same ∙ stays; in_range = omega (arith, ints) }))
    (λ no. member_full (signed v) (signed_fits v))

-- ---- the sum of members

member_sum : (v w : ℤ) (g : ℕ) (a b : Interval) → g ∣ a.stride → g ∣ b.stride → IsMember v a → IsMember w b → IsMember (v +ℤ w) (interval g (a.lo +ℤ b.lo) (a.hi +ℤ b.hi))
member_sum v w g a b ga gb h k =
    member_at (v +ℤ w) (interval g (a.lo +ℤ b.lo) (a.hi +ℤ b.hi)) (h.turns * a.stride + k.turns * b.stride)
    (omega (arith, ints)) (omega (arith, ints))
    (dvd-add g (dvd-mul_left_of_dvd g ga h.turns) (dvd-mul_left_of_dvd g gb k.turns))

pub member_add : (v w : ℤ) (a b : Interval) → IsMember v a → IsMember w b → IsMember (sum_of v w) (add a b)
unfolding add
member_add v w a b h k =
    member_wrap (v +ℤ w) (gcd a.stride b.stride) (a.lo +ℤ b.lo) (a.hi +ℤ b.hi)
    (member_sum v w (gcd a.stride b.stride) a b (gcd_divides_left a.stride b.stride) (gcd_divides_right a.stride b.stride) h k)

pub add_canonical : (a b : Interval) → IsCanonical a → IsCanonical b → IsCanonical (add a b)
unfolding add
add_canonical a b h k =
    let up : a.lo ≤ℤ a.hi = canonical_order a h in
    let wide : b.lo ≤ℤ b.hi = canonical_order b k in
    wrap_canonical (gcd a.stride b.stride) (a.lo +ℤ b.lo) (a.hi +ℤ b.hi) (omega (arith, ints))

-- ---- the difference of members, and the negation

member_difference : (v w : ℤ) (g : ℕ) (a b : Interval) → g ∣ a.stride → g ∣ b.stride → IsMember b.hi b → IsMember v a → IsMember w b → IsMember (v -ℤ w) (interval g (a.lo -ℤ b.hi) (a.hi -ℤ b.lo))
member_difference v w g a b ga gb top h k =
    member_at (v -ℤ w) (interval g (a.lo -ℤ b.hi) (a.hi -ℤ b.lo))
    (h.turns * a.stride + (top.turns * b.stride - k.turns * b.stride))
    (omega (arith, ints)) (omega (arith, ints))
    (dvd-add g (dvd-mul_left_of_dvd g ga h.turns)
    (dvd-sub g (dvd-mul_left_of_dvd g gb top.turns) (dvd-mul_left_of_dvd g gb k.turns)))

pub member_sub : (v w : ℤ) (a b : Interval) → IsCanonical b → IsMember v a → IsMember w b → IsMember (difference_of v w) (sub a b)
unfolding sub
member_sub v w a b form h k =
    member_wrap (v -ℤ w) (gcd a.stride b.stride) (a.lo -ℤ b.hi) (a.hi -ℤ b.lo)
    (member_difference v w (gcd a.stride b.stride) a b (gcd_divides_left a.stride b.stride) (gcd_divides_right a.stride b.stride) form.last h k)

pub sub_canonical : (a b : Interval) → IsCanonical a → IsCanonical b → IsCanonical (sub a b)
unfolding sub
sub_canonical a b h k =
    let up : a.lo ≤ℤ a.hi = canonical_order a h in
    let wide : b.lo ≤ℤ b.hi = canonical_order b k in
    wrap_canonical (gcd a.stride b.stride) (a.lo -ℤ b.hi) (a.hi -ℤ b.lo) (omega (arith, ints))

pub member_one : (v : ℤ) → IsMember v (one v)
member_one v = record { turns = 0; reached = omega (arith, ints); in_range = omega (arith, ints) }

pub one_member : (v w : ℤ) → IsMember w (one v) → w ≡ v
one_member v w h = omega (arith, ints)

pub member_neg : (v : ℤ) (a : Interval) → IsCanonical a → IsMember v a → IsMember (negation_of v) (neg a)
unfolding neg
member_neg v a form h = member_sub (pos 0) v (one (pos 0)) a form (member_one (pos 0)) h

pub neg_canonical : (a : Interval) → IsCanonical a → IsCanonical (neg a)
unfolding neg
neg_canonical a h = sub_canonical (one (pos 0)) a (one_canonical (pos 0) (omega (arith, ints))) h

-- ---- what a call answers

pub wrap_of_spaced : (s : ℕ) {r : Interval} {v top : ℤ} → r ≡ spaced s v top → (lo hi : ℤ) → v ≡ signed lo → top ≡ signed lo +ℤ (hi -ℤ lo) → top ≤ℤ greatest → r ≡ wrap s lo hi
unfolding wrap fitted
wrap_of_spaced s {r} {v} {top} e lo hi from to fits =
    let end : ℤ = signed lo +ℤ (hi -ℤ lo) in
    let same : r ≡ spaced s (signed lo) end = cc in
    let yes : int_le end greatest ≡ true = le_int_le end greatest (omega (arith, ints)) in
    same ∙ sym (cond-true (int_le end greatest) (spaced s (signed lo) end) full yes)

pub wrap_of_full : {r : Interval} → r ≡ full → (s : ℕ) (lo hi top : ℤ) → top ≡ signed lo +ℤ (hi -ℤ lo) → greatest <ℤ top → r ≡ wrap s lo hi
unfolding wrap fitted
wrap_of_full {r} e s lo hi top to over =
    let end : ℤ = signed lo +ℤ (hi -ℤ lo) in
    let no : int_le end greatest ≡ false = lt_int_le end greatest (omega (arith, ints)) in
    e ∙ sym (cond-false (int_le end greatest) (spaced s (signed lo) end) full no)

pub same_wrap : {r : Interval} {s : ℕ} {lo hi : ℤ} → r ≡ wrap s lo hi → (s' : ℕ) (lo' hi' : ℤ) → s ≡ s' → lo ≡ lo' → hi ≡ hi' → r ≡ wrap s' lo' hi'
same_wrap e s' lo' hi' p q t = cc

pub same_signed : {r z : ℤ} → r ≡ signed z → (y : ℤ) → z ≡ y → r ≡ signed y
same_signed e y p = e ∙ ap signed p

-- ---- the multiple of 2^32

turn_gone : signed (pos 4294967296) ≡ pos 0
unfolding int_wrap
turn_gone = refl

zero_stays : signed (pos 0) ≡ pos 0
zero_stays = int_wrap_fits w32 (pos 0) (omega (arith, ints))

times_none : (k : ℤ) → k *ℤ pos 0 ≡ pos 0
times_none k = omega (arith, ints)

pub signed_turned : (z k : ℤ) → signed (turned z k) ≡ signed z
signed_turned z k =
    let times : signed (k *ℤ pos 4294967296) ≡ signed (k *ℤ signed (pos 4294967296)) = sym (int_wrap-mul_right w32 k (pos 4294967296)) in
    let none : k *ℤ signed (pos 4294967296) ≡ pos 0 = ap (λ (y : ℤ). k *ℤ y) turn_gone ∙ times_none k in
    let gone : signed (k *ℤ pos 4294967296) ≡ pos 0 = times ∙ ap signed none ∙ zero_stays in
    let apart : signed (z +ℤ signed (k *ℤ pos 4294967296)) ≡ signed (turned z k) = int_wrap-add_right w32 z (k *ℤ pos 4294967296) in
    let still : z +ℤ signed (k *ℤ pos 4294967296) ≡ z = omega (arith, ints) in
    sym apart ∙ ap signed still

times_down : (q : ℕ) → neg_ℤ (pos q) *ℤ pos 4294967296 ≡ neg_ℤ (pos (q * 4294967296))
times_down q = omega (arith, ints)

-- a word from 2^31 up is read as negative
word_down : (m : ℕ) → 2147483648 ≤ m → m < 4294967296 → cast_signed w32 m +ℤ pos 4294967296 ≡ pos m
word_down m high small =
    let k : ℕ = 4294967296 - suc m in
    let same : 4294967296 - suc k ≡ m = omega arith in
    let fits : FitsSigned w32 (negsuc k) = omega (arith, ints) in
    let is : cast_signed w32 m ≡ negsuc k = sym (ap (λ (n : ℕ). cast_signed w32 n) same) ∙ to_z-of_z w32 (negsuc k) fits in
    omega (arith, ints)

-- a number is some multiple away from its signed word
pub signed_is_turned : (z : ℤ) → (k : ℤ) × (signed z ≡ turned z k)
unfolding int_wrap
signed_is_turned (pos a) =
    let split : a / 4294967296 * 4294967296 + a % 4294967296 ≡ a = div-add-mod' a 4294967296 in
    let small : a % 4294967296 < 4294967296 = mod-lt a (omega arith) in
    ⊎_elim
    (λ (low : a % 4294967296 < 2147483648).
    let t : neg_ℤ (pos (a / 4294967296)) *ℤ pos 4294967296 ≡ neg_ℤ (pos (a / 4294967296 * 4294967296)) = times_down (a / 4294967296) in
    (neg_ℤ (pos (a / 4294967296)), omega (arith, ints)))
    (λ (high : 2147483648 ≤ a % 4294967296).
    let t : neg_ℤ (pos (a / 4294967296 + 1)) *ℤ pos 4294967296 ≡ neg_ℤ (pos ((a / 4294967296 + 1) * 4294967296)) = times_down (a / 4294967296 + 1) in
    let is : cast_signed w32 (a % 4294967296) +ℤ pos 4294967296 ≡ pos (a % 4294967296) = word_down (a % 4294967296) high small in
    (neg_ℤ (pos (a / 4294967296 + 1)), omega (arith, ints)))
    (cases_lt (a % 4294967296) 2147483648)
signed_is_turned (negsuc a) =
    let split : a / 4294967296 * 4294967296 + a % 4294967296 ≡ a = div-add-mod' a 4294967296 in
    let small : a % 4294967296 < 4294967296 = mod-lt a (omega arith) in
    ⊎_elim
    (λ (high : a % 4294967296 < 2147483648).
    let m : ℕ = 4294967295 - a % 4294967296 in
    let is : cast_signed w32 m +ℤ pos 4294967296 ≡ pos m = word_down m (omega arith) (omega arith) in
    (pos (a / 4294967296), omega (arith, ints)))
    (λ (low : 2147483648 ≤ a % 4294967296). (pos (a / 4294967296 + 1), omega (arith, ints)))
    (cases_lt (a % 4294967296) 2147483648)

pub wrap_turned : (s : ℕ) (lo hi : ℤ) → lo ≤ℤ hi → IsWrapped s lo hi (wrap s lo hi)
wrap_turned s lo hi up =
    record {
      moved = λ k low high.
          let fits : FitsSigned w32 (turned lo k) = omega (arith, ints) in
          let start : signed lo ≡ turned lo k = sym (signed_turned lo k) ∙ int_wrap_fits w32 (turned lo k) fits in
          sym (wrap_of_spaced s {r = spaced s (turned lo k) (turned hi k)} refl lo hi (sym start) (omega (arith, ints)) high);
      unmoved = λ none.
          let near = signed_is_turned lo in
          let is : signed lo ≡ turned lo near.0 = near.1 in
          let fits : FitsSigned w32 (signed lo) = signed_fits lo in
          let over : greatest <ℤ turned hi near.0 = none near.0 (omega (arith, ints)) in
          sym (wrap_of_full {r = full} refl s lo hi (signed lo +ℤ (hi -ℤ lo)) refl (omega (arith, ints)));
    }

pub add_wrapped : (a b : Interval) → IsCanonical a → IsCanonical b → IsWrapped (gcd a.stride b.stride) (a.lo +ℤ b.lo) (a.hi +ℤ b.hi) (add a b)
unfolding add
add_wrapped a b h k =
    let up : a.lo ≤ℤ a.hi = canonical_order a h in
    let wide : b.lo ≤ℤ b.hi = canonical_order b k in
    wrap_turned (gcd a.stride b.stride) (a.lo +ℤ b.lo) (a.hi +ℤ b.hi) (omega (arith, ints))

pub sub_wrapped : (a b : Interval) → IsCanonical a → IsCanonical b → IsWrapped (gcd a.stride b.stride) (a.lo -ℤ b.hi) (a.hi -ℤ b.lo) (sub a b)
unfolding sub
sub_wrapped a b h k =
    let up : a.lo ≤ℤ a.hi = canonical_order a h in
    let wide : b.lo ≤ℤ b.hi = canonical_order b k in
    wrap_turned (gcd a.stride b.stride) (a.lo -ℤ b.hi) (a.hi -ℤ b.lo) (omega (arith, ints))
