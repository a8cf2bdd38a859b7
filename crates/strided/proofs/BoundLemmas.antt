-- What clipping and meeting keep, and what the tests and the count say.
use Rattle.std.proofs.Common.{◌≡◌, ℕ, zero, suc, ◌+◌, ◌*◌, ◌/◌, ◌%◌, ◌-◌, ◌<◌, ◌≤◌, ◌↔◌, Bool, true, false, cond, ◌&&◌, eqb, ℤ, pos, negsuc, ◌+ℤ◌, Option, Some, None, refl, sym, subst, ap, ◌∙◌, ⊎_elim, eqb-true, eq-eqb, arith}
use Rattle.std.specs.Prelude.{◌≤ℤ◌, ◌<ℤ◌, int_le, IsSomeAnd, IfSome}
use Rattle.std.specs.Bool.{then_some}
use Rattle.std.specs.Int.{int_gap, int_min, next_multiple_of, ◌∣◌}
use Rattle.std.proofs.Math.Nat.{dvd-zero, dvd-add, dvd-sub, dvd-mul_left, div-mul-le_self, le-div_iff_mul-le, div-zero, mod-lt, mod_self, mod-eq_of_lt, mul-le-mul_right, le_of_mul-le-mul_right, lt_of_mul-lt-mul_right, pos_of_ne-zero}
use Rattle.std.proofs.lemmas.Nat.{div-add-mod'}
use Rattle.std.proofs.lemmas.Bool.{cond_both, cases_eq, and_parts, and_from, and_left, and_right, true≢false, false≢true, false_from_ne_true, cond-true, cond-false, ne_eqb}
use Rattle.std.proofs.lemmas.Int.{ints, clamps}
use Rattle.strided.specs.Interval.{Interval, interval, IsMember, IsCanonical, IsBelow, IsWithin, IsClipped, HasMembers}
use Rattle.strided.specs.Operations.{spaced, span, first_from, clip, has, meet, below, count}
use Rattle.strided.proofs.MemberLemmas.{member_at, member_gap, member_within, member_above, canonical_order, divides_tells, int_le_true, int_le_false, le_int_le, lt_int_le, int_either}
use Rattle.strided.proofs.SpacedLemmas.{gap_is, member_spaced, spaced_member, spaced_canonical, same_spaced}

-- ---- the next multiple of a stride

-- it passes no multiple that is large enough
next_multiple_fits : (x s m : ℕ) → x ≤ m * s → (next_multiple_of x s ≤ m * s) × (s ∣ next_multiple_of x s)
next_multiple_fits x zero m h =
    let none : x ≡ 0 = omega arith in
    rw none (omega arith, dvd-zero 0)
next_multiple_fits x (suc t) m h =
    let split : x / suc t * suc t + x % suc t ≡ x = div-add-mod' x (suc t) in
    let small : x % suc t < suc t = mod-lt x (omega arith) in
    ⊎_elim
    (λ (whole : x % suc t ≡ 0).
    let turn : suc t - x % suc t ≡ suc t = omega arith in
    let step : (suc t - x % suc t) % suc t ≡ 0 = ap (λ (k : ℕ). k % suc t) turn ∙ mod_self (suc t) in
    let is : next_multiple_of x (suc t) ≡ x / suc t * suc t = omega arith in
    (omega arith, subst (λ (k : ℕ). suc t ∣ k) (sym is) (dvd-mul_left (suc t) (x / suc t))))
    (λ (rest : x % suc t ≡ 0 → ⊥).
    let step : (suc t - x % suc t) % suc t ≡ suc t - x % suc t = mod-eq_of_lt (omega arith) in
    let more : x / suc t < m = lt_of_mul-lt-mul_right (suc t) (omega arith) in
    let next : suc (x / suc t) * suc t ≤ m * suc t = mul-le-mul_right (suc t) (omega arith) in
    let is : next_multiple_of x (suc t) ≡ suc (x / suc t) * suc t = omega arith in
    (omega arith, subst (λ (k : ℕ). suc t ∣ k) (sym is) (dvd-mul_left (suc t) (suc (x / suc t)))))
    (cases_eq (x % suc t) 0)

-- ---- clipping

gap_none : (lo hi : ℤ) → hi <ℤ lo → int_gap lo hi ≡ 0
gap_none (pos a) (pos b) h = omega (arith, ints)
gap_none (pos a) (negsuc b) h = refl
gap_none (negsuc a) (pos b) h = absurd (omega (arith, ints))
gap_none (negsuc a) (negsuc b) h = omega (arith, ints)

-- no more than needed: a number of strides that passes lo passes the distance to it
gap_under : (lo hi : ℤ) (n : ℕ) → hi ≤ℤ (lo +ℤ pos n) → int_gap lo hi ≤ n
gap_under lo hi n h =
    ⊎_elim
    (λ (up : lo ≤ℤ hi). let e : hi ≡ lo +ℤ pos (int_gap lo hi) = gap_is lo hi up in omega (arith, ints))
    (λ (down : hi <ℤ lo). let e : int_gap lo hi ≡ 0 = gap_none lo hi down in omega arith)
    (int_either lo hi)

-- and enough
gap_over : (lo hi : ℤ) → hi ≤ℤ (lo +ℤ pos (int_gap lo hi))
gap_over lo hi =
    ⊎_elim
    (λ (up : lo ≤ℤ hi). let e : hi ≡ lo +ℤ pos (int_gap lo hi) = gap_is lo hi up in omega (arith, ints))
    (λ (down : hi <ℤ lo). omega (arith, ints))
    (int_either lo hi)

clip_keeps : (v : ℤ) (a : Interval) (lo hi : ℤ) → IsWithin v a lo hi → IsMember v (interval a.stride (first_from a lo) (int_min a.hi hi))
unfolding first_from
clip_keeps v a lo hi w =
    let s : ℕ = a.stride in
    let h : IsMember v a = w.0 in
    let above : lo ≤ℤ v = w.1 in
    let under : v ≤ℤ hi = w.2 in
    let at : v ≡ a.lo +ℤ pos (h.turns * s) = h.reached in
    let g : int_gap a.lo lo ≤ h.turns * s = gap_under a.lo lo (h.turns * s) (omega (arith, ints)) in
    let n : ℕ = next_multiple_of (int_gap a.lo lo) s in
    let fits = next_multiple_fits (int_gap a.lo lo) s h.turns g in
    let le : n ≤ h.turns * s = fits.0 in
    member_at v (interval s (a.lo +ℤ pos n) (int_min a.hi hi)) (h.turns * s - n)
    (omega (arith, ints)) (omega (arith, ints, clamps)) (dvd-sub s (dvd-mul_left s h.turns) fits.1)

clip_gives : (v : ℤ) (a : Interval) (lo hi : ℤ) → IsCanonical a → first_from a lo ≤ℤ int_min a.hi hi → IsMember v (interval a.stride (first_from a lo) (int_min a.hi hi)) → IsWithin v a lo hi
unfolding first_from
clip_gives v a lo hi form some h =
    let s : ℕ = a.stride in
    let n : ℕ = next_multiple_of (int_gap a.lo lo) s in
    let top : a.hi ≡ a.lo +ℤ pos (form.last.turns * s) = form.last.reached in
    let more : int_gap a.lo lo ≤ n = omega arith in
    let over : lo ≤ℤ (a.lo +ℤ pos (int_gap a.lo lo)) = gap_over a.lo lo in
    let room : n ≤ form.last.turns * s = omega (arith, ints, clamps) in
    let fits = next_multiple_fits (int_gap a.lo lo) s form.last.turns (omega arith) in
    let at : v ≡ (a.lo +ℤ pos n) +ℤ pos (h.turns * s) = h.reached in
    let under : v ≤ℤ int_min a.hi hi = h.in_range in (
      member_at v a (n + h.turns * s) (omega (arith, ints)) (omega (arith, ints, clamps)) (dvd-add s fits.1 (dvd-mul_left s h.turns)),
      omega (arith, ints),
      omega (arith, ints, clamps),
    )

pub member_lo : (a : Interval) → IsCanonical a → IsMember a.lo a
member_lo a form =
    let up : a.lo ≤ℤ a.hi = canonical_order a form in
    record { turns = 0; reached = omega (arith, ints); in_range = up }

clipped_form : (a : Interval) (lo hi : ℤ) → IsCanonical a → first_from a lo ≤ℤ int_min a.hi hi → IsCanonical (spaced a.stride (first_from a lo) (int_min a.hi hi))
unfolding first_from
clipped_form a lo hi form some =
    spaced_canonical a.stride (first_from a lo) (int_min a.hi hi) some (omega (arith, ints)) (omega (arith, ints, clamps))

pub clip_canonical : (a : Interval) (lo hi : ℤ) → IsCanonical a → IfSome (clip a lo hi) IsCanonical
unfolding clip span
clip_canonical a lo hi form =
    cond_both (int_le (first_from a lo) (int_min a.hi hi)) (Some (spaced a.stride (first_from a lo) (int_min a.hi hi))) None
    (λ (r : Option Interval). IfSome r IsCanonical)
    (λ yes. clipped_form a lo hi form (int_le_true (first_from a lo) (int_min a.hi hi) yes))
    (λ no. tt)

pub clip_exact : (a : Interval) (lo hi : ℤ) → IsCanonical a → IsClipped a lo hi (clip a lo hi)
unfolding clip span
clip_exact a lo hi form =
    let first : ℤ = first_from a lo in
    let top : ℤ = int_min a.hi hi in
    cond_both (int_le first top) (Some (spaced a.stride first top)) None (λ (r : Option Interval). IsClipped a lo hi r)
    (λ yes.
    let some : first ≤ℤ top = int_le_true first top yes in (
      member_lo (spaced a.stride first top) (clipped_form a lo hi form some),
      λ v. (
        λ m. clip_gives v a lo hi form some (spaced_member v a.stride first top some m),
        λ w. member_spaced v a.stride first top (clip_keeps v a lo hi w),
      ),
    ))
    (λ no v w.
    let none : top <ℤ first = int_le_false first top no in
    let m : IsMember v (interval a.stride first top) = clip_keeps v a lo hi w in
    let up : first ≤ℤ v = member_above v (interval a.stride first top) m in
    absurd (omega (arith, ints, m.in_range)))

-- ---- the test of a member

pub has_iff : (a : Interval) (v : ℤ) → (has a v ≡ true) ↔ IsMember v a
unfolding has
has_iff a v = (
  λ yes.
      let parts = and_parts (int_le a.lo v && int_le v a.hi) (eqb (int_gap a.lo v % a.stride) 0) yes in
      let ends = and_parts (int_le a.lo v) (int_le v a.hi) parts.0 in
      member_at v a (int_gap a.lo v) (gap_is a.lo v (int_le_true a.lo v ends.0)) (int_le_true v a.hi ends.1)
      ((divides_tells a.stride (int_gap a.lo v)).0 parts.1),
  λ h.
      let up : a.lo ≤ℤ v = member_above v a h in
      and_from (int_le a.lo v && int_le v a.hi) (eqb (int_gap a.lo v % a.stride) 0)
      (and_from (int_le a.lo v) (int_le v a.hi) (le_int_le a.lo v up) (le_int_le v a.hi h.in_range))
      ((divides_tells a.stride (int_gap a.lo v)).1 (member_gap v a (int_gap a.lo v) (gap_is a.lo v up) h)),
)

-- ---- meeting

pub clipped_keeps : (v : ℤ) (a : Interval) (lo hi : ℤ) (r : Option Interval) → IsClipped a lo hi r → IsWithin v a lo hi → IsSomeAnd r (λ (c : Interval). IsMember v c)
clipped_keeps v a lo hi None h w = absurd (h v w)
clipped_keeps v a lo hi (Some c) h w = (h.1 v).1 w

pub member_meet : (v : ℤ) (a b : Interval) → IsCanonical a → IsCanonical b → IsMember v a → IsMember v b → IsSomeAnd (meet a b) (λ (c : Interval). IsMember v c)
unfolding meet
member_meet v a b form other h k =
    let up : b.lo ≤ℤ v = member_above v b k in
    cond_both (eqb b.stride 0) (cond (has a b.lo) (Some b) None) (clip a b.lo b.hi) (λ (r : Option Interval). IsSomeAnd r (λ (c : Interval). IsMember v c))
    (λ single.
    let ends : b.lo ≡ b.hi = other.alone.0 (eqb-true b.stride 0 single) in
    let same : v ≡ b.lo = omega (arith, ints, k.in_range) in
    cond_both (has a b.lo) (Some b) None (λ (r : Option Interval). IsSomeAnd r (λ (c : Interval). IsMember v c))
    (λ yes. k)
    (λ no. absurd (true≢false (sym ((has_iff a b.lo).1 (subst (λ (u : ℤ). IsMember u a) same h)) ∙ no))))
    (λ many. clipped_keeps v a b.lo b.hi (clip a b.lo b.hi) (clip_exact a b.lo b.hi form) (h, up, k.in_range))

pub member_clip : (v : ℤ) (a : Interval) (lo hi : ℤ) → IsCanonical a → IsMember v a → lo ≤ℤ v → v ≤ℤ hi → IsSomeAnd (clip a lo hi) (λ (c : Interval). IsMember v c)
member_clip v a lo hi form h above under = clipped_keeps v a lo hi (clip a lo hi) (clip_exact a lo hi form) (h, above, under)

pub meet_canonical : (a b : Interval) → IsCanonical a → IsCanonical b → IfSome (meet a b) IsCanonical
unfolding meet
meet_canonical a b form other =
    cond_both (eqb b.stride 0) (cond (has a b.lo) (Some b) None) (clip a b.lo b.hi) (λ (r : Option Interval). IfSome r IsCanonical)
    (λ single. cond_both (has a b.lo) (Some b) None (λ (r : Option Interval). IfSome r IsCanonical) (λ yes. other) (λ no. tt))
    (λ many. clip_canonical a b.lo b.hi form)

-- ---- below

below_yes : (a b : Interval) → IsMember a.lo b → IsMember a.hi b → b.stride ∣ a.stride → IsBelow a b
below_yes a b low high fits v h =
    member_within v a b.stride (low.turns * b.stride) b.lo b.hi h low.reached high.in_range (dvd-mul_left b.stride low.turns) fits

-- the member after the lowest, too, is a member of b
stride_below : (a b : Interval) → IsCanonical a → IsBelow a b → b.stride ∣ a.stride
stride_below a b form all =
    ⊎_elim
    (λ (none : a.stride ≡ 0). subst (λ (k : ℕ). b.stride ∣ k) (sym none) (dvd-zero b.stride))
    (λ (some : a.stride ≡ 0 → ⊥).
    let top : a.hi ≡ a.lo +ℤ pos (form.last.turns * a.stride) = form.last.reached in
    let turn : 0 < form.last.turns = pos_of_ne-zero (λ e. some (form.alone.1 (omega (arith, ints, ap (λ (k : ℕ). k * a.stride) e)))) in
    let room : 1 * a.stride ≤ form.last.turns * a.stride = mul-le-mul_right a.stride turn in
    let next : IsMember (a.lo +ℤ pos a.stride) a = record { turns = 1; reached = omega (arith, ints); in_range = omega (arith, ints) } in
    let p : IsMember a.lo b = all a.lo (member_lo a form) in
    let q : IsMember (a.lo +ℤ pos a.stride) b = all (a.lo +ℤ pos a.stride) next in
    let is : q.turns * b.stride - p.turns * b.stride ≡ a.stride = omega (arith, ints, p.reached, q.reached) in
    subst (λ (k : ℕ). b.stride ∣ k) is (dvd-sub b.stride (dvd-mul_left b.stride q.turns) (dvd-mul_left b.stride p.turns)))
    (cases_eq a.stride 0)

pub below_iff : (a b : Interval) → IsCanonical a → (below a b ≡ true) ↔ IsBelow a b
unfolding below
below_iff a b form = (
  λ yes.
      let parts = and_parts (has b a.lo && has b a.hi) (eqb (a.stride % b.stride) 0) yes in
      let ends = and_parts (has b a.lo) (has b a.hi) parts.0 in
      below_yes a b ((has_iff b a.lo).0 ends.0) ((has_iff b a.hi).0 ends.1) ((divides_tells b.stride a.stride).0 parts.1),
  λ all.
      and_from (has b a.lo && has b a.hi) (eqb (a.stride % b.stride) 0)
      (and_from (has b a.lo) (has b a.hi) ((has_iff b a.lo).1 (all a.lo (member_lo a form))) ((has_iff b a.hi).1 (all a.hi form.last)))
      ((divides_tells b.stride a.stride).1 (stride_below a b form all)),
)

-- ---- the count

same_turns : (s j k : ℕ) → 0 < s → j * s ≡ k * s → j ≡ k
same_turns s j k some e =
    let le : j ≤ k = le_of_mul-le-mul_right {k = s} (omega arith) some in
    let ge : k ≤ j = le_of_mul-le-mul_right {k = s} (omega arith) some in
    omega arith

pub count_exact : (a : Interval) → IsCanonical a → HasMembers a (count a)
unfolding count
count_exact a form =
    let s : ℕ = a.stride in
    let up : a.lo ≤ℤ a.hi = canonical_order a form in
    let e : a.hi ≡ a.lo +ℤ pos (int_gap a.lo a.hi) = gap_is a.lo a.hi up in
    let most : int_gap a.lo a.hi / s * s ≤ int_gap a.lo a.hi = div-mul-le_self (int_gap a.lo a.hi) s in
    ⊎_elim
    (λ (none : s ≡ 0).
    let single : int_gap a.lo a.hi / s ≡ 0 = ap (λ (k : ℕ). int_gap a.lo a.hi / k) none ∙ div-zero (int_gap a.lo a.hi) in
    record {
      reached = λ k h. record { turns = k; reached = refl; in_range = omega (arith, ints, ap (λ (n : ℕ). k * n) none) };
      all = λ v h. (0, omega arith, omega (arith, ints, h.reached, ap (λ (n : ℕ). h.turns * n) none));
      apart = λ j k p q same. omega arith;
    })
    (λ (many : s ≡ 0 → ⊥).
    let some : 0 < s = pos_of_ne-zero many in
    record {
      reached = λ k h.
          let below : k * s ≤ int_gap a.lo a.hi / s * s = mul-le-mul_right s (omega arith) in
          record { turns = k; reached = refl; in_range = omega (arith, ints) };
      all = λ v h.
          let room : h.turns * s ≤ int_gap a.lo a.hi = omega (arith, ints, h.reached, h.in_range) in
          let le : h.turns ≤ int_gap a.lo a.hi / s = (le-div_iff_mul-le some).1 room in
          (h.turns, omega arith, h.reached);
      apart = λ j k p q same. same_turns s j k some (omega (arith, ints, same));
    })
    (cases_eq s 0)

-- ---- what a call answers

pub has_tells : (r : Bool) (a : Interval) (v : ℤ) → (r ≡ true) ↔ IsMember v a → r ≡ has a v
has_tells true a v h = sym ((has_iff a v).1 (h.0 refl))
has_tells false a v h = sym (false_from_ne_true (has a v) (λ e. true≢false (sym (h.1 ((has_iff a v).0 e)))))

pub same_has : (b : Interval) {r : Bool} {v : ℤ} → r ≡ has b v → (u : ℤ) → v ≡ u → r ≡ has b u
same_has b e u p = cc

pub below_no_lo : (a b : Interval) → false ≡ has b a.lo → false ≡ below a b
unfolding below
below_no_lo a b e =
    sym (and_left (has b a.lo && has b a.hi) (eqb (a.stride % b.stride) 0) (and_left (has b a.lo) (has b a.hi) (sym e)))

pub below_no_hi : (a b : Interval) → false ≡ has b a.hi → false ≡ below a b
unfolding below
below_no_hi a b e =
    sym (and_left (has b a.lo && has b a.hi) (eqb (a.stride % b.stride) 0) (and_right (has b a.lo) (has b a.hi) (sym e)))

pub below_rest : (r : Bool) (a b : Interval) → true ≡ has b a.lo → true ≡ has b a.hi → r ≡ eqb (a.stride % b.stride) 0 → r ≡ below a b
unfolding below
below_rest r a b low high e =
    let both : (has b a.lo && has b a.hi) ≡ true = and_from (has b a.lo) (has b a.hi) (sym low) (sym high) in
    e ∙ ap (λ (t : Bool). t && eqb (a.stride % b.stride) 0) (sym both)

pub below_tells : (r : Bool) (a b : Interval) → IsCanonical a → r ≡ below a b → (r ≡ true) ↔ IsBelow a b
below_tells r a b form e = subst (λ (t : Bool). (t ≡ true) ↔ IsBelow a b) (sym e) (below_iff a b form)

pub clip_of_some : {r : Interval} {s : ℕ} {first top : ℤ} → r ≡ spaced s first top → (a : Interval) (lo hi : ℤ) → s ≡ a.stride → first ≡ first_from a lo → top ≡ int_min a.hi hi → first ≤ℤ top → Some r ≡ clip a lo hi
unfolding clip span
clip_of_some {r} {s} {first} {top} e a lo hi st from to some =
    let same : r ≡ spaced a.stride (first_from a lo) (int_min a.hi hi) = same_spaced e a.stride (first_from a lo) (int_min a.hi hi) st from to in
    let yes : int_le (first_from a lo) (int_min a.hi hi) ≡ true = le_int_le (first_from a lo) (int_min a.hi hi) (subst (λ (y : ℤ). first_from a lo ≤ℤ y) to (subst (λ (x : ℤ). x ≤ℤ top) from some)) in
    ap Some same ∙ sym (cond-true (int_le (first_from a lo) (int_min a.hi hi)) (Some (spaced a.stride (first_from a lo) (int_min a.hi hi))) None yes)

pub clip_of_none : (a : Interval) (lo hi first top : ℤ) → first ≡ first_from a lo → top ≡ int_min a.hi hi → top <ℤ first → None ≡ clip a lo hi
unfolding clip span
clip_of_none a lo hi first top from to none =
    let no : int_le (first_from a lo) (int_min a.hi hi) ≡ false = lt_int_le (first_from a lo) (int_min a.hi hi) (subst (λ (y : ℤ). y <ℤ first_from a lo) to (subst (λ (x : ℤ). top <ℤ x) from none)) in
    sym (cond-false (int_le (first_from a lo) (int_min a.hi hi)) (Some (spaced a.stride (first_from a lo) (int_min a.hi hi))) None no)

pub clip_tells : (r : Option Interval) (a : Interval) (lo hi : ℤ) → IsCanonical a → r ≡ clip a lo hi → IsClipped a lo hi r
clip_tells r a lo hi form e = subst (λ (t : Option Interval). IsClipped a lo hi t) (sym e) (clip_exact a lo hi form)

pub then_some_is : (t : Bool) (x : Interval) → then_some t x ≡ cond t (Some x) None
then_some_is true x = refl
then_some_is false x = refl

pub meet_of_one : (r : Option Interval) (a b : Interval) → b.stride ≡ 0 → r ≡ cond (has a b.lo) (Some b) None → r ≡ meet a b
unfolding meet
meet_of_one r a b single e =
    e ∙ sym (cond-true (eqb b.stride 0) (cond (has a b.lo) (Some b) None) (clip a b.lo b.hi) (eq-eqb b.stride 0 single))

pub meet_of_many : (r : Option Interval) (a b : Interval) → (b.stride ≡ 0 → ⊥) → r ≡ clip a b.lo b.hi → r ≡ meet a b
unfolding meet
meet_of_many r a b many e =
    e ∙ sym (cond-false (eqb b.stride 0) (cond (has a b.lo) (Some b) None) (clip a b.lo b.hi) (ne_eqb b.stride 0 many))

pub meet_tells : (r : Option Interval) (a b : Interval) → IsCanonical a → IsCanonical b → r ≡ meet a b → (v : ℤ) → IsMember v a → IsMember v b → IsSomeAnd r (λ (c : Interval). IsMember v c)
meet_tells r a b form other e v h k =
    subst (λ (t : Option Interval). IsSomeAnd t (λ (c : Interval). IsMember v c)) (sym e) (member_meet v a b form other h k)

pub same_clip : (a : Interval) {r : Option Interval} {lo hi : ℤ} → r ≡ clip a lo hi → (lo' hi' : ℤ) → lo ≡ lo' → hi ≡ hi' → r ≡ clip a lo' hi'
same_clip a e lo' hi' p q = cc

pub same_first : (a : Interval) {r : ℤ} {lo : ℤ} → r ≡ first_from a lo → (l : ℤ) → lo ≡ l → r ≡ first_from a l
same_first a e l p = cc

pub first_above : (a : Interval) (lo : ℤ) → a.lo ≤ℤ first_from a lo
unfolding first_from
first_above a lo = omega (arith, ints)

pub first_is : (r : ℤ) (n : ℕ) (a : Interval) (lo : ℤ) → n ≡ next_multiple_of (int_gap a.lo lo) a.stride → r ≡ a.lo +ℤ pos n → r ≡ first_from a lo
unfolding first_from
first_is r n a lo e at = at ∙ ap (λ (k : ℕ). a.lo +ℤ pos k) e

pub has_under : (a : Interval) (v : ℤ) → v <ℤ a.lo → false ≡ has a v
has_under a v lt =
    has_tells false a v (λ e. absurd (false≢true e), λ h. let up : a.lo ≤ℤ v = member_above v a h in absurd (omega (arith, ints)))

pub has_over : (a : Interval) (v : ℤ) → a.hi <ℤ v → false ≡ has a v
has_over a v lt = has_tells false a v (λ e. absurd (false≢true e), λ h. absurd (omega (arith, ints, h.in_range)))
