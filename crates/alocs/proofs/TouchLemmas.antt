-- The cells that are touched, found one by one.
use Rattle.std.proofs.Common.{◌≡◌, ℕ, Bool, true, false, cond, ◌⊎◌, inl, inr, ⊎_elim, ℤ, pos, negsuc, ◌+ℤ◌, ◌-ℤ◌, Option, Some, None, List, [], ◌∷◌, ◌++◌, refl, sym, subst, ap, arith}
use Rattle.std.specs.Prelude.{◌≤ℤ◌, ◌<ℤ◌, int_lt, Contains, find}
use Rattle.std.proofs.lemmas.Int.{ints}
use Rattle.std.proofs.lemmas.List.Elements.{Contains-append_left, Contains-push, Contains-push_cases}
use Rattle.std.proofs.lemmas.Option.{none-some, same_Some}
use Rattle.image_map.specs.declared.region.Cell.{Cell}
use Rattle.strided.specs.Interval.{Interval}
use Rattle.strided.proofs.MemberLemmas.{member_above}
use Rattle.alocs.specs.Cells.{CellsRise, IsTouched, AreTouched}
use Rattle.alocs.specs.Halves.{ends_after, IsFirstFrom}
use Rattle.alocs.proofs.MemberLaws.{contains-cases, contains-head, contains-tail, contains-none}
use Rattle.alocs.proofs.CellLemmas.{EndBy, rise_append, int_lt_true, int_lt_false}

-- ---- the first cell that ends above an offset

-- a cell stands before another, which is the first to end above the offset, or it is that one, or it stands behind
pub data Beside (at : ℤ) (c d : Cell) : Type 0 where
  ahead : d.end ≤ℤ at → d.end ≤ℤ c.start → Beside at c d
  itself : c ≡ d → Beside at c d
  behind : c.end ≤ℤ d.start → d.start <ℤ d.end → Beside at c d

pub record IsFirstAfter (low at : ℤ) (cells : List Cell) (c : Cell) : Type 0 where
  pub among : Contains cells c
  pub above : at <ℤ c.end
  pub from_low : low ≤ℤ c.start
  pub some : c.start <ℤ c.end
  pub others : (d : Cell) → Contains cells d → Beside at c d

pub all_above : (low : ℤ) (cells : List Cell) → CellsRise low cells → (d : Cell) → Contains cells d → (low ≤ℤ d.start) × (d.start <ℤ d.end)
all_above low [] r d h = absurd (contains-none d h)
all_above low (c ∷ cs) r d h =
    ⊎_elim
    (λ (e : c ≡ d). subst (λ (x : Cell). (low ≤ℤ x.start) × (x.start <ℤ x.end)) e (r.0, r.1))
    (λ (k : Contains cs d).
    let q = all_above c.end cs r.2 d k in
    let p = q.0 in let m = r.0 in let n = r.1 in
    (omega (arith, ints), q.1))
    (contains-cases c cs d h)

pub first_after : (low at : ℤ) (cells : List Cell) (c : Cell) → CellsRise low cells → find (ends_after at) cells ≡ Some c → IsFirstAfter low at cells c
first_after low at [] c r some = absurd (none-some c some)
first_after low at (x ∷ xs) c r some = go (int_lt at x.end) refl some (λ e. first_after x.end at xs c r.2 e)
  where
    go : (b : Bool) → int_lt at x.end ≡ b → cond b (Some x) (find (ends_after at) xs) ≡ Some c → (find (ends_after at) xs ≡ Some c → IsFirstAfter x.end at xs c) → IsFirstAfter low at (x ∷ xs) c
    go true is e f = subst (λ (y : Cell). IsFirstAfter low at (x ∷ xs) y) (same_Some x c e) (record {
      among = contains-head x xs;
      above = int_lt_true at x.end is;
      from_low = r.0;
      some = r.1;
      others = λ d h. ⊎_elim (λ q. itself q) (λ q. let s = all_above x.end xs r.2 d q in behind s.0 s.1) (contains-cases x xs d h);
    })
    go false is e f =
        let t = f e in
        let past : x.end ≤ℤ at = int_lt_false at x.end is in
        let m = r.0 in let n = r.1 in let l = t.from_low in record {
          among = contains-tail x xs c t.among;
          above = t.above;
          from_low = omega (arith, ints);
          some = t.some;
          others = λ d h. ⊎_elim (λ (q : x ≡ d). subst (λ (y : Cell). Beside at c y) q (ahead past l)) (λ q. t.others d q) (contains-cases x xs d h);
        }

none_after : (at : ℤ) (cells : List Cell) → find (ends_after at) cells ≡ None → (d : Cell) → Contains cells d → d.end ≤ℤ at
none_after at [] none d h = absurd (contains-none d h)
none_after at (x ∷ xs) none d h = go (int_lt at x.end) refl none (λ e. none_after at xs e d)
  where
    go : (b : Bool) → int_lt at x.end ≡ b → cond b (Some x) (find (ends_after at) xs) ≡ None → (find (ends_after at) xs ≡ None → Contains xs d → d.end ≤ℤ at) → d.end ≤ℤ at
    go true is e f = absurd (none-some x (sym e))
    go false is e f = ⊎_elim (λ (q : x ≡ d). subst (λ (y : Cell). y.end ≤ℤ at) q (int_lt_false at x.end is)) (λ q. f e q) (contains-cases x xs d h)

-- ---- the touched cells up to an offset

pub record TouchedUpTo (cells : List Cell) (offsets : Interval) (len : ℕ) (at : ℤ) (out : List Cell) : Type 0 where
  pub rise : CellsRise (negsuc 2147483647) out
  pub end : EndBy at out
  pub sound : (c : Cell) → Contains out c → Contains cells c × IsTouched offsets len c
  pub complete : (c : Cell) → Contains cells c → IsTouched offsets len c → c.end ≤ℤ at → Contains out c

pub touch_begin : (cells : List Cell) (offsets : Interval) (len : ℕ) (at : ℤ) (out : List Cell) → out ≡ [] → at ≡ offsets.lo → TouchedUpTo cells offsets len at out
touch_begin cells offsets len at out none is =
    subst (λ (o : List Cell). TouchedUpTo cells offsets len at o) (sym none) (record {
      rise = tt;
      end = tt;
      sound = λ c h. absurd (contains-none c h);
      complete = λ c h t le. let low = member_above t.from offsets t.member in let below = t.below_end in absurd (omega (arith, ints));
    })

end_by : (limit : ℤ) (cells : List Cell) → ((c : Cell) → Contains cells c → c.end ≤ℤ limit) → EndBy limit cells
end_by limit [] h = tt
end_by limit (c ∷ cs) h = (h c (contains-head c cs), end_by limit cs (λ d k. h d (contains-tail c cs d k)))

pub end_of_all : (limit : ℤ) (cells : List Cell) → EndBy limit cells → (c : Cell) → Contains cells c → c.end ≤ℤ limit
end_of_all limit [] e c h = absurd (contains-none c h)
end_of_all limit (x ∷ xs) e c h = ⊎_elim (λ (q : x ≡ c). subst (λ (y : Cell). y.end ≤ℤ limit) q e.0) (λ q. end_of_all limit xs e.1 c q) (contains-cases x xs c h)

end_push : (limit : ℤ) (cells : List Cell) (c : Cell) → EndBy limit cells → c.end ≤ℤ limit → EndBy limit (cells ++ c ∷ [])
end_push limit [] c e h = (h, tt)
end_push limit (x ∷ xs) c e h = (e.0, end_push limit xs c e.1 h)

pub end_later : (limit later : ℤ) (cells : List Cell) → limit ≤ℤ later → EndBy limit cells → EndBy later cells
end_later limit later [] le e = tt
end_later limit later (x ∷ xs) le e = let p = e.0 in (omega (arith, ints), end_later limit later xs le e.1)

-- the least offset that reaches past a cell's start
abbrev pub bound_of : Cell → ℕ → ℤ
bound_of c len = (c.start -ℤ pos len) +ℤ pos 1

-- nothing from below the bound reaches the cell or one behind it
reaches : (low at : ℤ) (cells : List Cell) (c d : Cell) (offsets : Interval) (len : ℕ) → IsFirstAfter low at cells c → Contains cells d → at <ℤ d.end → (t : IsTouched offsets len d) → bound_of c len ≤ℤ t.from
reaches low at cells c d offsets len f h gt t = go (f.others d h)
  where
    past : d.start <ℤ (t.from +ℤ pos len)
    past = t.past_start

    some : c.start <ℤ c.end
    some = f.some

    go : Beside at c d → bound_of c len ≤ℤ t.from
    go (ahead e k) = absurd (omega (arith, ints))
    go (itself e) = let s : c.start ≡ d.start = ap (λ (x : Cell). x.start) e in let p = past in omega (arith, ints)
    go (behind e k) = let p = past in let q = some in omega (arith, ints)

-- the first cell that ends above the offset is touched
pub touch_more : (cells : List Cell) (offsets : Interval) (len : ℕ) (at m : ℤ) (out new : List Cell) (c : Cell) → CellsRise (negsuc 2147483647) cells → find (ends_after at) cells ≡ Some c
    → IsFirstFrom offsets (bound_of c len) (Some m) → m <ℤ c.end → new ≡ out ++ c ∷ [] → TouchedUpTo cells offsets len at out → TouchedUpTo cells offsets len c.end new
touch_more cells offsets len at m out new c r found first below is t =
    let f = first_after (negsuc 2147483647) at cells c r found in
    let low = f.from_low in let some = f.some in let above = f.above in
    let ends : EndBy c.start out = end_by c.start out (λ d h. outer d (f.others d (t.sound d h).0) (end_of_all at out t.end d h) above) in
    subst (λ (o : List Cell). TouchedUpTo cells offsets len c.end o) (sym is) (record {
      rise = rise_append (negsuc 2147483647) c.start out (c ∷ []) low t.rise ends (omega (arith, ints), some, tt);
      end = end_push c.end out c (end_later at c.end out (omega (arith, ints)) t.end) (omega (arith, ints));
      sound = λ d h. ⊎_elim (λ q. t.sound d q) (λ (q : c ≡ d). subst (λ (y : Cell). Contains cells y × IsTouched offsets len y) q (f.among, touched)) (Contains-push_cases out c d h);
      complete = λ d h u le. kept d h u le (f.others d h) (λ e. t.complete d h u e);
    })
  where
    bound : bound_of c len ≤ℤ m
    bound = first.1

    touched : IsTouched offsets len c
    touched = let b = bound in record { from = m; member = first.0; below_end = below; past_start = omega (arith, ints) }

    outer : (d : Cell) → Beside at c d → d.end ≤ℤ at → at <ℤ c.end → d.end ≤ℤ c.start
    outer d (ahead e k) le lt = k
    outer d (itself e) le lt = let s : c.end ≡ d.end = ap (λ (x : Cell). x.end) e in absurd (omega (arith, ints))
    outer d (behind e k) le lt = absurd (omega (arith, ints))

    kept : (d : Cell) → Contains cells d → IsTouched offsets len d → d.end ≤ℤ c.end → Beside at c d → (d.end ≤ℤ at → Contains out d) → Contains (out ++ c ∷ []) d
    kept d h u le (ahead e k) g = Contains-append_left out (c ∷ []) d (g e)
    kept d h u le (itself e) g = subst (λ (y : Cell). Contains (out ++ c ∷ []) y) e (Contains-push out c)
    kept d h u le (behind e k) g = absurd (omega (arith, ints))

-- the offsets that reach that far begin behind it
pub touch_skip : (cells : List Cell) (offsets : Interval) (len : ℕ) (at m : ℤ) (out : List Cell) (c : Cell) → CellsRise (negsuc 2147483647) cells → find (ends_after at) cells ≡ Some c
    → IsFirstFrom offsets (bound_of c len) (Some m) → c.end ≤ℤ m → TouchedUpTo cells offsets len at out → TouchedUpTo cells offsets len m out
touch_skip cells offsets len at m out c r found first past t =
    let f = first_after (negsuc 2147483647) at cells c r found in
    let above = f.above in record {
      rise = t.rise;
      end = end_later at m out (omega (arith, ints)) t.end;
      sound = t.sound;
      complete = λ d h u le. ⊎_elim (λ (q : int_lt at d.end ≡ true). absurd (never d h u le f (int_lt_true at d.end q))) (λ (q : int_lt at d.end ≡ false). t.complete d h u (int_lt_false at d.end q)) (cases (int_lt at d.end));
    }
  where
    cases : (b : Bool) → (b ≡ true) ⊎ (b ≡ false)
    cases true = inl refl
    cases false = inr refl

    never : (d : Cell) → Contains cells d → IsTouched offsets len d → d.end ≤ℤ m → IsFirstAfter (negsuc 2147483647) at cells c → at <ℤ d.end → ⊥
    never d h u le f gt =
        let least = first.2 u.from u.member (reaches (negsuc 2147483647) at cells c d offsets len f h gt u) in
        let below = u.below_end in
        omega (arith, ints)

pub touch_end : (cells : List Cell) (offsets : Interval) (len : ℕ) (at : ℤ) (out : List Cell) → find (ends_after at) cells ≡ None → TouchedUpTo cells offsets len at out → AreTouched cells offsets len out
touch_end cells offsets len at out none t = record {
  rise = t.rise;
  each = λ c. (t.sound c, λ h. t.complete c h.0 h.1 (none_after at cells none c h.0));
}

pub touch_last : (cells : List Cell) (offsets : Interval) (len : ℕ) (at : ℤ) (out : List Cell) (c : Cell) → CellsRise (negsuc 2147483647) cells → find (ends_after at) cells ≡ Some c
    → IsFirstFrom offsets (bound_of c len) None → TouchedUpTo cells offsets len at out → AreTouched cells offsets len out
touch_last cells offsets len at out c r found first t = record {
  rise = t.rise;
  each = λ d. (t.sound d, λ h. ⊎_elim (λ (q : int_lt at d.end ≡ true). absurd (never d h.0 h.1 (int_lt_true at d.end q))) (λ (q : int_lt at d.end ≡ false). t.complete d h.0 h.1 (int_lt_false at d.end q)) (cases (int_lt at d.end)));
} where
  cases : (b : Bool) → (b ≡ true) ⊎ (b ≡ false)
  cases true = inl refl
  cases false = inr refl

  never : (d : Cell) → Contains cells d → IsTouched offsets len d → at <ℤ d.end → ⊥
  never d h u gt =
      let f = first_after (negsuc 2147483647) at cells c r found in
      let over = reaches (negsuc 2147483647) at cells c d offsets len f h gt u in
      let under = first u.from u.member in
      omega (arith, ints)

-- ---- the same of what a call has found

pub up_to_is : (cells : List Cell) (offsets : Interval) (len : ℕ) (at past : ℤ) (out : List Cell) → past ≡ at → TouchedUpTo cells offsets len at out → TouchedUpTo cells offsets len past out
up_to_is cells offsets len at past out e t = subst (λ (a : ℤ). TouchedUpTo cells offsets len a out) (sym e) t

pub first_is : (offsets : Interval) (o : Option ℤ) {past : ℤ} → IsFirstFrom offsets past o → (bound : ℤ) → past ≡ bound → IsFirstFrom offsets bound o
first_is offsets o f bound e = subst (λ (b : ℤ). IsFirstFrom offsets b o) e f
