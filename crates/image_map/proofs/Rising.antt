-- Spans that are cut at an address, and put together again.
use Rattle.std.proofs.Common.{◌≡◌, ℕ, ◌≤◌, ◌<◌, min, max, Bool, true, false, ◌&&◌, ◌||◌, nat_le, nat_lt, if◌then◌else◌, List, [], ◌∷◌, ◌++◌, refl, ap, ◌∙◌, sym, subst, append_assoc, arith}
use Rattle.std.proofs.lemmas.Bool.{ltb-true, cond_both}
use Rattle.std.proofs.lemmas.Bool.Decides.{nat_tests}
use Rattle.std.proofs.lemmas.List.Folds.{list_any-append}
use Rattle.item_list.proofs.RangeLaws.{cut_below, none_below, cut_above, none_above}
use Rattle.item_list.specs.Ranges.{within}
use Rattle.image_map.specs.declared.spans.Span.{Span}
use Rattle.image_map.specs.Ranges.{is_any, IsRisingFrom, IsRising, below, above, replaced}

or_and : (p q r : Bool) → ((p && r) || (q && r)) ≡ ((p || q) && r)
or_and true true r = grind arith
or_and true false r = grind arith
or_and false true r = grind arith
or_and false false r = grind arith

or_none : (p q r : Bool) → (p && r) ≡ false → (q && r) ≡ ((p || q) && r)
or_none true q r h = grind arith
or_none false q r h = grind arith

-- an address is in the lower parts where it is in the spans and below the limit
pub is_any-below : (limit : ℕ) (ss : List Span) (a : ℕ) → is_any (below limit ss) a ≡ (is_any ss a && nat_lt a limit)
is_any-below limit [] a = refl
is_any-below limit (s ∷ ss) a =
    cond_both (nat_lt s.start limit) _ _ (λ v. is_any v a ≡ ((within s.start s.end a || is_any ss a) && nat_lt a limit))
    (λ yes. ap (λ v. v || is_any (below limit ss) a) (cut_below s.start s.end limit a yes)
    ∙ (ap (λ v. (within s.start s.end a && nat_lt a limit) || v) (is_any-below limit ss a)
    ∙ or_and (within s.start s.end a) (is_any ss a) (nat_lt a limit)))
    (λ no. is_any-below limit ss a
    ∙ or_none (within s.start s.end a) (is_any ss a) (nat_lt a limit) (none_below s.start s.end limit a no))

-- an address is in the upper parts where it is in the spans and not below the limit
pub is_any-above : (limit : ℕ) (ss : List Span) (a : ℕ) → is_any (above limit ss) a ≡ (is_any ss a && nat_le limit a)
is_any-above limit [] a = refl
is_any-above limit (s ∷ ss) a =
    cond_both (nat_lt limit s.end) _ _ (λ v. is_any v a ≡ ((within s.start s.end a || is_any ss a) && nat_le limit a))
    (λ yes. ap (λ v. v || is_any (above limit ss) a) (cut_above s.start s.end limit a yes)
    ∙ (ap (λ v. (within s.start s.end a && nat_le limit a) || v) (is_any-above limit ss a)
    ∙ or_and (within s.start s.end a) (is_any ss a) (nat_le limit a)))
    (λ no. is_any-above limit ss a
    ∙ or_none (within s.start s.end a) (is_any ss a) (nat_le limit a) (none_above s.start s.end limit a no))

taken : (start end a : ℕ) (old : Bool) → start < end
    → (((old && nat_lt a start) || (within start end a || false)) || (old && nat_le end a)) ≡ (if within start end a then true else old)
taken start end a true h = grind (arith, nat_tests)
taken start end a false h = grind (arith, nat_tests)

left : (start end a : ℕ) (old : Bool) → start < end
    → (((old && nat_lt a start) || false) || (old && nat_le end a)) ≡ (if within start end a then false else old)
left start end a true h = grind (arith, nat_tests)
left start end a false h = grind (arith, nat_tests)

parts : (low middle high : List Span) (a : ℕ) → is_any (low ++ middle ++ high) a ≡ ((is_any low a || is_any middle a) || is_any high a)
parts low middle high a =
    list_any-append (λ s. within s.start s.end a) (low ++ middle) high
    ∙ ap (λ v. v || is_any high a) (list_any-append (λ s. within s.start s.end a) low middle)

-- of the spans with a range in them or out of them: the range is as said, and all else as before
pub is_any-replaced : (start end : ℕ) (any : Bool) (ss : List Span) (a : ℕ) → start < end → is_any (replaced start end any ss) a ≡ (if within start end a then any else is_any ss a)
is_any-replaced start end true ss a h =
    parts (below start ss) (record { start = start; end = end } ∷ []) (above end ss) a
    ∙ (ap (λ v. (v || (within start end a || false)) || is_any (above end ss) a) (is_any-below start ss a)
    ∙ (ap (λ v. ((is_any ss a && nat_lt a start) || (within start end a || false)) || v) (is_any-above end ss a)
    ∙ taken start end a (is_any ss a) h))
is_any-replaced start end false ss a h =
    parts (below start ss) [] (above end ss) a
    ∙ (ap (λ v. (v || false) || is_any (above end ss) a) (is_any-below start ss a)
    ∙ (ap (λ v. ((is_any ss a && nat_lt a start) || false) || v) (is_any-above end ss a)
    ∙ left start end a (is_any ss a) h))

-- spans that rise from a place rise from each place below it
pub rising_from : (m l : ℕ) (ss : List Span) → m ≤ l → IsRisingFrom l ss → IsRisingFrom m ss
rising_from m l [] h r = tt
rising_from m l (s ∷ ss) h r = (omega (arith, r.0), r.1, r.2)

-- what lies above a limit rises from there
pub rising-above : (m l limit : ℕ) (ss : List Span) → m ≤ max l limit → IsRisingFrom l ss → IsRisingFrom m (above limit ss)
rising-above m l limit [] h r = tt
rising-above m l limit (s ∷ ss) h r =
    cond_both (nat_lt limit s.end) _ _ (λ v. IsRisingFrom m v)
    (λ yes. let e : limit < s.end = ltb-true _ _ yes in let p = r.0 in let q = r.1 in (omega arith, omega arith, rising-above s.end s.end limit ss (omega arith) r.2))
    (λ no. let p = r.0 in let q = r.1 in rising-above m s.end limit ss (omega arith) r.2)

-- what lies below a limit, and spans after it that rise from there
pub below_then : (m l limit : ℕ) (ss rest : List Span) → m ≤ l → m ≤ limit → IsRisingFrom l ss → IsRisingFrom limit rest → IsRisingFrom m (below limit ss ++ rest)
below_then m l limit [] rest h k r after = rising_from m limit rest k after
below_then m l limit (s ∷ ss) rest h k r after =
    cond_both (nat_lt s.start limit) _ _ (λ v. IsRisingFrom m (v ++ rest))
    (λ yes. let e : s.start < limit = ltb-true _ _ yes in let p = r.0 in let q = r.1 in (omega arith, omega arith, below_then (min s.end limit) s.end limit ss rest (omega arith) (omega arith) r.2 after))
    (λ no. let p = r.0 in let q = r.1 in below_then m s.end limit ss rest (omega arith) k r.2 after)

-- the spans with a range in them or out of them rise
pub rising-replaced : (start end : ℕ) (any : Bool) (ss : List Span) → start < end → IsRising ss → IsRising (replaced start end any ss)
rising-replaced start end true ss h r =
    let span : Span = record { start = start; end = end } in
    let after : IsRisingFrom end (above end ss) = rising-above end 0 end ss (omega arith) r in
    subst (λ v. IsRising v) (sym (append_assoc (below start ss) (span ∷ []) (above end ss)))
    (below_then 0 0 start ss (span ∷ above end ss) (omega arith) (omega arith) r (omega arith, h, after))
rising-replaced start end false ss h r =
    let after : IsRisingFrom start (above end ss) = rising-above start 0 end ss (omega arith) r in
    subst (λ v. IsRising v) (sym (append_assoc (below start ss) [] (above end ss)))
    (below_then 0 0 start ss (above end ss) (omega arith) (omega arith) r after)
