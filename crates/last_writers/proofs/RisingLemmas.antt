-- Who wrote an address last, once spans are cut and put together again.
use Rattle.std.proofs.Common.{◌≡◌, ℕ, ◌≤◌, ◌<◌, min, max, Bool, true, false, ◌&&◌, not, nat_le, nat_lt, if◌then◌else◌, Option, Some, None, List, [], ◌∷◌, ◌++◌, refl, ap, ◌∙◌, sym, subst, append_assoc, arith}
use Rattle.std.specs.Option.{option_to_list}
use Rattle.std.proofs.lemmas.Bool.{ltb-true, false≢true, cond_both}
use Rattle.std.proofs.lemmas.Bool.Decides.{nat_tests}
use Rattle.item_list.proofs.RangeLaws.{cut_below, none_below, cut_above, none_above}
use Rattle.item_list.specs.Ranges.{within}
use Rattle.last_writers.specs.declared.spans.Written.{Written}
use Rattle.last_writers.specs.Writers.{writer_at, IsRisingFrom, IsRising}
use Rattle.last_writers.specs.Cuts.{below, above, middle_part, replaced}

-- -- The writer of an address

pick : (p q : Bool) (x y : Option ℕ) → (if p && q then x else (if q then y else None)) ≡ (if q then (if p then x else y) else None)
pick true true x y = refl
pick true false x y = refl
pick false true x y = refl
pick false false x y = refl

pick_none : (p q : Bool) (x y : Option ℕ) → (p && q) ≡ false → (if q then y else None) ≡ (if q then (if p then x else y) else None)
pick_none true true x y h = absurd (false≢true (sym h))
pick_none true false x y h = refl
pick_none false true x y h = refl
pick_none false false x y h = refl

pub writer-below : (limit : ℕ) (ws : List Written) (a : ℕ) → writer_at (below limit ws) a ≡ (if nat_lt a limit then writer_at ws a else None)
writer-below limit [] a = cond_both (nat_lt a limit) None None (λ v. None ≡ v) (λ yes. refl) (λ no. refl)
writer-below limit (w ∷ ws) a =
    cond_both (nat_lt w.start limit) _ _ (λ v. writer_at v a ≡ (if nat_lt a limit then writer_at (w ∷ ws) a else None))
    (λ yes. ap (λ p. if p then Some w.step else writer_at (below limit ws) a) (cut_below w.start w.end limit a yes)
    ∙ (ap (λ v. if within w.start w.end a && nat_lt a limit then Some w.step else v) (writer-below limit ws a)
    ∙ pick (within w.start w.end a) (nat_lt a limit) (Some w.step) (writer_at ws a)))
    (λ no. writer-below limit ws a
    ∙ pick_none (within w.start w.end a) (nat_lt a limit) (Some w.step) (writer_at ws a) (none_below w.start w.end limit a no))

pub writer-above : (limit : ℕ) (ws : List Written) (a : ℕ) → writer_at (above limit ws) a ≡ (if nat_le limit a then writer_at ws a else None)
writer-above limit [] a = cond_both (nat_le limit a) None None (λ v. None ≡ v) (λ yes. refl) (λ no. refl)
writer-above limit (w ∷ ws) a =
    cond_both (nat_lt limit w.end) _ _ (λ v. writer_at v a ≡ (if nat_le limit a then writer_at (w ∷ ws) a else None))
    (λ yes. ap (λ p. if p then Some w.step else writer_at (above limit ws) a) (cut_above w.start w.end limit a yes)
    ∙ (ap (λ v. if within w.start w.end a && nat_le limit a then Some w.step else v) (writer-above limit ws a)
    ∙ pick (within w.start w.end a) (nat_le limit a) (Some w.step) (writer_at ws a)))
    (λ no. writer-above limit ws a
    ∙ pick_none (within w.start w.end a) (nat_le limit a) (Some w.step) (writer_at ws a) (none_above w.start w.end limit a no))

abbrev or_else : Option ℕ → Option ℕ → Option ℕ
or_else None y = y
or_else (Some x) y = Some x

else_if : (p : Bool) (x y z : Option ℕ) → (if p then or_else x z else or_else y z) ≡ or_else (if p then x else y) z
else_if true x y z = refl
else_if false x y z = refl

writer-append : (us vs : List Written) (a : ℕ) → writer_at (us ++ vs) a ≡ or_else (writer_at us a) (writer_at vs a)
writer-append [] vs a = refl
writer-append (u ∷ us) vs a =
    ap (λ v. if within u.start u.end a then Some u.step else v) (writer-append us vs a)
    ∙ else_if (within u.start u.end a) (Some u.step) (writer_at us a) (writer_at vs a)

none_either : (p : Bool) (e : Option ℕ) → e ≡ None → e ≡ (if p then e else e)
none_either true e is = refl
none_either false e is = refl

middle : (start end : ℕ) (step : Option ℕ) (a : ℕ) → writer_at (option_to_list (middle_part start end step)) a ≡ (if within start end a then step else None)
middle start end None a = none_either (within start end a) None refl
middle start end (Some step) a = refl

or_none : (x : Option ℕ) → or_else x None ≡ x
or_none None = refl
or_none (Some x) = refl

-- below, within and above a range, of which an address is in one
three : (p w q : Bool) (old step : Option ℕ) → w ≡ (not p && not q) → (p && q) ≡ false
    → or_else (or_else (if p then old else None) (if w then step else None)) (if q then old else None) ≡ (if w then step else old)
three true w true old step is apart = absurd (false≢true (sym apart))
three true w false old step is apart =
    rw is (or_none (or_else old None) ∙ or_none old)
three false w true old step is apart = rw is refl
three false w false old step is apart = rw is (or_none step)

-- once a range has a writer or none: that of the range is as said, and all others are as before
pub writer-replaced : (start end : ℕ) (step : Option ℕ) (ws : List Written) (a : ℕ) → start < end
    → writer_at (replaced start end step ws) a ≡ (if within start end a then step else writer_at ws a)
writer-replaced start end step ws a range =
    writer-append (below start ws ++ option_to_list (middle_part start end step)) (above end ws) a
    ∙ ap (λ v. or_else v (writer_at (above end ws) a)) (writer-append (below start ws) (option_to_list (middle_part start end step)) a)
    ∙ ap (λ v. or_else (or_else v (writer_at (option_to_list (middle_part start end step)) a)) (writer_at (above end ws) a)) (writer-below start ws a)
    ∙ ap (λ v. or_else (or_else (if nat_lt a start then writer_at ws a else None) v) (writer_at (above end ws) a)) (middle start end step a)
    ∙ ap (λ v. or_else (or_else (if nat_lt a start then writer_at ws a else None) (if within start end a then step else None)) v) (writer-above end ws a)
    ∙ three (nat_lt a start) (within start end a) (nat_le end a) (writer_at ws a) step (grind (arith, nat_tests)) (grind (arith, nat_tests))

-- -- Spans that rise

-- spans that rise from a place rise from each place below it
pub rising_from : (m l : ℕ) (ws : List Written) → m ≤ l → IsRisingFrom l ws → IsRisingFrom m ws
rising_from m l [] h r = tt
rising_from m l (w ∷ ws) h r = (omega (arith, r.0), r.1, r.2)

-- what lies above a limit rises from there
rising-above : (m l limit : ℕ) (ws : List Written) → m ≤ max l limit → IsRisingFrom l ws → IsRisingFrom m (above limit ws)
rising-above m l limit [] h r = tt
rising-above m l limit (w ∷ ws) h r =
    cond_both (nat_lt limit w.end) _ _ (λ v. IsRisingFrom m v)
    (λ yes. let e : limit < w.end = ltb-true _ _ yes in let p = r.0 in let q = r.1 in (omega arith, omega arith, rising-above w.end w.end limit ws (omega arith) r.2))
    (λ no. let p = r.0 in let q = r.1 in rising-above m w.end limit ws (omega arith) r.2)

-- what lies below a limit, and spans after it that rise from there
below_then : (m l limit : ℕ) (ws rest : List Written) → m ≤ l → m ≤ limit → IsRisingFrom l ws → IsRisingFrom limit rest → IsRisingFrom m (below limit ws ++ rest)
below_then m l limit [] rest h k r after = rising_from m limit rest k after
below_then m l limit (w ∷ ws) rest h k r after =
    cond_both (nat_lt w.start limit) _ _ (λ v. IsRisingFrom m (v ++ rest))
    (λ yes. let e : w.start < limit = ltb-true _ _ yes in let p = r.0 in let q = r.1 in (omega arith, omega arith, below_then (min w.end limit) w.end limit ws rest (omega arith) (omega arith) r.2 after))
    (λ no. let p = r.0 in let q = r.1 in below_then m w.end limit ws rest (omega arith) k r.2 after)

-- the spans once a range has a writer or none rise
pub rising-replaced : (start end : ℕ) (step : Option ℕ) (ws : List Written) → start < end → IsRising ws → IsRising (replaced start end step ws)
rising-replaced start end (Some step) ws h r =
    let span : Written = record { start = start; end = end; step = step } in
    let after : IsRisingFrom end (above end ws) = rising-above end 0 end ws (omega arith) r in
    subst (λ v. IsRising v) (sym (append_assoc (below start ws) (span ∷ []) (above end ws)))
    (below_then 0 0 start ws (span ∷ above end ws) (omega arith) (omega arith) r (omega arith, h, after))
rising-replaced start end None ws h r =
    let after : IsRisingFrom start (above end ws) = rising-above start 0 end ws (omega arith) r in
    subst (λ v. IsRising v) (sym (append_assoc (below start ws) [] (above end ws)))
    (below_then 0 0 start ws (above end ws) (omega arith) (omega arith) r after)
