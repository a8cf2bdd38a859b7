-- Where an address stands among spans that rise, and what cutting them there leaves.
use Rattle.std.proofs.Common.{◌≡◌, ℕ, suc, zero, ◌+◌, ◌≤◌, ◌<◌, min, max, Bool, true, false, cond, nat_le, nat_lt, leb, Some, None, List, [], ◌∷◌, ◌++◌, length, take, drop, get_or, refl, ap, ◌∙◌, sym, append_assoc, arith}
use Rattle.std.specs.Prelude.{slice_get, Option}
use Rattle.std.specs.List.Sorted.{IsNonDecreasingBy, IsPartitionPoint}
use Rattle.std.specs.Option.{option_to_list}
use Rattle.std.proofs.lemmas.Bool.{leb-true, leb-false}
use Rattle.std.proofs.lemmas.Bool.Decides.{nat_tests}
use Rattle.std.proofs.lemmas.List.Sums.{prefix_len_is}
use Rattle.std.proofs.Math.Seq.{drop-nil}
use Rattle.item_list.proofs.TruthLaws.{counted}
use Rattle.last_writers.specs.declared.spans.Written.{Written}
use Rattle.last_writers.specs.Writers.{IsRisingFrom, IsRising}
use Rattle.last_writers.specs.Cuts.{below, above, passed, low_part, high_part, middle_part, replaced}

-- each span that rises from a place ends above it
ends_above : (low k : ℕ) (ws : List Written) (d : Written) → IsRisingFrom low ws → k < length ws → low ≤ (get_or ws k d).end
ends_above low k [] d r lt = absurd (omega arith)
ends_above low zero (w ∷ ws) d r lt = let p = r.0 in let q = r.1 in omega arith
ends_above low (suc k) (w ∷ ws) d r lt = let p = r.0 in let q = r.1 in let h = ends_above w.end k ws d r.2 (omega arith) in omega arith

-- the ends of spans rise
pub ends_rise : (low : ℕ) (ws : List Written) → IsRisingFrom low ws → IsNonDecreasingBy (λ (w : Written). w.end) ws
ends_rise low [] r i j d le lt = absurd (omega arith)
ends_rise low (w ∷ ws) r zero zero d le lt = omega arith
ends_rise low (w ∷ ws) r zero (suc j) d le lt = ends_above w.end j ws d r.2 (omega arith)
ends_rise low (w ∷ ws) r (suc i) zero d le lt = absurd (omega arith)
ends_rise low (w ∷ ws) r (suc i) (suc j) d le lt = ends_rise w.end ws r.2 i j d (omega arith) (omega arith)

below_none : (low limit : ℕ) (ws : List Written) → IsRisingFrom low ws → limit ≤ low → below limit ws ≡ []
below_none low limit [] r le = refl
below_none low limit (w ∷ ws) r le =
    let p = r.0 in let q = r.1 in
    let here : nat_lt w.start limit ≡ false = grind (arith, nat_tests) in
    rw here (below_none w.end limit ws r.2 (omega arith))

above_all : (low limit : ℕ) (ws : List Written) → IsRisingFrom low ws → limit ≤ low → above limit ws ≡ ws
above_all low limit [] r le = refl
above_all low limit (w ∷ ws) r le =
    let p = r.0 in let q = r.1 in
    let here : nat_lt limit w.end ≡ true = grind (arith, nat_tests) in
    let start : max w.start limit ≡ w.start = omega arith in
    rw (here, start) (ap (λ v. w ∷ v) (above_all w.end limit ws r.2 (omega arith)))

taken_in : (b : Bool) (w : Written) → option_to_list (cond b (Some w) None) ≡ cond b (w ∷ []) []
taken_in true w = refl
taken_in false w = refl

-- the parts below an address: the spans that end there or below, and the part of the next
pub below_at : (low limit : ℕ) (ws : List Written) → IsRisingFrom low ws → below limit ws ≡ take (passed limit ws) ws ++ option_to_list (low_part limit (slice_get ws (passed limit ws)))
below_at low limit [] r = refl
below_at low limit (w ∷ ws) r =
    counted (nat_le w.end limit) (passed limit ws) (λ n. below limit (w ∷ ws) ≡ take n (w ∷ ws) ++ option_to_list (low_part limit (slice_get (w ∷ ws) n)))
    (λ yes. let e : w.end ≤ limit = leb-true _ _ yes in
    let p = r.1 in
    let here : nat_lt w.start limit ≡ true = grind (arith, nat_tests) in
    let end : min w.end limit ≡ w.end = omega arith in
    rw (here, end) (ap (λ v. w ∷ v) (below_at w.end limit ws r.2)))
    (λ no. let e : limit < w.end = leb-false _ _ no in
    let rest : below limit ws ≡ [] = below_none w.end limit ws r.2 (omega arith) in
    let end : min w.end limit ≡ limit = omega arith in
    rw (rest, end) (sym (taken_in (nat_lt w.start limit) (record { start = w.start; end = limit; step = w.step }))))

-- the parts above an address: the part of the first span that ends above it, and the spans behind that
pub above_at : (low limit : ℕ) (ws : List Written) → IsRisingFrom low ws → above limit ws ≡ option_to_list (high_part limit (slice_get ws (passed limit ws))) ++ drop (passed limit ws + 1) ws
above_at low limit [] r = refl
above_at low limit (w ∷ ws) r =
    counted (nat_le w.end limit) (passed limit ws) (λ n. above limit (w ∷ ws) ≡ option_to_list (high_part limit (slice_get (w ∷ ws) n)) ++ drop (n + 1) (w ∷ ws))
    (λ yes. let e : w.end ≤ limit = leb-true _ _ yes in
    let here : nat_lt limit w.end ≡ false = grind (arith, nat_tests) in
    let more : suc (passed limit ws) + 1 ≡ suc (passed limit ws + 1) = omega arith in
    rw (here, more) (above_at w.end limit ws r.2))
    (λ no. let e : limit < w.end = leb-false _ _ no in
    let here : nat_lt limit w.end ≡ true = grind (arith, nat_tests) in
    rw here (ap (λ v. record { start = max w.start limit; end = w.end; step = w.step } ∷ v) (above_all w.end limit ws r.2 (omega arith))))

-- more spans end at a higher address or below it
pub passed_more : (a b : ℕ) (ws : List Written) → a ≤ b → passed a ws ≤ passed b ws
passed_more a b [] le = omega arith
passed_more a b (w ∷ ws) le =
    counted (nat_le w.end a) (passed a ws) (λ n. n ≤ passed b (w ∷ ws))
    (λ yes. let e : w.end ≤ a = leb-true _ _ yes in
    let here : nat_le w.end b ≡ true = grind (arith, nat_tests) in
    let rest = passed_more a b ws le in
    rw here (omega (arith, rest)))
    (λ no. omega arith)

-- where a search by halves stops
pub point_is : (a i : ℕ) (ws : List Written) (d : Written) → i ≤ length ws → IsPartitionPoint (λ (w : Written). leb w.end a ≡ true) (λ w. leb w.end a ≡ false) ws i → i ≡ passed a ws
point_is a i ws d le p = sym (prefix_len_is (λ (w : Written). leb w.end a) ws i d le (λ k lt. p.0 k d (omega arith) lt) (λ lt. p.1 i d (omega arith) lt))

-- the spans behind the last, and those behind none
pub behind_none : (n : ℕ) (ws : List Written) → length ws ≤ n → drop n ws ≡ drop (n + 1) ws
behind_none n [] le = drop-nil n ∙ sym (drop-nil (n + 1))
behind_none zero (w ∷ ws) le = absurd (omega arith)
behind_none (suc n) (w ∷ ws) le =
    let more : suc n + 1 ≡ suc (n + 1) = omega arith in
    rw more (behind_none n ws (omega arith))

whole : (front low middle high back : List Written) → front ++ (((low ++ middle) ++ high) ++ back) ≡ ((front ++ low) ++ middle) ++ (high ++ back)
whole front low middle high back =
    ap (λ v. front ++ v) (append_assoc (low ++ middle) high back ∙ append_assoc low middle (high ++ back))
    ∙ (sym (append_assoc front low (middle ++ (high ++ back))) ∙ sym (append_assoc (front ++ low) middle (high ++ back)))

-- the spans after their middle was replaced
replaced_at : (start end : ℕ) (step : Option ℕ) (ws pieces rest : List Written) → IsRising ws
    → pieces ≡ (option_to_list (low_part start (slice_get ws (passed start ws))) ++ option_to_list (middle_part start end step)) ++ option_to_list (high_part end (slice_get ws (passed end ws)))
    → rest ≡ drop (passed end ws + 1) ws
    → take (passed start ws) ws ++ (pieces ++ rest) ≡ replaced start end step ws
replaced_at start end step ws pieces rest r is after =
    let front = take (passed start ws) ws in
    let low = option_to_list (low_part start (slice_get ws (passed start ws))) in
    let middle = option_to_list (middle_part start end step) in
    let high = option_to_list (high_part end (slice_get ws (passed end ws))) in
    let back = drop (passed end ws + 1) ws in
    rw (is, after, below_at 0 start ws r, above_at 0 end ws r) (whole front low middle high back)

-- the same of what a function has found and put together
pub replaced_there : (start end : ℕ) (step : Option ℕ) (first last behind : ℕ) (ws view pieces xs new : List Written) → IsRising ws → view ≡ ws → first ≡ passed start ws → last ≡ passed end ws
    → pieces ≡ (option_to_list (low_part start (slice_get view first)) ++ option_to_list (middle_part start end step)) ++ option_to_list (high_part end (slice_get view last))
    → xs ≡ pieces → drop behind ws ≡ drop (last + 1) ws → new ≡ take first ws ++ (xs ++ drop behind ws)
    → new ≡ replaced start end step ws
replaced_there start end step first last behind ws view pieces xs new r same from to is all after made =
    made
    ∙ (ap (λ n. take n ws ++ (xs ++ drop behind ws)) from
    ∙ replaced_at start end step ws xs (drop behind ws) r (all ∙ (is ∙ rw (same, from, to) refl)) (after ∙ ap (λ n. drop (n + 1) ws) to))
