-- Where an address stands among spans that rise, and what cutting them there leaves.
use Rattle.std.proofs.Common.{◌≡◌, ℕ, suc, zero, ◌+◌, ◌≤◌, ◌<◌, min, max, Bool, true, false, ◌||◌, cond, nat_le, nat_lt, ltb, leb, Some, None, List, [], ◌∷◌, ◌++◌, length, take, drop, get_or, refl, ap, ◌∙◌, sym, append_assoc, arith}
use Rattle.std.specs.Prelude.{slice_get}
use Rattle.std.specs.List.Sorted.{IsNonDecreasingBy, IsPartitionPoint}
use Rattle.std.specs.Option.{option_to_list, option_map_or}
use Rattle.std.proofs.lemmas.Bool.{ltb-true, ltb-false, leb-true, leb-false}
use Rattle.std.proofs.lemmas.Bool.Decides.{nat_tests}
use Rattle.std.proofs.lemmas.List.Sums.{prefix_len_is}
use Rattle.std.proofs.lemmas.Option.{slice_get_past}
use Rattle.std.proofs.Math.Seq.{drop-nil}
use Rattle.item_list.proofs.TruthLaws.{counted}
use Rattle.item_list.specs.Ranges.{within}
use Rattle.image_map.specs.declared.spans.Span.{Span}
use Rattle.image_map.specs.Ranges.{is_any, IsRisingFrom, IsRising, below, above, passed, low_part, high_part, middle_part, replaced}

-- each span that rises from a place ends above it
ends_above : (low k : ℕ) (ss : List Span) (d : Span) → IsRisingFrom low ss → k < length ss → low ≤ (get_or ss k d).end
ends_above low k [] d r lt = absurd (omega arith)
ends_above low zero (s ∷ ss) d r lt = let p = r.0 in let q = r.1 in omega arith
ends_above low (suc k) (s ∷ ss) d r lt = let p = r.0 in let q = r.1 in let h = ends_above s.end k ss d r.2 (omega arith) in omega arith

-- the ends of spans rise
pub ends_rise : (low : ℕ) (ss : List Span) → IsRisingFrom low ss → IsNonDecreasingBy (λ (s : Span). s.end) ss
ends_rise low [] r i j d le lt = absurd (omega arith)
ends_rise low (s ∷ ss) r zero zero d le lt = omega arith
ends_rise low (s ∷ ss) r zero (suc j) d le lt = ends_above s.end j ss d r.2 (omega arith)
ends_rise low (s ∷ ss) r (suc i) zero d le lt = absurd (omega arith)
ends_rise low (s ∷ ss) r (suc i) (suc j) d le lt = ends_rise s.end ss r.2 i j d (omega arith) (omega arith)

-- nothing of the spans lies below the place that they rise from
none_low : (low a : ℕ) (ss : List Span) → IsRisingFrom low ss → a < low → is_any ss a ≡ false
none_low low a [] r lt = refl
none_low low a (s ∷ ss) r lt =
    let p = r.0 in let q = r.1 in
    let rest : is_any ss a ≡ false = none_low s.end a ss r.2 (omega arith) in
    let here : within s.start s.end a ≡ false = grind (arith, nat_tests) in
    rw (here, rest) refl

below_none : (low limit : ℕ) (ss : List Span) → IsRisingFrom low ss → limit ≤ low → below limit ss ≡ []
below_none low limit [] r le = refl
below_none low limit (s ∷ ss) r le =
    let p = r.0 in let q = r.1 in
    let here : nat_lt s.start limit ≡ false = grind (arith, nat_tests) in
    rw here (below_none s.end limit ss r.2 (omega arith))

above_all : (low limit : ℕ) (ss : List Span) → IsRisingFrom low ss → limit ≤ low → above limit ss ≡ ss
above_all low limit [] r le = refl
above_all low limit (s ∷ ss) r le =
    let p = r.0 in let q = r.1 in
    let here : nat_lt limit s.end ≡ true = grind (arith, nat_tests) in
    let start : max s.start limit ≡ s.start = omega arith in
    rw (here, start) (ap (λ v. s ∷ v) (above_all s.end limit ss r.2 (omega arith)))

last_part : (b : Bool) → b ≡ (b || false)
last_part true = refl
last_part false = refl

-- an address lies in spans where it lies in the first that ends above it
pub is_any_at : (low a : ℕ) (ss : List Span) → IsRisingFrom low ss → option_map_or (λ (s : Span). nat_le s.start a) (slice_get ss (passed a ss)) false ≡ is_any ss a
is_any_at low a [] r = refl
is_any_at low a (s ∷ ss) r =
    counted (nat_le s.end a) (passed a ss) (λ n. option_map_or (λ (t : Span). nat_le t.start a) (slice_get (s ∷ ss) n) false ≡ is_any (s ∷ ss) a)
    (λ yes. let e : s.end ≤ a = leb-true _ _ yes in
    let here : within s.start s.end a ≡ false = grind (arith, nat_tests) in
    rw here (is_any_at s.end a ss r.2))
    (λ no. let e : a < s.end = leb-false _ _ no in
    let rest : is_any ss a ≡ false = none_low s.end a ss r.2 e in
    let here : within s.start s.end a ≡ nat_le s.start a = grind (arith, nat_tests) in
    rw (rest, here) (last_part (nat_le s.start a)))

taken_in : (b : Bool) (s : Span) → option_to_list (cond b (Some s) None) ≡ cond b (s ∷ []) []
taken_in true s = refl
taken_in false s = refl

got : (ss : List Span) (i : ℕ) (x : Span) → i < length ss → x ≡ get_or ss i x → slice_get ss i ≡ Some x
got [] i x lt is = absurd (omega arith)
got (s ∷ ss) zero x lt is = ap (λ v. Some v) (sym is)
got (s ∷ ss) (suc i) x lt is = got ss i x (omega arith) is

-- the same of an element that was read
pub is_any_here : (a i : ℕ) (ss : List Span) (x : Span) → IsRising ss → i ≡ passed a ss → true ≡ ltb i (length ss) → x ≡ get_or ss i x → nat_le x.start a ≡ is_any ss a
is_any_here a i ss x r is lt here =
    let inside : i < length ss = ltb-true _ _ (sym lt) in
    ap (λ o. option_map_or (λ (s : Span). nat_le s.start a) o false) (sym (got ss i x inside here) ∙ ap (λ n. slice_get ss n) is) ∙ is_any_at 0 a ss r

pub is_any_past : (a i : ℕ) (ss : List Span) → IsRising ss → i ≡ passed a ss → false ≡ ltb i (length ss) → false ≡ is_any ss a
is_any_past a i ss r is lt =
    let past : length ss ≤ i = ltb-false _ _ (sym lt) in
    ap (λ o. option_map_or (λ (s : Span). nat_le s.start a) o false) (sym (slice_get_past ss i past) ∙ ap (λ n. slice_get ss n) is) ∙ is_any_at 0 a ss r

-- the parts below an address: the spans that end there or below, and the part of the next
pub below_at : (low limit : ℕ) (ss : List Span) → IsRisingFrom low ss → below limit ss ≡ take (passed limit ss) ss ++ option_to_list (low_part limit (slice_get ss (passed limit ss)))
below_at low limit [] r = refl
below_at low limit (s ∷ ss) r =
    counted (nat_le s.end limit) (passed limit ss) (λ n. below limit (s ∷ ss) ≡ take n (s ∷ ss) ++ option_to_list (low_part limit (slice_get (s ∷ ss) n)))
    (λ yes. let e : s.end ≤ limit = leb-true _ _ yes in
    let p = r.1 in
    let here : nat_lt s.start limit ≡ true = grind (arith, nat_tests) in
    let end : min s.end limit ≡ s.end = omega arith in
    rw (here, end) (ap (λ v. s ∷ v) (below_at s.end limit ss r.2)))
    (λ no. let e : limit < s.end = leb-false _ _ no in
    let rest : below limit ss ≡ [] = below_none s.end limit ss r.2 (omega arith) in
    let end : min s.end limit ≡ limit = omega arith in
    rw (rest, end) (sym (taken_in (nat_lt s.start limit) (record { start = s.start; end = limit }))))

-- the parts above an address: the part of the first span that ends above it, and the spans behind that
pub above_at : (low limit : ℕ) (ss : List Span) → IsRisingFrom low ss → above limit ss ≡ option_to_list (high_part limit (slice_get ss (passed limit ss))) ++ drop (passed limit ss + 1) ss
above_at low limit [] r = refl
above_at low limit (s ∷ ss) r =
    counted (nat_le s.end limit) (passed limit ss) (λ n. above limit (s ∷ ss) ≡ option_to_list (high_part limit (slice_get (s ∷ ss) n)) ++ drop (n + 1) (s ∷ ss))
    (λ yes. let e : s.end ≤ limit = leb-true _ _ yes in
    let here : nat_lt limit s.end ≡ false = grind (arith, nat_tests) in
    let more : suc (passed limit ss) + 1 ≡ suc (passed limit ss + 1) = omega arith in
    rw (here, more) (above_at s.end limit ss r.2))
    (λ no. let e : limit < s.end = leb-false _ _ no in
    let here : nat_lt limit s.end ≡ true = grind (arith, nat_tests) in
    rw here (ap (λ v. record { start = max s.start limit; end = s.end } ∷ v) (above_all s.end limit ss r.2 (omega arith))))

-- more spans end at a higher address or below it
pub passed_more : (a b : ℕ) (ss : List Span) → a ≤ b → passed a ss ≤ passed b ss
passed_more a b [] le = omega arith
passed_more a b (s ∷ ss) le =
    counted (nat_le s.end a) (passed a ss) (λ n. n ≤ passed b (s ∷ ss))
    (λ yes. let e : s.end ≤ a = leb-true _ _ yes in
    let here : nat_le s.end b ≡ true = grind (arith, nat_tests) in
    let rest = passed_more a b ss le in
    rw here (omega (arith, rest)))
    (λ no. omega arith)

-- where a search by halves stops
pub point_is : (a i : ℕ) (ss : List Span) (d : Span) → i ≤ length ss → IsPartitionPoint (λ (s : Span). leb s.end a ≡ true) (λ s. leb s.end a ≡ false) ss i → i ≡ passed a ss
point_is a i ss d le p = sym (prefix_len_is (λ (s : Span). leb s.end a) ss i d le (λ k lt. p.0 k d (omega arith) lt) (λ lt. p.1 i d (omega arith) lt))

-- the spans behind the last, and those behind none
pub behind_none : (n : ℕ) (ss : List Span) → length ss ≤ n → drop n ss ≡ drop (n + 1) ss
behind_none n [] le = drop-nil n ∙ sym (drop-nil (n + 1))
behind_none zero (s ∷ ss) le = absurd (omega arith)
behind_none (suc n) (s ∷ ss) le =
    let more : suc n + 1 ≡ suc (n + 1) = omega arith in
    rw more (behind_none n ss (omega arith))

whole : (front low middle high back : List Span) → front ++ (((low ++ middle) ++ high) ++ back) ≡ ((front ++ low) ++ middle) ++ (high ++ back)
whole front low middle high back =
    ap (λ v. front ++ v) (append_assoc (low ++ middle) high back ∙ append_assoc low middle (high ++ back))
    ∙ (sym (append_assoc front low (middle ++ (high ++ back))) ∙ sym (append_assoc (front ++ low) middle (high ++ back)))

-- the spans after their middle was replaced
pub replaced_at : (start end : ℕ) (any : Bool) (ss pieces rest : List Span) → IsRising ss
    → pieces ≡ (option_to_list (low_part start (slice_get ss (passed start ss))) ++ option_to_list (middle_part start end any)) ++ option_to_list (high_part end (slice_get ss (passed end ss)))
    → rest ≡ drop (passed end ss + 1) ss
    → take (passed start ss) ss ++ (pieces ++ rest) ≡ replaced start end any ss
replaced_at start end any ss pieces rest r is after =
    let front = take (passed start ss) ss in
    let low = option_to_list (low_part start (slice_get ss (passed start ss))) in
    let middle = option_to_list (middle_part start end any) in
    let high = option_to_list (high_part end (slice_get ss (passed end ss))) in
    let back = drop (passed end ss + 1) ss in
    rw (is, after, below_at 0 start ss r, above_at 0 end ss r, ← taken_in any (record { start = start; end = end })) (whole front low middle high back)

-- the same of what a function has found and put together
pub replaced_there : (start end : ℕ) (any : Bool) (first last behind : ℕ) (ss view pieces xs new : List Span) → IsRising ss → view ≡ ss → first ≡ passed start ss → last ≡ passed end ss
    → pieces ≡ (option_to_list (low_part start (slice_get view first)) ++ option_to_list (middle_part start end any)) ++ option_to_list (high_part end (slice_get view last))
    → xs ≡ pieces → drop behind ss ≡ drop (last + 1) ss → new ≡ take first ss ++ (xs ++ drop behind ss)
    → new ≡ replaced start end any ss
replaced_there start end any first last behind ss view pieces xs new r same from to is all after made =
    made
    ∙ (ap (λ n. take n ss ++ (xs ++ drop behind ss)) from
    ∙ replaced_at start end any ss xs (drop behind ss) r (all ∙ (is ∙ rw (same, from, to) refl)) (after ∙ ap (λ n. drop (n + 1) ss) to))
