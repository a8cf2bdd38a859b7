-- What is told of all that was met, from what was noted of it.
use Rattle.std.proofs.Common.{◌≡◌, ◌≤◌, ℕ, Bool, true, false, cond, ◌||◌, List, [], ◌∷◌, ◌++◌, length, refl, sym, ◌∙◌, ap}
use Rattle.std.specs.Prelude.{filter}
use Rattle.std.specs.List.{list_any}
use Rattle.vset.specs.declared.part.Part.{Part}
use Rattle.abs_semantics.specs.declared.parts.Reason.{Reason}
use Rattle.abs_semantics.specs.declared.parts.Reason.TheVariants.{UnknownWrite, OutOfRegion, HeapOverrun}
use Rattle.abs_semantics.specs.States.{AbsState}
use Rattle.abs_semantics.specs.Resolve.{Met, Resolved, is_listed, is_refused_by, rising_onto, places, verdict_on, told_of_few}
use Rattle.abs_resolve.specs.Search.{Noted, nothing, put_if, noted, all_noted, is_crowd, with_reason, reasons_of, crowded, finished}
use Rattle.abs_resolve.proofs.PartLemmas.{rising_longer, more_crowd}

pub noted_append : (a : AbsState) (p len : ℕ) (n : Noted) (xs ys : List Met) → all_noted a p len n (xs ++ ys) ≡ all_noted a p len (all_noted a p len n xs) ys
unfolding all_noted
noted_append a p len n [] ys = refl
noted_append a p len n (x ∷ xs) ys = noted_append a p len (noted (verdict_on a p len x) x.place n) xs ys

pub seen_is : (a : AbsState) (p len : ℕ) (n : Noted) (ms : List Met) → (all_noted a p len n ms).seen ≡ rising_onto n.seen (places ms)
unfolding all_noted rising_onto
seen_is a p len n [] = refl
seen_is a p len n (m ∷ ms) = seen_is a p len (noted (verdict_on a p len m) m.place n) ms

entries_are : (a : AbsState) (p len : ℕ) (n : Noted) (ms : List Met) → (all_noted a p len n ms).entries ≡ rising_onto n.entries (places (filter (λ (m : Met). is_listed (verdict_on a p len m)) ms))
unfolding all_noted rising_onto
entries_are a p len n [] = refl
entries_are a p len n (m ∷ ms) = entries_are a p len (noted (verdict_on a p len m) m.place n) ms ∙ by_test (is_listed (verdict_on a p len m))
  where
    rest : List Met
    rest = filter (λ (m : Met). is_listed (verdict_on a p len m)) ms

    by_test : (t : Bool) → rising_onto (put_if t m.place n.entries) (places rest) ≡ rising_onto n.entries (places (cond t (m ∷ rest) rest))
    by_test true = refl
    by_test false = refl

or_assoc : (s t u : Bool) → ((s || t) || u) ≡ (s || (t || u))
or_assoc true t u = refl
or_assoc false t u = refl

abbrev refused_in : AbsState → ℕ → ℕ → Reason → List Met → Bool
refused_in a p len r ms = list_any (λ (m : Met). is_refused_by r (verdict_on a p len m)) ms

unknown_is : (a : AbsState) (p len : ℕ) (n : Noted) (ms : List Met) → (all_noted a p len n ms).unknown_write ≡ (n.unknown_write || refused_in a p len UnknownWrite ms)
unfolding all_noted
unknown_is a p len n [] = or_false n.unknown_write
  where
    or_false : (t : Bool) → t ≡ (t || false)
    or_false true = refl
    or_false false = refl
unknown_is a p len n (m ∷ ms) = let v = verdict_on a p len m in unknown_is a p len (noted v m.place n) ms ∙ or_assoc n.unknown_write (is_refused_by UnknownWrite v) (refused_in a p len UnknownWrite ms)

outside_is : (a : AbsState) (p len : ℕ) (n : Noted) (ms : List Met) → (all_noted a p len n ms).out_of_region ≡ (n.out_of_region || refused_in a p len OutOfRegion ms)
unfolding all_noted
outside_is a p len n [] = or_false n.out_of_region
  where
    or_false : (t : Bool) → t ≡ (t || false)
    or_false true = refl
    or_false false = refl
outside_is a p len n (m ∷ ms) = let v = verdict_on a p len m in outside_is a p len (noted v m.place n) ms ∙ or_assoc n.out_of_region (is_refused_by OutOfRegion v) (refused_in a p len OutOfRegion ms)

overrun_is : (a : AbsState) (p len : ℕ) (n : Noted) (ms : List Met) → (all_noted a p len n ms).heap_overrun ≡ (n.heap_overrun || refused_in a p len HeapOverrun ms)
unfolding all_noted
overrun_is a p len n [] = or_false n.heap_overrun
  where
    or_false : (t : Bool) → t ≡ (t || false)
    or_false true = refl
    or_false false = refl
overrun_is a p len n (m ∷ ms) = let v = verdict_on a p len m in overrun_is a p len (noted v m.place n) ms ∙ or_assoc n.heap_overrun (is_refused_by HeapOverrun v) (refused_in a p len HeapOverrun ms)

reasons_are : (f : Reason → Bool) → filter f (UnknownWrite ∷ OutOfRegion ∷ HeapOverrun ∷ []) ≡ with_reason (f UnknownWrite) UnknownWrite (with_reason (f OutOfRegion) OutOfRegion (with_reason (f HeapOverrun) HeapOverrun []))
reasons_are f = by_tests (f UnknownWrite) (f OutOfRegion) (f HeapOverrun)
  where
    last : Bool → List Reason
    last u = cond u (HeapOverrun ∷ []) []

    both : Bool → Bool → List Reason
    both t u = cond t (OutOfRegion ∷ last u) (last u)

    by_tests : (s t u : Bool) → cond s (UnknownWrite ∷ both t u) (both t u) ≡ with_reason s UnknownWrite (with_reason t OutOfRegion (with_reason u HeapOverrun []))
    by_tests true true true = refl
    by_tests true true false = refl
    by_tests true false true = refl
    by_tests true false false = refl
    by_tests false true true = refl
    by_tests false true false = refl
    by_tests false false true = refl
    by_tests false false false = refl

abbrev told_by : List Part → List Part → List Reason → Resolved
told_by seen entries reasons = cond (is_crowd seen) crowded (record { entries = entries; reasons = reasons })

told_alike : (seen seen' entries entries' : List Part) (reasons reasons' : List Reason) → seen ≡ seen' → entries ≡ entries' → reasons ≡ reasons' → told_by seen entries reasons ≡ told_by seen' entries' reasons'
told_alike seen seen' entries entries' reasons reasons' s e r = cc

pub told_is : (a : AbsState) (p len : ℕ) (ms : List Met) → told_of_few a p len ms ≡ finished (all_noted a p len nothing ms)
told_is a p len ms =
    let n = all_noted a p len nothing ms in
    let reasons : filter (λ (r : Reason). refused_in a p len r ms) (UnknownWrite ∷ OutOfRegion ∷ HeapOverrun ∷ []) ≡ reasons_of n =
    reasons_are (λ r. refused_in a p len r ms) ∙ rw (unknown_is a p len nothing ms, outside_is a p len nothing ms, overrun_is a p len nothing ms) refl in
    told_alike (rising_onto [] (places ms)) n.seen (rising_onto [] (places (filter (λ (m : Met). is_listed (verdict_on a p len m)) ms))) n.entries
    (filter (λ (r : Reason). refused_in a p len r ms) (UnknownWrite ∷ OutOfRegion ∷ HeapOverrun ∷ [])) (reasons_of n)
    (sym (seen_is a p len nothing ms)) (sym (entries_are a p len nothing ms)) reasons

-- -- Too many

crowd_is : (n : Noted) → is_crowd n.seen ≡ true → finished n ≡ crowded
crowd_is n crowd = ap (λ t. cond t crowded (record { entries = n.entries; reasons = reasons_of n })) crowd

pub seen_grows : (a : AbsState) (p len : ℕ) (n : Noted) (ms : List Met) → is_crowd n.seen ≡ true → finished (all_noted a p len n ms) ≡ crowded
seen_grows a p len n ms crowd =
    let longer : length n.seen ≤ length (all_noted a p len n ms).seen = rw (seen_is a p len n ms) (rising_longer n.seen (places ms)) in
    crowd_is (all_noted a p len n ms) (more_crowd n.seen (all_noted a p len n ms).seen longer crowd)

pub few_told : (n : Noted) → is_crowd n.seen ≡ false → finished n ≡ record { entries = n.entries; reasons = reasons_of n }
few_told n few = ap (λ t. cond t crowded (record { entries = n.entries; reasons = reasons_of n })) few
