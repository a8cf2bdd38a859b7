-- Which parts are met, level by level, and which of them are listed.
use Rattle.std.proofs.Common.{◌≡◌, ℕ, ◌⊎◌, inl, inr, Bool, true, false, cond, List, [], ◌∷◌, ◌++◌, map, length, refl, sym, ◌∙◌, ap, subst}
use Rattle.std.specs.Prelude.{nat_lt, filter}
use Rattle.std.specs.List.{list_any, flat_map}
use Rattle.std.proofs.lemmas.Bool.{or_left, or_right, false≢true, cond_both}
use Rattle.vset.specs.declared.part.Part.{Part}
use Rattle.vset.specs.Operations.{same_part}
use Rattle.vset.proofs.SameLemmas.{same_part-equal}
use Rattle.abs_semantics.specs.declared.parts.Reason.{Reason}
use Rattle.abs_semantics.specs.declared.parts.Reason.TheVariants.{UnknownWrite, OutOfRegion, HeapOverrun}
use Rattle.abs_semantics.specs.States.{AbsState}
use Rattle.abs_semantics.specs.Resolve.{Verdict, Refuses, Stays, Follows, verdict, part_before, put_part, rising_onto, Met, met_after, is_listed, same_reason, is_refused_by, verdict_on, places, told, told_of_few}
use Rattle.abs_semantics.proofs.VerdictLemmas.{Passes}

-- -- Lists of different parts

abbrev pub IsAmong : {A : Type 0} → A → List A → Type 0
IsAmong x [] = ⊥
IsAmong x (y ∷ ys) = (y ≡ x) ⊎ IsAmong x ys

pub among_before : {A : Type 0} (z : A) (xs ys : List A) → IsAmong z xs → IsAmong z (xs ++ ys)
among_before z [] ys h = absurd h
among_before z (x ∷ xs) ys (inl here) = inl here
among_before z (x ∷ xs) ys (inr later) = inr (among_before z xs ys later)

pub among_after : {A : Type 0} (z : A) (xs ys : List A) → IsAmong z ys → IsAmong z (xs ++ ys)
among_after z [] ys h = h
among_after z (x ∷ xs) ys h = inr (among_after z xs ys h)

pub among_flat : {A B : Type 0} (f : A → List B) (z : A) (w : B) (xs : List A) → IsAmong z xs → IsAmong w (f z) → IsAmong w (flat_map f xs)
among_flat f z w [] h made = absurd h
among_flat f z w (x ∷ xs) (inl here) made = among_before w (f x) (flat_map f xs) (subst (λ y. IsAmong w (f y)) (sym here) made)
among_flat f z w (x ∷ xs) (inr later) made = among_after w (f x) (flat_map f xs) (among_flat f z w xs later made)

pub among_map : {A B : Type 0} (f : A → B) (z : A) (xs : List A) → IsAmong z xs → IsAmong (f z) (map f xs)
among_map f z [] h = absurd h
among_map f z (x ∷ xs) (inl here) = inl (ap f here)
among_map f z (x ∷ xs) (inr later) = inr (among_map f z xs later)

pub among_filter : {A : Type 0} (test : A → Bool) (z : A) (xs : List A) → IsAmong z xs → test z ≡ true → IsAmong z (filter test xs)
among_filter test z [] h is = absurd h
among_filter test z (x ∷ xs) h is = by_cases (λ later. among_filter test z xs later is) h
  where
    kept : (t : Bool) → test x ≡ t → x ≡ z → IsAmong z (cond t (x ∷ filter test xs) (filter test xs))
    kept true passed here = inl here
    kept false failed here = absurd (false≢true (sym failed ∙ ap test here ∙ is))

    by_cases : (IsAmong z xs → IsAmong z (filter test xs)) → (x ≡ z) ⊎ IsAmong z xs → IsAmong z (filter test (x ∷ xs))
    by_cases rest (inl here) = kept (test x) refl here
    by_cases rest (inr later) = cond_both (test x) (x ∷ filter test xs) (filter test xs) (IsAmong z) (λ _. inr (rest later)) (λ _. rest later)

put_new : (x : Part) (ys : List Part) → IsAmong x (put_part x ys)
put_new x [] = inl refl
put_new x (y ∷ ys) = by_same (put_new x ys) (same_part y x) refl
  where
    by_same : IsAmong x (put_part x ys) → (t : Bool) → same_part y x ≡ t → IsAmong x (cond t (y ∷ ys) (cond (part_before y x) (y ∷ put_part x ys) (x ∷ y ∷ ys)))
    by_same rest true is = inl (same_part-equal y x is)
    by_same rest false is = cond_both (part_before y x) (y ∷ put_part x ys) (x ∷ y ∷ ys) (IsAmong x) (λ _. inr rest) (λ _. inl refl)

put_old : (z x : Part) (ys : List Part) → IsAmong z ys → IsAmong z (put_part x ys)
put_old z x [] h = absurd h
put_old z x (y ∷ ys) h =
    cond_both (same_part y x) (y ∷ ys) (cond (part_before y x) (y ∷ put_part x ys) (x ∷ y ∷ ys)) (IsAmong z) (λ _. h)
    (λ _. cond_both (part_before y x) (y ∷ put_part x ys) (x ∷ y ∷ ys) (IsAmong z) (λ _. passed (put_old z x ys) h) (λ _. inr h))
  where
    passed : (IsAmong z ys → IsAmong z (put_part x ys)) → (y ≡ z) ⊎ IsAmong z ys → IsAmong z (y ∷ put_part x ys)
    passed rest (inl here) = inl here
    passed rest (inr later) = inr (rest later)

pub rising_old : (z : Part) (into xs : List Part) → IsAmong z into → IsAmong z (rising_onto into xs)
unfolding rising_onto
rising_old z into [] h = h
rising_old z into (x ∷ xs) h = rising_old z (put_part x into) xs (put_old z x into h)

pub rising_new : (z : Part) (into xs : List Part) → IsAmong z xs → IsAmong z (rising_onto into xs)
unfolding rising_onto
rising_new z into [] h = absurd h
rising_new z into (x ∷ xs) (inl here) = rising_old z (put_part x into) xs (subst (λ y. IsAmong y (put_part x into)) here (put_new x into))
rising_new z into (x ∷ xs) (inr later) = rising_new z (put_part x into) xs later

-- -- What is met

-- a part after so many links
abbrev pub IsMet : ℕ → Part → List Met → Type 0
IsMet followed z ms = IsAmong (met_after followed z) ms

-- -- What is told

module _ (a : AbsState) (p len : ℕ) where
  -- nothing that is met is refused
  abbrev pub AllPass : List Met → Type 0
  AllPass ms = (n : ℕ) (z : Part) → IsMet n z ms → Passes (verdict a p len n z)

  refused_known : (n : ℕ) (z : Part) (r : Reason) (ms : List Met) → IsMet n z ms → verdict a p len n z ≡ Refuses r → list_any (λ (m : Met). is_refused_by r (verdict_on a p len m)) ms ≡ true
  refused_known n z r [] h is = absurd h
  refused_known n z r (m ∷ ms) (inl here) is =
      or_left (is_refused_by r (verdict_on a p len m)) (list_any (λ (m : Met). is_refused_by r (verdict_on a p len m)) ms)
      (subst (λ (k : Met). is_refused_by r (verdict_on a p len k) ≡ true) (sym here) (subst (λ v. is_refused_by r v ≡ true) (sym is) (itself r)))
    where
      itself : (r : Reason) → same_reason r r ≡ true
      itself UnknownWrite = refl
      itself OutOfRegion = refl
      itself HeapOverrun = refl
  refused_known n z r (m ∷ ms) (inr later) is = or_right (is_refused_by r (verdict_on a p len m)) (list_any (λ (m : Met). is_refused_by r (verdict_on a p len m)) ms) (refused_known n z r ms later is)

  none_kept : (test : Reason → Bool) (r : Reason) → filter test (UnknownWrite ∷ OutOfRegion ∷ HeapOverrun ∷ []) ≡ [] → test r ≡ true → ⊥
  none_kept test r e is = by_tests (test UnknownWrite) (test OutOfRegion) (test HeapOverrun) e (at r is)
    where
      by_tests : (x y z : Bool) → cond x (UnknownWrite ∷ cond y (OutOfRegion ∷ cond z (HeapOverrun ∷ []) []) (cond z (HeapOverrun ∷ []) [])) (cond y (OutOfRegion ∷ cond z (HeapOverrun ∷ []) []) (cond z (HeapOverrun ∷ []) [])) ≡ [] → (x ≡ true) ⊎ ((y ≡ true) ⊎ (z ≡ true)) → ⊥
      by_tests true y z e some = cc
      by_tests false true z e some = cc
      by_tests false false true e some = cc
      by_tests false false false e (inl is) = false≢true is
      by_tests false false false e (inr (inl is)) = false≢true is
      by_tests false false false e (inr (inr is)) = false≢true is

      at : (r : Reason) → test r ≡ true → (test UnknownWrite ≡ true) ⊎ ((test OutOfRegion ≡ true) ⊎ (test HeapOverrun ≡ true))
      at UnknownWrite is = inl is
      at OutOfRegion is = inr (inl is)
      at HeapOverrun is = inr (inr is)

  passing : (n : ℕ) (z : Part) (ms : List Met) → (told a p len ms).reasons ≡ [] → IsMet n z ms → (v : Verdict) → verdict a p len n z ≡ v → Passes v
  passing n z ms e met (Refuses r) is = none_kept (λ (r : Reason). list_any (λ (m : Met). is_refused_by r (verdict_on a p len m)) ms) r e (refused_known n z r ms met is)
  passing n z ms e met Stays is = tt
  passing n z ms e met (Follows as_well) is = tt

  pub all_pass : (ms : List Met) → (told a p len ms).reasons ≡ [] → AllPass ms
  all_pass ms e n z met = passing n z ms e met (verdict a p len n z) refl

  -- what is met and listed is an entry
  pub listed_entry : (n : ℕ) (z : Part) (ms : List Met) → IsMet n z ms → is_listed (verdict a p len n z) ≡ true → IsAmong z (places (filter (λ (m : Met). is_listed (verdict_on a p len m)) ms))
  listed_entry n z ms met listed =
      among_map (λ (m : Met). m.place) (met_after n z) (filter (λ (m : Met). is_listed (verdict_on a p len m)) ms)
      (among_filter (λ (m : Met). is_listed (verdict_on a p len m)) (met_after n z) ms met listed)

  -- without a reason there were few, and all that is met passes
  pub few_told : (ms : List Met) → (told_of_few a p len ms).reasons ≡ [] → (told_of_few a p len ms ≡ told a p len ms) × AllPass ms
  few_told ms e = by_test (nat_lt 1024 (length (rising_onto [] (places ms)))) refl e
    where
      by_test : (t : Bool) → nat_lt 1024 (length (rising_onto [] (places ms))) ≡ t → (cond t (record { entries = []; reasons = OutOfRegion ∷ [] }) (told a p len ms)).reasons ≡ [] → (cond t (record { entries = []; reasons = OutOfRegion ∷ [] }) (told a p len ms) ≡ told a p len ms) × AllPass ms
      by_test true is e = absurd (cc)
      by_test false is e = (refl, all_pass ms e)
