-- Entries of a resolved address have intervals of the one form, and what is said of each holds of one among them.
use Rattle.std.proofs.Common.{◌≡◌, ℕ, zero, suc, ◌+◌, ◌==◌, Bool, true, false, cond, inl, inr, List, [], ◌∷◌, ◌++◌, map, Option, Some, None, refl, sym, ◌∙◌, ap, subst}
use Rattle.std.specs.Prelude.{nat_lt, filter, length}
use Rattle.std.specs.List.{list_any, flat_map}
use Rattle.std.proofs.lemmas.Bool.{cond_both, or_left, or_right, or_parts, eqb-true, false≢true}
use Rattle.image_map.specs.declared.region.RegionId.{RegionId}
use Rattle.strided.specs.Interval.{Interval, IsCanonical}
use Rattle.strided.specs.Operations as interval
use Rattle.strided.proofs.SumLemmas.{add_canonical}
use Rattle.vset.specs.declared.part.Part.{Part}
use Rattle.vset.specs.Operations.{part, same_part}
use Rattle.vset.specs.Values.{Values, Top, Parts, AreCanonical, CanonicalValues}
use Rattle.abs_semantics.specs.declared.parts.Link.{Link}
use Rattle.abs_semantics.specs.declared.parts.Reason.{Reason}
use Rattle.abs_semantics.specs.States.{AbsState, LinksAreCanonical}
use Rattle.abs_semantics.specs.Resolve.{Verdict, Refuses, Stays, Follows, most_links, verdict, parent_regions, through, links_of_region, next_by, next_of, part_before, put_part, rising_onto, Met, met_after, levels, is_listed, verdict_on, places, told, resolve}
use Rattle.abs_semantics.specs.Touching.{names_one, lone_place, in_one_thing, sure_place}
use Rattle.abs_semantics.specs.Accesses.{has_no_reason}
use Rattle.abs_semantics.specs.Ownership.{IsOwnedAt, IsOwnedAmong}
use Rattle.ia32_semantics.specs.State.{State}
use Rattle.image_map.specs.declared.region.RegionId.TheVariants.{Global, Frame, OldFrame, Heap, OldHeap}
use Rattle.abs_semantics.proofs.LevelLemmas.{IsAmong}

-- -- Canonical lists

put_form : (x : Part) (ys : List Part) → IsCanonical x.si → AreCanonical ys → AreCanonical (put_part x ys)
put_form x [] form forms = (form, tt)
put_form x (y ∷ ys) form forms =
    cond_both (same_part y x) (y ∷ ys) (cond (part_before y x) (y ∷ put_part x ys) (x ∷ y ∷ ys)) AreCanonical (λ _. forms)
    (λ _. cond_both (part_before y x) (y ∷ put_part x ys) (x ∷ y ∷ ys) AreCanonical (λ _. (forms.0, put_form x ys form forms.1)) (λ _. (form, forms)))

rising_form : (into xs : List Part) → AreCanonical into → AreCanonical xs → AreCanonical (rising_onto into xs)
unfolding rising_onto
rising_form into [] forms rest = forms
rising_form into (x ∷ xs) forms rest = rising_form (put_part x into) xs (put_form x into rest.0 forms) rest.1

append_form : (xs ys : List Part) → AreCanonical xs → AreCanonical ys → AreCanonical (xs ++ ys)
append_form [] ys forms rest = rest
append_form (x ∷ xs) ys forms rest = (forms.0, append_form xs ys forms.1 rest)

-- -- One link further

parts_form : (si : Interval) (rs : List RegionId) → IsCanonical si → AreCanonical (map (λ r. part r si) rs)
parts_form si [] form = tt
parts_form si (r ∷ rs) form = (form, parts_form si rs form)

module _ (a : AbsState) (p len : ℕ) (links : LinksAreCanonical a.links) where
  filtered_form : (test : Link → Bool) (ls : List Link) → LinksAreCanonical ls → LinksAreCanonical (filter test ls)
  filtered_form test [] forms = tt
  filtered_form test (l ∷ ls) forms = cond_both (test l) (l ∷ filter test ls) (filter test ls) LinksAreCanonical (λ _. (forms.0, filtered_form test ls forms.1)) (λ _. filtered_form test ls forms.1)

  region_form : (r : RegionId) → LinksAreCanonical (links_of_region a r)
  region_form Global = tt
  region_form (Frame q) = filtered_form _ a.links links
  region_form (OldFrame q) = filtered_form _ a.links links
  region_form (Heap key) = tt
  region_form (OldHeap key) = tt

  through_form : (x : Part) (ls : List Link) → IsCanonical x.si → LinksAreCanonical ls → AreCanonical (flat_map (through a p x) ls)
  through_form x [] form forms = tt
  through_form x (l ∷ ls) form forms =
      append_form (through a p x l) (flat_map (through a p x) ls) (parts_form (interval.add x.si l.off) (parent_regions a p x.region l) (add_canonical x.si l.off form forms.0)) (through_form x ls form forms.1)

  next_form : (n : ℕ) (xs : List Part) → AreCanonical xs → AreCanonical (flat_map (next_of a p len n) xs)
  next_form n [] forms = tt
  next_form n (x ∷ xs) forms = append_form (next_of a p len n x) (flat_map (next_of a p len n) xs) (one (verdict a p len n x)) (next_form n xs forms.1)
    where
      one : (v : Verdict) → AreCanonical (next_by v (flat_map (through a p x) (links_of_region a x.region)))
      one (Refuses r) = tt
      one Stays = tt
      one (Follows as_well) = through_form x (links_of_region a x.region) forms.0 (region_form x.region)

  abbrev AreCanonicalMets : List Met → Type 0
  AreCanonicalMets [] = Unit {0}
  AreCanonicalMets (m ∷ ms) = IsCanonical m.place.si × AreCanonicalMets ms

  mets_form : (n : ℕ) (xs : List Part) → AreCanonical xs → AreCanonicalMets (map (met_after n) xs)
  mets_form n [] forms = tt
  mets_form n (x ∷ xs) forms = (forms.0, mets_form n xs forms.1)

  both_form : (ms more : List Met) → AreCanonicalMets ms → AreCanonicalMets more → AreCanonicalMets (ms ++ more)
  both_form [] more forms rest = rest
  both_form (m ∷ ms) more forms rest = (forms.0, both_form ms more forms.1 rest)

  levels_form : (fuel n : ℕ) (xs : List Part) → AreCanonical xs → AreCanonicalMets (levels a p len fuel n xs)
  unfolding levels
  levels_form zero n xs forms = mets_form n xs forms
  levels_form (suc fuel) n xs forms =
      both_form (map (met_after n) xs) (levels a p len fuel (n + 1) (rising_onto [] (flat_map (next_of a p len n) xs))) (mets_form n xs forms)
      (levels_form fuel (n + 1) (rising_onto [] (flat_map (next_of a p len n) xs)) (rising_form [] (flat_map (next_of a p len n) xs) tt (next_form n xs forms)))

  places_form : (test : Met → Bool) (ms : List Met) → AreCanonicalMets ms → AreCanonical (places (filter test ms))
  places_form test [] forms = tt
  places_form test (m ∷ ms) forms = cond_both (test m) (m ∷ filter test ms) (filter test ms) (λ ks. AreCanonical (places ks)) (λ _. (forms.0, places_form test ms forms.1)) (λ _. places_form test ms forms.1)

  pub entries_form : (v : Values) → CanonicalValues v → AreCanonical (resolve a p v len).entries
  unfolding resolve
  entries_form Top form = tt
  entries_form (Parts xs) form =
      cond_both (nat_lt 1024 (length (rising_onto [] (places (levels a p len (most_links a + 1) 0 (rising_onto [] xs))))))
      (record { entries = []; reasons = _ }) (told a p len (levels a p len (most_links a + 1) 0 (rising_onto [] xs))) (λ r. AreCanonical r.entries)
      (λ _. tt)
      (λ _. rising_form [] (places (filter (λ (m : Met). is_listed (verdict_on a p len m)) (levels a p len (most_links a + 1) 0 (rising_onto [] xs)))) tt
      (places_form (λ (m : Met). is_listed (verdict_on a p len m)) (levels a p len (most_links a + 1) 0 (rising_onto [] xs)) (levels_form (most_links a + 1) 0 (rising_onto [] xs) (rising_form [] xs tt form))))

-- -- One among some

pub form_of : (x : Part) (xs : List Part) → AreCanonical xs → IsAmong x xs → IsCanonical x.si
form_of x [] forms h = absurd h
form_of x (y ∷ ys) forms (inl here) = subst (λ (z : Part). IsCanonical z.si) here forms.0
form_of x (y ∷ ys) forms (inr later) = form_of x ys forms.1 later

pub any_among : {A : Type 0} (test : A → Bool) (x : A) (xs : List A) → IsAmong x xs → test x ≡ true → list_any test xs ≡ true
any_among test x [] h is = absurd h
any_among test x (y ∷ ys) (inl here) is = or_left (test y) (list_any test ys) (ap test here ∙ is)
any_among test x (y ∷ ys) (inr later) is = or_right (test y) (list_any test ys) (any_among test x ys later is)

pub none_among : {A : Type 0} (test : A → Bool) (x : A) (xs : List A) → IsAmong x xs → list_any test xs ≡ false → test x ≡ false
none_among test x [] h none = absurd h
none_among test x (y ∷ ys) (inl here) none = ap test (sym here) ∙ (or_parts (test y) (list_any test ys) none).0
none_among test x (y ∷ ys) (inr later) none = none_among test x ys later (or_parts (test y) (list_any test ys) none).1

pub one_owned : (lane : ℕ) (s : State) (at count : ℕ) (xs : List Part) → IsOwnedAmong lane s at count xs → (x : Part) × IsAmong x xs × IsOwnedAt lane s at count x
one_owned lane s at count [] h = absurd h
one_owned lane s at count (x ∷ xs) (inl here) = (x, inl refl, here)
one_owned lane s at count (x ∷ xs) (inr later) = let rest = one_owned lane s at count xs later in (rest.0, inr rest.1, rest.2)

-- -- One place

pub no_reason : (rs : List Reason) → has_no_reason rs ≡ true → rs ≡ []
no_reason [] e = refl
no_reason (r ∷ rs) e = absurd (false≢true e)

some_equal : (x y : Part) → Some x ≡ Some y → x ≡ y
some_equal x y e = cc

pub lone_is : (xs : List Part) (x : Part) → lone_place xs ≡ Some x → (xs ≡ x ∷ []) × (x.si.stride ≡ 0)
lone_is [] x e = absurd (cc)
lone_is (y ∷ []) x e = by_test (y.si.stride == 0) refl e
  where
    by_test : (t : Bool) → (y.si.stride == 0) ≡ t → cond t (Some y) None ≡ Some x → (y ∷ [] ≡ x ∷ []) × (x.si.stride ≡ 0)
    by_test true is found = let same = some_equal y x found in (ap (λ z. z ∷ []) same, subst (λ (z : Part). z.si.stride ≡ 0) same (eqb-true y.si.stride 0 is))
    by_test false other found = absurd (cc)
lone_is (y ∷ z ∷ zs) x e = absurd (cc)

pub sure_is : (xs : List Part) (x : Part) → sure_place xs ≡ Some x → (xs ≡ x ∷ []) × (x.si.stride ≡ 0) × (names_one x.region ≡ true)
sure_is xs x e = by_lone (lone_place xs) refl e
  where
    by_lone : (o : Option Part) → lone_place xs ≡ o → in_one_thing o ≡ Some x → (xs ≡ x ∷ []) × (x.si.stride ≡ 0) × (names_one x.region ≡ true)
    by_lone None is found = absurd (cc)
    by_lone (Some y) is found = by_test (names_one y.region) refl found
      where
        by_test : (t : Bool) → names_one y.region ≡ t → cond t (Some y) None ≡ Some x → (xs ≡ x ∷ []) × (x.si.stride ≡ 0) × (names_one x.region ≡ true)
        by_test true one found =
            let same = some_equal y x found in
            let lone = lone_is xs x (is ∙ ap (λ z. Some z) same) in
            (lone.0, lone.1, subst (λ (z : Part). names_one z.region ≡ true) same one)
        by_test false other found = absurd (cc)
