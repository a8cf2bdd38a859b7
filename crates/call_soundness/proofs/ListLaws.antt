-- Lists of procedures, links and numbers of regions: what stays when something is put among them.
use Rattle.std.proofs.Common.{◌≡◌, ◌⊎◌, inl, inr, ℕ, ◌==◌, Bool, true, false, not, cond, List, [], ◌∷◌, Option, Some, None, refl, sym, ◌∙◌, ap, subst}
use Rattle.std.specs.Prelude.{nat_lt, map, filter, ℤ}
use Rattle.std.proofs.lemmas.Bool.{false≢true, true≢false, cond_both, eqb-true, eq-eqb, or_cases, or_left, or_right, and_parts, and_from}
use Rattle.std.proofs.lemmas.Option.{none-some}
use Rattle.image_map.specs.declared.region.RegionId.{RegionId}
use Rattle.image_map.specs.Regions.{same_region, region_before}
use Rattle.image_map.proofs.OrderLaws.{same_region-equal, same_region-itself}
use Rattle.strided.specs.Interval.{IsMember}
use Rattle.strided.proofs.JoinLemmas.{member_join_left, member_join_right}
use Rattle.vset.specs.declared.part.Both.TheVariants.{Joined}
use Rattle.abs_semantics.specs.declared.parts.Known.{Known}
use Rattle.abs_semantics.specs.declared.parts.Link.{Link}
use Rattle.abs_semantics.specs.States.{has_procedure, known_of}
use Rattle.abs_semantics.specs.Joins.{with_number, same_link, link_before, offsets_of, with_link, links_of, put_known}
use Rattle.abs_semantics.specs.StandsFor.{IsLinked}
use Rattle.abs_semantics.proofs.BelowLemmas.{same_linked}
use Rattle.abs_steps.specs.Calls.{is_of_age, links_as, without_young, with_only}

-- -- Procedures

pub number_keeps : (p n : ℕ) (xs : List ℕ) → has_procedure p xs ≡ true → has_procedure p (with_number n xs) ≡ true
number_keeps p n [] has = absurd (false≢true has)
number_keeps p n (x ∷ xs) has =
    cond_both (x == n) (x ∷ xs) (cond (nat_lt x n) (x ∷ with_number n xs) (n ∷ x ∷ xs)) (λ ys. has_procedure p ys ≡ true)
    (λ _. has)
    (λ _. cond_both (nat_lt x n) (x ∷ with_number n xs) (n ∷ x ∷ xs) (λ ys. has_procedure p ys ≡ true)
    (λ _. by (number_keeps p n xs) (or_cases (x == p) (has_procedure p xs) has))
    (λ _. or_right (n == p) (has_procedure p (x ∷ xs)) has))
  where
    by : (has_procedure p xs ≡ true → has_procedure p (with_number n xs) ≡ true) → ((x == p) ≡ true) ⊎ (has_procedure p xs ≡ true) → has_procedure p (x ∷ with_number n xs) ≡ true
    by rest (inl is) = or_left (x == p) (has_procedure p (with_number n xs)) is
    by rest (inr later) = or_right (x == p) (has_procedure p (with_number n xs)) (rest later)

pub number_has : (p : ℕ) (xs : List ℕ) → has_procedure p (with_number p xs) ≡ true
number_has p [] = or_left (p == p) false (eq-eqb p p refl)
number_has p (x ∷ xs) =
    cond_both (x == p) (x ∷ xs) (cond (nat_lt x p) (x ∷ with_number p xs) (p ∷ x ∷ xs)) (λ ys. has_procedure p ys ≡ true)
    (λ same. or_left (x == p) (has_procedure p xs) same)
    (λ _. cond_both (nat_lt x p) (x ∷ with_number p xs) (p ∷ x ∷ xs) (λ ys. has_procedure p ys ≡ true)
    (λ _. or_right (x == p) (has_procedure p (with_number p xs)) (number_has p xs))
    (λ _. or_left (p == p) (has_procedure p (x ∷ xs)) (eq-eqb p p refl)))

-- -- Links

module _ (child : ℕ) (aged : Bool) (parent : ℕ) (distance : ℤ) where
  abbrev pub Fits : Link → Type 0
  Fits l = (l.child ≡ child) × (l.aged ≡ aged) × (l.parent ≡ parent) × IsMember distance l.off

  pub link_keeps : (l : Link) (ms : List Link) → IsLinked ms child aged parent distance → IsLinked (with_link l ms) child aged parent distance
  link_keeps l [] is = absurd is
  link_keeps l (m ∷ ms) is =
      cond_both (same_link m l) (offsets_of Joined m l ∷ ms) (cond (link_before m l) (m ∷ with_link l ms) (l ∷ m ∷ ms)) (λ ls. IsLinked ls child aged parent distance)
      (λ _. merged is)
      (λ _. cond_both (link_before m l) (m ∷ with_link l ms) (l ∷ m ∷ ms) (λ ls. IsLinked ls child aged parent distance) (λ _. passed (link_keeps l ms) is) (λ _. inr is))
    where
      merged : IsLinked (m ∷ ms) child aged parent distance → IsLinked (offsets_of Joined m l ∷ ms) child aged parent distance
      merged (inl h) = inl (h.0, h.1, h.2, member_join_left distance m.off l.off h.3)
      merged (inr later) = inr later

      passed : (IsLinked ms child aged parent distance → IsLinked (with_link l ms) child aged parent distance) → IsLinked (m ∷ ms) child aged parent distance → IsLinked (m ∷ with_link l ms) child aged parent distance
      passed rest (inl h) = inl h
      passed rest (inr later) = inr (rest later)

  pub link_has : (l : Link) (ms : List Link) → Fits l → IsLinked (with_link l ms) child aged parent distance
  link_has l [] h = inl h
  link_has l (m ∷ ms) h =
      cond_both (same_link m l) (offsets_of Joined m l ∷ ms) (cond (link_before m l) (m ∷ with_link l ms) (l ∷ m ∷ ms)) (λ ls. IsLinked ls child aged parent distance)
      (λ same. let key = same_linked child aged parent distance l m same (h.0, h.1, h.2) in inl (key.0, key.1, key.2, member_join_right distance m.off l.off h.3))
      (λ _. cond_both (link_before m l) (m ∷ with_link l ms) (l ∷ m ∷ ms) (λ ls. IsLinked ls child aged parent distance) (λ _. inr (link_has l ms h)) (λ _. inl h))

  pub links_keep : (ls ms : List Link) → IsLinked ms child aged parent distance → IsLinked (links_of ls ms) child aged parent distance
  unfolding links_of
  links_keep [] ms is = is
  links_keep (l ∷ ls) ms is = link_keeps l (links_of ls ms) (links_keep ls ms is)

  pub links_have : (ls ms : List Link) → IsLinked ls child aged parent distance → IsLinked (links_of ls ms) child aged parent distance
  unfolding links_of
  links_have [] ms is = absurd is
  links_have (l ∷ ls) ms (inl h) = link_has l (links_of ls ms) h
  links_have (l ∷ ls) ms (inr later) = link_keeps l (links_of ls ms) (links_have ls ms later)

  -- a link of another child, or an old one, isn't taken away
  pub without_keeps : (c : ℕ) → ((c == child) ≡ true → aged ≡ true) → (ls : List Link) → IsLinked ls child aged parent distance → IsLinked (without_young c ls) child aged parent distance
  without_keeps c old [] is = absurd is
  without_keeps c old (l ∷ ls) (inr later) =
      cond_both (not (is_of_age c false l)) (l ∷ without_young c ls) (without_young c ls) (λ xs. IsLinked xs child aged parent distance)
      (λ _. inr (without_keeps c old ls later)) (λ _. without_keeps c old ls later)
  without_keeps c old (l ∷ ls) (inl h) =
      cond_both (not (is_of_age c false l)) (l ∷ without_young c ls) (without_young c ls) (λ xs. IsLinked xs child aged parent distance)
      (λ _. inl h)
      (λ young.
      let both = and_parts (l.child == c) (not l.aged) (not_of (is_of_age c false l) young) in
      let same : (c == child) ≡ true = eq-eqb c child (sym (eqb-true l.child c both.0) ∙ h.0) in
      absurd (true≢false (sym both.1 ∙ ap not (h.1 ∙ old same))))
    where
      not_of : (b : Bool) → not b ≡ false → b ≡ true
      not_of true e = refl
      not_of false e = absurd (true≢false e)

-- the links of the newest activation grow old
pub links_grow : (child parent : ℕ) (distance : ℤ) (ls : List Link) → IsLinked ls child false parent distance → IsLinked (links_as child false true ls) child true parent distance
links_grow child parent distance [] is = absurd is
links_grow child parent distance (l ∷ ls) (inr later) =
    cond_both (is_of_age child false l) (l ∷ filter (is_of_age child false) ls) (filter (is_of_age child false) ls) (λ xs. IsLinked (map (λ (m : Link). record m { aged = true }) xs) child true parent distance)
    (λ _. inr (links_grow child parent distance ls later)) (λ _. links_grow child parent distance ls later)
links_grow child parent distance (l ∷ ls) (inl h) =
    cond_both (is_of_age child false l) (l ∷ filter (is_of_age child false) ls) (filter (is_of_age child false) ls) (λ xs. IsLinked (map (λ (m : Link). record m { aged = true }) xs) child true parent distance)
    (λ _. inl (h.0, refl, h.2, h.3))
    (λ other. absurd (true≢false (sym (and_from (l.child == child) (not l.aged) (eq-eqb l.child child h.0) (ap not h.1)) ∙ other)))

-- -- Numbers of regions

pub put_known_value : (P : Option ℕ → Type 0) (r : RegionId) (k : Known) (ks : List Known) → P (known_of r ks) → (k.region ≡ r → P (Some k.number)) → P (known_of r (put_known k ks))
put_known_value P r k [] before new = cond_both (same_region k.region r) (Some k.number) None P (λ same. new (same_region-equal k.region r same)) (λ _. before)
put_known_value P r k (x ∷ xs) before new =
    cond_both (same_region x.region k.region) (k ∷ xs) (cond (region_before x.region k.region) (x ∷ put_known k xs) (k ∷ x ∷ xs)) (λ ks. P (known_of r ks))
    (λ same. cond_both (same_region k.region r) (Some k.number) (known_of r xs) P (λ is. new (same_region-equal k.region r is))
    (λ other. subst (λ t. P (cond t (Some x.number) (known_of r xs))) (ap (λ q. same_region q r) (same_region-equal x.region k.region same) ∙ other) before))
    (λ _. cond_both (region_before x.region k.region) (x ∷ put_known k xs) (k ∷ x ∷ xs) (λ ks. P (known_of r ks))
    (λ _. cond_both (same_region x.region r) (Some x.number) (known_of r (put_known k xs)) P
    (λ is. subst (λ t. P (cond t (Some x.number) (known_of r xs))) is before)
    (λ other. put_known_value P r k xs (subst (λ t. P (cond t (Some x.number) (known_of r xs))) other before) new))
    (λ _. cond_both (same_region k.region r) (Some k.number) (known_of r (x ∷ xs)) P (λ is. new (same_region-equal k.region r is)) (λ _. before)))

-- what is known of another region stays when one is left out
left_out : (r q : RegionId) (ks : List Known) (n : ℕ) → same_region q r ≡ false → known_of r (filter (λ (k : Known). not (same_region k.region q)) ks) ≡ Some n → known_of r ks ≡ Some n
left_out r q [] n apart e = e
left_out r q (k ∷ ks) n apart e = by (left_out r q ks n apart) (same_region k.region q) refl e
  where
    by : (known_of r (filter (λ (k : Known). not (same_region k.region q)) ks) ≡ Some n → known_of r ks ≡ Some n) → (b : Bool) → same_region k.region q ≡ b → known_of r (cond (not b) (k ∷ filter (λ (k : Known). not (same_region k.region q)) ks) (filter (λ (k : Known). not (same_region k.region q)) ks)) ≡ Some n → known_of r (k ∷ ks) ≡ Some n
    by rest true f g =
        let other : same_region k.region r ≡ false = ap (λ x. same_region x r) (same_region-equal k.region q f) ∙ apart in
        ap (λ t. cond t (Some k.number) (known_of r ks)) other ∙ rest g
    by rest false f g = of (same_region k.region r) refl g
      where
        of : (b : Bool) → same_region k.region r ≡ b → cond b (Some k.number) (known_of r (filter (λ (k : Known). not (same_region k.region q)) ks)) ≡ Some n → known_of r (k ∷ ks) ≡ Some n
        of true h g = ap (λ t. cond t (Some k.number) (known_of r ks)) h ∙ g
        of false h g = ap (λ t. cond t (Some k.number) (known_of r ks)) h ∙ rest g

none_left : (r : RegionId) (ks : List Known) (n : ℕ) → known_of r (filter (λ (k : Known). not (same_region k.region r)) ks) ≡ Some n → ⊥
none_left r [] n e = none-some n e
none_left r (k ∷ ks) n e = by (none_left r ks n) (same_region k.region r) refl e
  where
    by : (known_of r (filter (λ (k : Known). not (same_region k.region r)) ks) ≡ Some n → ⊥) → (b : Bool) → same_region k.region r ≡ b → known_of r (cond (not b) (k ∷ filter (λ (k : Known). not (same_region k.region r)) ks) (filter (λ (k : Known). not (same_region k.region r)) ks)) ≡ Some n → ⊥
    by rest true f g = rest g
    by rest false f g = rest (sym (ap (λ t. cond t (Some k.number) (known_of r (filter (λ (k : Known). not (same_region k.region r)) ks))) f) ∙ g)

pub only_other : (r q : RegionId) (o : Option ℕ) (ks : List Known) (n : ℕ) → same_region q r ≡ false → known_of r (with_only q o ks) ≡ Some n → known_of r ks ≡ Some n
only_other r q None ks n apart e = left_out r q ks n apart e
only_other r q (Some m) ks n apart e =
    put_known_value (λ o. o ≡ Some n → known_of r ks ≡ Some n) r (record { region = q; number = m }) (filter (λ (k : Known). not (same_region k.region q)) ks)
    (λ f. left_out r q ks n apart f) (λ same f. absurd (true≢false (sym (same_region-itself r) ∙ ap (λ x. same_region x r) (sym same) ∙ apart))) e

pub only_same : (r : RegionId) (o : Option ℕ) (ks : List Known) (n : ℕ) → known_of r (with_only r o ks) ≡ Some n → o ≡ Some n
only_same r None ks n e = absurd (none_left r ks n e)
only_same r (Some m) ks n e =
    put_known_value (λ o. o ≡ Some n → Some m ≡ Some n) r (record { region = r; number = m }) (filter (λ (k : Known). not (same_region k.region r)) ks)
    (λ f. absurd (none_left r ks n f)) (λ same f. f) e
