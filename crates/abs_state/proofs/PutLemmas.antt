-- A thing is put at the first place where the search stops.
use Rattle.std.proofs.Common.{◌≡◌, ℕ, zero, suc, ◌+◌, ◌<◌, ◌≤◌, ◌==◌, ◌||◌, Bool, true, false, cond, not, List, [], ◌∷◌, Some, None, length, get_or, refl, sym, ◌∙◌, ap, subst, arith}
use Rattle.std.specs.Prelude.{nat_lt, set}
use Rattle.std.specs.List.{insert, position, position_or_len}
use Rattle.std.proofs.lemmas.Bool.{cond_both, cond-true, eqb-true, ltb-false}
use Rattle.std.proofs.lemmas.Option.{none-some}
use Rattle.cell_map.proofs.OrderLemmas.{is_false}
use Rattle.image_map.specs.Regions.{same_region, region_before}
use Rattle.vset.specs.declared.part.Both.TheVariants.{Joined}
use Rattle.abs_semantics.specs.declared.parts.Known.{Known}
use Rattle.abs_semantics.specs.declared.parts.Link.{Link}
use Rattle.abs_semantics.specs.Joins.{with_number, same_link, link_before, with_link, offsets_of, put_known}
use Rattle.abs_state.specs.Puts.{put_in, stops}

module _ {A : Type 0} (same before : A → Bool) (over : A → A) (new : A) where
  -- the search has stopped at a place, or at the end
  abbrev pub IsStop : ℕ → List A → Type 0
  IsStop i [] = i ≡ 0
  IsStop zero (x ∷ xs) = stops same before x ≡ true
  IsStop (suc i) (x ∷ xs) = (stops same before x ≡ false) × IsStop i xs

  one_more : (n : ℕ) (x : A) (xs : List A) → stops same before x ≡ false → IsStop n xs → IsStop (1 + n) (x ∷ xs)
  one_more n x xs h s =
      let e : suc n ≡ 1 + n = omega arith in
      subst (λ m. IsStop m (x ∷ xs)) e (h, s)

  not-false : (t : Bool) → not t ≡ true → t ≡ false
  not-false true h = sym h
  not-false false h = refl

  not-true' : (t : Bool) → not t ≡ false → t ≡ true
  not-true' true h = refl
  not-true' false h = sym h

  pub is_stop : (xs : List A) → IsStop (position_or_len (stops same before) xs) xs
  is_stop [] = refl
  is_stop (x ∷ xs) =
      cond_both (not (stops same before x)) (1 + position_or_len (stops same before) xs) 0 (λ n. IsStop n (x ∷ xs))
      (λ h. one_more (position_or_len (stops same before) xs) x xs (not-false (stops same before x) h) (is_stop xs))
      (λ h. not-true' (stops same before x) h)

  passes : (s b : Bool) (u v w : List A) → (s || not b) ≡ false → cond s u (cond b v w) ≡ v
  passes true b u v w h = absurd (cc h)
  passes false true u v w h = refl
  passes false false u v w h = absurd (cc h)

  stands : (s b : Bool) (u v w : List A) → s ≡ false → (s || not b) ≡ true → cond s u (cond b v w) ≡ w
  stands true b u v w other h = absurd (cc other)
  stands false true u v w other h = absurd (cc h)
  stands false false u v w other h = refl

  pub put_over : (d : A) (xs : List A) (i : ℕ) → IsStop i xs → i < length xs → same (get_or xs i d) ≡ true → put_in same before over new xs ≡ set xs i (over (get_or xs i d))
  put_over d [] i s lt is = absurd (omega arith)
  put_over d (x ∷ xs) zero s lt is = cond-true (same x) _ _ is
  put_over d (x ∷ xs) (suc i) s lt is =
      passes (same x) (before x) (over x ∷ xs) (x ∷ put_in same before over new xs) (new ∷ x ∷ xs) s.0 ∙ ap (λ t. x ∷ t) (put_over d xs i s.1 (omega arith) is)

  pub put_new : (d : A) (xs : List A) (i : ℕ) → IsStop i xs → i ≤ length xs → (i < length xs → same (get_or xs i d) ≡ false) → put_in same before over new xs ≡ insert xs i new
  put_new d [] zero s le other = refl
  put_new d [] (suc i) s le other = absurd (omega arith)
  put_new d (x ∷ xs) zero s le other = stands (same x) (before x) (over x ∷ xs) (x ∷ put_in same before over new xs) (new ∷ x ∷ xs) (other (omega arith)) s
  put_new d (x ∷ xs) (suc i) s le other =
      passes (same x) (before x) (over x ∷ xs) (x ∷ put_in same before over new xs) (new ∷ x ∷ xs) s.0 ∙ ap (λ t. x ∷ t) (put_new d xs i s.1 (omega arith) (λ lt. other (omega arith)))

  pub within : (xs : List A) → position_or_len (stops same before) xs ≤ length xs
  within [] = omega arith
  within (x ∷ xs) =
      cond_both (not (stops same before x)) (1 + position_or_len (stops same before) xs) 0 (λ n. n ≤ length (x ∷ xs))
      (λ _. let p = within xs in omega arith) (λ _. omega arith)

  past : (t : Bool) (n : ℕ) → None ≡ cond t (Some n) None → t ≡ false
  past true n h = absurd (none-some n h)
  past false n h = refl

  -- a search that finds nothing ends at the end
  pub at_end : (xs : List A) → None ≡ position (stops same before) xs → length xs ≡ position_or_len (stops same before) xs
  at_end xs none =
      let n = position_or_len (stops same before) xs in
      let far = ltb-false n (length xs) (past (nat_lt n (length xs)) n none) in
      let few = within xs in
      omega (arith, far, few)

-- -- What is put

pub with_number_is : (n : ℕ) (xs : List ℕ) → with_number n xs ≡ put_in (λ x. x == n) (λ x. nat_lt x n) (λ x. x) n xs
with_number_is n [] = refl
with_number_is n (x ∷ xs) = ap (λ t. cond (x == n) (x ∷ xs) (cond (nat_lt x n) (x ∷ t) (n ∷ x ∷ xs))) (with_number_is n xs)

pub put_known_is : (k : Known) (xs : List Known) → put_known k xs ≡ put_in (λ (x : Known). same_region x.region k.region) (λ (x : Known). region_before x.region k.region) (λ x. k) k xs
put_known_is k [] = refl
put_known_is k (x ∷ xs) = ap (λ t. cond (same_region x.region k.region) (k ∷ xs) (cond (region_before x.region k.region) (x ∷ t) (k ∷ x ∷ xs))) (put_known_is k xs)

pub with_link_is : (l : Link) (xs : List Link) → with_link l xs ≡ put_in (λ m. same_link m l) (λ m. link_before m l) (λ m. offsets_of Joined m l) l xs
with_link_is l [] = refl
with_link_is l (m ∷ ms) = ap (λ t. cond (same_link m l) (offsets_of Joined m l ∷ ms) (cond (link_before m l) (m ∷ t) (l ∷ m ∷ ms))) (with_link_is l ms)

-- -- Numbers

set_itself : {A : Type 0} (xs : List A) (i : ℕ) (d : A) → i < length xs → set xs i (get_or xs i d) ≡ xs
set_itself [] i d lt = absurd (omega arith)
set_itself (x ∷ xs) zero d lt = refl
set_itself (x ∷ xs) (suc i) d lt = ap (λ t. x ∷ t) (set_itself xs i d (omega arith))

module _ (n i d : ℕ) (xs : List ℕ) (is : i ≡ position_or_len (λ x. x == n || not (nat_lt x n)) xs) where
  number_stop : IsStop (λ x. x == n) (λ x. nat_lt x n) (λ x. x) n i xs
  number_stop = subst (λ m. IsStop (λ x. x == n) (λ x. nat_lt x n) (λ x. x) n m xs) (sym is) (is_stop (λ x. x == n) (λ x. nat_lt x n) (λ x. x) n xs)

  pub number_within : i ≤ length xs
  number_within = subst (λ m. m ≤ length xs) (sym is) (within (λ x. x == n) (λ x. nat_lt x n) (λ x. x) n xs)

  pub number_there : i < length xs → (get_or xs i d == n) ≡ true → xs ≡ with_number n xs
  number_there lt same = sym (with_number_is n xs ∙ put_over (λ x. x == n) (λ x. nat_lt x n) (λ x. x) n d xs i number_stop lt same ∙ set_itself xs i d lt)

  pub number_new : (i < length xs → (get_or xs i d == n) ≡ false) → insert xs i n ≡ with_number n xs
  number_new other = sym (with_number_is n xs ∙ put_new (λ x. x == n) (λ x. nat_lt x n) (λ x. x) n d xs i number_stop number_within other)

module _ (k d : Known) (i : ℕ) (xs : List Known) (is : i ≡ position_or_len (λ (x : Known). same_region x.region k.region || not (region_before x.region k.region)) xs) where
  known_stop : IsStop (λ (x : Known). same_region x.region k.region) (λ (x : Known). region_before x.region k.region) (λ x. k) k i xs
  known_stop = subst (λ m. IsStop (λ (x : Known). same_region x.region k.region) (λ (x : Known). region_before x.region k.region) (λ x. k) k m xs) (sym is) (is_stop (λ (x : Known). same_region x.region k.region) (λ (x : Known). region_before x.region k.region) (λ x. k) k xs)

  pub known_within : i ≤ length xs
  known_within = subst (λ m. m ≤ length xs) (sym is) (within (λ (x : Known). same_region x.region k.region) (λ (x : Known). region_before x.region k.region) (λ x. k) k xs)

  pub known_there : i < length xs → same_region (get_or xs i d).region k.region ≡ true → set xs i k ≡ put_known k xs
  known_there lt same = sym (put_known_is k xs ∙ put_over (λ (x : Known). same_region x.region k.region) (λ (x : Known). region_before x.region k.region) (λ x. k) k d xs i known_stop lt same)

  pub known_new : (i < length xs → same_region (get_or xs i d).region k.region ≡ false) → insert xs i k ≡ put_known k xs
  known_new other = sym (put_known_is k xs ∙ put_new (λ (x : Known). same_region x.region k.region) (λ (x : Known). region_before x.region k.region) (λ x. k) k d xs i known_stop known_within other)

module _ (l d : Link) (i : ℕ) (xs : List Link) (is : i ≡ position_or_len (λ (m : Link). same_link m l || not (link_before m l)) xs) where
  link_stop : IsStop (λ m. same_link m l) (λ m. link_before m l) (λ m. offsets_of Joined m l) l i xs
  link_stop = subst (λ n. IsStop (λ m. same_link m l) (λ m. link_before m l) (λ m. offsets_of Joined m l) l n xs) (sym is) (is_stop (λ m. same_link m l) (λ m. link_before m l) (λ m. offsets_of Joined m l) l xs)

  pub link_within : i ≤ length xs
  link_within = subst (λ n. n ≤ length xs) (sym is) (within (λ m. same_link m l) (λ m. link_before m l) (λ m. offsets_of Joined m l) l xs)

  pub link_there : i < length xs → same_link (get_or xs i d) l ≡ true → set xs i (offsets_of Joined (get_or xs i d) l) ≡ with_link l xs
  link_there lt same = sym (with_link_is l xs ∙ put_over (λ m. same_link m l) (λ m. link_before m l) (λ m. offsets_of Joined m l) l d xs i link_stop lt same)

  pub link_new : (i < length xs → same_link (get_or xs i d) l ≡ false) → insert xs i l ≡ with_link l xs
  link_new other = sym (with_link_is l xs ∙ put_new (λ m. same_link m l) (λ m. link_before m l) (λ m. offsets_of Joined m l) l d xs i link_stop link_within other)

pub any_default : {A : Type 0} (xs : List A) (i : ℕ) (d e : A) → i < length xs → get_or xs i d ≡ get_or xs i e
any_default [] i d e lt = absurd (omega arith)
any_default (x ∷ xs) zero d e lt = refl
any_default (x ∷ xs) (suc i) d e lt = any_default xs i d e (omega arith)

pub not_equal : (m n : ℕ) → (m ≡ n → ⊥) → (m == n) ≡ false
not_equal m n h = is_false (m == n) (λ t. h (eqb-true m n t))
