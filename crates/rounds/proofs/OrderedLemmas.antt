-- Two lists that rise in one order and have the same members are the same.
use Rattle.std.proofs.Common.{◌≡◌, ⊎_elim, List, [], ◌∷◌, sym, subst, ◌∙◌}
use Rattle.std.specs.Prelude.{Contains}
use Rattle.alocs.proofs.MemberLaws.{contains-cases, contains-head, contains-tail, contains-none}

-- each element stands before all that follow
abbrev pub Rise : {A : Type 0} → (A → A → Type 0) → List A → Type 0
Rise before [] = Unit {0}
Rise before (x ∷ xs) = ((y : _) → Contains xs y → before x y) × Rise before xs

module _ {A : Type 0} (before : A → A → Type 0) (not_both : (a b : A) → before a b → before b a → ⊥) where
  one_head : (x y : A) (xs ys : List A) → Rise before (x ∷ xs) → Rise before (y ∷ ys) → Contains (y ∷ ys) x → Contains (x ∷ xs) y → x ≡ y
  one_head x y xs ys rise others has back =
      ⊎_elim (λ (e : y ≡ x). sym e)
      (λ later. ⊎_elim (λ (e : x ≡ y). e) (λ q. absurd (not_both y x (others.0 x later) (rise.0 y q))) (contains-cases x xs y back))
      (contains-cases y ys x has)

  -- what follows in the one list follows in the other, which has the same head
  behind : (x y : A) (xs ys : List A) → x ≡ y → Rise before (x ∷ xs) → ((a : A) → Contains (x ∷ xs) a → Contains (y ∷ ys) a) → (a : A) → Contains xs a → Contains ys a
  behind x y xs ys same rise has a k =
      ⊎_elim
      (λ (e : y ≡ a). let itself : before a a = subst (λ b. before b a) (same ∙ e) (rise.0 a k) in absurd (not_both a a itself itself))
      (λ q. q)
      (contains-cases y ys a (has a (contains-tail x xs a k)))

  pub same_list : (xs ys : List A) → Rise before xs → Rise before ys → ((a : A) → Contains xs a → Contains ys a) → ((a : A) → Contains ys a → Contains xs a) → xs ≡ ys
  same_list [] [] rise others has back = λ i. []
  same_list [] (y ∷ ys) rise others has back = absurd (contains-none y (back y (contains-head y ys)))
  same_list (x ∷ xs) [] rise others has back = absurd (contains-none x (has x (contains-head x xs)))
  same_list (x ∷ xs) (y ∷ ys) rise others has back =
      let head : x ≡ y = one_head x y xs ys rise others (has x (contains-head x xs)) (back y (contains-head y ys)) in
      let tail : xs ≡ ys = same_list xs ys rise.1 others.1 (behind x y xs ys head rise has) (behind y x ys xs (sym head) others back) in
      λ i. head i ∷ tail i
