-- Different cuts that all stand among others are no more than those.
use Rattle.std.proofs.Common.{◌≡◌, ◌≤◌, true, false, ⊎_elim, ◌⊎◌, List, [], ◌∷◌, length, sym, subst, ◌∙◌, arith}
use Rattle.std.specs.Prelude.{Contains}
use Rattle.std.proofs.lemmas.Bool.{true≢false}
use Rattle.image_map.proofs.OrderLemmas.{before-irreflexive, before-trans}
use Rattle.alocs.proofs.MemberLaws.{contains-cases, contains-head, contains-tail, contains-none}
use Rattle.asi_cuts.specs.declared.set.Cut.{Cut}
use Rattle.asi_cuts.specs.Closed.{cut_before, RiseBehind, AreDifferent}
use Rattle.asi_cuts.proofs.OrderLemmas.{cut_total, rising_tail}

all_behind : (x : Cut) (xs : List Cut) → RiseBehind x xs → (y : Cut) → Contains xs y → cut_before x y ≡ true
all_behind x [] h y k = absurd (contains-none y k)
all_behind x (z ∷ zs) h y k =
    ⊎_elim (λ (e : z ≡ y). subst (λ (c : Cut). cut_before x c ≡ true) e h.0) (λ q. before-trans cut_total x z y h.0 (all_behind z zs h.1 y q)) (contains-cases z zs y k)

apart : (x y : Cut) → cut_before x y ≡ true → x ≡ y → ⊥
apart x y h e = true≢false (sym h ∙ subst (λ (c : Cut). cut_before x c ≡ false) e (before-irreflexive cut_total x))

pub no_more : (xs ys : List Cut) → AreDifferent xs → AreDifferent ys → ((x : Cut) → Contains xs x → Contains ys x) → length xs ≤ length ys
no_more [] ys dx dy all = omega arith
no_more (x ∷ xs) [] dx dy all = absurd (contains-none x (all x (contains-head x xs)))
no_more (x ∷ xs) (y ∷ ys) dx dy all =
    ⊎_elim
    (λ (e : y ≡ x). let h = no_more xs ys (rising_tail x xs dx) (rising_tail y ys dy) (λ z k. after z (all_behind x xs dx z k) e (contains-cases y ys z (all z (contains-tail x xs z k)))) in omega arith)
    (λ k. let h = no_more (x ∷ xs) ys dx (rising_tail y ys dy) (λ z q. later (all_behind y ys dy x k) z (contains-cases x xs z q) (contains-cases y ys z (all z q))) in omega arith)
    (contains-cases y ys x (all x (contains-head x xs)))
  where
    after : (z : Cut) → cut_before x z ≡ true → y ≡ x → (y ≡ z) ⊎ Contains ys z → Contains ys z
    after z h e c = ⊎_elim (λ (q : y ≡ z). absurd (apart x z h (sym e ∙ q))) (λ q. q) c

    before : cut_before y x ≡ true → (z : Cut) → (x ≡ z) ⊎ Contains xs z → cut_before y z ≡ true
    before h z c = ⊎_elim (λ (q : x ≡ z). subst (λ (w : Cut). cut_before y w ≡ true) q h) (λ q. before-trans cut_total y x z h (all_behind x xs dx z q)) c

    later : cut_before y x ≡ true → (z : Cut) → (x ≡ z) ⊎ Contains xs z → (y ≡ z) ⊎ Contains ys z → Contains ys z
    later h z c d = ⊎_elim (λ (q : y ≡ z). absurd (apart y z (before h z c) q)) (λ q. q) d
