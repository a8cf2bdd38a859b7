-- A condition may come out as it does on flags that may be so.
use Rattle.std.proofs.Common.{◌≡◌, ℕ, ◌/◌, ◌%◌, ◌==◌, ◌<◌, Bool, true, false, not, ◌||◌, ◌&&◌, cond, refl, ◌∙◌, ap, subst, pos, arith, lit<}
use Rattle.ia32_semantics.specs.declared.flags.Flags.{Flags}
use Rattle.ia32_semantics.specs.Alu.{differ as differs}
use Rattle.ia32_semantics.specs.Condition as machine
use Rattle.si_bits.specs.Operations.{up_to}
use Rattle.si_bits.proofs.MemberLemmas.{member-up_to}
use Rattle.si_bits.proofs.SignLemmas.{number-low}
use Rattle.vset.specs.Values.{Values, CanonicalValues}
use Rattle.vset.specs.Operations.{join}
use Rattle.vset.specs.World.{World}
use Rattle.vset.specs.Members.{HasValue}
use Rattle.vset.proofs.MemberLemmas.{join_has_left, join_has_right}
use Rattle.abs_alu.specs.Words.{numbers, number}
use Rattle.abs_alu.proofs.WordLemmas.{numbers_has, number_has}
use Rattle.abs_steps.specs.Flags.{MayBe, either, differ, is_less, even_condition, may_hold, decided}
use Rattle.abs_steps.specs.Results.{truth_of, chosen_by}
use Rattle.step_soundness.specs.Terms.{AreAllowed}

either_may : (p q : Bool → Bool) (x y : Bool) → p x ≡ true → q y ≡ true → either p q (x || y) ≡ true
either_may p q true y px qy = ap (λ b. b || q true) px
either_may p q false true px qy = or_true (p true) (q true) qy
  where
    or_true : (a b : Bool) → b ≡ true → (a || b) ≡ true
    or_true true b e = refl
    or_true false b e = e
either_may p q false false px qy = ap (λ b. b && q false) px ∙ qy

differ_may : (p q : Bool → Bool) (x y : Bool) → p x ≡ true → q y ≡ true → differ p q (differs x y) ≡ true
differ_may p q true true px qy = ap (λ b. (b && q true) || (p false && q false)) px ∙ ap (λ b. b || (p false && q false)) qy
differ_may p q true false px qy = ap (λ b. (b && q false) || (p false && q true)) px ∙ ap (λ b. b || (p false && q true)) qy
differ_may p q false true px qy = ap (λ b. (p true && q false) || (b && q true)) px ∙ or_true (p true && q false) (q true) qy
  where
    or_true : (a b : Bool) → b ≡ true → (a || b) ≡ true
    or_true true b e = refl
    or_true false b e = e
differ_may p q false false px qy = ap (λ b. (p true && q true) || (b && q false)) px ∙ or_true (p true && q true) (q false) qy
  where
    or_true : (a b : Bool) → b ≡ true → (a || b) ≡ true
    or_true true b e = refl
    or_true false b e = e

module _ (may : MayBe) (f : Flags) (allowed : AreAllowed may f) where
  less_may : is_less may (machine.is_less f) ≡ true
  less_may = differ_may (may 3) (may 4) f.sf f.of allowed.sf allowed.of

  even_may : (n : ℕ) → even_condition n may (machine.even_condition n f) ≡ true
  unfolding even_condition machine.even_condition
  even_may n = chain (n == 0) (n == 1) (n == 2) (n == 3) (n == 4) (n == 5) (n == 6)
    where
      told : Bool → Bool → Bool → Bool → Bool → Bool → Bool → Bool
      told a b c d e g h = cond a f.of (cond b f.cf (cond c f.zf (cond d (f.cf || f.zf) (cond e f.sf (cond g f.pf (cond h (machine.is_less f) (f.zf || machine.is_less f)))))))

      chain : (a b c d e g h : Bool)
          → cond a (may 4 (told a b c d e g h)) (cond b (may 0 (told a b c d e g h)) (cond c (may 2 (told a b c d e g h)) (cond d (either (may 0) (may 2) (told a b c d e g h))
          (cond e (may 3 (told a b c d e g h)) (cond g (may 1 (told a b c d e g h)) (cond h (is_less may (told a b c d e g h)) (either (may 2) (is_less may) (told a b c d e g h)))))))) ≡ true
      chain true b c d e g h = allowed.of
      chain false true c d e g h = allowed.cf
      chain false false true d e g h = allowed.zf
      chain false false false true e g h = either_may (may 0) (may 2) f.cf f.zf allowed.cf allowed.zf
      chain false false false false true g h = allowed.sf
      chain false false false false false true h = allowed.pf
      chain false false false false false false true = less_may
      chain false false false false false false false = either_may (may 2) (is_less may) f.zf (machine.is_less f) allowed.zf less_may

  not_not : (b : Bool) → not (not b) ≡ b
  not_not true = refl
  not_not false = refl

  pub holds_may : (c : ℕ) → may_hold c may (machine.holds c f) ≡ true
  unfolding may_hold machine.holds
  holds_may c = by_test (c % 2 == 1)
    where
      value : Bool
      value = machine.even_condition (c / 2) f

      by_test : (b : Bool) → cond b (even_condition (c / 2) may (not (cond b (not value) value))) (even_condition (c / 2) may (cond b (not value) value)) ≡ true
      by_test true = ap (even_condition (c / 2) may) (not_not value) ∙ even_may (c / 2)
      by_test false = even_may (c / 2)

  picked : (g : Bool → Bool) (t : Bool) → g t ≡ true → cond t (g true) (g false) ≡ true
  picked g true is = is
  picked g false is = is

  -- what stands for a test that came out so
  decided_has : {A : Type 0} (P : A → Type 0) (c : ℕ) (t : Bool) (yes_ no_ other : A) → may_hold c may t ≡ true → P (cond t yes_ no_) → P other → P (decided (may_hold c may true) (may_hold c may false) yes_ no_ other)
  decided_has {A} P c t y n other is here there = by (may_hold c may true) (may_hold c may false) t (picked (may_hold c may) t is) here
    where
      by : (p q t : Bool) → cond t p q ≡ true → P (cond t y n) → P (decided p q y n other)
      by true true t is here = there
      by true false true is here = here
      by true false false is here = cc
      by false true true is here = cc
      by false true false is here = here
      by false false true is here = cc
      by false false false is here = cc

  module _ (lane : ℕ) (world : World) (c : ℕ) where
    -- 1 where the condition holds
    pub truth_has : HasValue lane world (cond (machine.holds c f) 1 0) (truth_of c may)
    unfolding truth_of
    truth_has =
        decided_has (HasValue lane world (cond (machine.holds c f) 1 0)) c (machine.holds c f) (number (pos 1)) (number (pos 0)) (numbers (up_to 1)) (holds_may c)
        (by_test (machine.holds c f)) (either_number (machine.holds c f))
      where
        small : (k : ℕ) → k < 2147483648 → HasValue lane world k (number (pos k))
        small k lt = subst (λ z. HasValue lane world k (number z)) (number-low k lt) (number_has lane world k (omega arith))

        by_test : (t : Bool) → HasValue lane world (cond t 1 0) (cond t (number (pos 1)) (number (pos 0)))
        by_test true = small 1 (lit< tt)
        by_test false = small 0 (lit< tt)

        either_number : (t : Bool) → HasValue lane world (cond t 1 0) (numbers (up_to 1))
        either_number true = numbers_has lane world 1 (lit< tt) (up_to 1) (member-up_to 1 1 (omega arith) (omega arith))
        either_number false = numbers_has lane world 0 (lit< tt) (up_to 1) (member-up_to 1 0 (omega arith) (omega arith))

    -- the new value where it holds, and else the old one
    pub chosen_has : (new old : Values) → CanonicalValues new → CanonicalValues old → (m n : ℕ) → HasValue lane world m new → HasValue lane world n old
        → HasValue lane world (cond (machine.holds c f) m n) (chosen_by c may new old)
    unfolding chosen_by
    chosen_has new old fn fo m n hm hn =
        decided_has (HasValue lane world (cond (machine.holds c f) m n)) c (machine.holds c f) new old (join new old) (holds_may c)
        (by_test (machine.holds c f)) (joined (machine.holds c f))
      where
        by_test : (t : Bool) → HasValue lane world (cond t m n) (cond t new old)
        by_test true = hm
        by_test false = hn

        joined : (t : Bool) → HasValue lane world (cond t m n) (join new old)
        joined true = join_has_left lane world m new old fn fo hm
        joined false = join_has_right lane world n new old fn fo hn
