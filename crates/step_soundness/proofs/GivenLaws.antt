-- What a reading gives, and which bytes it asks for, where it gives something, along its parts.
use Rattle.std.proofs.Common.{◌≡◌, ℕ, ◌==◌, ◌||◌, List, [], ◌∷◌, refl, sym, ap, subst, ◌∙◌, eqb-true}
use Rattle.std.specs.Prelude.{Bool, true, false, if◌then◌else◌, Option, Some, None}
use Rattle.std.proofs.lemmas.Bool.{false≢true}
use Rattle.std.proofs.lemmas.Option.{none-some, same_Some}
use Rattle.ia32_semantics.specs.State.{State, AtByte}
use Rattle.ia32_semantics.specs.Reading.{Reading, gives, faults, register, flag, byte, choice, ◌>>=◌, with_byte, outcome, asks}
use Rattle.ia32_semantics.proofs.ReadingLemmas.{then_asks, outcome_bind, asks_bind}
use Rattle.ia32_semantics.proofs.EffectLemmas.{or_true}
use Rattle.ia32_semantics.proofs.WithinLemmas.{given_next}

-- what a reading gives in this state is a Q, and each byte that it asks for is an R
pub record Gives {A : Type 0} (s : State) (R : ℕ → Type 0) (Q : A → Type 0) (t : Reading A) : Type 0 where
  pub given : (words rest : List ℕ) (x : A) → outcome t s words ≡ Some (x, rest) → Q x
  pub asked : (words rest : List ℕ) (x : A) → outcome t s words ≡ Some (x, rest) → (at : ℕ) → asks t s words (AtByte at) ≡ true → R at

module _ {A : Type 0} (s : State) (R : ℕ → Type 0) (Q : A → Type 0) where
  pub gives_this : (x : A) → Q x → Gives s R Q (gives x)
  gives_this x q = record {
    given = λ words rest y e. subst Q (ap (λ w. w.0) (same_Some (x, words) (y, rest) e)) q;
    asked = λ words rest y e at f. absurd (false≢true f);
  }

  pub gives_none : Gives s R Q faults
  gives_none = record {
    given = λ words rest y e. absurd (none-some _ e);
    asked = λ words rest y e at f. absurd (false≢true f);
  }

  pub gives_register : (n : ℕ) (k : ℕ → Reading A) → Gives s R Q (k (s.registers n)) → Gives s R Q (register n k)
  gives_register n k rest = record { given = rest.given; asked = rest.asked }

  pub gives_flag : (n : ℕ) (k : Bool → Reading A) → Gives s R Q (k (s.flags n)) → Gives s R Q (flag n k)
  gives_flag n k rest = record { given = rest.given; asked = rest.asked }

  pub gives_choice : (k : ℕ → Reading A) → ((v : ℕ) → Gives s R Q (k v)) → Gives s R Q (choice k)
  gives_choice k rest = record { given = given; asked = asked }
    where
      given : (words left : List ℕ) (x : A) → outcome (choice k) s words ≡ Some (x, left) → Q x
      given [] left x e = absurd (none-some _ e)
      given (word ∷ words) left x e = (rest word).given words left x e

      asked : (words left : List ℕ) (x : A) → outcome (choice k) s words ≡ Some (x, left) → (at : ℕ) → asks (choice k) s words (AtByte at) ≡ true → R at
      asked [] left x e at f = absurd (none-some _ e)
      asked (word ∷ words) left x e at f = (rest word).asked words left x e at f

  pub gives_byte : (a : ℕ) (k : ℕ → Reading A) → R a → ((v : ℕ) → s.memory a ≡ Some v → Gives s R Q (k v)) → Gives s R Q (byte a k)
  gives_byte a k here rest = record { given = λ words left x e. given (s.memory a) refl words left x e; asked = λ words left x e at f. asked (s.memory a) refl words left x e at f }
    where
      given : (o : Option ℕ) → s.memory a ≡ o → (words left : List ℕ) (x : A) → with_byte o None (λ v. outcome (k v) s words) ≡ Some (x, left) → Q x
      given None is words left x e = absurd (none-some _ e)
      given (Some v) is words left x e = (rest v is).given words left x e

      asked : (o : Option ℕ) → s.memory a ≡ o → (words left : List ℕ) (x : A) → with_byte o None (λ v. outcome (k v) s words) ≡ Some (x, left)
          → (at : ℕ) → (a == at || with_byte o false (λ v. asks (k v) s words (AtByte at))) ≡ true → R at
      asked None is words left x e at f = absurd (none-some _ e)
      asked (Some v) is words left x e at f = or_true (a == at) _ f (λ same. subst R (eqb-true a at same) here) (λ later. (rest v is).asked words left x e at later)

  pub gives_if : (b : Bool) (t u : Reading A) → (b ≡ true → Gives s R Q t) → (b ≡ false → Gives s R Q u) → Gives s R Q (if b then t else u)
  gives_if true t u held failed = held refl
  gives_if false t u held failed = failed refl

pub gives_bind : {A B : Type 0} (s : State) (R : ℕ → Type 0) (Q : A → Type 0) (P : B → Type 0) (t : Reading A) (k : A → Reading B)
    → Gives s R Q t → ((x : A) → Q x → Gives s R P (k x)) → Gives s R P (t >>= k)
gives_bind {A} {B} s R Q P t k first rest = record {
  given = λ words left y e. given_next (outcome t s words) (λ x left. outcome (k x) s left) y left
      (λ x between is f. (rest x (first.given words between x is)).given between left y f)
      (sym (outcome_bind t k s words) ∙ e);
  asked = λ words left y e at q. given_next (outcome t s words) (λ x left. outcome (k x) s left) y left
      (λ x between is f. or_true (asks t s words (AtByte at)) _ (sym (asks_bind t k s words (AtByte at)) ∙ q)
      (first.asked words between x is at)
      (λ r. (rest x (first.given words between x is)).asked between left y f at (sym (ap (λ o. then_asks o (λ x rest. asks (k x) s rest (AtByte at))) is) ∙ r)))
      (sym (outcome_bind t k s words) ∙ e);
}

-- what is given is of both kinds, or of a weaker one; what is asked for is of a weaker one
pub gives_more : {A : Type 0} (s : State) (R T : ℕ → Type 0) (Q P : A → Type 0) (t : Reading A) → ((at : ℕ) → R at → T at) → ((x : A) → Q x → P x)
    → Gives s R Q t → Gives s T P t
gives_more s R T Q P t wider weaker h = record {
  given = λ words rest x e. weaker x (h.given words rest x e);
  asked = λ words rest x e at f. wider at (h.asked words rest x e at f);
}
