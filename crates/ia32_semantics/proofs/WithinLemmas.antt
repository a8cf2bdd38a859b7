-- What holds of all that a reading asks for and of what it gives, along its parts.
use Rattle.std.proofs.Common.{◌≡◌, ℕ, List, [], ◌∷◌, refl, sym, ap, subst, ◌∙◌, eqb-true}
use Rattle.std.specs.Prelude.{Bool, true, false, if◌then◌else◌, Option, Some, None}
use Rattle.std.proofs.lemmas.Bool.{false≢true}
use Rattle.std.proofs.lemmas.Option.{none-some, same_Some}
use Rattle.ia32_semantics.specs.State.{State, Location, InRegister, InFlag, AtByte}
use Rattle.ia32_semantics.specs.Reading.{Reading, gives, faults, register, flag, byte, choice, ◌>>=◌, with_byte, outcome, asks, is_register, is_flag, is_byte}
use Rattle.ia32_semantics.proofs.ReadingLemmas.{then_outcome, then_asks, outcome_bind, asks_bind}
use Rattle.ia32_semantics.proofs.EffectLemmas.{or_true}

-- in this state a reading asks only for what R has, and what it gives is a Q
pub record Within {A : Type 0} (s : State) (R : Location → Bool) (Q : A → Type 0) (t : Reading A) : Type 0 where
  pub asked : (words : List ℕ) (l : Location) → asks t s words l ≡ true → R l ≡ true
  pub given : (words rest : List ℕ) (x : A) → outcome t s words ≡ Some (x, rest) → Q x

pub within_gives : {A : Type 0} (s : State) (R : Location → Bool) (Q : A → Type 0) (x : A) → Q x → Within s R Q (gives x)
within_gives s R Q x q = record {
  asked = λ words l e. absurd (false≢true e);
  given = λ words rest y e. subst Q (ap (λ w. w.0) (same_Some (x, words) (y, rest) e)) q;
}

pub within_faults : {A : Type 0} (s : State) (R : Location → Bool) (Q : A → Type 0) → Within s R Q faults
within_faults s R Q = record {
  asked = λ words l e. absurd (false≢true e);
  given = λ words rest y e. absurd (none-some _ e);
}

asked_next : {A : Type 0} (Q : A → Type 0) (done : Option (A × List ℕ)) (next : A → List ℕ → Bool) {P : Type 0}
    → ((x : A) (rest : List ℕ) → done ≡ Some (x, rest) → next x rest ≡ true → P)
    → then_asks done next ≡ true → P
asked_next Q None next each e = absurd (false≢true e)
asked_next Q (Some done) next each e = each done.0 done.1 refl e

pub given_next : {A B : Type 0} (done : Option (A × List ℕ)) (next : A → List ℕ → Option (B × List ℕ)) (y : B) (rest : List ℕ) {P : Type 0}
    → ((x : A) (left : List ℕ) → done ≡ Some (x, left) → next x left ≡ Some (y, rest) → P)
    → then_outcome done next ≡ Some (y, rest) → P
given_next None next y rest each e = absurd (none-some _ e)
given_next (Some done) next y rest each e = each done.0 done.1 refl e

pub within_bind : {A B : Type 0} (s : State) (R : Location → Bool) (Q : A → Type 0) (P : B → Type 0) (t : Reading A) (k : A → Reading B)
    → Within s R Q t → ((x : A) → Q x → Within s R P (k x)) → Within s R P (t >>= k)
within_bind {A} {B} s R Q P t k first rest = record {
  asked = λ words l e. or_true (asks t s words l) _ (sym (asks_bind t k s words l) ∙ e) (first.asked words l)
      (asked_next Q (outcome t s words) (λ x left. asks (k x) s left l) (λ x left is. (rest x (first.given words left x is)).asked left l));
  given = λ words left y e. given_next (outcome t s words) (λ x left. outcome (k x) s left) y left
      (λ x between is f. (rest x (first.given words between x is)).given between left y f)
      (sym (outcome_bind t k s words) ∙ e);
}

pub within_register : {A : Type 0} (s : State) (R : Location → Bool) (Q : A → Type 0) (n : ℕ) (k : ℕ → Reading A)
    → R (InRegister n) ≡ true → Within s R Q (k (s.registers n)) → Within s R Q (register n k)
within_register s R Q n k has rest = record {
  asked = λ words l e. or_true (is_register n l) _ e (here l) (rest.asked words l);
  given = rest.given;
}
  where
    here : (l : Location) → is_register n l ≡ true → R l ≡ true
    here (InRegister m) e = ap (λ k. R (InRegister k)) (sym (eqb-true n m e)) ∙ has
    here (InFlag m) e = absurd (false≢true e)
    here (AtByte x) e = absurd (false≢true e)

pub within_flag : {A : Type 0} (s : State) (R : Location → Bool) (Q : A → Type 0) (n : ℕ) (k : Bool → Reading A)
    → R (InFlag n) ≡ true → Within s R Q (k (s.flags n)) → Within s R Q (flag n k)
within_flag s R Q n k has rest = record {
  asked = λ words l e. or_true (is_flag n l) _ e (here l) (rest.asked words l);
  given = rest.given;
}
  where
    here : (l : Location) → is_flag n l ≡ true → R l ≡ true
    here (InRegister m) e = absurd (false≢true e)
    here (InFlag m) e = ap (λ k. R (InFlag k)) (sym (eqb-true n m e)) ∙ has
    here (AtByte x) e = absurd (false≢true e)

byte_asked : (m : Option ℕ) (k : ℕ → Bool) {P : Type 0} → ((v : ℕ) → m ≡ Some v → k v ≡ true → P) → with_byte m false k ≡ true → P
byte_asked None k each e = absurd (false≢true e)
byte_asked (Some v) k each e = each v refl e

byte_given : {A : Type 0} (m : Option ℕ) (k : ℕ → Option A) (y : A) {P : Type 0} → ((v : ℕ) → m ≡ Some v → k v ≡ Some y → P) → with_byte m None k ≡ Some y → P
byte_given None k y each e = absurd (none-some _ e)
byte_given (Some v) k y each e = each v refl e

pub within_byte : {A : Type 0} (s : State) (R : Location → Bool) (Q : A → Type 0) (a : ℕ) (k : ℕ → Reading A)
    → R (AtByte a) ≡ true → ((v : ℕ) → s.memory a ≡ Some v → Within s R Q (k v)) → Within s R Q (byte a k)
within_byte {A} s R Q a k has rest = record {
  asked = λ words l e. or_true (is_byte a l) _ e (here l)
      (byte_asked (s.memory a) (λ v. asks (k v) s words l) (λ v is. (rest v is).asked words l));
  given = λ words left y e. byte_given (s.memory a) (λ v. outcome (k v) s words) (y, left) (λ v is. (rest v is).given words left y) e;
}
  where
    here : (l : Location) → is_byte a l ≡ true → R l ≡ true
    here (InRegister m) e = absurd (false≢true e)
    here (InFlag m) e = absurd (false≢true e)
    here (AtByte x) e = ap (λ k. R (AtByte k)) (sym (eqb-true a x e)) ∙ has

pub within_choice : {A : Type 0} (s : State) (R : Location → Bool) (Q : A → Type 0) (k : ℕ → Reading A)
    → ((v : ℕ) → Within s R Q (k v)) → Within s R Q (choice k)
within_choice {A} s R Q k rest = record { asked = asked; given = given }
  where
    asked : (words : List ℕ) (l : Location) → asks (choice k) s words l ≡ true → R l ≡ true
    asked [] l e = absurd (false≢true e)
    asked (word ∷ words) l e = (rest word).asked words l e

    given : (words left : List ℕ) (x : A) → outcome (choice k) s words ≡ Some (x, left) → Q x
    given [] left x e = absurd (none-some _ e)
    given (word ∷ words) left x e = (rest word).given words left x e

pub within_if : {A : Type 0} (s : State) (R : Location → Bool) (Q : A → Type 0) (b : Bool) (t u : Reading A)
    → (b ≡ true → Within s R Q t) → (b ≡ false → Within s R Q u) → Within s R Q (if b then t else u)
within_if s R Q true t u held failed = held refl
within_if s R Q false t u held failed = failed refl
