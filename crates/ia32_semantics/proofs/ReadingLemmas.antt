-- What a reading that goes on with another gives and asks for, and that it gives the same where all that it asks for is the same.
use Rattle.std.proofs.Common.{◌≡◌, ℕ, List, [], ◌∷◌, refl, sym, ap, ◌∙◌, eq-eqb}
use Rattle.std.specs.Prelude.{Bool, true, false, ◌||◌, ◌==◌, Option, Some, None}
use Rattle.std.proofs.lemmas.Bool.{or_right, or_left}
use Rattle.ia32_semantics.specs.State.{State, Location, InRegister, InFlag, AtByte, SameAt}
use Rattle.ia32_semantics.specs.Reading.{Reading, gives, faults, register, flag, byte, choice, ◌>>=◌, with_byte, outcome, asks, is_register, is_flag, is_byte}

-- -- One after another

-- what the next reading gives, where the first gave something
abbrev pub then_outcome : {A B : Type 0} → Option (A × List ℕ) → (A → List ℕ → Option (B × List ℕ)) → Option (B × List ℕ)
then_outcome None next = None
then_outcome (Some done) next = next done.0 done.1

abbrev pub then_asks : {A : Type 0} → Option (A × List ℕ) → (A → List ℕ → Bool) → Bool
then_asks None next = false
then_asks (Some done) next = next done.0 done.1

byte_bind : {A B : Type 0} (m : Option ℕ) (both : ℕ → Option (B × List ℕ)) (first : ℕ → Option (A × List ℕ)) (next : A → List ℕ → Option (B × List ℕ))
    → ((v : ℕ) → both v ≡ then_outcome (first v) next)
    → with_byte m None both ≡ then_outcome (with_byte m None first) next
byte_bind None both first next each = refl
byte_bind (Some v) both first next each = each v

pub outcome_bind : {A B : Type 0} (t : Reading A) (k : A → Reading B) (s : State) (words : List ℕ)
    → outcome (t >>= k) s words ≡ then_outcome (outcome t s words) (λ x rest. outcome (k x) s rest)
outcome_bind (gives x) k s words = refl
outcome_bind faults k s words = refl
outcome_bind (register n more) k s words = outcome_bind (more (s.registers n)) k s words
outcome_bind (flag n more) k s words = outcome_bind (more (s.flags n)) k s words
outcome_bind (byte a more) k s words = byte_bind (s.memory a) _ _ _ (λ v. outcome_bind (more v) k s words)
outcome_bind (choice more) k s [] = refl
outcome_bind (choice more) k s (word ∷ words) = outcome_bind (more word) k s words

or_then : (b x y z : Bool) → x ≡ (y || z) → (b || x) ≡ (b || y || z)
or_then true x y z e = refl
or_then false x y z e = e

byte_asks : {A : Type 0} (m : Option ℕ) (both : ℕ → Bool) (mine : ℕ → Bool) (first : ℕ → Option (A × List ℕ)) (next : A → List ℕ → Bool)
    → ((v : ℕ) → both v ≡ (mine v || then_asks (first v) next))
    → with_byte m false both ≡ (with_byte m false mine || then_asks (with_byte m None first) next)
byte_asks None both mine first next each = refl
byte_asks (Some v) both mine first next each = each v

pub asks_bind : {A B : Type 0} (t : Reading A) (k : A → Reading B) (s : State) (words : List ℕ) (l : Location)
    → asks (t >>= k) s words l ≡ (asks t s words l || then_asks (outcome t s words) (λ x rest. asks (k x) s rest l))
asks_bind (gives x) k s words l = refl
asks_bind faults k s words l = refl
asks_bind (register n more) k s words l = or_then (is_register n l) _ _ _ (asks_bind (more (s.registers n)) k s words l)
asks_bind (flag n more) k s words l = or_then (is_flag n l) _ _ _ (asks_bind (more (s.flags n)) k s words l)
asks_bind (byte a more) k s words l =
    or_then (is_byte a l) _ _ _ (byte_asks (s.memory a) _ _ _ _ (λ v. asks_bind (more v) k s words l))
asks_bind (choice more) k s [] l = refl
asks_bind (choice more) k s (word ∷ words) l = asks_bind (more word) k s words l

-- -- The same where the same is asked for

pub same_number : (n : ℕ) → (n == n) ≡ true
same_number n = eq-eqb n n refl

-- two states have the same wherever a test holds
pub record AgreeOn (asked : Location → Bool) (s t : State) : Type 0 where
  pub same : (l : Location) → asked l ≡ true → SameAt l s t

agree_rest : (first rest : Location → Bool) (s t : State) → AgreeOn (λ l. first l || rest l) s t → AgreeOn rest s t
agree_rest first rest s t agree = record { same = λ l e. agree.same l (or_right (first l) (rest l) e) }

byte_same : {A : Type 0} (a : ℕ) (more : ℕ → Reading A) (s t : State) (words : List ℕ) (m : Option ℕ)
    → s.memory a ≡ m
    → AgreeOn (λ l. is_byte a l || with_byte m false (λ v. asks (more v) s words l)) s t
    → ((v : ℕ) → AgreeOn (λ l. asks (more v) s words l) s t → outcome (more v) s words ≡ outcome (more v) t words)
    → with_byte m None (λ v. outcome (more v) s words) ≡ with_byte (t.memory a) None (λ v. outcome (more v) t words)
byte_same a more s t words m is agree each =
    from_same (t.memory a) m (sym is ∙ agree.same (AtByte a) (or_left (a == a) _ (same_number a))) agree
  where
    from_same : (n m : Option ℕ) → m ≡ n
        → AgreeOn (λ l. is_byte a l || with_byte m false (λ v. asks (more v) s words l)) s t
        → with_byte m None (λ v. outcome (more v) s words) ≡ with_byte n None (λ v. outcome (more v) t words)
    from_same n None e h = ap (λ n. with_byte n None (λ v. outcome (more v) t words)) e
    from_same n (Some v) e h =
        each v (agree_rest (is_byte a) (λ l. asks (more v) s words l) s t h) ∙ ap (λ n. with_byte n None (λ v. outcome (more v) t words)) e

pub same_outcome : {A : Type 0} (r : Reading A) (s t : State) (words : List ℕ)
    → AgreeOn (asks r s words) s t → outcome r s words ≡ outcome r t words
same_outcome (gives x) s t words agree = refl
same_outcome faults s t words agree = refl
same_outcome (register n more) s t words agree =
    same_outcome (more (s.registers n)) s t words (agree_rest (is_register n) (asks (more (s.registers n)) s words) s t agree)
    ∙ ap (λ v. outcome (more v) t words) (agree.same (InRegister n) (or_left (n == n) _ (same_number n)))
same_outcome (flag n more) s t words agree =
    same_outcome (more (s.flags n)) s t words (agree_rest (is_flag n) (asks (more (s.flags n)) s words) s t agree)
    ∙ ap (λ v. outcome (more v) t words) (agree.same (InFlag n) (or_left (n == n) _ (same_number n)))
same_outcome (byte a more) s t words agree = byte_same a more s t words (s.memory a) refl agree (λ v h. same_outcome (more v) s t words h)
same_outcome (choice more) s t [] agree = refl
same_outcome (choice more) s t (word ∷ words) agree = same_outcome (more word) s t words agree
