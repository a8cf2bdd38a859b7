-- The words of choice that a reading takes.
use Rattle.std.proofs.Common.{◌≡◌, ℕ, List, [], ◌∷◌, ◌++◌, refl, ap, ◌∙◌}
use Rattle.std.specs.Prelude.{Bool, false, ◌||◌, Option, Some, None}
use Rattle.std.proofs.lemmas.Option.{none-some, same_Some}
use Rattle.ia32_semantics.specs.State.{State, Location}
use Rattle.ia32_semantics.specs.Reading.{Reading, gives, faults, register, flag, byte, choice, with_byte, outcome, asks, is_register, is_flag, is_byte}

byte_more : {A : Type 0} (m : Option ℕ) (f g : ℕ → Option (A × List ℕ)) (r q : A × List ℕ) → ((v : ℕ) → f v ≡ Some r → g v ≡ Some q)
    → with_byte m None f ≡ Some r → with_byte m None g ≡ Some q
byte_more None f g r q each e = absurd (none-some r e)
byte_more (Some v) f g r q each e = each v e

-- more words at the end are left
pub more_words : {A : Type 0} (t : Reading A) (s : State) (words more rest : List ℕ) (x : A) → outcome t s words ≡ Some (x, rest) → outcome t s (words ++ more) ≡ Some (x, rest ++ more)
more_words {A = A} (gives y) s words more rest x e = ap (λ (r : A × List ℕ). Some (r.0, r.1 ++ more)) (same_Some (y, words) (x, rest) e)
more_words faults s words more rest x e = absurd (none-some (x, rest) e)
more_words (register n next) s words more rest x e = more_words (next (s.registers n)) s words more rest x e
more_words (flag n next) s words more rest x e = more_words (next (s.flags n)) s words more rest x e
more_words (byte a next) s words more rest x e =
    byte_more (s.memory a) (λ v. outcome (next v) s words) (λ v. outcome (next v) s (words ++ more)) (x, rest) (x, rest ++ more)
    (λ v h. more_words (next v) s words more rest x h) e
more_words (choice next) s [] more rest x e = absurd (none-some (x, rest) e)
more_words (choice next) s (word ∷ words) more rest x e = more_words (next word) s words more rest x e

-- the words that were taken, before those that are left
pub record Used {A : Type 0} (t : Reading A) (s : State) (words rest : List ℕ) (x : A) : Type 0 where
  pub used : List ℕ
  pub are : words ≡ used ++ rest
  pub gives_it : outcome t s used ≡ Some (x, [])

byte_used : {A : Type 0} (a : ℕ) (next : ℕ → Reading A) (s : State) (words rest : List ℕ) (x : A) (m : Option ℕ) → s.memory a ≡ m
    → ((v : ℕ) → outcome (next v) s words ≡ Some (x, rest) → Used (next v) s words rest x)
    → with_byte m None (λ v. outcome (next v) s words) ≡ Some (x, rest) → Used (byte a next) s words rest x
byte_used a next s words rest x None is each h = absurd (none-some (x, rest) h)
byte_used a next s words rest x (Some v) is each h =
    let u = each v h in
    record { used = u.used; are = u.are; gives_it = ap (λ m. with_byte m None (λ w. outcome (next w) s u.used)) is ∙ u.gives_it }

pub used_words : {A : Type 0} (t : Reading A) (s : State) (words rest : List ℕ) (x : A) → outcome t s words ≡ Some (x, rest) → Used t s words rest x
used_words {A = A} (gives y) s words rest x e = record {
  used = [];
  are = ap (λ (r : A × List ℕ). r.1) (same_Some (y, words) (x, rest) e);
  gives_it = ap (λ (r : A × List ℕ). Some (r.0, [])) (same_Some (y, words) (x, rest) e);
}
used_words faults s words rest x e = absurd (none-some (x, rest) e)
used_words (register n next) s words rest x e =
    let u = used_words (next (s.registers n)) s words rest x e in record { used = u.used; are = u.are; gives_it = u.gives_it }
used_words (flag n next) s words rest x e =
    let u = used_words (next (s.flags n)) s words rest x e in record { used = u.used; are = u.are; gives_it = u.gives_it }
used_words (byte a next) s words rest x e =
    byte_used a next s words rest x (s.memory a) refl (λ v h. used_words (next v) s words rest x h) e
used_words (choice next) s [] rest x e = absurd (none-some (x, rest) e)
used_words (choice next) s (word ∷ words) rest x e =
    let u = used_words (next word) s words rest x e in record { used = word ∷ u.used; are = ap (λ l. word ∷ l) u.are; gives_it = u.gives_it }

byte_asks : {A : Type 0} (a : ℕ) (l : Location) (m : Option ℕ) (f g : ℕ → Bool) (r : A × List ℕ) (h : ℕ → Option (A × List ℕ)) → ((v : ℕ) → h v ≡ Some r → f v ≡ g v)
    → with_byte m None h ≡ Some r → (is_byte a l || with_byte m false f) ≡ (is_byte a l || with_byte m false g)
byte_asks a l None f g r h each e = refl
byte_asks a l (Some v) f g r h each e = ap (λ b. is_byte a l || b) (each v e)

-- what is asked for with the words that are taken is asked for with more
pub asks_more : {A : Type 0} (t : Reading A) (s : State) (words more rest : List ℕ) (x : A) (l : Location) → outcome t s words ≡ Some (x, rest) → asks t s (words ++ more) l ≡ asks t s words l
asks_more (gives y) s words more rest x l e = refl
asks_more faults s words more rest x l e = refl
asks_more (register n next) s words more rest x l e = ap (λ b. is_register n l || b) (asks_more (next (s.registers n)) s words more rest x l e)
asks_more (flag n next) s words more rest x l e = ap (λ b. is_flag n l || b) (asks_more (next (s.flags n)) s words more rest x l e)
asks_more (byte a next) s words more rest x l e =
    byte_asks a l (s.memory a) (λ v. asks (next v) s (words ++ more) l) (λ v. asks (next v) s words l) (x, rest) (λ v. outcome (next v) s words)
    (λ v h. asks_more (next v) s words more rest x l h) e
asks_more (choice next) s [] more rest x l e = absurd (none-some (x, rest) e)
asks_more (choice next) s (word ∷ words) more rest x l e = asks_more (next word) s words more rest x l e
