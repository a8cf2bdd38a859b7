-- Of the words of choice a reading takes those at the front, and with these alone it gives the same and asks for the same.
use Rattle.std.proofs.Common.{◌≡◌, ℕ, List, [], ◌∷◌, ◌++◌, refl, sym, ap, ◌∙◌}
use Rattle.std.specs.Prelude.{false, ◌||◌, Option, Some, None}
use Rattle.std.proofs.lemmas.Option.{none-some, same_Some}
use Rattle.ia32_semantics.specs.State.{State, Location}
use Rattle.ia32_semantics.specs.Reading.{Reading, gives, faults, register, flag, byte, choice, with_byte, outcome, asks, is_register, is_flag, is_byte}

-- what it takes of some words when it gives x and leaves the rest
pub record Takes {A : Type 0} (t : Reading A) (s : State) (words : List ℕ) (x : A) (rest : List ℕ) : Type 0 where
  pub taken : List ℕ
  pub parts : words ≡ taken ++ rest
  pub alone : outcome t s taken ≡ Some (x, [])
  pub asked : (l : Location) → asks t s taken l ≡ asks t s words l

byte_takes : {A : Type 0} (a : ℕ) (more : ℕ → Reading A) (s : State) (words : List ℕ) (x : A) (rest : List ℕ) (m : Option ℕ) → s.memory a ≡ m
    → ((v : ℕ) → outcome (more v) s words ≡ Some (x, rest) → Takes (more v) s words x rest)
    → with_byte m None (λ v. outcome (more v) s words) ≡ Some (x, rest) → Takes (byte a more) s words x rest
byte_takes a more s words x rest None is each gave = absurd (none-some _ gave)
byte_takes a more s words x rest (Some v) is each gave =
    let inner = each v gave in
    record {
      taken = inner.taken;
      parts = inner.parts;
      alone = ap (λ m. with_byte m None (λ v. outcome (more v) s inner.taken)) is ∙ inner.alone;
      asked = λ l.
          ap (λ m. is_byte a l || with_byte m false (λ v. asks (more v) s inner.taken l)) is
          ∙ ap (λ b. is_byte a l || b) (inner.asked l)
          ∙ ap (λ m. is_byte a l || with_byte m false (λ v. asks (more v) s words l)) (sym is);
    }

pub takes_front : {A : Type 0} (t : Reading A) (s : State) (words : List ℕ) (x : A) (rest : List ℕ)
    → outcome t s words ≡ Some (x, rest) → Takes t s words x rest
takes_front (gives y) s words x rest gave =
    record {
      taken = [];
      parts = ap (λ w. w.1) (same_Some (y, words) (x, rest) gave);
      alone = ap (λ y. Some (y, [])) (ap (λ w. w.0) (same_Some (y, words) (x, rest) gave));
      asked = λ l. refl;
    }
takes_front faults s words x rest gave = absurd (none-some _ gave)
takes_front (register n more) s words x rest gave =
    let inner = takes_front (more (s.registers n)) s words x rest gave in
    record { taken = inner.taken; parts = inner.parts; alone = inner.alone; asked = λ l. ap (λ b. is_register n l || b) (inner.asked l) }
takes_front (flag n more) s words x rest gave =
    let inner = takes_front (more (s.flags n)) s words x rest gave in
    record { taken = inner.taken; parts = inner.parts; alone = inner.alone; asked = λ l. ap (λ b. is_flag n l || b) (inner.asked l) }
takes_front (byte a more) s words x rest gave =
    byte_takes a more s words x rest (s.memory a) refl (λ v e. takes_front (more v) s words x rest e) gave
takes_front (choice more) s [] x rest gave = absurd (none-some _ gave)
takes_front (choice more) s (word ∷ words) x rest gave =
    let inner = takes_front (more word) s words x rest gave in
    record { taken = word ∷ inner.taken; parts = ap (λ ws. word ∷ ws) inner.parts; alone = inner.alone; asked = inner.asked }
