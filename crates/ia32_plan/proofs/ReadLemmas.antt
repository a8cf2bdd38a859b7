-- That what is told of a reading is its outcome, with just the bytes that it asks for.
use Rattle.std.proofs.Common.{◌≡◌, ℕ, zero, suc, ◌+◌, ◌==◌, List, [], ◌∷◌, refl, sym, ap, ◌∙◌}
use Rattle.std.specs.Prelude.{Bool, true, false, ◌||◌, Option, Some, None, IfSome}
use Rattle.std.specs.Option.{option_map}
use Rattle.std.proofs.lemmas.Option.{none-some, same_Some}
use Rattle.std.proofs.Math.Bool.{or-false}
use Rattle.ia32_semantics.specs.State.{State, AtByte}
use Rattle.ia32_semantics.specs.Reading.{Reading, gives, faults, register, flag, byte, choice, with_byte, outcome, asks}
use Rattle.ia32_semantics.specs.Effects.{is_among}
use Rattle.ia32_types.specs.Numbers.{size}
use Rattle.ia32_plan.specs.declared.words.Reads.{Reads}
use Rattle.ia32_plan.specs.declared.words.Reads.TheVariants as reads
use Rattle.ia32_plan.specs.declared.words.Words.{Words}
use Rattle.ia32_plan.specs.Told.{told}
use Rattle.ia32_plan.specs.Views.{addresses_on, addresses_read, has_read, words_left, answered}

-- -- The outcome

abbrev pub without_addresses : {A : Type 0} → Option (A × List ℕ × List ℕ) → Option (A × List ℕ)
without_addresses None = None
without_addresses (Some d) = Some (d.0, d.1)

byte_outcome : {A : Type 0} (m : Option ℕ) (plain : ℕ → Option (A × List ℕ)) (full : ℕ → Option (A × List ℕ × List ℕ))
    → ((v : ℕ) → plain v ≡ without_addresses (full v)) → with_byte m None plain ≡ without_addresses (with_byte m None full)
byte_outcome None plain full each = refl
byte_outcome (Some v) plain full each = each v

pub told_outcome : {A : Type 0} (t : Reading A) (s : State) (words asked : List ℕ) → outcome t s words ≡ without_addresses (told t s words asked)
told_outcome (gives x) s words asked = refl
told_outcome faults s words asked = refl
told_outcome (register n more) s words asked = told_outcome (more (s.registers n)) s words asked
told_outcome (flag n more) s words asked = told_outcome (more (s.flags n)) s words asked
told_outcome (byte a more) s words asked = byte_outcome (s.memory a) _ _ (λ v. told_outcome (more v) s words (a ∷ asked))
told_outcome (choice more) s [] asked = refl
told_outcome (choice more) s (word ∷ words) asked = told_outcome (more word) s words asked

answered_outcome : {A B : Type 0} (meaning : B → A) (result : Option B) (after : Words)
    → without_addresses (answered meaning result after) ≡ option_map (λ r. (meaning r, words_left after)) result
answered_outcome meaning None after = refl
answered_outcome meaning (Some r) after = refl

pub plan_outcome : {A B : Type 0} (t : Reading A) (s : State) (words asked : List ℕ) (meaning : B → A) (result : Option B) (after : Words)
    → told t s words asked ≡ answered meaning result after
    → outcome t s words ≡ option_map (λ r. (meaning r, words_left after)) result
plan_outcome t s words asked meaning result after tells =
    told_outcome t s words asked ∙ ap without_addresses tells ∙ answered_outcome meaning result after

-- -- The bytes asked for

abbrev pub is_in : List ℕ → ℕ → Bool
is_in [] a = false
is_in (b ∷ others) a = b == a || is_in others a

or_between : (x y z : Bool) → (x || (y || z)) ≡ ((y || x) || z)
or_between true true z = refl
or_between true false z = refl
or_between false true z = refl
or_between false false z = refl

byte_asks : {A : Type 0} (m : Option ℕ) (full : ℕ → Option (A × List ℕ × List ℕ)) (asks_more : ℕ → Bool) (here before : Bool) (a : ℕ) (d : A × List ℕ × List ℕ)
    → ((v : ℕ) → full v ≡ Some d → is_in d.2 a ≡ (asks_more v || (here || before)))
    → with_byte m None full ≡ Some d → is_in d.2 a ≡ ((here || with_byte m false asks_more) || before)
byte_asks None full asks_more here before a d each is = absurd (none-some _ is)
byte_asks (Some v) full asks_more here before a d each is = each v is ∙ or_between (asks_more v) here before

pub told_asks : {A : Type 0} (t : Reading A) (s : State) (words asked : List ℕ) (d : A × List ℕ × List ℕ) (a : ℕ)
    → told t s words asked ≡ Some d → is_in d.2 a ≡ (asks t s words (AtByte a) || is_in asked a)
told_asks (gives x) s words asked d a is = ap (λ w. is_in w.2 a) (sym (same_Some (x, words, asked) d is))
told_asks faults s words asked d a is = absurd (none-some _ is)
told_asks (register n more) s words asked d a is = told_asks (more (s.registers n)) s words asked d a is
told_asks (flag n more) s words asked d a is = told_asks (more (s.flags n)) s words asked d a is
told_asks (byte b more) s words asked d a is =
    byte_asks (s.memory b) (λ v. told (more v) s words (b ∷ asked)) (λ v. asks (more v) s words (AtByte a)) (b == a) (is_in asked a) a d
    (λ v e. told_asks (more v) s words (b ∷ asked) d a e) is
told_asks (choice more) s [] asked d a is = absurd (none-some _ is)
told_asks (choice more) s (word ∷ words) asked d a is = told_asks (more word) s words asked d a is

in_addresses : (n at a : ℕ) (others : List ℕ) → is_in (addresses_on n at others) a ≡ (is_among at n a || is_in others a)
in_addresses zero at a others = refl
in_addresses (suc n) at a others = in_addresses n (at + 1) a (at ∷ others) ∙ or_between (is_among (at + 1) n a) (at == a) (is_in others a)

or_turned : (x y : Bool) → (y || x) ≡ (x || y)
or_turned true true = refl
or_turned true false = refl
or_turned false true = refl
or_turned false false = refl

in_reads : (r : Reads) (a : ℕ) → has_read r a ≡ is_in (addresses_read r) a
in_reads reads.Nothing a = refl
in_reads (reads.One first) a = sym (in_addresses (size first.width) first.at a [] ∙ or-false _)
in_reads (reads.Two first second) a =
    or_turned (is_among second.at (size second.width) a) (is_among first.at (size first.width) a)
    ∙ ap (λ b. is_among second.at (size second.width) a || b) (sym (in_addresses (size first.width) first.at a [] ∙ or-false _))
    ∙ sym (in_addresses (size second.width) second.at a (addresses_on (size first.width) first.at []))

pub plan_reads : {A B : Type 0} (t : Reading A) (s : State) (words : List ℕ) (meaning : B → A) (result : Option B) (after : Words)
    → told t s words [] ≡ answered meaning result after
    → IfSome result (λ r. (a : ℕ) → has_read after.reads a ≡ asks t s words (AtByte a))
plan_reads t s words meaning None after tells = tt
plan_reads t s words meaning (Some r) after tells =
    λ a. in_reads after.reads a ∙ told_asks t s words [] (meaning r, words_left after, addresses_read after.reads) a tells ∙ or-false _
