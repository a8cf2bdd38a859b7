-- What effects leave alone, what they make of it, and that they keep registers and bytes in their ranges.
use Rattle.std.proofs.Common.{◌≡◌, ℕ, zero, suc, ◌+◌, ◌*◌, ◌/◌, ◌%◌, ◌^◌, ◌<◌, List, [], ◌∷◌, refl, sym, ap, subst, ◌∙◌, eqb-true, arith, ◌++◌}
use Rattle.std.specs.Prelude.{Bool, true, false, cond, not, ◌&&◌, ◌||◌, ◌==◌, Some, is_some}
use Rattle.std.proofs.lemmas.Bool.{false≢true, or_right, or_left, and_from, not_from_false}
use Rattle.std.proofs.lemmas.Option.{same_Some}
use Rattle.std.proofs.Math.Bool.{and_assoc}
use Rattle.image_map.specs.declared.image.Image.{Image}
use Rattle.image_map.specs.Queries.{is_in_segment, is_writable}
use Rattle.ia32_semantics.specs.State.{State, Bytes, Location, InRegister, InFlag, AtByte, SameAt, put}
use Rattle.ia32_semantics.specs.Externs.{byte_over}
use Rattle.ia32_semantics.specs.Effects.{Effect, Part, Whole, Word, Low, High, sets, turns, stores, copies, with_part, overwritten, byte_or_zero, bytes_from, changed, all_changed, is_among, is_of_bytes, is_whole, effect_writes, effects_write, effect_takes, effects_take, is_open, all_among, all_of_bytes, is_mapped, effect_fits, effects_fit}
use Rattle.ia32_semantics.proofs.ReadingLemmas.{AgreeOn, same_number}

-- -- Truth values

pub by_test : {P : Type 0} (b : Bool) → (b ≡ true → P) → (b ≡ false → P) → P
by_test true held failed = held refl
by_test false held failed = failed refl

pub or_false_left : (a b : Bool) → (a || b) ≡ false → a ≡ false
or_false_left true b e = e
or_false_left false b e = refl

pub or_false_right : (a b : Bool) → (a || b) ≡ false → b ≡ false
or_false_right true b e = absurd (false≢true (sym e))
or_false_right false b e = e

pub or_true : (a b : Bool) {P : Type 0} → (a || b) ≡ true → (a ≡ true → P) → (b ≡ true → P) → P
or_true true b e f g = f refl
or_true false b e f g = g e

pub and_left : (a b : Bool) → (a && b) ≡ true → a ≡ true
and_left true b e = refl
and_left false b e = e

pub and_right : (a b : Bool) → (a && b) ≡ true → b ≡ true
and_right true b e = e
and_right false b e = absurd (false≢true e)

-- -- A function with one place changed

pub put_here : {A : Type 0} (f : ℕ → A) (place : ℕ) (value : A) (n : ℕ) → (place == n) ≡ true → put f place value n ≡ value
put_here f place value n e = ap (λ b. cond b value (f n)) e

pub put_other : {A : Type 0} (f : ℕ → A) (place : ℕ) (value : A) (n : ℕ) → (place == n) ≡ false → put f place value n ≡ f n
put_other f place value n e = ap (λ b. cond b value (f n)) e

-- what holds of the new value and of all others holds of each
pub put_all : {A : Type 0} (P : ℕ → A → Type 0) (f : ℕ → A) (place : ℕ) (value : A) → P place value → ((n : ℕ) → P n (f n)) → (n : ℕ) → P n (put f place value n)
put_all P f place value new old n =
    by_test (place == n)
    (λ e. subst (P n) (sym (put_here f place value n e)) (subst (λ k. P k value) (eqb-true place n e) new))
    (λ e. subst (P n) (sym (put_other f place value n e)) (old n))

-- -- Bytes

pub overwritten_other : (m : Bytes) (a : ℕ) (bytes : List ℕ) (x : ℕ) → is_of_bytes a bytes x ≡ false → overwritten m a bytes x ≡ m x
overwritten_other m a [] x e = refl
overwritten_other m a (byte ∷ rest) x e =
    put_other (overwritten m (a + 1) rest) a (Some (byte % 256)) x (or_false_left (a == x) _ e)
    ∙ overwritten_other m (a + 1) rest x (or_false_right (a == x) _ e)

pub overwritten_same : (m n : Bytes) (a : ℕ) (bytes : List ℕ) (x : ℕ) → is_of_bytes a bytes x ≡ true → overwritten m a bytes x ≡ overwritten n a bytes x
overwritten_same m n a [] x e = absurd (false≢true e)
overwritten_same m n a (byte ∷ rest) x e =
    by_test (a == x)
    (λ here. put_here (overwritten m (a + 1) rest) a (Some (byte % 256)) x here ∙ sym (put_here (overwritten n (a + 1) rest) a (Some (byte % 256)) x here))
    (λ apart. put_other (overwritten m (a + 1) rest) a (Some (byte % 256)) x apart
    ∙ overwritten_same m n (a + 1) rest x (ap (λ b. b || is_of_bytes (a + 1) rest x) (sym apart) ∙ e)
    ∙ sym (put_other (overwritten n (a + 1) rest) a (Some (byte % 256)) x apart))

-- bytes that are copied have as many addresses as are copied
pub of_bytes_from : (m : Bytes) (from to n x : ℕ) → is_of_bytes to (bytes_from m from n) x ≡ is_among to n x
of_bytes_from m from to zero x = refl
of_bytes_from m from to (suc n) x = ap (λ b. to == x || b) (of_bytes_from m (from + 1) (to + 1) n x)

pub bytes_from_same : (m n : Bytes) (a count : ℕ) → ((x : ℕ) → is_among a count x ≡ true → m x ≡ n x) → bytes_from m a count ≡ bytes_from n a count
bytes_from_same m n a zero same = refl
bytes_from_same m n a (suc count) same =
    ap (λ v. byte_or_zero v ∷ bytes_from m (a + 1) count) (same a (or_left (a == a) _ (same_number a)))
    ∙ ap (λ rest. byte_or_zero (n a) ∷ rest) (bytes_from_same m n (a + 1) count (λ x e. same x (or_right (a == x) _ e)))

-- -- What isn't written stays

pub changed_keeps : (e : Effect) (s : State) (l : Location) → effect_writes e l ≡ false → SameAt l s (changed e s)
changed_keeps (sets part n value) s (InRegister m) unwritten = sym (put_other s.registers n (with_part part (s.registers n) value) m unwritten)
changed_keeps (sets part n value) s (InFlag m) unwritten = refl
changed_keeps (sets part n value) s (AtByte x) unwritten = refl
changed_keeps (turns n value) s (InRegister m) unwritten = refl
changed_keeps (turns n value) s (InFlag m) unwritten = sym (put_other s.flags n value m unwritten)
changed_keeps (turns n value) s (AtByte x) unwritten = refl
changed_keeps (stores a bytes) s (InRegister m) unwritten = refl
changed_keeps (stores a bytes) s (InFlag m) unwritten = refl
changed_keeps (stores a bytes) s (AtByte x) unwritten = sym (overwritten_other s.memory a bytes x unwritten)
changed_keeps (copies to from n) s (InRegister m) unwritten = refl
changed_keeps (copies to from n) s (InFlag m) unwritten = refl
changed_keeps (copies to from n) s (AtByte x) unwritten =
    sym (overwritten_other s.memory to (bytes_from s.memory from n) x (of_bytes_from s.memory from to n x ∙ unwritten))

pub then_same : (l : Location) (r s t : State) → SameAt l r s → SameAt l s t → SameAt l r t
then_same (InRegister n) r s t p q = p ∙ q
then_same (InFlag n) r s t p q = p ∙ q
then_same (AtByte x) r s t p q = p ∙ q

pub back_same : (l : Location) (s t : State) → SameAt l s t → SameAt l t s
back_same (InRegister n) s t p = sym p
back_same (InFlag n) s t p = sym p
back_same (AtByte x) s t p = sym p

pub effects_keep : (es : List Effect) (s : State) (l : Location) → effects_write es l ≡ false → SameAt l s (all_changed es s)
effects_keep [] s (InRegister n) unwritten = refl
effects_keep [] s (InFlag n) unwritten = refl
effects_keep [] s (AtByte x) unwritten = refl
effects_keep (e ∷ es) s l unwritten =
    then_same l s (changed e s) (all_changed es (changed e s))
    (changed_keeps e s l (or_false_left _ _ unwritten)) (effects_keep es (changed e s) l (or_false_right _ _ unwritten))

-- -- What is written follows from what is taken

part_same : (part : Part) (old other value : ℕ) → ((is_whole part ≡ false) → old ≡ other) → with_part part old value ≡ with_part part other value
unfolding with_part
part_same Whole old other value same = refl
part_same Word old other value same = ap (λ r. r / 65536 * 65536 + value % 65536) (same refl)
part_same Low old other value same = ap (λ r. r / 256 * 256 + value % 256) (same refl)
part_same High old other value same = ap (λ r. r / 65536 * 65536 + value % 256 * 256 + r % 256) (same refl)

pub changed_follows : (e : Effect) (s t : State) (l : Location) → AgreeOn (effect_takes e) s t → effect_writes e l ≡ true → SameAt l (changed e s) (changed e t)
changed_follows (sets part n value) s t (InRegister m) agree written =
    put_here s.registers n (with_part part (s.registers n) value) m written
    ∙ part_same part (s.registers n) (t.registers n) value (λ some. agree.same (InRegister n) (and_from (not (is_whole part)) (n == n) (not_from_false (is_whole part) some) (same_number n)))
    ∙ sym (put_here t.registers n (with_part part (t.registers n) value) m written)
changed_follows (sets part n value) s t (InFlag m) agree written = absurd (false≢true written)
changed_follows (sets part n value) s t (AtByte x) agree written = absurd (false≢true written)
changed_follows (turns n value) s t (InRegister m) agree written = absurd (false≢true written)
changed_follows (turns n value) s t (InFlag m) agree written = put_here s.flags n value m written ∙ sym (put_here t.flags n value m written)
changed_follows (turns n value) s t (AtByte x) agree written = absurd (false≢true written)
changed_follows (stores a bytes) s t (InRegister m) agree written = absurd (false≢true written)
changed_follows (stores a bytes) s t (InFlag m) agree written = absurd (false≢true written)
changed_follows (stores a bytes) s t (AtByte x) agree written = overwritten_same s.memory t.memory a bytes x written
changed_follows (copies to from n) s t (InRegister m) agree written = absurd (false≢true written)
changed_follows (copies to from n) s t (InFlag m) agree written = absurd (false≢true written)
changed_follows (copies to from n) s t (AtByte x) agree written =
    overwritten_same s.memory t.memory to (bytes_from s.memory from n) x (of_bytes_from s.memory from to n x ∙ written)
    ∙ ap (λ bytes. overwritten t.memory to bytes x) (bytes_from_same s.memory t.memory from n (λ y taken. agree.same (AtByte y) taken))

-- what is the same stays the same, and what is written is added to it
changed_agree : (e : Effect) (s t : State) (known : Location → Bool) → AgreeOn known s t → ((l : Location) → effect_takes e l ≡ true → known l ≡ true)
    → AgreeOn (λ l. effect_writes e l || known l) (changed e s) (changed e t)
changed_agree e s t known agree takes = record {
  same = λ l has. by_test (effect_writes e l)
      (λ written. changed_follows e s t l (record { same = λ m taken. agree.same m (takes m taken) }) written)
      (λ unwritten. then_same l (changed e s) s (changed e t) (back_same l s (changed e s) (changed_keeps e s l unwritten))
      (then_same l s t (changed e t) (agree.same l (or_true (effect_writes e l) (known l) has (λ w. absurd (false≢true (sym unwritten ∙ w))) (λ k. k)))
      (changed_keeps e t l unwritten)));
}

or_swapped : (a b c : Bool) → (a || b || c) ≡ (b || (a || c))
or_swapped true true c = refl
or_swapped true false c = refl
or_swapped false true c = refl
or_swapped false false c = refl

pub effects_agree : (es : List Effect) (s t : State) (known : Location → Bool) → AgreeOn known s t → ((l : Location) → effects_take es l ≡ true → known l ≡ true)
    → AgreeOn (λ l. effects_write es l || known l) (all_changed es s) (all_changed es t)
effects_agree [] s t known agree takes = agree
effects_agree (e ∷ es) s t known agree takes =
    let rest = effects_agree es (changed e s) (changed e t) (λ l. effect_writes e l || known l)
    (changed_agree e s t known agree (λ l taken. takes l (or_left _ _ taken)))
    (λ l taken. or_right (effect_writes e l) (known l) (takes l (or_right _ _ taken))) in
    record { same = λ l has. rest.same l (sym (or_swapped (effect_writes e l) (effects_write es l) (known l)) ∙ has) }

-- -- Which bytes are mapped

-- the same bytes are mapped
pub record MapsAs (m n : Bytes) : Type 0 where
  pub same : (a : ℕ) → is_some (m a) ≡ is_some (n a)

pub overwritten_maps : (image : Image) (m : Bytes) (a : ℕ) (bytes : List ℕ) → all_of_bytes (is_open image m) a bytes ≡ true → MapsAs (overwritten m a bytes) m
overwritten_maps image m a [] open_ = record { same = λ x. refl }
overwritten_maps image m a (byte ∷ rest) open_ =
    let others = overwritten_maps image m (a + 1) rest (and_right (is_open image m a) _ open_) in
    record {
      same = put_all (λ x v. is_some v ≡ is_some (m x)) (overwritten m (a + 1) rest) a (Some (byte % 256))
          (sym (and_left (is_some (m a)) _ (and_left (is_open image m a) _ open_))) others.same;
    }

pub all_from : (test : ℕ → Bool) (m : Bytes) (from to n : ℕ) → all_of_bytes test to (bytes_from m from n) ≡ all_among test to n
all_from test m from to zero = refl
all_from test m from to (suc n) = ap (λ b. test to && b) (all_from test m (from + 1) (to + 1) n)

pub changed_maps : (image : Image) (e : Effect) (s : State) → effect_fits image s.memory e ≡ true → MapsAs (changed e s).memory s.memory
changed_maps image (sets part n value) s fits = record { same = λ a. refl }
changed_maps image (turns n value) s fits = record { same = λ a. refl }
changed_maps image (stores a bytes) s fits = overwritten_maps image s.memory a bytes fits
changed_maps image (copies to from n) s fits =
    overwritten_maps image s.memory to (bytes_from s.memory from n) (all_from (is_open image s.memory) s.memory from to n ∙ and_right (all_among (is_mapped s.memory) from n) _ fits)

all_of_bytes_same : (p q : ℕ → Bool) (a : ℕ) (bytes : List ℕ) → ((x : ℕ) → p x ≡ q x) → all_of_bytes p a bytes ≡ all_of_bytes q a bytes
all_of_bytes_same p q a [] same = refl
all_of_bytes_same p q a (byte ∷ rest) same = ap (λ b. b && all_of_bytes p (a + 1) rest) (same a) ∙ ap (λ b. q a && b) (all_of_bytes_same p q (a + 1) rest same)

pub all_among_same : (p q : ℕ → Bool) (a n : ℕ) → ((x : ℕ) → p x ≡ q x) → all_among p a n ≡ all_among q a n
all_among_same p q a zero same = refl
all_among_same p q a (suc n) same = ap (λ b. b && all_among p (a + 1) n) (same a) ∙ ap (λ b. q a && b) (all_among_same p q (a + 1) n same)

open_same : (image : Image) (m n : Bytes) → MapsAs m n → (a : ℕ) → is_open image m a ≡ is_open image n a
open_same image m n maps a = ap (λ b. b && (not (is_in_segment image a) || is_writable image a)) (maps.same a)

pub fits_same : (image : Image) (m n : Bytes) (e : Effect) → MapsAs m n → effect_fits image m e ≡ effect_fits image n e
fits_same image m n (sets part r value) maps = refl
fits_same image m n (turns f value) maps = refl
fits_same image m n (stores a bytes) maps = all_of_bytes_same _ _ a bytes (open_same image m n maps)
fits_same image m n (copies to from count) maps =
    ap (λ b. b && all_among (is_open image m) to count) (all_among_same (is_mapped m) (is_mapped n) from count maps.same)
    ∙ ap (λ b. all_among (is_mapped n) from count && b) (all_among_same _ _ to count (open_same image m n maps))

pub all_fit_same : (image : Image) (m n : Bytes) (es : List Effect) → MapsAs m n → effects_fit image m es ≡ effects_fit image n es
all_fit_same image m n [] maps = refl
all_fit_same image m n (e ∷ es) maps =
    ap (λ b. b && effects_fit image m es) (fits_same image m n e maps) ∙ ap (λ b. effect_fits image n e && b) (all_fit_same image m n es maps)

pub effects_map : (image : Image) (es : List Effect) (s : State) → effects_fit image s.memory es ≡ true → MapsAs (all_changed es s).memory s.memory
effects_map image [] s fits = record { same = λ a. refl }
effects_map image (e ∷ es) s fits =
    let first = changed_maps image e s (and_left (effect_fits image s.memory e) _ fits) in
    let rest = effects_map image es (changed e s)
    (all_fit_same image (changed e s).memory s.memory es first ∙ and_right (effect_fits image s.memory e) _ fits) in
    record { same = λ a. rest.same a ∙ first.same a }

-- each byte that is written is open
among_all : (test : ℕ → Bool) (a n x : ℕ) → all_among test a n ≡ true → is_among a n x ≡ true → test x ≡ true
among_all test a zero x all has = absurd (false≢true has)
among_all test a (suc n) x all has =
    or_true (a == x) _ has (λ here. ap test (sym (eqb-true a x here)) ∙ and_left (test a) _ all) (λ later. among_all test (a + 1) n x (and_right (test a) _ all) later)

of_bytes_all : (test : ℕ → Bool) (a : ℕ) (bytes : List ℕ) (x : ℕ) → all_of_bytes test a bytes ≡ true → is_of_bytes a bytes x ≡ true → test x ≡ true
of_bytes_all test a [] x all has = absurd (false≢true has)
of_bytes_all test a (byte ∷ rest) x all has =
    or_true (a == x) _ has (λ here. ap test (sym (eqb-true a x here)) ∙ and_left (test a) _ all) (λ later. of_bytes_all test (a + 1) rest x (and_right (test a) _ all) later)

pub written_is_open : (image : Image) (m : Bytes) (es : List Effect) (x : ℕ) → effects_fit image m es ≡ true → effects_write es (AtByte x) ≡ true → is_open image m x ≡ true
written_is_open image m [] x fits written = absurd (false≢true written)
written_is_open image m (sets part n value ∷ es) x fits written = written_is_open image m es x fits written
written_is_open image m (turns n value ∷ es) x fits written = written_is_open image m es x fits written
written_is_open image m (stores a bytes ∷ es) x fits written =
    or_true (is_of_bytes a bytes x) _ written
    (λ here. of_bytes_all (is_open image m) a bytes x (and_left (all_of_bytes (is_open image m) a bytes) _ fits) here)
    (λ later. written_is_open image m es x (and_right (all_of_bytes (is_open image m) a bytes) _ fits) later)
written_is_open image m (copies to from n ∷ es) x fits written =
    or_true (is_among to n x) _ written
    (λ here. among_all (is_open image m) to n x (and_right (all_among (is_mapped m) from n) _ (and_left (all_among (is_mapped m) from n && all_among (is_open image m) to n) _ fits)) here)
    (λ later. written_is_open image m es x (and_right (all_among (is_mapped m) from n && all_among (is_open image m) to n) _ fits) later)

-- -- Sizes

-- registers are 32-bit words, and memory holds bytes
pub record HasSizes (s : State) : Type 0 where
  pub registers : (n : ℕ) → s.registers n < 2 ^ 32
  pub memory : (a byte : ℕ) → s.memory a ≡ Some byte → byte < 256

part_below : (part : Part) (old value : ℕ) → old < 2 ^ 32 → with_part part old value < 2 ^ 32
unfolding with_part
part_below Whole old value below = omega arith
part_below Word old value below = omega arith
part_below Low old value below = omega arith
part_below High old value below = omega arith

pub overwritten_below : (m : Bytes) (a : ℕ) (bytes : List ℕ) → ((x byte : ℕ) → m x ≡ Some byte → byte < 256) → (x byte : ℕ) → overwritten m a bytes x ≡ Some byte → byte < 256
overwritten_below m a [] below = below
overwritten_below m a (new ∷ rest) below =
    put_all (λ x v. (byte : ℕ) → v ≡ Some byte → byte < 256) (overwritten m (a + 1) rest) a (Some (new % 256))
    (λ byte e. let cut : new % 256 < 256 = omega arith in subst (λ b. b < 256) (same_Some (new % 256) byte e) cut)
    (overwritten_below m (a + 1) rest below)

pub changed_sizes : (e : Effect) (s : State) → HasSizes s → HasSizes (changed e s)
changed_sizes (sets part n value) s sized = record {
  registers = put_all (λ k v. v < 2 ^ 32) s.registers n (with_part part (s.registers n) value) (part_below part (s.registers n) value (sized.registers n)) sized.registers;
  memory = sized.memory;
}
changed_sizes (turns n value) s sized = record { registers = sized.registers; memory = sized.memory }
changed_sizes (stores a bytes) s sized = record { registers = sized.registers; memory = overwritten_below s.memory a bytes sized.memory }
changed_sizes (copies to from n) s sized = record { registers = sized.registers; memory = overwritten_below s.memory to (bytes_from s.memory from n) sized.memory }

pub effects_sizes : (es : List Effect) (s : State) → HasSizes s → HasSizes (all_changed es s)
effects_sizes [] s sized = sized
effects_sizes (e ∷ es) s sized = effects_sizes es (changed e s) (changed_sizes e s sized)

-- -- What no effect changes

pub same_slot : (es : List Effect) (s : State) → (all_changed es s).slot ≡ s.slot
same_slot [] s = refl
same_slot (sets part n value ∷ es) s = same_slot es (changed (sets part n value) s)
same_slot (turns n value ∷ es) s = same_slot es (changed (turns n value) s)
same_slot (stores a bytes ∷ es) s = same_slot es (changed (stores a bytes) s)
same_slot (copies to from n ∷ es) s = same_slot es (changed (copies to from n) s)

-- -- One list of effects after another

pub changed_append : (es fs : List Effect) (s : State) → all_changed (es ++ fs) s ≡ all_changed fs (all_changed es s)
changed_append [] fs s = refl
changed_append (e ∷ es) fs s = changed_append es fs (changed e s)

pub fit_append : (image : Image) (m : Bytes) (es fs : List Effect) → effects_fit image m (es ++ fs) ≡ (effects_fit image m es && effects_fit image m fs)
fit_append image m [] fs = refl
fit_append image m (e ∷ es) fs = ap (λ b. effect_fits image m e && b) (fit_append image m es fs) ∙ sym (and_assoc (effect_fits image m e) (effects_fit image m es) (effects_fit image m fs))

-- a byte after others were stored
pub over_byte : (m : Bytes) (to a b : ℕ) (bytes : List ℕ) → m a ≡ Some b → overwritten m to bytes a ≡ Some (byte_over to bytes a b)
over_byte m to a b [] is = is
over_byte m to a b (new ∷ rest) is = go (to == a) (over_byte m (to + 1) a b rest is)
  where
    go : (t : Bool) → overwritten m (to + 1) rest a ≡ Some (byte_over (to + 1) rest a b)
        → cond t (Some (new % 256)) (overwritten m (to + 1) rest a) ≡ Some (cond t (new % 256) (byte_over (to + 1) rest a b))
    go true e = refl
    go false e = e
