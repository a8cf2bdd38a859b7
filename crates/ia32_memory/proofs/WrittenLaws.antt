-- What replaced bytes leave of memory: which addresses are mapped, the other bytes, their sizes, and the bytes themselves.
use Rattle.std.proofs.Common.{◌≡◌, ℕ, zero, suc, ◌+◌, ◌%◌, ◌<◌, ◌≤◌, List, [], ◌∷◌, length, refl, ap, subst, ◌∙◌, arith, map}
use Rattle.std.specs.Prelude.{Bool, true, false, cond, ◌&&◌, ◌==◌, Option, Some, None, is_some}
use Rattle.std.proofs.lemmas.Bool.Decides.{nat_tests}
use Rattle.std.proofs.lemmas.Option.{same_Some}
use Rattle.ia32_semantics.specs.State.{Bytes, bytes_at, joined}
use Rattle.ia32_semantics.specs.Effects.{is_of_bytes}
use Rattle.ia32_semantics.proofs.EffectLemmas.{or_false_left, or_false_right}
use Rattle.ia32_semantics.proofs.ReadingLemmas.{same_number}
use Rattle.ia32_memory.specs.Changes.{with_byte, with_bytes, cleared}

maps_go : (t : Bool) (v : Option ℕ) (b : ℕ) → is_some (cond (t && is_some v) (Some b) v) ≡ is_some v
maps_go true None b = refl
maps_go true (Some x) b = refl
maps_go false v b = refl

pub with_bytes_maps : (m : Bytes) (a : ℕ) (bytes : List ℕ) (x : ℕ) → is_some (with_bytes m a bytes x) ≡ is_some (m x)
with_bytes_maps m a [] x = refl
with_bytes_maps m a (byte ∷ rest) x = maps_go (a == x) (with_bytes m (a + 1) rest x) (byte % 256) ∙ with_bytes_maps m (a + 1) rest x

pub cleared_maps : (test : ℕ → Bool) (m : Bytes) (x : ℕ) → is_some (cleared test m x) ≡ is_some (m x)
cleared_maps test m x = maps_go (test x) (m x) 0

other_go : (a x : ℕ) (m : Bytes) (v : Option ℕ) → (a == x) ≡ false → cond (a == x && is_some (m x)) v (m x) ≡ m x
other_go a x m v other = ap (λ t. cond (t && is_some (m x)) v (m x)) other

pub with_bytes_other : (m : Bytes) (a : ℕ) (bytes : List ℕ) (x : ℕ) → is_of_bytes a bytes x ≡ false → with_bytes m a bytes x ≡ m x
with_bytes_other m a [] x e = refl
with_bytes_other m a (byte ∷ rest) x e =
    other_go a x (with_bytes m (a + 1) rest) (Some (byte % 256)) (or_false_left (a == x) _ e)
    ∙ with_bytes_other m (a + 1) rest x (or_false_right (a == x) _ e)

small_go : (t : Bool) (v : Option ℕ) (new byte : ℕ) → new < 256 → (v ≡ Some byte → byte < 256) → cond (t && is_some v) (Some new) v ≡ Some byte → byte < 256
small_go true None new byte low old e = old e
small_go true (Some x) new byte low old e = subst (λ v. v < 256) (same_Some new byte e) low
small_go false v new byte low old e = old e

pub with_bytes_small : (m : Bytes) (a : ℕ) (bytes : List ℕ) → ((x byte : ℕ) → m x ≡ Some byte → byte < 256) → (x byte : ℕ) → with_bytes m a bytes x ≡ Some byte → byte < 256
with_bytes_small m a [] small x byte e = small x byte e
with_bytes_small m a (new ∷ rest) small x byte e =
    small_go (a == x) (with_bytes m (a + 1) rest x) (new % 256) byte (omega arith) (with_bytes_small m (a + 1) rest small x byte) e

-- -- What was written is read

same_from : (m n : Bytes) (a count : ℕ) → ((x : ℕ) → a ≤ x → m x ≡ n x) → bytes_at m a count ≡ bytes_at n a count
unfolding bytes_at
same_from m n a zero same = refl
same_from m n a (suc count) same =
    ap (λ b. joined b (bytes_at m (a + 1) count)) (same a (omega arith))
    ∙ ap (joined (n a)) (same_from m n (a + 1) count (λ x low. same x (omega arith)))

above_one : (m : Bytes) (a byte : ℕ) (rest : List ℕ) (x : ℕ) → a + 1 ≤ x → with_bytes m a (byte ∷ rest) x ≡ with_bytes m (a + 1) rest x
above_one m a byte rest x low =
    let apart : (a == x) ≡ false = grind (arith, nat_tests) in other_go a x (with_bytes m (a + 1) rest) (Some (byte % 256)) apart

here_go : (m : Bytes) (a v : ℕ) → is_some (m a) ≡ true → with_byte m a v a ≡ Some v
here_go m a v mapped = ap (λ t. cond (t && is_some (m a)) (Some v) (m a)) (same_number a) ∙ ap (λ t. cond t (Some v) (m a)) mapped

abbrev pub cut : ℕ → ℕ
cut byte = byte % 256

-- bytes that are all mapped are read as they were written
pub read_back : (m : Bytes) (a : ℕ) (bytes : List ℕ) → ((x : ℕ) → a ≤ x → x < a + length bytes → is_some (m x) ≡ true) → bytes_at (with_bytes m a bytes) a (length bytes) ≡ Some (map cut bytes)
unfolding bytes_at
read_back m a [] mapped = refl
read_back m a (byte ∷ rest) mapped =
    ap (λ b. joined b (bytes_at (with_bytes m a (byte ∷ rest)) (a + 1) (length rest)))
    (here_go (with_bytes m (a + 1) rest) a (byte % 256) (with_bytes_maps m (a + 1) rest a ∙ mapped a (omega arith) (omega arith)))
    ∙ ap (joined (Some (byte % 256))) (same_from (with_bytes m a (byte ∷ rest)) (with_bytes m (a + 1) rest) (a + 1) (length rest) (above_one m a byte rest)
    ∙ read_back m (a + 1) rest (λ x low high. mapped x (omega arith) (omega arith)))
