-- Laws of every grammar.

use Rattle.std.proofs.Common.{◌≡◌, ℕ, List, [], ◌∷◌, ◌++◌, refl, sym, ◌∙◌, ap, subst}
use Rattle.ia32_types.specs.Readers.{Reader, done, bad, more, Accepts, then_}

-- what bytes give is one value, and no longer bytes are read
pub one_reading : {A : Type 0} (r : Reader A) (bytes rest : List ℕ) (x y : A) → Accepts r bytes x → Accepts r (bytes ++ rest) y → (rest ≡ []) × (x ≡ y)
one_reading (done z) [] [] x y p q = (refl, p ∙ sym q)
one_reading (done z) [] (b ∷ rest) x y p q = absurd q
one_reading (done z) (b ∷ bytes) rest x y p q = absurd p
one_reading bad bytes rest x y p q = absurd p
one_reading (more m k) [] rest x y p q = absurd p
one_reading (more m k) (b ∷ bytes) rest x y p q = one_reading (k b) bytes rest x y p.1 q.1

-- what a sequence reads is what its two parts read
pub record InTwo {A B : Type 0} (r : Reader A) (k : A → Reader B) (bytes : List ℕ) (y : B) : Type 0 where
  pub first : List ℕ
  pub second : List ℕ
  pub value : A
  pub split : bytes ≡ first ++ second
  pub reads : Accepts r first value
  pub then_reads : Accepts (k value) second y

pub in_two : {A B : Type 0} (n : ℕ) (r : Reader A) (k : A → Reader B) (bytes : List ℕ) (y : B) → Accepts (then_ n r k) bytes y → InTwo r k bytes y
in_two n (done x) k bytes y p = record { first = []; second = bytes; value = x; split = refl; reads = refl; then_reads = p }
in_two n bad k bytes y p = absurd p
in_two n (more m f) k [] y p = absurd p
in_two n (more m f) k (b ∷ bytes) y p =
    let q = in_two n (f b) k bytes y p.1 in
    record { first = b ∷ q.first; second = q.second; value = q.value; split = ap (λ t. b ∷ t) q.split; reads = (p.0, q.reads); then_reads = q.then_reads }

pub from_two : {A B : Type 0} (n : ℕ) (r : Reader A) (k : A → Reader B) (first second : List ℕ) (x : A) (y : B) → Accepts r first x → Accepts (k x) second y → Accepts (then_ n r k) (first ++ second) y
from_two n (done z) k [] second x y p q = subst (λ v. Accepts (k v) second y) p q
from_two n (done z) k (b ∷ first) second x y p q = absurd p
from_two n bad k first second x y p q = absurd p
from_two n (more m f) k [] second x y p q = absurd p
from_two n (more m f) k (b ∷ first) second x y p q = (p.0, from_two n (f b) k first second x y p.1 q)

-- a grammar that is done reads nothing
pub done_reads : {A : Type 0} (y x : A) (bytes : List ℕ) → Accepts (done y) bytes x → (bytes ≡ []) × (x ≡ y)
done_reads y x [] p = (refl, p)
done_reads y x (b ∷ bytes) p = absurd p
