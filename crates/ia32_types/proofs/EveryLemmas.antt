-- What holds of every value that a grammar reads.

use Rattle.std.proofs.Common.{◌≡◌, ℕ, ◌<◌, ◌==◌, Bool, true, false, cond, if◌then◌else◌, List, [], ◌∷◌, sym, subst, arith}
use Rattle.std.proofs.lemmas.Bool.{cond_both}
use Rattle.ia32_types.specs.Readers.{Reader, done, bad, more, Accepts, then_, byte, word, dword, number}

abbrev pub Every : {A : Type 0} → (A → Type 0) → Reader A → Type 0
Every P (done x) = P x
Every P bad = Unit {0}
Every P (more m k) = (b : ℕ) → b < 256 → Every P (k b)

pub every_read : {A : Type 0} (P : A → Type 0) (r : Reader A) (bytes : List ℕ) (x : A) → Every P r → Accepts r bytes x → P x
every_read P (done y) [] x all p = subst P (sym p) all
every_read P (done y) (b ∷ bytes) x all p = absurd p
every_read P bad bytes x all p = absurd p
every_read P (more m k) [] x all p = absurd p
every_read P (more m k) (b ∷ bytes) x all p = every_read P (k b) bytes x (all b p.0) p.1

pub every_then : {A B : Type 0} (Q : A → Type 0) (P : B → Type 0) (n : ℕ) (r : Reader A) (k : A → Reader B) → Every Q r → ((x : A) → Q x → Every P (k x)) → Every P (then_ n r k)
every_then Q P n (done x) k all next = next x all
every_then Q P n bad k all next = tt
every_then Q P n (more m f) k all next = λ b lt. every_then Q P n (f b) k (all b lt) next

-- a choice of two grammars
pub every_if : {A : Type 0} (P : A → Type 0) (t : Bool) (y z : Reader A) → (t ≡ true → Every P y) → (t ≡ false → Every P z) → Every P (cond t y z)
every_if P t y z first second = cond_both t y z (Every P) first second

-- the bound of a number of 0, 1, 2 or 4 bytes
abbrev pub number_limit : ℕ → ℕ
number_limit n = (if n == 0 then 1 else (if n == 1 then 256 else (if n == 2 then 65536 else 4294967296)))

every_byte : Every (λ n. n < 256) byte
every_byte b lt = lt

every_word : Every (λ n. n < 65536) word
every_word a below_a b below_b = omega arith

every_dword : Every (λ n. n < 4294967296) dword
every_dword a below_a b below_b c below_c d below_d = omega arith

every_choice : (a b c : Bool) → Every (λ v. v < (cond a 1 (cond b 256 (cond c 65536 4294967296)))) (cond a (done 0) (cond b byte (cond c word dword)))
every_choice true b c = omega arith
every_choice false true c = every_byte
every_choice false false true = every_word
every_choice false false false = every_dword

pub every_number : (n : ℕ) → Every (λ v. v < number_limit n) (number n)
every_number n = every_choice (n == 0) (n == 1) (n == 2)
