-- A grammar of bytes as a tree: what may still come after the bytes so far. The project's own.

use Rattle.std.specs.Prelude.{◌≡◌, ℕ, ◌+◌, ◌*◌, ◌<◌, List, [], ◌∷◌, if◌then◌else◌, ◌==◌}

-- done x: nothing more, and x is what was read. bad: nothing completes it. more m k: a byte b comes,
-- and then k b; m is the least number of bytes that complete it
pub data Reader (A : Type 0) : Type 0 where
  done : A → Reader A
  bad : Reader A
  more : ℕ → (ℕ → Reader A) → Reader A

module _ {A : Type 0} where
  -- exactly these bytes are read, and give x
  abbrev pub Accepts : Reader A → List ℕ → A → Type 0
  Accepts (done y) [] x = x ≡ y
  Accepts (done y) (b ∷ bytes) x = ⊥
  Accepts bad bytes x = ⊥
  Accepts (more m k) [] x = ⊥
  Accepts (more m k) (b ∷ bytes) x = (b < 256) × Accepts (k b) bytes x

-- first r, and then what k makes of the value, which takes n bytes at least
abbrev pub then_ : {A B : Type 0} → ℕ → Reader A → (A → Reader B) → Reader B
then_ n (done x) k = k x
then_ n bad k = bad
then_ n (more m f) k = more (m + n) (λ b. then_ n (f b) k)

-- numbers of one, two and four bytes, the low byte first (SDM volume 1, 1.3.1)
abbrev pub byte : Reader ℕ
byte = more 1 (λ b. done b)

abbrev pub word : Reader ℕ
word = then_ 1 byte (λ low. then_ 0 byte (λ high. done (low + 256 * high)))

abbrev pub dword : Reader ℕ
dword = then_ 2 word (λ low. then_ 0 word (λ high. done (low + 65536 * high)))

-- a number of 0, 1, 2 or 4 bytes
abbrev pub number : ℕ → Reader ℕ
number n = (if n == 0 then done 0 else (if n == 1 then byte else (if n == 2 then word else dword)))
