-- Grammars that tell right how few bytes complete them.

use Rattle.std.proofs.Common.{◌≡◌, ℕ, suc, ◌<◌, ◌≤◌, List, [], ◌∷◌, length, refl, sym, ◌∙◌, ap, Option, Some, None, arith}
use Rattle.ia32_types.specs.Readers.{Reader, done, bad, more, Accepts}

-- the least number of bytes that complete it, if any do
abbrev pub fewest : {A : Type 0} → Reader A → Option ℕ
fewest (done x) = Some 0
fewest bad = None
fewest (more m k) = Some m

-- where n more bytes may complete what follows a byte, at least m complete the whole: m is at most 1 + n
abbrev pub AtMost : ℕ → Option ℕ → Type 0
AtMost m None = Unit {0}
AtMost m (Some n) = m ≤ suc n

-- this byte leads to a least completion of m bytes
pub record Leads (m : ℕ) (b n : ℕ) (after : Option ℕ) : Type 0 where
  pub is_byte : b < 256
  pub fewest_after : after ≡ Some n
  pub one_more : m ≡ suc n

-- each number in a grammar is the least number of bytes that complete it there
abbrev pub IsHonest : {A : Type 0} → Reader A → Type 0
IsHonest (done x) = Unit {0}
IsHonest bad = Unit {0}
IsHonest (more m k) = ((b : ℕ) → b < 256 → IsHonest (k b) × AtMost m (fewest (k b))) × ((b : ℕ) × (n : ℕ) × Leads m b n (fewest (k b)))

-- bytes that complete it
pub record Completes {A : Type 0} (r : Reader A) (n : ℕ) : Type 0 where
  pub bytes : List ℕ
  pub value : A
  pub reads : Accepts r bytes value
  pub long : length bytes ≡ n

pub completion : {A : Type 0} (r : Reader A) (n : ℕ) → IsHonest r → fewest r ≡ Some n → Completes r n
completion (done x) n h e = record { bytes = []; value = x; reads = refl; long = cc }
completion bad n h e = cc
completion (more m k) n h e =
    let b : ℕ = h.1.0 in
    let l : ℕ = h.1.1 in
    let leads = h.1.2 in
    let c = completion (k b) l (h.0 b leads.is_byte).0 leads.fewest_after in
    let same : m ≡ n = cc in
    record { bytes = b ∷ c.bytes; value = c.value; reads = (leads.is_byte, c.reads); long = ap suc c.long ∙ sym leads.one_more ∙ same }

-- no fewer bytes than that are read
abbrev pub NeedsAtMost : Option ℕ → ℕ → Type 0
NeedsAtMost None l = ⊥
NeedsAtMost (Some n) l = n ≤ l

one_more : (m : ℕ) (o : Option ℕ) (l : ℕ) → AtMost m o → NeedsAtMost o l → m ≤ suc l
one_more m None l a n = absurd n
one_more m (Some k) l a n = omega arith

pub at_least : {A : Type 0} (r : Reader A) (bytes : List ℕ) (x : A) → IsHonest r → Accepts r bytes x → NeedsAtMost (fewest r) (length bytes)
at_least (done y) [] x h p = omega arith
at_least (done y) (b ∷ bytes) x h p = absurd p
at_least bad bytes x h p = absurd p
at_least (more m k) [] x h p = absurd p
at_least (more m k) (b ∷ bytes) x h p = one_more m (fewest (k b)) (length bytes) (h.0 b p.0).1 (at_least (k b) bytes x (h.0 b p.0).0 p.1)
