-- What reading by a grammar finds at the front of a list.

use Rattle.std.proofs.Common.{◌≡◌, ℕ, suc, ◌+◌, ◌<◌, ◌≤◌, Bool, true, false, cond, List, [], ◌∷◌, ◌++◌, length, drop, refl, sym, ◌∙◌, ap, subst, Option, Some, None, Result, Ok, Err, arith, if◌then◌else◌, nat_le, inl, inr}
use Rattle.std.proofs.lemmas.Bool.{le-leb, leb-true, cond-true, cond-false}
use Rattle.std.specs.List.{slice_get}
use Rattle.std.proofs.lemmas.Option.{slice_get_cases}
use Rattle.std.proofs.lemmas.List.{drop_more, drop_all}
use Rattle.ia32_types.specs.Readers.{Reader, done, bad, more, Accepts}
use Rattle.ia32_decode.specs.declared.NotDecoded.{NotDecoded}
use Rattle.ia32_decode.specs.declared.NotDecoded.TheVariants.{Short, Unknown}
use Rattle.ia32_decode.specs.Reading.{run, byte_or_short, and_then}
use Rattle.ia32_decode.proofs.HonestLemmas.{IsHonest, at_least, completion}

-- the same over the bytes that are left
abbrev pub front : {A : Type 0} → Reader A → List ℕ → ℕ → Result (A × ℕ) NotDecoded
front (done x) bytes read = Ok (x, read)
front bad bytes read = Err Unknown
front (more m k) [] read = (if nat_le (read + (m + 0)) 15 then Err Short else Err Unknown)
front (more m k) (b ∷ bytes) read = (if nat_le (read + (m + 0)) 15 then front (k b) bytes (read + 1) else Err Unknown)

both_same : {A B : Type 0} (t : Bool) (x : Result A NotDecoded) (k : A → Result B NotDecoded) (y : Result B NotDecoded) → and_then x k ≡ y → and_then (cond t x (Err Unknown)) k ≡ cond t y (Err Unknown)
both_same true x k y e = e
both_same false x k y e = refl

-- every read of a list is a read of what is left
pub run_front : {A : Type 0} (r : Reader A) (bytes : List ℕ) (read : ℕ) → run 0 r bytes read ≡ front r (drop read bytes) read
run_front (done x) bytes read = refl
run_front bad bytes read = refl
run_front {A = A} (more m k) bytes read =
    elim (slice_get_cases bytes read).1 [
      | inl w ↦
          let inside : slice_get bytes read ≡ Some w.0 = w.2 in
          let here : drop read bytes ≡ w.0 ∷ drop (read + 1) bytes = drop_more bytes read w.0 w.1 ∙ ap (λ v. v ∷ drop (read + 1) bytes) w.3 in
          let rest = run_front (k w.0) bytes (read + 1) in
          let P : List ℕ → Type 0 = λ bs. and_then {B = A × ℕ} (cond (nat_le (read + (m + 0)) 15) (byte_or_short (slice_get bytes read) read) (Err Unknown)) (λ b. run 0 (k b.0) bytes b.1) ≡ front (more m k) bs read in
          let Q : Option ℕ → Type 0 = λ o. and_then {B = A × ℕ} (cond (nat_le (read + (m + 0)) 15) (byte_or_short o read) (Err Unknown)) (λ b. run 0 (k b.0) bytes b.1) ≡ front (more m k) (w.0 ∷ drop (read + 1) bytes) read in
          subst P (sym here) (subst Q (sym inside) (both_same (nat_le (read + (m + 0)) 15) (Ok (w.0, read + 1)) (λ b. run 0 (k b.0) bytes b.1) (front (k w.0) (drop (read + 1) bytes) (read + 1)) rest))
      | inr w ↦
          let past : slice_get bytes read ≡ None = w.1 in
          let here : drop read bytes ≡ [] = drop_all read bytes w.0 in
          let P : List ℕ → Type 0 = λ bs. and_then {B = A × ℕ} (cond (nat_le (read + (m + 0)) 15) (byte_or_short (slice_get bytes read) read) (Err Unknown)) (λ b. run 0 (k b.0) bytes b.1) ≡ front (more m k) bs read in
          let Q : Option ℕ → Type 0 = λ o. and_then {B = A × ℕ} (cond (nat_le (read + (m + 0)) 15) (byte_or_short o read) (Err Unknown)) (λ b. run 0 (k b.0) bytes b.1) ≡ front (more m k) [] read in
          subst P (sym here) (subst Q (sym past) (both_same (nat_le (read + (m + 0)) 15) (Err Short) (λ b. run 0 (k b.0) bytes b.1) (Err Short) refl))
    ]

if_ok : {A : Type 0} (b : Bool) (y : Result A NotDecoded) (z : A) → cond b y (Err Unknown) ≡ Ok z → y ≡ Ok z
if_ok true y z e = e
if_ok false y z e = cc

if_short : {A : Type 0} (b : Bool) → cond {A = Result A NotDecoded} b (Err Short) (Err Unknown) ≡ Err Short → b ≡ true
if_short true e = refl
if_short false e = cc

if_short_then : {A : Type 0} (b : Bool) (y : Result A NotDecoded) → cond b y (Err Unknown) ≡ Err Short → y ≡ Err Short
if_short_then true y e = e
if_short_then false y e = cc

if_unknown : {A : Type 0} (b : Bool) → cond {A = Result A NotDecoded} b (Err Short) (Err Unknown) ≡ Err Unknown → b ≡ false
if_unknown true e = cc
if_unknown false e = refl

if_unknown_then : {A : Type 0} (b : Bool) (y z : Result A NotDecoded) → (y ≡ Err Unknown → z ≡ Err Unknown) → cond b y (Err Unknown) ≡ Err Unknown → cond b z (Err Unknown) ≡ Err Unknown
if_unknown_then true y z f e = f e
if_unknown_then false y z f e = refl

no_room : {A : Type 0} (m : ℕ) (k : ℕ → Reader A) (bytes : List ℕ) (read : ℕ) → nat_le (read + (m + 0)) 15 ≡ false → front (more m k) bytes read ≡ Err Unknown
no_room m k [] read e = cond-false (nat_le (read + (m + 0)) 15) (Err Short) (Err Unknown) e
no_room m k (b ∷ bytes) read e = cond-false (nat_le (read + (m + 0)) 15) (front (k b) bytes (read + 1)) (Err Unknown) e

pair_of : {A : Type 0} (x y : A × ℕ) → (let r : Result (A × ℕ) NotDecoded = Ok y in r ≡ Ok x) → x ≡ y
pair_of x y e = cc

ok_if : {A : Type 0} (b : Bool) (y : Result A NotDecoded) (z : A) → cond b y (Err Unknown) ≡ Ok z → b ≡ true
ok_if true y z e = refl
ok_if false y z e = cc

-- what was read
pub record Found {A : Type 0} (r : Reader A) (bytes : List ℕ) (read : ℕ) (x : A) (after : ℕ) : Type 0 where
  pub used : List ℕ
  pub rest : List ℕ
  pub split : bytes ≡ used ++ rest
  pub reads : Accepts r used x
  pub place : after ≡ read + length used
  pub within : read ≤ 15 → after ≤ 15

abbrev pub AreBytes : List ℕ → Type 0
AreBytes [] = Unit {0}
AreBytes (b ∷ bytes) = (b < 256) × AreBytes bytes

pub found : {A : Type 0} (r : Reader A) (bytes : List ℕ) (read : ℕ) (x : A) (after : ℕ) → AreBytes bytes → IsHonest r → front r bytes read ≡ Ok (x, after) → Found r bytes read x after
found (done y) bytes read x after are h e =
    let same : x ≡ y = ap (λ w. w.0) (pair_of (x, after) (y, read) e) in
    let place : after ≡ read = ap (λ w. w.1) (pair_of (x, after) (y, read) e) in
    record { used = []; rest = bytes; split = refl; reads = same; place = omega arith; within = λ h. omega arith }
found bad bytes read x after are h e = cc
found (more m k) [] read x after are h e = let f : _ = if_ok (nat_le (read + (m + 0)) 15) (Err Short) (x, after) e in cc
found (more m k) (b ∷ bytes) read x after are h e =
    let f = found (k b) bytes (read + 1) x after are.1 (h.0 b are.0).0 (if_ok (nat_le (read + (m + 0)) 15) (front (k b) bytes (read + 1)) (x, after) e) in
    record {
      used = b ∷ f.used;
      rest = f.rest;
      split = ap (λ t. b ∷ t) f.split;
      reads = (are.0, f.reads);
      place = let p : after ≡ read + 1 + length f.used = f.place in omega arith;
      within = λ room.
          let fits : read + (m + 0) ≤ 15 = leb-true (read + (m + 0)) 15 (ok_if (nat_le (read + (m + 0)) 15) (front (k b) bytes (read + 1)) (x, after) e) in
          let some : m ≡ suc h.1.1 = h.1.2.one_more in
          f.within (omega arith);
    }

pub complete : {A : Type 0} (r : Reader A) (used rest : List ℕ) (read : ℕ) (x : A) → IsHonest r → Accepts r used x → read + length used ≤ 15 → front r (used ++ rest) read ≡ Ok (x, read + length used)
complete (done y) [] rest read x h p room = let same : y ≡ x = sym p in ap (λ v. Ok (v, read)) same ∙ ap (λ v. Ok (x, v)) (let e : read ≡ read + 0 = omega arith in e)
complete (done y) (b ∷ used) rest read x h p room = absurd p
complete bad used rest read x h p room = absurd p
complete (more m k) [] rest read x h p room = absurd p
complete (more m k) (b ∷ used) rest read x h p room =
    let least : m ≤ suc (length used) = at_least (more m k) (b ∷ used) x h p in
    let fits : read + (m + 0) ≤ 15 = omega arith in
    let shorter : read + 1 + length used ≤ 15 = omega arith in
    let place : read + 1 + length used ≡ read + suc (length used) = omega arith in
    cond-true (nat_le (read + (m + 0)) 15) (front (k b) (used ++ rest) (read + 1)) (Err Unknown) (le-leb (read + (m + 0)) 15 fits)
    ∙ complete (k b) used rest (read + 1) x (h.0 b p.0).0 p.1 shorter
    ∙ ap (λ v. Ok (x, v)) place

pub record Continued {A : Type 0} (r : Reader A) (bytes : List ℕ) (read : ℕ) : Type 0 where
  pub further : List ℕ
  pub value : A
  pub reads : Accepts r (bytes ++ further) value
  pub within : read + length (bytes ++ further) ≤ 15

pub short : {A : Type 0} (r : Reader A) (bytes : List ℕ) (read : ℕ) → AreBytes bytes → IsHonest r → front r bytes read ≡ Err Short → Continued r bytes read
short (done y) bytes read are h e = cc
short bad bytes read are h e = cc
short (more m k) [] read are h e =
    let fits : read + (m + 0) ≤ 15 = leb-true (read + (m + 0)) 15 (if_short (nat_le (read + (m + 0)) 15) e) in
    let c = completion (more m k) m h refl in
    let long : length c.bytes ≡ m = c.long in
    record { further = c.bytes; value = c.value; reads = c.reads; within = omega arith }
short (more m k) (b ∷ bytes) read are h e =
    let f = short (k b) bytes (read + 1) are.1 (h.0 b are.0).0 (if_short_then (nat_le (read + (m + 0)) 15) (front (k b) bytes (read + 1)) e) in
    let within : read + 1 + length (bytes ++ f.further) ≤ 15 = f.within in
    record { further = f.further; value = f.value; reads = (are.0, f.reads); within = omega arith }

pub unknown : {A : Type 0} (r : Reader A) (bytes further : List ℕ) (read : ℕ) → front r bytes read ≡ Err Unknown → front r (bytes ++ further) read ≡ Err Unknown
unknown (done y) bytes further read e = cc
unknown bad bytes further read e = refl
unknown (more m k) [] further read e =
    let past : nat_le (read + (m + 0)) 15 ≡ false = if_unknown (nat_le (read + (m + 0)) 15) e in
    no_room m k further read past
unknown (more m k) (b ∷ bytes) further read e =
    if_unknown_then (nat_le (read + (m + 0)) 15) (front (k b) bytes (read + 1)) (front (k b) (bytes ++ further) (read + 1)) (unknown (k b) bytes further (read + 1)) e
