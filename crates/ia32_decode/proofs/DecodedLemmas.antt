-- What bytes decode to is what their first bytes spell.

use Rattle.std.proofs.Common.{◌≡◌, ℕ, suc, get_or, ◌+◌, ◌<◌, ◌≤◌, List, [], ◌∷◌, ◌++◌, length, refl, sym, ◌∙◌, ap, subst, Result, Ok, Err, arith, length-append}
use Rattle.std.specs.Prelude.{◌↔◌, IfOk}
use Rattle.std.proofs.lemmas.List.{append-nil}
use Rattle.ia32_types.specs.declared.Instr.{Instr}
use Rattle.ia32_types.specs.declared.forms.Parts.{Parts}
use Rattle.ia32_types.specs.Forms.{finished}
use Rattle.ia32_types.specs.Spells.{Spells, Begins, instruction}
use Rattle.ia32_types.proofs.SpellsLemmas.{not_empty}
use Rattle.ia32_decode.specs.declared.NotDecoded.{NotDecoded}
use Rattle.ia32_decode.specs.declared.NotDecoded.TheVariants.{Short, Unknown}
use Rattle.ia32_decode.specs.Reading.{run, and_then}
use Rattle.ia32_decode.specs.Decoded.{NoneBegins, SomeLonger, NoLonger, decoded}
use Rattle.ia32_decode.proofs.FrontLemmas.{front, run_front, found, complete, short, unknown, AreBytes}
use Rattle.ia32_decode.proofs.HonestGrammarLemmas.{honest_instruction}

-- the same over the list
abbrev shown : ℕ → Result (Parts × ℕ) NotDecoded → Result Instr NotDecoded
shown at read = and_then read (λ x. Ok (finished at x.1 x.0))

-- which reading gives what is shown
ok_of : (at : ℕ) (q : Result (Parts × ℕ) NotDecoded) (i : Instr) → shown at q ≡ Ok i → (x : Parts × ℕ) × (q ≡ Ok x) × (i ≡ finished at x.1 x.0)
ok_of at (Ok x) i e = (x, refl, sym (same_ok (finished at x.1 x.0) i e))
  where
    same_ok : (a b : Instr) → (let r : Result Instr NotDecoded = Ok a in r ≡ Ok b) → a ≡ b
    same_ok a b e = cc
ok_of at (Err x) i e = cc

err_of : (at : ℕ) (q : Result (Parts × ℕ) NotDecoded) (x : NotDecoded) → shown at q ≡ Err x → q ≡ Err x
err_of at (Ok y) x e = cc
err_of at (Err y) x e = ap (λ v. Err v) (same_err y x e)
  where
    same_err : (a b : NotDecoded) → (let r : Result Instr NotDecoded = Err a in r ≡ Err b) → a ≡ b
    same_err a b e = cc

-- the grammar at the start of the bytes
from_start : (bytes : List ℕ) → run 0 instruction bytes 0 ≡ front instruction bytes 0
from_start bytes = run_front instruction bytes 0

-- what is read is spelled
pub ok_spelled : (bytes : List ℕ) (at : ℕ) (i : Instr) → AreBytes bytes → decoded bytes at ≡ Ok i → Begins bytes at i
ok_spelled bytes at i are e =
    let q = ok_of at (run 0 instruction bytes 0) i e in
    let f = found instruction bytes 0 q.0.0 q.0.1 are honest_instruction (sym (from_start bytes) ∙ q.1) in
    let place : q.0.1 ≡ length f.used = f.place ∙ (let e : 0 + length f.used ≡ length f.used = omega arith in e) in
    let within : q.0.1 ≤ 15 = f.within (omega arith) in
    record {
      used = f.used;
      rest = f.rest;
      split = f.split;
      spells = record {
        parts = q.0.0;
        read = f.reads;
        short = omega arith;
        is = q.2 ∙ ap (λ n. finished at n q.0.0) place;
      };
    }

-- what is spelled is read
pub spelled_ok : (bytes : List ℕ) (at : ℕ) (i : Instr) → Begins bytes at i → decoded bytes at ≡ Ok i
spelled_ok bytes at i h =
    let s = h.spells in
    let short : length h.used ≤ 15 = s.short in
    let place : 0 + length h.used ≡ length h.used = omega arith in
    let all = complete instruction h.used h.rest 0 s.parts honest_instruction s.read (omega arith) in
    let there : front instruction bytes 0 ≡ Ok (s.parts, 0 + length h.used) = ap (λ b. front instruction b 0) h.split ∙ all in
    ap (shown at) (from_start bytes ∙ there) ∙ ap (λ v. Ok v) (ap (λ n. finished at n s.parts) place ∙ sym s.is)

not_both : (r : Result Instr NotDecoded) (i : Instr) (x : NotDecoded) → r ≡ Ok i → r ≡ Err x → ⊥
not_both r i x e f = cc

pub short_longer : (bytes : List ℕ) (at : ℕ) → AreBytes bytes → decoded bytes at ≡ Err Short → SomeLonger bytes at
short_longer bytes at are e =
    let f = short instruction bytes 0 are honest_instruction (sym (from_start bytes) ∙ err_of at (run 0 instruction bytes 0) Short e) in
    let within : 0 + length (bytes ++ f.further) ≤ 15 = f.within in
    let i : Instr = finished at (length (bytes ++ f.further)) f.value in (
      f.further,
      i,
      record {
        used = bytes ++ f.further;
        rest = [];
        split = sym (append-nil (bytes ++ f.further));
        spells = record { parts = f.value; read = f.reads; short = omega arith; is = refl };
      },
    )

pub unknown_none : (bytes : List ℕ) (at : ℕ) → decoded bytes at ≡ Err Unknown → NoLonger bytes at
unknown_none bytes at e further i h =
    let u = unknown instruction bytes further 0 (sym (from_start bytes) ∙ err_of at (run 0 instruction bytes 0) Unknown e) in
    let none : decoded (bytes ++ further) at ≡ Err Unknown = ap (shown at) (from_start (bytes ++ further) ∙ u) in
    let some : decoded (bytes ++ further) at ≡ Ok i = spelled_ok (bytes ++ further) at i h in
    not_both (decoded (bytes ++ further) at) i Unknown some none

-- the three outcomes, each exactly where it is due
pub ok_exactly : (bytes : List ℕ) (at : ℕ) (r : Result Instr NotDecoded) → AreBytes bytes → r ≡ decoded bytes at → (i : Instr) → (r ≡ Ok i) ↔ Begins bytes at i
ok_exactly bytes at r are e i = (λ h. ok_spelled bytes at i are (sym e ∙ h), λ h. e ∙ spelled_ok bytes at i h)

pub short_exactly : (bytes : List ℕ) (at : ℕ) (r : Result Instr NotDecoded) → AreBytes bytes → r ≡ decoded bytes at → (r ≡ Err Short) ↔ (NoneBegins bytes at × SomeLonger bytes at)
short_exactly bytes at r are e = (
  λ h. (λ i b. not_both r i Short (e ∙ spelled_ok bytes at i b) h, short_longer bytes at are (sym e ∙ h)),
  λ h. short_case r refl h,
)
  where
    short_case : (q : Result Instr NotDecoded) → q ≡ r → (NoneBegins bytes at × SomeLonger bytes at) → r ≡ Err Short
    short_case (Ok i) f h = absurd (h.0 i (ok_spelled bytes at i are (sym e ∙ sym f)))
    short_case (Err Short) f h = sym f
    short_case (Err Unknown) f h = absurd (unknown_none bytes at (sym e ∙ sym f) h.1.0 h.1.1 h.1.2)

pub unknown_exactly : (bytes : List ℕ) (at : ℕ) (r : Result Instr NotDecoded) → AreBytes bytes → r ≡ decoded bytes at → (r ≡ Err Unknown) ↔ NoLonger bytes at
unknown_exactly bytes at r are e = (
  λ h. unknown_none bytes at (sym e ∙ h),
  λ h. unknown_case r refl h,
)
  where
    unknown_case : (q : Result Instr NotDecoded) → q ≡ r → NoLonger bytes at → r ≡ Err Unknown
    unknown_case (Ok i) f h = absurd (h [] i (subst (λ b. Begins b at i) (sym (append-nil bytes)) (ok_spelled bytes at i are (sym e ∙ sym f))))
    unknown_case (Err Short) f h = let s = short_longer bytes at are (sym e ∙ sym f) in absurd (h s.0 s.1 s.2)
    unknown_case (Err Unknown) f h = sym f

-- where the instruction stands, and how long it is
pub record IsPlaced (bytes : List ℕ) (at : ℕ) (i : Instr) : Type 0 where
  pub at_is : i.at ≡ at
  pub some : 1 ≤ i.len
  pub few : i.len ≤ 15
  pub within : i.len ≤ length bytes

pub is_placed : (bytes : List ℕ) (at : ℕ) (i : Instr) → Begins bytes at i → IsPlaced bytes at i
is_placed bytes at i h =
    let len : i.len ≡ length h.used = ap (λ v. v.len) h.spells.is in
    let short : length h.used ≤ 15 = h.spells.short in
    let whole : length bytes ≡ length h.used + length h.rest = ap length h.split ∙ length-append h.used h.rest in
    record { at_is = ap (λ v. v.at) h.spells.is; some = omega (arith, some_byte h.used at i h.spells); few = omega arith; within = omega arith }
  where
    some_byte : (used : List ℕ) (at : ℕ) (i : Instr) → Spells used at i → 1 ≤ length used
    some_byte [] at i s = absurd (not_empty at i s)
    some_byte (b ∷ used) at i s = omega arith

pub are_bytes : (bytes : List ℕ) → ((k : ℕ) → get_or bytes k 0 < 256) → AreBytes bytes
are_bytes [] h = tt
are_bytes (b ∷ bytes) h = (h 0, are_bytes bytes (λ k. h (suc k)))

pub if_placed : (bytes : List ℕ) (at : ℕ) (r : Result Instr NotDecoded) (P : Instr → Type 0) → AreBytes bytes → r ≡ decoded bytes at → ((i : Instr) → IsPlaced bytes at i → P i) → IfOk r P
if_placed bytes at (Ok i) P are e f = f i (is_placed bytes at i (ok_spelled bytes at i are (sym e)))
if_placed bytes at (Err x) P are e f = tt
