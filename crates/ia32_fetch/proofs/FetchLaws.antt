-- Laws of the code of an image, read byte by byte.
use Rattle.std.proofs.Common.{◌≡◌, ◌↔◌, ◌⊎◌, ⊎_elim, ℕ, zero, suc, ◌+◌, ◌-◌, ◌<◌, ◌≤◌, List, [], ◌∷◌, ◌++◌, length, take, drop, Option, Some, None, refl, sym, ◌∙◌, ap, subst, append_assoc, length-append, arith}
use Rattle.std.proofs.lemmas.List.{append-nil, take_at, take-append-drop}
use Rattle.std.specs.Prelude.{Result, Ok, Err}
use Rattle.image_map.specs.declared.image.Image.{Image}
use Rattle.ia32_decode.specs.declared.NotDecoded.{NotDecoded}
use Rattle.ia32_types.specs.declared.Instr.{Instr}
use Rattle.ia32_types.specs.Operands.{IsInstruction}
use Rattle.ia32_types.specs.Spells.{Spells, Begins}
use Rattle.ia32_types.proofs.InstructionLemmas.{spelled_instruction}
use Rattle.ia32_decode.specs.Decoded.{decoded}
use Rattle.ia32_decode.proofs.DecodedLemmas.{spelled_ok}
use Rattle.ia32_semantics.specs.Fetch.{code_byte, begun_by, code_run, fetch_window, IsFetched}
use Rattle.ia32_fetch.specs.Fetched.{instruction_of, instruction_at}

-- where a byte is known code, the run begins with it
run_begun : (image : Image) (a m b : ℕ) → code_byte image a ≡ Some b → code_run image a (suc m) ≡ b ∷ code_run image (a + 1) m
unfolding code_run
run_begun image a m b byte = ap (λ o. begun_by o (code_run image (a + 1) m)) byte

-- where none is, it is empty
pub run_ended : (image : Image) (a n : ℕ) → code_byte image a ≡ None → code_run image a n ≡ []
unfolding code_run
run_ended image a zero byte = refl
run_ended image a (suc n) byte = ap (λ o. begun_by o (code_run image (a + 1) n)) byte

run_empty : (image : Image) (a n : ℕ) → n ≡ 0 → code_run image a n ≡ []
unfolding code_run
run_empty image a zero e = refl
run_empty image a (suc n) e = absurd (omega arith)

-- the run that is read so far, and the one that is left
abbrev pub IsRead : Image → ℕ → ℕ → ℕ → List ℕ → Type 0
IsRead image a n k done = code_run image a n ≡ done ++ code_run image (a + k) (n - k)

pub read_start : (image : Image) (a n : ℕ) → IsRead image a n 0 []
read_start image a n = let e : a ≡ a + 0 = omega arith in let m : n ≡ n - 0 = omega arith in ap (λ x. code_run image x n) e ∙ ap (λ x. code_run image (a + 0) x) m

pub read_more : (image : Image) (a n k b : ℕ) (done more : List ℕ) → IsRead image a n k done → k < n → code_byte image (a + k) ≡ Some b → more ≡ done ++ b ∷ [] → IsRead image a n (k + 1) more
read_more image a n k b done more read lt byte is =
    let left : n - k ≡ suc (n - (k + 1)) = omega arith in
    let on : a + k + 1 ≡ a + (k + 1) = omega arith in
    let rest = code_run image (a + (k + 1)) (n - (k + 1)) in
    let begun : code_run image (a + k) (n - k) ≡ b ∷ rest =
    ap (λ m. code_run image (a + k) m) left ∙ run_begun image (a + k) (n - (k + 1)) b byte ∙ ap (λ x. b ∷ code_run image x (n - (k + 1))) on in
    read ∙ ap (λ l. done ++ l) begun ∙ sym (append_assoc done (b ∷ []) rest) ∙ ap (λ l. l ++ rest) (sym is)

-- the same where the bytes so far are a list of their own
pub read_pushed : (image : Image) (a n b : ℕ) (done more : List ℕ) → IsRead image a n (length done) done → length done < n → code_byte image (a + length done) ≡ Some b → more ≡ done ++ b ∷ [] → IsRead image a n (length more) more
read_pushed image a n b done more read lt byte is =
    let long : length done + 1 ≡ length more = sym (ap length is ∙ length-append done (b ∷ [])) in
    subst (λ k. IsRead image a n k more) long (read_more image a n (length done) b done more read lt byte is)

-- it is the whole run where no byte follows, and where it has as many as there may be
pub read_all : (image : Image) (a n k : ℕ) (done : List ℕ) → IsRead image a n k done → (code_byte image (a + k) ≡ None) ⊎ (n ≤ k) → done ≡ code_run image a n
read_all image a n k done read ends =
    let nothing : code_run image (a + k) (n - k) ≡ [] = ⊎_elim (λ none. run_ended image (a + k) (n - k) none) (λ full. run_empty image (a + k) (n - k) (omega arith)) ends in
    sym (append-nil done) ∙ sym (ap (λ l. done ++ l) nothing) ∙ sym read

-- what is fetched is what the code there begins with
pub fetched_begins : (image : Image) (a : ℕ) (i : Instr) → Begins (fetch_window image a) a i ↔ IsFetched image a i
fetched_begins image a i = (
  λ begins. record {
    count = length begins.used;
    spelled = subst (λ bytes. Spells bytes a i) (sym (ap (λ l. take (length begins.used) l) begins.split ∙ take_at begins.used begins.rest (length begins.used) refl)) begins.spells;
  },
  λ fetched. record {
    used = take fetched.count (fetch_window image a);
    rest = drop fetched.count (fetch_window image a);
    split = sym (take-append-drop fetched.count (fetch_window image a));
    spells = fetched.spelled;
  },
)

pub decoded_none : (image : Image) (a : ℕ) (window : List ℕ) (e : NotDecoded) → window ≡ fetch_window image a → ((i : Instr) → (◌≡◌ {A = Result Instr NotDecoded} (Err e) (Ok i)) ↔ Begins window a i) → (i : Instr) → (◌≡◌ {A = Option Instr} None (Some i)) ↔ IsFetched image a i
decoded_none image a window e is ok i = (
  λ same. absurd (cc),
  λ fetched.
      let begins : Begins window a i = subst (λ bytes. Begins bytes a i) (sym is) ((fetched_begins image a i).1 fetched) in
      let same : ◌≡◌ {A = Result Instr NotDecoded} (Err e) (Ok i) = (ok i).1 begins in
      absurd (cc),
)

pub decoded_some : (image : Image) (a : ℕ) (window : List ℕ) (j : Instr) → window ≡ fetch_window image a → ((i : Instr) → (◌≡◌ {A = Result Instr NotDecoded} (Ok j) (Ok i)) ↔ Begins window a i) → (i : Instr) → (◌≡◌ {A = Option Instr} (Some j) (Some i)) ↔ IsFetched image a i
decoded_some image a window j is ok i = (
  λ same.
      let one : j ≡ i = cc in
      (fetched_begins image a i).0 (subst (λ bytes. Begins bytes a i) is ((ok i).0 (ap Ok one))),
  λ fetched.
      let begins : Begins window a i = subst (λ bytes. Begins bytes a i) (sym is) ((fetched_begins image a i).1 fetched) in
      let same : ◌≡◌ {A = Result Instr NotDecoded} (Ok j) (Ok i) = (ok i).1 begins in
      let one : j ≡ i = cc in
      ap Some one,
)

-- what the window decodes to is the instruction there
pub window_decoded : (image : Image) (a : ℕ) (window : List ℕ) (r : Result Instr NotDecoded) → window ≡ fetch_window image a → r ≡ decoded window a → instruction_of r ≡ instruction_at image a
unfolding instruction_at
window_decoded image a window r is found = ap instruction_of (found ∙ ap (λ w. decoded w a) is)

-- it can be spelled
pub begun_spelled : (bytes : List ℕ) (a : ℕ) (i : Instr) → Begins bytes a i → IsInstruction i
begun_spelled bytes a i begins = (spelled_instruction begins.used a i begins.spells).is

-- what is fetched is the instruction there
pub fetched_at : (image : Image) (a : ℕ) (i : Instr) → IsFetched image a i → instruction_at image a ≡ Some i
unfolding instruction_at
fetched_at image a i fetched = ap instruction_of (spelled_ok (fetch_window image a) a i ((fetched_begins image a i).1 fetched))
