-- Laws of reading by a grammar.

use Rattle.std.proofs.Common.{sym, ◌≡◌, ℕ, ◌+◌, Bool, Some, List, refl, ◌∙◌, ap, Ok, Err, arith}
use Rattle.ia32_types.specs.declared.Mem.{Mem}
use Rattle.ia32_types.specs.declared.Width.{Width}
use Rattle.ia32_types.specs.declared.forms.Form.{Form}
use Rattle.ia32_types.specs.declared.forms.Prefixes.{Prefixes}
use Rattle.ia32_types.specs.Forms.{width_of, form_bytes, is_gs}
use Rattle.ia32_types.specs.Memory.{memory}
use Rattle.ia32_types.specs.Spells.{end_bytes, ending, in_memory}
use Rattle.ia32_types.specs.Readers.{Reader, done, bad, more, then_}
use Rattle.ia32_decode.specs.Reading.{run, next_byte_of, and_then}

-- a sequence is read by its two parts
pub run_then : {A B : Type 0} (extra n : ℕ) (r : Reader A) (k : A → Reader B) (bytes : List ℕ) (read : ℕ) → run extra (then_ n r k) bytes read ≡ and_then (run (n + extra) r bytes read) (λ x. run extra (k x.0) bytes x.1)
run_then extra n (done x) k bytes read = refl
run_then extra n bad k bytes read = refl
run_then {B = B} extra n (more m f) k bytes read =
    let e : m + n + extra ≡ m + (n + extra) = omega arith in
    ap (λ l. and_then (next_byte_of bytes read l) (λ b. run extra (then_ n (f b.0) k) bytes b.1)) e
    ∙ elim (next_byte_of bytes read (m + (n + extra))) as (λ q. and_then q (λ b. run extra (then_ n (f b.0) k) bytes b.1) ≡ and_then {B = B × ℕ} (and_then q (λ b. run (n + extra) (f b.0) bytes b.1)) (λ x. run extra (k x.0) bytes x.1)) [
      | Ok b ↦ run_then extra n (f b.0) k bytes b.1
      | Err e ↦ refl
    ]

-- memory, and what follows it
pub run_in_memory : (p : Prefixes) (f : Form) (modrm : ℕ) (bytes : List ℕ) (read : ℕ) (m : Mem) (next : ℕ) (w : Width) (e : ℕ) (gs : Bool) → w ≡ width_of f.size p.operand16 → e ≡ form_bytes w f → gs ≡ is_gs p.segment → run e (memory gs modrm) bytes read ≡ Ok (m, next) → run 0 (in_memory p f modrm) bytes read ≡ run 0 (ending p f modrm (Some m)) bytes next
run_in_memory p f modrm bytes read m next w e gs is_w is_e is_g h =
    let end : end_bytes p f + 0 ≡ end_bytes p f = omega arith in
    let same : e ≡ end_bytes p f = is_e ∙ ap (λ v. form_bytes v f) is_w in
    let there : run (end_bytes p f + 0) (memory (is_gs p.segment) modrm) bytes read ≡ Ok (m, next) =
    ap (λ v. run v (memory (is_gs p.segment) modrm) bytes read) (end ∙ sym same) ∙ ap (λ g. run e (memory g modrm) bytes read) (sym is_g) ∙ h in
    run_then 0 (end_bytes p f) (memory (is_gs p.segment) modrm) (λ v. ending p f modrm (Some v)) bytes read
    ∙ ap (λ q. and_then q (λ x. run 0 (ending p f modrm (Some x.0)) bytes x.1)) there
