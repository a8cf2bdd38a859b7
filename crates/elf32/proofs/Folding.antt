-- Relocations, one after the other, as loops over entries and over sections apply them.
use Rattle.std.proofs.Common.{◌≡◌, ◌⊎◌, inl, inr, ℕ, ◌+◌, ◌-◌, ◌≤◌, ◌<◌, Result, Ok, Err, List, ◌∷◌, ◌++◌, refl, ap, sym, ◌∙◌, add-one}
use Rattle.std.specs.List.{flat_map}
use Rattle.elf32.specs.declared.error.ElfError.{ElfError}
use Rattle.elf32.specs.declared.fields.ProgramHeader.{ProgramHeader}
use Rattle.elf32.specs.declared.fields.Relocation.{Relocation}
use Rattle.elf32.specs.Fields.{rows, rows_from}
use Rattle.elf32.specs.Relocating.{Relocated, step, relocated, Advances, Stops}
use Rattle.elf32.proofs.Rows.{rows_step, rows_end}

-- a relocation that is applied, and then the rest
pub applied : (b : ℕ) (hs : List ProgramHeader) (i : ℕ) (st next : Relocated) (r : Relocation) (rest : List Relocation) → step b hs i st r ≡ Ok next
    → relocated b hs i st (r ∷ rest) ≡ relocated b hs (i + 1) next rest
applied b hs i st next r rest h = rw (h, add-one) refl

pub refused : (b : ℕ) (hs : List ProgramHeader) (i : ℕ) (st : Relocated) (r : Relocation) (rest : List Relocation) (e : ElfError) → step b hs i st r ≡ Err e
    → relocated b hs i st (r ∷ rest) ≡ Err e
refused b hs i st r rest e h = rw h refl

-- the state of a loop over the rows of a section: what is left to do is all that there was
abbrev pub Remains : ℕ → List ProgramHeader → (ℕ → Relocation) → ℕ → ℕ → Relocated → ℕ → ℕ → Relocated → Type 0
Remains b hs row n i0 st0 at i st = (rest : List Relocation) → relocated b hs i0 st0 (rows row n ++ rest) ≡ relocated b hs i st (rows_from row at (n - at) ++ rest)

pub row_applied : (b : ℕ) (hs : List ProgramHeader) (row : ℕ → Relocation) (n i0 : ℕ) (st0 : Relocated) (at i : ℕ) (st next : Relocated) (r : Relocation) → at < n → r ≡ row at
    → step b hs i st r ≡ Ok next → Remains b hs row n i0 st0 at i st → Remains b hs row n i0 st0 (at + 1) (i + 1) next
row_applied b hs row n i0 st0 at i st next r lt is h so_far = λ rest.
    so_far rest
    ∙ (ap (λ v. relocated b hs i st (v ++ rest)) (rows_step row at n lt)
    ∙ applied b hs i st next (row at) (rows_from row (at + 1) (n - (at + 1)) ++ rest) (ap (λ v. step b hs i st v) (sym is) ∙ h))

pub row_refused : (b : ℕ) (hs : List ProgramHeader) (row : ℕ → Relocation) (n i0 : ℕ) (st0 : Relocated) (at i : ℕ) (st : Relocated) (r : Relocation) (e : ElfError) → at < n → r ≡ row at
    → step b hs i st r ≡ Err e → Remains b hs row n i0 st0 at i st → Stops b hs i0 st0 (rows row n) e
row_refused b hs row n i0 st0 at i st r e lt is h so_far = λ rest.
    so_far rest
    ∙ (ap (λ v. relocated b hs i st (v ++ rest)) (rows_step row at n lt)
    ∙ refused b hs i st (row at) (rows_from row (at + 1) (n - (at + 1)) ++ rest) e (ap (λ v. step b hs i st v) (sym is) ∙ h))

pub rows_done : (b : ℕ) (hs : List ProgramHeader) (row : ℕ → Relocation) (n i0 : ℕ) (st0 : Relocated) (at i : ℕ) (st : Relocated) → n ≤ at
    → Remains b hs row n i0 st0 at i st → Advances b hs i0 st0 (rows row n) i st
rows_done b hs row n i0 st0 at i st le so_far = λ rest. so_far rest ∙ ap (λ v. relocated b hs i st (v ++ rest)) (rows_end row at n le)

-- a cause that is want of memory, or else that of the fold
pub cause : {A B : Type 0} {M : Type 0} → (A → B) → M ⊎ A → M ⊎ B
cause f (inl m) = inl m
cause f (inr a) = inr (f a)

-- the state of a loop over sections, which begin with one that has been dealt with
pub section_passed : {A : Type 0} (b : ℕ) (hs : List ProgramHeader) (of : A → List Relocation) (i j : ℕ) (st after : Relocated) (s : A) (ss : List A) (total : Result Relocated ElfError)
    → Advances b hs i st (of s) j after → total ≡ relocated b hs i st (flat_map of (s ∷ ss)) → total ≡ relocated b hs j after (flat_map of ss)
section_passed b hs of i j st after s ss total h so_far = so_far ∙ h (flat_map of ss)

pub section_stops : {A : Type 0} (b : ℕ) (hs : List ProgramHeader) (of : A → List Relocation) (i : ℕ) (st : Relocated) (s : A) (ss : List A) (total : Result Relocated ElfError) (e : ElfError)
    → Stops b hs i st (of s) e → total ≡ relocated b hs i st (flat_map of (s ∷ ss)) → total ≡ Err e
section_stops b hs of i st s ss total e h so_far = so_far ∙ h (flat_map of ss)
