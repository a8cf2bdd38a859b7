-- Bytes begin with one instruction at most.
use Rattle.std.proofs.Common.{◌≡◌, ◌⊎◌, inl, inr, ⊎_elim, ℕ, List, [], ◌∷◌, ◌++◌, refl, sym, ◌∙◌, ap, subst}
use Rattle.ia32_types.specs.declared.Instr.{Instr}
use Rattle.ia32_types.specs.Spells.{Spells, Begins}
use Rattle.ia32_types.proofs.SpellsLemmas.{one_spelling}

-- one of two fronts of a list goes on from the other
either_front : (xs ys us vs : List ℕ) → xs ++ us ≡ ys ++ vs → ((r : List ℕ) × (ys ≡ xs ++ r)) ⊎ ((r : List ℕ) × (xs ≡ ys ++ r))
either_front [] ys us vs same = inl (ys, refl)
either_front (x ∷ xs) [] us vs same = inr (x ∷ xs, refl)
either_front (x ∷ xs) (y ∷ ys) us vs same =
    let head : x ≡ y = cc in
    let tail : xs ++ us ≡ ys ++ vs = cc in
    ⊎_elim
    (λ on. inl (on.0, (ap (λ z. z ∷ ys) (sym head) ∙ ap (λ l. x ∷ l) on.1)))
    (λ on. inr (on.0, (ap (λ z. z ∷ xs) head ∙ ap (λ l. y ∷ l) on.1)))
    (either_front xs ys us vs tail)

-- bytes begin with one instruction at most
pub one_begins : (code : List ℕ) (at : ℕ) (i j : Instr) → Begins code at i → Begins code at j → i ≡ j
one_begins code at i j p q = ⊎_elim
    (λ on. (one_spelling p.used on.0 at i j p.spells (subst (λ bytes. Spells bytes at j) on.1 q.spells)).1)
    (λ on. sym (one_spelling q.used on.0 at j i q.spells (subst (λ bytes. Spells bytes at i) on.1 p.spells)).1)
    (either_front p.used q.used p.rest q.rest (sym p.split ∙ q.split))
