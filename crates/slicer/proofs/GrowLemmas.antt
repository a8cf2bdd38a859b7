-- Lists that grow by steps.
use Rattle.std.proofs.Common.{◌≡◌, ◌⊎◌, inl, inr, ⊎_elim, ℕ, ◌<◌, ◌≤◌, List, [], ◌∷◌, ◌++◌, length, get_or, sym, ◌∙◌, ap, subst, arith, length-append}
use Rattle.std.specs.Prelude.{◌↔◌, Contains}
use Rattle.std.proofs.lemmas.List.{append-nil, append_assoc, get_or_append_left}
use Rattle.std.proofs.lemmas.List.Elements.{Contains-append_left}
use Rattle.flow_graph.specs.Marked.{Marked}
use Rattle.flow_graph.specs.Marked.Marked.{seed, step}
use Rattle.flow_graph.proofs.MarkedLaws.{marked_all}
use Rattle.slicer.specs.Search.{Adds, Grows}

-- what is reached by steps from what is reached is reached
pub marked-then : (Seed Seed' : ℕ → Type 0) (Step Step' : ℕ → ℕ → Type 0) → ((n : ℕ) → Seed n → Marked Seed' Step' n) → ((m n : ℕ) → Step m n → Step' m n) → {n : ℕ} → Marked Seed Step n → Marked Seed' Step' n
marked-then Seed Seed' Step Step' begins steps marked = marked_all Seed Step (Marked Seed' Step') begins (λ m n goes before. step (steps m n goes) before) marked

pub contains-more : (old rest new : List ℕ) (n : ℕ) → new ≡ old ++ rest → Contains old n → Contains new n
contains-more old rest new n is has = subst (λ xs. Contains xs n) (sym is) (Contains-append_left old rest n has)

pub grows-none : (Step : ℕ → ℕ → Type 0) (xs : List ℕ) → Grows Step xs xs
grows-none Step xs = record { rest = []; goes_on = sym (append-nil xs); reached = λ n has. seed has }

pub grows-has : (Step : ℕ → ℕ → Type 0) (old new : List ℕ) (n : ℕ) → Grows Step old new → Contains old n → Contains new n
grows-has Step old new n g has = contains-more old g.rest new n g.goes_on has

pub grows-then : (Step : ℕ → ℕ → Type 0) (old mid new : List ℕ) → Grows Step old mid → Grows Step mid new → Grows Step old new
grows-then Step old mid new first second = record {
  rest = first.rest ++ second.rest;
  goes_on = second.goes_on ∙ ap (λ xs. xs ++ second.rest) first.goes_on ∙ append_assoc old first.rest second.rest;
  reached = λ n has. marked-then (Contains mid) (Contains old) Step Step first.reached (λ a b goes. goes) (second.reached n has);
}

pub grows-like : (Step Step' : ℕ → ℕ → Type 0) (old new : List ℕ) → ((m n : ℕ) → Step m n → Step' m n) → Grows Step old new → Grows Step' old new
grows-like Step Step' old new like g = record {
  rest = g.rest;
  goes_on = g.goes_on;
  reached = λ n has. marked-then (Contains old) (Contains old) Step Step' (λ m begins. seed begins) like (g.reached n has);
}

-- what is added comes by a step from what was there
pub grows-adds : (P : ℕ → Type 0) (Step : ℕ → ℕ → Type 0) (old new : List ℕ) → ((n : ℕ) → P n → (m : ℕ) × Contains old m × Step m n) → Adds P old new → Grows Step old new
grows-adds P Step old new from a = record {
  rest = a.rest;
  goes_on = a.goes_on;
  reached = λ n has. ⊎_elim (λ was. seed was) (λ new. let by = from n new in step by.2 (seed by.1)) (a.why n has);
}

-- a fact of all nodes of the old list that goes along steps
pub grows-all : (P : ℕ → Type 0) (Step : ℕ → ℕ → Type 0) (old new : List ℕ) → ((n : ℕ) → Contains old n → P n) → ((m n : ℕ) → Step m n → P n) → Grows Step old new → (n : ℕ) → Contains new n → P n
grows-all P Step old new begins goes g n has = marked_all (Contains old) Step P begins (λ m o s before. goes m o s) (g.reached n has)

-- a longer list differs from the old one
pub grows-same : (Step : ℕ → ℕ → Type 0) (old new : List ℕ) → Grows Step old new → length new ≡ length old → new ≡ old
grows-same Step old new g same = no_rest old new g.rest g.goes_on same
  where
    no_rest : (old new rest : List ℕ) → new ≡ old ++ rest → length new ≡ length old → new ≡ old
    no_rest old new [] is same = is ∙ append-nil old
    no_rest old new (x ∷ rest) is same =
        let len : length new ≡ length (old ++ x ∷ rest) = ap (λ (xs : List ℕ). length xs) is in
        absurd (omega (arith, len, same, length-append old (x ∷ rest)))

pub grows-longer : (Step : ℕ → ℕ → Type 0) (old new : List ℕ) → Grows Step old new → length old ≤ length new
grows-longer Step old new g = let len : length new ≡ length (old ++ g.rest) = ap (λ (xs : List ℕ). length xs) g.goes_on in omega (arith, len, length-append old g.rest)

pub grows-at : (Step : ℕ → ℕ → Type 0) (old new : List ℕ) (k : ℕ) → Grows Step old new → k < length old → get_or new k 0 ≡ get_or old k 0
grows-at Step old new k g within = ap (λ (xs : List ℕ). get_or xs k 0) g.goes_on ∙ get_or_append_left old g.rest 0 k within

-- ---- additions one after the other

pub adds-none : (P : ℕ → Type 0) (xs : List ℕ) → ((n : ℕ) → ¬ P n) → Adds P xs xs
adds-none P xs never = record { rest = []; goes_on = sym (append-nil xs); why = λ n has. inl has; has = λ n p. absurd (never n p) }

pub adds-then : (P Q R : ℕ → Type 0) (old mid new : List ℕ) → ((n : ℕ) → R n ↔ (P n ⊎ Q n)) → Adds P old mid → Adds Q mid new → Adds R old new
adds-then P Q R old mid new splits first second = record {
  rest = first.rest ++ second.rest;
  goes_on = second.goes_on ∙ ap (λ xs. xs ++ second.rest) first.goes_on ∙ append_assoc old first.rest second.rest;
  why = λ n has. ⊎_elim (λ was. ⊎_elim (λ o. inl o) (λ p. inr ((splits n).1 (inl p))) (first.why n was)) (λ q. inr ((splits n).1 (inr q))) (second.why n has);
  has = λ n r. ⊎_elim (λ p. contains-more mid second.rest new n second.goes_on (first.has n p)) (λ q. second.has n q) ((splits n).0 r);
}

pub adds-like : (P Q : ℕ → Type 0) (old new : List ℕ) → ((n : ℕ) → P n ↔ Q n) → Adds P old new → Adds Q old new
adds-like P Q old new like a = record {
  rest = a.rest;
  goes_on = a.goes_on;
  why = λ n has. ⊎_elim (λ was. inl was) (λ p. inr ((like n).0 p)) (a.why n has);
  has = λ n q. a.has n ((like n).1 q);
}
