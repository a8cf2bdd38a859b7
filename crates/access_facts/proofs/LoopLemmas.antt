-- Lists that are gone through, and what is put at the end of another for each element.
use Rattle.std.proofs.Common.{◌≡◌, ◌≤◌, ◌<◌, ℕ, ◌+◌, Bool, true, false, ◌||◌, List, [], ◌∷◌, ◌++◌, length, drop, get_or, map, sym, ◌∙◌, ap, append_assoc, append-nil, arith}
use Rattle.std.specs.List.{flat_map, list_any}
use Rattle.std.proofs.lemmas.List.{drop_more, drop_all}
use Rattle.vset.specs.declared.part.Part.{Part}
use Rattle.asi_cuts.specs.declared.facts.Constraint.{Constraint}
use Rattle.access_facts.specs.Facts.{facts_of_part, facts_of_parts, same_as_next}

pub flat_step : {A B : Type 0} (f : A → List B) (xs : List A) (i : ℕ) (x : A) (out next whole : List B) → i < length xs → x ≡ get_or xs i x → next ≡ out ++ f x
    → out ++ flat_map f (drop i xs) ≡ whole → next ++ flat_map f (drop (i + 1) xs) ≡ whole
flat_step {A} {B} f xs i x out next whole lt is put e =
    let rest : List B = flat_map f (drop (i + 1) xs) in
    ap (λ t. t ++ rest) (put ∙ ap (λ y. out ++ f y) is) ∙ append_assoc out (f (get_or xs i x)) rest ∙ sym (ap (λ (ys : List A). out ++ flat_map f ys) (drop_more xs i x lt)) ∙ e

pub flat_end : {A B : Type 0} (f : A → List B) (xs : List A) (i : ℕ) (out whole : List B) → length xs ≤ i → out ++ flat_map f (drop i xs) ≡ whole → out ≡ whole
flat_end {A} f xs i out whole le e = sym (append-nil out) ∙ sym (ap (λ (ys : List A). out ++ flat_map f ys) (drop_all i xs le)) ∙ e

pub map_step : {A B : Type 0} (f : A → B) (xs : List A) (i : ℕ) (x : A) (y : B) (out next whole : List B) → i < length xs → x ≡ get_or xs i x → y ≡ f x → next ≡ out ++ y ∷ []
    → out ++ map f (drop i xs) ≡ whole → next ++ map f (drop (i + 1) xs) ≡ whole
map_step {A} {B} f xs i x y out next whole lt is made put e =
    let rest : List B = map f (drop (i + 1) xs) in
    ap (λ t. t ++ rest) (put ∙ ap (λ z. out ++ z ∷ []) (made ∙ ap f is)) ∙ append_assoc out (f (get_or xs i x) ∷ []) rest ∙ sym (ap (λ (ys : List A). out ++ map f ys) (drop_more xs i x lt)) ∙ e

pub map_end : {A B : Type 0} (f : A → B) (xs : List A) (i : ℕ) (out whole : List B) → length xs ≤ i → out ++ map f (drop i xs) ≡ whole → out ≡ whole
map_end {A} f xs i out whole le e = sym (append-nil out) ∙ sym (ap (λ (ys : List A). out ++ map f ys) (drop_all i xs le)) ∙ e

-- -- A search

-- nothing was found so far
pub any_past : {A : Type 0} (f : A → Bool) (xs : List A) (i : ℕ) (x : A) (whole t : Bool) → i < length xs → x ≡ get_or xs i x → t ≡ f x → t ≡ false → list_any f (drop i xs) ≡ whole → list_any f (drop (i + 1) xs) ≡ whole
any_past {A} f xs i x whole t lt is asked isnt e =
    let here : f (get_or xs i x) ≡ false = ap f (sym is) ∙ sym asked ∙ isnt in
    sym (ap (λ b. b || list_any f (drop (i + 1) xs)) here) ∙ sym (ap (list_any f) (drop_more xs i x lt)) ∙ e

pub any_found : {A : Type 0} (f : A → Bool) (xs : List A) (i : ℕ) (x : A) (whole t : Bool) → i < length xs → x ≡ get_or xs i x → t ≡ f x → t ≡ true → list_any f (drop i xs) ≡ whole → true ≡ whole
any_found {A} f xs i x whole t lt is asked found e =
    let here : f (get_or xs i x) ≡ true = ap f (sym is) ∙ sym asked ∙ found in
    sym (ap (λ b. b || list_any f (drop (i + 1) xs)) here) ∙ sym (ap (list_any f) (drop_more xs i x lt)) ∙ e

-- -- Places that follow one another

pub parts_step : (len : ℕ) (rest behind : List Part) (x : Part) (out with next whole : List Constraint) → rest ≡ x ∷ behind → with ≡ out ++ facts_of_part len x → next ≡ with ++ same_as_next len x behind
    → out ++ facts_of_parts len rest ≡ whole → next ++ facts_of_parts len behind ≡ whole
unfolding facts_of_parts
parts_step len rest behind x out with next whole split put linked e =
    let later : List Constraint = facts_of_parts len behind in
    ap (λ t. t ++ later) (linked ∙ ap (λ t. t ++ same_as_next len x behind) put)
    ∙ append_assoc (out ++ facts_of_part len x) (same_as_next len x behind) later
    ∙ append_assoc out (facts_of_part len x) (same_as_next len x behind ++ later)
    ∙ sym (ap (λ t. out ++ t) (append_assoc (facts_of_part len x) (same_as_next len x behind) later))
    ∙ sym (ap (λ (ys : List Part). out ++ facts_of_parts len ys) split) ∙ e

pub parts_end : (len : ℕ) (rest : List Part) (out whole : List Constraint) → length rest ≡ 0 → out ++ facts_of_parts len rest ≡ whole → out ≡ whole
unfolding facts_of_parts
parts_end len [] out whole none e = sym (append-nil out) ∙ e
parts_end len (x ∷ xs) out whole none e = absurd (omega arith)

-- -- Regions by their numbers

pub region_step : {A B : Type 0} (f : A → List B) (g : ℕ → A) (xs : List ℕ) (i : ℕ) (out next whole : List B) → i < length xs → next ≡ out ++ f (g (get_or xs i 0))
    → out ++ flat_map f (map g (drop i xs)) ≡ whole → next ++ flat_map f (map g (drop (i + 1) xs)) ≡ whole
region_step {A} {B} f g xs i out next whole lt put e =
    let rest : List B = flat_map f (map g (drop (i + 1) xs)) in
    ap (λ t. t ++ rest) put ∙ append_assoc out (f (g (get_or xs i 0))) rest ∙ sym (ap (λ ys. out ++ flat_map f (map g ys)) (drop_more xs i 0 lt)) ∙ e

pub region_end : {A B : Type 0} (f : A → List B) (g : ℕ → A) (xs : List ℕ) (i : ℕ) (out whole : List B) → length xs ≤ i → out ++ flat_map f (map g (drop i xs)) ≡ whole → out ≡ whole
region_end f g xs i out whole le e = sym (append-nil out) ∙ sym (ap (λ ys. out ++ flat_map f (map g ys)) (drop_all i xs le)) ∙ e
