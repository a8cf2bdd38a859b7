-- Laws of the list of an image's instructions.
use Rattle.std.proofs.Common.{◌≡◌, ◌⊎◌, inl, inr, ⊎_elim, ℕ, zero, suc, ◌+◌, ◌-◌, ◌<◌, ◌≤◌, List, [], ◌∷◌, ◌++◌, length, refl, sym, ◌∙◌, ap, subst, append_assoc, length-append, arith}
use Rattle.std.proofs.lemmas.List.{append-nil}
use Rattle.std.specs.Prelude.{codes, Option, Some, None, Result, Ok, Err, IfOk, Vec, ◌↔◌}
use Rattle.std.specs.declared.alloc.Global.{Global}
use Rattle.std.specs.List.{flat_map}
use Rattle.std.specs.Fmt.{decimal}
use Rattle.image_map.specs.declared.image.Image.{Image}
use Rattle.ia32_types.specs.declared.Instr.{Instr}
use Rattle.surf_prog.specs.Listing.{StandsAt, Follow, instr_line, listing_text, IsListing, IsTheListing}
use Rattle.ia32_semantics.proofs.ActLaws.{one_fetched}

-- The lines so far, of instructions behind which stands what follows at a place.
pub record Told (image : Image) (at steps place count : ℕ) (text : List ℕ) : Type 0 where
  pub instrs : List Instr
  pub forth : (tail : List Instr) → Follow image (steps - count) place tail → Follow image steps at (instrs ++ tail)
  pub counted : length instrs ≡ count
  pub text_is : text ≡ flat_map instr_line instrs

pub told_start : (image : Image) (at steps : ℕ) → Told image at steps at 0 []
told_start image at steps = let n : steps - 0 ≡ steps = omega arith in record {
  instrs = [];
  forth = λ tail follow. subst (λ m. Follow image m at tail) n follow;
  counted = refl;
  text_is = refl;
}

follow_on : (image : Image) (n m at : ℕ) (i : Instr) (tail : List Instr) → n ≡ suc m → StandsAt image at i → Follow image m (at + i.len) tail → Follow image n at (i ∷ tail)
unfolding Follow
follow_on image zero m at i tail e stands follow = absurd (omega arith)
follow_on image (suc n) m at i tail e stands follow = let same : m ≡ n = omega arith in (stands, subst (λ k. Follow image k (at + i.len) tail) same follow)

follow_nothing : (image : Image) (n at : ℕ) → ((i : Instr) → ¬ StandsAt image at i) ⊎ (n ≡ 0) → Follow image n at []
unfolding Follow
follow_nothing image zero at ends = refl
follow_nothing image (suc n) at ends = ⊎_elim (λ none. none) (λ e. absurd (omega arith)) ends

lines_append : (is js : List Instr) → flat_map instr_line (is ++ js) ≡ flat_map instr_line is ++ flat_map instr_line js
lines_append [] js = refl
lines_append (i ∷ is) js = ap (λ l. instr_line i ++ l) (lines_append is js) ∙ sym (append_assoc (instr_line i) (flat_map instr_line is) (flat_map instr_line js))

pub told_next : (image : Image) (at steps place count next counted : ℕ) (text new : List ℕ) (i : Instr) → Told image at steps place count text → count < steps → StandsAt image place i
    → new ≡ text ++ instr_line i → next ≡ place + i.len → counted ≡ count + 1 → Told image at steps next counted new
told_next image at steps place count next counted text new i told lt stands new_is next_is counted_is =
    let left : steps - count ≡ suc (steps - counted) = omega arith in
    record {
      instrs = told.instrs ++ i ∷ [];
      forth = λ tail follow.
          let there : Follow image (steps - counted) (place + i.len) tail = subst (λ p. Follow image (steps - counted) p tail) next_is follow in
          subst (λ (l : List Instr). Follow image steps at l) (sym (append_assoc told.instrs (i ∷ []) tail)) (told.forth (i ∷ tail) (follow_on image (steps - count) (steps - counted) place i tail left stands there));
      counted = let long = length-append told.instrs (i ∷ []) in let before = told.counted in omega arith;
      text_is = new_is ∙ ap (λ l. l ++ instr_line i) told.text_is ∙ sym (lines_append told.instrs (i ∷ []) ∙ ap (λ l. flat_map instr_line told.instrs ++ l) (append-nil (instr_line i)));
    }

pub told_all : (image : Image) (at steps place count : ℕ) (text new : List ℕ) → Told image at steps place count text → ((i : Instr) → ¬ StandsAt image place i) ⊎ (steps ≤ count)
    → new ≡ text ++ (codes "end " ++ (decimal count ++ 10 ∷ [])) → IsListing image at steps new
told_all image at steps place count text new told ends new_is =
    let last : Follow image (steps - count) place [] = follow_nothing image (steps - count) place (⊎_elim (λ none. inl none) (λ full. inr (omega arith)) ends) in
    record {
      instrs = told.instrs;
      follow = subst (λ (l : List Instr). Follow image steps at l) (append-nil told.instrs) (told.forth [] last);
      text_is = new_is ∙ ap (λ l. l ++ (codes "end " ++ (decimal count ++ 10 ∷ []))) told.text_is ∙ ap (λ n. flat_map instr_line told.instrs ++ (codes "end " ++ (decimal n ++ 10 ∷ []))) (sym told.counted);
    }

-- the instructions from an address on are one list
one_following : (image : Image) (n at : ℕ) (is js : List Instr) → Follow image n at is → Follow image n at js → is ≡ js
unfolding Follow
one_following image zero at is js p q = p ∙ sym q
one_following image (suc n) at [] [] p q = refl
one_following image (suc n) at [] (j ∷ js) p q = absurd (p j q.0)
one_following image (suc n) at (i ∷ is) [] p q = absurd (q i p.0)
one_following image (suc n) at (i ∷ is) (j ∷ js) p q =
    let head : i ≡ j = one_fetched image at i j p.0.1 q.0.1 in
    let there : Follow image n (at + i.len) js = subst (λ (x : Instr). Follow image n (at + x.len) js) (sym head) q.1 in
    ap (λ x. x ∷ is) head ∙ ap (λ l. j ∷ l) (one_following image n (at + i.len) is js p.1 there)

pub only : (image : Image) (at steps : ℕ) (text : List ℕ) → IsListing image at steps text → IsTheListing image at steps text
only image at steps text is = (is, λ other lists. lists.text_is ∙ ap listing_text (one_following image steps at lists.instrs is.instrs lists.follow is.follow) ∙ sym is.text_is)

-- the text that is ended is that of the list
pub told_none : {E : Type 0} (image : Image) (at steps place count : ℕ) (text : List ℕ) (r : Result (Vec ℕ Global) E) → Told image at steps place count text → ((i : Instr) → (◌≡◌ {A = Option Instr} None (Some i)) ↔ StandsAt image place i)
    → IfOk r (λ whole. whole.items ≡ text ++ (codes "end " ++ (decimal count ++ 10 ∷ []))) → IfOk r (λ whole. IsTheListing image at steps whole.items)
told_none image at steps place count text (Ok whole) told none ended =
    only image at steps whole.items (told_all image at steps place count text whole.items told (inl (λ i stands. let same : ◌≡◌ {A = Option Instr} None (Some i) = (none i).1 stands in absurd (cc))) ended)
told_none image at steps place count text (Err e) told none ended = tt

pub told_full : {E : Type 0} (image : Image) (at steps place count : ℕ) (text : List ℕ) (r : Result (Vec ℕ Global) E) → Told image at steps place count text → steps ≤ count
    → IfOk r (λ whole. whole.items ≡ text ++ (codes "end " ++ (decimal count ++ 10 ∷ []))) → IfOk r (λ whole. IsTheListing image at steps whole.items)
told_full image at steps place count text (Ok whole) told full ended = only image at steps whole.items (told_all image at steps place count text whole.items told (inr full) ended)
told_full image at steps place count text (Err e) told full ended = tt
