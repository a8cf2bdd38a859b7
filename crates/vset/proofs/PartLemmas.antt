-- Putting parts among parts, step by step.

use Rattle.std.proofs.Common.{◌≡◌, ℕ, zero, suc, ◌+◌, ◌<◌, ◌≤◌, Bool, true, false, ◌||◌, List, [], ◌∷◌, ◌++◌, length, take, drop, get_or, refl, sym, ◌∙◌, ap, subst, append_assoc, arith}
use Rattle.std.proofs.lemmas.List.{take_more, drop_more, drop_all}
use Rattle.std.specs.List.{list_any}
use Rattle.std.proofs.lemmas.Bool.{cond-true, or_left}
use Rattle.image_map.specs.declared.region.RegionId.{RegionId}
use Rattle.image_map.specs.Regions.{region_before}
use Rattle.strided.specs.Interval.{IsCanonical}
use Rattle.vset.specs.declared.part.Part.{Part}
use Rattle.vset.specs.declared.part.Both.{Both}
use Rattle.vset.specs.Values.{IsFrom, AreCanonical}
use Rattle.vset.specs.Operations.{with_part, with_parts}

-- -- One part

passed_one : (both : Both) (p x : Part) (xs : List Part) → region_before x.region p.region ≡ true → with_part both p (x ∷ xs) ≡ x ∷ with_part both p xs
unfolding with_part
passed_one both p x xs e = cond-true (region_before x.region p.region) _ _ e

-- a part is passed whose region stands before
pub passed_more : (both : Both) (p : Part) (ps : List Part) (i : ℕ) (d : Part) → i < length ps → region_before (get_or ps i d).region p.region ≡ true → with_part both p ps ≡ take i ps ++ with_part both p (drop i ps) → with_part both p ps ≡ take (i + 1) ps ++ with_part both p (drop (i + 1) ps)
passed_more both p ps i d lt before e =
    let x : Part = get_or ps i d in
    let rest : List Part = drop (i + 1) ps in
    e
    ∙ ap (λ t. take i ps ++ with_part both p t) (drop_more ps i d lt)
    ∙ ap (λ t. take i ps ++ t) (passed_one both p x rest before)
    ∙ sym (append_assoc (take i ps) (x ∷ []) (with_part both p rest))
    ∙ ap (λ t. t ++ with_part both p rest) (sym (take_more ps i d lt))

pub from_here : (region : RegionId) (ps : List Part) (i : ℕ) (d : Part) → i < length ps → region_before (get_or ps i d).region region ≡ false → IsFrom region (drop i ps)
from_here region ps i d lt e = subst (IsFrom region) (sym (drop_more ps i d lt)) e

pub from_none : (region : RegionId) (ps : List Part) → IsFrom region (drop (length ps) ps)
from_none region [] = tt
from_none region (p ∷ ps) = from_none region ps

-- -- More parts

pub with_more : (both : Both) (ps into : List Part) (i : ℕ) (d : Part) → i < length ps → with_parts both (drop i ps) into ≡ with_parts both (drop (i + 1) ps) (with_part both (get_or ps i d) into)
unfolding with_parts
with_more both ps into i d lt = ap (λ t. with_parts both t into) (drop_more ps i d lt)

-- a step of the loop that puts parts, where items is the list that was lent
pub with_step : (both : Both) (ps whole : List Part) (i : ℕ) (x : Part) (items out next : List Part) → i < length ps → x ≡ get_or ps i x → items ≡ out → next ≡ with_part both x items → with_parts both (drop i ps) out ≡ whole → with_parts both (drop (i + 1) ps) next ≡ whole
with_step both ps whole i x items out next lt is lent put e =
    ap (λ t. with_parts both (drop (i + 1) ps) t) (put ∙ ap (with_part both x) lent ∙ ap (λ (v : Part). with_part both v out) is)
    ∙ sym (with_more both ps out i x lt)
    ∙ e

pub with_all : (both : Both) (ps : List Part) (i : ℕ) (out whole : List Part) → length ps ≤ i → with_parts both (drop i ps) out ≡ whole → out ≡ whole
unfolding with_parts
with_all both ps i out whole h e = ap (λ t. with_parts both t out) (sym (drop_all i ps h)) ∙ e

-- -- Intervals of the one form

canonical_and : (ps : List Part) (x : Part) → AreCanonical ps → IsCanonical x.si → AreCanonical (ps ++ (x ∷ []))
canonical_and [] x cs c = (c, tt)
canonical_and (p ∷ ps) x cs c = (cs.0, canonical_and ps x cs.1 c)

pub canonical_more : (ps : List Part) (i : ℕ) (x : Part) → i < length ps → x ≡ get_or ps i x → AreCanonical (take i ps) → IsCanonical x.si → AreCanonical (take (i + 1) ps)
canonical_more ps i x lt is cs c =
    subst AreCanonical (sym (take_more ps i x lt)) (subst (λ (v : Part). AreCanonical (take i ps ++ (v ∷ []))) is (canonical_and (take i ps) x cs c))

taken_all : (ps : List Part) (i : ℕ) → length ps ≤ i → take i ps ≡ ps
taken_all [] zero h = refl
taken_all [] (suc i) h = refl
taken_all (p ∷ ps) zero h = absurd (omega arith)
taken_all (p ∷ ps) (suc i) h = ap (λ t. p ∷ t) (taken_all ps i (omega arith))

pub canonical_all : (ps : List Part) (i : ℕ) → length ps ≤ i → AreCanonical (take i ps) → AreCanonical ps
canonical_all ps i h cs = subst AreCanonical (taken_all ps i h) cs

-- a test that some element passes, step by step
pub any_here : {A : Type 0} (t : A → Bool) (xs : List A) (i : ℕ) (x : A) (whole : Bool) → i < length xs → x ≡ get_or xs i x → t x ≡ true → list_any t (drop i xs) ≡ whole → true ≡ whole
any_here t xs i x whole lt is passes e =
    let here : t (get_or xs i x) ≡ true = ap t (sym is) ∙ passes in
    sym (or_left (t (get_or xs i x)) (list_any t (drop (i + 1) xs)) here) ∙ ap (list_any t) (sym (drop_more xs i x lt)) ∙ e

pub any_later : {A : Type 0} (t : A → Bool) (xs : List A) (i : ℕ) (x : A) (whole : Bool) → i < length xs → x ≡ get_or xs i x → t x ≡ false → list_any t (drop i xs) ≡ whole → list_any t (drop (i + 1) xs) ≡ whole
any_later t xs i x whole lt is fails e =
    let here : t (get_or xs i x) ≡ false = ap t (sym is) ∙ fails in
    ap (λ b. b || list_any t (drop (i + 1) xs)) (sym here) ∙ ap (list_any t) (sym (drop_more xs i x lt)) ∙ e
