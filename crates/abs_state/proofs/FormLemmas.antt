-- Joins and widenings keep the one form of intervals, and that procedures rise.
use Rattle.std.proofs.Common.{◌≡◌, ◌<◌, ◌≤◌, ◌==◌, ℕ, Bool, true, false, cond, ◌&&◌, not, List, [], ◌∷◌, ◌++◌, map, refl, sym, ◌∙◌, ap, subst, ⊎_elim, arith}
use Rattle.std.proofs.lemmas.Bool.{cond_both, cases_Bool, ltb-true, ltb-false, lt-ltb, eqb-true, eq-eqb, true≢false}
use Rattle.std.specs.Prelude.{nat_lt}
use Rattle.image_map.specs.declared.region.Cell.{Cell}
use Rattle.strided.specs.Interval.{IsCanonical}
use Rattle.strided.proofs.JoinLemmas.{join_canonical, widen_canonical}
use Rattle.vset.specs.declared.part.Both.{Both}
use Rattle.vset.specs.declared.part.Both.TheVariants.{Joined, Widened}
use Rattle.vset.specs.Values.{Values, Top, Parts, CanonicalValues}
use Rattle.vset.specs.Operations.{join, widen, with_parts}
use Rattle.vset.proofs.MemberLemmas.{with_canonical}
use Rattle.abs_alu.proofs.CanonicalLemmas.{settled_canonical}
use Rattle.abs_semantics.specs.declared.parts.Link.{Link}
use Rattle.abs_semantics.specs.States.{AbsState, HasCanonical, LinksAreCanonical, value_at, has_region}
use Rattle.abs_semantics.specs.Joins.{held_by, joined_value, widened_value, with_number, numbers_of, same_link, link_before, offsets_of, with_link, links_of, widened_link, joined_state, widened_state}
use Rattle.abs_semantics.proofs.CellLemmas.{value_canonical}
use Rattle.abs_semantics.proofs.FormLemmas.{rebuilt_form, held_form}
use Rattle.abs_semantics.proofs.ReadLemmas.{join_form}
use Rattle.abs_state.specs.Laws.{IsBeforeAll, Rise, number_before, JoinsKeepForm, WideningsKeepForm, JoinsKeepRising}

-- -- Values

widen_form : (v w : Values) → CanonicalValues v → CanonicalValues w → CanonicalValues (widen v w)
unfolding widen
widen_form Top w form_v form_w = tt
widen_form (Parts xs) Top form_v form_w = tt
widen_form (Parts xs) (Parts ys) form_v form_w = settled_canonical (with_parts Widened ys xs) (with_canonical Widened ys xs form_w form_v)

-- -- Links

offsets_form : (both : Both) (l m : Link) → IsCanonical l.off → IsCanonical m.off → IsCanonical (offsets_of both l m).off
offsets_form Joined l m p q = join_canonical l.off m.off p q
offsets_form Widened l m p q = widen_canonical l.off m.off p

with_link_form : (l : Link) (ms : List Link) → IsCanonical l.off → LinksAreCanonical ms → LinksAreCanonical (with_link l ms)
with_link_form l [] form forms = (form, tt)
with_link_form l (m ∷ ms) form forms =
    cond_both (same_link m l) (offsets_of Joined m l ∷ ms) (cond (link_before m l) (m ∷ with_link l ms) (l ∷ m ∷ ms)) LinksAreCanonical (λ _. (offsets_form Joined m l forms.0 form, forms.1))
    (λ _. cond_both (link_before m l) (m ∷ with_link l ms) (l ∷ m ∷ ms) LinksAreCanonical (λ _. (forms.0, with_link_form l ms form forms.1)) (λ _. (form, forms)))

links_form : (ls ms : List Link) → LinksAreCanonical ls → LinksAreCanonical ms → LinksAreCanonical (links_of ls ms)
unfolding links_of
links_form [] ms forms more = more
links_form (l ∷ ls) ms forms more = with_link_form l (links_of ls ms) forms.0 (links_form ls ms forms.1 more)

widened_link_form : (ms : List Link) (l : Link) → LinksAreCanonical ms → IsCanonical l.off → IsCanonical (widened_link ms l).off
widened_link_form [] l forms form = form
widened_link_form (m ∷ ms) l forms form =
    cond_both (same_link m l) (offsets_of Widened m l) (widened_link ms l) (λ (k : Link). IsCanonical k.off) (λ _. offsets_form Widened m l forms.0 form) (λ _. widened_link_form ms l forms.1 form)

widened_links_form : (ms ls : List Link) → LinksAreCanonical ms → LinksAreCanonical ls → LinksAreCanonical (map (widened_link ms) ls)
widened_links_form ms [] old forms = tt
widened_links_form ms (l ∷ ls) old forms = (widened_link_form ms l old forms.0, widened_links_form ms ls old forms.1)

-- -- States

module _ (a b : AbsState) (form_a : HasCanonical a) (form_b : HasCanonical b) where
  first : (c : Cell) → CanonicalValues (value_at a c)
  first c = value_canonical c a.cells form_a.cells

  second : (c : Cell) → CanonicalValues (value_at b c)
  second c = value_canonical c b.cells form_b.cells

  joined_value_form : (c : Cell) → CanonicalValues (joined_value a b c)
  joined_value_form c =
      cond_both (has_region a c.region && not (has_region b c.region)) (value_at a c) (cond (has_region b c.region && not (has_region a c.region)) (value_at b c) (held_by c (join (value_at a c) (value_at b c)))) CanonicalValues (λ _. first c)
      (λ _. cond_both (has_region b c.region && not (has_region a c.region)) (value_at b c) (held_by c (join (value_at a c) (value_at b c))) CanonicalValues (λ _. second c)
      (λ _. held_form c (join (value_at a c) (value_at b c)) (join_form (value_at a c) (value_at b c) (first c) (second c))))

  widened_value_form : (c : Cell) → CanonicalValues (widened_value a b c)
  widened_value_form c =
      cond_both (has_region a c.region) (held_by c (widen (value_at a c) (value_at b c))) (value_at b c) CanonicalValues (λ _. held_form c (widen (value_at a c) (value_at b c)) (widen_form (value_at a c) (value_at b c) (first c) (second c))) (λ _. second c)

  joined_form : HasCanonical (joined_state a b)
  joined_form =
      record {
        registers = λ n. join_form (a.registers n) (b.registers n) (form_a.registers n) (form_b.registers n);
        cells = rebuilt_form (joined_value a b) (a.cells ++ b.cells) joined_value_form;
        links = links_form b.links a.links form_b.links form_a.links;
      }

  widened_form : HasCanonical (widened_state a b)
  widened_form =
      record {
        registers = λ n. widen_form (a.registers n) (b.registers n) (form_a.registers n) (form_b.registers n);
        cells = rebuilt_form (widened_value a b) (a.cells ++ b.cells) widened_value_form;
        links = widened_links_form a.links b.links form_a.links form_b.links;
      }

pub joins_keep_form : JoinsKeepForm
joins_keep_form a b form_a form_b = joined_form a b form_a form_b

pub widenings_keep_form : WideningsKeepForm
widenings_keep_form old new form_old form_new = widened_form old new form_old form_new

-- -- Procedures

before_next : (m n : ℕ) (xs : List ℕ) → nat_lt m n ≡ true → IsBeforeAll number_before n xs → IsBeforeAll number_before m xs
before_next m n [] lt rest = tt
before_next m n (x ∷ xs) lt rest =
    let first = ltb-true m n lt in
    let second = ltb-true n x rest.0 in
    (lt-ltb m x (omega (arith, first, second)), before_next m n xs lt rest.1)

before_with : (m n : ℕ) (xs : List ℕ) → nat_lt m n ≡ true → IsBeforeAll number_before m xs → IsBeforeAll number_before m (with_number n xs)
before_with m n [] lt rest = (lt, tt)
before_with m n (x ∷ xs) lt rest =
    cond_both (x == n) (x ∷ xs) (cond (nat_lt x n) (x ∷ with_number n xs) (n ∷ x ∷ xs)) (IsBeforeAll number_before m) (λ _. rest)
    (λ _. cond_both (nat_lt x n) (x ∷ with_number n xs) (n ∷ x ∷ xs) (IsBeforeAll number_before m) (λ _. (rest.0, before_with m n xs lt rest.1)) (λ _. (lt, rest)))

above_other : (x n : ℕ) → (x == n) ≡ false → nat_lt x n ≡ false → nat_lt n x ≡ true
above_other x n apart not-below = by_test (nat_lt n x) refl
  where
    by_test : (t : Bool) → nat_lt n x ≡ t → t ≡ true
    by_test true e = refl
    by_test false e =
        let low = ltb-false x n not-below in
        let high = ltb-false n x e in
        let same : x ≡ n = omega (arith, low, high) in
        absurd (true≢false (sym (eq-eqb x n same) ∙ apart))

with_rises : (n : ℕ) (xs : List ℕ) → Rise number_before xs → Rise number_before (with_number n xs)
with_rises n [] rise = (tt, tt)
with_rises n (x ∷ xs) rise =
    cond_both (x == n) (x ∷ xs) (cond (nat_lt x n) (x ∷ with_number n xs) (n ∷ x ∷ xs)) (Rise number_before) (λ _. rise)
    (λ apart. cond_both (nat_lt x n) (x ∷ with_number n xs) (n ∷ x ∷ xs) (Rise number_before) (λ lt. (before_with x n xs lt rise.0, with_rises n xs rise.1))
    (λ not-below. let lt = above_other x n apart not-below in ((lt, before_next n x xs lt rise.0), rise)))

numbers_rise : (ns xs : List ℕ) → Rise number_before xs → Rise number_before (numbers_of ns xs)
unfolding numbers_of
numbers_rise [] xs rise = rise
numbers_rise (n ∷ ns) xs rise = with_rises n (numbers_of ns xs) (numbers_rise ns xs rise)

pub joins_keep_rising : JoinsKeepRising
joins_keep_rising a b live older = (numbers_rise b.live a.live live, numbers_rise b.older a.older older)
