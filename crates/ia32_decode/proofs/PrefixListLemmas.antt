-- That stopping early loses nothing: the grammar, which counts prefixes one by one, accepts exactly the lists that go
-- with one another.

use Rattle.std.proofs.Common.{◌≡◌, ℕ, zero, suc, ◌+◌, ◌<◌, ◌≤◌, ◌==◌, Bool, true, false, cond, ◌||◌, ◌&&◌, ◌⊎◌, inl, inr, lit<, List, [], ◌∷◌, ◌++◌, length, refl, sym, ◌∙◌, ap, subst, Option, Some, None, arith}
use Rattle.std.proofs.lemmas.Bool.{eqb-true, and_parts, or_parts, or_right, or_from, true≢false, cond-true, cond-false}
use Rattle.std.proofs.lemmas.List.{append-nil}
use Rattle.std.specs.Prelude.{◌↔◌}
use Rattle.std.specs.List.{filter, list_all}
use Rattle.ia32_types.specs.declared.Op.TheVariants as op
use Rattle.ia32_types.specs.declared.forms.Size.TheVariants as size
use Rattle.ia32_types.specs.declared.forms.Slot.TheVariants as slot
use Rattle.ia32_types.specs.declared.forms.Form.{Form}
use Rattle.ia32_types.specs.declared.forms.Group.{Group}
use Rattle.ia32_types.specs.declared.forms.Group.TheVariants as group
use Rattle.ia32_types.specs.declared.forms.Segment.{Segment}
use Rattle.ia32_types.specs.declared.forms.Segment.TheVariants as segment
use Rattle.ia32_types.specs.declared.forms.Repeat.{Repeat}
use Rattle.ia32_types.specs.declared.forms.Repeat.TheVariants as repeat
use Rattle.ia32_types.specs.declared.forms.Prefixes.{Prefixes}
use Rattle.ia32_types.specs.declared.forms.Parts.{Parts}
use Rattle.ia32_types.specs.Readers.{Reader, bad, more, Accepts}
use Rattle.ia32_types.specs.Forms.{unary, is_gs, reg_field}
use Rattle.ia32_types.specs.Rows.{group_form, string_form}
use Rattle.ia32_types.specs.Prefixes.{no_prefixes, is_prefix, later, unless_lost, next_prefixes}
use Rattle.ia32_types.specs.Spells.{repeated, opened, prefixed, instruction, addressed, is_refused, group_bytes, grouped, grouped_form}
use Rattle.ia32_decode.specs.PrefixLists.{stands, is_last, times, said, ArePrefixes, PrefixesAreAccepted, FifteenAreRefused, PrefixesAloneAreRefused, AcceptsForm, GroupsAreTheirForms}

-- -- What prefixes say after others

abbrev state : Bool → Segment → Repeat → Prefixes
state o s r = record { operand16 = o; segment = s; repeat = r }

abbrev is_cs : Segment → Bool
is_cs segment.Cs = true
is_cs _ = false

abbrev is_ds : Segment → Bool
is_ds segment.Ds = true
is_ds _ = false

abbrev segment_after : Segment → List ℕ → Segment
segment_after s ps =
    cond (is_gs s || stands 0x65 ps) segment.Gs
    (cond (is_cs s || stands 0x2E ps) segment.Cs
    (cond (is_ds s || stands 0x3E ps) segment.Ds
    segment.None))

abbrev repeat_after : Repeat → List ℕ → Repeat
repeat_after r [] = r
repeat_after r (p ∷ ps) = cond (stands 0xF3 (p ∷ ps)) (cond (is_last 0xF3 (p ∷ ps)) repeat.Last repeat.Earlier) (later r)

abbrev after : Bool → Segment → Repeat → List ℕ → Prefixes
after o s r ps = state (o || stands 0x66 ps) (segment_after s ps) (repeat_after r ps)

abbrev times_so_far : Repeat → ℕ
times_so_far repeat.Absent = 0
times_so_far repeat.Last = 1
times_so_far repeat.Earlier = 1

abbrev clash : Segment → List ℕ → Bool
clash s ps = (is_gs s || stands 0x65 ps) && ((is_cs s || stands 0x2E ps) || (is_ds s || stands 0x3E ps))

-- what is accepted where n is how often F3 stands, wrong whether the segments clash, and w is what all say
abbrev IsOpened : ℕ → Bool → Prefixes → ℕ → List ℕ → Parts → Type 0
IsOpened n wrong w b rest x = (n ≤ 1) × (wrong ≡ false) × (b < 256) × Accepts (opened w w.repeat b) rest x

abbrev Opens : Bool → Segment → Repeat → List ℕ → ℕ → List ℕ → Parts → Type 0
Opens o s r ps b rest x = IsOpened (times_so_far r + times 0xF3 ps) (clash s ps) (after o s r ps) b rest x

-- -- Lists in which a byte doesn't stand

none_stands : (b : ℕ) (ps : List ℕ) → times b ps ≡ 0 → stands b ps ≡ false
none_stands b [] e = refl
none_stands b (p ∷ ps) e = by_test (p == b) (none_stands b ps) e
  where
    by_test : (t : Bool) → (times b ps ≡ 0 → stands b ps ≡ false) → length (cond t (p ∷ filter (λ q. q == b) ps) (filter (λ q. q == b) ps)) ≡ 0 → (t || stands b ps) ≡ false
    by_test true h e = absurd (let more : suc (times b ps) ≡ 0 = e in omega arith)
    by_test false h e = h e

none_last : (b : ℕ) (ps : List ℕ) → stands b ps ≡ false → is_last b ps ≡ false
none_last b [] e = refl
none_last b (p ∷ []) e = (or_parts (p == b) false e).0
none_last b (p ∷ q ∷ ps) e = none_last b (q ∷ ps) (or_parts (p == b) (stands b (q ∷ ps)) e).1

-- -- After F3, another prefix and GS nothing comes

earlier_stays : (ps : List ℕ) → times 0xF3 ps ≡ 0 → repeat_after repeat.Earlier ps ≡ repeat.Earlier
earlier_stays [] e = refl
earlier_stays (p ∷ ps) e = cond-false (stands 0xF3 (p ∷ ps)) (cond (is_last 0xF3 (p ∷ ps)) repeat.Last repeat.Earlier) repeat.Earlier (none_stands 0xF3 (p ∷ ps) e)

string_lost : (o : Bool) (r : Repeat) (f : Option Form) (rest : List ℕ) (x : Parts) → Accepts (repeated (state o segment.Gs r) f) rest x → ⊥
string_lost o r None rest x p = p
string_lost o r (Some f) rest x p = p

earlier_lost : (o : Bool) (b : ℕ) (rest : List ℕ) (x : Parts) → Accepts (opened (state o segment.Gs repeat.Earlier) repeat.Earlier b) rest x → ⊥
unfolding opened
earlier_lost o b rest x p = string_lost o repeat.Earlier (string_form true b) rest x p

lost : (o : Bool) (ps : List ℕ) (b : ℕ) (rest : List ℕ) (x : Parts) → Opens o segment.Gs repeat.Earlier ps b rest x → ⊥
lost o ps b rest x h =
    let most : 1 + times 0xF3 ps ≤ 1 = h.0 in
    let none : times 0xF3 ps ≡ 0 = omega arith in
    earlier_lost (o || stands 0x66 ps) b rest x
    (subst (λ r. Accepts (opened (state (o || stands 0x66 ps) segment.Gs r) r b) rest x) (earlier_stays ps none) h.3)

-- -- One prefix more

abbrev next_read : ℕ → Option Prefixes → Reader Parts
next_read n o = elim o [
  | None ↦ bad
  | Some q ↦ prefixed n q
]

-- that a grammar accepts the bytes exactly where the prefixes are as they are to be
abbrev AcceptsAs : Reader Parts → List ℕ → ℕ → Bool → Prefixes → ℕ → List ℕ → Parts → Type 0
AcceptsAs g bytes n wrong w b rest x = Accepts g bytes x ↔ IsOpened n wrong w b rest x

same_as : (g : Reader Parts) (bytes : List ℕ) (n m : ℕ) (wrong never : Bool) (v w : Prefixes) (b : ℕ) (rest : List ℕ) (x : Parts) → n ≡ m → wrong ≡ never → v ≡ w → AcceptsAs g bytes n wrong v b rest x → AcceptsAs g bytes m never w b rest x
same_as g bytes n m wrong never v w b rest x p q e h =
    subst (λ k. AcceptsAs g bytes k never w b rest x) p
    (subst (λ k. AcceptsAs g bytes n k w b rest x) q
    (subst (λ k. AcceptsAs g bytes n wrong k b rest x) e h))

refused : (g : Reader Parts) (bytes : List ℕ) (n : ℕ) (wrong : Bool) (w : Prefixes) (b : ℕ) (rest : List ℕ) (x : Parts) → (Accepts g bytes x → ⊥) → (IsOpened n wrong w b rest x → ⊥) → AcceptsAs g bytes n wrong w b rest x
refused g bytes n wrong w b rest x p q = (λ h. absurd (p h), λ h. absurd (q h))

later_later : (r : Repeat) → later (later r) ≡ later r
later_later repeat.Absent = refl
later_later repeat.Last = refl
later_later repeat.Earlier = refl

later_times : (r : Repeat) → times_so_far (later r) ≡ times_so_far r
later_times repeat.Absent = refl
later_times repeat.Last = refl
later_times repeat.Earlier = refl

later_after : (r : Repeat) (h : ℕ) (ps : List ℕ) → (h == 0xF3) ≡ false → repeat_after (later r) ps ≡ repeat_after r (h ∷ ps)
later_after r h [] e = sym (cond-false ((h == 0xF3) || false) (cond (h == 0xF3) repeat.Last repeat.Earlier) (later r) (or_from (h == 0xF3) false e refl))
later_after r h (p ∷ ps) e =
    ap (λ t. cond (stands 0xF3 (p ∷ ps)) (cond (is_last 0xF3 (p ∷ ps)) repeat.Last repeat.Earlier) t) (later_later r)
    ∙ ap (λ t. cond (t || stands 0xF3 (p ∷ ps)) (cond (is_last 0xF3 (p ∷ ps)) repeat.Last repeat.Earlier) (later r)) (sym e)

last_after : (ps : List ℕ) → repeat_after repeat.Last ps ≡ repeat_after repeat.Absent (0xF3 ∷ ps)
last_after [] = refl
last_after (p ∷ ps) = by_tests (stands 0xF3 (p ∷ ps)) (is_last 0xF3 (p ∷ ps)) (none_last 0xF3 (p ∷ ps))
  where
    by_tests : (a c : Bool) → (a ≡ false → c ≡ false) → cond a (cond c repeat.Last repeat.Earlier) repeat.Earlier ≡ cond c repeat.Last repeat.Earlier
    by_tests true c h = refl
    by_tests false c h = ap (λ t. cond t repeat.Last repeat.Earlier) (sym (h refl))

-- where nothing can follow, nothing would be accepted either
not_lost : (n : ℕ) (o : Bool) (s : Segment) (r : Repeat) (bytes ps : List ℕ) (b : ℕ) (rest : List ℕ) (x : Parts) → Accepts (prefixed n (state o s r)) bytes x ↔ Opens o s r ps b rest x → Accepts (next_read n (unless_lost (state o s r))) bytes x ↔ Opens o s r ps b rest x
not_lost n o s repeat.Absent bytes ps b rest x h = h
not_lost n o s repeat.Last bytes ps b rest x h = h
not_lost n o segment.None repeat.Earlier bytes ps b rest x h = h
not_lost n o segment.Cs repeat.Earlier bytes ps b rest x h = h
not_lost n o segment.Ds repeat.Earlier bytes ps b rest x h = h
not_lost n o segment.Gs repeat.Earlier bytes ps b rest x h = (λ p. absurd p, λ p. absurd (lost o ps b rest x p))

-- the grammar after one prefix more is right, from any state
abbrev GoesOn : ℕ → List ℕ → List ℕ → ℕ → List ℕ → Parts → Type 0
GoesOn n bytes ps b rest x = (o : Bool) (s : Segment) (r : Repeat) → Accepts (prefixed n (state o s r)) bytes x ↔ Opens o s r ps b rest x

abbrev Goes : ℕ → Option Prefixes → List ℕ → Bool → Segment → Repeat → ℕ → List ℕ → ℕ → List ℕ → Parts → Type 0
Goes n q bytes o s r h ps b rest x = Accepts (next_read n q) bytes x ↔ Opens o s r (h ∷ ps) b rest x

after_66 : (n : ℕ) (o : Bool) (s : Segment) (r : Repeat) (bytes ps : List ℕ) (b : ℕ) (rest : List ℕ) (x : Parts) → GoesOn n bytes ps b rest x → Goes n (next_prefixes (state o s r) 0x66) bytes o s r 0x66 ps b rest x
unfolding next_prefixes
after_66 n o s r bytes ps b rest x h =
    same_as (next_read n (unless_lost (state true s (later r)))) bytes _ _ _ _ _ _ b rest x
    (ap (λ t. t + times 0xF3 ps) (later_times r)) refl
    (ap (λ t. state t (segment_after s ps) (repeat_after (later r) ps)) (sym (or_right o (true || stands 0x66 ps) refl)) ∙ ap (λ t. state (o || true) (segment_after s ps) t) (later_after r 0x66 ps refl))
    (not_lost n true s (later r) bytes ps b rest x (h true s (later r)))

after_segment : (n h : ℕ) (o : Bool) (s t : Segment) (r : Repeat) (bytes ps : List ℕ) (b : ℕ) (rest : List ℕ) (x : Parts) → (h == 0xF3) ≡ false → (h == 0x66) ≡ false → clash t ps ≡ clash s (h ∷ ps) → segment_after t ps ≡ segment_after s (h ∷ ps) → GoesOn n bytes ps b rest x → Goes n (unless_lost (state o t (later r))) bytes o s r h ps b rest x
after_segment n h o s t r bytes ps b rest x once wide clashes segments g =
    same_as (next_read n (unless_lost (state o t (later r)))) bytes _ _ _ _ _ _ b rest x
    (ap (λ k. k + times 0xF3 ps) (later_times r) ∙ ap (λ k. times_so_far r + length k) (sym (cond-false (h == 0xF3) (h ∷ filter (λ p. p == 0xF3) ps) (filter (λ p. p == 0xF3) ps) once)))
    clashes
    (ap (λ k. state (o || k) (segment_after t ps) (repeat_after (later r) ps)) (sym (ap (λ k. k || stands 0x66 ps) wide))
    ∙ ap (λ k. state (o || stands 0x66 (h ∷ ps)) k (repeat_after (later r) ps)) segments
    ∙ ap (λ k. state (o || stands 0x66 (h ∷ ps)) (segment_after s (h ∷ ps)) k) (later_after r h ps once))
    (not_lost n o t (later r) bytes ps b rest x (g o t (later r)))

after_65 : (n : ℕ) (o : Bool) (s : Segment) (r : Repeat) (bytes ps : List ℕ) (b : ℕ) (rest : List ℕ) (x : Parts) → GoesOn n bytes ps b rest x → Goes n (next_prefixes (state o s r) 0x65) bytes o s r 0x65 ps b rest x
unfolding next_prefixes
after_65 n o segment.None r bytes ps b rest x g = after_segment n 0x65 o segment.None segment.Gs r bytes ps b rest x refl refl refl refl g
after_65 n o segment.Cs r bytes ps b rest x g = (λ p. absurd p, λ p. absurd (true≢false p.1))
after_65 n o segment.Ds r bytes ps b rest x g = (λ p. absurd p, λ p. absurd (true≢false (sym (or_right (stands 0x2E ps) true refl) ∙ p.1)))
after_65 n o segment.Gs r bytes ps b rest x g = after_segment n 0x65 o segment.Gs segment.Gs r bytes ps b rest x refl refl refl refl g

after_2e : (n : ℕ) (o : Bool) (s : Segment) (r : Repeat) (bytes ps : List ℕ) (b : ℕ) (rest : List ℕ) (x : Parts) → GoesOn n bytes ps b rest x → Goes n (next_prefixes (state o s r) 0x2E) bytes o s r 0x2E ps b rest x
unfolding next_prefixes
after_2e n o segment.None r bytes ps b rest x g = after_segment n 0x2E o segment.None segment.Cs r bytes ps b rest x refl refl refl refl g
after_2e n o segment.Cs r bytes ps b rest x g = after_segment n 0x2E o segment.Cs segment.Cs r bytes ps b rest x refl refl refl refl g
after_2e n o segment.Ds r bytes ps b rest x g = after_segment n 0x2E o segment.Ds segment.Cs r bytes ps b rest x refl refl refl refl g
after_2e n o segment.Gs r bytes ps b rest x g = (λ p. absurd p, λ p. absurd (true≢false p.1))

after_3e : (n : ℕ) (o : Bool) (s : Segment) (r : Repeat) (bytes ps : List ℕ) (b : ℕ) (rest : List ℕ) (x : Parts) → GoesOn n bytes ps b rest x → Goes n (next_prefixes (state o s r) 0x3E) bytes o s r 0x3E ps b rest x
unfolding next_prefixes
after_3e n o segment.None r bytes ps b rest x g = after_segment n 0x3E o segment.None segment.Ds r bytes ps b rest x refl refl refl refl g
after_3e n o segment.Cs r bytes ps b rest x g = after_segment n 0x3E o segment.Cs segment.Cs r bytes ps b rest x refl refl refl refl g
after_3e n o segment.Ds r bytes ps b rest x g = after_segment n 0x3E o segment.Ds segment.Ds r bytes ps b rest x refl refl refl refl g
after_3e n o segment.Gs r bytes ps b rest x g = (λ p. absurd p, λ p. absurd (true≢false (sym (or_right (stands 0x2E ps) true refl) ∙ p.1)))

after_f3 : (n : ℕ) (o : Bool) (s : Segment) (r : Repeat) (bytes ps : List ℕ) (b : ℕ) (rest : List ℕ) (x : Parts) → GoesOn n bytes ps b rest x → Goes n (next_prefixes (state o s r) 0xF3) bytes o s r 0xF3 ps b rest x
unfolding next_prefixes
after_f3 n o s repeat.Absent bytes ps b rest x g =
    same_as (prefixed n (state o s repeat.Last)) bytes _ _ _ _ _ _ b rest x once refl
    (ap (λ k. state (o || stands 0x66 ps) (segment_after s ps) k) (last_after ps)) (g o s repeat.Last)
  where
    once : 1 + times 0xF3 ps ≡ 0 + suc (times 0xF3 ps)
    once = omega arith
after_f3 n o s repeat.Last bytes ps b rest x g = (λ p. absurd p, λ p. let most : 1 + suc (times 0xF3 ps) ≤ 1 = p.0 in omega arith)
after_f3 n o s repeat.Earlier bytes ps b rest x g = (λ p. absurd p, λ p. let most : 1 + suc (times 0xF3 ps) ≤ 1 = p.0 in omega arith)

each_prefix : (P : ℕ → Type 0) (h : ℕ) → is_prefix h ≡ true → P 0x66 → P 0x65 → P 0x2E → P 0x3E → P 0xF3 → P h
each_prefix P h e a b c d f =
    by_test (h == 0x66) (h == 0x65) (h == 0x2E) (h == 0x3E) (h == 0xF3) e
    (λ t. subst P (sym (eqb-true h 0x66 t)) a)
    (λ t. subst P (sym (eqb-true h 0x65 t)) b)
    (λ t. subst P (sym (eqb-true h 0x2E t)) c)
    (λ t. subst P (sym (eqb-true h 0x3E t)) d)
    (λ t. subst P (sym (eqb-true h 0xF3 t)) f)
  where
    by_test : (p q r s t : Bool) → ((((p || q) || r) || s) || t) ≡ true → (p ≡ true → P h) → (q ≡ true → P h) → (r ≡ true → P h) → (s ≡ true → P h) → (t ≡ true → P h) → P h
    by_test true q r s t e a b c d f = a refl
    by_test false true r s t e a b c d f = b refl
    by_test false false true s t e a b c d f = c refl
    by_test false false false true t e a b c d f = d refl
    by_test false false false false t e a b c d f = f e

-- -- Lists

nothing_more : (o : Bool) (s : Segment) (r : Repeat) → after o s r [] ≡ state o s r
nothing_more o s r = ap (λ k. state k (segment_after s []) r) (or_false o) ∙ ap (λ k. state o k r) (same_segment s)
  where
    or_false : (b : Bool) → (b || false) ≡ b
    or_false true = refl
    or_false false = refl

    same_segment : (s : Segment) → segment_after s [] ≡ s
    same_segment segment.None = refl
    same_segment segment.Cs = refl
    same_segment segment.Ds = refl
    same_segment segment.Gs = refl

no_clash : (s : Segment) → clash s [] ≡ false
no_clash segment.None = refl
no_clash segment.Cs = refl
no_clash segment.Ds = refl
no_clash segment.Gs = refl

at_most_once : (r : Repeat) → times_so_far r + times 0xF3 [] ≤ 1
at_most_once repeat.Absent = omega arith
at_most_once repeat.Last = omega arith
at_most_once repeat.Earlier = omega arith

none_left : (n : ℕ) (o : Bool) (s : Segment) (r : Repeat) (b : ℕ) (rest : List ℕ) (x : Parts) → is_prefix b ≡ false → Accepts (prefixed (suc n) (state o s r)) (b ∷ rest) x ↔ Opens o s r [] b rest x
unfolding prefixed
none_left n o s r b rest x wrong =
    let here : Reader Parts = opened (state o s r) r b in
    let there : Reader Parts = next_read n (next_prefixes (state o s r) b) in
    let same : cond (is_prefix b) there here ≡ here = cond-false (is_prefix b) there here wrong in (
      λ p. (at_most_once r, no_clash s, p.0, subst (λ w. Accepts (opened w w.repeat b) rest x) (sym (nothing_more o s r)) (subst (λ g. Accepts g rest x) same p.1)),
      λ p. (p.2, subst (λ g. Accepts g rest x) (sym same) (subst (λ w. Accepts (opened w w.repeat b) rest x) (nothing_more o s r) p.3)),
    )

one_more : (n : ℕ) (o : Bool) (s : Segment) (r : Repeat) (h : ℕ) (bytes ps : List ℕ) (b : ℕ) (rest : List ℕ) (x : Parts) → is_prefix h ≡ true → GoesOn n bytes ps b rest x → Accepts (prefixed (suc n) (state o s r)) (h ∷ bytes) x ↔ Opens o s r (h ∷ ps) b rest x
unfolding prefixed
one_more n o s r h bytes ps b rest x is g =
    let here : Reader Parts = opened (state o s r) r h in
    let there : Reader Parts = next_read n (next_prefixes (state o s r) h) in
    let same : cond (is_prefix h) there here ≡ there = cond-true (is_prefix h) there here is in
    let below : h < 256 = each_prefix (λ k. k < 256) h is (lit< tt) (lit< tt) (lit< tt) (lit< tt) (lit< tt) in
    let goes : Goes n (next_prefixes (state o s r) h) bytes o s r h ps b rest x =
    each_prefix (λ k. Goes n (next_prefixes (state o s r) k) bytes o s r k ps b rest x) h is
    (after_66 n o s r bytes ps b rest x g) (after_65 n o s r bytes ps b rest x g) (after_2e n o s r bytes ps b rest x g)
    (after_3e n o s r bytes ps b rest x g) (after_f3 n o s r bytes ps b rest x g)
    in (λ p. goes.0 (subst (λ k. Accepts k bytes x) same p.1), λ p. (below, subst (λ k. Accepts k bytes x) (sym same) (goes.1 p)))

from_state : (n : ℕ) (ps : List ℕ) (b : ℕ) (rest : List ℕ) (x : Parts) → ArePrefixes ps → is_prefix b ≡ false → length ps < n → GoesOn n (ps ++ b ∷ rest) ps b rest x
from_state zero ps b rest x are wrong lt o s r = absurd (omega arith)
from_state (suc n) [] b rest x are wrong lt o s r = none_left n o s r b rest x wrong
from_state (suc n) (h ∷ ps) b rest x are wrong lt o s r =
    let both = and_parts (is_prefix h) (list_all is_prefix ps) are in
    one_more n o s r h (ps ++ b ∷ rest) ps b rest x both.0 (from_state n ps b rest x both.1 wrong (omega arith))

said_is : (ps : List ℕ) → after false segment.None repeat.Absent ps ≡ said ps
said_is [] = refl
said_is (p ∷ ps) = refl

pub prefixes_are_accepted : PrefixesAreAccepted
unfolding instruction
prefixes_are_accepted ps b rest x are wrong lt =
    let both = from_state 15 ps b rest x are wrong lt false segment.None repeat.Absent in (
      λ p. let q = both.0 p in let few : 0 + times 0xF3 ps ≤ 1 = q.0 in (record { once = omega arith; alone = q.1 }, q.2, subst (λ w. Accepts (opened w w.repeat b) rest x) (said_is ps) q.3),
      λ q. let few : times 0xF3 ps ≤ 1 = q.0.once in both.1 (omega arith, q.0.alone, q.1, subst (λ w. Accepts (opened w w.repeat b) rest x) (sym (said_is ps)) q.2),
    )

-- no bytes are accepted where prefixes use up the room, or nothing follows them
stuck : (n : ℕ) (ps rest : List ℕ) (p : Prefixes) (x : Parts) → ArePrefixes ps → (n ≤ length ps) ⊎ (rest ≡ []) → Accepts (prefixed n p) (ps ++ rest) x → ⊥
unfolding prefixed
stuck zero ps rest p x are or a = a
stuck (suc n) [] rest p x are (inl few) a = omega arith
stuck (suc n) [] rest p x are (inr none) a = subst (λ k. Accepts (prefixed (suc n) p) k x) none a
stuck (suc n) (h ∷ ps) rest p x are or a =
    let both = and_parts (is_prefix h) (list_all is_prefix ps) are in
    let there : Reader Parts = next_read n (next_prefixes p h) in
    let same : cond (is_prefix h) there (opened p p.repeat h) ≡ there = cond-true (is_prefix h) there (opened p p.repeat h) both.0 in
    after_next (next_prefixes p h) (λ q. stuck n ps rest q x both.1 (fewer or)) (subst (λ k. Accepts k (ps ++ rest) x) same a.1)
  where
    fewer : (suc n ≤ length (h ∷ ps)) ⊎ (rest ≡ []) → (n ≤ length ps) ⊎ (rest ≡ [])
    fewer (inl few) = inl (omega arith)
    fewer (inr none) = inr none

    after_next : (o : Option Prefixes) → ((q : Prefixes) → Accepts (prefixed n q) (ps ++ rest) x → ⊥) → Accepts (next_read n o) (ps ++ rest) x → ⊥
    after_next None g a = a
    after_next (Some q) g a = g q a

pub fifteen_are_refused : FifteenAreRefused
unfolding instruction
fifteen_are_refused ps rest x are many = stuck 15 ps rest no_prefixes x are (inl many)

pub prefixes_alone_are_refused : PrefixesAloneAreRefused
unfolding instruction
prefixes_alone_are_refused ps x are a = stuck 15 ps [] no_prefixes x are (inr refl) (subst (λ k. Accepts instruction k x) (sym (append-nil ps)) a)

-- -- Groups

-- where 66 goes with no form of a group, none of them accepts anything
pop_lost : (p : Prefixes) (modrm : ℕ) (rest : List ℕ) (x : Parts) → p.operand16 ≡ true → Accepts (grouped_form p modrm (group_form group.Pop (reg_field modrm))) rest x → ⊥
unfolding group_form
pop_lost p modrm rest x wide a = by_test (reg_field modrm == 0) a
  where
    pop : Form
    pop = unary op.Pop size.Dword slot.RegMem

    is_lost : cond (is_refused p pop) bad (addressed p pop modrm) ≡ bad
    is_lost = ap (λ t. cond (t && true || false) bad (addressed p pop modrm)) wide

    by_test : (t : Bool) → Accepts (grouped_form p modrm (cond t (Some pop) None)) rest x → ⊥
    by_test true a = subst (λ r. Accepts r rest x) is_lost a
    by_test false a = a

abbrev group_reader : Prefixes → Group → ℕ → Reader Parts
group_reader p g m = more m (λ modrm. grouped_form p modrm (group_form g (reg_field modrm)))

-- without the test
accepts_form : (p : Prefixes) (g : Group) (m : ℕ) (bytes : List ℕ) (x : Parts) → Accepts (group_reader p g m) bytes x ↔ AcceptsForm p g bytes x
accepts_form p g m [] x = (λ a. absurd a, λ a. absurd (nil_or_more a.split))
  where
    nil_or_more : {b : ℕ} {bs : List ℕ} → (let empty : List ℕ = [] in empty ≡ b ∷ bs) → ⊥
    nil_or_more e = cc
accepts_form p g m (b ∷ bytes) x = (
  λ a. record { modrm = b; rest = bytes; split = refl; below = a.0; accepted = a.1 },
  λ a. subst (λ k. Accepts (group_reader p g m) k x) (sym a.split) (a.below, a.accepted),
)

pub groups_are_their_forms : GroupsAreTheirForms
unfolding grouped
groups_are_their_forms p group.Pop bytes x = by_test p.operand16 refl
  where
    by_test : (t : Bool) → p.operand16 ≡ t → Accepts (cond t bad (group_reader p group.Pop 1)) bytes x ↔ AcceptsForm p group.Pop bytes x
    by_test true wide = (λ a. absurd a, λ a. absurd (pop_lost p a.modrm a.rest x wide a.accepted))
    by_test false plain = accepts_form p group.Pop 1 bytes x
groups_are_their_forms p g bytes x = accepts_form p g (1 + group_bytes p g) bytes x
