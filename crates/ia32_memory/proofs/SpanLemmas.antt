-- The spans of what is mapped.
use Rattle.std.proofs.Common.{◌≡◌, ℕ, ◌+◌, ◌-◌, ◌<◌, ◌^◌, List, [], ◌∷◌, ◌++◌, length, take, get_or, refl, sym, ap, ◌∙◌, arith}
use Rattle.std.specs.Prelude.{Bool, true, false, cond, ◌&&◌, ◌||◌, nat_lt, Option, is_some, slice_get, map}
use Rattle.std.proofs.lemmas.Bool.Decides.{nat_tests}
use Rattle.std.proofs.lemmas.List.{take_more}
use Rattle.image_map.specs.declared.image.Segment.{Segment}
use Rattle.image_map.specs.declared.spans.Span.{Span}
use Rattle.image_map.specs.Memory.{holds, byte_in}
use Rattle.image_map.specs.Ranges.{is_any}
use Rattle.item_list.specs.Ranges.{within}
use Rattle.ia32_semantics.proofs.EffectLemmas.{by_test}
use Rattle.ia32_memory.specs.Mapped.{span_of}
use Rattle.image_map.proofs.SegmentLaws.{head_in}
use Rattle.ia32_memory.proofs.MakeLemmas.{is_some_held}

in_span : (s : Segment) (a : ℕ) → within (span_of s).start (span_of s).end a ≡ (holds a s && nat_lt a (2 ^ 32 - 1))
in_span s a =
    by_test (within (span_of s).start (span_of s).end a)
    (λ in_. let h : holds a s ≡ true = grind (arith, nat_tests) in let low : nat_lt a (2 ^ 32 - 1) ≡ true = grind (arith, nat_tests) in rw (in_, h, low) refl)
    (λ out. by_test (holds a s)
    (λ h. let high : nat_lt a (2 ^ 32 - 1) ≡ false = grind (arith, nat_tests) in rw (out, h, high) refl)
    (λ none. rw (out, none) refl))

mapped_go : (h low any : Bool) (v w : Option ℕ) → (h ≡ true → is_some v ≡ true) → any ≡ (is_some w && low) → ((h && low) || any) ≡ (is_some (cond h v w) && low)
mapped_go true true any v w there same = sym (ap (λ b. b && true) (there refl))
mapped_go true false any v w there same = same ∙ no_more (is_some w) ∙ sym (no_more (is_some v))
  where
    no_more : (b : Bool) → (b && false) ≡ false
    no_more true = refl
    no_more false = refl
mapped_go false low any v w there same = same

pub spans_are_mapped : (ss : List Segment) (a : ℕ) → is_any (map span_of ss) a ≡ (is_some (byte_in ss a) && nat_lt a (2 ^ 32 - 1))
spans_are_mapped [] a = refl
spans_are_mapped (s ∷ ss) a =
    ap (λ b. b || is_any (map span_of ss) a) (in_span s a)
    ∙ mapped_go (holds a s) (nat_lt a (2 ^ 32 - 1)) (is_any (map span_of ss) a) (slice_get s.bytes (a - s.start)) (byte_in ss a) (is_some_held s a) (spans_are_mapped ss a)
    ∙ sym (ap (λ o. is_some o && nat_lt a (2 ^ 32 - 1)) (head_in s ss a))

map_push : (ss : List Segment) (s : Segment) → map span_of (ss ++ s ∷ []) ≡ map span_of ss ++ span_of s ∷ []
map_push [] s = refl
map_push (t ∷ ss) s = ap (λ l. span_of t ∷ l) (map_push ss s)

-- the span of one segment more
pub span_more : (ss : List Segment) (i : ℕ) (d : Segment) (old new : List Span) (s : Span) → old ≡ map span_of (take i ss) → i < length ss → s ≡ span_of (get_or ss i d)
    → new ≡ old ++ s ∷ [] → new ≡ map span_of (take (i + 1) ss)
span_more ss i d old new s is lt one push =
    push ∙ ap (λ l. l ++ s ∷ []) is ∙ ap (λ x. map span_of (take i ss) ++ x ∷ []) one ∙ sym (ap (map span_of) (take_more ss i d lt) ∙ map_push (take i ss) (get_or ss i d))
