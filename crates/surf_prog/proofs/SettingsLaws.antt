-- What is settled of a program keeps its bounds.
use Rattle.std.proofs.Common.{◌≡◌, ℕ, zero, suc, ◌+◌, ◌<◌, List, [], ◌∷◌, ◌++◌, length, take, get_or, map, refl, sym, ap, ◌∙◌, subst, arith}
use Rattle.std.specs.Prelude.{codes, Bool, true, false, ◌&&◌, nat_le, if◌then◌else◌, slice_get, Option, Some, None, All}
use Rattle.std.proofs.lemmas.Bool.{false≢true}
use Rattle.std.proofs.lemmas.Bool.Decides.{nat_tests}
use Rattle.std.proofs.lemmas.List.{take_more}
use Rattle.std.proofs.lemmas.Option.{none-some, same_Some}
use Rattle.std.specs.Str.{bytes_eq}
use Rattle.image_map.specs.declared.image.Image.{Image}
use Rattle.image_map.specs.declared.image.Extern.{Extern}
use Rattle.image_map.specs.declared.region.Kind.{Kind}
use Rattle.image_map.specs.declared.region.Kind.TheVariants as kind
use Rattle.image_map.specs.declared.region.Settings.{Settings}
use Rattle.image_map.specs.CallModel.{IsKind, AreSettings}
use Rattle.command_words.specs.declared.line.ExternKind.{ExternKind}
use Rattle.ia32_run.specs.Acts.{AreKnown}
use Rattle.surf_prog.specs.Settings.{kind_after, ends_program, reads_one_word, reads_no_word, reads_text, reads_two_texts, known_kind, is_kind, kind_or_known, kind_named, kind_of, settings_of}

-- -- Kinds

pub kind_more : (name : List ℕ) (rest after : List ExternKind) (part : ExternKind) (found next : Option Kind) (whole : Option Kind) → kind_after name found rest ≡ whole → rest ≡ part ∷ after
    → next ≡ (if bytes_eq name part.name then Some part.kind else found) → kind_after name next after ≡ whole
unfolding kind_after
kind_more name rest after part found next whole kept is more = ap (λ f. kind_after name f after) more ∙ ap (λ r. kind_after name found r) (sym is) ∙ kept

pub kind_none : (name : List ℕ) (rest : List ExternKind) (found whole : Option Kind) → kind_after name found rest ≡ whole → length rest ≡ 0 → found ≡ whole
unfolding kind_after
kind_none name [] found whole kept none = kept
kind_none name (part ∷ rest) found whole kept none = absurd (omega arith)

kinds_push : (parts : List ExternKind) (es : List Extern) (e : Extern) → map (kind_of parts) (es ++ e ∷ []) ≡ map (kind_of parts) es ++ kind_of parts e ∷ []
kinds_push parts [] e = refl
kinds_push parts (d ∷ es) e = ap (λ l. kind_of parts d ∷ l) (kinds_push parts es e)

pub kinds_more : (parts : List ExternKind) (es : List Extern) (i : ℕ) (d : Extern) (old new : List Kind) (k : Kind) → old ≡ map (kind_of parts) (take i es) → i < length es → k ≡ kind_of parts (get_or es i d)
    → new ≡ old ++ k ∷ [] → new ≡ map (kind_of parts) (take (i + 1) es)
kinds_more parts es i d old new k is lt one push =
    push ∙ ap (λ l. l ++ k ∷ []) is ∙ ap (λ x. map (kind_of parts) (take i es) ++ x ∷ []) one
    ∙ sym (ap (map (kind_of parts)) (take_more es i d lt) ∙ kinds_push parts (take i es) (get_or es i d))

kinds_are : (a b c d e f g h i : Bool)
    → IsKind (if a then kind.Stop else (if b then kind.Alloc else (if c then kind.Pure 1 else (if d then kind.Pure 0 else (if e then kind.Reader 1 else (if f then kind.Reader 2 else (if g then kind.Reader 3 else (if h then kind.Fills 1 3 else (if i then kind.Fills 2 3 else kind.Unknown)))))))))
kinds_are true b c d e f g h i = tt
kinds_are false true c d e f g h i = tt
kinds_are false false true d e f g h i = omega arith
kinds_are false false false true e f g h i = omega arith
kinds_are false false false false true f g h i = omega arith
kinds_are false false false false false true g h i = omega arith
kinds_are false false false false false false true h i = omega arith
kinds_are false false false false false false false true i = (omega arith, omega arith, omega arith, omega arith)
kinds_are false false false false false false false false true = (omega arith, omega arith, omega arith, omega arith)
kinds_are false false false false false false false false false = tt

known_is_kind : (name : List ℕ) → IsKind (known_kind name)
unfolding known_kind
known_is_kind name =
    kinds_are (ends_program name) (bytes_eq name (codes "malloc")) (reads_one_word name) (reads_no_word name) (reads_text name) (reads_two_texts name)
    (bytes_eq name (codes "write")) (bytes_eq name (codes "memset")) (bytes_eq name (codes "read"))

four_true : (a b c d : Bool) → (((a && b) && c) && d) ≡ true → (a ≡ true) × (b ≡ true) × (c ≡ true) × (d ≡ true)
four_true true true true d e = (refl, refl, refl, e)
four_true true true false d e = absurd (false≢true e)
four_true true false c d e = absurd (false≢true e)
four_true false b c d e = absurd (false≢true e)

is_bounded : (k : Kind) → is_kind k ≡ true → IsKind k
is_bounded (kind.Pure n) e = grind (arith, nat_tests)
is_bounded (kind.Reader n) e = grind (arith, nat_tests)
is_bounded kind.Alloc e = tt
is_bounded kind.Stop e = tt
is_bounded kind.Unknown e = tt
is_bounded (kind.Fills buffer len) e =
    let f = four_true (nat_le 1 buffer) (nat_le buffer 8) (nat_le 1 len) (nat_le len 8) e in
    let a = f.0 in let b = f.1 in let c = f.2 in let d = f.3 in
    ((grind (arith, nat_tests)), (grind (arith, nat_tests)), (grind (arith, nat_tests)), (grind (arith, nat_tests)))

bounded_go : (b : Bool) (k : Kind) → (b ≡ true → IsKind k) → IsKind (if b then k else kind.Unknown)
bounded_go true k p = p refl
bounded_go false k p = tt

or_known_is : (o : Option Kind) (name : List ℕ) → IsKind (kind_or_known o name)
or_known_is None name = known_is_kind name
or_known_is (Some k) name = bounded_go (is_kind k) k (is_bounded k)

mapped_known : (parts : List ExternKind) (es : List Extern) (n : ℕ) (k : Kind) → slice_get (map (kind_of parts) es) n ≡ Some k → IsKind k
mapped_known parts [] n k e = absurd (none-some k e)
mapped_known parts (d ∷ es) zero k e = subst IsKind (same_Some (kind_of parts d) k e) (or_known_is (kind_named d.name parts) d.name)
mapped_known parts (d ∷ es) (suc n) k e = mapped_known parts es n k e

pub are_known : (image : Image) (place rounds : ℕ) (parts : List ExternKind) (settings : Settings) → settings ≡ settings_of image place rounds parts → AreKnown settings
are_known image place rounds parts settings is n k e = mapped_known parts image.externs n k (ap (λ (s : Settings). slice_get s.kinds n) (sym is) ∙ e)

kinds_long : (parts : List ExternKind) (es : List Extern) → length (map (kind_of parts) es) ≡ length es
kinds_long parts [] = refl
kinds_long parts (e ∷ es) = ap suc (kinds_long parts es)

kinds_keep : (parts : List ExternKind) (es : List Extern) → All IsKind (map (kind_of parts) es)
kinds_keep parts [] k d lt = absurd (omega arith)
kinds_keep parts (e ∷ es) zero d lt = or_known_is (kind_named e.name parts) e.name
kinds_keep parts (e ∷ es) (suc k) d lt = kinds_keep parts es k d (omega arith)

pub are_settings : (image : Image) (place rounds : ℕ) (parts : List ExternKind) (settings : Settings) → settings ≡ settings_of image place rounds parts → AreSettings (length image.externs) settings
are_settings image place rounds parts settings is = subst (λ (s : Settings). AreSettings (length image.externs) s) (sym is) (record {
  one_each = kinds_long parts image.externs;
  kinds = kinds_keep parts image.externs;
  some_round = omega arith;
  few_rounds = omega arith;
})
