-- Which check is the first that fails.
use Rattle.std.proofs.Common.{◌≡◌, ℕ, Bool, Option, Some, None, Result, Ok, Err, List, length, refl, ap, sym, ◌∙◌}
use Rattle.std.specs.List.{list_any, flat_map}
use Rattle.elf32.specs.declared.error.ElfError.{ElfError}
use Rattle.elf32.specs.declared.error.ElfError.TheVariants as errors
use Rattle.elf32.specs.Checks.{or_else, when, no_header, wrong_identity, wrong_header, short_tables, wrong_segments, short_sections, ends_outside, sections, bias, loads, segments_cause}
use Rattle.elf32.specs.declared.fields.ProgramHeader.{ProgramHeader}
use Rattle.elf32.specs.declared.fields.SectionHeader.{SectionHeader}
use Rattle.elf32.specs.Relocating.{Relocated, relocated, relocations_of}
use Rattle.elf32.specs.Loading.{begun, outcome, error_of, wrong_relocation, header_failure, failure}

regroup : (x y z : Option ElfError) → or_else (or_else x y) z ≡ or_else x (or_else y z)
regroup None y z = refl
regroup (Some e) y z = refl

-- the checks on headers, and then the others
by_headers : (f : List ℕ) → failure f ≡ or_else (header_failure f) (or_else (wrong_segments f) (or_else (short_sections f) (or_else (wrong_relocation f) None)))
by_headers f =
    let rest = or_else (wrong_segments f) (or_else (short_sections f) (or_else (wrong_relocation f) None)) in
    sym (regroup (no_header f) (or_else (wrong_identity f) (or_else (wrong_header f) (short_tables f))) rest
    ∙ ap (or_else (no_header f)) (regroup (wrong_identity f) (or_else (wrong_header f) (short_tables f)) rest
    ∙ ap (or_else (wrong_identity f)) (regroup (wrong_header f) (short_tables f) rest)))

pub headers_fail : (f : List ℕ) (e : ElfError) → header_failure f ≡ Some e → failure f ≡ Some e
headers_fail f e h = by_headers f ∙ ap (λ v. or_else v (or_else (wrong_segments f) (or_else (short_sections f) (or_else (wrong_relocation f) None)))) h

past_headers : (f : List ℕ) → header_failure f ≡ None → failure f ≡ or_else (wrong_segments f) (or_else (short_sections f) (or_else (wrong_relocation f) None))
past_headers f h = by_headers f ∙ ap (λ v. or_else v (or_else (wrong_segments f) (or_else (short_sections f) (or_else (wrong_relocation f) None)))) h

pub the_segments : (f : List ℕ) (n b : ℕ) (hs : List ProgramHeader) (c : Option ElfError) → n ≡ length f → b ≡ bias f → hs ≡ loads f → c ≡ segments_cause n b hs → wrong_segments f ≡ c
unfolding wrong_segments
the_segments f n b hs c n_is b_is hs_is is = sym (is ∙ (ap (λ v. segments_cause v b hs) n_is ∙ (ap (λ v. segments_cause (length f) v hs) b_is ∙ ap (λ v. segments_cause (length f) (bias f) v) hs_is)))

pub segments_fail : (f : List ℕ) (e : ElfError) → header_failure f ≡ None → wrong_segments f ≡ Some e → failure f ≡ Some e
segments_fail f e h s = past_headers f h ∙ ap (λ v. or_else v (or_else (short_sections f) (or_else (wrong_relocation f) None))) s

past_segments : (f : List ℕ) → header_failure f ≡ None → wrong_segments f ≡ None → failure f ≡ or_else (short_sections f) (or_else (wrong_relocation f) None)
past_segments f h s = past_headers f h ∙ ap (λ v. or_else v (or_else (short_sections f) (or_else (wrong_relocation f) None))) s

pub the_sections : (f : List ℕ) (ss : List SectionHeader) (t : Bool) → ss ≡ sections f → list_any (ends_outside (length f)) ss ≡ t → short_sections f ≡ when t (errors.Short (length f))
unfolding short_sections
the_sections f ss t is h = ap (λ v. when (list_any (ends_outside (length f)) v) (errors.Short (length f))) (sym is) ∙ ap (λ v. when v (errors.Short (length f))) h

pub sections_fail : (f : List ℕ) (e : ElfError) → header_failure f ≡ None → wrong_segments f ≡ None → short_sections f ≡ Some e → failure f ≡ Some e
sections_fail f e h s t = past_segments f h s ∙ ap (λ v. or_else v (or_else (wrong_relocation f) None)) t

past_sections : (f : List ℕ) → header_failure f ≡ None → wrong_segments f ≡ None → short_sections f ≡ None → failure f ≡ or_else (wrong_relocation f) None
past_sections f h s t = past_segments f h s ∙ ap (λ v. or_else v (or_else (wrong_relocation f) None)) t

pub relocations_fail : (f : List ℕ) (e : ElfError) → header_failure f ≡ None → wrong_segments f ≡ None → short_sections f ≡ None → outcome f ≡ Err e → failure f ≡ Some e
relocations_fail f e h s t r = past_sections f h s t ∙ ap (λ v. or_else (error_of v) None) r

pub none_fails : (f : List ℕ) (st : Relocated) → header_failure f ≡ None → wrong_segments f ≡ None → short_sections f ≡ None → outcome f ≡ Ok st → failure f ≡ None
none_fails f st h s t r = past_sections f h s t ∙ ap (λ v. or_else (error_of v) None) r

pub the_outcome : (f : List ℕ) (b : ℕ) (hs : List ProgramHeader) (ss : List SectionHeader) (o : Result Relocated ElfError) → b ≡ bias f → hs ≡ loads f → ss ≡ sections f
    → relocated b hs 0 (begun f b hs) (flat_map (relocations_of f ss) ss) ≡ o → outcome f ≡ o
unfolding outcome
the_outcome f b hs ss o b_is hs_is ss_is h =
    sym (ap (λ v. relocated v hs 0 (begun f v hs) (flat_map (relocations_of f ss) ss)) b_is
    ∙ (ap (λ v. relocated (bias f) v 0 (begun f (bias f) v) (flat_map (relocations_of f ss) ss)) hs_is
    ∙ ap (λ v. relocated (bias f) (loads f) 0 (begun f (bias f) (loads f)) (flat_map (relocations_of f v) v)) ss_is))
    ∙ h
