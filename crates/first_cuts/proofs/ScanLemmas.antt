-- The scan of code, step by step.
use Rattle.std.proofs.Common.{Bool, true, false, cond, map, pos, ◌≡◌, ◌≤◌, ◌<◌, ℕ, zero, suc, ◌+◌, ◌-◌, List, [], ◌∷◌, ◌++◌, Option, Some, None, ℤ, refl, sym, ◌∙◌, ap, arith}
use Rattle.image_map.specs.declared.image.Image.{Image}
use Rattle.ia32_types.specs.declared.Instr.{Instr}
use Rattle.ia32_fetch.specs.Fetched.{instruction_at}
use Rattle.std.specs.Prelude.{nat_le, length, is_some, ◌&&◌, option_to_list}
use Rattle.image_map.specs.declared.image.Segment.{Segment}
use Rattle.image_map.specs.Memory.{segment_at, has_flag}
use Rattle.image_map.specs.Queries.{is_in_segment}
use Rattle.image_map.specs.Whole.{ArePlaced}
use Rattle.image_map.proofs.SegmentLaws.{segments_below}
use Rattle.first_cuts.specs.FirstCuts.{with_taken}
use Rattle.first_cuts.specs.Constants.{addresses, displacement, has_constant, immediate, immediates, is_dword, scanned_segment, constants_in, constants_of, passed_with, scanned}
use Rattle.first_cuts.specs.Taking.{taken_from}
use Rattle.first_cuts.specs.FirstCuts.{taken_onto}
use Rattle.first_cuts.proofs.TakingLemmas.{from_append, taken_full}

-- bytes that are passed over
skipped : (image : Image) (skip left at : ℕ) → scanned image skip left at ≡ scanned image 0 (left - skip) (at + skip)
unfolding scanned
skipped image zero left at = let l : left - 0 ≡ left = omega arith in let a : at + 0 ≡ at = omega arith in ap (λ n. scanned image 0 n at) (sym l) ∙ ap (λ n. scanned image 0 (left - 0) n) (sym a)
skipped image (suc skip) zero at = let l : 0 - suc skip ≡ 0 = omega arith in ap (λ n. scanned image 0 n (at + suc skip)) (sym l)
skipped image (suc skip) (suc left) at =
    let l : left - skip ≡ suc left - suc skip = omega arith in
    let a : at + 1 + skip ≡ at + suc skip = omega arith in
    skipped image skip left (at + 1) ∙ ap (λ n. scanned image 0 n (at + 1 + skip)) l ∙ ap (λ n. scanned image 0 (suc left - suc skip) n) a

-- what is left begins with an instruction, or with a byte that doesn't decode
begun : (image : Image) (o : Option Instr) (left at : ℕ) → o ≡ instruction_at image at → 0 < left
    → scanned image 0 left at ≡ constants_of o ++ scanned image 0 (left - suc (passed_with o)) (at + suc (passed_with o))
unfolding scanned
begun image o zero at is some = absurd (omega arith)
begun image o (suc left) at is some =
    let k : ℕ = passed_with o in
    let l : left - k ≡ suc left - suc k = omega arith in
    let a : at + 1 + k ≡ at + suc k = omega arith in
    sym (ap (λ p. constants_of p ++ scanned image (passed_with p) left (at + 1)) is)
    ∙ ap (λ t. constants_of o ++ t) (skipped image k left (at + 1) ∙ ap (λ n. scanned image 0 n (at + 1 + k)) l ∙ ap (λ n. scanned image 0 (suc left - suc k) n) a)

-- so many bytes are passed
abbrev pub IsScanned : Image → ℕ → ℕ → ℕ → List ℤ → List ℤ → Type 0
IsScanned image start count passed out whole = taken_from image out (scanned image 0 (count - passed) (start + passed)) ≡ whole

pub scan_start : (image : Image) (start count : ℕ) (out : List ℤ) → IsScanned image start count 0 out (taken_from image out (scanned image 0 count start))
scan_start image start count out =
    let l : count - 0 ≡ count = omega arith in let a : start + 0 ≡ start = omega arith in
    ap (λ n. taken_from image out (scanned image 0 n (start + 0))) l ∙ ap (λ n. taken_from image out (scanned image 0 count n)) a

scan_step : (image : Image) (start count passed more : ℕ) (o : Option Instr) (out next whole : List ℤ) → passed < count → o ≡ instruction_at image (start + passed) → more ≡ passed + suc (passed_with o)
    → next ≡ taken_from image out (constants_of o) → IsScanned image start count passed out whole → IsScanned image start count more next whole
scan_step image start count passed more o out next whole lt is on took e =
    let k : ℕ = suc (passed_with o) in
    let l : count - passed - k ≡ count - more = omega (arith, on) in
    let a : start + passed + k ≡ start + more = omega (arith, on) in
    let rest : List ℕ = scanned image 0 (count - passed - k) (start + passed + k) in
    let same : scanned image 0 (count - more) (start + more) ≡ rest = ap (λ n. scanned image 0 n (start + more)) (sym l) ∙ ap (λ n. scanned image 0 (count - passed - k) n) (sym a) in
    ap (taken_from image next) same ∙ ap (λ t. taken_from image t rest) took ∙ sym (from_append image out (constants_of o) rest)
    ∙ sym (ap (taken_from image out) (begun image o (count - passed) (start + passed) is (omega arith))) ∙ e

pub scan_byte : (image : Image) (start count passed more : ℕ) (out whole : List ℤ) → passed < count → None ≡ instruction_at image (start + passed) → more ≡ passed + 1
    → IsScanned image start count passed out whole → IsScanned image start count more out whole
unfolding taken_onto
scan_byte image start count passed more out whole lt is on e = scan_step image start count passed more None out out whole lt is on refl e

pub scan_instruction : (image : Image) (start count passed more len : ℕ) (i : Instr) (out next whole : List ℤ) → passed < count → Some i ≡ instruction_at image (start + passed) → len ≡ suc (i.len - 1)
    → more ≡ passed + len → next ≡ taken_from image out (constants_in i) → IsScanned image start count passed out whole → IsScanned image start count more next whole
scan_instruction image start count passed more len i out next whole lt is long on took e = scan_step image start count passed more (Some i) out next whole lt is (on ∙ ap (λ n. passed + n) long) took e

pub scan_end : (image : Image) (start count passed : ℕ) (out whole : List ℤ) → count ≤ passed → IsScanned image start count passed out whole → out ≡ whole
unfolding scanned taken_onto
scan_end image start count passed out whole le e =
    let l : count - passed ≡ 0 = omega arith in
    sym (ap (λ n. taken_from image out (scanned image 0 n (start + passed))) l) ∙ e

pub scan_full : (image : Image) (start count passed : ℕ) (out view whole : List ℤ) → nat_le 512 (length view) ≡ true → view ≡ out → IsScanned image start count passed out whole → out ≡ whole
scan_full image start count passed out view whole full seen e =
    sym (taken_full out (addresses image (scanned image 0 (count - passed) (start + passed))) (ap (λ t. nat_le 512 (length t)) (sym seen) ∙ full)) ∙ e

-- -- One number

pub number_low : (image : Image) (segments : List Segment) (n : ℕ) (o : Option Segment) → ArePlaced image.segments → segments ≡ image.segments → o ≡ segment_at segments n → is_some o ≡ true → n < 0x7FFFFFFF
number_low image segments n o placed seen is some = segments_below image.segments n placed (ap (λ ss. is_some (segment_at ss n)) (sym seen) ∙ ap is_some (sym is) ∙ some)

in_segment : (image : Image) (segments : List Segment) (n : ℕ) (o : Option Segment) (b : Bool) → segments ≡ image.segments → o ≡ segment_at segments n → is_some o ≡ b → is_in_segment image n ≡ b
in_segment image segments n o b seen is some = ap (λ ss. is_some (segment_at ss n)) (sym seen) ∙ ap is_some (sym is) ∙ some

one_number : (image : Image) (n : ℕ) (taken : List ℤ) (b : Bool) → is_in_segment image n ≡ b → taken_from image taken (n ∷ []) ≡ cond b (with_taken taken (pos n)) taken
unfolding taken_onto
one_number image n taken b is = ap (λ t. taken_onto taken (map pos (cond t (n ∷ []) []))) is ∙ by_test b
  where
    by_test : (b : Bool) → taken_onto taken (map pos (cond b (n ∷ []) [])) ≡ cond b (with_taken taken (pos n)) taken
    by_test true = refl
    by_test false = refl

pub number_out : (image : Image) (segments : List Segment) (n : ℕ) (o : Option Segment) (taken : List ℤ) → segments ≡ image.segments → o ≡ segment_at segments n → is_some o ≡ false → taken ≡ taken_from image taken (n ∷ [])
number_out image segments n o taken seen is none = sym (one_number image n taken false (in_segment image segments n o false seen is none))

pub number_in : (image : Image) (segments : List Segment) (n : ℕ) (x : ℤ) (o : Option Segment) (taken next : List ℤ) → segments ≡ image.segments → o ≡ segment_at segments n → is_some o ≡ true → x ≡ pos n → next ≡ with_taken taken x
    → next ≡ taken_from image taken (n ∷ [])
number_in image segments n x o taken next seen is some same took = took ∙ ap (with_taken taken) same ∙ sym (one_number image n taken true (in_segment image segments n o true seen is some))

pub nothing_taken : (image : Image) (taken : List ℤ) → taken ≡ taken_from image taken []
unfolding taken_onto
nothing_taken image taken = refl

pub segment_passed : (image : Image) (s : Segment) (taken : List ℤ) → has_flag 1 s ≡ false → taken ≡ taken_from image taken (scanned_segment image s)
unfolding taken_onto
segment_passed image s taken isnt = sym (ap (λ b. taken_from image taken (cond b (scanned image 0 (length s.bytes) s.start) [])) isnt)

pub segment_scanned : (image : Image) (s : Segment) (taken next : List ℤ) → has_flag 1 s ≡ true → next ≡ taken_from image taken (scanned image 0 (length s.bytes) s.start) → next ≡ taken_from image taken (scanned_segment image s)
segment_scanned image s taken next is took = took ∙ sym (ap (λ b. taken_from image taken (cond b (scanned image 0 (length s.bytes) s.start) [])) is)

-- -- The immediates of an instruction

pub immediates_none : (image : Image) (i : Instr) (taken : List ℤ) → (has_constant i.op && is_dword i.width) ≡ false → taken ≡ taken_from image taken (immediates i)
unfolding taken_onto
immediates_none image i taken isnt =
    sym (ap (λ b. taken_from image taken (cond b (option_to_list (immediate i.dst) ++ option_to_list (immediate i.src) ++ option_to_list i.imm) [])) isnt)

three_taken : (image : Image) (a b c d : List ℤ) (xs ys zs : List ℕ) → b ≡ taken_from image a xs → c ≡ taken_from image b ys → d ≡ taken_from image c zs → d ≡ taken_from image a ((xs ++ ys) ++ zs)
three_taken image a b c d xs ys zs first second third =
    third ∙ ap (λ t. taken_from image t zs) (second ∙ ap (λ t. taken_from image t ys) first) ∙ ap (λ t. taken_from image t zs) (sym (from_append image a xs ys)) ∙ sym (from_append image a (xs ++ ys) zs)

pub immediates_taken : (image : Image) (i : Instr) (a b c d : List ℤ) → (has_constant i.op && is_dword i.width) ≡ true → b ≡ taken_from image a (option_to_list (immediate i.dst)) → c ≡ taken_from image b (option_to_list (immediate i.src))
    → d ≡ taken_from image c (option_to_list i.imm) → d ≡ taken_from image a (immediates i)
immediates_taken image i a b c d is first second third =
    three_taken image a b c d (option_to_list (immediate i.dst)) (option_to_list (immediate i.src)) (option_to_list i.imm) first second third
    ∙ sym (ap (λ t. taken_from image a (cond t (option_to_list (immediate i.dst) ++ option_to_list (immediate i.src) ++ option_to_list i.imm) [])) is)

pub constants_taken : (image : Image) (i : Instr) (a b c d : List ℤ) → b ≡ taken_from image a (option_to_list (displacement i.dst)) → c ≡ taken_from image b (option_to_list (displacement i.src))
    → d ≡ taken_from image c (immediates i) → d ≡ taken_from image a (constants_in i)
unfolding constants_in
constants_taken image i a b c d first second third = three_taken image a b c d (option_to_list (displacement i.dst)) (option_to_list (displacement i.src)) (immediates i) first second third
