-- No check fails on the file of a made program.
use Rattle.std.proofs.Common.{◌≡◌, ℕ, ◌+◌, ◌*◌, ◌/◌, ◌%◌, ◌<◌, ◌≤◌, true, false, List, [], ◌∷◌, ◌++◌, length, drop, None, Ok, refl, ap, ◌∙◌, subst, arith, length-append}
use Rattle.std.specs.Prelude.{nat_eq, nat_lt, cond, filter, if◌then◌else◌, IfOk, get_or}
use Rattle.std.specs.List.{starts_with}
use Rattle.std.proofs.lemmas.Bool.{le-ltb, lt-ltb}
use Rattle.byteorder.specs.Endian.{little_number}
use Rattle.image_map.specs.declared.image.Image.{Image}
use Rattle.image_map.specs.declared.image.Segment.{Segment}
use Rattle.image_map.specs.Memory.{is_in}
use Rattle.image_map.specs.Queries.{is_code}
use Rattle.image_map.specs.Shapes.{Shape, shape, shapes}
use Rattle.elf32.specs.declared.error.ElfError.TheVariants as errors
use Rattle.elf32.specs.declared.fields.ProgramHeader.{ProgramHeader}
use Rattle.elf32.specs.Fields.{half, word, e_type, e_machine, e_entry, e_phoff, e_shoff, e_phentsize, e_phnum, e_shnum, program_header as header_at, rows}
use Rattle.elf32.specs.Checks.{when, no_header, wrong_identity, wrong_header, short_tables, wrong_segments, short_sections, bias, loads, sections, own_cause, is_load, is_low_32, segments_cause}
use Rattle.elf32.specs.Loading.{begun, failure, outcome, wrong_relocation, Shows, Loads}
use Rattle.generator.specs.Items.{code}
use Rattle.generator.specs.Files.{file_header, program_header, made_image}
use Rattle.generator.proofs.ItemLemmas.{short_code, code_length}

-- the file of a code that is so long
abbrev whole : ℕ → List ℕ → List ℕ
whole len c = file_header ++ (program_header len ++ c)

long : (len : ℕ) (c : List ℕ) → len ≡ length c → length (whole len c) ≡ 84 + len
long len c same =
    let front = length-append file_header (program_header len ++ c) in
    let back = length-append (program_header len) c in
    omega (arith, front, back, same)

-- -- Its fields

half_is : (f : List ℕ) (at n : ℕ) → at + 2 ≤ length f → little_number 2 (drop at f) ≡ n → half f at ≡ n
unfolding half
half_is f at n within is = ap (λ b. if b then 0 else little_number 2 (drop at f)) (le-ltb (length f) (at + 2) within) ∙ is

word_is : (f : List ℕ) (at n : ℕ) → at + 4 ≤ length f → little_number 4 (drop at f) ≡ n → word f at ≡ n
unfolding word
word_is f at n within is = ap (λ b. if b then 0 else little_number 4 (drop at f)) (le-ltb (length f) (at + 4) within) ∙ is

-- a number of two bytes is read back from its four
read_back : (n : ℕ) → n ≤ 6011 → n % 256 + 256 * (n / 256 % 256 + 256 * (n / 65536 % 256 + 256 * (n / 16777216 % 256 + 256 * 0))) ≡ n
read_back n low = omega (arith, low)

-- what is loaded
abbrev segment : ℕ → ProgramHeader
segment len = record { index = 0; p_type = 1; p_offset = 84; p_vaddr = 0x08049000; p_filesz = len; p_memsz = len; p_flags = 5 }

-- what the checks see of the file
record HasFields (len : ℕ) (f : List ℕ) : Type 0 where
  bytes : length f ≡ 84 + len
  magic : starts_with nat_eq f (127 ∷ 69 ∷ 76 ∷ 70 ∷ []) ≡ true
  low_32 : is_low_32 f ≡ true
  kind : e_type f ≡ 2
  machine : e_machine f ≡ 3
  table : e_phoff f ≡ 52
  count : e_phnum f ≡ 1
  size : e_phentsize f ≡ 32
  sections_at : e_shoff f ≡ 0
  section_count : e_shnum f ≡ 0
  header : header_at f 52 0 ≡ segment len

has_fields : (len : ℕ) (c : List ℕ) → len ≡ length c → len ≤ 6011 → HasFields len (whole len c)
has_fields len c same low =
    let f : List ℕ = whole len c in
    let bytes : length f ≡ 84 + len = long len c same in
    let word_at : (at n : ℕ) → at ≤ 80 → little_number 4 (drop at f) ≡ n → word f at ≡ n = λ at n inside is. word_is f at n (omega (arith, bytes, inside)) is in
    let half_at : (at n : ℕ) → at ≤ 80 → little_number 2 (drop at f) ≡ n → half f at ≡ n = λ at n inside is. half_is f at n (omega (arith, bytes, inside)) is in
    let kind = word_at 52 1 (omega arith) refl in
    let offset = word_at 56 84 (omega arith) refl in
    let address = word_at 60 0x08049000 (omega arith) refl in
    let file_size = word_at 68 len (omega arith) (read_back len low) in
    let size = word_at 72 len (omega arith) (read_back len low) in
    let flags = word_at 76 5 (omega arith) refl in
    record {
      bytes = bytes;
      magic = refl;
      low_32 = refl;
      kind = half_at 16 2 (omega arith) refl;
      machine = half_at 18 3 (omega arith) refl;
      table = word_at 28 52 (omega arith) refl;
      count = half_at 44 1 (omega arith) refl;
      size = half_at 42 32 (omega arith) refl;
      sections_at = word_at 32 0 (omega arith) refl;
      section_count = half_at 48 0 (omega arith) refl;
      header = λ i. record { index = 0; p_type = kind i; p_offset = offset i; p_vaddr = address i; p_filesz = file_size i; p_memsz = size i; p_flags = flags i };
    }

-- -- Its checks

module _ (len : ℕ) (f : List ℕ) (some : 0 < len) (low : len ≤ 6011) (has : HasFields len f) where
  whole_header : no_header f ≡ None
  unfolding no_header
  whole_header = let bytes = has.bytes in ap (λ b. when b (errors.Short (length f))) (le-ltb (length f) 52 (omega (arith, bytes)))

  right_identity : wrong_identity f ≡ None
  unfolding wrong_identity
  right_identity = rw (has.magic, has.low_32, has.machine, has.kind) refl

  right_header : wrong_header f ≡ None
  unfolding wrong_header
  right_header = rw (has.count, has.size, has.sections_at, has.section_count) refl

  whole_tables : short_tables f ≡ None
  unfolding short_tables
  whole_tables =
      let bytes = has.bytes in
      let inside : nat_lt (length f) (52 + 32 * 1) ≡ false = le-ltb (length f) (52 + 32 * 1) (omega (arith, bytes)) in
      rw (has.table, has.count, has.sections_at, inside) refl

  one_load : loads f ≡ segment len ∷ []
  unfolding loads
  one_load =
      let takes : nat_lt 0 len ≡ true = lt-ltb 0 len some in
      ap (λ t. filter is_load (rows (header_at f t) (e_phnum f))) has.table ∙ ap (λ n. filter is_load (rows (header_at f 52) n)) has.count
      ∙ ap (λ h. filter is_load (h ∷ [])) has.header ∙ ap (λ b. cond b (segment len ∷ []) []) takes

  no_bias : bias f ≡ 0
  unfolding bias
  no_bias = rw (has.kind) refl

  right_segment : segments_cause (84 + len) 0 (segment len ∷ []) ≡ None
  unfolding own_cause
  right_segment =
      let filled : nat_lt len len ≡ false = le-ltb len len (omega arith) in
      let inside : nat_lt (84 + len) (84 + len) ≡ false = le-ltb (84 + len) (84 + len) (omega arith) in
      let below : nat_lt 0x7FFFFFFF (0x08049000 + len) ≡ false = le-ltb 0x7FFFFFFF (0x08049000 + len) (omega (arith, low)) in
      let little : nat_lt 67108864 (0 + len) ≡ false = le-ltb 67108864 (0 + len) (omega (arith, low)) in
      let takes : nat_lt 0 len ≡ true = lt-ltb 0 len some in
      rw (filled, takes, inside, below, little) refl

  right_segments : wrong_segments f ≡ None
  unfolding wrong_segments
  right_segments =
      ap (λ hs. segments_cause (length f) (bias f) hs) one_load ∙ ap (λ b. segments_cause (length f) b (segment len ∷ [])) no_bias
      ∙ ap (λ n. segments_cause n 0 (segment len ∷ [])) has.bytes ∙ right_segment

  no_sections : sections f ≡ []
  unfolding sections
  no_sections = rw (has.sections_at) refl

  whole_sections : short_sections f ≡ None
  unfolding short_sections
  whole_sections = rw (no_sections) refl

  no_relocation : wrong_relocation f ≡ None
  unfolding outcome
  no_relocation = rw (no_sections) refl

  no_failure : failure f ≡ None
  no_failure = rw (whole_header, right_identity, right_header, whole_tables, right_segments, whole_sections, no_relocation) refl

-- the file of a made program has an image
pub made_loads : (seed n : ℕ) → n ≤ 1000 → failure (made_image seed n) ≡ None
unfolding made_image
made_loads seed n few =
    let len = code_length seed n in
    let short = short_code seed n few in
    no_failure (length (code seed n)) (whole (length (code seed n)) (code seed n)) (omega (arith, len)) short (has_fields (length (code seed n)) (code seed n) refl short)

-- -- Its entry

-- a segment that stands there, with a byte, and that may be run
code_in : (segments : List Segment) (len : ℕ) → 0 < len → shapes segments ≡ record { start = 0x08049000; len = len; flags = 5 } ∷ [] → is_in segments 1 0x08049000 ≡ true
code_in [] len some same = absurd cc
code_in (s ∷ t ∷ ss) len some same = let count = ap length same in absurd (omega (arith, count))
code_in (s ∷ []) len some same =
    let one : shape s ≡ record { start = 0x08049000; len = len; flags = 5 } = ap (λ xs. get_or xs 0 (shape s)) same in
    let start : s.start ≡ 0x08049000 = ap (λ (x : Shape). x.start) one in
    let long : length s.bytes ≡ len = ap (λ (x : Shape). x.len) one in
    let flags : s.flags ≡ 5 = ap (λ (x : Shape). x.flags) one in
    let reaches : nat_lt 0 len ≡ true = lt-ltb 0 len some in
    rw (start, long, reaches, flags) refl

module _ (len : ℕ) (f : List ℕ) (some : 0 < len) (low : len ≤ 6011) (has : HasFields len f) (entry : e_entry f ≡ 0x08049000) where
  -- there is nothing to relocate
  kept : outcome f ≡ Ok (begun f (bias f) (loads f))
  unfolding outcome
  kept = rw (no_sections len f some low has) refl

  entry_in : (i : Image) → Loads f i → is_code i i.entry ≡ true
  entry_in i made =
      let shows : Shows f (begun f (bias f) (loads f)) i = subst (λ r. IfOk r (λ st. Shows f st i)) kept made.shows in
      let at : i.entry ≡ 0x08049000 = shows.entry ∙ rw (entry, no_bias len f some low has) refl in
      let all : shapes i.segments ≡ record { start = 0x08049000; len = len; flags = 5 } ∷ [] = shows.segments ∙ rw (no_bias len f some low has, one_load len f some low has) refl in
      ap (λ a. is_code i a) at ∙ code_in i.segments len some all

pub entry_is_code : (seed n : ℕ) (i : Image) → n ≤ 1000 → Loads (made_image seed n) i → is_code i i.entry ≡ true
unfolding made_image
entry_is_code seed n i few made =
    let len = code_length seed n in
    let short = short_code seed n few in
    let f : List ℕ = whole (length (code seed n)) (code seed n) in
    let bytes = long (length (code seed n)) (code seed n) refl in
    entry_in (length (code seed n)) f (omega (arith, len)) short (has_fields (length (code seed n)) (code seed n) refl short) (word_is f 24 0x08049000 (omega (arith, bytes)) refl) i made
