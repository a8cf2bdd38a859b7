-- The spans of what fits are the bytes that its effects write and take.
use Rattle.std.proofs.Common.{◌≡◌, ℕ, zero, suc, ◌+◌, ◌*◌, ◌-◌, ◌%◌, ◌^◌, ◌<◌, ◌≤◌, List, [], ◌∷◌, ◌++◌, refl, sym, ap, ◌∙◌, subst, arith}
use Rattle.std.specs.Prelude.{Bool, true, false, ◌&&◌, ◌||◌, ◌==◌, is_some, if◌then◌else◌}
use Rattle.std.proofs.lemmas.Bool.{or_right, or_left}
use Rattle.std.proofs.lemmas.Bool.Decides.{nat_tests}
use Rattle.std.proofs.lemmas.List.Folds.{list_any-append}
use Rattle.image_map.specs.declared.image.Image.{Image}
use Rattle.image_map.specs.declared.spans.Span.{Span}
use Rattle.image_map.specs.Ranges.{is_any}
use Rattle.ia32_types.specs.declared.Width.{Width}
use Rattle.ia32_types.specs.declared.Width.TheVariants.{B8, W16, D32}
use Rattle.ia32_semantics.specs.declared.flags.FlagsOut.{FlagsOut}
use Rattle.ia32_semantics.specs.declared.flags.FlagOut.{FlagOut}
use Rattle.ia32_semantics.specs.declared.flags.FlagOut.TheVariants as out
use Rattle.ia32_semantics.specs.State.{Bytes, Location, AtByte}
use Rattle.ia32_semantics.specs.Effects.{Effect, Whole, sets, effect_fits, effect_takes, effects_write, effects_take, effects_fit, is_among, is_open, is_mapped, all_among}
use Rattle.ia32_types.specs.Numbers.{size}
use Rattle.ia32_semantics.specs.Operands.{flag_effect, flag_effects}
use Rattle.ia32_semantics.specs.Strings.{stepped, copied, filled}
use Rattle.ia32_semantics.proofs.EffectLemmas.{and_left, and_right}
use Rattle.ia32_semantics.proofs.ReadingLemmas.{same_number}
use Rattle.ia32_memory.specs.Changes.{all_in_elements}
use Rattle.ia32_memory.proofs.EffectLaws.{bytes_among, filled_fits, copied_fits}
use Rattle.ia32_plan.specs.declared.entries.Entry.{Entry}
use Rattle.ia32_plan.specs.declared.entries.Entry.TheVariants as entry
use Rattle.ia32_plan.specs.declared.entries.Effects.{Effects}
use Rattle.ia32_plan.specs.declared.entries.Effects.TheVariants as effects
use Rattle.ia32_plan.specs.declared.words.Read.{Read}
use Rattle.ia32_plan.specs.declared.words.Reads.{Reads}
use Rattle.ia32_plan.specs.declared.words.Reads.TheVariants as reads
use Rattle.ia32_plan.specs.Plans.{entry_effects, all_effects}
use Rattle.ia32_plan.specs.Views.{covers, has_read}
use Rattle.ia32_semantics.proofs.ChangeLemmas.{write_append, flags_write_none}
use Rattle.item_list.proofs.RangeLaws.{none_within}
use Rattle.item_list.specs.Ranges.{within}
use Rattle.ia32_machine.specs.Touches.{span_of, elements_span, read_span, number_spans, source_spans, target_spans, of_entries, read_spans}
use Rattle.ia32_machine.proofs.SpanLemmas.{in_elements, copied_write, copied_take, of_number, filled_write, filled_take, among_within, AreLow, end_low, upwards, downwards, stepped_up, stepped_down}

abbrev pub in_span : Span → ℕ → Bool
in_span s x = within s.start s.end x

or_none : (b : Bool) → (b || false) ≡ b
or_none true = refl
or_none false = refl

-- as many bytes as a width has
abbrev one_less : Width → ℕ
one_less B8 = 0
one_less W16 = 1
one_less D32 = 3

width_size : (width : Width) → size width ≡ suc (one_less width)
width_size B8 = refl
width_size W16 = refl
width_size D32 = refl

width_small : (width : Width) → suc (one_less width) ≤ 4
width_small B8 = omega arith
width_small W16 = omega arith
width_small D32 = omega arith

cut : (n : ℕ) → n < 2 ^ 32 → n % 2 ^ 32 ≡ n
cut n low = omega arith

module _ (test : ℕ → Bool) (low : AreLow test) where
  -- the bytes of a number
  pub number_is : (width : Width) (a x : ℕ) → all_among test a (size width) ≡ true → in_span (span_of a (size width)) x ≡ is_among a (size width) x
  number_is width a x fits =
      ap (λ e. within a e x) (cut (a + size width) (end_low test low a (size width) (one_less width) (width_size width) fits)) ∙ sym (among_within a (size width) x)

  first_element : (down : Bool) (y n a : ℕ) → all_in_elements test down (suc y) (suc n) a ≡ true → all_among test a (suc y) ≡ true
  unfolding all_in_elements
  first_element down y n a e = and_left (all_among test a (suc y)) _ e

  is_address : (down : Bool) (y n a : ℕ) → all_in_elements test down (suc y) (suc n) a ≡ true → a < 2 ^ 32
  is_address down y n a e = let here = low a (and_left (test a) _ (first_element down y n a e)) in omega arith

  by_count : (down : Bool) (y : ℕ) → suc y ≤ 4 → (n a x : ℕ) → all_in_elements test down (suc y) n a ≡ true
      → in_span (elements_span down (suc y) n a) x ≡ in_elements down (suc y) n a x
  by_count false y small zero a x e = none_within a x
  by_count false y small (suc n) a x e =
      let up = upwards test low y (suc n) a (is_address false y n a e) e in
      let some : (suc n == 0) ≡ false = grind (arith, nat_tests) in
      ap (λ b. within a (if b then a else stepped false (suc y) (suc n) a) x) some
      ∙ ap (λ k. within a k x) (stepped_up (suc y) (suc n) a up.low) ∙ sym (up.span x)
  by_count true y small zero a x e = none_within (stepped true (suc y) (0 - 1) a) x
  by_count true y small (suc m) a x e =
      let down = downwards test low y small m a (is_address true y m a e) e in
      let some : (suc m == 0) ≡ false = grind (arith, nat_tests) in
      let less : suc m - 1 ≡ m = omega arith in
      let end : a + suc y < 2 ^ 32 = end_low test low a (suc y) y refl (first_element true y m a e) in
      ap (λ b. within (stepped true (suc y) (suc m - 1) a) (if b then stepped true (suc y) (suc m - 1) a else (a + suc y) % 2 ^ 32) x) some
      ∙ ap (λ k. within (stepped true (suc y) k a) ((a + suc y) % 2 ^ 32) x) less
      ∙ ap (λ k. within k ((a + suc y) % 2 ^ 32) x) (stepped_down (suc y) m a small (is_address true y m a e) down.low)
      ∙ ap (λ k. within (a - m * suc y) k x) (cut (a + suc y) end) ∙ sym (down.span x)

  pub elements_are : (down : Bool) (width : Width) (n a x : ℕ) → all_in_elements test down (size width) n a ≡ true
      → in_span (elements_span down (size width) n a) x ≡ in_elements down (size width) n a x
  elements_are down width n a x e =
      subst (λ z. all_in_elements test down z n a ≡ true → in_span (elements_span down z n a) x ≡ in_elements down z n a x) (sym (width_size width))
      (by_count down (one_less width) (width_small width) n a x) e

-- -- Entries

module _ (image : Image) (memory : Bytes) (low : AreLow (is_mapped memory)) where
  open_low : AreLow (is_open image memory)
  open_low a e = low a (and_left (is_some (memory a)) _ e)

  fits_both : (es fs : List Effect) → effects_fit image memory (es ++ fs) ≡ true → effects_fit image memory es ≡ true
  fits_both [] fs e = refl
  fits_both (x ∷ es) fs e =
      ap (λ b. b && effects_fit image memory es) (and_left (effect_fits image memory x) _ e)
      ∙ fits_both es fs (and_right (effect_fits image memory x) _ e)

  fits_later : (es fs : List Effect) → effects_fit image memory (es ++ fs) ≡ true → effects_fit image memory fs ≡ true
  fits_later [] fs e = e
  fits_later (x ∷ es) fs e = fits_later es fs (and_right (effect_fits image memory x) _ e)

  pub targets_are : (e : Entry) (x : ℕ) → effects_fit image memory (entry_effects e) ≡ true
      → is_any (target_spans e) x ≡ effects_write (entry_effects e) (AtByte x)
  targets_are (entry.Set width reg value) x fits = refl
  targets_are (entry.High reg value) x fits = refl
  targets_are (entry.Turn flag value) x fits = refl
  targets_are (entry.Flags flags) x fits = sym (flags_write_none flags x)
  targets_are (entry.Store at width value) x fits =
      ap (λ b. b || false) (number_is (is_open image memory) open_low width at x (sym (bytes_among (is_open image memory) at (size width) value) ∙ and_left _ true fits)
      ∙ sym (of_number at (size width) value x))
  targets_are (entry.Halves B8 l h) x fits = refl
  targets_are (entry.Halves W16 l h) x fits = refl
  targets_are (entry.Halves D32 l h) x fits = refl
  targets_are (entry.Quotient B8 q r) x fits = refl
  targets_are (entry.Quotient W16 q r) x fits = refl
  targets_are (entry.Quotient D32 q r) x fits = refl
  targets_are (entry.Copied down width count from to) x fits =
      let both = sym (copied_fits image memory down (size width) count from to) ∙ fits_both (copied down (size width) count from to) _ fits in
      or_none _
      ∙ elements_are (is_open image memory) open_low down width count to x (and_right (all_in_elements (is_mapped memory) down (size width) count from) _ both)
      ∙ sym (copied_write down (size width) count from to x) ∙ sym (or_none _)
      ∙ sym (write_append (copied down (size width) count from to) (sets Whole 6 (stepped down (size width) count from) ∷ sets Whole 7 (stepped down (size width) count to) ∷ []) (AtByte x))
  targets_are (entry.Filled down width value count to) x fits =
      or_none _
      ∙ elements_are (is_open image memory) open_low down width count to x
      (sym (filled_fits image memory down (size width) value count to) ∙ fits_both (filled down (size width) value count to) _ fits)
      ∙ sym (filled_write down (size width) value count to x) ∙ sym (or_none _)
      ∙ sym (write_append (filled down (size width) value count to) (sets Whole 7 (stepped down (size width) count to) ∷ []) (AtByte x))

  both_spans : (a b : List Span) (x : ℕ) → is_any (a ++ b) x ≡ (is_any a x || is_any b x)
  both_spans a b x = list_any-append (λ s. within s.start s.end x) a b

  pub all_targets_are : (es : Effects) (x : ℕ) → effects_fit image memory (all_effects es) ≡ true
      → is_any (of_entries target_spans es) x ≡ effects_write (all_effects es) (AtByte x)
  all_targets_are effects.Nothing x fits = refl
  all_targets_are (effects.One a) x fits = targets_are a x fits
  all_targets_are (effects.Two a b) x fits =
      both_spans (target_spans a) (target_spans b) x
      ∙ ap (λ t. t || is_any (target_spans b) x) (targets_are a x (fits_both (entry_effects a) (entry_effects b) fits))
      ∙ ap (λ t. effects_write (entry_effects a) (AtByte x) || t) (targets_are b x (fits_later (entry_effects a) (entry_effects b) fits))
      ∙ sym (write_append (entry_effects a) (entry_effects b) (AtByte x))

  -- -- What they take

  taken_by_both : (es fs : List Effect) (l : Location) → effects_take (es ++ fs) l ≡ (effects_take es l || effects_take fs l)
  taken_by_both [] fs l = refl
  taken_by_both (e ∷ es) fs l = ap (λ b. effect_takes e l || b) (taken_by_both es fs l) ∙ assoc (effect_takes e l) (effects_take es l) (effects_take fs l)
    where
      assoc : (a b c : Bool) → (a || (b || c)) ≡ ((a || b) || c)
      assoc true b c = refl
      assoc false b c = refl

  takes_none : (n : ℕ) (o : FlagOut) (x : ℕ) → effects_take (flag_effect n o) (AtByte x) ≡ false
  takes_none n (out.Set value) x = refl
  takes_none n out.Kept x = refl
  takes_none n out.Undefined x = refl

  none_taken : (es fs : List Effect) (x : ℕ) → effects_take es (AtByte x) ≡ false → effects_take fs (AtByte x) ≡ false → effects_take (es ++ fs) (AtByte x) ≡ false
  none_taken es fs x p q = taken_by_both es fs (AtByte x) ∙ ap (λ b. b || effects_take fs (AtByte x)) p ∙ q

  flags_take_none : (f : FlagsOut) (x : ℕ) → effects_take (flag_effects f) (AtByte x) ≡ false
  flags_take_none f x =
      none_taken (((flag_effect 0 f.cf ++ flag_effect 1 f.pf) ++ flag_effect 2 f.zf) ++ flag_effect 3 f.sf) (flag_effect 4 f.of) x
      (none_taken ((flag_effect 0 f.cf ++ flag_effect 1 f.pf) ++ flag_effect 2 f.zf) (flag_effect 3 f.sf) x
      (none_taken (flag_effect 0 f.cf ++ flag_effect 1 f.pf) (flag_effect 2 f.zf) x
      (none_taken (flag_effect 0 f.cf) (flag_effect 1 f.pf) x (takes_none 0 f.cf x) (takes_none 1 f.pf x)) (takes_none 2 f.zf x)) (takes_none 3 f.sf x)) (takes_none 4 f.of x)

  pub sources_are : (e : Entry) (x : ℕ) → effects_fit image memory (entry_effects e) ≡ true
      → is_any (source_spans e) x ≡ effects_take (entry_effects e) (AtByte x)
  sources_are (entry.Set B8 reg value) x fits = refl
  sources_are (entry.Set W16 reg value) x fits = refl
  sources_are (entry.Set D32 reg value) x fits = refl
  sources_are (entry.High reg value) x fits = refl
  sources_are (entry.Turn flag value) x fits = refl
  sources_are (entry.Flags flags) x fits = sym (flags_take_none flags x)
  sources_are (entry.Store at width value) x fits = refl
  sources_are (entry.Halves B8 l h) x fits = refl
  sources_are (entry.Halves W16 l h) x fits = refl
  sources_are (entry.Halves D32 l h) x fits = refl
  sources_are (entry.Quotient B8 q r) x fits = refl
  sources_are (entry.Quotient W16 q r) x fits = refl
  sources_are (entry.Quotient D32 q r) x fits = refl
  sources_are (entry.Copied down width count from to) x fits =
      let both = sym (copied_fits image memory down (size width) count from to) ∙ fits_both (copied down (size width) count from to) _ fits in
      or_none _
      ∙ elements_are (is_mapped memory) low down width count from x (and_left (all_in_elements (is_mapped memory) down (size width) count from) _ both)
      ∙ sym (copied_take down (size width) count from to x) ∙ sym (or_none _)
      ∙ sym (taken_by_both (copied down (size width) count from to) (sets Whole 6 (stepped down (size width) count from) ∷ sets Whole 7 (stepped down (size width) count to) ∷ []) (AtByte x))
  sources_are (entry.Filled down width value count to) x fits =
      sym (filled_take down (size width) value count to x) ∙ sym (or_none _)
      ∙ sym (taken_by_both (filled down (size width) value count to) (sets Whole 7 (stepped down (size width) count to) ∷ []) (AtByte x))

  all_sources_are : (es : Effects) (x : ℕ) → effects_fit image memory (all_effects es) ≡ true
      → is_any (of_entries source_spans es) x ≡ effects_take (all_effects es) (AtByte x)
  all_sources_are effects.Nothing x fits = refl
  all_sources_are (effects.One a) x fits = sources_are a x fits
  all_sources_are (effects.Two a b) x fits =
      both_spans (source_spans a) (source_spans b) x
      ∙ ap (λ t. t || is_any (source_spans b) x) (sources_are a x (fits_both (entry_effects a) (entry_effects b) fits))
      ∙ ap (λ t. effects_take (entry_effects a) (AtByte x) || t) (sources_are b x (fits_later (entry_effects a) (entry_effects b) fits))
      ∙ sym (taken_by_both (entry_effects a) (entry_effects b) (AtByte x))

  -- -- Numbers that were read

  all_from : (a n : ℕ) → ((x : ℕ) → is_among a n x ≡ true → is_mapped memory x ≡ true) → all_among (is_mapped memory) a n ≡ true
  all_from a zero each = refl
  all_from a (suc n) each =
      ap (λ b. b && all_among (is_mapped memory) (a + 1) n) (each a (or_left (a == a) _ (same_number a)))
      ∙ all_from (a + 1) n (λ x e. each x (or_right (a == x) _ e))

  one_read : (read : Read) (x : ℕ) → ((y : ℕ) → covers read y ≡ true → is_mapped memory y ≡ true) → in_span (read_span read) x ≡ covers read x
  one_read read x each = number_is (is_mapped memory) low read.width read.at x (all_from read.at (size read.width) each)

  numbers_are : (numbers : Reads) (x : ℕ) → ((y : ℕ) → has_read numbers y ≡ true → is_mapped memory y ≡ true) → is_any (number_spans numbers) x ≡ has_read numbers x
  numbers_are reads.Nothing x each = refl
  numbers_are (reads.One a) x each = or_none _ ∙ one_read a x each
  numbers_are (reads.Two a b) x each =
      ap (λ t. in_span (read_span a) x || t) (or_none _)
      ∙ ap (λ t. t || in_span (read_span b) x) (one_read a x (λ y e. each y (or_left _ _ e)))
      ∙ ap (λ t. covers a x || t) (one_read b x (λ y e. each y (or_right _ _ e)))

  pub reads_are : (numbers : Reads) (es : Effects) (x : ℕ) → ((y : ℕ) → has_read numbers y ≡ true → is_mapped memory y ≡ true)
      → effects_fit image memory (all_effects es) ≡ true → is_any (read_spans numbers es) x ≡ (has_read numbers x || effects_take (all_effects es) (AtByte x))
  reads_are numbers es x each fits =
      both_spans (number_spans numbers) (of_entries source_spans es) x
      ∙ ap (λ t. t || is_any (of_entries source_spans es) x) (numbers_are numbers x each)
      ∙ ap (λ t. has_read numbers x || t) (all_sources_are es x fits)
