-- An address has one act: one instruction is fetched there, or one extern answers.
use Rattle.std.proofs.Common.{◌≡◌, ⊎_elim, ℕ, ◌+◌, ◌<◌, ◌≤◌, List, [], length, take, drop, refl, sym, ap, subst, ◌∙◌, arith, ltb, ltb-true, ltb-false}
use Rattle.std.specs.Prelude.{nat_lt, Bool, true, false, cond, Option, Some, None, slice_get}
use Rattle.std.proofs.Math.Seq.{take-nil}
use Rattle.std.proofs.lemmas.Bool.{cases_Bool}
use Rattle.std.proofs.lemmas.Option.{same_Some}
use Rattle.item_list.proofs.OptionLaws.{some_passes, not_cut}
use Rattle.item_list.proofs.ListLaws.{take_split}
use Rattle.ia32_types.specs.declared.Instr.{Instr}
use Rattle.ia32_types.specs.Spells.{Spells}
use Rattle.ia32_types.proofs.SpellsLemmas.{one_spelling, not_empty}
use Rattle.image_map.specs.declared.image.Image.{Image}
use Rattle.image_map.specs.declared.region.Kind.{Kind}
use Rattle.image_map.specs.declared.region.Settings.{Settings}
use Rattle.image_map.specs.Memory.{segment_at}
use Rattle.image_map.specs.Names.{extern_number}
use Rattle.image_map.specs.Queries.{byte_at, is_code}
use Rattle.image_map.specs.Whole.{IsImage}
use Rattle.image_map.proofs.SegmentLaws.{segments_below}
use Rattle.ia32_semantics.specs.Fetch.{begun_by, code_run, fetch_window, IsFetched}
use Rattle.ia32_semantics.specs.Step.{Act, Executes, Answers, IsExternAt, IsActAt}

-- -- One instruction is fetched at an address

within_other : (bytes : List ℕ) (at m n : ℕ) (i j : Instr) → m ≤ n → Spells (take m bytes) at i → Spells (take n bytes) at j → i ≡ j
within_other bytes at m n i j within one two =
    (one_spelling (take m bytes) (drop m (take n bytes)) at i j one (subst (λ front. Spells front at j) (take_split bytes m n within) two)).1

pub one_fetched : (image : Image) (a : ℕ) (i j : Instr) → IsFetched image a i → IsFetched image a j → i ≡ j
one_fetched image a i j one two =
    ⊎_elim
    (λ low. within_other (fetch_window image a) a one.count two.count i j (let below : one.count < two.count = ltb-true one.count two.count low in omega arith) one.spelled two.spelled)
    (λ high. sym (within_other (fetch_window image a) a two.count one.count j i (ltb-false one.count two.count high) two.spelled one.spelled))
    (cases_Bool (ltb one.count two.count))

-- -- No extern stands at code

code_below : (image : Image) (a : ℕ) → IsImage image → is_code image a ≡ true → a < 0x7FFFFFFF
code_below image a is code = segments_below image.segments a is.segments (some_passes (segment_at image.segments a) _ code)

no_window : (image : Image) (a : ℕ) → is_code image a ≡ false → fetch_window image a ≡ []
unfolding code_run
no_window image a data_there = ap (λ code. begun_by (cond code (byte_at image a) None) (code_run image (a + 1) 14)) data_there

pub fetched_code : (image : Image) (a : ℕ) (i : Instr) → IsFetched image a i → is_code image a ≡ true
fetched_code image a i fetched =
    ⊎_elim (λ code. code)
    (λ other. absurd (not_empty a i (subst (λ bytes. Spells bytes a i) (ap (take fetched.count) (no_window image a other) ∙ take-nil fetched.count) fetched.spelled)))
    (cases_Bool (is_code image a))

extern_above : (count a n : ℕ) → extern_number count a ≡ Some n → 0xF0000000 ≤ a
unfolding extern_number
extern_above count a n is = ltb-false a 0xF0000000 (not_cut (nat_lt a 0xF0000000) _ n is)

-- -- An address has one act

same_extern : (image : Image) (settings : Settings) (a : ℕ) (k l : Kind) → IsExternAt image settings a k → IsExternAt image settings a l → k ≡ l
same_extern image settings a k l one two =
    let number : one.number ≡ two.number = same_Some one.number two.number (sym one.stands ∙ two.stands) in
    same_Some k l (sym one.kind ∙ ap (slice_get settings.kinds) number ∙ two.kind)

pub acts_are : (image : Image) (settings : Settings) (a : ℕ) (x y : Act) → IsImage image → IsActAt image settings a x → IsActAt image settings a y → x ≡ y
acts_are image settings a (Executes i) (Executes j) is one two = ap Executes (one_fetched image a i j one two)
acts_are image settings a (Executes i) (Answers at k) is one two =
    absurd (let low = code_below image a is (fetched_code image a i one) in let high = extern_above (length image.externs) a two.1.number two.1.stands in omega (arith, low, high))
acts_are image settings a (Answers at k) (Executes j) is one two =
    absurd (let low = code_below image a is (fetched_code image a j two) in let high = extern_above (length image.externs) a one.1.number one.1.stands in omega (arith, low, high))
acts_are image settings a (Answers at k) (Answers other l) is one two =
    let same : at ≡ other = one.0 ∙ sym two.0 in
    let kinds : k ≡ l = same_extern image settings a k l one.1 two.1 in
    λ i. Answers (same i) (kinds i)
