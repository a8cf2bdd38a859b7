-- What stands at an address is what the machine does there.
use Rattle.std.proofs.Common.{◌≡◌, ℕ, ◌-◌, ◌<◌, length, ap, ◌∙◌, arith}
use Rattle.std.specs.Prelude.{nat_lt, ◌==◌, ◌%◌, ◌/◌, true, cond, Some, None, slice_get, option_and_then}
use Rattle.std.proofs.lemmas.Bool.{lt-ltb}
use Rattle.image_map.specs.declared.image.Image.{Image}
use Rattle.image_map.specs.declared.region.Kind.{Kind}
use Rattle.image_map.specs.declared.region.Settings.{Settings}
use Rattle.image_map.specs.Memory.{segment_at, has_flag}
use Rattle.image_map.specs.Names.{extern_number}
use Rattle.image_map.specs.Queries.{is_code}
use Rattle.image_map.specs.Whole.{IsImage}
use Rattle.image_map.proofs.SegmentLaws.{segments_below}
use Rattle.ia32_types.specs.declared.Instr.{Instr}
use Rattle.item_list.proofs.OptionLaws.{some_passes}
use Rattle.ia32_semantics.specs.Fetch.{IsFetched}
use Rattle.ia32_semantics.specs.Step.{IsExternAt}
use Rattle.ia32_semantics.proofs.ActLaws.{fetched_code}
use Rattle.ia32_fetch.specs.Fetched.{instruction_at}
use Rattle.ia32_fetch.proofs.FetchLaws.{fetched_at}
use Rattle.abs_steps.specs.Places.{Instruction, Extern, content_of, content_at, kind_at}

-- -- The instruction

no_extern : (image : Image) (settings : Settings) (a : ℕ) → IsImage image → is_code image a ≡ true → kind_at image settings a ≡ None
unfolding kind_at extern_number
no_extern image settings a is code =
    let low : a < 2147483647 = segments_below image.segments a is.segments (some_passes (segment_at image.segments a) (has_flag 1) code) in
    let below : nat_lt a 4026531840 ≡ true = lt-ltb a 4026531840 (omega (arith, low)) in
    ap (λ b. option_and_then (slice_get settings.kinds) (cond b None (cond ((a - 4026531840) % 16 == 0) (cond (nat_lt ((a - 4026531840) / 16) (length image.externs)) (Some ((a - 4026531840) / 16)) None) None))) below

pub fetched_stands : (image : Image) (settings : Settings) (a : ℕ) (i : Instr) → IsImage image → IsFetched image a i → content_at image settings a ≡ Instruction i
unfolding content_at
fetched_stands image settings a i is fetched =
    ap (λ k. content_of k (instruction_at image a)) (no_extern image settings a is (fetched_code image a i fetched)) ∙ ap (content_of None) (fetched_at image a i fetched)

-- -- The extern

pub extern_stands : (image : Image) (settings : Settings) (a : ℕ) (k : Kind) → IsExternAt image settings a k → content_at image settings a ≡ Extern k
unfolding content_at kind_at
extern_stands image settings a k is =
    ap (λ o. content_of o (instruction_at image a)) (ap (option_and_then (slice_get settings.kinds)) is.stands ∙ is.kind)
