-- Effects done one after another, as code does them.
use Rattle.std.proofs.Common.{◌≡◌, ℕ, ◌+◌, ◌*◌, ◌%◌, List, [], ◌∷◌, ◌++◌, sym, ap, ◌∙◌}
use Rattle.std.specs.Prelude.{Bool, true}
use Rattle.image_map.specs.declared.image.Image.{Image}
use Rattle.ia32_semantics.specs.State.{State, Bytes, put}
use Rattle.ia32_semantics.specs.Effects.{Effect, Whole, Word, sets, stores, changed, all_changed, effects_fit, all_of_bytes, is_open}
use Rattle.ia32_types.specs.Numbers.{size}
use Rattle.ia32_semantics.specs.Operands.{number_bytes}
use Rattle.ia32_semantics.specs.Strings.{stepped, copied, filled}
use Rattle.ia32_semantics.proofs.EffectLemmas.{and_left, changed_append}
use Rattle.ia32_memory.specs.Changes.{with_bytes, filled_over, copied_over}
use Rattle.ia32_memory.proofs.EffectLaws.{stored_is, filled_is, copied_is}
use Rattle.ia32_types.specs.declared.Width.{Width}
use Rattle.ia32_plan.specs.declared.entries.Entry.{Entry}
use Rattle.ia32_plan.specs.declared.entries.Entry.TheVariants as entry
use Rattle.ia32_plan.specs.declared.entries.Effects.{Effects}
use Rattle.ia32_plan.specs.declared.entries.Effects.TheVariants as effects
use Rattle.ia32_plan.specs.Plans.{entry_effects, all_effects}
use Rattle.ia32_machine.proofs.CoreLemmas.{halves_word}
use Rattle.ia32_machine.proofs.FitLemmas.{fit_after}

-- one list of effects after another
pub then_all : (es fs : List Effect) (s t u : State) → t ≡ all_changed es s → u ≡ all_changed fs t → u ≡ all_changed (es ++ fs) s
then_all es fs s t u first second = second ∙ ap (all_changed fs) first ∙ sym (changed_append es fs s)

pub two_sets : (s t u : State) (e f : Effect) → t ≡ changed e s → u ≡ changed f t → u ≡ all_changed (e ∷ f ∷ []) s
two_sets s t u e f first second = second ∙ ap (changed f) first

pub store_state : (image : Image) (s : State) (m : Bytes) (a : ℕ) (bytes : List ℕ) → m ≡ with_bytes s.memory a bytes → effects_fit image s.memory (stores a bytes ∷ []) ≡ true
    → record s { memory = m } ≡ all_changed (stores a bytes ∷ []) s
store_state image s m a bytes is fits =
    ap (λ (n : Bytes). record s { memory = n }) (is ∙ stored_is image s.memory a bytes (and_left (all_of_bytes (is_open image s.memory) a bytes) true fits))

pub fill_state : (image : Image) (down : Bool) (z value n to target : ℕ) (s t : State) (m : Bytes) → m ≡ filled_over down z value n to s.memory
    → target ≡ stepped down z n to → t ≡ changed (sets Whole 7 target) (record s { memory = m })
    → effects_fit image s.memory (filled down z value n to ++ (sets Whole 7 (stepped down z n to) ∷ [])) ≡ true
    → t ≡ all_changed (filled down z value n to ++ (sets Whole 7 (stepped down z n to) ∷ [])) s
fill_state image down z value n to target s t m is at set fits =
    let first = fit_after image (filled down z value n to) (sets Whole 7 (stepped down z n to) ∷ []) s fits in
    then_all (filled down z value n to) (sets Whole 7 (stepped down z n to) ∷ []) s (record s { memory = m }) t
    (ap (λ (k : Bytes). record s { memory = k }) is ∙ sym (filled_is image down z value n to s first.0))
    (set ∙ ap (λ v. changed (sets Whole 7 v) (record s { memory = m })) at)

pub copy_state : (image : Image) (down : Bool) (z n from to source target : ℕ) (s t u : State) (m : Bytes) → m ≡ copied_over down z n from to s.memory
    → source ≡ stepped down z n from → target ≡ stepped down z n to → t ≡ changed (sets Whole 6 source) (record s { memory = m }) → u ≡ changed (sets Whole 7 target) t
    → effects_fit image s.memory (copied down z n from to ++ (sets Whole 6 (stepped down z n from) ∷ sets Whole 7 (stepped down z n to) ∷ [])) ≡ true
    → u ≡ all_changed (copied down z n from to ++ (sets Whole 6 (stepped down z n from) ∷ sets Whole 7 (stepped down z n to) ∷ [])) s
copy_state image down z n from to source target s t u m is at_source at_target first_set second_set fits =
    let first = fit_after image (copied down z n from to) (sets Whole 6 (stepped down z n from) ∷ sets Whole 7 (stepped down z n to) ∷ []) s fits in
    then_all (copied down z n from to) (sets Whole 6 (stepped down z n from) ∷ sets Whole 7 (stepped down z n to) ∷ []) s (record s { memory = m }) u
    (ap (λ (k : Bytes). record s { memory = k }) is ∙ sym (copied_is image down z n from to s first.0))
    (two_sets (record s { memory = m }) t u (sets Whole 6 (stepped down z n from)) (sets Whole 7 (stepped down z n to))
    (first_set ∙ ap (λ v. changed (sets Whole 6 v) (record s { memory = m })) at_source) (second_set ∙ ap (λ v. changed (sets Whole 7 v) t) at_target))

pub halves_state : (s : State) (low high : ℕ) → changed (sets Word 0 (low % 65536 + 256 * (high % 256))) s ≡ changed (sets Word 0 (low + 256 * high)) s
halves_state s low high = ap (λ r. record s { registers = put s.registers 0 r }) (halves_word (s.registers 0) low high)

-- -- Entries

pub store_entry : (image : Image) (e : Entry) (at : ℕ) (width : Width) (value : ℕ) (s : State) (m : Bytes) → e ≡ entry.Store at width value → m ≡ with_bytes s.memory at (number_bytes (size width) value)
    → effects_fit image s.memory (entry_effects e) ≡ true → record s { memory = m } ≡ all_changed (entry_effects e) s
store_entry image e at width value s m is write fits =
    store_state image s m at (number_bytes (size width) value) write (sym (ap (λ x. effects_fit image s.memory (entry_effects x)) is) ∙ fits)
    ∙ sym (ap (λ x. all_changed (entry_effects x) s) is)

pub two_entries : (image : Image) (es : Effects) (a b : Entry) (s t u : State) → es ≡ effects.Two a b
    → (effects_fit image s.memory (entry_effects a) ≡ true → t ≡ all_changed (entry_effects a) s)
    → (effects_fit image t.memory (entry_effects b) ≡ true → u ≡ all_changed (entry_effects b) t)
    → effects_fit image s.memory (all_effects es) ≡ true → u ≡ all_changed (all_effects es) s
two_entries image es a b s t u is first second fits =
    let both = fit_after image (entry_effects a) (entry_effects b) s (sym (ap (λ x. effects_fit image s.memory (all_effects x)) is) ∙ fits) in
    let done = first both.0 in
    then_all (entry_effects a) (entry_effects b) s t u done (second (ap (λ (x : State). effects_fit image x.memory (entry_effects b)) done ∙ both.1))
    ∙ sym (ap (λ x. all_changed (all_effects x) s) is)
