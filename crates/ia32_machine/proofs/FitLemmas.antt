-- Which effects of an entry fit.
use Rattle.std.proofs.Common.{◌≡◌, ℕ, List, [], ◌∷◌, ◌++◌, refl, sym, ap, ◌∙◌}
use Rattle.std.specs.Prelude.{Bool, true, false, ◌&&◌}
use mathlib.Core.Path.{fun_ext}
use Rattle.image_map.specs.declared.image.Image.{Image}
use Rattle.ia32_types.specs.declared.Width.{Width}
use Rattle.ia32_semantics.specs.State.{State, Bytes}
use Rattle.ia32_semantics.specs.Effects.{Effect, Whole, sets, stores, all_changed, is_open, is_mapped, all_among, effects_fit}
use Rattle.ia32_types.specs.Numbers.{size}
use Rattle.ia32_semantics.specs.Operands.{number_bytes}
use Rattle.ia32_semantics.specs.Strings.{stepped, copied, filled}
use Rattle.ia32_semantics.proofs.EffectLemmas.{and_left, and_right, all_fit_same, effects_map, fit_append}
use Rattle.ia32_memory.specs.Mapped.{Mapped, bytes_of, is_open_at}
use Rattle.ia32_memory.specs.Changes.{all_in_elements}
use Rattle.ia32_memory.proofs.EffectLaws.{bytes_among, filled_fits, copied_fits}
use Rattle.ia32_plan.specs.declared.entries.Entry.{Entry}
use Rattle.ia32_plan.specs.declared.entries.Entry.TheVariants as entry
use Rattle.ia32_plan.specs.declared.entries.Effects.{Effects}
use Rattle.ia32_plan.specs.declared.entries.Effects.TheVariants as effects
use Rattle.ia32_plan.specs.Plans.{entry_effects, all_effects}
use Rattle.ia32_machine.specs.Opens.{KnowsOpen}

pub and_none : (a : Bool) → (a && true) ≡ a
and_none true = refl
and_none false = refl

-- effects that fit leave the others to fit, since none changes what is mapped
pub fit_after : (image : Image) (es fs : List Effect) (s : State) → effects_fit image s.memory (es ++ fs) ≡ true
    → (effects_fit image s.memory es ≡ true) × (effects_fit image (all_changed es s).memory fs ≡ true)
fit_after image es fs s fits =
    let both = sym (fit_append image s.memory es fs) ∙ fits in
    let first = and_left (effects_fit image s.memory es) _ both in
    (first, all_fit_same image (all_changed es s).memory s.memory fs (effects_map image es s first) ∙ and_right (effects_fit image s.memory es) _ both)

-- -- Bytes

tests_same : (image : Image) (memory : Mapped) → KnowsOpen image memory → is_open_at memory ≡ is_open image (bytes_of memory)
tests_same image memory knows = fun_ext knows.opens

pub store_fits : (image : Image) (memory : Mapped) (a n value : ℕ) (r : Bool) → KnowsOpen image memory → r ≡ all_among (is_open_at memory) a n
    → r ≡ effects_fit image (bytes_of memory) (stores a (number_bytes n value) ∷ [])
store_fits image memory a n value r knows is =
    is ∙ ap (λ t. all_among t a n) (tests_same image memory knows) ∙ sym (bytes_among (is_open image (bytes_of memory)) a n value)
    ∙ sym (and_none _)

pub fill_fits : (image : Image) (memory : Mapped) (down : Bool) (z value n to k : ℕ) (r : Bool) → KnowsOpen image memory → r ≡ all_in_elements (is_open_at memory) down z n to
    → r ≡ effects_fit image (bytes_of memory) (filled down z value n to ++ (sets Whole 7 k ∷ []))
fill_fits image memory down z value n to k r knows is =
    is ∙ ap (λ t. all_in_elements t down z n to) (tests_same image memory knows) ∙ sym (filled_fits image (bytes_of memory) down z value n to)
    ∙ sym (and_none _) ∙ sym (fit_append image (bytes_of memory) (filled down z value n to) (sets Whole 7 k ∷ []))

pub copy_fits : (image : Image) (memory : Mapped) (down : Bool) (z n from to j k : ℕ) (p q : Bool) → KnowsOpen image memory
    → p ≡ all_in_elements (is_mapped (bytes_of memory)) down z n from → q ≡ all_in_elements (is_open_at memory) down z n to
    → (p && q) ≡ effects_fit image (bytes_of memory) (copied down z n from to ++ (sets Whole 6 j ∷ sets Whole 7 k ∷ []))
copy_fits image memory down z n from to j k p q knows first second =
    ap (λ x. x && q) first ∙ ap (λ y. all_in_elements (is_mapped (bytes_of memory)) down z n from && y) (second ∙ ap (λ t. all_in_elements t down z n to) (tests_same image memory knows))
    ∙ sym (copied_fits image (bytes_of memory) down z n from to)
    ∙ sym (and_none _) ∙ sym (fit_append image (bytes_of memory) (copied down z n from to) (sets Whole 6 j ∷ sets Whole 7 k ∷ []))

-- -- Entries

pub fill_entry : (image : Image) (e : Entry) (memory : Mapped) (down : Bool) (width : Width) (value n to : ℕ) (r : Bool) → e ≡ entry.Filled down width value n to → KnowsOpen image memory
    → r ≡ all_in_elements (is_open_at memory) down (size width) n to → r ≡ effects_fit image (bytes_of memory) (entry_effects e)
fill_entry image e memory down width value n to r is knows fits =
    fill_fits image memory down (size width) value n to (stepped down (size width) n to) r knows fits ∙ sym (ap (λ x. effects_fit image (bytes_of memory) (entry_effects x)) is)

pub copy_entry : (image : Image) (e : Entry) (memory : Mapped) (down : Bool) (width : Width) (n from to : ℕ) (p q : Bool) → e ≡ entry.Copied down width n from to → KnowsOpen image memory
    → p ≡ all_in_elements (is_mapped (bytes_of memory)) down (size width) n from → q ≡ all_in_elements (is_open_at memory) down (size width) n to
    → (p && q) ≡ effects_fit image (bytes_of memory) (entry_effects e)
copy_entry image e memory down width n from to p q is knows first second =
    copy_fits image memory down (size width) n from to (stepped down (size width) n from) (stepped down (size width) n to) p q knows first second
    ∙ sym (ap (λ x. effects_fit image (bytes_of memory) (entry_effects x)) is)

-- where the bytes to copy aren't all mapped
pub copy_entry_fails : (image : Image) (e : Entry) (memory : Mapped) (down : Bool) (width : Width) (n from to : ℕ) (p : Bool) → e ≡ entry.Copied down width n from to → KnowsOpen image memory
    → p ≡ all_in_elements (is_mapped (bytes_of memory)) down (size width) n from → p ≡ false → p ≡ effects_fit image (bytes_of memory) (entry_effects e)
copy_entry_fails image e memory down width n from to p is knows first fails =
    fails ∙ sym (ap (λ b. b && all_in_elements (is_open_at memory) down (size width) n to) fails)
    ∙ copy_entry image e memory down width n from to p (all_in_elements (is_open_at memory) down (size width) n to) is knows first refl

pub two_fit : (image : Image) (m : Bytes) (es : Effects) (a b : Entry) (p q : Bool) → es ≡ effects.Two a b → p ≡ effects_fit image m (entry_effects a) → q ≡ effects_fit image m (entry_effects b)
    → (p && q) ≡ effects_fit image m (all_effects es)
two_fit image m es a b p q is first second =
    ap (λ x. x && q) first ∙ ap (λ y. effects_fit image m (entry_effects a) && y) second ∙ sym (fit_append image m (entry_effects a) (entry_effects b))
    ∙ sym (ap (λ x. effects_fit image m (all_effects x)) is)

pub two_fail : (image : Image) (m : Bytes) (es : Effects) (a b : Entry) (p : Bool) → es ≡ effects.Two a b → p ≡ effects_fit image m (entry_effects a) → p ≡ false → p ≡ effects_fit image m (all_effects es)
two_fail image m es a b p is first fails =
    fails ∙ sym (ap (λ x. x && effects_fit image m (entry_effects b)) fails) ∙ two_fit image m es a b p (effects_fit image m (entry_effects b)) is first refl
