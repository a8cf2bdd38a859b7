-- What is done to mapped bytes is what effects do, where these fit.
use Rattle.std.proofs.Common.{◌≡◌, ℕ, zero, suc, ◌+◌, ◌/◌, ◌%◌, List, [], ◌∷◌, refl, sym, ap, ◌∙◌}
use Rattle.std.specs.Prelude.{Bool, true, false, cond, ◌&&◌, ◌==◌, Option, Some, is_some}
use Rattle.std.proofs.lemmas.Bool.Decides.{nat_tests}
use Rattle.std.proofs.Common.{arith}
use mathlib.Core.Path.{fun_ext}
use Rattle.image_map.specs.declared.image.Image.{Image}
use Rattle.ia32_semantics.specs.State.{State, Bytes}
use Rattle.ia32_semantics.specs.Effects.{stores, copies, overwritten, bytes_from, all_changed, is_open, is_mapped, all_among, all_of_bytes, effect_fits, effects_fit}
use Rattle.ia32_semantics.specs.Operands.{number_bytes}
use Rattle.ia32_semantics.specs.Strings.{stepped, copied, filled}
use Rattle.ia32_semantics.proofs.EffectLemmas.{by_test, and_left, and_right, overwritten_maps, all_from, changed_maps, all_fit_same}
use Rattle.ia32_memory.specs.Changes.{with_byte, with_bytes, filled_over, copied_over, all_in_elements}

byte_go : (a x : ℕ) (m : Bytes) (v : Option ℕ) → is_some (m a) ≡ true → cond (a == x && is_some (m x)) v (m x) ≡ cond (a == x) v (m x)
byte_go a x m v mapped =
    by_test (a == x)
    (λ same. let e : x ≡ a = grind (arith, nat_tests) in rw (same, e, mapped) refl)
    (λ other. rw other refl)

-- bytes that are open are replaced
pub stored_is : (image : Image) (m : Bytes) (a : ℕ) (bytes : List ℕ) → all_of_bytes (is_open image m) a bytes ≡ true → with_bytes m a bytes ≡ overwritten m a bytes
stored_is image m a [] open_ = refl
stored_is image m a (byte ∷ rest) open_ =
    let later = and_right (is_open image m a) _ open_ in
    let maps = overwritten_maps image m (a + 1) rest later in
    let here : is_some (overwritten m (a + 1) rest a) ≡ true = maps.same a ∙ and_left (is_some (m a)) _ (and_left (is_open image m a) _ open_) in
    ap (λ w. with_byte w a (byte % 256)) (stored_is image m (a + 1) rest later)
    ∙ fun_ext (λ x. byte_go a x (overwritten m (a + 1) rest) (Some (byte % 256)) here)

pub filled_is : (image : Image) (down : Bool) (z value n to : ℕ) (s : State) → effects_fit image s.memory (filled down z value n to) ≡ true
    → all_changed (filled down z value n to) s ≡ record s { memory = filled_over down z value n to s.memory }
unfolding filled_over
filled_is image down z value zero to s fits = refl
filled_is image down z value (suc n) to s fits =
    let here = and_left (all_of_bytes (is_open image s.memory) to (number_bytes z value)) _ fits in
    let maps = changed_maps image (stores to (number_bytes z value)) s here in
    let later : effects_fit image (overwritten s.memory to (number_bytes z value)) (filled down z value n (stepped down z 1 to)) ≡ true =
    all_fit_same image (overwritten s.memory to (number_bytes z value)) s.memory (filled down z value n (stepped down z 1 to)) maps
    ∙ and_right (all_of_bytes (is_open image s.memory) to (number_bytes z value)) _ fits in
    filled_is image down z value n (stepped down z 1 to) (record s { memory = overwritten s.memory to (number_bytes z value) }) later
    ∙ ap (λ m. record s { memory = filled_over down z value n (stepped down z 1 to) m }) (sym (stored_is image s.memory to (number_bytes z value) here))

pub copied_is : (image : Image) (down : Bool) (z n from to : ℕ) (s : State) → effects_fit image s.memory (copied down z n from to) ≡ true
    → all_changed (copied down z n from to) s ≡ record s { memory = copied_over down z n from to s.memory }
unfolding copied_over
copied_is image down z zero from to s fits = refl
copied_is image down z (suc n) from to s fits =
    let here = and_left (effect_fits image s.memory (copies to from z)) _ fits in
    let open_ : all_of_bytes (is_open image s.memory) to (bytes_from s.memory from z) ≡ true =
    all_from (is_open image s.memory) s.memory from to z ∙ and_right (all_among (is_mapped s.memory) from z) _ here in
    let maps = changed_maps image (copies to from z) s here in
    let later : effects_fit image (overwritten s.memory to (bytes_from s.memory from z)) (copied down z n (stepped down z 1 from) (stepped down z 1 to)) ≡ true =
    all_fit_same image (overwritten s.memory to (bytes_from s.memory from z)) s.memory (copied down z n (stepped down z 1 from) (stepped down z 1 to)) maps
    ∙ and_right (effect_fits image s.memory (copies to from z)) _ fits in
    copied_is image down z n (stepped down z 1 from) (stepped down z 1 to) (record s { memory = overwritten s.memory to (bytes_from s.memory from z) }) later
    ∙ ap (λ m. record s { memory = copied_over down z n (stepped down z 1 from) (stepped down z 1 to) m }) (sym (stored_is image s.memory to (bytes_from s.memory from z) open_))

-- -- What fits

pub bytes_among : (test : ℕ → Bool) (a n value : ℕ) → all_of_bytes test a (number_bytes n value) ≡ all_among test a n
bytes_among test a zero value = refl
bytes_among test a (suc n) value = ap (λ b. test a && b) (bytes_among test (a + 1) n (value / 256))

pub filled_fits : (image : Image) (m : Bytes) (down : Bool) (z value n to : ℕ) → effects_fit image m (filled down z value n to) ≡ all_in_elements (is_open image m) down z n to
unfolding all_in_elements
filled_fits image m down z value zero to = refl
filled_fits image m down z value (suc n) to =
    ap (λ b. b && effects_fit image m (filled down z value n (stepped down z 1 to))) (bytes_among (is_open image m) to z value)
    ∙ ap (λ b. all_among (is_open image m) to z && b) (filled_fits image m down z value n (stepped down z 1 to))

and_swapped : (a b c d : Bool) → (a && b && (c && d)) ≡ (a && c && (b && d))
and_swapped true true true d = refl
and_swapped true true false d = refl
and_swapped true false true d = refl
and_swapped true false false d = refl
and_swapped false b c d = refl

pub copied_fits : (image : Image) (m : Bytes) (down : Bool) (z n from to : ℕ)
    → effects_fit image m (copied down z n from to) ≡ (all_in_elements (is_mapped m) down z n from && all_in_elements (is_open image m) down z n to)
unfolding all_in_elements
copied_fits image m down z zero from to = refl
copied_fits image m down z (suc n) from to =
    ap (λ b. effect_fits image m (copies to from z) && b) (copied_fits image m down z n (stepped down z 1 from) (stepped down z 1 to))
    ∙ and_swapped (all_among (is_mapped m) from z) (all_among (is_open image m) to z) (all_in_elements (is_mapped m) down z n (stepped down z 1 from)) (all_in_elements (is_open image m) down z n (stepped down z 1 to))
