-- Registers and flags of a core, of which one is changed.
use Rattle.std.proofs.Common.{◌≡◌, ℕ, zero, suc, ◌+◌, ◌*◌, ◌/◌, ◌%◌, ◌-◌, ◌^◌, ◌<◌, List, [], ◌∷◌, length, refl, sym, ap, subst, ◌∙◌, arith, eqb-true}
use Rattle.std.specs.Prelude.{Bool, true, false, cond, ◌==◌, slice_index, slice_set, if◌then◌else◌}
use Rattle.std.proofs.lemmas.Bool.Decides.{nat_tests}
use Rattle.std.proofs.Math.Nat.{add-mod-mod}
use mathlib.Core.Path.{fun_ext}
use Rattle.ia32_semantics.specs.State.{put}
use Rattle.ia32_semantics.specs.Effects.{Part, sets, turns, changed, with_part, Word}
use Rattle.ia32_types.specs.declared.Flag.{Flag}
use Rattle.ia32_types.specs.declared.Flag.TheVariants as kind
use Rattle.ia32_types.specs.Numbers.{flag_number}
use Rattle.ia32_semantics.proofs.EffectLemmas.{by_test}
use Rattle.ia32_semantics.specs.Strings.{stepped}
use Rattle.ia32_plan.specs.declared.state.Core.{Core}
use Rattle.ia32_plan.specs.Views.{state_of}

-- -- Registers

index_same : (xs : List ℕ) (n v : ℕ) → n < length xs → slice_index (slice_set xs n v) n ≡ v
index_same [] n v h = absurd (omega arith)
index_same (x ∷ xs) zero v h = refl
index_same (x ∷ xs) (suc n) v h = index_same xs n v (omega arith)

index_other : (xs : List ℕ) (n k v : ℕ) → (n == k) ≡ false → slice_index (slice_set xs n v) k ≡ slice_index xs k
index_other [] n k v h = refl
index_other (x ∷ xs) zero zero v h = absurd (let e : true ≡ false = h in cc)
index_other (x ∷ xs) zero (suc k) v h = refl
index_other (x ∷ xs) (suc n) zero v h = refl
index_other (x ∷ xs) (suc n) (suc k) v h = index_other xs n k v (grind (arith, nat_tests))

put_at : (xs : List ℕ) (n v k : ℕ) → n < length xs → slice_index (slice_set xs n v) k ≡ put (slice_index xs) n v k
put_at xs n v k h =
    by_test (n == k)
    (λ same. let e : n ≡ k = eqb-true n k same in ap (slice_index (slice_set xs n v)) (sym e) ∙ index_same xs n v h ∙ sym (ap (λ b. cond b v (slice_index xs k)) same))
    (λ other. index_other xs n k v other ∙ sym (ap (λ b. cond b v (slice_index xs k)) other))

-- a register put into the array of registers
pub registers_set : (xs : List ℕ) (n v : ℕ) → n < length xs → slice_index (slice_set xs n v) ≡ put (slice_index xs) n v
registers_set xs n v h = fun_ext (λ k. put_at xs n v k h)

-- -- Flags

-- six flags by their numbers
abbrev pub six : Bool → Bool → Bool → Bool → Bool → Bool → ℕ → Bool
six a b c d e f n =
    (if n == 0 then a else
    (if n == 1 then b else
    (if n == 2 then c else
    (if n == 3 then d else
    (if n == 4 then e else
    (if n == 5 then f else false))))))

-- a flag of number k takes a value: F tells the flag of number n by whether n is k, and by the value
flag_case : (k n : ℕ) (v old_v : Bool) (F : Bool → Bool → Bool) (new old : ℕ → Bool)
    → new n ≡ F (n == k) v → old n ≡ F (n == k) old_v → F false v ≡ F false old_v → (k ≡ n → new n ≡ v) → new n ≡ put old k v n
flag_case k n v old_v F new old new_is old_is same here =
    by_test (k == n)
    (λ e. here (eqb-true k n e) ∙ sym (ap (λ t. cond t v (old n)) e))
    (λ e. let g : (n == k) ≡ false = grind (arith, nat_tests) in
    new_is ∙ ap (λ t. F t v) g ∙ same ∙ sym (ap (λ t. F t old_v) g) ∙ sym old_is ∙ sym (ap (λ t. cond t v (old n)) e))

pub flag_0 : (a b c d e f v : Bool) → six v b c d e f ≡ put (six a b c d e f) 0 v
flag_0 a b c d e f v = fun_ext (λ n. flag_case 0 n v a (λ t w. cond t w (cond (n == 1) b (cond (n == 2) c (cond (n == 3) d (cond (n == 4) e (cond (n == 5) f false)))))) (six v b c d e f) (six a b c d e f) refl refl refl
    (λ is. subst (λ m. six v b c d e f m ≡ v) is refl))

pub flag_1 : (a b c d e f v : Bool) → six a v c d e f ≡ put (six a b c d e f) 1 v
flag_1 a b c d e f v = fun_ext (λ n. flag_case 1 n v b (λ t w. cond (n == 0) a (cond t w (cond (n == 2) c (cond (n == 3) d (cond (n == 4) e (cond (n == 5) f false)))))) (six a v c d e f) (six a b c d e f) refl refl refl
    (λ is. subst (λ m. six a v c d e f m ≡ v) is refl))

pub flag_2 : (a b c d e f v : Bool) → six a b v d e f ≡ put (six a b c d e f) 2 v
flag_2 a b c d e f v = fun_ext (λ n. flag_case 2 n v c (λ t w. cond (n == 0) a (cond (n == 1) b (cond t w (cond (n == 3) d (cond (n == 4) e (cond (n == 5) f false)))))) (six a b v d e f) (six a b c d e f) refl refl refl
    (λ is. subst (λ m. six a b v d e f m ≡ v) is refl))

pub flag_3 : (a b c d e f v : Bool) → six a b c v e f ≡ put (six a b c d e f) 3 v
flag_3 a b c d e f v = fun_ext (λ n. flag_case 3 n v d (λ t w. cond (n == 0) a (cond (n == 1) b (cond (n == 2) c (cond t w (cond (n == 4) e (cond (n == 5) f false)))))) (six a b c v e f) (six a b c d e f) refl refl refl
    (λ is. subst (λ m. six a b c v e f m ≡ v) is refl))

pub flag_4 : (a b c d e f v : Bool) → six a b c d v f ≡ put (six a b c d e f) 4 v
flag_4 a b c d e f v = fun_ext (λ n. flag_case 4 n v e (λ t w. cond (n == 0) a (cond (n == 1) b (cond (n == 2) c (cond (n == 3) d (cond t w (cond (n == 5) f false)))))) (six a b c d v f) (six a b c d e f) refl refl refl
    (λ is. subst (λ m. six a b c d v f m ≡ v) is refl))

pub flag_5 : (a b c d e f v : Bool) → six a b c d e v ≡ put (six a b c d e f) 5 v
flag_5 a b c d e f v = fun_ext (λ n. flag_case 5 n v f (λ t w. cond (n == 0) a (cond (n == 1) b (cond (n == 2) c (cond (n == 3) d (cond (n == 4) e (cond t w false)))))) (six a b c d e v) (six a b c d e f) refl refl refl
    (λ is. subst (λ m. six a b c d e v m ≡ v) is refl))

-- -- Effects, one list after another

-- AX takes the halves of a product of bytes
pub halves_word : (old low high : ℕ) → with_part Word old (low % 65536 + 256 * (high % 256)) ≡ with_part Word old (low + 256 * high)
unfolding with_part
halves_word old low high = ap (λ v. old / 65536 * 65536 + v) (omega arith)

-- -- As code has them

pub set_state : (core : Core) (n k v : ℕ) (part : Part) (value : ℕ) → n ≡ k → n < length core.regs → v ≡ with_part part (slice_index core.regs n) value
    → state_of (record core { regs = slice_set core.regs n v }) ≡ changed (sets part k value) (state_of core)
set_state core n k v part value same low is =
    ap (λ (f : ℕ → ℕ). record (state_of core) { registers = f })
    (registers_set core.regs n v low ∙ ap (put (slice_index core.regs) n) is ∙ ap (λ j. put (slice_index core.regs) j (with_part part (slice_index core.regs j) value)) same)

pub turn_cf : (core : Core) (flag : Flag) (v : Bool) → flag ≡ kind.Cf → state_of (record core { flags = record core.flags { cf = v } }) ≡ changed (turns (flag_number flag) v) (state_of core)
turn_cf core flag v is =
    ap (λ (g : ℕ → Bool). record (state_of core) { flags = g }) (flag_0 core.flags.cf core.flags.pf core.flags.zf core.flags.sf core.flags.of core.df v)
    ∙ sym (ap (λ (k : Flag). changed (turns (flag_number k) v) (state_of core)) is)

pub turn_pf : (core : Core) (flag : Flag) (v : Bool) → flag ≡ kind.Pf → state_of (record core { flags = record core.flags { pf = v } }) ≡ changed (turns (flag_number flag) v) (state_of core)
turn_pf core flag v is =
    ap (λ (g : ℕ → Bool). record (state_of core) { flags = g }) (flag_1 core.flags.cf core.flags.pf core.flags.zf core.flags.sf core.flags.of core.df v)
    ∙ sym (ap (λ (k : Flag). changed (turns (flag_number k) v) (state_of core)) is)

pub turn_zf : (core : Core) (flag : Flag) (v : Bool) → flag ≡ kind.Zf → state_of (record core { flags = record core.flags { zf = v } }) ≡ changed (turns (flag_number flag) v) (state_of core)
turn_zf core flag v is =
    ap (λ (g : ℕ → Bool). record (state_of core) { flags = g }) (flag_2 core.flags.cf core.flags.pf core.flags.zf core.flags.sf core.flags.of core.df v)
    ∙ sym (ap (λ (k : Flag). changed (turns (flag_number k) v) (state_of core)) is)

pub turn_sf : (core : Core) (flag : Flag) (v : Bool) → flag ≡ kind.Sf → state_of (record core { flags = record core.flags { sf = v } }) ≡ changed (turns (flag_number flag) v) (state_of core)
turn_sf core flag v is =
    ap (λ (g : ℕ → Bool). record (state_of core) { flags = g }) (flag_3 core.flags.cf core.flags.pf core.flags.zf core.flags.sf core.flags.of core.df v)
    ∙ sym (ap (λ (k : Flag). changed (turns (flag_number k) v) (state_of core)) is)

pub turn_of : (core : Core) (flag : Flag) (v : Bool) → flag ≡ kind.Of → state_of (record core { flags = record core.flags { of = v } }) ≡ changed (turns (flag_number flag) v) (state_of core)
turn_of core flag v is =
    ap (λ (g : ℕ → Bool). record (state_of core) { flags = g }) (flag_4 core.flags.cf core.flags.pf core.flags.zf core.flags.sf core.flags.of core.df v)
    ∙ sym (ap (λ (k : Flag). changed (turns (flag_number k) v) (state_of core)) is)

pub turn_df : (core : Core) (flag : Flag) (v : Bool) → flag ≡ kind.Df → state_of (record core { df = v }) ≡ changed (turns (flag_number flag) v) (state_of core)
turn_df core flag v is =
    ap (λ (g : ℕ → Bool). record (state_of core) { flags = g }) (flag_5 core.flags.cf core.flags.pf core.flags.zf core.flags.sf core.flags.of core.df v)
    ∙ sym (ap (λ (k : Flag). changed (turns (flag_number k) v) (state_of core)) is)

-- -- Addresses

pub stepped_wraps : (down : Bool) (z n a step : ℕ) → step ≡ (if down then 2 ^ 32 - z else z) → (a + n * step % 2 ^ 32) % 2 ^ 32 ≡ stepped down z n a
unfolding stepped
stepped_wraps down z n a step is = add-mod-mod a (n * step) (2 ^ 32) ∙ ap (λ k. (a + n * k) % 2 ^ 32) is
