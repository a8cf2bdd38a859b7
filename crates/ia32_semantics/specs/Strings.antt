-- The string instructions: movs, stos, and both repeated (SDM volume 2, "MOVS", "STOS" and "REP"). A repeated one is one step.
use Rattle.std.specs.Prelude.{ℕ, zero, suc, ◌+◌, ◌-◌, ◌*◌, ◌%◌, ◌^◌, ◌==◌, Bool, false, true, if◌then◌else◌, List, [], ◌∷◌, ◌++◌}
use Rattle.ia32_semantics.specs.Reading.{Reading, gives, ◌>>=◌}
use Rattle.ia32_semantics.specs.Effects.{Effect, Whole, sets, stores, copies}
use Rattle.ia32_semantics.specs.Operands.{number_bytes, whole_register, flag_value}

-- a pointer after n elements of z bytes, downwards where DF is set
unfoldable pub stepped : Bool → ℕ → ℕ → ℕ → ℕ
stepped down z n a = (a + n * (if down then 2 ^ 32 - z else z)) % 2 ^ 32

-- n elements from one pointer on copied to another, one after the other
abbrev pub copied : Bool → ℕ → ℕ → ℕ → ℕ → List Effect
copied down z zero from to = []
copied down z (suc n) from to = copies to from z ∷ copied down z n (stepped down z 1 from) (stepped down z 1 to)

-- n elements from a pointer on filled with a value
abbrev pub filled : Bool → ℕ → ℕ → ℕ → ℕ → List Effect
filled down z value zero to = []
filled down z value (suc n) to = stores to (number_bytes z value) ∷ filled down z value n (stepped down z 1 to)

-- n elements moved, and the pointers after them
unfoldable pub movs_effects : ℕ → ℕ → Reading (List Effect)
movs_effects z n = do
  down ← flag_value 5
  from ← whole_register 6
  to ← whole_register 7
  gives (copied down z n from to ++ (sets Whole 6 (stepped down z n from) ∷ sets Whole 7 (stepped down z n to) ∷ []))

unfoldable pub stos_effects : ℕ → ℕ → Reading (List Effect)
stos_effects z n = do
  down ← flag_value 5
  value ← whole_register 0
  to ← whole_register 7
  gives (filled down z value n to ++ (sets Whole 7 (stepped down z n to) ∷ []))

-- ECX elements, after which ECX is 0; nothing where it is 0 before
unfoldable pub repeated : (ℕ → Reading (List Effect)) → Reading (List Effect)
repeated effects = whole_register 1 >>= (λ n.
    if n == 0 then gives [] else effects n >>= (λ done. gives (done ++ (sets Whole 1 0 ∷ []))))

-- once, or ECX times
abbrev pub string_effects : Bool → (ℕ → Reading (List Effect)) → Reading (List Effect)
string_effects false effects = effects 1
string_effects true effects = repeated effects
