-- Runs that are computed from words of choice.
use Rattle.std.proofs.Common.{◌≡◌, ℕ, zero, suc, ◌+◌, ◌<◌, ◌≤◌, ◌&&◌, ◌||◌, not, Bool, true, false, cond, List, [], ◌∷◌, take, drop, Option, Some, None, refl, sym, ap, subst, ◌∙◌, arith}
use Rattle.std.specs.Prelude.{slice_get, option_and_then, length, is_some}
use Rattle.std.specs.List.{list_all}
use Rattle.std.proofs.lemmas.Bool.{false≢true, and_parts}
use Rattle.std.proofs.lemmas.Option.{none-some, same_Some}
use Rattle.image_map.specs.declared.image.Image.{Image}
use Rattle.image_map.specs.declared.region.Kind.{Kind}
use Rattle.image_map.specs.declared.region.Settings.{Settings}
use Rattle.image_map.specs.Names.{extern_number}
use Rattle.image_map.specs.Queries.{byte_at, is_code}
use Rattle.ia32_types.specs.declared.Instr.{Instr}
use Rattle.ia32_decode.specs.declared.NotDecoded.{NotDecoded}
use Rattle.ia32_decode.specs.Decoded.{decoded}
use Rattle.ia32_decode.proofs.DecodedLemmas.{ok_spelled}
use Rattle.ia32_decode.proofs.FrontLemmas.{AreBytes}
use Rattle.ia32_semantics.specs.State.{State}
use Rattle.ia32_semantics.specs.Machine.{Occurrence}
use Rattle.ia32_semantics.specs.Runs.{Goes}
use Rattle.ia32_semantics.specs.Reading.{outcome}
use Rattle.ia32_semantics.specs.Effects.{all_changed, effects_fit}
use Rattle.ia32_semantics.specs.Outcome.{Outcome, Given, made, can_move, is_possible, LiesWell, is_forgotten, is_given, is_any, AgreesBut}
use Rattle.ia32_semantics.specs.Step.{Act, Executes, Answers, IsExternAt, IsActAt, act_row, Step, completes}
use Rattle.ia32_semantics.specs.Fetch.{code_byte, begun_by, code_run, fetch_window, IsFetched}
use Rattle.ia32_semantics.specs.Ia32.{machine}
use Rattle.ia32_semantics.proofs.EffectLemmas.{HasSizes, effects_sizes, effects_map}
use Rattle.ia32_fetch.specs.Fetched.{instruction_of, instruction_at}
use Rattle.ia32_fetch.proofs.FetchLaws.{fetched_begins}
use Rattle.std.specs.Prelude.{Result, Ok, Err}

-- -- What stands at an address

abbrev pub kind_of : Image → Settings → ℕ → Option Kind
kind_of image settings a = option_and_then (slice_get settings.kinds) (extern_number (length image.externs) a)

abbrev pub act_of : ℕ → Option Kind → Option Instr → Option Act
act_of a (Some k) i = Some (Answers a k)
act_of a None (Some i) = Some (Executes i)
act_of a None None = None

abbrev pub act_at : Image → Settings → ℕ → Option Act
act_at image settings a = act_of a (kind_of image settings a) (instruction_at image a)

module _ (image : Image) (settings : Settings) (bytes : (a byte : ℕ) → byte_at image a ≡ Some byte → byte < 256) where
  known_byte : (a b : ℕ) (t : Bool) → cond t (byte_at image a) None ≡ Some b → b < 256
  known_byte a b true e = bytes a b e
  known_byte a b false e = absurd (none-some b e)

  begun_bytes : (a : ℕ) (rest : List ℕ) (o : Option ℕ) → code_byte image a ≡ o → AreBytes rest → AreBytes (begun_by o rest)
  begun_bytes a rest None e are = tt
  begun_bytes a rest (Some b) e are = (known_byte a b (is_code image a) e, are)

  run_bytes : (a n : ℕ) → AreBytes (code_run image a n)
  unfolding code_run
  run_bytes a zero = tt
  run_bytes a (suc n) = begun_bytes a (code_run image (a + 1) n) (code_byte image a) refl (run_bytes (a + 1) n)

  fetched_there : (a : ℕ) (i : Instr) (r : Result Instr NotDecoded) → decoded (fetch_window image a) a ≡ r → instruction_of r ≡ Some i → IsFetched image a i
  fetched_there a i (Ok j) is same = subst (IsFetched image a) (same_Some j i same) ((fetched_begins image a j).0 (ok_spelled (fetch_window image a) a j (run_bytes a 15) is))
  fetched_there a i (Err x) is same = absurd (none-some i same)

  fetched : (a : ℕ) (i : Instr) → instruction_at image a ≡ Some i → IsFetched image a i
  unfolding instruction_at
  fetched a i e = fetched_there a i (decoded (fetch_window image a) a) refl e

  extern_there : (a : ℕ) (k : Kind) (o : Option ℕ) → extern_number (length image.externs) a ≡ o → option_and_then (slice_get settings.kinds) o ≡ Some k → IsExternAt image settings a k
  extern_there a k None is e = absurd (none-some k e)
  extern_there a k (Some n) is e = record { number = n; stands = is; kind = e }

  act_is : (a : ℕ) (act : Act) (k : Option Kind) (i : Option Instr) → kind_of image settings a ≡ k → instruction_at image a ≡ i → act_of a k i ≡ Some act → IsActAt image settings a act
  act_is a act (Some k) i is there e = subst (IsActAt image settings a) (same_Some (Answers a k) act e) (refl, extern_there a k (extern_number (length image.externs) a) refl is)
  act_is a act None (Some i) is there e = subst (IsActAt image settings a) (same_Some (Executes i) act e) (fetched a i there)
  act_is a act None None is there e = absurd (none-some act e)

  pub act_there : (a : ℕ) (act : Act) → act_at image settings a ≡ Some act → IsActAt image settings a act
  act_there a act e = act_is a act (kind_of image settings a) (instruction_at image a) refl refl e

-- -- The walk

abbrev pub is_nil : {A : Type 0} → List A → Bool
is_nil [] = true
is_nil (x ∷ xs) = false

abbrev pub gives_none : Option Given → Bool
gives_none None = true
gives_none (Some g) = false

abbrev pub made_by : State → List ℕ → Act → Outcome → Occurrence Act
made_by s words act done = record { before = s; act = act; choices = words; after = made done s }

abbrev pub with_outcome : State → List ℕ → Act → Option (Outcome × List ℕ) → (State → List (Occurrence Act)) → List (Occurrence Act)
with_outcome s words act None next = []
with_outcome s words act (Some d) next = made_by s words act d.0 ∷ next (made d.0 s)

abbrev pub with_act : State → List ℕ → Option Act → (State → List (Occurrence Act)) → List (Occurrence Act)
with_act s words None next = []
with_act s words (Some act) next = with_outcome s words act (outcome (act_row act) s words) next

-- the occurrences that take these words, one after another
abbrev pub walk : Image → Settings → List (List ℕ) → State → List (Occurrence Act)
walk image settings [] s = []
walk image settings (words ∷ rest) s = with_act s words (act_at image settings s.eip) (walk image settings rest)

-- the step can be made, takes all words and allocates nothing, and is the last one where it completes the run
abbrev pub outcome_goes : Image → State → List ℕ → Act → Bool → Option (Outcome × List ℕ) → (State → Bool) → Bool
outcome_goes image s words act ends None next = false
outcome_goes image s words act ends (Some d) next =
    is_nil d.1 && (is_possible image d.0 s && (gives_none d.0.given && ((not (completes (made_by s words act d.0)) || ends) && next (made d.0 s))))

abbrev pub act_goes : Image → State → List ℕ → Bool → Option Act → (State → Bool) → Bool
act_goes image s words ends None next = false
act_goes image s words ends (Some act) next = outcome_goes image s words act ends (outcome (act_row act) s words) next

abbrev pub walks : Image → Settings → List (List ℕ) → State → Bool
walks image settings [] s = true
walks image settings (words ∷ rest) s = act_goes image s words (is_nil rest) (act_at image settings s.eip) (walks image settings rest)

-- -- It is one of the machine

nil_is : {A : Type 0} (xs : List A) → is_nil xs ≡ true → xs ≡ []
nil_is [] e = refl
nil_is (x ∷ xs) e = absurd (false≢true e)

none_is : (o : Option Given) → gives_none o ≡ true → o ≡ None
none_is None e = refl
none_is (Some g) e = absurd (false≢true e)

ends_then : (c e : Bool) → (not c || e) ≡ true → c ≡ true → e ≡ true
ends_then true e is c = is
ends_then false e is c = absurd (false≢true c)

byte_there : (o : Option ℕ) → is_some o ≡ true → ((byte : ℕ) → o ≡ Some byte → byte < 256) → (byte : ℕ) × (byte < 256) × (o ≡ Some byte)
byte_there None some below = absurd (false≢true some)
byte_there (Some byte) some below = (byte, below byte refl, refl)

mapped_by : (mapped forgotten given : Bool) → given ≡ false → cond mapped forgotten given ≡ true → mapped ≡ true
mapped_by true forgotten given none e = refl
mapped_by false forgotten given none e = absurd (false≢true (sym none ∙ e))

module _ (image : Image) (settings : Settings) (bytes : (a byte : ℕ) → byte_at image a ≡ Some byte → byte < 256) where
  made_sizes : (d : Outcome) (s : State) → HasSizes s → HasSizes (made d s)
  made_sizes d s sizes = let h = effects_sizes d.effects s sizes in record { registers = h.registers; memory = h.memory }

  made_agrees : (d : Outcome) (s : State) → HasSizes s → effects_fit image s.memory d.effects ≡ true → d.given ≡ None → AgreesBut (is_any d s) (made d s).memory (made d s).memory
  made_agrees d s sizes fits none =
      record {
        others = λ a e. refl;
        free = λ a e.
            let there = mapped_by (is_some (s.memory a)) (is_forgotten d s a) (is_given d.given a) (ap (λ g. is_given g a) none) e in
            byte_there ((all_changed d.effects s).memory a) ((effects_map image d.effects s fits).same a ∙ there) ((effects_sizes d.effects s sizes).memory a);
      }

  step_made : (s : State) (words : List ℕ) (act : Act) (d : Outcome × List ℕ) → HasSizes s → outcome (act_row act) s words ≡ Some d → d.1 ≡ [] → is_possible image d.0 s ≡ true → d.0.given ≡ None
      → Step image (made_by s words act d.0)
  step_made s words act d sizes row left possible none =
      record {
        done = d.0;
        row = row ∙ ap (λ l. Some (d.0, l)) left;
        possible = possible;
        given = subst (LiesWell s) (sym none) tt;
        after = refl;
        memory = made_agrees d.0 s sizes (and_parts (effects_fit image s.memory d.0.effects) (can_move d.0.calls s.activations) possible).0 none;
      }

  -- the steps that are left go on from any state
  abbrev GoesFrom : List (List ℕ) → Type 0
  GoesFrom rest = (t : State) → HasSizes t → walks image settings rest t ≡ true → Goes (machine image settings) t (walk image settings rest t)

  ended : (rest : List (List ℕ)) (t : State) → is_nil rest ≡ true → walk image settings rest t ≡ []
  ended [] t e = refl
  ended (words ∷ rest) t e = absurd (false≢true e)

  outcome_walks : (s : State) (words : List ℕ) (act : Act) (rest : List (List ℕ)) → HasSizes s → IsActAt image settings s.eip act → GoesFrom rest
      → (r : Option (Outcome × List ℕ)) → outcome (act_row act) s words ≡ r → outcome_goes image s words act (is_nil rest) r (walks image settings rest) ≡ true
      → Goes (machine image settings) s (with_outcome s words act r (walk image settings rest))
  outcome_walks s words act rest sizes there further None row e = absurd (false≢true e)
  outcome_walks s words act rest sizes there further (Some d) row e =
      let left = and_parts (is_nil d.1) _ e in
      let possible = and_parts (is_possible image d.0 s) _ left.1 in
      let none = and_parts (gives_none d.0.given) _ possible.1 in
      let on = and_parts (not (completes (made_by s words act d.0)) || is_nil rest) (walks image settings rest (made d.0 s)) none.1 in (
        refl,
        record { act = there; step = step_made s words act d sizes row (nil_is d.1 left.0) possible.0 (none_is d.0.given none.0) },
        (λ c. ended rest (made d.0 s) (ends_then (completes (made_by s words act d.0)) (is_nil rest) on.0 c)),
        further (made d.0 s) (made_sizes d.0 s sizes) on.1,
      )

  act_walks : (s : State) (words : List ℕ) (rest : List (List ℕ)) → HasSizes s → GoesFrom rest
      → (o : Option Act) → act_at image settings s.eip ≡ o → act_goes image s words (is_nil rest) o (walks image settings rest) ≡ true
      → Goes (machine image settings) s (with_act s words o (walk image settings rest))
  act_walks s words rest sizes further None is e = absurd (false≢true e)
  act_walks s words rest sizes further (Some act) is e = outcome_walks s words act rest sizes (act_there image settings bytes s.eip act is) further (outcome (act_row act) s words) refl e

  pub walk_goes : (choices : List (List ℕ)) (s : State) → HasSizes s → walks image settings choices s ≡ true → Goes (machine image settings) s (walk image settings choices s)
  walk_goes [] s sizes e = tt
  walk_goes (words ∷ rest) s sizes e = act_walks s words rest sizes (walk_goes rest) (act_at image settings s.eip) refl e

-- -- Some occurrences in a row

pub each_among : {A : Type 0} (test : A → Bool) (xs : List A) (from count k : ℕ) (x : A) → list_all test (take count (drop from xs)) ≡ true → from ≤ k → k < from + count → slice_get xs k ≡ Some x → test x ≡ true
each_among test [] from count k x all low high e = absurd (none-some x e)
each_among test (y ∷ ys) zero zero k x all low high e = absurd (omega (arith, high))
each_among test (y ∷ ys) zero (suc count) zero x all low high e = subst (λ z. test z ≡ true) (same_Some y x e) (and_parts (test y) (list_all test (take count ys)) all).0
each_among test (y ∷ ys) zero (suc count) (suc k) x all low high e = each_among test ys zero count k x (and_parts (test y) (list_all test (take count ys)) all).1 (omega arith) (omega (arith, high)) e
each_among test (y ∷ ys) (suc from) count zero x all low high e = absurd (omega (arith, low))
each_among test (y ∷ ys) (suc from) count (suc k) x all low high e = each_among test ys from count k x all (omega (arith, low)) (omega (arith, high)) e
