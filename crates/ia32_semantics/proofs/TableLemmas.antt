-- Each row asks only for the registers and flags of its tables, and writes those.
use Rattle.std.proofs.Common.{◌≡◌, ℕ, ◌+◌, ◌/◌, List, [], ◌∷◌, ◌++◌, refl, sym, ap, ◌∙◌, ◌%◌, ◌^◌}
use Rattle.std.specs.Prelude.{Bool, true, false, ◌||◌, ◌==◌, if◌then◌else◌, Option, Some, None}
use Rattle.std.proofs.Math.Bool.{or-false}
use Rattle.std.proofs.lemmas.List.Folds.{list_any-append}
use Rattle.ia32_types.specs.declared.Reg.{Reg}
use Rattle.ia32_types.specs.declared.Reg.TheVariants.{Eax, Edx, Esp, Ebp}
use Rattle.ia32_types.specs.declared.Flag.{Flag}
use Rattle.ia32_types.specs.declared.Flag.TheVariants.{Cf, Pf, Zf, Sf, Of, Df}
use Rattle.ia32_types.specs.declared.Width.{Width}
use Rattle.ia32_types.specs.declared.Operand.{Operand}
use Rattle.ia32_types.specs.declared.Operand.TheVariants as operand
use Rattle.ia32_types.specs.declared.Op.{Op}
use Rattle.ia32_types.specs.declared.Instr.{Instr}
use Rattle.ia32_types.specs.Numbers.{reg_number}
use Rattle.ia32_types.specs.Places as places
use Rattle.ia32_semantics.specs.declared.flags.Flags.{Flags}
use Rattle.ia32_semantics.specs.Alu.{alu_flags}
use Rattle.ia32_semantics.specs.State.{State, Location, InRegister, InFlag}
use Rattle.ia32_semantics.specs.Reading.{Reading, gives, flag, ◌>>=◌}
use Rattle.ia32_semantics.specs.Condition.{holds}
use Rattle.ia32_semantics.specs.Effects.{Effect, turns, effects_write, effects_take}
use Rattle.ia32_semantics.specs.Outcome.{Outcome}
use Rattle.ia32_semantics.specs.Operands.{bits, whole_register, stored_word, value_of, address_of, store_to, raised, is_esp, flag_effects, no_flags, condition_flags, condition}
use Rattle.ia32_semantics.specs.Rows.{goes_on, carry_in, computed, compared, altered, addressed, exchanged, sign_of_ax, sign_of_eax, tested, chosen, pushed, popped, left, called, returned, immediate, extra_bytes, jumped, branched}
use Rattle.ia32_semantics.specs.Laws.{has_register, has_flag}
use Rattle.ia32_semantics.proofs.WithinLemmas.{Within, within_gives, within_faults, within_bind, within_flag}
use Rattle.ia32_semantics.proofs.OperandLemmas.{in_tables, HasAll, has_none, has_both, place_in_value, Anything, register_within, number_within, value_within, address_of_within}
use Rattle.ia32_semantics.proofs.ChangeLemmas.{Changes, none, changes_both, Stored, store_within}

-- what an outcome takes and writes is in these lists, and it writes them all where that is sure
pub record Meets (reads writes : List Reg) (turned : List Flag) (sure_registers sure_flags : Bool) (done : Outcome) : Type 0 where
  pub takes : (n : ℕ) → effects_take done.effects (InRegister n) ≡ true → has_register reads n ≡ true
  pub registers : (n : ℕ) → effects_write done.effects (InRegister n) ≡ true → has_register writes n ≡ true
  pub flags : (n : ℕ) → effects_write done.effects (InFlag n) ≡ true → has_flag turned n ≡ true
  pub all_registers : sure_registers ≡ true → (n : ℕ) → has_register writes n ≡ true → effects_write done.effects (InRegister n) ≡ true
  pub all_flags : sure_flags ≡ true → (n : ℕ) → has_flag turned n ≡ true → effects_write done.effects (InFlag n) ≡ true

-- where just these are written
pub exactly : (reads writes : List Reg) (turned : List Flag) (x y : Bool) (p f : ℕ → Bool) (t : List Reg) (done : Outcome) → Changes p f t done.effects
    → ((n : ℕ) → p n ≡ has_register writes n) → ((n : ℕ) → f n ≡ has_flag turned n) → HasAll reads t
    → Meets reads writes turned x y done
exactly reads writes turned x y p f t done changes same_registers same_flags all = record {
  takes = λ n e. all.each n (changes.takes n e);
  registers = λ n e. sym (changes.registers n ∙ same_registers n) ∙ e;
  flags = λ n e. sym (changes.flags n ∙ same_flags n) ∙ e;
  all_registers = λ sure n e. changes.registers n ∙ same_registers n ∙ e;
  all_flags = λ sure n e. changes.flags n ∙ same_flags n ∙ e;
}

pub or_swap : (a b : Bool) → (a || b) ≡ (b || a)
or_swap true true = refl
or_swap true false = refl
or_swap false true = refl
or_swap false false = refl

-- stored into an operand, and flags
abbrev pub FlagsOf : List Flag → List Effect → Type 0
FlagsOf turned es = Changes none (has_flag turned) [] es

module _ (s : State) (reads : List Reg) (asked : List Flag) (x y : Bool) where
  abbrev pub R : Location → Bool
  R = in_tables reads asked

  -- the row stores into its first operand and turns flags
  pub stored_and_turned : (i : Instr) (turned : List Flag) (stored fs : List Effect) → HasAll reads (places.place_of i.width i.dst)
      → Stored i.width i.dst stored → FlagsOf turned fs
      → Within s R (Meets reads (places.target_of i.dst) turned x y) (goes_on i (stored ++ fs))
  stored_and_turned i turned stored fs all changes flags =
      within_gives s R (Meets reads (places.target_of i.dst) turned x y) _
      (exactly reads (places.target_of i.dst) turned x y _ _ (places.place_of i.width i.dst ++ []) _
      (changes_both (has_register (places.target_of i.dst)) none none (has_flag turned) (places.place_of i.width i.dst) [] stored fs changes flags)
      (λ n. or-false _) (λ n. refl) (has_both reads (places.place_of i.width i.dst) [] all (has_none reads)))

  pub just_stored : (i : Instr) (stored : List Effect) → HasAll reads (places.place_of i.width i.dst)
      → Stored i.width i.dst stored → Within s R (Meets reads (places.target_of i.dst) [] x y) (goes_on i stored)
  just_stored i stored all changes =
      within_gives s R (Meets reads (places.target_of i.dst) [] x y) _
      (exactly reads (places.target_of i.dst) [] x y _ _ (places.place_of i.width i.dst) _ changes (λ n. refl) (λ n. refl) all)

  -- an outcome with these effects
  pub done_with : (writes : List Reg) (turned : List Flag) (taken : List Reg) (done : Outcome)
      → Changes (has_register writes) (has_flag turned) taken done.effects → HasAll reads taken → Within s R (Meets reads writes turned x y) (gives done)
  done_with writes turned taken done changes all =
      within_gives s R (Meets reads writes turned x y) done (exactly reads writes turned x y _ _ taken done changes (λ n. refl) (λ n. refl) all)

  pub computed_within : (o : Op) (i : Instr) (turned : List Flag) → HasAll reads (places.value_of i.dst) → HasAll reads (places.value_of i.src)
      → Within s R Anything (carry_in o)
      → ((a b : ℕ) (c : Bool) → FlagsOf turned (flag_effects (alu_flags (bits i.width) o a b c)))
      → Within s R (Meets reads (places.target_of i.dst) turned x y) (computed o i)
  computed_within o i turned first second carry flags =
      within_bind s R Anything _ (value_of i.width i.dst) _ (value_within s reads asked i.width i.dst first) (λ a q.
      within_bind s R Anything _ (value_of i.width i.src) _ (value_within s reads asked i.width i.src second) (λ b q.
      within_bind s R Anything _ (carry_in o) _ carry (λ c q.
      within_bind s R (Stored i.width i.dst) _ (store_to i.width i.dst _) _ (store_within s reads asked i.width i.dst _ (place_in_value reads i.width i.dst first)) (λ stored changes.
      stored_and_turned i turned stored _ (place_in_value reads i.width i.dst first) changes (flags a b c)))))

  pub compared_within : (o : Op) (i : Instr) (turned : List Flag) → HasAll reads (places.value_of i.dst) → HasAll reads (places.value_of i.src)
      → ((a b : ℕ) (c : Bool) → FlagsOf turned (flag_effects (alu_flags (bits i.width) o a b c)))
      → Within s R (Meets reads [] turned x y) (compared o i)
  compared_within o i turned first second flags =
      within_bind s R Anything _ (value_of i.width i.dst) _ (value_within s reads asked i.width i.dst first) (λ a q.
      within_bind s R Anything _ (value_of i.width i.src) _ (value_within s reads asked i.width i.src second) (λ b q.
      done_with [] turned [] _ (flags a b false) (has_none reads)))

  pub altered_within : (o : Op) (i : Instr) (turned : List Flag) → HasAll reads (places.value_of i.dst)
      → ((a b : ℕ) (c : Bool) → FlagsOf turned (flag_effects (alu_flags (bits i.width) o a b c)))
      → Within s R (Meets reads (places.target_of i.dst) turned x y) (altered o i)
  altered_within o i turned first flags =
      within_bind s R Anything _ (value_of i.width i.dst) _ (value_within s reads asked i.width i.dst first) (λ a q.
      within_bind s R (Stored i.width i.dst) _ (store_to i.width i.dst _) _ (store_within s reads asked i.width i.dst _ (place_in_value reads i.width i.dst first)) (λ stored changes.
      stored_and_turned i turned stored _ (place_in_value reads i.width i.dst first) changes (flags a 0 false)))

  -- -- Moves

  pub moved_within : (i : Instr) (width : Width) (f : ℕ → ℕ) → HasAll reads (places.place_of i.width i.dst) → HasAll reads (places.value_of i.src)
      → Within s R (Meets reads (places.target_of i.dst) [] x y) (value_of width i.src >>= (λ v. store_to i.width i.dst (f v) >>= (λ stored. goes_on i stored)))
  moved_within i width f first second =
      within_bind s R Anything _ (value_of width i.src) _ (value_within s reads asked width i.src second) (λ v q.
      within_bind s R (Stored i.width i.dst) _ (store_to i.width i.dst _) _ (store_within s reads asked i.width i.dst _ first) (λ stored changes.
      just_stored i stored first changes))

  pub addressed_within : (i : Instr) → HasAll reads (places.place_of i.width i.dst) → HasAll reads (places.value_of i.src)
      → Within s R (Meets reads (places.target_of i.dst) [] x y) (addressed i)
  addressed_within i first second =
      within_bind s R Anything _ (address_of i.src) _ (address_of_within s reads asked i.src second) (λ a q.
      within_bind s R (Stored i.width i.dst) _ (store_to i.width i.dst _) _ (store_within s reads asked i.width i.dst _ first) (λ stored changes.
      just_stored i stored first changes))

  pub exchanged_within : (i : Instr) → HasAll reads (places.value_of i.dst) → HasAll reads (places.value_of i.src)
      → Within s R (Meets reads (places.target_of i.dst ++ places.target_of i.src) [] x y) (exchanged i)
  exchanged_within i first second =
      within_bind s R Anything _ (value_of i.width i.dst) _ (value_within s reads asked i.width i.dst first) (λ a q.
      within_bind s R Anything _ (value_of i.width i.src) _ (value_within s reads asked i.width i.src second) (λ b q.
      within_bind s R (Stored i.width i.dst) _ (store_to i.width i.dst _) _ (store_within s reads asked i.width i.dst _ (place_in_value reads i.width i.dst first)) (λ one p.
      within_bind s R (Stored i.width i.src) _ (store_to i.width i.src _) _ (store_within s reads asked i.width i.src _ (place_in_value reads i.width i.src second)) (λ two r.
      within_gives s R (Meets reads (places.target_of i.dst ++ places.target_of i.src) [] x y) _
      (exactly reads (places.target_of i.dst ++ places.target_of i.src) [] x y _ _ (places.place_of i.width i.dst ++ places.place_of i.width i.src) _
      (changes_both (has_register (places.target_of i.dst)) (has_register (places.target_of i.src)) none none (places.place_of i.width i.dst) (places.place_of i.width i.src) one two p r)
      (λ n. sym (list_any-append (λ r. reg_number r == n) (places.target_of i.dst) (places.target_of i.src))) (λ n. refl)
      (has_both reads (places.place_of i.width i.dst) (places.place_of i.width i.src) (place_in_value reads i.width i.dst first) (place_in_value reads i.width i.src second)))))))

  -- -- Conditions

  one_asked : (n : ℕ) (f : Bool → Reading Flags) → has_flag asked n ≡ true → ((v : Bool) → Within s R Anything (f v)) → Within s R Anything (flag n f)
  one_asked n f has rest = within_flag s R Anything n f has (rest (s.flags n))

  done : (f : Flags) → Within s R Anything (gives f)
  done f = within_gives s R Anything f tt

  flags_by : (a b c d e f g : Bool)
      → ((k : ℕ) → has_flag (if a then Of ∷ [] else (if b then Cf ∷ [] else (if c then Zf ∷ [] else (if d then Cf ∷ Zf ∷ [] else
      (if e then Sf ∷ [] else (if f then Pf ∷ [] else (if g then Sf ∷ Of ∷ [] else Zf ∷ Sf ∷ Of ∷ []))))))) k ≡ true → has_flag asked k ≡ true)
      → Within s R Anything
      (if a then flag 4 (λ of. gives (record no_flags { of = of })) else
      (if b then flag 0 (λ cf. gives (record no_flags { cf = cf })) else
      (if c then flag 2 (λ zf. gives (record no_flags { zf = zf })) else
      (if d then flag 0 (λ cf. flag 2 (λ zf. gives (record no_flags { cf = cf; zf = zf }))) else
      (if e then flag 3 (λ sf. gives (record no_flags { sf = sf })) else
      (if f then flag 1 (λ pf. gives (record no_flags { pf = pf })) else
      (if g then flag 3 (λ sf. flag 4 (λ of. gives (record no_flags { sf = sf; of = of }))) else
      flag 2 (λ zf. flag 3 (λ sf. flag 4 (λ of. gives (record no_flags { zf = zf; sf = sf; of = of })))))))))))
  flags_by true b c d e f g has = one_asked 4 _ (has 4 refl) (λ v. done _)
  flags_by false true c d e f g has = one_asked 0 _ (has 0 refl) (λ v. done _)
  flags_by false false true d e f g has = one_asked 2 _ (has 2 refl) (λ v. done _)
  flags_by false false false true e f g has = one_asked 0 _ (has 0 refl) (λ v. one_asked 2 _ (has 2 refl) (λ w. done _))
  flags_by false false false false true f g has = one_asked 3 _ (has 3 refl) (λ v. done _)
  flags_by false false false false false true g has = one_asked 1 _ (has 1 refl) (λ v. done _)
  flags_by false false false false false false true has = one_asked 3 _ (has 3 refl) (λ v. one_asked 4 _ (has 4 refl) (λ w. done _))
  flags_by false false false false false false false has = one_asked 2 _ (has 2 refl) (λ v. one_asked 3 _ (has 3 refl) (λ w. one_asked 4 _ (has 4 refl) (λ u. done _)))

  pub condition_within : (c : ℕ) → ((n : ℕ) → has_flag (places.cond_flags c) n ≡ true → has_flag asked n ≡ true) → Within s R Anything (condition c)
  unfolding condition condition_flags
  condition_within c has =
      within_bind s R Anything Anything (condition_flags (c / 2)) _
      (flags_by (c / 2 == 0) (c / 2 == 1) (c / 2 == 2) (c / 2 == 3) (c / 2 == 4) (c / 2 == 5) (c / 2 == 6) has) (λ f q. done_any (holds c f))
    where
      done_any : (b : Bool) → Within s R Anything (gives b)
      done_any b = within_gives s R Anything b tt

  pub tested_within : (c : ℕ) (i : Instr) → ((n : ℕ) → has_flag (places.cond_flags c) n ≡ true → has_flag asked n ≡ true) → HasAll reads (places.place_of i.width i.dst)
      → Within s R (Meets reads (places.target_of i.dst) [] x y) (tested c i)
  tested_within c i has first =
      within_bind s R Anything _ (condition c) _ (condition_within c has) (λ holds q.
      within_bind s R (Stored i.width i.dst) _ (store_to i.width i.dst _) _ (store_within s reads asked i.width i.dst _ first) (λ stored changes.
      just_stored i stored first changes))

  pub chosen_within : (c : ℕ) (i : Instr) → ((n : ℕ) → has_flag (places.cond_flags c) n ≡ true → has_flag asked n ≡ true)
      → HasAll reads (places.value_of i.dst) → HasAll reads (places.value_of i.src)
      → Within s R (Meets reads (places.target_of i.dst) [] x y) (chosen c i)
  chosen_within c i has first second =
      within_bind s R Anything _ (condition c) _ (condition_within c has) (λ holds q.
      within_bind s R Anything _ (value_of i.width i.src) _ (value_within s reads asked i.width i.src second) (λ v q.
      within_bind s R Anything _ (value_of i.width i.dst) _ (value_within s reads asked i.width i.dst first) (λ old q.
      within_bind s R (Stored i.width i.dst) _ (store_to i.width i.dst _) _ (store_within s reads asked i.width i.dst _ (place_in_value reads i.width i.dst first)) (λ stored changes.
      just_stored i stored (place_in_value reads i.width i.dst first) changes))))

  pub immediate_within : (o : Option Operand) → Within s R Anything (immediate o)
  unfolding immediate
  immediate_within None = within_faults s R Anything
  immediate_within (Some (operand.Reg r)) = within_faults s R Anything
  immediate_within (Some (operand.High r)) = within_faults s R Anything
  immediate_within (Some (operand.Imm n)) = within_gives s R Anything n tt
  immediate_within (Some (operand.Mem m)) = within_faults s R Anything

  nothing : Changes (has_register []) (has_flag []) [] []
  nothing = record { registers = λ n. refl; flags = λ n. refl; takes = λ n e. e }

  pub branched_within : (c : ℕ) (i : Instr) → ((n : ℕ) → has_flag (places.cond_flags c) n ≡ true → has_flag asked n ≡ true)
      → Within s R (Meets reads [] [] x y) (branched c i)
  branched_within c i has =
      within_bind s R Anything _ (condition c) _ (condition_within c has) (λ holds q.
      within_bind s R Anything _ (immediate i.dst) _ (immediate_within i.dst) (λ target q.
      done_with [] [] [] _ nothing (has_none reads)))

  pub jumped_within : (i : Instr) → HasAll reads (places.value_of i.dst) → Within s R (Meets reads [] [] x y) (jumped i)
  jumped_within i first =
      within_bind s R Anything _ (value_of i.width i.dst) _ (value_within s reads asked i.width i.dst first) (λ target q. done_with [] [] [] _ nothing (has_none reads))

  pub idle_within : (i : Instr) → Within s R (Meets reads [] [] x y) (goes_on i [])
  idle_within i = done_with [] [] [] _ nothing (has_none reads)

  -- -- The stack

  pub pushed_within : (i : Instr) → HasAll reads (places.value_of i.dst) → has_register reads 4 ≡ true → Within s R (Meets reads (Esp ∷ []) [] x y) (pushed i)
  pushed_within i first sp =
      within_bind s R Anything _ (value_of i.width i.dst) _ (value_within s reads asked i.width i.dst first) (λ v q.
      within_bind s R Anything _ (whole_register 4) _ (register_within s reads asked 4 sp) (λ old q.
      done_with (Esp ∷ []) [] [] _ (record { registers = λ n. refl; flags = λ n. refl; takes = λ n e. e }) (has_none reads)))

  pub called_within : (i : Instr) → HasAll reads (places.value_of i.dst) → has_register reads 4 ≡ true → Within s R (Meets reads (Esp ∷ []) [] x y) (called i)
  called_within i first sp =
      within_bind s R Anything _ (value_of i.width i.dst) _ (value_within s reads asked i.width i.dst first) (λ v q.
      within_bind s R Anything _ (whole_register 4) _ (register_within s reads asked 4 sp) (λ old q.
      done_with (Esp ∷ []) [] [] _ (record { registers = λ n. refl; flags = λ n. refl; takes = λ n e. e }) (has_none reads)))

  pub raised_within : (width : Width) (o : Option Operand) → HasAll reads (places.place_of width o) → HasAll reads (places.place_of width (raised o))
  raised_within width None all = all
  raised_within width (Some (operand.Reg r)) all = all
  raised_within width (Some (operand.High r)) all = all
  raised_within width (Some (operand.Imm n)) all = all
  raised_within width (Some (operand.Mem m)) all = by_base (is_esp m.base)
    where
      by_base : (b : Bool) → HasAll reads (places.place_of width (if b then Some (operand.Mem (record m { disp = (m.disp + 4) % 2 ^ 32 })) else Some (operand.Mem m)))
      by_base true = all
      by_base false = all

  raised_target : (o : Option Operand) (n : ℕ) → has_register (places.target_of (raised o)) n ≡ has_register (places.target_of o) n
  raised_target None n = refl
  raised_target (Some (operand.Reg r)) n = refl
  raised_target (Some (operand.High r)) n = refl
  raised_target (Some (operand.Imm k)) n = refl
  raised_target (Some (operand.Mem m)) n = by_base (is_esp m.base)
    where
      by_base : (b : Bool) → has_register (places.target_of (if b then Some (operand.Mem (record m { disp = (m.disp + 4) % 2 ^ 32 })) else Some (operand.Mem m))) n ≡ false
      by_base true = refl
      by_base false = refl

  pub popped_within : (i : Instr) → HasAll reads (places.place_of i.width i.dst) → has_register reads 4 ≡ true
      → Within s R (Meets reads (places.target_of i.dst ++ (Esp ∷ [])) [] x y) (popped i)
  popped_within i first sp =
      within_bind s R Anything _ (whole_register 4) _ (register_within s reads asked 4 sp) (λ old q.
      within_bind s R Anything _ (stored_word old) _ (number_within s reads asked 4 old) (λ v q.
      within_bind s R (Stored i.width (raised i.dst)) _ (store_to i.width (raised i.dst) v) _ (store_within s reads asked i.width (raised i.dst) v (raised_within i.width i.dst first)) (λ stored changes.
      within_gives s R (Meets reads (places.target_of i.dst ++ (Esp ∷ [])) [] x y) _
      (exactly reads (places.target_of i.dst ++ (Esp ∷ [])) [] x y _ _ (places.place_of i.width (raised i.dst)) _
      (record { registers = λ n. refl; flags = changes.flags; takes = changes.takes })
      (λ n. ap (λ b. 4 == n || b) (changes.registers n ∙ raised_target i.dst n) ∙ or_swap (4 == n) (has_register (places.target_of i.dst) n)
      ∙ ap (λ b. has_register (places.target_of i.dst) n || b) (sym (or-false (4 == n)))
      ∙ sym (list_any-append (λ r. reg_number r == n) (places.target_of i.dst) (Esp ∷ [])))
      (λ n. refl) (raised_within i.width i.dst first)))))

  pub left_within : (i : Instr) → has_register reads 5 ≡ true → Within s R (Meets reads (Esp ∷ Ebp ∷ []) [] x y) (left i)
  left_within i bp =
      within_bind s R Anything _ (whole_register 5) _ (register_within s reads asked 5 bp) (λ old q.
      within_bind s R Anything _ (stored_word old) _ (number_within s reads asked 4 old) (λ v q.
      done_with (Esp ∷ Ebp ∷ []) [] [] _ (record { registers = λ n. refl; flags = λ n. refl; takes = λ n e. e }) (has_none reads)))

  pub extra_within : (o : Option Operand) → Within s R Anything (extra_bytes o)
  unfolding extra_bytes
  extra_within None = within_gives s R Anything 0 tt
  extra_within (Some o) = immediate_within (Some o)

  pub returned_within : (i : Instr) → has_register reads 4 ≡ true → Within s R (Meets reads (Esp ∷ []) [] x y) (returned i)
  returned_within i sp =
      within_bind s R Anything _ (whole_register 4) _ (register_within s reads asked 4 sp) (λ old q.
      within_bind s R Anything _ (stored_word old) _ (number_within s reads asked 4 old) (λ v q.
      within_bind s R Anything _ (extra_bytes i.dst) _ (extra_within i.dst) (λ extra q.
      done_with (Esp ∷ []) [] [] _ (record { registers = λ n. refl; flags = λ n. refl; takes = λ n e. e }) (has_none reads))))

  pub sign_within : (i : Instr) → has_register reads 0 ≡ true → Within s R (Meets reads (Eax ∷ []) [] x y) (sign_of_ax i)
  sign_within i ax =
      within_bind s R Anything _ (whole_register 0) _ (register_within s reads asked 0 ax) (λ a q.
      done_with (Eax ∷ []) [] [] _ (record { registers = λ n. refl; flags = λ n. refl; takes = λ n e. e }) (has_none reads))

  pub spread_within : (i : Instr) → has_register reads 0 ≡ true → Within s R (Meets reads (Edx ∷ []) [] x y) (sign_of_eax i)
  spread_within i ax =
      within_bind s R Anything _ (whole_register 0) _ (register_within s reads asked 0 ax) (λ a q.
      done_with (Edx ∷ []) [] [] _ (record { registers = λ n. refl; flags = λ n. refl; takes = λ n e. e }) (has_none reads))

  pub direction_within : (i : Instr) (down : Bool) → Within s R (Meets reads [] (Df ∷ []) x y) (goes_on i (turns 5 down ∷ []))
  direction_within i down = done_with [] (Df ∷ []) [] _ (record { registers = λ n. refl; flags = λ n. refl; takes = λ n e. e }) (has_none reads)
