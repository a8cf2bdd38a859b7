-- The registers and flags that externs read and write.
use Rattle.std.proofs.Common.{◌≡◌, ℕ, zero, suc, ◌+◌, Bool, true, false, ◌||◌, List, [], ◌∷◌, ◌++◌, refl, sym, subst, ◌∙◌}
use Rattle.std.specs.Prelude.{max, nat_lt, ◌==◌}
use Rattle.std.proofs.Math.Bool.{or-false}
use Rattle.image_map.specs.declared.region.Kind.{Kind}
use Rattle.image_map.specs.declared.region.Kind.TheVariants as kind
use Rattle.ia32_types.specs.declared.Reg.{Reg}
use Rattle.ia32_types.specs.declared.Reg.TheVariants.{Eax, Ecx, Edx, Esp}
use Rattle.ia32_types.specs.Places.{arithmetic_flags}
use Rattle.ia32_semantics.specs.declared.flags.FlagsOut.{FlagsOut}
use Rattle.ia32_semantics.specs.Division.{division_flags}
use Rattle.ia32_semantics.specs.Effects.{Effect, Whole, sets, stores}
use Rattle.ia32_semantics.specs.Externs.{Results, any_results, result_effects, words_from, any_words, any_prefix, number_over, argument, answered, pure, extern_row}
use Rattle.ia32_semantics.specs.Laws.{has_register, has_flag}
use Rattle.ia32_semantics.specs.Operands.{any_word, any_flags, flag_effects, whole_register, stored_word}
use Rattle.ia32_semantics.specs.Outcome.{Outcome, going}
use Rattle.ia32_semantics.specs.Reading.{gives}
use Rattle.ia32_semantics.specs.Rows.{risen}
use Rattle.ia32_semantics.specs.State.{State, Location}
use Rattle.ia32_semantics.proofs.ChangeLemmas.{AreDrawn, Changes, none, changes_both, flags_change, flags_within}
use Rattle.ia32_semantics.proofs.OperandLemmas.{in_tables, has_none, Anything, register_within, word_within, number_within}
use Rattle.ia32_semantics.proofs.TableLemmas.{Meets, exactly}
use Rattle.ia32_semantics.proofs.TableRowLemmas.{closed}
use Rattle.ia32_semantics.proofs.WithinLemmas.{Within, within_gives, within_faults, within_bind, within_byte, within_if}
use Rattle.access_facts.specs.Cores.{extern_reads_registers, extern_writes_registers, extern_writes_flags}

-- flags of which each is drawn are the five
five : (f : FlagsOut) → AreDrawn division_flags f → Changes none (has_flag arithmetic_flags) [] (flag_effects f)
unfolding division_flags
five f drawn =
    let all = flags_change division_flags f drawn in
    record { registers = all.registers; flags = λ n. all.flags n ∙ closed (0 == n) (1 == n) (2 == n) (3 == n) (4 == n); takes = all.takes }

in_order : (a b c d : Bool) → (((a || (b || (c || false))) || false) || (d || false)) ≡ (a || (b || (c || (d || false))))
in_order true b c d = refl
in_order false true c d = refl
in_order false false true d = refl
in_order false false false d = refl

abbrev answer_registers : List Reg
answer_registers = Eax ∷ Ecx ∷ Edx ∷ Esp ∷ []

abbrev Answer : Outcome → Type 0
Answer = Meets (Esp ∷ []) answer_registers arithmetic_flags true true

-- by its effects alone
answer_meets : (r : Results) (first : List Effect) (sp : ℕ) (done : Outcome) → AreDrawn division_flags r.flags → Changes none none [] first
    → done.effects ≡ (first ++ result_effects r) ++ (sets Whole 4 sp ∷ []) → Answer done
answer_meets r first sp done drawn memory is =
    exactly (Esp ∷ []) answer_registers arithmetic_flags true true _ _ [] done changes (λ n. refl) (λ n. refl) (has_none (Esp ∷ []))
  where
    changes : Changes (has_register answer_registers) (has_flag arithmetic_flags) [] done.effects
    changes =
        let three = has_register (Eax ∷ Ecx ∷ Edx ∷ []) in
        let results =
        changes_both three none none (has_flag arithmetic_flags) [] [] (sets Whole 0 r.eax ∷ sets Whole 1 r.ecx ∷ sets Whole 2 r.edx ∷ []) (flag_effects r.flags)
        (record { registers = λ n. refl; flags = λ n. refl; takes = λ n e. e }) (five r.flags drawn) in
        let front = changes_both none (λ n. three n || none n) none (λ n. none n || has_flag arithmetic_flags n) [] [] first (result_effects r) memory results in
        let all =
        changes_both (λ n. none n || (three n || none n)) (has_register (Esp ∷ [])) (λ n. none n || (none n || has_flag arithmetic_flags n)) none [] [] (first ++ result_effects r) (sets Whole 4 sp ∷ [])
        front (record { registers = λ n. refl; flags = λ n. refl; takes = λ n e. e }) in
        subst (λ es. Changes (has_register answer_registers) (has_flag arithmetic_flags) [] es) (sym is)
        (record {
          registers = λ n. all.registers n ∙ in_order (0 == n) (1 == n) (2 == n) (4 == n);
          flags = λ n. all.flags n ∙ or-false (has_flag arithmetic_flags n);
          takes = all.takes;
        })

module _ (s : State) where
  abbrev R : Location → Bool
  R = in_tables (Esp ∷ []) []

  results_within : Within s R (λ (r : Results). AreDrawn division_flags r.flags) any_results
  unfolding any_results
  results_within =
      within_bind s R Anything _ any_word _ (word_within s (Esp ∷ []) []) (λ eax q.
      within_bind s R Anything _ any_word _ (word_within s (Esp ∷ []) []) (λ ecx q.
      within_bind s R Anything _ any_word _ (word_within s (Esp ∷ []) []) (λ edx q.
      within_bind s R (AreDrawn division_flags) _ (any_flags division_flags) _ (flags_within s R division_flags) (λ flags drawn.
      within_gives s R (λ (r : Results). AreDrawn division_flags r.flags) _ drawn))))

  words_within : (n a : ℕ) → Within s R Anything (words_from a n)
  unfolding words_from
  words_within zero a = within_gives s R Anything [] tt
  words_within (suc n) a =
      within_bind s R Anything _ (stored_word a) _ (number_within s (Esp ∷ []) [] 4 a) (λ first q.
      within_bind s R Anything _ (words_from (a + 4) n) _ (words_within n (a + 4)) (λ others q. within_gives s R Anything _ tt))

  any_within : (n : ℕ) → Within s R Anything (any_words n)
  unfolding any_words
  any_within zero = within_gives s R Anything [] tt
  any_within (suc n) =
      within_bind s R Anything _ any_word _ (word_within s (Esp ∷ []) []) (λ word q.
      within_bind s R Anything _ (any_words n) _ (any_within n) (λ others q. within_gives s R Anything _ tt))

  prefix_within : (most : ℕ) → Within s R Anything (any_prefix most)
  unfolding any_prefix
  prefix_within most =
      within_bind s R Anything Anything any_word _ (word_within s (Esp ∷ []) []) (λ n q.
      within_if s R Anything (nat_lt most n) _ _ (λ _. within_faults s R Anything) (λ _. any_within n))

  over_within : (to : ℕ) (bytes : List ℕ) (n a : ℕ) → Within s R Anything (number_over to bytes n a)
  unfolding number_over
  over_within to bytes zero a = within_gives s R Anything 0 tt
  over_within to bytes (suc n) a =
      within_byte s R Anything a _ refl (λ old is.
      within_bind s R Anything Anything (number_over to bytes n (a + 1)) _ (over_within to bytes n (a + 1)) (λ rest q. within_gives s R Anything _ tt))

  answered_within : (r : Results) (sp place : ℕ) (done : Outcome) → AreDrawn division_flags r.flags → done.effects ≡ result_effects r ++ (sets Whole 4 (risen sp 4) ∷ []) → Within s R Answer (gives done)
  answered_within r sp place done drawn is =
      within_gives s R Answer done (answer_meets r [] (risen sp 4) done drawn (record { registers = λ n. refl; flags = λ n. refl; takes = λ n e. e }) is)

  pure_within : (n : ℕ) → Within s R Answer (pure n)
  pure_within n =
      within_bind s R (λ (r : Results). AreDrawn division_flags r.flags) _ any_results _ results_within (λ r drawn.
      within_bind s R Anything _ (whole_register 4) _ (register_within s (Esp ∷ []) [] 4 refl) (λ sp q.
      within_bind s R Anything _ (words_from (sp + 4) n) _ (words_within n (sp + 4)) (λ read q.
      within_bind s R Anything _ (stored_word sp) _ (number_within s (Esp ∷ []) [] 4 sp) (λ place q.
      answered_within r sp place (answered r sp place) drawn refl))))

  -- an extern asks only for the stack pointer, and writes what externs write
  pub extern_within : (at : ℕ) (k : Kind) → Within s (in_tables (extern_reads_registers k) []) (Meets (extern_reads_registers k) (extern_writes_registers k) (extern_writes_flags k) true true) (extern_row at k)
  unfolding extern_row extern_reads_registers extern_writes_registers extern_writes_flags
  extern_within at (kind.Pure n) = pure_within n
  extern_within at (kind.Reader n) =
      within_bind s R Answer _ (pure n) _ (pure_within n) (λ done meets.
      within_gives s R Answer _ (record {
        takes = meets.takes;
        registers = meets.registers;
        flags = meets.flags;
        all_registers = meets.all_registers;
        all_flags = meets.all_flags;
      }))
  extern_within at kind.Alloc =
      within_bind s R (λ (r : Results). AreDrawn division_flags r.flags) _ any_results _ results_within (λ r drawn.
      within_bind s R Anything _ (whole_register 4) _ (register_within s (Esp ∷ []) [] 4 refl) (λ sp q.
      within_bind s R Anything _ (stored_word (sp + 4)) _ (number_within s (Esp ∷ []) [] 4 (sp + 4)) (λ count q.
      within_bind s R Anything _ (stored_word sp) _ (number_within s (Esp ∷ []) [] 4 sp) (λ place q.
      answered_within r sp place _ drawn refl))))
  extern_within at kind.Stop =
      within_gives s (in_tables [] []) (Meets [] [] [] true true) (going [] at)
      (exactly [] [] [] true true (has_register []) (has_flag []) [] (going [] at) (record { registers = λ n. refl; flags = λ n. refl; takes = λ n e. e }) (λ n. refl) (λ n. refl) (has_none []))
  extern_within at kind.Unknown = within_faults s R Answer
  extern_within at (kind.Fills buffer length) =
      within_bind s R (λ (r : Results). AreDrawn division_flags r.flags) _ any_results _ results_within (λ r drawn.
      within_bind s R Anything _ (whole_register 4) _ (register_within s (Esp ∷ []) [] 4 refl) (λ sp q.
      within_bind s R Anything _ (words_from (sp + 4) (max buffer length)) _ (words_within (max buffer length) (sp + 4)) (λ read q.
      within_bind s R Anything _ (any_prefix (argument read length)) _ (prefix_within (argument read length)) (λ bytes q.
      within_bind s R Anything _ (number_over (argument read buffer) bytes 4 sp) _ (over_within (argument read buffer) bytes 4 sp) (λ place q.
      within_gives s R Answer _ (answer_meets r (stores (argument read buffer) bytes ∷ []) (risen sp 4) _ drawn (record { registers = λ n. refl; flags = λ n. refl; takes = λ n e. e }) refl))))))
