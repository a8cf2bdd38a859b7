-- The runs of the example, computed.
use Rattle.std.proofs.Common.{◌≡◌, ◌≢◌, ℕ, zero, suc, ◌+◌, ◌-◌, ◌<◌, ◌==◌, ◌&&◌, not, Bool, true, false, List, [], ◌∷◌, length, take, drop, map, Some, None, refl, sym, ap, ◌∙◌, arith}
use Rattle.std.specs.Prelude.{slice_get, get_or}
use Rattle.std.specs.List.{list_all}
use Rattle.std.proofs.lemmas.Bool.{false≢true, and_parts, not-true}
use Rattle.std.proofs.lemmas.Option.{slice_get-get_or, slice_get_within}
use Rattle.image_map.specs.Names.{extern_number}
use Rattle.ia32_types.specs.declared.Op.TheVariants as op
use Rattle.ia32_types.specs.declared.Width.TheVariants.{D32}
use Rattle.ia32_types.specs.Spells.{addressed, formed, grouped, simple, opened, prefixed, instruction}
use Rattle.ia32_types.specs.Rows.{row_00, row_40, row_80, row_c0, row_0f, string_form, group_form}
use Rattle.ia32_types.specs.Memory.{displaced, indexed, memory}
use Rattle.ia32_types.specs.Prefixes.{next_prefixes}
use Rattle.ia32_semantics.specs.Alu.{sign, has_even_parity, sum, difference, result_flags, sum_overflows, difference_overflows, sum_carries, difference_borrows, sum_flags, difference_flags, kept_flags, alu_value, alu_flags}
use Rattle.ia32_semantics.specs.Condition.{even_condition, holds}
use Rattle.ia32_semantics.specs.Division.{division_flags}
use Rattle.ia32_semantics.specs.Effects.{with_part}
use Rattle.ia32_semantics.specs.Externs.{words_from, any_results, extern_row}
use Rattle.ia32_semantics.specs.Fetch.{code_run}
use Rattle.ia32_semantics.specs.Ia32.{machine}
use Rattle.ia32_semantics.specs.Machine.{Occurrence}
use Rattle.ia32_semantics.specs.Operands.{whole_register, flag_value, any_word, stored_number, register_or_zero, address, memory_value, value, value_of, address_of, store, store_to, any_flag, any_flags, condition_flags, condition}
use Rattle.ia32_semantics.specs.Outcome.{keeps}
use Rattle.ia32_semantics.specs.Rows.{carry_in, immediate, extra_bytes, row}
use Rattle.ia32_semantics.specs.Runs.{stands_at, IsRun, IsComplete}
use Rattle.ia32_semantics.specs.State.{Location, InRegister, InFlag, AtByte, is_location, bytes_at, little_endian, pending}
use Rattle.ia32_semantics.specs.Step.{Act, Executes, completes, is_branch, reads, writes, forgets}
use Rattle.ia32_fetch.specs.Fetched.{instruction_at}
use Rattle.run_examples.specs.Example.{image, settings}
use Rattle.run_examples.specs.Laws.{DependsByData, HasDependences}
use Rattle.run_examples.proofs.StartLemmas.{start, start_is, start_sizes, example_bytes}
use Rattle.run_examples.proofs.WalkLemmas.{walk, walks, walk_goes, made_by, each_among}

-- the words of the steps, where the extern leaves this number in EAX
abbrev words_for : ℕ → List (List ℕ) → List (List ℕ)
words_for n rest = [] ∷ (n ∷ 0 ∷ 0 ∷ 0 ∷ 0 ∷ 0 ∷ 0 ∷ 0 ∷ []) ∷ [] ∷ [] ∷ [] ∷ [] ∷ [] ∷ [] ∷ [] ∷ rest

abbrev twice : List (Occurrence Act)
twice = walk image settings (words_for 2 ([] ∷ [] ∷ [])) start

abbrev once : List (Occurrence Act)
once = walk image settings (words_for 1 []) start

-- where a list ends
abbrev nothing : Occurrence Act
nothing = made_by start [] (Executes (record { at = 0; len = 0; op = op.Nop; width = D32; dst = None; src = None; imm = None })) (record { effects = []; place = 0; calls = keeps; given = None; forgets = None; reads_all = false })

abbrev of : List (Occurrence Act) → ℕ → Occurrence Act
of run k = get_or run k nothing

abbrev leaves : Location → Occurrence Act → Bool
leaves l o = not (writes o l) && not (forgets o l)

-- occurrence j reads what occurrence i wrote last
abbrev IsRead : List (Occurrence Act) → Location → ℕ → ℕ → Type 0
IsRead run l j i =
    ((is_location true l && reads (of run j) l) ≡ true) × ((is_location true l && writes (of run i) l) ≡ true) × (forgets (of run i) l ≡ false)
    × (list_all (leaves l) (take (j - suc i) (drop (suc i) run)) ≡ true)

-- the run is walked, and what is read where
pub record IsTwice : Type 0 where
  pub walked : walks image settings (words_for 2 ([] ∷ [] ∷ [])) start ≡ true
  pub long : length twice ≡ 11
  pub stands : map stands_at twice
      ≡ 0x08049000 ∷ 0xF0000000 ∷ 0x08049005 ∷ 0x08049006 ∷ 0x0804900D ∷ 0x0804900E ∷ 0x0804900D ∷ 0x0804900E ∷ 0x08049010 ∷ 0x0804900B ∷ 0x0804900C ∷ []
  pub ends : completes (of twice 10) ≡ true
  pub of_extern : IsRead twice (InRegister 0) 2 1
  pub of_loop : IsRead twice (InRegister 0) 6 4
  pub of_flag : IsRead twice (InFlag 2) 7 6
  pub of_byte_0 : IsRead twice (AtByte 0xBFF00008) 9 2
  pub of_byte_1 : IsRead twice (AtByte 0xBFF00009) 9 2
  pub of_byte_2 : IsRead twice (AtByte 0xBFF0000A) 9 2
  pub of_byte_3 : IsRead twice (AtByte 0xBFF0000B) 9 2
  pub branches : is_branch (of twice 5).act ≡ true
  pub later : stands_at (of twice 6) ≡ 0x0804900D
  pub branch : stands_at (of twice 5) ≡ 0x0804900E
  pub goes_to : (of twice 5).after.eip ≡ 0x0804900D
  pub calls : pending (of twice 5).before.activations ≡ (0x08049006, 0x0804900D) ∷ []

pub record IsOnce : Type 0 where
  pub walked : walks image settings (words_for 1 []) start ≡ true
  pub long : length once ≡ 9
  pub ends : completes (of once 8) ≡ true
  pub branch : stands_at (of once 5) ≡ 0x0804900E
  pub goes_to : (of once 5).after.eip ≡ 0x08049010
  pub calls : pending (of once 5).before.activations ≡ (0x08049006, 0x0804900D) ∷ []
  pub avoids : list_all (λ o. not (stands_at o == 0x0804900D)) (take 3 (drop 6 once)) ≡ true

twice_is : IsTwice
unfolding instruction_at extern_number code_run addressed formed grouped simple opened prefixed instruction row_00 row_40 row_80 row_c0 row_0f string_form group_form displaced indexed memory next_prefixes bytes_at little_endian pending whole_register flag_value any_word stored_number register_or_zero address memory_value value value_of address_of store store_to any_flag any_flags condition_flags condition carry_in immediate extra_bytes row sign has_even_parity sum difference result_flags sum_overflows difference_overflows sum_carries difference_borrows sum_flags difference_flags kept_flags alu_value alu_flags division_flags with_part words_from any_results extern_row even_condition holds
twice_is =
    record {
      walked = refl;
      long = refl;
      stands = refl;
      ends = refl;
      of_extern = (refl, refl, refl, refl);
      of_loop = (refl, refl, refl, refl);
      of_flag = (refl, refl, refl, refl);
      of_byte_0 = (refl, refl, refl, refl);
      of_byte_1 = (refl, refl, refl, refl);
      of_byte_2 = (refl, refl, refl, refl);
      of_byte_3 = (refl, refl, refl, refl);
      branches = refl;
      later = refl;
      branch = refl;
      goes_to = refl;
      calls = refl;
    }

once_is : IsOnce
unfolding instruction_at extern_number code_run addressed formed grouped simple opened prefixed instruction row_00 row_40 row_80 row_c0 row_0f string_form group_form displaced indexed memory next_prefixes bytes_at little_endian pending whole_register flag_value any_word stored_number register_or_zero address memory_value value value_of address_of store store_to any_flag any_flags condition_flags condition carry_in immediate extra_bytes row sign has_even_parity sum difference result_flags sum_overflows difference_overflows sum_carries difference_borrows sum_flags difference_flags kept_flags alu_value alu_flags division_flags with_part words_from any_results extern_row even_condition holds
once_is = record { walked = refl; long = refl; ends = refl; branch = refl; goes_to = refl; calls = refl; avoids = refl }

-- -- What follows

there : (run : List (Occurrence Act)) (n k : ℕ) → length run ≡ n → k < n → slice_get run k ≡ Some (of run k)
there run n k long lt = slice_get-get_or run k nothing (omega (arith, long, lt))

not_written : (place written : Bool) → not written ≡ true → ¬ ((place && written) ≡ true)
not_written place written none e = false≢true (sym (not-true written none) ∙ (and_parts place written e).1)

not_true : (b : Bool) → not b ≡ true → ¬ (b ≡ true)
not_true b none e = false≢true (sym (not-true b none) ∙ e)

depends : (run : List (Occurrence Act)) (n j i : ℕ) (l : Location) → length run ≡ n → j < n → i < j → IsRead run l j i → DependsByData run l j i
depends run n j i l long lt before read =
    record {
      earlier = before;
      reader = of run j;
      writer = of run i;
      reader_is = there run n j long lt;
      writer_is = there run n i long (omega (arith, lt, before));
      reads = read.0;
      writes = read.1;
      kept = λ e. false≢true (sym read.2 ∙ e);
      last = λ k o after early is.
          let left = and_parts (not (writes o l)) (not (forgets o l)) (each_among (leaves l) run (suc i) (j - suc i) k o read.3 (omega (arith, after)) (omega (arith, early, after)) is) in
          (not_written (is_location true l) (writes o l) left.0, not_true (forgets o l) left.1);
    }

walked_run : (choices : List (List ℕ)) → walks image settings choices start ≡ true → IsRun (machine image settings) (walk image settings choices start)
walked_run choices walked = record { start = start; starts = start_is; goes = walk_goes image settings example_bytes choices start start_sizes walked }

complete : (run : List (Occurrence Act)) (n k : ℕ) → length run ≡ n → k < n → completes (of run k) ≡ true → IsComplete (machine image settings) run
complete run n k long lt ends = record { last = k; occurrence = of run k; is_there = there run n k long lt; completes = ends }

other_place : (x y : ℕ) → x ≡ 0x08049010 → y ≡ 0x0804900D → x ≢ y
other_place x y first second same = let e : 0x08049010 ≡ 0x0804900D = sym first ∙ same ∙ second in absurd (omega (arith, e))

not_there : (x y : ℕ) → not (x == 0x0804900D) ≡ true → y ≡ 0x0804900D → x ≢ y
not_there x y other is same = absurd (false≢true (sym (ap (λ z. not (z == 0x0804900D)) (same ∙ is)) ∙ other))

within : (run : List (Occurrence Act)) (n k : ℕ) (o : Occurrence Act) → length run ≡ n → slice_get run k ≡ Some o → k < n
within run n k o long is = let lt = slice_get_within run k o is in omega (arith, long, lt)

-- each byte of the word
of_bytes : IsTwice → (k : ℕ) → k < 4 → DependsByData twice (AtByte (0xBFF00008 + k)) 9 2
of_bytes t zero lt = depends twice 11 9 2 (AtByte 0xBFF00008) t.long (omega arith) (omega arith) t.of_byte_0
of_bytes t (suc zero) lt = depends twice 11 9 2 (AtByte 0xBFF00009) t.long (omega arith) (omega arith) t.of_byte_1
of_bytes t (suc (suc zero)) lt = depends twice 11 9 2 (AtByte 0xBFF0000A) t.long (omega arith) (omega arith) t.of_byte_2
of_bytes t (suc (suc (suc zero))) lt = depends twice 11 9 2 (AtByte 0xBFF0000B) t.long (omega arith) (omega arith) t.of_byte_3
of_bytes t (suc (suc (suc (suc k)))) lt = absurd (omega (arith, lt))

pub has_dependences : HasDependences
has_dependences =
    let t = twice_is in
    let o = once_is in
    record {
      run = twice;
      is_run = walked_run (words_for 2 ([] ∷ [] ∷ [])) t.walked;
      is_complete = complete twice 11 10 t.long (omega arith) t.ends;
      stands = t.stands;
      of_extern = depends twice 11 2 1 (InRegister 0) t.long (omega arith) (omega arith) t.of_extern;
      of_loop = depends twice 11 6 4 (InRegister 0) t.long (omega arith) (omega arith) t.of_loop;
      of_flag = depends twice 11 7 6 (InFlag 2) t.long (omega arith) (omega arith) t.of_flag;
      of_memory = of_bytes t;
      of_branch = record {
        earlier = omega arith;
        later = of twice 6;
        branch = of twice 5;
        later_is = there twice 11 6 t.long (omega arith);
        branch_is = there twice 11 5 t.long (omega arith);
        branches = t.branches;
        other_run = once;
        other_is_run = walked_run (words_for 1 []) o.walked;
        other_is_complete = complete once 9 8 o.long (omega arith) o.ends;
        other = 5;
        other_branch = of once 5;
        other_is = there once 9 5 o.long (omega arith);
        same_place = o.branch ∙ sym t.branch;
        same_calls = o.calls ∙ sym t.calls;
        other_way = other_place (of once 5).after.eip (of twice 5).after.eip o.goes_to t.goes_to;
        avoids = λ k x after is. not_there (stands_at x) (stands_at (of twice 6)) (each_among (λ y. not (stands_at y == 0x0804900D)) once 6 3 k x o.avoids (omega (arith, after)) (within once 9 k x o.long is) is) t.later;
      };
    }
