-- The state in which runs start has the form that the analysis keeps.
use Rattle.std.proofs.Common.{◌≡◌, ℕ, ◌<◌, ⊎_elim, true, cond, ◌||◌, ◌==◌, List, [], ◌∷◌, map, Option, Some, None, refl, sym, ap, subst, arith, lit<, pos, ◌+ℤ◌}
use Rattle.std.specs.Prelude.{option_map}
use Rattle.std.specs.Cmp.{signed_Decides}
use Rattle.std.specs.Int.{int_gap, cast_unsigned, w32}
use Rattle.std.proofs.lemmas.Bool.{cond_both, or_cases}
use Rattle.std.proofs.lemmas.Int.{ints}
use Rattle.image_map.specs.declared.image.Image.{Image}
use Rattle.image_map.specs.declared.region.Cell.{Cell}
use Rattle.image_map.specs.declared.region.RegionId.TheVariants.{Global, Frame, Heap, OldHeap}
use Rattle.image_map.specs.Queries.{byte_at}
use Rattle.image_map.specs.Regions.{same_region, same_cell}
use Rattle.ia32_semantics.specs.State.{bytes_at, little_endian, State}
use Rattle.ia32_semantics.specs.Step.{HALT}
use Rattle.alocs.specs.Cells.{Division}
use Rattle.strided.specs.Interval.{one}
use Rattle.strided.proofs.MemberLemmas.{one_canonical}
use Rattle.strided.proofs.SpacedLemmas.{gap_from}
use Rattle.si_bits.proofs.SignLemmas.{fits_between}
use Rattle.vset.specs.Values.{Top, Parts, CanonicalValues}
use Rattle.vset.specs.Operations.{part}
use Rattle.abs_semantics.specs.Joins.{has_length}
use Rattle.abs_semantics.specs.Operands.{word_number}
use Rattle.abs_semantics.specs.Start.{number_or_top, image_number, image_value, first_value, first_cells, initial_state}
use Rattle.abs_semantics.specs.Touching.{slot_of}
use Rattle.abs_semantics.specs.Accesses.{without_value}
use Rattle.abs_semantics.proofs.FirstLemmas.{below_bytes}
use Rattle.abs_semantics.proofs.FormLemmas.{rebuilt_form, word_form}
use Rattle.abs_semantics.proofs.RangeLemmas.{numbers_of, numbers_1, numbers_2, numbers_4}
use Rattle.call_soundness.specs.Maps.{HasForm}
use Rattle.call_soundness.proofs.CallLaws.{apart_from}
use Rattle.ia32_semantics.specs.CallModel.{IsStart}
use Rattle.image_map.specs.declared.region.Settings.{Settings}
use Rattle.state_forms.specs.Images.{HasBytes}

module _ (image : Image) (bytes : HasBytes image) where
  -- so many bytes of the image are a word
  few_form : (a n : ℕ) → numbers_of n < 4294967297 → CanonicalValues (number_or_top (option_map little_endian (bytes_at (byte_at image) a n)))
  few_form a n few = by (bytes_at (byte_at image) a n) refl
    where
      by : (o : Option (List ℕ)) → bytes_at (byte_at image) a n ≡ o → CanonicalValues (number_or_top (option_map little_endian o))
      by None e = tt
      by (Some bs) e = let below = below_bytes (byte_at image) bytes a n bs e in word_form (little_endian bs) (omega (arith, below, few))

  image_form : (c : Cell) → CanonicalValues (image_value image c)
  image_form c =
      cond_both (has_length 1 c || (has_length 2 c || has_length 4 c)) (number_or_top (image_number image c)) Top CanonicalValues
      (λ some. few_form (cast_unsigned w32 c.start) (int_gap c.start c.end)
      (⊎_elim (λ is. of 1 is (let e = numbers_1 in omega (arith, e))) (λ more. ⊎_elim (λ is. of 2 is (let e = numbers_2 in omega (arith, e))) (λ is. of 4 is (let e = numbers_4 in omega (arith, e))) (or_cases (has_length 2 c) (has_length 4 c) more))
      (or_cases (has_length 1 c) (has_length 2 c || has_length 4 c) some)))
      (λ _. tt)
    where
      of : (n : ℕ) → has_length n c ≡ true → numbers_of n < 4294967297 → numbers_of (int_gap c.start c.end) < 4294967297
      of n is few = subst (λ k. numbers_of k < 4294967297) (sym (gap_from c.start c.end n ((signed_Decides c.end (c.start +ℤ pos n)).0 is))) few

  first_form : (entry : ℕ) (c : Cell) → CanonicalValues (first_value image entry c)
  first_form entry c =
      cond_both (same_region c.region Global) (image_value image c) (cond (same_cell (slot_of (Frame entry)) c) (word_number HALT) Top) CanonicalValues (λ _. image_form c)
      (λ _. cond_both (same_cell (slot_of (Frame entry)) c) (word_number HALT) Top CanonicalValues (λ _. word_form HALT (lit< tt)) (λ _. tt))

  pub initial_formed : (d : Division) (entry : ℕ) → HasForm (initial_state image d entry)
  unfolding initial_state
  initial_formed d entry =
      record {
        canonical = record {
          registers = λ n.
              cond_both (n == 4) (Parts (part (Frame entry) (one (pos 0)) ∷ [])) Top CanonicalValues
              (λ _. (one_canonical (pos 0) (fits_between (pos 0) (omega (arith, ints)) (omega (arith, ints))), tt)) (λ _. tt);
          cells = rebuilt_form (first_value image entry) (map without_value (first_cells d entry)) (first_form entry);
          links = tt;
        };
        fact = tt;
        unaligned = λ key. (
          ap (λ b. cond b (Some 12) None) (apart_from (Frame entry) (Heap key) (λ e. cc)),
          ap (λ b. cond b (Some 12) None) (apart_from (Frame entry) (OldHeap key) (λ e. cc)),
        );
      }

-- the bytes of an image are those with which a run starts
pub bytes_of_start : (image : Image) (settings : Settings) (s : State) → IsStart image settings s → HasBytes image
bytes_of_start image settings s start a byte e = start.sized.memory a byte (start.known a byte e)
