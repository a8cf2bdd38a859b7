-- Changes one after another: what the state that came of some changes of registers and memory has kept, so that what was read before
-- them is still so, and that each further change keeps it.
use Rattle.std.proofs.Common.{◌≡◌, ℕ, ◌<◌, ◌≤◌, ◌^◌, Bool, true, false, cond, [], Option, Some, None, refl, sym, ◌∙◌, ap, subst, arith}
use Rattle.std.specs.List.{list_any}
use Rattle.std.specs.Prelude.{nat_lt, ℤ}
use Rattle.std.proofs.lemmas.Bool.{cond_both, ltb-true}
use Rattle.std.proofs.lemmas.Option.{none-some, same_Some}
use Rattle.strided.specs.Interval.{Interval}
use Rattle.strided.specs.Operations.{only}
use Rattle.si_bits.specs.Concrete.{word}
use Rattle.image_map.specs.declared.image.Image.{Image}
use Rattle.ia32_types.specs.declared.Width.{Width}
use Rattle.ia32_semantics.specs.CallModel.{IsLaidOut, AreActivations}
use Rattle.ia32_semantics.specs.Effects.{Part, Whole, Word, Low, High, sets, stores, changed, effect_fits, with_part, overwritten}
use Rattle.ia32_types.specs.Numbers.{size}
use Rattle.ia32_semantics.specs.Operands.{bits, number_bytes}
use Rattle.ia32_semantics.specs.State.{State, Bytes, put}
use Rattle.ia32_semantics.proofs.EffectLemmas.{MapsAs, HasSizes, changed_sizes, overwritten_maps, overwritten_below, put_all}
use Rattle.alocs.specs.Cells.{Division}
use Rattle.vset.specs.Values.{Values, Top, CanonicalValues, only_number}
use Rattle.vset.specs.Members.{HasValue}
use Rattle.abs_alu.specs.Operands.{known, word_within, single_word}
use Rattle.abs_semantics.specs.States.{AbsState, HasCanonical}
use Rattle.abs_semantics.specs.StandsFor.{StandsFor, world_of}
use Rattle.abs_semantics.specs.Ownership.{IsKnown}
use Rattle.abs_semantics.specs.Operands.{is_up_to, if_alone, known_with_part, with_part_value, fact_without}
use Rattle.abs_semantics.specs.Accesses.{write}
use Rattle.abs_semantics.specs.Resolve.{resolve, Resolved}
use Rattle.abs_semantics.specs.Stores.{with_memory}
use Rattle.abs_semantics.specs.Touching.{touches_slot}
use Rattle.abs_semantics.proofs.FormLemmas.{word_form, writes_keep_form}
use Rattle.abs_semantics.proofs.SlotLemmas.{slots_are_left}
use Rattle.abs_steps.specs.Effects.{puts, saves, done}
use Rattle.step_soundness.specs.Terms.{IsPart}
use Rattle.step_soundness.proofs.CoreLaws.{puts_stands}
use Rattle.step_soundness.proofs.StoreLaws.{saves_stand, saved_range, saved_bytes}
use Rattle.step_soundness.proofs.PlaceLaws.{resolve_stays, write_leaves}

-- what state b for state t has kept of state a for state s
pub record Since (image : Image) (lane p : ℕ) (a : AbsState) (s : State) (b : AbsState) (t : State) : Type 0 where
  pub known : IsKnown image lane b p t
  pub form : HasCanonical b
  pub activations : t.activations ≡ s.activations
  pub allocs : t.allocs ≡ s.allocs
  pub slot : t.slot ≡ s.slot
  pub flags : t.flags ≡ s.flags
  pub may : b.flags ≡ a.flags
  pub maps : MapsAs t.memory s.memory
  pub resolves : (v : Values) (len : ℕ) → resolve b p v len ≡ resolve a p v len

pub since_itself : (image : Image) (lane p : ℕ) (a : AbsState) (s : State) → IsKnown image lane a p s → HasCanonical a → Since image lane p a s a s
since_itself image lane p a s known form =
    record { known = known; form = form; activations = refl; allocs = refl; slot = refl; flags = refl; may = refl; maps = record { same = λ x. refl }; resolves = λ v len. refl }

pub since_later : (image : Image) (lane p : ℕ) (a b c : AbsState) (s t u : State) → Since image lane p a s b t → Since image lane p b t c u → Since image lane p a s c u
since_later image lane p a b c s t u h k =
    record {
      known = k.known;
      form = k.form;
      activations = k.activations ∙ h.activations;
      allocs = k.allocs ∙ h.allocs;
      slot = k.slot ∙ h.slot;
      flags = k.flags ∙ h.flags;
      may = k.may ∙ h.may;
      maps = record { same = λ x. k.maps.same x ∙ h.maps.same x };
      resolves = λ v len. k.resolves v len ∙ h.resolves v len;
    }

-- -- The form of parts

-- a word that is known at a width lies below its bound
pub known_below : (w : ℕ) (v : Values) (k : ℕ) → known w v ≡ Some k → k < 2 ^ w
unfolding known
known_below w v k = of_interval (only_number v)
  where
    of_test : (n : ℕ) (b : Bool) → nat_lt n (2 ^ w) ≡ b → cond b (Some n) None ≡ Some k → k < 2 ^ w
    of_test n true e f = subst (λ j. j < 2 ^ w) (same_Some n k f) (ltb-true n (2 ^ w) e)
    of_test n false e f = absurd (none-some k f)

    of_only : (o : Option ℤ) → word_within w o ≡ Some k → k < 2 ^ w
    of_only None f = absurd (none-some k f)
    of_only (Some z) f = of_test (word z) (nat_lt (word z) (2 ^ w)) refl f

    of_interval : (o : Option Interval) → single_word w o ≡ Some k → k < 2 ^ w
    of_interval None f = absurd (none-some k f)
    of_interval (Some x) f = of_only (only x) f

module _ (old new : Values) (fv : CanonicalValues new) where
  alone_form : (most : ℕ) → CanonicalValues (if_alone most old new)
  alone_form most = cond_both (is_up_to most (only_number old)) new Top CanonicalValues (λ e. fv) (λ e. tt)

  known_form : (part : Part) (other : Values) → CanonicalValues other → ((k j : ℕ) → k < 4294967296 → j < 4294967296 → with_part part k j < 4294967296)
      → (w : ℕ) → 2 ^ w ≤ 4294967296 → (o p : Option ℕ) → known 32 old ≡ o → known w new ≡ p → CanonicalValues (known_with_part part other o p)
  known_form part other h below w few None p e f = h
  known_form part other h below w few (Some k) None e f = h
  known_form part other h below w few (Some k) (Some j) e f =
      let first : k < 4294967296 = known_below 32 old k e in
      let second : j < 2 ^ w = known_below w new j f in
      word_form (with_part part k j) (below k j first (omega (arith, second, few)))

  pub part_form : (part : Part) → CanonicalValues (with_part_value part old new)
  unfolding with_part_value with_part
  part_form Whole = fv
  part_form Word = known_form Word (if_alone 65535 old new) (alone_form 65535) (λ k j f g. omega (arith, f, g)) 16 (omega arith) (known 32 old) (known 16 new) refl refl
  part_form Low = known_form Low (if_alone 255 old new) (alone_form 255) (λ k j f g. omega (arith, f, g)) 8 (omega arith) (known 32 old) (known 8 new) refl refl
  part_form High = known_form High Top tt (λ k j f g. omega (arith, f, g)) 8 (omega arith) (known 32 old) (known 8 new) refl refl

-- -- Single changes

pub same_world : (s t : State) → t.activations ≡ s.activations → t.allocs ≡ s.allocs → world_of s ≡ world_of t
same_world s t activations allocs = λ i. record { activations = sym activations i; allocs = sym allocs i }

module _ (image : Image) (lane p : ℕ) (a : AbsState) (s : State) (b : AbsState) (t : State) (d : Division) (h : Since image lane p a s b t) where
  pub world_is : world_of s ≡ world_of t
  world_is = same_world s t h.activations h.allocs

  -- a part of a register takes a number that a value has
  pub since_puts : (part : Part) (n m : ℕ) (v : Values) → n < 8 → IsPart part m → m < 4294967296 → CanonicalValues v → HasValue lane (world_of s) m v
      → Since image lane p a s (done d image p (puts part n v) b) (changed (sets part n m) t)
  since_puts part n m v few fits small fv has =
      record {
        known = record {
          image_is = h.known.image_is;
          whole = record {
            laid_out = record {
              slot = laid.slot;
              sized = record { registers = sizes.registers; eip = laid.sized.eip; memory = laid.sized.memory };
              mapped = laid.mapped;
              apart = laid.apart;
              placed = laid.placed;
              given = laid.given;
            };
            activations = h.known.whole.activations;
          };
          stands = puts_stands lane d image p b t h.known.stands part n m v (h.form.registers n) few (laid.sized.registers n) fits small (subst (λ w. HasValue lane w m v) world_is has);
          newest = h.known.newest;
          others = h.known.others;
          activations = h.known.activations;
          runs = h.known.runs;
        };
        form = record {
          registers = put_all (λ k w. CanonicalValues w) b.registers n (with_part_value part (b.registers n) v) (part_form (b.registers n) v fv part) h.form.registers;
          cells = h.form.cells;
          links = h.form.links;
        };
        activations = h.activations;
        allocs = h.allocs;
        slot = h.slot;
        flags = h.flags;
        may = h.may;
        maps = h.maps;
        resolves = λ w len. resolve_stays b (put b.registers n (with_part_value part (b.registers n) v)) b.flags b.cells (fact_without n b.fact) p len w ∙ h.resolves w len;
      }
    where
      laid : IsLaidOut image t
      laid = h.known.whole.laid_out

      sizes : HasSizes (changed (sets part n m) t)
      sizes = changed_sizes (sets part n m) t (record { registers = laid.sized.registers; memory = laid.sized.memory })

  -- memory changes where no warning stands
  module _ (at count : ℕ) (memory : Bytes) (c : AbsState) (stands : StandsFor lane c (with_memory t memory)) (form : HasCanonical c) (may : c.flags ≡ b.flags)
      (resolves : (v : Values) (len : ℕ) → resolve c p v len ≡ resolve b p v len)
      (maps : MapsAs memory t.memory) (bytes : (x byte : ℕ) → memory x ≡ Some byte → byte < 256) (slots : AreActivations image memory t.slot t.activations) where
    pub since_stored : Since image lane p a s c (with_memory t memory)
    since_stored =
        record {
          known = record {
            image_is = h.known.image_is;
            whole = record {
              laid_out = record {
                slot = laid.slot;
                sized = record { registers = laid.sized.registers; eip = laid.sized.eip; memory = bytes };
                mapped = λ x. maps.same x ∙ laid.mapped x;
                apart = laid.apart;
                placed = laid.placed;
                given = laid.given;
              };
              activations = slots;
            };
            stands = stands;
            newest = h.known.newest;
            others = h.known.others;
            activations = h.known.activations;
            runs = h.known.runs;
          };
          form = form;
          activations = h.activations;
          allocs = h.allocs;
          slot = h.slot;
          flags = h.flags;
          may = may ∙ h.may;
          maps = record { same = λ x. maps.same x ∙ h.maps.same x };
          resolves = λ v len. resolves v len ∙ h.resolves v len;
        }
      where
        laid : IsLaidOut image t
        laid = h.known.whole.laid_out

  -- a number is stored at an address that a value has, and no warning stands there
  pub since_saves : (width : Width) (at n : ℕ) (v w : Values) → CanonicalValues v → CanonicalValues w → at < 4294967296 → n < 2 ^ bits width → HasValue lane (world_of s) at v → HasValue lane (world_of s) n w
      → (resolve a p v (size width)).reasons ≡ [] → list_any (touches_slot (size width)) (resolve a p v (size width)).entries ≡ false
      → effect_fits image t.memory (stores at (number_bytes (size width) n)) ≡ true
      → Since image lane p a s (done d image p (saves v (size width) w) b) (changed (stores at (number_bytes (size width) n)) t)
  since_saves width at n v w fv fw word small has held quiet slot fits =
      let there : HasValue lane (world_of t) at v = subst (λ w. HasValue lane w at v) world_is has in
      let same : resolve b p v (size width) ≡ resolve a p v (size width) = h.resolves v (size width) in
      since_stored at (size width) (overwritten t.memory at (number_bytes (size width) n)) (write b d image p v (size width) w)
      (saves_stand image lane b p t d h.known h.form width at n v w fv fw word small there (subst (λ o. HasValue lane o n w) world_is held) fits)
      (writes_keep_form image b d p v (size width) w h.form fw)
      (write_leaves b d image p (λ c. c.flags ≡ b.flags) (λ cells fact. refl) v (size width) w)
      (write_leaves b d image p (λ c. (u : Values) (len : ℕ) → resolve c p u len ≡ resolve b p u len) (λ cells fact u len. resolve_stays b b.registers b.flags cells fact p len u) v (size width) w)
      (overwritten_maps image t.memory at (number_bytes (size width) n) fits)
      (overwritten_below t.memory at (number_bytes (size width) n) h.known.whole.laid_out.sized.memory)
      (slots_are_left image lane b p t v at (size width) (size width) (overwritten t.memory at (number_bytes (size width) n)) h.known h.form fv
      (saved_range image lane t width at n v word there fits) (ap (λ (r : Resolved). r.reasons) same ∙ quiet) (ap (λ (r : Resolved). list_any (touches_slot (size width)) r.entries) same ∙ slot)
      (saved_bytes image t width at n fits))
