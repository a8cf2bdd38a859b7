-- An abstract state after changes of registers and flags stands for a state of the machine after the same changes.
use Rattle.std.proofs.Common.{◌≡◌, ℕ, ◌+◌, ◌<◌, ◌==◌, Bool, true, false, not, cond, Option, Some, None, refl, sym, ◌∙◌, ap, subst, arith, lit<}
use Rattle.std.specs.Prelude.{nat_lt}
use Rattle.std.proofs.lemmas.Bool.{true≢false, eqb-true, eq-eqb, ltb-true, ltb-false}
use Rattle.image_map.specs.declared.image.Image.{Image}
use Rattle.image_map.specs.declared.region.Cell.{Cell}
use Rattle.ia32_types.specs.Numbers.{reg_number}
use Rattle.ia32_semantics.specs.State.{State, put}
use Rattle.ia32_semantics.specs.Effects.{Part, sets, turns as turns_flag, changed, with_part}
use Rattle.alocs.specs.Cells.{Division}
use Rattle.vset.specs.declared.facts.AbsFlags.{AbsFlags}
use Rattle.vset.specs.declared.facts.CmpFact.{CmpFact}
use Rattle.vset.specs.declared.facts.CmpPlace.{CmpPlace}
use Rattle.vset.specs.declared.facts.CmpPlace.TheVariants as place
use Rattle.vset.specs.Values.{Values, CanonicalValues}
use Rattle.vset.specs.World.{Thing, TheImage, ActivationAt, BlockAt}
use Rattle.vset.specs.Members.{HasValue}
use Rattle.abs_cmp.specs.Facts.{IsCompared}
use Rattle.abs_semantics.specs.States.{AbsState}
use Rattle.abs_semantics.specs.Operands.{with_part_value, fact_without, is_register}
use Rattle.abs_semantics.specs.StandsFor.{StandsFor, world_of, Owns, IsCellOf, flags_of, IsTrueAt, HoldsFact}
use Rattle.abs_steps.specs.Flags.{MayBe, allows, with_five, any_five, with_direction}
use Rattle.abs_steps.specs.Effects.{puts, turns, frees, steers, learns, done}
use Rattle.step_soundness.specs.Terms.{IsPart}
use Rattle.step_soundness.proofs.WordLaws.{part_has}

module _ (lane : ℕ) (a : AbsState) (s : State) (stands : StandsFor lane a s) (registers : ℕ → ℕ) (flags : ℕ → Bool) where
  abbrev after : State
  after = record s { registers = registers; flags = flags }

  owns_before : (t : Thing) (x : ℕ) → Owns after t x → Owns s t x
  owns_before TheImage x h = h
  owns_before (ActivationAt newer b older) x h = h
  owns_before (BlockAt before b later) x h = h

  pub owns_after : (t : Thing) (x : ℕ) → Owns s t x → Owns after t x
  owns_after TheImage x h = h
  owns_after (ActivationAt newer b older) x h = h
  owns_after (BlockAt before b later) x h = h

  cell_before : (t : Thing) (c : Cell) (at len : ℕ) → IsCellOf lane after t c at len → IsCellOf lane s t c at len
  cell_before t c at len of =
      record { is_in = of.is_in; region = of.region; lies = record { start = of.lies.start; end = of.lies.end; owned = λ k lt. owns_before t (at + k) (of.lies.owned k lt) } }

  cell_after : (t : Thing) (c : Cell) (at len : ℕ) → IsCellOf lane s t c at len → IsCellOf lane after t c at len
  cell_after t c at len of =
      record { is_in = of.is_in; region = of.region; lies = record { start = of.lies.start; end = of.lies.end; owned = λ k lt. owns_after t (at + k) (of.lies.owned k lt) } }

  -- registers and flags that hold, and what is known of the last comparison
  pub core_stands : (values : ℕ → Values) (may : MayBe) (fact : Option CmpFact) → ((n : ℕ) → n < 8 → HasValue lane (world_of s) (registers n) (values n))
      → ((n : ℕ) → n < 6 → may n (flags n) ≡ true) → HoldsFact lane after fact
      → StandsFor lane (record a { registers = values; flags = may; fact = fact }) after
  core_stands values may fact held allowed true_ =
      record {
        registers = held;
        flags = allowed;
        cells = λ t c at len bytes of is. stands.cells t c at len bytes (cell_before t c at len of) is;
        root = stands.root;
        live = stands.live;
        older = stands.older;
        links = stands.links;
        aligns = stands.aligns;
        blocks = stands.blocks;
        fact = true_;
      }

  -- what was compared stays true where it isn't changed and the flags aren't
  fact_after : flags_of after ≡ flags_of s → (f : CmpFact) (p : CmpPlace) → ((r : ℕ) → is_register r p ≡ true → registers r ≡ s.registers r) → IsTrueAt lane s f p → IsTrueAt lane after f p
  fact_after same f (place.Reg r) kept is =
      let word : registers (reg_number r) ≡ s.registers (reg_number r) = kept (reg_number r) (eq-eqb (reg_number r) (reg_number r) refl) in
      subst (λ n. IsCompared f.bound n (flags_of after)) (sym word) (subst (IsCompared f.bound (s.registers (reg_number r))) (sym same) is)
  fact_after same f (place.Cell c) kept is =
      record { thing = is.thing; at = is.at; of_thing = cell_after is.thing c is.at 4 is.of_thing; word = is.word; is_word = is.is_word; compared = subst (IsCompared f.bound is.word) (sym same) is.compared }

module _ (lane : ℕ) (d : Division) (image : Image) (p : ℕ) (a : AbsState) (s : State) (stands : StandsFor lane a s) where
  -- -- Registers

  module _ (part : Part) (n m : ℕ) (v : Values) (form : CanonicalValues (a.registers n)) (few : n < 8) (word : s.registers n < 4294967296) (fits : IsPart part m) (small : m < 4294967296) (has : HasValue lane (world_of s) m v) where
    put_held : (k : ℕ) → k < 8 → HasValue lane (world_of s) (put s.registers n (with_part part (s.registers n) m) k) (put a.registers n (with_part_value part (a.registers n) v) k)
    put_held k lt = by (n == k)
      where
        by : (b : Bool) → HasValue lane (world_of s) (cond b (with_part part (s.registers n) m) (s.registers k)) (cond b (with_part_value part (a.registers n) v) (a.registers k))
        by true = part_has lane (world_of s) (a.registers n) v form (s.registers n) m word small (stands.registers n few) has part fits
        by false = stands.registers k lt

    put_fact : (o : Option CmpFact) → HoldsFact lane s o → HoldsFact lane (changed (sets part n m) s) (fact_without n o)
    put_fact None h = tt
    put_fact (Some f) h = by (is_register n f.place) refl
      where
        other : (r : ℕ) (q : CmpPlace) → is_register n q ≡ false → is_register r q ≡ true → (n == r) ≡ false
        other r (place.Reg q) not_ is = by_test (n == r) refl
          where
            by_test : (b : Bool) → (n == r) ≡ b → (n == r) ≡ false
            by_test false e = e
            by_test true e = absurd (true≢false (sym (eq-eqb (reg_number q) n (eqb-true (reg_number q) r is ∙ sym (eqb-true n r e))) ∙ not_))
        other r (place.Cell c) not_ is = cc

        by : (b : Bool) → is_register n f.place ≡ b → HoldsFact lane (changed (sets part n m) s) (cond b None (Some f))
        by true e = tt
        by false e =
            fact_after lane a s stands (put s.registers n (with_part part (s.registers n) m)) s.flags refl f f.place
            (λ r is. ap (λ b. cond b (with_part part (s.registers n) m) (s.registers r)) (other r f.place e is)) h

    pub puts_stands : StandsFor lane (done d image p (puts part n v) a) (changed (sets part n m) s)
    puts_stands =
        core_stands lane a s stands (put s.registers n (with_part part (s.registers n) m)) s.flags
        (put a.registers n (with_part_value part (a.registers n) v)) a.flags (fact_without n a.fact) put_held stands.flags (put_fact a.fact stands.fact)

  -- -- Flags

  -- the flag past the five is DF
  df_alone : (n : ℕ) → n < 6 → nat_lt n 5 ≡ false → n ≡ 5
  df_alone n lt e = let high = ltb-false n 5 e in omega arith

  module _ (flags : ℕ → Bool) (df : flags 5 ≡ s.flags 5) where
    kept_df : (n : ℕ) → n < 6 → nat_lt n 5 ≡ false → a.flags n (flags n) ≡ true
    kept_df n lt e = subst (λ k. a.flags k (flags k) ≡ true) (sym (df_alone n lt e)) (ap (a.flags 5) df ∙ stands.flags 5 (lit< tt))

    -- the five flags may be anything afterwards
    pub frees_stands : StandsFor lane (done d image p frees a) (record s { flags = flags })
    frees_stands = core_stands lane a s stands s.registers flags a.registers (any_five a.flags) None stands.registers each tt
      where
        each : (n : ℕ) → n < 6 → any_five a.flags n (flags n) ≡ true
        each n lt = by (nat_lt n 5) refl
          where
            by : (b : Bool) → nat_lt n 5 ≡ b → cond b true (a.flags n (flags n)) ≡ true
            by true e = refl
            by false e = kept_df n lt e

    -- they are as some sets say
    pub turns_stand : (f : AbsFlags) → ((n : ℕ) → n < 5 → allows f n (flags n) ≡ true) → StandsFor lane (done d image p (turns f) a) (record s { flags = flags })
    turns_stand f may = core_stands lane a s stands s.registers flags a.registers (with_five f a.flags) None stands.registers each tt
      where
        each : (n : ℕ) → n < 6 → with_five f a.flags n (flags n) ≡ true
        each n lt = by (nat_lt n 5) refl
          where
            by : (b : Bool) → nat_lt n 5 ≡ b → cond b (allows f n (flags n)) (a.flags n (flags n)) ≡ true
            by true e = may n (ltb-true n 5 e)
            by false e = kept_df n lt e

  -- DF is written
  pub steers_stand : (set : Bool) → StandsFor lane (done d image p (steers set) a) (changed (turns_flag 5 set) s)
  steers_stand set = core_stands lane a s stands s.registers (put s.flags 5 set) a.registers (with_direction set a.flags) None stands.registers each tt
    where
      direction : (set : Bool) → cond set set (not set) ≡ true
      direction true = refl
      direction false = refl

      each : (n : ℕ) → n < 6 → with_direction set a.flags n (put s.flags 5 set n) ≡ true
      each n lt = by (n == 5) (5 == n) refl refl
        where
          by : (b c : Bool) → (n == 5) ≡ b → (5 == n) ≡ c → cond b (cond set (cond c set (s.flags n)) (not (cond c set (s.flags n)))) (a.flags n (cond c set (s.flags n))) ≡ true
          by true true e f = direction set
          by true false e f = absurd (true≢false (sym (eq-eqb 5 n (sym (eqb-true n 5 e))) ∙ f))
          by false true e f = absurd (true≢false (sym (eq-eqb n 5 (sym (eqb-true 5 n f))) ∙ e))
          by false false e f = stands.flags n lt

  -- -- Comparisons

  pub learns_stand : (f : CmpFact) → HoldsFact lane s (Some f) → StandsFor lane (done d image p (learns f) a) s
  learns_stand f is = core_stands lane a s stands s.registers s.flags a.registers a.flags (Some f) stands.registers stands.flags is
