-- A state stands on after a write, where the cells that it touches are given values that they may hold then.
use Rattle.std.proofs.Common.{◌≡◌, ℕ, zero, suc, ◌+◌, ◌<◌, ◌≤◌, ◌⊎◌, inl, inr, ⊎_elim, Bool, true, false, cond, ◌&&◌, List, ◌++◌, map, Option, Some, None, refl, sym, ◌∙◌, ap, subst, arith}
use Rattle.std.specs.Prelude.{not, option_map}
use Rattle.std.proofs.lemmas.Bool.{and_parts, cond_both, true≢false, false≢true}
use Rattle.image_map.specs.declared.image.Image.{Image}
use Rattle.image_map.specs.declared.region.Cell.{Cell}
use Rattle.ia32_semantics.specs.State.{State, Bytes, bytes_at, little_endian, word_at, joined}
use Rattle.vset.specs.declared.facts.CmpFact.{CmpFact}
use Rattle.vset.specs.declared.facts.CmpPlace.{CmpPlace}
use Rattle.vset.specs.declared.facts.CmpPlace.TheVariants as place
use Rattle.vset.specs.Values.{Values}
use Rattle.vset.specs.Members.{HasValue}
use Rattle.vset.specs.World.{Thing}
use Rattle.abs_semantics.specs.States.{AbsState, value_at}
use Rattle.abs_semantics.specs.StandsFor.{StandsFor, IsCellOf, IsTrueAt, HoldsFact, world_of}
use Rattle.abs_semantics.specs.Accesses.{may_change, lasts, untouched_fact, without_value, changed_value, overwritten}
use Rattle.abs_semantics.specs.Stores.{with_memory}
use Rattle.abs_semantics.proofs.CellLemmas.{rebuilt_value}
use Rattle.abs_semantics.proofs.MeetLemmas.{Shares, Apart, shares_or_apart}

-- bytes that are the same at two places
pub same_bytes : (m m' : Bytes) (a b n : ℕ) → ((k : ℕ) → k < n → m (a + k) ≡ m' (b + k)) → bytes_at m a n ≡ bytes_at m' b n
unfolding bytes_at
same_bytes m m' a b zero same = refl
same_bytes m m' a b (suc n) same =
    let first : m a ≡ m' b = subst (λ x. m x ≡ m' b) (zero_on a) (subst (λ y. m (a + 0) ≡ m' y) (zero_on b) (same 0 (omega arith))) in
    let rest : bytes_at m (a + 1) n ≡ bytes_at m' (b + 1) n =
    same_bytes m m' (a + 1) (b + 1) n (λ k lt. subst (λ x. m x ≡ m' (b + 1 + k)) (step_on a k) (subst (λ y. m (a + (k + 1)) ≡ m' y) (step_on b k) (same (k + 1) (omega arith)))) in
    λ i. joined (first i) (rest i)
  where
    zero_on : (x : ℕ) → x + 0 ≡ x
    zero_on x = omega arith

    step_on : (x k : ℕ) → x + (k + 1) ≡ x + 1 + k
    step_on x k = omega arith

module _ (lane : ℕ) (a : AbsState) (s : State) (stands : StandsFor lane a s) (image : Image) (at count : ℕ) (memory : Bytes) (others : (y : ℕ) → (y < at) ⊎ (at + count ≤ y) → memory y ≡ s.memory y) where
  -- a cell that shares no byte with the range keeps its bytes
  pub apart_bytes : (cat clen : ℕ) → Apart at count cat clen → bytes_at memory cat clen ≡ bytes_at s.memory cat clen
  apart_bytes cat clen apart = same_bytes memory s.memory cat cat clen (λ k lt. others (cat + k) (apart (cat + k) (omega arith) (omega arith)))

  module _ (touched : Cell → Bool) (given : Cell → Values) (cs : List Cell)
      (meets : (t : Thing) (c : Cell) (cat clen : ℕ) → IsCellOf lane s t c cat clen → Shares at count cat clen → (touched c ≡ true) × (may_change image c ≡ true))
      (new : (t : Thing) (c : Cell) (cat clen : ℕ) (bytes : List ℕ) → IsCellOf lane s t c cat clen → bytes_at memory cat clen ≡ Some bytes → touched c ≡ true → Shares at count cat clen → HasValue lane (world_of s) (little_endian bytes) (given c))
      (old : (t : Thing) (c : Cell) (cat clen : ℕ) (bytes : List ℕ) → IsCellOf lane s t c cat clen → bytes_at memory cat clen ≡ Some bytes → touched c ≡ true → Apart at count cat clen
      → HasValue lane (world_of s) (little_endian bytes) (value_at a c) → HasValue lane (world_of s) (little_endian bytes) (given c)) where
    cell_value : (t : Thing) (c : Cell) (cat clen : ℕ) (bytes : List ℕ) → IsCellOf lane s t c cat clen → bytes_at memory cat clen ≡ Some bytes → HasValue lane (world_of s) (little_endian bytes) (changed_value image a touched given c)
    cell_value t c cat clen bytes cell read = by_bytes (shares_or_apart at count cat clen)
      where
        by_bytes : Shares at count cat clen ⊎ Apart at count cat clen → HasValue lane (world_of s) (little_endian bytes) (changed_value image a touched given c)
        by_bytes (inl shares) =
            let both = meets t c cat clen cell shares in
            cond_both (touched c && may_change image c) (given c) (value_at a c) (HasValue lane (world_of s) (little_endian bytes))
            (λ _. new t c cat clen bytes cell read both.0 shares)
            (λ none. absurd (true≢false (sym (let e : (touched c && may_change image c) ≡ true = ap (λ u. u && may_change image c) both.0 ∙ both.1 in e) ∙ none)))
        by_bytes (inr apart) =
            let before = stands.cells t c cat clen bytes cell (sym (apart_bytes cat clen apart) ∙ read) in
            cond_both (touched c && may_change image c) (given c) (value_at a c) (HasValue lane (world_of s) (little_endian bytes))
            (λ some. old t c cat clen bytes cell read (and_parts (touched c) (may_change image c) some).0 apart before)
            (λ none. before)

    -- the word of a cell that isn't touched
    same_word : (t : Thing) (c : Cell) (cat : ℕ) → IsCellOf lane s t c cat 4 → touched c ≡ false → word_at memory cat ≡ word_at s.memory cat
    same_word t c cat cell none =
        ap (option_map little_endian) (apart_bytes cat 4
        (⊎_elim (λ shares. absurd (true≢false (sym (meets t c cat 4 cell shares).0 ∙ none))) (λ apart. apart) (shares_or_apart at count cat 4)))

    fact_at : (f : CmpFact) (p : CmpPlace) → lasts touched p ≡ true → IsTrueAt lane s f p → IsTrueAt lane (with_memory s memory) f p
    fact_at f (place.Reg r) last h = h
    fact_at f (place.Cell c) last h =
        record {
          thing = h.thing;
          at = h.at;
          of_thing = record { is_in = h.of_thing.is_in; region = h.of_thing.region; lies = record { start = h.of_thing.lies.start; end = h.of_thing.lies.end; owned = h.of_thing.lies.owned } };
          word = h.word;
          is_word = same_word h.thing c h.at h.of_thing (untouched (touched c) last) ∙ h.is_word;
          compared = h.compared;
        }
      where
        untouched : (u : Bool) → not u ≡ true → u ≡ false
        untouched true e = absurd (false≢true e)
        untouched false e = refl

    fact : (f : Option CmpFact) → HoldsFact lane s f → HoldsFact lane (with_memory s memory) (untouched_fact touched f)
    fact None h = tt
    fact (Some f) h = by_test (lasts touched f.place) refl
      where
        by_test : (u : Bool) → lasts touched f.place ≡ u → HoldsFact lane (with_memory s memory) (cond u (Some f) None)
        by_test true last = fact_at f f.place last h
        by_test false gone = tt

    pub overwritten_stands : StandsFor lane (overwritten image a touched given cs) (with_memory s memory)
    overwritten_stands =
        record {
          registers = stands.registers;
          flags = stands.flags;
          cells = λ t c cat clen bytes cell read.
              rebuilt_value (HasValue lane (world_of s) (little_endian bytes)) c (changed_value image a touched given) (a.cells ++ map without_value cs) tt
              (cell_value t c cat clen bytes (record { is_in = cell.is_in; region = cell.region; lies = record { start = cell.lies.start; end = cell.lies.end; owned = cell.lies.owned } }) read);
          root = stands.root;
          live = stands.live;
          older = stands.older;
          links = stands.links;
          aligns = stands.aligns;
          blocks = stands.blocks;
          fact = fact a.fact stands.fact;
        }
