-- The side of a branch that is taken: its abstract state stands for the state.
use Rattle.std.proofs.Common.{◌≡◌, ℕ, ◌^◌, ◌<◌, ◌==◌, Bool, true, cond, List, [], ◌∷◌, Option, Some, None, refl, sym, ◌∙◌, ap, subst, arith, lit<, pos}
use Rattle.std.proofs.lemmas.Int.{ints}
use Rattle.std.proofs.lemmas.Bool.{cond_both, eqb-true}
use Rattle.std.proofs.lemmas.Option.{none-some, same_Some}
use Rattle.std.specs.Prelude.{◌+ℤ◌}
use Rattle.std.specs.Option.{option_map}
use Rattle.image_map.specs.declared.image.Image.{Image}
use Rattle.image_map.specs.declared.region.Cell.{Cell}
use Rattle.image_map.specs.Regions.{same_cell}
use Rattle.image_map.proofs.OrderLaws.{same_cell-equal}
use Rattle.ia32_types.specs.Numbers.{reg_number}
use Rattle.ia32_types.proofs.NumberLemmas.{reg_number_below}
use Rattle.ia32_semantics.specs.Condition.{holds}
use Rattle.ia32_semantics.specs.State.{State, put, bytes_at, little_endian}
use Rattle.vset.specs.declared.facts.CmpFact.{CmpFact}
use Rattle.vset.specs.declared.facts.CmpPlace.{CmpPlace}
use Rattle.vset.specs.declared.facts.CmpPlace.TheVariants as place
use Rattle.vset.specs.Members.{HasValue}
use Rattle.vset.specs.Values.{Values, Top, Parts}
use Rattle.vset.specs.World.{Thing, base_of}
use Rattle.abs_cmp.specs.Facts.{IsCompared}
use Rattle.abs_cmp.specs.Refine.{refine}
use Rattle.abs_cmp.proofs.RefineLemmas.{refine_keeps}
use Rattle.abs_semantics.specs.States.{AbsState, HasCanonical, value_at}
use Rattle.abs_semantics.specs.StandsFor.{StandsFor, world_of, flags_of, IsCellOf, IsComparedIn, IsTrueAt, HoldsFact}
use Rattle.abs_semantics.specs.Ownership.{IsKnown}
use Rattle.abs_semantics.specs.Accesses.{without_value}
use Rattle.abs_semantics.specs.Touching.{names_one}
use Rattle.abs_semantics.proofs.CellLemmas.{value_canonical, rebuilt_value}
use Rattle.abs_semantics.proofs.FirstLemmas.{below_bytes}
use Rattle.abs_semantics.proofs.RangeLemmas.{numbers_4}
use Rattle.abs_semantics.proofs.ThingLemmas.{one_thing}
use Rattle.abs_steps.specs.Flags.{may_hold}
use Rattle.abs_steps.specs.Successors.{has_member, place_value, with_place_value, narrowed_to, narrowed, side}
use Rattle.step_soundness.specs.Terms.{AreAllowed}
use Rattle.step_soundness.proofs.ConditionLaws.{holds_may}
use Rattle.step_soundness.proofs.CoreLaws.{core_stands}
use Rattle.call_soundness.specs.Maps.{IsPlaceOfOne, IsOfOne}

module _ (image : Image) (lane p : ℕ) (a : AbsState) (s : State) (known_ : IsKnown image lane a p s) (form : HasCanonical a) where
  -- a value that a word has has a member
  some_member : (n : ℕ) (v : Values) → HasValue lane (world_of s) n v → has_member v ≡ true
  some_member n Top h = refl
  some_member n (Parts []) h = absurd h
  some_member n (Parts (x ∷ xs)) h = refl

  -- a register holds one value more closely
  register_stands : (n : ℕ) (v : Values) → HasValue lane (world_of s) (s.registers n) v → StandsFor lane (record a { registers = put a.registers n v }) s
  register_stands n v has =
      core_stands lane a s known_.stands s.registers s.flags (put a.registers n v) a.flags a.fact held known_.stands.flags known_.stands.fact
    where
      held : (k : ℕ) → k < 8 → HasValue lane (world_of s) (s.registers k) (put a.registers n v k)
      held k lt =
          cond_both (n == k) v (a.registers k) (HasValue lane (world_of s) (s.registers k))
          (λ e. subst (λ j. HasValue lane (world_of s) (s.registers j) v) (eqb-true n k e) has) (λ _. known_.stands.registers k lt)

  -- a cell of one thing does
  module _ (c : Cell) (f : CmpFact) (is : IsComparedIn lane s c f) (one : names_one c.region ≡ true) (condition : ℕ) (taken : Bool) (holds_so : holds condition (flags_of s) ≡ taken) where
    abbrev v : Values
    v = refine condition taken f.bound (value_at a c)

    -- any cell of this kind is the one that was compared
    same_word : (t : Thing) (at len : ℕ) (bytes : List ℕ) → IsCellOf lane s t c at len → bytes_at s.memory at len ≡ Some bytes → little_endian bytes ≡ is.word
    same_word t at len bytes of b =
        let same : t ≡ is.thing = one_thing lane s c.region t is.thing one of.is_in is.of_thing.is_in of.region is.of_thing.region in
        let base : base_of t ≡ base_of is.thing = ap base_of same in
        let first : pos at ≡ pos (base_of t) +ℤ c.start = of.lies.start in
        let second : pos is.at ≡ pos (base_of is.thing) +ℤ c.start = is.of_thing.lies.start in
        let here : at ≡ is.at = omega (arith, ints) in
        let end_a : c.end ≡ c.start +ℤ pos len = of.lies.end in
        let end_b : c.end ≡ c.start +ℤ pos 4 = is.of_thing.lies.end in
        let long : len ≡ 4 = omega (arith, ints) in
        let there : bytes_at s.memory is.at 4 ≡ Some bytes = ap (λ n. bytes_at s.memory n 4) (sym here) ∙ ap (bytes_at s.memory at) (sym long) ∙ b in
        same_Some (little_endian bytes) is.word (ap (option_map little_endian) (sym there) ∙ is.is_word)

    refined_has : (t : Thing) (at len : ℕ) (bytes : List ℕ) → IsCellOf lane s t c at len → bytes_at s.memory at len ≡ Some bytes → HasValue lane (world_of s) (little_endian bytes) v
    refined_has t at len bytes of b =
        let word_ : little_endian bytes ≡ is.word = same_word t at len bytes of b in
        subst (λ n. HasValue lane (world_of s) n v) (sym word_)
        (refine_keeps lane (world_of s) is.word condition taken f.bound (flags_of s) (value_at a c) (value_canonical c a.cells form.cells)
        (by_bytes (bytes_at s.memory is.at 4) refl is.is_word)
        (subst (λ n. HasValue lane (world_of s) n (value_at a c)) word_ (known_.stands.cells t c at len bytes of b)) is.compared holds_so)
      where
        by_bytes : (o : Option (List ℕ)) → bytes_at s.memory is.at 4 ≡ o → option_map little_endian o ≡ Some is.word → is.word < 2 ^ 32
        by_bytes None e g = absurd (none-some is.word g)
        by_bytes (Some bs) e g =
            let below = below_bytes s.memory known_.whole.laid_out.sized.memory is.at 4 bs e in
            let same : little_endian bs ≡ is.word = same_Some (little_endian bs) is.word g in
            omega (arith, below, same, numbers_4)

    narrowed_cells : AbsState
    narrowed_cells = with_place_value a (place.Cell c) v

    pub cell_stands : StandsFor lane (with_place_value a (place.Cell c) v) s
    cell_stands =
        record {
          registers = known_.stands.registers;
          flags = known_.stands.flags;
          cells = λ t x at len bytes of b.
              rebuilt_value (HasValue lane (world_of s) (little_endian bytes)) x (λ y. cond (same_cell y c) v (value_at a y)) (without_value c ∷ a.cells) tt
              (cond_both (same_cell x c) v (value_at a x) (HasValue lane (world_of s) (little_endian bytes))
              (λ e. refined_has t at len bytes (subst (λ y. IsCellOf lane s t y at len) (same_cell-equal x c e) of) b)
              (λ _. known_.stands.cells t x at len bytes of b));
          root = known_.stands.root;
          live = known_.stands.live;
          older = known_.stands.older;
          links = known_.stands.links;
          aligns = known_.stands.aligns;
          blocks = known_.stands.blocks;
          fact = known_.stands.fact;
        }

    pub cell_member : has_member v ≡ true
    cell_member = by_bytes (bytes_at s.memory is.at 4) refl is.is_word
      where
        by_bytes : (o : Option (List ℕ)) → bytes_at s.memory is.at 4 ≡ o → option_map little_endian o ≡ Some is.word → has_member v ≡ true
        by_bytes None e g = absurd (none-some is.word g)
        by_bytes (Some bs) e g = some_member (little_endian bs) v (refined_has is.thing is.at 4 bs is.of_thing e)

  -- what is left where a test of the condition comes out as it does
  pub record HasSide (condition : ℕ) (taken : Bool) : Type 0 where
    pub state : AbsState
    pub is : side a condition taken ≡ Some state
    pub stands : StandsFor lane state s

  module _ (condition : ℕ) (taken : Bool) (holds_so : holds condition (flags_of s) ≡ taken) where
    abbrev Narrows : Option AbsState → Type 0
    Narrows o = (b : AbsState) × (o ≡ Some b) × StandsFor lane b s

    narrows_to : (f : CmpFact) (q : CmpPlace) (v : Values) → has_member v ≡ true → StandsFor lane (with_place_value a q v) s → Narrows (narrowed_to a q v)
    narrows_to f q v member stands = (with_place_value a q v, ap (λ b. cond b (Some (with_place_value a q v)) None) member, stands)

    by_place : (f : CmpFact) (q : CmpPlace) → f.place ≡ q → HoldsFact lane s (Some f) → IsPlaceOfOne q → Narrows (narrowed_to a q (refine condition taken f.bound (place_value a q)))
    by_place f (place.Reg r) e fact one =
        let compared : IsCompared f.bound (s.registers (reg_number r)) (flags_of s) = subst (λ q. IsTrueAt lane s f q) e fact in
        let has = refine_keeps lane (world_of s) (s.registers (reg_number r)) condition taken f.bound (flags_of s) (a.registers (reg_number r)) (form.registers (reg_number r))
        (known_.whole.laid_out.sized.registers (reg_number r)) (known_.stands.registers (reg_number r) (reg_number_below r)) compared holds_so in
        narrows_to f (place.Reg r) (refine condition taken f.bound (a.registers (reg_number r))) (some_member (s.registers (reg_number r)) _ has) (register_stands (reg_number r) _ has)
    by_place f (place.Cell c) e fact one =
        let is : IsComparedIn lane s c f = subst (λ q. IsTrueAt lane s f q) e fact in
        narrows_to f (place.Cell c) (refine condition taken f.bound (value_at a c)) (cell_member c f is one condition taken holds_so) (cell_stands c f is one condition taken holds_so)

    by_fact : (o : Option CmpFact) → HoldsFact lane s o → IsOfOne o → Narrows (narrowed a condition taken o)
    by_fact None fact one = (a, refl, known_.stands)
    by_fact (Some f) fact one = by_place f f.place refl fact one

    flags_may : AreAllowed a.flags (flags_of s)
    flags_may =
        record {
          cf = known_.stands.flags 0 (lit< tt);
          pf = known_.stands.flags 1 (lit< tt);
          zf = known_.stands.flags 2 (lit< tt);
          sf = known_.stands.flags 3 (lit< tt);
          of = known_.stands.flags 4 (lit< tt);
        }

    pub side_stands : IsOfOne a.fact → HasSide condition taken
    unfolding side
    side_stands one =
        let left = by_fact a.fact known_.stands.fact one in
        let may : may_hold condition a.flags taken ≡ true = subst (λ t. may_hold condition a.flags t ≡ true) holds_so (holds_may a.flags (flags_of s) flags_may condition) in
        record { state = left.0; is = ap (λ b. cond b (narrowed a condition taken a.fact) None) may ∙ left.1; stands = left.2 }
