-- An abstract state stands for each state in which a run starts, the bytes of memory left out.
use Rattle.std.proofs.Common.{◌≡◌, ℕ, ◌+◌, ◌%◌, ◌==◌, true, false, not, List, [], ◌∷◌, ◌++◌, inl, refl, sym, ◌∙◌, ap, arith}
use Rattle.std.specs.Prelude.{pos, ◌+ℤ◌}
use Rattle.std.proofs.lemmas.Bool.{cond_both, eqb-true, eq-eqb, or_left, false≢true}
use Rattle.std.proofs.lemmas.Int.{ints}
use Rattle.image_map.specs.declared.image.Image.{Image}
use Rattle.image_map.specs.declared.region.Activation.{Activation}
use Rattle.image_map.specs.declared.region.RegionId.TheVariants.{Frame}
use Rattle.image_map.specs.declared.region.Settings.{Settings}
use Rattle.ia32_semantics.specs.State.{State}
use Rattle.ia32_semantics.specs.CallModel.{IsStart, entry_activation}
use Rattle.strided.specs.Concrete.{signed}
use Rattle.strided.specs.Interval.{one}
use Rattle.vset.specs.Values.{Top, Parts}
use Rattle.vset.specs.Operations.{part}
use Rattle.vset.specs.World.{Thing, TheImage, ActivationAt, BlockAt, IsIn, base_of, region_of, is_called}
use Rattle.vset.specs.Members.{HasValue, IsPartMember}
use Rattle.abs_semantics.specs.StandsFor.{StandsFor, world_of}
use Rattle.abs_semantics.specs.Start.{entry_state}
use Rattle.abs_semantics.proofs.BelowLemmas.{first_known, none_some}

pub empty_split : {X : Type 0} (newer older : List X) (x : X) → [] ≡ newer ++ (x ∷ older) → ⊥
empty_split [] older x e = cc
empty_split (n ∷ newer) older x e = cc

only_one : {X : Type 0} (f : X) (newer older : List X) (x : X) → f ∷ [] ≡ newer ++ (x ∷ older) → (newer ≡ []) × (x ≡ f) × (older ≡ [])
only_one f [] older x e = (refl, cc, cc)
only_one f (n ∷ newer) older x e = absurd (empty_split newer older x (cc))

module _ (image : Image) (settings : Settings) (lane : ℕ) (s : State) (h : IsStart image settings s) where
  pub one_split : (newer older : List Activation) (x : Activation) → s.activations ≡ newer ++ (x ∷ older) → (newer ≡ []) × (x ≡ entry_activation settings s.slot) × (older ≡ [])
  one_split newer older x e = only_one (entry_activation settings s.slot) newer older x (sym h.activations ∙ e)

  stack_pointer : (n : ℕ) → (n == 4) ≡ true → IsPartMember lane (world_of s) (s.registers n) (part (Frame settings.entry) (one (pos 0)))
  stack_pointer n is =
      let number : n ≡ 4 = eqb-true n 4 is in
      let value : s.registers n ≡ s.slot = ap s.registers number ∙ h.esp_is in
      let whole : pos (s.registers n) ≡ pos s.slot +ℤ pos 0 = omega (arith, ints) in
      record {
        thing = ActivationAt [] (entry_activation settings s.slot) [];
        is_in = h.activations;
        region = refl;
        offset = pos 0;
        within = record { turns = 0; reached = omega (arith, ints); in_range = omega (arith, ints) };
        low = omega (arith, ints);
        high = omega (arith, ints);
        reached = ap (λ z. signed z) whole;
      }

  aligned : (t : Thing) (n : ℕ) → IsIn (world_of s) t → Frame settings.entry ≡ region_of lane t → 12 ≡ n → base_of t % 16 ≡ n
  aligned TheImage n is_in region number = absurd (cc)
  aligned (ActivationAt newer x older) n is_in region number =
      let base : x.base ≡ s.slot = ap (λ (a : Activation). a.base) (one_split newer older x is_in).1 in
      let slot : (s.slot + 4) % 16 ≡ 0 = h.slot.aligned in
      omega arith
  aligned (BlockAt before x later) n is_in region number = absurd (empty_split before later x (sym h.allocs ∙ is_in.0))

  pub start_stands : StandsFor lane (entry_state settings.entry) s
  start_stands =
      record {
        registers = λ n lt. cond_both (n == 4) (Parts (part (Frame settings.entry) (one (pos 0)) ∷ [])) Top (HasValue lane (world_of s) (s.registers n)) (λ is. inl (stack_pointer n is)) (λ _. tt);
        flags = λ n lt. cond_both (n == 5) (not (s.flags n)) true (λ t. t ≡ true) (λ is. ap not (ap s.flags (eqb-true n 5 is) ∙ h.df)) (λ _. refl);
        cells = λ t c at len bytes lies read. tt;
        root = λ newer oldest split. ap (λ (a : Activation). a.callee) (one_split newer [] oldest split).1;
        live = λ newer older x split.
            or_left (settings.entry == x.callee) false (eq-eqb settings.entry x.callee (sym (ap (λ (a : Activation). a.callee) (one_split newer older x split).1)));
        older = λ newer older x split called. absurd (false≢true (ap (λ l. is_called x.callee l) (sym (one_split newer older x split).0) ∙ called));
        links = λ newer older child parent split. absurd (not_more parent older (one_split newer (parent ∷ older) child split).2);
        aligns = λ t n is_in known.
            first_known (region_of lane t) n (record { region = Frame settings.entry; number = 12 }) [] (base_of t % 16 ≡ n) known (aligned t n is_in) (λ none. absurd (none_some n none));
        blocks = λ before later x is_in. absurd (empty_split before later x (sym h.allocs ∙ is_in.0));
        fact = tt;
      }
    where
      not_more : (x : Activation) (xs : List Activation) → x ∷ xs ≡ [] → ⊥
      not_more x xs e = cc
