-- A step of a run is made, or none can be.
use Rattle.std.proofs.Common.{◌≡◌, ℕ, suc, ◌≤◌, List, [], ◌∷◌, ◌++◌, length, drop, refl, sym, ap, ◌∙◌, subst, append_assoc, length-append, arith}
use Rattle.std.specs.Prelude.{false, ◌&&◌, ◌==◌, if◌then◌else◌, reverse, Some, None}
use Rattle.std.proofs.lemmas.Bool.Decides.{nat_tests}
use Rattle.std.proofs.lemmas.List.{length-reverse}
use Rattle.image_map.specs.declared.image.Image.{Image}
use Rattle.image_map.specs.declared.region.Activation.{Activation}
use Rattle.image_map.specs.declared.region.Kind.TheVariants as kind
use Rattle.image_map.specs.declared.region.Settings.{Settings}
use Rattle.ia32_semantics.specs.State.{State}
use Rattle.ia32_semantics.specs.Machine.{Occurrence}
use Rattle.ia32_semantics.specs.Step.{Act, Executes, Answers, IsActAt, Step, completes, is_single, returns_to_halt}
use Rattle.ia32_run.specs.declared.log.Made.{Made}
use Rattle.ia32_run.specs.Choices.{Spreads}
use Rattle.ia32_run.specs.Steps.{occurrence, IsDone, CantBeDone}
use Rattle.ia32_run.specs.Traces.{finish_of, NoStep, IsMade}

more_left : (words rest left choices : List ℕ) → words ≡ choices ++ left → words ++ rest ≡ choices ++ (left ++ rest)
more_left words rest left choices e = ap (λ l. l ++ rest) e ∙ append_assoc choices left rest

-- more words at the end are left
pub spread_more : (act : Act) (s : State) (words rest left choices : List ℕ) → Spreads act s words left choices → Spreads act s (words ++ rest) (left ++ rest) choices
spread_more (Executes i) s words rest left choices e = more_left words rest left choices e
spread_more (Answers at (kind.Pure n)) s words rest left choices e = more_left words rest left choices e
spread_more (Answers at (kind.Reader n)) s words rest left choices e = more_left words rest left choices e
spread_more (Answers at kind.Stop) s words rest left choices e = more_left words rest left choices e
spread_more (Answers at kind.Unknown) s words rest left choices e = more_left words rest left choices e
spread_more (Answers at kind.Alloc) s words rest left choices (first, others, size, is_size, seven, are, spread) =
    (first, others, size, is_size, seven, more_left words rest left (first ∷ others) are, spread)
spread_more (Answers at (kind.Fills buffer len)) s words rest left choices (first, others, count, is_count, seven, are, spread) =
    (first, others, count, is_count, seven, more_left words rest left (first ∷ others) are, spread)

-- a step that was done is made
pub done_is_made : (image : Image) (settings : Settings) (act : Act) (words rest : List ℕ) (made : Made) (before after : State) → IsActAt image settings before.eip act → IsDone image act words made.out before after
    → made.at ≡ before.eip → ((o : Occurrence Act) → o.act ≡ act → returns_to_halt o ≡ (is_single before.activations && made.out.next == 0xFFFF0000) → made.finish ≡ (if completes o then Some (finish_of o.act) else None))
    → IsMade image settings (words ++ rest) (drop made.out.used words ++ rest) made before after
done_is_made image settings act words rest made before after stands d at finish = record {
  o = occurrence act d.choices before after;
  before_is = refl;
  after_is = refl;
  makes = record {
    happens = record { act = stands; step = d.step };
    spread = subst (λ l. Spreads act before (words ++ rest) (l ++ rest) d.choices) d.taken (spread_more act before words rest d.left d.choices d.spread);
    zeros = d.zeros;
  };
  at = at;
  reads = d.reads;
  writes = d.writes;
  forgets = d.forgets;
  finish = finish (occurrence act d.choices before after) refl (ap (λ n. is_single before.activations && n == 0xFFFF0000) d.next);
}

-- -- Where there is none

pub no_act : (image : Image) (settings : Settings) (s : State) (words : List ℕ) → 8 ≤ length words → ((a : Act) → IsActAt image settings s.eip a → ⊥) → NoStep image settings s words
no_act image settings s words long none = (long, λ left o is makes. none o.act (subst (λ (b : State). IsActAt image settings b.eip o.act) is makes.happens.act))

pub cant_act : (image : Image) (settings : Settings) (act : Act) (s : State) (words rest : List ℕ) → length words ≡ 8 → ((a : Act) → IsActAt image settings s.eip a → a ≡ act) → CantBeDone image act words s
    → NoStep image settings s (words ++ rest)
cant_act image settings act s words rest long one cant = (
  (let more = length-append words rest in omega arith),
  λ left o is makes.
      let same : o.act ≡ act = one o.act (subst (λ (b : State). IsActAt image settings b.eip o.act) is makes.happens.act) in
      cant rest left o.choices o.after
      (subst (λ (b : State). Spreads act b (words ++ rest) left o.choices) is (subst (λ a. Spreads a o.before (words ++ rest) left o.choices) same makes.spread))
      (subst (λ (b : State). Step image (occurrence act o.choices b o.after)) is (subst (λ a. Step image (occurrence a o.choices o.before o.after)) same makes.happens.step)),
)

-- -- The entry's activation alone

single_length : (xs : List Activation) → is_single xs ≡ (length xs == 1)
single_length [] = refl
single_length (x ∷ []) = refl
single_length (x ∷ y ∷ rest) = sym (not_one (length rest))
  where
    not_one : (n : ℕ) → (suc (suc n) == 1) ≡ false
    not_one n = grind (arith, nat_tests)

pub single_is : (frames : List Activation) → (length frames == 1) ≡ is_single (reverse frames)
single_is frames = ap (λ n. n == 1) (sym (length-reverse frames)) ∙ sym (single_length (reverse frames))

-- -- The entry's return slot stays where it is
