-- Rows that go on to the next place: what their effects leave, from what each of them does.
use Rattle.std.proofs.Common.{◌≡◌, inl, inr, ℕ, ◌||◌, true, false, List, [], ◌∷◌, ◌++◌, refl, sym, ◌∙◌, ap, subst, Bool, Option, Some, None, ◌+◌}
use Rattle.std.proofs.lemmas.Bool.{false≢true, and_parts, or_left, or_right}
use Rattle.image_map.specs.declared.image.Image.{Image}
use Rattle.ia32_semantics.specs.declared.flags.FlagsOut.{FlagsOut}
use Rattle.ia32_semantics.specs.declared.flags.FlagOut.{FlagOut}
use Rattle.ia32_semantics.specs.declared.flags.FlagOut.TheVariants as out
use Rattle.ia32_semantics.specs.Alu.{kept_flags}
use Rattle.ia32_semantics.specs.CallModel.{AreActivations}
use Rattle.ia32_semantics.specs.Effects.{Effect, all_changed, effects_fit, effects_write, effects_take}
use Rattle.ia32_semantics.specs.Operands.{flag_effect, flag_effects}
use Rattle.ia32_semantics.specs.Outcome.{Outcome, going}
use Rattle.ia32_semantics.specs.State.{State, Location, AtByte}
use Rattle.ia32_semantics.proofs.ChangeLemmas.{write_append, take_append, flags_write_none}
use Rattle.ia32_semantics.proofs.EffectLemmas.{or_true, all_fit_same, effects_map, changed_append, fit_append}
use Rattle.alocs.specs.Cells.{Division}
use Rattle.vset.specs.declared.facts.AbsFlags.{AbsFlags}
use Rattle.abs_alu.specs.Runs.{AllowsAll}
use Rattle.abs_semantics.specs.States.{AbsState, HasCanonical}
use Rattle.abs_semantics.specs.StandsFor.{StandsFor}
use Rattle.abs_semantics.specs.Ownership.{IsKnown}
use Rattle.abs_steps.specs.declared.accesses.Access.{Access}
use Rattle.abs_steps.specs.Effects.{AbsEffect, turns, frees, done, all_done}
use Rattle.step_soundness.specs.Accessed.{IsAccessed, IsFilledBy, AreFilled}
use Rattle.step_soundness.proofs.CoreLaws.{frees_stands, turns_stand}
use Rattle.step_soundness.proofs.FlagLaws.{all_flagged, flags_changed, flags_by, direction_kept, each_allowed}
use Rattle.step_soundness.proofs.SinceLaws.{Since, since_itself}
use Rattle.step_soundness.proofs.WriteLaws.{Follows}

-- what the effects of a row leave
pub record Ends (image : Image) (lane p : ℕ) (a : AbsState) (s : State) (d : Division) (xs sure : List Access) (given : List AbsEffect) (es : List Effect) : Type 0 where
  pub stands : StandsFor lane (all_done d image p given a) (all_changed es s)
  pub slots : AreActivations image (all_changed es s).memory s.slot s.activations
  pub written : (byte : ℕ) → effects_write es (AtByte byte) ≡ true → IsAccessed lane s xs byte
  pub filled : AreFilled lane s (λ byte. effects_write es (AtByte byte)) sure

-- what a row gives that goes on to the next place
pub record Goes (image : Image) (lane p : ℕ) (a : AbsState) (s : State) (d : Division) (next : ℕ) (reads writes sure : List Access) (given : List AbsEffect) (done : Outcome) : Type 0 where
  pub is : done ≡ going done.effects next
  pub taken : (byte : ℕ) → effects_fit image s.memory done.effects ≡ true → effects_take done.effects (AtByte byte) ≡ true → IsAccessed lane s reads byte
  pub ends : effects_fit image s.memory done.effects ≡ true → Ends image lane p a s d writes sure given done.effects

-- what the effects of a row lead to from where it begins, but for flags
pub record Leads (image : Image) (lane p : ℕ) (a : AbsState) (s : State) (d : Division) (xs : List Access) (given : List AbsEffect) (es : List Effect) : Type 0 where
  pub since : effects_fit image s.memory es ≡ true → Since image lane p a s (all_done d image p given a) (all_changed es s)
  pub written : (byte : ℕ) → effects_fit image s.memory es ≡ true → effects_write es (AtByte byte) ≡ true → IsAccessed lane s xs byte
  pub filled : effects_fit image s.memory es ≡ true → AreFilled lane s (λ byte. effects_write es (AtByte byte)) xs

-- -- Lists

pub accessed_left : (lane : ℕ) (s : State) (xs ys : List Access) (byte : ℕ) → IsAccessed lane s xs byte → IsAccessed lane s (xs ++ ys) byte
accessed_left lane s [] ys byte h = absurd h
accessed_left lane s (x ∷ xs) ys byte (inl h) = inl h
accessed_left lane s (x ∷ xs) ys byte (inr h) = inr (accessed_left lane s xs ys byte h)

pub accessed_right : (lane : ℕ) (s : State) (xs ys : List Access) (byte : ℕ) → IsAccessed lane s ys byte → IsAccessed lane s (xs ++ ys) byte
accessed_right lane s [] ys byte h = h
accessed_right lane s (x ∷ xs) ys byte h = inr (accessed_right lane s xs ys byte h)

pub filled_more : (lane : ℕ) (s : State) (test more : ℕ → Bool) → ((byte : ℕ) → test byte ≡ true → more byte ≡ true) → (xs : List Access) → AreFilled lane s test xs → AreFilled lane s more xs
filled_more lane s test more passes [] h = tt
filled_more lane s test more passes (x ∷ xs) h = (by x.len h.0, filled_more lane s test more passes xs h.1)
  where
    by : (l : Option ℕ) → IsFilledBy lane s test x.addr l → IsFilledBy lane s more x.addr l
    by None h = tt
    by (Some len) h = record { at = h.at; range = h.range; filled = λ k lt. passes (h.at + k) (h.filled k lt) }

filled_both : (lane : ℕ) (s : State) (test : ℕ → Bool) (xs ys : List Access) → AreFilled lane s test xs → AreFilled lane s test ys → AreFilled lane s test (xs ++ ys)
filled_both lane s test [] ys h k = k
filled_both lane s test (x ∷ xs) ys h k = (h.0, filled_both lane s test xs ys h.1 k)

pub done_append : (d : Division) (image : Image) (p : ℕ) (xs ys : List AbsEffect) (a : AbsState) → all_done d image p (xs ++ ys) a ≡ all_done d image p ys (all_done d image p xs a)
done_append d image p [] ys a = refl
done_append d image p (x ∷ xs) ys a = done_append d image p xs ys (done d image p x a)

none_taken : (es fs : List Effect) (l : Location) → effects_take es l ≡ false → effects_take fs l ≡ false → effects_take (es ++ fs) l ≡ false
none_taken es fs l e f = take_append es fs l ∙ ap (λ b. b || effects_take fs l) e ∙ f

flag_takes : (n : ℕ) (o : FlagOut) (byte : ℕ) → effects_take (flag_effect n o) (AtByte byte) ≡ false
flag_takes n out.Kept byte = refl
flag_takes n (out.Set v) byte = refl
flag_takes n out.Undefined byte = refl

pub flags_take : (o : FlagsOut) (byte : ℕ) → effects_take (flag_effects o) (AtByte byte) ≡ false
flags_take o byte =
    none_taken (flag_effect 0 o.cf ++ flag_effect 1 o.pf ++ flag_effect 2 o.zf ++ flag_effect 3 o.sf) (flag_effect 4 o.of) (AtByte byte)
    (none_taken (flag_effect 0 o.cf ++ flag_effect 1 o.pf ++ flag_effect 2 o.zf) (flag_effect 3 o.sf) (AtByte byte)
    (none_taken (flag_effect 0 o.cf ++ flag_effect 1 o.pf) (flag_effect 2 o.zf) (AtByte byte)
    (none_taken (flag_effect 0 o.cf) (flag_effect 1 o.pf) (AtByte byte) (flag_takes 0 o.cf byte) (flag_takes 1 o.pf byte)) (flag_takes 2 o.zf byte)) (flag_takes 3 o.sf byte)) (flag_takes 4 o.of byte)

module _ (image : Image) (lane p : ℕ) (a : AbsState) (s : State) (d : Division) where
  -- one list after another
  pub follows_append : (xs ys : List Access) (given more : List AbsEffect) (es fs : List Effect) → Follows image lane p a s d xs given es → Follows image lane p a s d ys more fs
      → Follows image lane p a s d (xs ++ ys) (given ++ more) (es ++ fs)
  follows_append xs ys given more es fs first second =
      record {
        since = λ b t h fits.
            let both = and_parts (effects_fit image t.memory es) (effects_fit image t.memory fs) (sym (fit_append image t.memory es fs) ∙ fits) in
            subst (λ c. Since image lane p a s c (all_changed (es ++ fs) t)) (sym (done_append d image p given more b))
            (subst (λ u. Since image lane p a s (all_done d image p more (all_done d image p given b)) u) (sym (changed_append es fs t))
            (second.since (all_done d image p given b) (all_changed es t) (first.since b t h both.0)
            (all_fit_same image (all_changed es t).memory t.memory fs (effects_map image es t both.0) ∙ both.1)));
        written = λ byte fits e.
            let both = and_parts (effects_fit image s.memory es) (effects_fit image s.memory fs) (sym (fit_append image s.memory es fs) ∙ fits) in
            or_true (effects_write es (AtByte byte)) _ (sym (write_append es fs (AtByte byte)) ∙ e)
            (λ f. accessed_left lane s xs ys byte (first.written byte both.0 f)) (λ f. accessed_right lane s xs ys byte (second.written byte both.1 f));
        taken = λ byte. none_taken es fs (AtByte byte) (first.taken byte) (second.taken byte);
        filled = λ fits.
            let both = and_parts (effects_fit image s.memory es) (effects_fit image s.memory fs) (sym (fit_append image s.memory es fs) ∙ fits) in
            filled_both lane s (λ byte. effects_write (es ++ fs) (AtByte byte)) xs ys
            (filled_more lane s (λ byte. effects_write es (AtByte byte)) (λ byte. effects_write (es ++ fs) (AtByte byte)) (λ byte e. write_append es fs (AtByte byte) ∙ or_left _ _ e) xs (first.filled both.0))
            (filled_more lane s (λ byte. effects_write fs (AtByte byte)) (λ byte. effects_write (es ++ fs) (AtByte byte)) (λ byte e. write_append es fs (AtByte byte) ∙ or_right _ _ e) ys (second.filled both.1));
      }

  module _ (known_ : IsKnown image lane a p s) (form : HasCanonical a) where
    pub slots_of : (b : AbsState) (t : State) → Since image lane p a s b t → AreActivations image t.memory s.slot s.activations
    slots_of b t h =
        subst (λ n. AreActivations image t.memory n s.activations) h.slot (subst (λ xs. AreActivations image t.memory t.slot xs) h.activations h.known.whole.activations)

    pub leads_follow : (xs : List Access) (given : List AbsEffect) (es : List Effect) → Follows image lane p a s d xs given es → Leads image lane p a s d xs given es
    leads_follow xs given es f = record { since = λ fits. f.since a s (since_itself image lane p a s known_ form) fits; written = f.written; filled = f.filled }

    -- a row without flags
    pub goes_leads : (next : ℕ) (reads xs : List Access) (given : List AbsEffect) (es : List Effect) → ((byte : ℕ) → effects_take es (AtByte byte) ≡ true → IsAccessed lane s reads byte)
        → Leads image lane p a s d xs given es → Goes image lane p a s d next reads xs xs given (going es next)
    goes_leads next reads xs given es taken f =
        record {
          is = refl;
          taken = λ byte fits e. taken byte e;
          ends = λ fits. let h = f.since fits in record { stands = h.known.stands; slots = slots_of _ _ h; written = λ byte e. f.written byte fits e; filled = f.filled fits };
        }

    pub goes_follow : (next : ℕ) (reads xs : List Access) (given : List AbsEffect) (es : List Effect) → Follows image lane p a s d xs given es → Goes image lane p a s d next reads xs xs given (going es next)
    goes_follow next reads xs given es f =
        goes_leads next reads xs given es (λ byte e. absurd (false≢true (sym (f.taken byte) ∙ e))) (leads_follow xs given es f)

  -- -- Flags

  -- flags that are written after changes of registers and memory
  pub record IsFlagged (given : List AbsEffect) (o : FlagsOut) : Type 0 where
    pub stands : (b : AbsState) (t : State) → Since image lane p a s b t → StandsFor lane (all_done d image p given b) (all_changed (flag_effects o) t)

  pub flags_turned : (f : AbsFlags) (o : FlagsOut) → AllowsAll f (flags_by (all_flagged o s.flags)) → IsFlagged (turns f ∷ []) o
  flags_turned f o allowed =
      record {
        stands = λ b t h.
            subst (λ u. StandsFor lane (done d image p (turns f) b) u) (sym (flags_changed o t))
            (turns_stand lane d image p b t h.known.stands (all_flagged o t.flags) (direction_kept o t.flags) f
            (each_allowed f (all_flagged o t.flags) (subst (λ g. AllowsAll f (flags_by (all_flagged o g))) (sym h.flags) allowed)));
      }

  pub flags_freed : (o : FlagsOut) → IsFlagged (frees ∷ []) o
  flags_freed o =
      record {
        stands = λ b t h.
            subst (λ u. StandsFor lane (done d image p frees b) u) (sym (flags_changed o t)) (frees_stands lane d image p b t h.known.stands (all_flagged o t.flags) (direction_kept o t.flags));
      }

  pub flags_kept : (o : FlagsOut) → o ≡ kept_flags → IsFlagged [] o
  unfolding kept_flags
  flags_kept o e = record { stands = λ b t h. subst (λ o. StandsFor lane b (all_changed (flag_effects o) t)) (sym e) h.known.stands }

  pub goes_flagged : IsKnown image lane a p s → HasCanonical a → (next : ℕ) (reads xs : List Access) (given more : List AbsEffect) (es : List Effect) (o : FlagsOut)
      → ((byte : ℕ) → effects_take es (AtByte byte) ≡ false) → Leads image lane p a s d xs given es → IsFlagged more o → Goes image lane p a s d next reads xs xs (given ++ more) (going (es ++ flag_effects o) next)
  goes_flagged known_ form next reads xs given more es o taken f flags =
      record {
        is = refl;
        taken = λ byte fits e. absurd (false≢true (sym (none_taken es (flag_effects o) (AtByte byte) (taken byte) (flags_take o byte)) ∙ e));
        ends = λ fits.
            let fit = (and_parts (effects_fit image s.memory es) (effects_fit image s.memory (flag_effects o)) (sym (fit_append image s.memory es (flag_effects o)) ∙ fits)).0 in
            let h = f.since fit in
            record {
              stands = subst (λ c. StandsFor lane c (all_changed (es ++ flag_effects o) s)) (sym (done_append d image p given more a))
                  (subst (λ t. StandsFor lane (all_done d image p more (all_done d image p given a)) t) (sym (changed_append es (flag_effects o) s)) (flags.stands _ _ h));
              slots = subst (λ (t : State). AreActivations image t.memory s.slot s.activations) (sym (changed_append es (flag_effects o) s ∙ flags_changed o (all_changed es s))) (slots_of known_ form _ _ h);
              written = λ byte e.
                  or_true (effects_write es (AtByte byte)) _ (sym (write_append es (flag_effects o) (AtByte byte)) ∙ e)
                  (λ g. f.written byte fit g) (λ g. absurd (false≢true (sym (flags_write_none o byte) ∙ g)));
              filled = filled_more lane s (λ byte. effects_write es (AtByte byte)) (λ byte. effects_write (es ++ flag_effects o) (AtByte byte)) (λ byte e. write_append es (flag_effects o) (AtByte byte) ∙ or_left _ _ e) xs (f.filled fit);
            };
      }
