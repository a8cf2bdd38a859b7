-- Flags that a row writes are among those that the abstract row allows.
use Rattle.std.proofs.Common.{◌≡◌, ℕ, ◌<◌, ◌==◌, Bool, true, false, cond, ◌++◌, refl, sym, ◌∙◌, ap, subst, arith, lit<}
use Rattle.ia32_types.specs.declared.Flag.{Flag}
use Rattle.ia32_types.specs.declared.Flag.TheVariants.{Cf, Pf, Zf, Sf, Of}
use Rattle.ia32_types.specs.Numbers.{flag_number}
use Rattle.ia32_types.specs.Sets.{has_flag}
use Rattle.ia32_types.proofs.NumberLemmas.{below_six}
use Rattle.ia32_semantics.specs.declared.flags.Flags.{Flags}
use Rattle.ia32_semantics.specs.declared.flags.FlagsOut.{FlagsOut}
use Rattle.ia32_semantics.specs.declared.flags.FlagOut.{FlagOut}
use Rattle.ia32_semantics.specs.declared.flags.FlagOut.TheVariants as out
use Rattle.ia32_semantics.specs.Effects.{all_changed}
use Rattle.ia32_semantics.specs.Operands.{flag_effect, flag_effects, any_flag, any_flags, any_word, is_set}
use Rattle.ia32_semantics.specs.Reading.{gives}
use Rattle.ia32_semantics.specs.State.{State, put}
use Rattle.ia32_semantics.proofs.EffectLemmas.{changed_append}
use Rattle.vset.specs.declared.facts.AbsFlags.{AbsFlags}
use Rattle.abs_alu.specs.Runs.{Allows, AllowsAll, IsFlagAfter, AreAfter}
use Rattle.ia32_types.proofs.SetLemmas.{flag_set_has}
use Rattle.abs_semantics.specs.States.{AbsState}
use Rattle.abs_semantics.specs.StandsFor.{StandsFor, flags_of}
use Rattle.abs_steps.specs.Flags.{MayBe, sets_of, allows}
use Rattle.step_soundness.proofs.GivenLaws.{Gives, gives_bind, gives_this, gives_choice}

-- -- One flag

-- the flags after what is done to one
abbrev pub flagged : ℕ → FlagOut → (ℕ → Bool) → ℕ → Bool
flagged n out.Kept f = f
flagged n (out.Set v) f = put f n v
flagged n out.Undefined f = f

abbrev pub all_flagged : FlagsOut → (ℕ → Bool) → ℕ → Bool
all_flagged o f = flagged 4 o.of (flagged 3 o.sf (flagged 2 o.zf (flagged 1 o.pf (flagged 0 o.cf f))))

last_changed : (n : ℕ) (o : FlagOut) (t : State) → all_changed (flag_effect n o) t ≡ record t { flags = flagged n o t.flags }
last_changed n out.Kept t = refl
last_changed n (out.Set v) t = refl
last_changed n out.Undefined t = refl

pub flags_changed : (o : FlagsOut) (t : State) → all_changed (flag_effects o) t ≡ record t { flags = all_flagged o t.flags }
flags_changed o t =
    changed_append (flag_effect 0 o.cf ++ flag_effect 1 o.pf ++ flag_effect 2 o.zf ++ flag_effect 3 o.sf) (flag_effect 4 o.of) t
    ∙ ap (all_changed (flag_effect 4 o.of)) (
    changed_append (flag_effect 0 o.cf ++ flag_effect 1 o.pf ++ flag_effect 2 o.zf) (flag_effect 3 o.sf) t
    ∙ ap (all_changed (flag_effect 3 o.sf)) (
    changed_append (flag_effect 0 o.cf ++ flag_effect 1 o.pf) (flag_effect 2 o.zf) t
    ∙ ap (all_changed (flag_effect 2 o.zf)) (
    changed_append (flag_effect 0 o.cf) (flag_effect 1 o.pf) t
    ∙ ap (all_changed (flag_effect 1 o.pf)) (last_changed 0 o.cf t)
    ∙ last_changed 1 o.pf (record t { flags = flagged 0 o.cf t.flags })
    )
    ∙ last_changed 2 o.zf (record t { flags = flagged 1 o.pf (flagged 0 o.cf t.flags) })
    )
    ∙ last_changed 3 o.sf (record t { flags = flagged 2 o.zf (flagged 1 o.pf (flagged 0 o.cf t.flags)) })
    )
    ∙ last_changed 4 o.of (record t { flags = flagged 3 o.sf (flagged 2 o.zf (flagged 1 o.pf (flagged 0 o.cf t.flags))) })

other_flag : (n k : ℕ) (o : FlagOut) (f : ℕ → Bool) → (n == k) ≡ false → flagged n o f k ≡ f k
other_flag n k out.Kept f e = refl
other_flag n k (out.Set v) f e = ap (λ b. cond b v (f k)) e
other_flag n k out.Undefined f e = refl

-- -- All flags

-- a flag of its own number
after_own : (n : ℕ) (o : FlagOut) (f g : ℕ → Bool) → (n == n) ≡ true → g n ≡ f n → IsFlagAfter o (f n) (flagged n o g n)
after_own n out.Kept f g same e = e
after_own n (out.Set v) f g same e = ap (λ b. cond b v (g n)) same
after_own n out.Undefined f g same e = tt

after_path : (o : FlagOut) (before now then : Bool) → then ≡ now → IsFlagAfter o before now → IsFlagAfter o before then
after_path o before now then e = subst (IsFlagAfter o before) (sym e)

abbrev pub flags_by : (ℕ → Bool) → Flags
flags_by f = record { cf = f 0; pf = f 1; zf = f 2; sf = f 3; of = f 4 }

pub are_after : (o : FlagsOut) (f : ℕ → Bool) → AreAfter o (flags_by f) (flags_by (all_flagged o f))
are_after o f = (
  after_path o.cf (f 0) (flagged 0 o.cf f 0) (all_flagged o f 0)
      (other_flag 4 0 o.of _ refl ∙ other_flag 3 0 o.sf _ refl ∙ other_flag 2 0 o.zf _ refl ∙ other_flag 1 0 o.pf _ refl)
      (after_own 0 o.cf f f refl refl),
  after_path o.pf (f 1) (flagged 1 o.pf (flagged 0 o.cf f) 1) (all_flagged o f 1)
      (other_flag 4 1 o.of _ refl ∙ other_flag 3 1 o.sf _ refl ∙ other_flag 2 1 o.zf _ refl)
      (after_own 1 o.pf f (flagged 0 o.cf f) refl (other_flag 0 1 o.cf f refl)),
  after_path o.zf (f 2) (flagged 2 o.zf (flagged 1 o.pf (flagged 0 o.cf f)) 2) (all_flagged o f 2)
      (other_flag 4 2 o.of _ refl ∙ other_flag 3 2 o.sf _ refl)
      (after_own 2 o.zf f (flagged 1 o.pf (flagged 0 o.cf f)) refl (other_flag 1 2 o.pf _ refl ∙ other_flag 0 2 o.cf f refl)),
  after_path o.sf (f 3) (flagged 3 o.sf (flagged 2 o.zf (flagged 1 o.pf (flagged 0 o.cf f))) 3) (all_flagged o f 3)
      (other_flag 4 3 o.of _ refl)
      (after_own 3 o.sf f (flagged 2 o.zf (flagged 1 o.pf (flagged 0 o.cf f))) refl (other_flag 2 3 o.zf _ refl ∙ other_flag 1 3 o.pf _ refl ∙ other_flag 0 3 o.cf f refl)),
  after_own 4 o.of f (flagged 3 o.sf (flagged 2 o.zf (flagged 1 o.pf (flagged 0 o.cf f)))) refl
      (other_flag 3 4 o.sf _ refl ∙ other_flag 2 4 o.zf _ refl ∙ other_flag 1 4 o.pf _ refl ∙ other_flag 0 4 o.cf f refl),
)

pub direction_kept : (o : FlagsOut) (f : ℕ → Bool) → all_flagged o f 5 ≡ f 5
direction_kept o f = other_flag 4 5 o.of _ refl ∙ other_flag 3 5 o.sf _ refl ∙ other_flag 2 5 o.zf _ refl ∙ other_flag 1 5 o.pf _ refl ∙ other_flag 0 5 o.cf f refl

-- flags of a state are among those that its abstract state allows
pub sets_allow : (may : MayBe) (x : Flag) (v : Bool) → may (flag_number x) v ≡ true → Allows (sets_of may) x v
sets_allow may x true e = flag_set_has (λ f. may (flag_number f) true) x ∙ e
sets_allow may x false e = flag_set_has (λ f. may (flag_number f) false) x ∙ e

pub flags_allowed : (lane : ℕ) (a : AbsState) (s : State) → StandsFor lane a s → AllowsAll (sets_of a.flags) (flags_of s)
flags_allowed lane a s stands = (
  sets_allow a.flags Cf (s.flags 0) (stands.flags 0 (lit< tt)),
  sets_allow a.flags Pf (s.flags 1) (stands.flags 1 (lit< tt)),
  sets_allow a.flags Zf (s.flags 2) (stands.flags 2 (lit< tt)),
  sets_allow a.flags Sf (s.flags 3) (stands.flags 3 (lit< tt)),
  sets_allow a.flags Of (s.flags 4) (stands.flags 4 (lit< tt)),
)

allowed_by : (f : AbsFlags) (n : ℕ) (x : Flag) (v : Bool) → ((b : Bool) → allows f n b ≡ has_flag (cond b f.one f.zero) x) → Allows f x v → allows f n v ≡ true
allowed_by f n x true is h = is true ∙ h
allowed_by f n x false is h = is false ∙ h

pub each_allowed : (f : AbsFlags) (g : ℕ → Bool) → AllowsAll f (flags_by g) → (n : ℕ) → n < 5 → allows f n (g n) ≡ true
each_allowed f g h n lt =
    below_six (λ n. n < 5 → allows f n (g n) ≡ true)
    (λ l. allowed_by f 0 Cf (g 0) (λ b. refl) h.0) (λ l. allowed_by f 1 Pf (g 1) (λ b. refl) h.1) (λ l. allowed_by f 2 Zf (g 2) (λ b. refl) h.2)
    (λ l. allowed_by f 3 Sf (g 3) (λ b. refl) h.3) (λ l. allowed_by f 4 Of (g 4) (λ b. refl) h.4) (λ l. absurd (omega (arith, l)))
    n (omega (arith, lt)) lt

-- -- Words of choice for flags

-- a flag that takes a word of choice where it is undefined, and one that is told alone
abbrev pub IsDrawn : FlagOut → FlagOut → Type 0
IsDrawn out.Kept now = now ≡ out.Kept
IsDrawn (out.Set v) now = now ≡ out.Set v
IsDrawn out.Undefined now = Unit {0}

pub record AreDrawn (o now : FlagsOut) : Type 0 where
  pub cf : IsDrawn o.cf now.cf
  pub pf : IsDrawn o.pf now.pf
  pub zf : IsDrawn o.zf now.zf
  pub sf : IsDrawn o.sf now.sf
  pub of : IsDrawn o.of now.of

drawn_after : (o now : FlagOut) (b v : Bool) → IsDrawn o now → IsFlagAfter now b v → IsFlagAfter o b v
drawn_after out.Kept now b v e h = subst (λ x. IsFlagAfter x b v) e h
drawn_after (out.Set w) now b v e h = subst (λ x. IsFlagAfter x b v) e h
drawn_after out.Undefined now b v e h = tt

pub are_drawn_after : (o now : FlagsOut) (b v : Flags) → AreDrawn o now → AreAfter now b v → AreAfter o b v
are_drawn_after o now b v d h = (
  drawn_after o.cf now.cf b.cf v.cf d.cf h.0,
  drawn_after o.pf now.pf b.pf v.pf d.pf h.1,
  drawn_after o.zf now.zf b.zf v.zf d.zf h.2,
  drawn_after o.sf now.sf b.sf v.sf d.sf h.3,
  drawn_after o.of now.of b.of v.of d.of h.4,
)

module _ (s : State) (R : ℕ → Type 0) where
  drawn_gives : (o : FlagOut) → Gives s R (IsDrawn o) (any_flag o)
  unfolding any_flag any_word
  drawn_gives out.Kept = gives_this s R (λ now. now ≡ out.Kept) out.Kept refl
  drawn_gives (out.Set v) = gives_this s R (λ now. now ≡ out.Set v) (out.Set v) refl
  drawn_gives out.Undefined = gives_choice s R (λ now. Unit {0}) (λ word. gives (out.Set (is_set word))) (λ word. gives_this s R (λ now. Unit {0}) (out.Set (is_set word)) tt)

  pub flags_drawn : (o : FlagsOut) → Gives s R (AreDrawn o) (any_flags o)
  unfolding any_flags
  flags_drawn o =
      gives_bind s R (IsDrawn o.cf) (AreDrawn o) (any_flag o.cf) _ (drawn_gives o.cf) (λ cf h0.
      gives_bind s R (IsDrawn o.pf) (AreDrawn o) (any_flag o.pf) _ (drawn_gives o.pf) (λ pf h1.
      gives_bind s R (IsDrawn o.zf) (AreDrawn o) (any_flag o.zf) _ (drawn_gives o.zf) (λ zf h2.
      gives_bind s R (IsDrawn o.sf) (AreDrawn o) (any_flag o.sf) _ (drawn_gives o.sf) (λ sf h3.
      gives_bind s R (IsDrawn o.of) (AreDrawn o) (any_flag o.of) _ (drawn_gives o.of) (λ of h4.
      gives_this s R (AreDrawn o) (record { cf = cf; pf = pf; zf = zf; sf = sf; of = of }) (record { cf = h0; pf = h1; zf = h2; sf = h3; of = h4 }))))))
