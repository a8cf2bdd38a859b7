-- Things of two worlds of which the second has one activation more, the newest.
use Rattle.std.proofs.Common.{◌≡◌, ◌⊎◌, inl, inr, ℕ, ◌==◌, ◌||◌, Bool, true, false, cond, List, [], ◌∷◌, ◌++◌, refl, sym, ◌∙◌, ap, subst}
use Rattle.std.proofs.lemmas.Bool.{true≢false, eq-eqb, eqb-true}
use Rattle.image_map.specs.declared.region.Activation.{Activation}
use Rattle.image_map.specs.declared.region.Cell.{Cell}
use Rattle.image_map.specs.declared.region.RegionId.{RegionId}
use Rattle.image_map.specs.declared.region.RegionId.TheVariants.{Frame, OldFrame, Heap, OldHeap}
use Rattle.ia32_semantics.specs.State.{State}
use Rattle.vset.specs.World.{World, Thing, TheImage, ActivationAt, BlockAt, IsIn, base_of, region_of, is_called, has_key, key_of}
use Rattle.slice_soundness.proofs.ReturnLemmas.{same_first}
use Rattle.abs_semantics.specs.States.{AbsState, has_procedure}
use Rattle.abs_semantics.specs.StandsFor.{StandsFor, world_of}
use Rattle.abs_steps.specs.Calls.{as_of}

pub tail_is : (x y : Activation) (xs ys : List Activation) → x ∷ xs ≡ y ∷ ys → xs ≡ ys
tail_is x y xs ys e = cc

-- a cell of a region is that cell of it
pub as_itself : (r : RegionId) (x : Cell) → r ≡ x.region → as_of r x ≡ x
as_itself r x e = λ i. record x { region = e i }

module _ (new : Activation) where
  -- a thing of the first world in the second
  abbrev pub lift : Thing → Thing
  lift TheImage = TheImage
  lift (ActivationAt newer x older) = ActivationAt (new ∷ newer) x older
  lift (BlockAt before x later) = BlockAt before x later

  pub lift_base : (u : Thing) → base_of (lift u) ≡ base_of u
  lift_base TheImage = refl
  lift_base (ActivationAt newer x older) = refl
  lift_base (BlockAt before x later) = refl

  module _ (v w : World) (grown : w.activations ≡ new ∷ v.activations) (allocs : w.allocs ≡ v.allocs) where
    pub lift_in : (u : Thing) → IsIn v u → IsIn w (lift u)
    lift_in TheImage h = tt
    lift_in (ActivationAt newer x older) h = grown ∙ ap (λ xs. new ∷ xs) h
    lift_in (BlockAt before x later) h = (allocs ∙ h.0, h.1)

    -- a thing is the newest activation, or was there before
    pub which : (u : Thing) → IsIn w u → (u ≡ ActivationAt [] new v.activations) ⊎ ((x : Thing) × IsIn v x × (lift x ≡ u))
    which TheImage h = inr (TheImage, tt, refl)
    which (BlockAt before x later) h = inr (BlockAt before x later, (sym allocs ∙ h.0, h.1), refl)
    which (ActivationAt [] x older) h =
        let both : new ∷ v.activations ≡ x ∷ older = sym grown ∙ h in
        inl (λ i. ActivationAt [] (sym (same_first new x v.activations older both) i) (sym (tail_is new x v.activations older both) i))
    which (ActivationAt (y ∷ ys) x older) h =
        let both : new ∷ v.activations ≡ y ∷ (ys ++ (x ∷ older)) = sym grown ∙ h in
        inr (ActivationAt ys x older, tail_is new y v.activations (ys ++ (x ∷ older)) both, (λ i. ActivationAt (same_first new y v.activations (ys ++ (x ∷ older)) both i ∷ ys) x older))

  -- the region of a thing stays, or that of the newest activation becomes that of older ones
  pub region_cases : (lane : ℕ) (u : Thing) → (region_of lane (lift u) ≡ region_of lane u) ⊎ ((region_of lane u ≡ Frame new.callee) × (region_of lane (lift u) ≡ OldFrame new.callee))
  region_cases lane TheImage = inl refl
  region_cases lane (BlockAt before x later) = inl refl
  region_cases lane (ActivationAt newer x older) = by (new.callee == x.callee) refl (is_called x.callee newer)
    where
      by : (hit : Bool) → (new.callee == x.callee) ≡ hit → (called : Bool)
          → (cond (hit || called) (OldFrame x.callee) (Frame x.callee) ≡ cond called (OldFrame x.callee) (Frame x.callee))
          ⊎ ((cond called (OldFrame x.callee) (Frame x.callee) ≡ Frame new.callee) × (cond (hit || called) (OldFrame x.callee) (Frame x.callee) ≡ OldFrame new.callee))
      by true e true = inl refl
      by true e false = let same : x.callee ≡ new.callee = sym (eqb-true new.callee x.callee e) in inr (ap Frame same, ap OldFrame same)
      by false e called = inl refl

  -- no other thing is in the region of the newest activation
  pub not_newest : (lane : ℕ) (u : Thing) → region_of lane (lift u) ≡ Frame new.callee → ⊥
  not_newest lane TheImage e = cc
  not_newest lane (BlockAt before x later) e = by (has_key lane (key_of lane x) later) e
    where
      by : (b : Bool) → cond b (OldHeap (key_of lane x)) (Heap (key_of lane x)) ≡ Frame new.callee → ⊥
      by true e = cc
      by false e = cc
  not_newest lane (ActivationAt newer x older) e = by (new.callee == x.callee) refl (is_called x.callee newer) e
    where
      by : (hit : Bool) → (new.callee == x.callee) ≡ hit → (called : Bool) → cond (hit || called) (OldFrame x.callee) (Frame x.callee) ≡ Frame new.callee → ⊥
      by true f called e = cc
      by false f true e = cc
      by false f false e = let same : x.callee ≡ new.callee = cc in true≢false (sym (eq-eqb new.callee x.callee (sym same)) ∙ f)

-- a procedure with older activations has them
pub was_older : (lane : ℕ) (a : AbsState) (s : State) → StandsFor lane a s → (c : ℕ) (u : Thing) → IsIn (world_of s) u → region_of lane u ≡ OldFrame c → has_procedure c a.older ≡ true
was_older lane a s stands c TheImage h e = absurd (cc)
was_older lane a s stands c (BlockAt before x later) h e = absurd (no_frame (has_key lane (key_of lane x) later) (key_of lane x) e)
  where
    no_frame : (b : Bool) (k : ℕ) → cond b (OldHeap k) (Heap k) ≡ OldFrame c → ⊥
    no_frame true k e = cc
    no_frame false k e = cc
was_older lane a s stands c (ActivationAt newer x older) h e = of (is_called x.callee newer) refl e
  where
    of : (b : Bool) → is_called x.callee newer ≡ b → cond b (OldFrame x.callee) (Frame x.callee) ≡ OldFrame c → has_procedure c a.older ≡ true
    of true f g = let same : x.callee ≡ c = cc in subst (λ q. has_procedure q a.older ≡ true) same (stands.older newer older x h f)
    of false f g = absurd (cc)
