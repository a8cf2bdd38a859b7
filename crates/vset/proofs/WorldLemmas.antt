-- Things of one region.

use Rattle.std.proofs.Common.{◌≡◌, ℕ, ◌==◌, Bool, true, false, cond, List, [], ◌∷◌, ◌++◌, refl, sym, ◌∙◌, ap}
use Rattle.std.proofs.lemmas.Bool.{eq-eqb, or_parts}
use Rattle.image_map.specs.declared.region.Activation.{Activation}
use Rattle.image_map.specs.declared.region.RegionId.TheVariants.{Global, Frame, OldFrame, Heap, OldHeap}
use Rattle.vset.specs.World.{World, Thing, TheImage, ActivationAt, BlockAt, IsIn, base_of, region_of, is_called, has_key, key_of}

-- the image alone is in the region of numbers, and its base is 0
pub global_base : (lane : ℕ) (t : Thing) → region_of lane t ≡ Global → base_of t ≡ 0
global_base lane TheImage e = refl
global_base lane (ActivationAt newer a older) e = absurd (by_test (is_called a.callee newer) e)
  where
    by_test : (t : Bool) → cond t (OldFrame a.callee) (Frame a.callee) ≡ Global → ⊥
    by_test true e = cc
    by_test false e = cc
global_base lane (BlockAt before a later) e = absurd (by_test (has_key lane (key_of lane a) later) e)
  where
    by_test : (t : Bool) → cond t (OldHeap (key_of lane a)) (Heap (key_of lane a)) ≡ Global → ⊥
    by_test true e = cc
    by_test false e = cc

-- the newest activation of a procedure
pub record IsNewest (w : World) (p : ℕ) (base : ℕ) : Type 0 where
  pub newer : List Activation
  pub it : Activation
  pub older : List Activation
  pub split : w.activations ≡ newer ++ (it ∷ older)
  pub callee : it.callee ≡ p
  pub alone : is_called p newer ≡ false
  pub is : base ≡ it.base

pub newest_of_frame : (lane : ℕ) (w : World) (t : Thing) (p : ℕ) → IsIn w t → region_of lane t ≡ Frame p → IsNewest w p (base_of t)
newest_of_frame lane w TheImage p is_in e = cc
newest_of_frame lane w (ActivationAt newer a older) p is_in e =
    let f = by_test (is_called a.callee newer) refl e in
    record { newer = newer; it = a; older = older; split = is_in; callee = f.0; alone = ap (λ q. is_called q newer) (sym f.0) ∙ f.1; is = refl }
  where
    by_test : (t : Bool) → is_called a.callee newer ≡ t → cond t (OldFrame a.callee) (Frame a.callee) ≡ Frame p → (a.callee ≡ p) × (is_called a.callee newer ≡ false)
    by_test true is e = cc
    by_test false is e = (cc, is)
newest_of_frame lane w (BlockAt before a later) p is_in e = absurd (by_test (has_key lane (key_of lane a) later) e)
  where
    by_test : (t : Bool) → cond t (OldHeap (key_of lane a)) (Heap (key_of lane a)) ≡ Frame p → ⊥
    by_test true e = cc
    by_test false e = cc

-- a procedure that some activation has called isn't called in none
not_called : (p : ℕ) (a : Activation) (newer : List Activation) → a.callee ≡ p → is_called p (a ∷ newer) ≡ false → ⊥
not_called p a newer e alone =
    let here : (a.callee == p) ≡ true = eq-eqb a.callee p e in
    let none = or_parts (a.callee == p) (is_called p newer) alone in
    cc

same_newest : (p : ℕ) (newer newer' older older' : List Activation) (a a' : Activation) → newer ++ (a ∷ older) ≡ newer' ++ (a' ∷ older') → a.callee ≡ p → a'.callee ≡ p → is_called p newer ≡ false → is_called p newer' ≡ false → a.base ≡ a'.base
same_newest p [] [] older older' a a' e c c' alone alone' = let same : a ≡ a' = cc in ap (λ v. v.base) same
same_newest p [] (b ∷ newer') older older' a a' e c c' alone alone' = absurd (not_called p b newer' (let same : a ≡ b = cc in ap (λ v. v.callee) (sym same) ∙ c) alone')
same_newest p (b ∷ newer) [] older older' a a' e c c' alone alone' = absurd (not_called p b newer (let same : b ≡ a' = cc in ap (λ v. v.callee) same ∙ c') alone)
same_newest p (b ∷ newer) (b' ∷ newer') older older' a a' e c c' alone alone' =
    same_newest p newer newer' older older' a a' (cc) c c' (or_parts (b.callee == p) (is_called p newer) alone).1 (or_parts (b'.callee == p) (is_called p newer') alone').1

-- a procedure has one newest activation
pub one_newest : (w : World) (p base other : ℕ) → IsNewest w p base → IsNewest w p other → base ≡ other
one_newest w p base other m n =
    m.is ∙ same_newest p m.newer n.newer m.older n.older m.it n.it (sym m.split ∙ n.split) m.callee n.callee m.alone n.alone ∙ sym n.is
