-- Numbers and memory operands tell right how few bytes complete them.

use Rattle.std.proofs.Common.{◌≡◌, ℕ, suc, ◌+◌, ◌*◌, ◌≤◌, ◌⊎◌, Bool, ◌==◌, ◌&&◌, refl, sym, ◌∙◌, ap, subst, Option, Some, None, arith, lit<, inl, inr}
use Rattle.std.proofs.lemmas.Bool.{cond_both}
use Rattle.ia32_types.specs.declared.Reg.{Reg}
use Rattle.ia32_types.specs.declared.Width.TheVariants.{D32}
use Rattle.ia32_types.specs.declared.Mem.{Mem}
use Rattle.ia32_types.specs.Readers.{Reader, done, bad, more, then_, byte, word, dword, number}
use Rattle.ia32_types.specs.Numbers.{reg_of}
use Rattle.ia32_types.specs.Forms.{rm_field, mod_field, scale_field, index_field, base_field, sign_extended}
use Rattle.ia32_types.specs.Memory.{displacement, disp_bytes, displaced, index_of, index_scale, indexed, memory}
use Rattle.ia32_decode.proofs.HonestLemmas.{IsHonest, fewest, AtMost}

-- a grammar that n bytes complete at least
pub record Needs {A : Type 0} (r : Reader A) (n : ℕ) : Type 0 where
  pub honest : IsHonest r
  pub is : fewest r ≡ Some n

-- more bytes than what follows needs
abbrev pub plus : ℕ → Option ℕ → Option ℕ
plus n None = None
plus n (Some m) = Some (m + n)

at_most_plus : (m n : ℕ) (o : Option ℕ) → AtMost m o → AtMost (m + n) (plus n o)
at_most_plus m n None h = tt
at_most_plus m n (Some k) h = omega arith

pub record Plus {A : Type 0} (r : Reader A) (n : ℕ) (o : Option ℕ) : Type 0 where
  pub honest : IsHonest r
  pub is : fewest r ≡ plus n o

pub honest_then : {A B : Type 0} (n : ℕ) (r : Reader A) (k : A → Reader B) → IsHonest r → ((x : A) → Needs (k x) n) → Plus (then_ n r k) n (fewest r)
honest_then n (done x) k h g = record { honest = (g x).honest; is = (g x).is ∙ ap (λ v. Some v) (let e : n ≡ 0 + n = omega arith in e) }
honest_then n bad k h g = record { honest = tt; is = refl }
honest_then n (more m f) k h g = record {
  honest = (
    λ b lt.
        let after = honest_then n (f b) k (h.0 b lt).0 g in
        (after.honest, subst (AtMost (m + n)) (sym after.is) (at_most_plus m n (fewest (f b)) (h.0 b lt).1)),
    (
      h.1.0,
      h.1.1 + n,
      let leads = h.1.2 in
          let after = honest_then n (f h.1.0) k (h.0 h.1.0 leads.is_byte).0 g in
          let long : m ≡ suc h.1.1 = leads.one_more in
          record { is_byte = leads.is_byte; fewest_after = after.is ∙ ap (plus n) leads.fewest_after; one_more = omega arith },
    ),
  );
  is = refl;
}

-- the same where it is known how many bytes the first part needs
pub needs_then : {A B : Type 0} (m n : ℕ) (r : Reader A) (k : A → Reader B) → Needs r m → ((x : A) → Needs (k x) n) → Needs (then_ n r k) (m + n)
needs_then m n r k h g = let p = honest_then n r k h.honest g in record { honest = p.honest; is = p.is ∙ ap (plus n) h.is }

pub needs_octet : Needs byte 1
needs_octet = record { honest = (λ b lt. (tt, omega arith), (0, 0, record { is_byte = lit< tt; fewest_after = refl; one_more = refl })); is = refl }

pub needs_pair : Needs word 2
needs_pair = needs_then 1 1 byte _ needs_octet (λ low. needs_then 1 0 byte (λ high. done (low + 256 * high)) needs_octet (λ high. record { honest = tt; is = refl }))

pub needs_quad : Needs dword 4
needs_quad = needs_then 2 2 word _ needs_pair (λ low. needs_then 2 0 word (λ high. done (low + 65536 * high)) needs_pair (λ high. record { honest = tt; is = refl }))

-- the sizes of a number
abbrev pub IsSize : ℕ → Type 0
IsSize n = (n ≡ 0) ⊎ ((n ≡ 1) ⊎ ((n ≡ 2) ⊎ (n ≡ 4)))

pub needs_number : (n : ℕ) → IsSize n → Needs (number n) n
needs_number n (inl e) = subst (λ v. Needs (number v) v) (sym e) (record { honest = tt; is = refl })
needs_number n (inr (inl e)) = subst (λ v. Needs (number v) v) (sym e) needs_octet
needs_number n (inr (inr (inl e))) = subst (λ v. Needs (number v) v) (sym e) needs_pair
needs_number n (inr (inr (inr e))) = subst (λ v. Needs (number v) v) (sym e) needs_quad

-- any grammar can be completed by what it needs, after one byte
abbrev pub at_most_one : (o : Option ℕ) → AtMost 1 o
at_most_one None = tt
at_most_one (Some n) = let e : 1 ≤ suc n = omega arith in e

-- a grammar after a byte, where n bytes more complete the whole
pub record Ends {A : Type 0} (r : Reader A) (n : ℕ) : Type 0 where
  pub honest : IsHonest r
  pub at_most : AtMost (1 + n) (fewest r)

pub ends_bad : {A : Type 0} (n : ℕ) → (let r : Reader A = bad in Ends r n)
ends_bad n = record { honest = tt; at_most = tt }

pub needs_ends : {A : Type 0} (r : Reader A) (n m : ℕ) → n ≤ m → Needs r m → Ends r n
needs_ends r n m le h = record { honest = h.honest; at_most = subst (AtMost (1 + n)) (sym h.is) (let e : 1 + n ≤ suc m = omega arith in e) }

pub plus_ends : {A : Type 0} (r : Reader A) (n : ℕ) (o : Option ℕ) → Plus r n o → Ends r n
plus_ends r n o h = record { honest = h.honest; at_most = subst (AtMost (1 + n)) (sym h.is) (above n o) }
  where
    above : (n : ℕ) (o : Option ℕ) → AtMost (1 + n) (plus n o)
    above n None = tt
    above n (Some m) = let e : 1 + n ≤ suc (m + n) = omega arith in e

-- the sizes of a displacement
abbrev IsDisp : ℕ → Type 0
IsDisp n = (n ≡ 0) ⊎ ((n ≡ 1) ⊎ (n ≡ 4))

disp_bytes_is : (high : ℕ) → IsDisp (disp_bytes high)
disp_bytes_is high = cond_both (high == 0) _ _ IsDisp (λ _. inl refl) (λ _. cond_both (high == 1) _ _ IsDisp (λ _. inr (inl refl)) (λ _. inr (inr refl)))

disp_few : (n : ℕ) → IsDisp n → n ≤ 4
disp_few n (inl e) = omega arith
disp_few n (inr (inl e)) = omega arith
disp_few n (inr (inr e)) = omega arith

needs_displacement : (n : ℕ) → IsDisp n → Needs (displacement n) n
needs_displacement n (inl e) = subst (λ v. Needs (displacement v) v) (sym e) (record { honest = tt; is = refl })
needs_displacement n (inr (inl e)) = subst (λ v. Needs (displacement v) v) (sym e) (needs_then 1 0 byte (λ v. done (sign_extended D32 v)) needs_octet (λ v. record { honest = tt; is = refl }))
needs_displacement n (inr (inr e)) = subst (λ v. Needs (displacement v) v) (sym e) needs_quad

needs_displaced : (gs : Bool) (base index : Option Reg) (scale n : ℕ) → IsDisp n → Needs (displaced gs base index scale n) n
unfolding displaced
needs_displaced gs base index scale n d =
    let e : n + 0 ≡ n = omega arith in
    subst (Needs (displaced gs base index scale n)) e (needs_then n 0 (displacement n) (λ disp. done (record { base = base; index = index; scale = scale; disp = disp; gs = gs })) (needs_displacement n d) (λ v. record { honest = tt; is = refl }))

ends_indexed : (gs : Bool) (high sib : ℕ) → Ends (indexed gs high sib) (disp_bytes high)
unfolding indexed
ends_indexed gs high sib =
    cond_both {A = Reader Mem} (base_field sib == 5 && high == 0) _ _ (λ r. Ends r (disp_bytes high))
    (λ _. needs_ends _ (disp_bytes high) 4 (disp_few (disp_bytes high) (disp_bytes_is high)) (needs_displaced gs None (index_of (index_field sib)) (index_scale (index_field sib) (scale_field sib)) 4 (inr (inr refl))))
    (λ _. needs_ends _ (disp_bytes high) (disp_bytes high) (let e : disp_bytes high ≤ disp_bytes high = omega arith in e) (needs_displaced gs (Some (reg_of (base_field sib))) (index_of (index_field sib)) (index_scale (index_field sib) (scale_field sib)) (disp_bytes high) (disp_bytes_is high)))

needs_indexed : (gs : Bool) (high : ℕ) → Needs (indexed gs high 0) (disp_bytes high)
unfolding indexed
needs_indexed gs high = needs_displaced gs (Some (reg_of 0)) (index_of 0) (index_scale 0 0) (disp_bytes high) (disp_bytes_is high)

pub honest_memory : (gs : Bool) (modrm : ℕ) → IsHonest (memory gs modrm)
unfolding memory
honest_memory gs modrm =
    cond_both (rm_field modrm == 4) _ _ IsHonest
    (λ _. (
      λ b lt. let e = ends_indexed gs (mod_field modrm) b in (e.honest, e.at_most),
      (0, disp_bytes (mod_field modrm), record { is_byte = lit< tt; fewest_after = (needs_indexed gs (mod_field modrm)).is; one_more = let e : 1 + disp_bytes (mod_field modrm) ≡ suc (disp_bytes (mod_field modrm)) = omega arith in e }),
    ))
    (λ _. cond_both (rm_field modrm == 5 && mod_field modrm == 0) _ _ IsHonest
    (λ _. (needs_displaced gs None None 1 4 (inr (inr refl))).honest)
    (λ _. (needs_displaced gs (Some (reg_of (rm_field modrm))) None 1 (disp_bytes (mod_field modrm)) (disp_bytes_is (mod_field modrm))).honest))

-- memory without a displacement
pub needs_memory : (gs : Bool) → Needs (memory gs 0) 0
unfolding memory
needs_memory gs = needs_displaced gs (Some (reg_of 0)) None 1 0 (inl refl)
