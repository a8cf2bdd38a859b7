-- Packing and unpacking undo each other.
use Rattle.std.proofs.Common.{◌≡◌, ℕ, ◌+◌, ◌*◌, ◌/◌, ◌%◌, ◌<◌, ◌==◌, Bool, true, false, cond, refl, sym, ◌∙◌, arith}
use Rattle.std.proofs.lemmas.Bool.{eqb-true, eq-eqb, ne_eqb, true≢false}
use Rattle.round_core.specs.declared.word.Word.{Word}
use Rattle.round_core.specs.Word.{packed, unpacked}

-- any bits
pub packed-unpacked : (bits : ℕ) → packed (unpacked bits) ≡ bits
packed-unpacked bits = at ((bits / 2147483648) % 2 == 1) refl where
  at : (b : Bool) → ((bits / 2147483648) % 2 == 1) ≡ b → (bits / 4294967296) * 4294967296 + cond b 2147483648 0 + bits % 2147483648 ≡ bits
  at true e = let odd : (bits / 2147483648) % 2 ≡ 1 = eqb-true ((bits / 2147483648) % 2) 1 e in omega arith
  at false e = omega (arith, λ (odd : (bits / 2147483648) % 2 ≡ 1). true≢false (sym (eq-eqb ((bits / 2147483648) % 2) 1 odd) ∙ e))

same : (r q s t : ℕ) (b c : Bool) (v w : Word) → r ≡ q → b ≡ c → s ≡ t → v ≡ record { round = r; claimed = b; slot = s } → w ≡ record { round = q; claimed = c; slot = t } → v ≡ w
same r q s t b c v w x y z i j = cc

-- a word whose slot is below 2 ^ 31
pub unpacked-packed : (w : Word) → w.slot < 2147483648 → unpacked (packed w) ≡ w
unpacked-packed w h = at w.claimed refl where
  at : (b : Bool) → w.claimed ≡ b → unpacked (w.round * 4294967296 + cond b 2147483648 0 + w.slot) ≡ w
  at true e =
      let bits = w.round * 4294967296 + 2147483648 + w.slot in
      let odd : (bits / 2147483648) % 2 ≡ 1 = omega arith in
      same (bits / 4294967296) w.round (bits % 2147483648) w.slot ((bits / 2147483648) % 2 == 1) w.claimed (unpacked bits) w (omega arith) (eq-eqb _ 1 odd ∙ sym e) (omega arith) refl refl
  at false e =
      let bits = w.round * 4294967296 + 0 + w.slot in
      let even : (bits / 2147483648) % 2 ≡ 0 = omega arith in
      same (bits / 4294967296) w.round (bits % 2147483648) w.slot ((bits / 2147483648) % 2 == 1) w.claimed (unpacked bits) w (omega arith) (ne_eqb _ 1 (λ is. omega (arith, even, is)) ∙ sym e) (omega arith) refl refl
