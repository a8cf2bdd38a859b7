-- A small domain for tests: places are numbers, and a state is the most that a number may be. The project's own.
use Rattle.std.specs.Prelude.{ℕ, ◌+◌, ◌==◌, ◌&&◌, ◌||◌, nat_lt, nat_le, nat_eq, max, Bool, if◌then◌else◌, List, [], ◌∷◌, map}
use Rattle.std.proofs.Common.{refl}
use Rattle.std.proofs.Math.Nat.{le_refl, lt_trans, le_antisymm}
use Rattle.std.proofs.lemmas.Bool.{lt-ltb, le-ltb, ltb-true, ltb-false, eq-eqb}
use Rattle.sweeps.specs.Meaning.{Meaning, IsLawful}

-- one more, up to a hundred
abbrev pub up_to_hundred : ℕ → ℕ
up_to_hundred s = if nat_lt s 100 then s + 1 else 100

-- where a call comes back to
abbrev pub after_call : ℕ → ℕ
after_call p = if p == 1 then 2 else 4

-- 1 and 3 call 10, which comes back behind them; 5 goes round, counting up; from 20 to 79 each goes on, and to 99
abbrev pub toy_next : ℕ → ℕ → List (ℕ × ℕ) → List (ℕ × ℕ)
toy_next p s others =
    if p == 10 then map {B = ℕ × ℕ} (λ o. (after_call o.0, o.1)) others
    else (if p == 5 then (5, up_to_hundred s) ∷ (6, s) ∷ []
    else (if p == 1 then (10, s) ∷ []
    else (if p == 3 then (10, up_to_hundred s) ∷ []
    else (if p == 2 then (3, s) ∷ []
    else (if p == 4 then (5, s) ∷ []
    else (if p == 0 then (1, s) ∷ (20, s) ∷ []
    else (if nat_le 20 p && nat_lt p 80 then (p + 1, up_to_hundred s) ∷ (99, s) ∷ []
    else [])))))))

abbrev pub toy : Meaning ℕ ℕ
toy = record {
  before = nat_lt;
  address = λ p. p;
  concerns = λ p q. p == 10 && (q == 1 || q == 3);
  successors = toy_next;
  join = max;
  widen = λ old new. if nat_lt old new then 1000 else new;
  topped = λ old new. if old == new then new else 2000;
  below = nat_le;
  same = nat_eq;
}

pub toy_lawful : IsLawful toy
toy_lawful = record {
  irreflexive = λ p. le-ltb p p (le_refl p);
  transitive = λ p q r a b. lt-ltb p r (lt_trans (ltb-true p q a) (ltb-true q r b));
  total = λ p q a b. le_antisymm (ltb-false q p b) (ltb-false p q a);
  same_as_itself = λ s. eq-eqb s s refl;
}
