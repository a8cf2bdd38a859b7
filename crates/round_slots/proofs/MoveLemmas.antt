-- The four kinds of steps on a lane's word: a load, a claim, a giving up and a publishing.
use Rattle.std.proofs.Common.{◌≡◌, ◌≢◌, ℕ, ◌+◌, ◌≤◌, Bool, true, false, IsTrue, Some, [], ◌∷◌, ◌++◌, refl, sym, subst, arith}
use Rattle.std.proofs.lemmas.Option.{none-some, same_Some}
use Rattle.std.proofs.lemmas.Bool.{false≢true}
use Rattle.std.specs.List.{AllByRecursion}
use Rattle.round_core.specs.declared.word.Word.{Word}
use Rattle.round_core.specs.Laws.{IsNoNewer}
use Rattle.round_slots.specs.declared.view.LaneView.{LaneView}
use Rattle.round_slots.specs.declared.view.Key.{Key}
use Rattle.round_slots.specs.View.{saw, marked, unmarked, next_word, claimed, gave_up, published}
use Rattle.round_slots.specs.Rule.{AgreesWith}
use Rattle.round_slots.proofs.ListLemmas.{all_map, all_append, apart_snoc, no_repeat_snoc, last_snoc}
use Rattle.round_slots.proofs.RuleLemmas.{Moves}

no_mark : (w : Word) → w.claimed ≡ false → ¬ IsTrue w.claimed
no_mark w e t = false≢true (subst IsTrue e t)

same_word : (w : Word) → IsNoNewer w w
same_word w = record { round = omega arith; slot = λ e. refl }

-- a word with another mark is as new
as_new : (x w : Word) (b : Bool) → IsNoNewer x w → IsNoNewer x (record w { claimed = b })
as_new x w b h = record { round = h.round; slot = h.slot }

pub agrees_more : (seats : ℕ) (w : Word) (a : LaneView) → AgreesWith seats w a → AgreesWith seats w (saw a (w ∷ []))
agrees_more seats w a h = record {
  seen = all_append (λ x. IsNoNewer x w) a.seen (w ∷ []) h.seen (same_word w, tt);
  made = h.made;
  distinct = h.distinct;
  turn = h.turn;
  only = h.only;
}

-- the words that the seat saw, with the one that it found and the one that it wrote, are no newer than that
no_newer : (a : LaneView) (w to : Word) → ((x : Word) → IsNoNewer x w → IsNoNewer x to) → AllByRecursion (λ x. IsNoNewer x w) a.seen → AllByRecursion (λ x. IsNoNewer x to) (a.seen ++ (w ∷ to ∷ []))
no_newer a w to f h = all_append (λ x. IsNoNewer x to) a.seen (w ∷ to ∷ []) (all_map (λ x. IsNoNewer x w) (λ x. IsNoNewer x to) f a.seen h) (f w (same_word w), (same_word to, tt))

module _ {G : Type 0} (possible : G → ℕ → ℕ → Type 0) (key : Key G) (lane : ℕ) where
  -- a load, or an exchange that fails
  pub looks : (w : Word) (a : LaneView) → AgreesWith key.seats w a → possible key.tag.value lane w.round → Moves possible key lane w w a (saw a (w ∷ []))
  looks w a h p = record {
    rounds = p;
    mine = agrees_more key.seats w a h;
    others = λ b many apart agrees. agrees;
    apart = λ b many apart agrees. record { turns = apart.turns; made = apart.made };
  }

  pub claims : (w : Word) (a : LaneView) → w.claimed ≡ false → AgreesWith key.seats w a → possible key.tag.value lane w.round → Moves possible key lane w (marked w) a (claimed a w (marked w))
  claims w a free h p = record {
    rounds = p;
    mine = record {
      seen = no_newer a w (marked w) (λ x. as_new x w true) h.seen;
      made = h.made;
      distinct = h.distinct;
      turn = λ x e. (sym (same_Some _ _ e), refl);
      only = h.only;
    };
    others = λ b many apart agrees. record {
      seen = all_map (λ x. IsNoNewer x w) (λ x. IsNoNewer x (marked w)) (λ x. as_new x w true) b.seen agrees.seen;
      made = agrees.made;
      distinct = agrees.distinct;
      turn = λ x e. absurd (no_mark w free (agrees.turn x e).1);
      only = agrees.only;
    };
    apart = λ b many apart agrees. record { turns = λ x y e f. no_mark w free (agrees.turn y f).1; made = apart.made };
  }

  pub gives_up : (w : Word) (a : LaneView) → a.turn ≡ Some w → AgreesWith key.seats w a → possible key.tag.value lane w.round → Moves possible key lane w (unmarked w) a (gave_up a w (unmarked w))
  gives_up w a turn h p = record {
    rounds = p;
    mine = record {
      seen = no_newer a w (unmarked w) (λ x. as_new x w false) h.seen;
      made = h.made;
      distinct = h.distinct;
      turn = λ x e. absurd (none-some x e);
      only = h.only;
    };
    others = λ b many apart agrees. record {
      seen = all_map (λ x. IsNoNewer x w) (λ x. IsNoNewer x (unmarked w)) (λ x. as_new x w false) b.seen agrees.seen;
      made = agrees.made;
      distinct = agrees.distinct;
      turn = λ x e. absurd (apart.turns w x turn e);
      only = agrees.only;
    };
    apart = λ b many apart agrees. record { turns = λ x y e f. absurd (none-some x e); made = apart.made };
  }

  pub publishes : (w : Word) (a : LaneView) (slot : ℕ) → a.turn ≡ Some w → AgreesWith key.seats w a → possible key.tag.value lane (w.round + 1)
      → Moves possible key lane w (next_word w slot) a (published a w (next_word w slot))
  publishes w a slot turn h p = record {
    rounds = p;
    mine = record {
      seen = no_newer a w to newer h.seen;
      made = all_append (λ n. (1 ≤ n) × (n ≤ to.round)) a.made (to.round ∷ []) (all_map _ _ grown a.made h.made) ((omega arith, omega arith), tt);
      distinct = no_repeat_snoc a.made to.round h.distinct (all_map (λ n. (1 ≤ n) × (n ≤ w.round)) (λ n. n ≢ to.round) (λ n t. λ e. omega (arith, t.1, e)) a.made h.made);
      turn = λ x e. absurd (none-some x e);
      only = λ one. sym (last_snoc 0 a.made to.round);
    };
    others = λ b many apart agrees. record {
      seen = all_map (λ x. IsNoNewer x w) (λ x. IsNoNewer x to) newer b.seen agrees.seen;
      made = all_map _ _ grown b.made agrees.made;
      distinct = agrees.distinct;
      turn = λ x e. absurd (apart.turns w x turn e);
      only = λ one. absurd (omega (arith, one, many));
    };
    apart = λ b many apart agrees. record {
      turns = λ x y e f. absurd (none-some x e);
      made = apart_snoc a.made b.made to.round apart.made (all_map (λ n. (1 ≤ n) × (n ≤ w.round)) (λ n. to.round ≢ n) (λ n t. λ e. omega (arith, t.1, e)) b.made agrees.made);
    };
  } where
    to : Word
    to = next_word w slot

    newer : (x : Word) → IsNoNewer x w → IsNoNewer x to
    newer x h = let r = h.round in record { round = omega (arith, r); slot = λ e. absurd (omega (arith, r, e)) }

    grown : (n : ℕ) → (1 ≤ n) × (n ≤ w.round) → (1 ≤ n) × (n ≤ to.round)
    grown n t = (t.0, omega (arith, t.1))
