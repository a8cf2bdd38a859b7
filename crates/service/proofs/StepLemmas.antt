-- What several tries to publish come to.
use Rattle.std.proofs.Common.{◌≡◌, ℕ, ◌+◌, ◌<◌, ◌≤◌, arith, None, List, [], ◌∷◌, ◌++◌, sym, ap, ◌∙◌, subst, append_assoc, append-nil}
use Rattle.std.specs.List.{AllByRecursion}
use Rattle.round_core.specs.declared.word.Word.{Word}
use Rattle.round_core.specs.Laws.{IsNoNewer}
use Rattle.round_slots.specs.Seats.{Place, Pins, view_in}
use Rattle.round_slots.proofs.ListLemmas.{all_map, all_left}
use Rattle.rounds.specs.declared.numbered.RoundTag.{RoundTag}
use Rattle.rounds.specs.declared.round.Round.{Round}
use Rattle.rounds.specs.Tags.{BelongsTo}
use Rattle.service.specs.declared.advance.Advance.{Advance}
use Rattle.service.specs.declared.advance.Advance.TheVariants as came
use Rattle.service.specs.declared.shop.Shop.{Shop}
use Rattle.service.specs.Advances.{Advances}
use Rattle.service.specs.Refines.{Visits}
use Rattle.service.specs.Seats.{key_of, SitsIn}
use Rattle.service.specs.Steps.{Grows, LooksOn, Publishes, Looks}
use Rattle.service.proofs.GrowLemmas.{view_after, grows_none, grows_then, grows_pin}
use Rattle.service.proofs.PinnedLemmas.{belongs_here}

module _ (shop : Shop) (old mid new : Place RoundTag) (lane : ℕ) (words : List Word) (s : SitsIn shop old) (inside : lane < (key_of shop).lanes) (g : Grows old mid lane words []) where
  mid_seen : (view_in mid lane).seen ≡ (view_in old lane).seen ++ words
  mid_seen = ap (λ v. v.seen) (view_after shop old mid lane _ s inside g)

  mid_made : (view_in mid lane).made ≡ (view_in old lane).made
  mid_made = ap (λ v. v.made) (view_after shop old mid lane _ s inside g) ∙ append-nil (view_in old lane).made

  pub looks_then : LooksOn mid new lane → LooksOn old new lane
  looks_then l = (words ++ l.0, grows_then shop old mid new lane words l.0 [] [] s inside g l.1)

  pub publishes_then : (number : ℕ) → Publishes mid new lane number → Publishes old new lane number
  publishes_then number p = record {
    before = words ++ p.before;
    last = p.last;
    grows = subst (λ ws. Grows old new lane ws (number ∷ [])) (sym (append_assoc words p.before (p.last ∷ [])))
        (grows_then shop old mid new lane words (p.before ++ p.last ∷ []) [] (number ∷ []) s inside g p.grows);
    last_is = p.last_is;
    above = record {
      seen = all_left (λ w. w.round < number) (view_in old lane).seen words (subst (AllByRecursion (λ w. w.round < number)) mid_seen p.above.seen);
      made = subst (AllByRecursion (λ n. n < number)) mid_made p.above.made;
    };
  }

  pub pins_then : (number : ℕ) → Pins (key_of shop) mid new lane number → Looks old new lane number
  pins_then number p =
      let seen = subst (AllByRecursion (λ x. IsNoNewer x p.last)) mid_seen (all_left (λ x. IsNoNewer x p.last) (view_in mid lane).seen p.before p.agrees.seen) in
      record {
        before = words ++ p.before;
        last = p.last;
        grows = subst (λ ws. Grows old new lane ws []) (sym (append_assoc words p.before (p.last ∷ [])))
            (grows_then shop old mid new lane words (p.before ++ p.last ∷ []) [] [] s inside g (grows_pin shop mid new lane number (ap (λ v. v.turn) (view_after shop old mid lane _ s inside g)) p));
        last_is = p.round_is;
        seen = all_map (λ x. IsNoNewer x p.last) (λ w. w.round ≤ number) (λ x h. subst (λ n. x.round ≤ n) p.round_is h.round) (view_in old lane).seen (all_left (λ x. IsNoNewer x p.last) (view_in old lane).seen words seen);
        made = subst (AllByRecursion (λ n. n ≤ number)) mid_made (all_map _ (λ n. n ≤ number) (λ n h. subst (λ m. n ≤ m) p.round_is h.1) (view_in mid lane).made p.agrees.made);
      }

-- one more try, after some that were refused
module _ (shop : Shop) (old cur mid : Place RoundTag) (lane n : ℕ) (words : List Word) (s : SitsIn shop old) (inside : lane < (key_of shop).lanes) (g : Grows old cur lane words []) (p : Pins (key_of shop) cur mid lane n) where
  grows_mid : Grows old mid lane (words ++ (p.before ++ p.last ∷ [])) []
  grows_mid = grows_then shop old cur mid lane words (p.before ++ p.last ∷ []) [] [] s inside g (grows_pin shop cur mid lane n (ap (λ v. v.turn) (view_after shop old cur lane _ s inside g)) p)

  pub tried_looks : (new : Place RoundTag) → LooksOn mid new lane → LooksOn old new lane
  tried_looks new l = looks_then shop old mid new lane _ s inside grows_mid l

  pub tried_publishes : (new : Place RoundTag) (number : ℕ) → Publishes mid new lane number → Publishes old new lane number
  tried_publishes new number l = publishes_then shop old mid new lane _ s inside grows_mid number l

  pub tried_settles : (new : Place RoundTag) → new ≡ mid → Looks old new lane n
  tried_settles new same = subst (λ q. Looks old q lane n) (sym same) (pins_then shop old cur mid lane words s inside g n p)

-- a visit to a lane
module _ (shop : Shop) (old mid new : Place RoundTag) (lane : ℕ) (r : Round) (s : SitsIn shop old) (inside : lane < (key_of shop).lanes) (turn : (view_in old lane).turn ≡ None) (p : Pins (key_of shop) old mid lane r.number) where
  pub visit_looks : LooksOn mid new lane → LooksOn old new lane
  visit_looks l = tried_looks shop old old mid lane r.number [] s inside (grows_none shop old lane turn) p new l

  pub visit_came : BelongsTo (key_of shop).tag.value lane r → r.number + 1 ≤ 8 → (a : Advance) → Advances mid new lane r a → Visits shop old new lane a
  visit_came b few (came.Published n) h = (let is = h.0 in omega (arith, is, few), tried_publishes shop old old mid lane r.number [] s inside (grows_none shop old lane turn) p new n h.1)
  visit_came b few (came.Settled n) h = (
    r,
    belongs_here shop lane r b,
    h.1,
    sym h.0,
    subst (Looks old new lane) (sym h.0) (tried_settles shop old old mid lane r.number [] s inside (grows_none shop old lane turn) p new h.2),
  )
  visit_came b few came.Refused h = visit_looks h
