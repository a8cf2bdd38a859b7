-- What a pin of a shop's round tells.
use Rattle.std.proofs.Common.{◌≡◌, ℕ, ◌≤◌, Some, sym, ◌∙◌, subst}
use Rattle.std.specs.Prelude.{IsTrue}
use Rattle.std.specs.List.{AllByRecursion}
use Rattle.std.proofs.lemmas.Option.{same_Some}
use Rattle.round_core.specs.Laws.{IsNoNewer}
use Rattle.round_slots.specs.Seats.{Place, Pins, view_in}
use Rattle.round_slots.proofs.ListLemmas.{all_map, all_left}
use Rattle.rounds.specs.declared.round.Round.{Round}
use Rattle.rounds.specs.declared.numbered.RoundTag.{RoundTag}
use Rattle.rounds.specs.Tags.{BelongsTo}
use Rattle.service.specs.declared.shop.Shop.{Shop}
use Rattle.service.specs.Lanes.{tag_of}
use Rattle.service.specs.Seats.{key_of, store_lane, IsPinned, IsNoOlder}
use Rattle.service.specs.Steps.{Looks, Settled}
use Rattle.service.proofs.LaneLemmas.{one_sites}

-- a round that belongs to the store is one of the shop's program
pub belongs_here : (shop : Shop) (lane : ℕ) (r : Round) → BelongsTo (key_of shop).tag.value lane r → BelongsTo (tag_of shop.image shop.settings shop.lanes) lane r
belongs_here shop lane r b = subst (λ (t : RoundTag). BelongsTo t lane r) shop.tagged b

pub pinned_round : (shop : Shop) (sites lane : ℕ) (old new : Place RoundTag) (r : Round) → store_lane shop sites ≡ Some lane → BelongsTo (key_of shop).tag.value lane r → Pins (key_of shop) old new lane r.number → IsPinned shop sites old new r
pinned_round shop sites lane old new r is b pins = let h = belongs_here shop lane r b in record {
  lane = lane;
  is_lane = is;
  is_round = h.0;
  of_sites = one_sites 0 _ shop.lanes r.lane sites lane shop.numbered h.1 is;
  pins = pins;
}

pub no_older : (shop : Shop) (sites lane : ℕ) (old new : Place RoundTag) (round : ℕ) → store_lane shop sites ≡ Some lane → Pins (key_of shop) old new lane round → IsNoOlder shop sites old round
no_older shop sites lane old new round is pins =
    let seen = all_left (λ x. IsNoNewer x pins.last) (view_in old lane).seen pins.before pins.agrees.seen in
    record {
      seen = λ other e. subst (λ l. AllByRecursion (λ w. w.round ≤ round) (view_in old l).seen) (same_Some lane other (sym is ∙ e))
          (all_map (λ x. IsNoNewer x pins.last) (λ w. w.round ≤ round) (λ x h. subst (λ n. x.round ≤ n) pins.round_is h.round) (view_in old lane).seen seen);
      made = λ other e. subst (λ l. AllByRecursion (λ n. n ≤ round) (view_in old l).made) (same_Some lane other (sym is ∙ e))
          (all_map _ (λ n. n ≤ round) (λ n h. subst (λ m. n ≤ m) pins.round_is h.1) (view_in old lane).made pins.agrees.made);
    }

pub settled_here : (shop : Shop) (sites lane : ℕ) (old new : Place RoundTag) (r : Round) (number : ℕ) → store_lane shop sites ≡ Some lane → BelongsTo (key_of shop).tag.value lane r → number ≡ r.number → IsTrue r.last → Looks old new lane number → Settled shop sites old new number
settled_here shop sites lane old new r number is b named last looks = let h = belongs_here shop lane r b in record {
  lane = lane;
  is_lane = is;
  looks = looks;
  pinned = r;
  is_round = h.0;
  of_sites = one_sites 0 _ shop.lanes r.lane sites lane shop.numbered h.1 is;
  number_is = sym named;
  is_last = last;
}
