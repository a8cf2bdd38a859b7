-- What a seat says after trying to publish a round.
use Rattle.std.proofs.Common.{◌≡◌, ℕ, ◌+◌, ◌<◌, Bool, false, Some, List, [], ◌∷◌, ◌++◌, refl, sym, subst}
use Rattle.round_core.specs.declared.word.Word.{Word}
use Rattle.round_slots.specs.declared.store.ClaimRefused.{ClaimRefused}
use Rattle.round_slots.specs.View.{unmarked, next_word, gave_up, published}
use Rattle.round_slots.specs.Rule.{AgreesWith}
use Rattle.round_slots.specs.Seats.{Place, HasNoTurn, Becomes, Pins, view_in}
use Rattle.round_slots.specs.Claims.{Claims, Refuses}
use Rattle.round_slots.proofs.ViewLaws.{no_turn_after}
use Rattle.rounds.specs.declared.numbered.RoundTag.{RoundTag}
use Rattle.rounds.specs.Tags.{HasNumber}
use Rattle.service.specs.declared.shop.Shop.{Shop}
use Rattle.service.specs.Seats.{key_of, store_lane, SitsIn, IsReady}
use Rattle.service.specs.Steps.{grown, Grows, LooksOn, Publishes, Watches}
use Rattle.service.proofs.GrowLemmas.{grows_pin, looks_refused, looks_gave_up, publishes_next}

module _ (shop : Shop) (old : Place RoundTag) (lane : ℕ) (s : SitsIn shop old) (none : HasNoTurn (key_of shop) old) (inside : lane < (key_of shop).lanes) where
  pub ready_grown : (new out : Place RoundTag) (pinned : Bool) (words : List Word) (numbers : List ℕ) → Grows old out lane words numbers → SitsIn shop new → out ≡ new → pinned ≡ false → IsReady shop out pinned
  ready_grown new out pinned words numbers g t same free = record {
    sits = subst (SitsIn shop) (sym same) t;
    no_turn = no_turn_after HasNumber shop.store.words.shared.table_id (key_of shop) old out lane (grown (view_in old lane) words numbers) s inside g refl none;
    no_pin = free;
  }

  -- after a pin that was let go
  pub ready_pinned : (new out : Place RoundTag) (pinned : Bool) (round : ℕ) → Pins (key_of shop) old new lane round → SitsIn shop new → out ≡ new → pinned ≡ false → IsReady shop out pinned
  ready_pinned new out pinned round p t same free =
      ready_grown new out pinned (p.before ++ p.last ∷ []) [] (subst (λ q. Grows old q lane (p.before ++ p.last ∷ []) []) (sym same) (grows_pin shop old new lane round (none lane inside) p)) t same free

  pub watched : (sites : ℕ) (new out : Place RoundTag) (round : ℕ) → store_lane shop sites ≡ Some lane → Pins (key_of shop) old new lane round → out ≡ new → Watches shop sites old out
  watched sites new out round is p same = record {
    lane = lane;
    is_lane = is;
    looks = (p.before ++ p.last ∷ [], subst (λ q. Grows old q lane (p.before ++ p.last ∷ []) []) (sym same) (grows_pin shop old new lane round (none lane inside) p));
  }

  pub advance_refused : (new out : Place RoundTag) (n : ℕ) (cause : ClaimRefused) → Refuses (key_of shop) old new lane n cause → out ≡ new → LooksOn old out lane
  advance_refused new out n cause r same = subst (λ p. LooksOn old p lane) (sym same) (looks_refused shop old new lane n cause s inside (none lane inside) r)

  module _ (mid new out : Place RoundTag) (turn_lane n : ℕ) (word : Word) (here : turn_lane ≡ lane) (c : Claims (key_of shop) old mid lane n word) (same : out ≡ new) where
    pub advance_published : (slot number : ℕ) → AgreesWith (key_of shop).seats word (view_in mid turn_lane) → Becomes mid new turn_lane (published (view_in mid turn_lane) word (next_word word slot)) → number ≡ n + 1 → Publishes old out lane number
    advance_published slot number agrees b is =
        subst (λ p. Publishes old p lane number) (sym same)
        (publishes_next shop old mid lane n word s inside c new slot number
        (subst (λ l. AgreesWith (key_of shop).seats word (view_in mid l)) here agrees)
        (subst (λ l. Becomes mid new l (published (view_in mid l) word (next_word word slot))) here b) is)

    pub advance_gave_up : Becomes mid new turn_lane (gave_up (view_in mid turn_lane) word (unmarked word)) → LooksOn old out lane
    advance_gave_up b =
        subst (λ p. LooksOn old p lane) (sym same)
        (looks_gave_up shop old mid lane n word s inside c new
        (subst (λ l. Becomes mid new l (gave_up (view_in mid l) word (unmarked word))) here b))
