-- What a claim tells: the project's own.
use Rattle.std.specs.Prelude.{◌≡◌, ◌≢◌, ◌⊎◌, ℕ, ◌==◌, Option, Some, None, if◌then◌else◌}
use Rattle.round_core.specs.declared.word.Word.{Word}
use Rattle.round_slots.specs.declared.store.Front.{Front}
use Rattle.round_slots.specs.declared.store.ClaimRefused.{ClaimRefused}
use Rattle.round_slots.specs.declared.store.ClaimRefused.TheVariants.{Busy, Moved}
use Rattle.round_slots.specs.declared.view.Key.{Key}
use Rattle.round_slots.specs.View.{marked, claimed}
use Rattle.round_slots.specs.Rule.{AgreesWith}
use Rattle.round_slots.specs.Seats.{Place, Loads, Becomes, view_in}

-- what a load shows of a word
abbrev pub front_of : Word → Front
front_of w = record { round = w.round; claimed = w.claimed }

-- why a claim of the round after this one is refused where a word is so: the word is of another round, or it has the mark
abbrev pub refusal : ℕ → Word → Option ClaimRefused
refusal round w = if w.round == round then (if w.claimed then Some (Busy round) else None) else Some (Moved w.round)

module _ {G : Type 0} (key : Key G) (old new : Place G) (lane round : ℕ) where
  -- the claim loaded a word that doesn't refuse it, and its own exchange set the mark on that word
  pub record Claims (word : Word) : Type 0 where
    pub loaded : Word
    pub between : Place G
    pub loads : Loads key old between lane loaded
    pub free : refusal round loaded ≡ None
    pub agrees : AgreesWith key.seats loaded (view_in between lane)
    pub view : Becomes between new lane (claimed (view_in between lane) loaded (marked loaded))
    pub marks : word ≡ marked loaded

  -- the claim loaded a word that refuses it, and did no more
  pub record RefusesAtLoad (cause : ClaimRefused) : Type 0 where
    pub loaded : Word
    pub loads : Loads key old new lane loaded
    pub refuses : refusal round loaded ≡ Some cause

  -- the claim loaded a word that doesn't refuse it, and its exchange found another, which does
  pub record RefusesAtExchange (cause : ClaimRefused) : Type 0 where
    pub loaded : Word
    pub found : Word
    pub between : Place G
    pub loads : Loads key old between lane loaded
    pub free : refusal round loaded ≡ None
    pub finds : Loads key between new lane found
    pub other : found ≢ loaded
    pub refuses : refusal round found ≡ Some cause

  abbrev pub Refuses : ClaimRefused → Type 0
  Refuses cause = RefusesAtLoad cause ⊎ RefusesAtExchange cause
