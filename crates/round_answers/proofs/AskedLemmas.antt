-- Which round is the last, and what comes after it.
use Rattle.std.proofs.Common.{◌≡◌, ◌≢◌, ◌⊎◌, ⊎_elim, ℕ, zero, suc, ◌+◌, ◌<◌, ◌≤◌, ◌-◌, Option, Some, None, sym, subst, ap, ◌∙◌, arith, IsTrue}
use Rattle.std.proofs.lemmas.Bool.{cases_eq, cases_order}
use Rattle.std.specs.Prelude.{Result, Ok, Err, IfErr}
use Rattle.image_map.specs.declared.image.Image.{Image}
use Rattle.image_map.specs.declared.region.Settings.{Settings}
use Rattle.image_map.specs.CallModel.{AreSettings}
use Rattle.alocs.specs.Cells.{Division}
use Rattle.abs_steps.specs.Successors.{States}
use Rattle.rounds.specs.declared.round.Round.{Round}
use Rattle.rounds.specs.Next.{IsLast}
use Rattle.rounds.specs.Rounds.{HasCells, IsRound, map_with}
use Rattle.rounds.proofs.RoundLemmas.{one_cells, within_rounds}
use Rattle.round_answers.specs.declared.asked.Choice.{Choice}
use Rattle.round_answers.specs.declared.asked.NoRound.{NoRound}
use Rattle.round_answers.specs.declared.asked.NoRound.TheVariants.{Behind}
use Rattle.round_answers.specs.Asked.{IsAsked, IsBehindLast, IsChosen, IsNoRound}

-- -- The way to a round

-- a round before the last leaves fewer rounds behind it
pub fewer_left : (image : Image) (settings : Settings) (externs : ℕ) (r q : Round) → AreSettings externs settings → IsRound image settings q → q.number ≡ r.number + 1 → settings.rounds - q.number < settings.rounds - r.number
fewer_left image settings externs r q given is next =
    let within : q.number + 1 ≤ settings.rounds = within_rounds image settings externs q.lane q.number q.cells given is.cells in
    omega arith

pub none_asked : (image : Image) (settings : Settings) (choice : Choice) (r : Round) (none : NoRound) → IsRound image settings r → r.lane ≡ choice.lane → ((n : ℕ) → choice.round ≡ Some n → r.number ≤ n)
    → IsTrue r.last ⊎ (choice.round ≡ Some r.number) → (n : ℕ) × (none ≡ Behind n) × (choice.round ≡ Some n) × (n ≢ r.number) → IsNoRound image settings choice none
none_asked image settings choice r none round lane within end (n, is, wanted, other) =
    let reached : r.number ≤ n = within n wanted in
    let last : IsTrue r.last = ⊎_elim (λ l. l) (λ same. absurd (other (some_one n r.number (sym wanted ∙ same)))) end in
    subst (IsNoRound image settings choice) (sym is) (wanted, record { end = r; round = round; same_lane = lane; last = last; before = omega arith })
  where
    some_one : (m n : ℕ) → Some m ≡ Some n → m ≡ n
    some_one m n e = ap (λ o. number_of o) e
      where
        number_of : Option ℕ → ℕ
        number_of None = m
        number_of (Some k) = k

pub none_told : {P Q : NoRound → Type 0} (result : Result Round NoRound) → ((none : NoRound) → P none → Q none) → IfErr result P → IfErr result Q
none_told (Ok r) like h = h
none_told (Err none) like h = like none h

-- -- What comes after the last

-- a round has rounds of all numbers below its own, none of which is the last
cells_below : (image : Image) (settings : Settings) (lane m n : ℕ) (d : Division) → m < n → HasCells image settings lane n d → (b : Division) × HasCells image settings lane m b × ¬ IsLast image settings m (map_with image settings lane b)
cells_below image settings lane m zero d low h = absurd (omega (arith, low))
cells_below image settings lane m (suc n) d low h =
    ⊎_elim
    (λ (same : m ≡ n). subst (λ k. (b : Division) × HasCells image settings lane k b × ¬ IsLast image settings k (map_with image settings lane b)) (sym same) (h.1.before, h.1.is_of_round, h.1.goes_on))
    (λ other. let off : m ≢ n = other in cells_below image settings lane m n h.1.before (omega (arith, low, off)) h.1.is_of_round)
    (cases_eq m n)

pub none_behind : (image : Image) (settings : Settings) (r : Round) → IsRound image settings r → ¬ IsBehindLast image settings r.lane r.number
none_behind image settings r round behind =
    let end = behind.end in
    let some = cells_below image settings r.lane end.number r.number r.cells behind.before round.cells in
    let own : HasCells image settings r.lane end.number end.cells = subst (λ k. HasCells image settings k end.number end.cells) behind.same_lane behind.round.cells in
    let one : end.cells ≡ some.0 = one_cells image settings r.lane end.number end.cells some.0 own some.1 in
    let map : _ = behind.round.states ∙ (λ i. map_with image settings (behind.same_lane i) (one i)) in
    some.2 (subst (λ (s : States). IsLast image settings end.number s) map (behind.round.last.0 behind.last))

one_number : (image : Image) (settings : Settings) (r q : Round) (wanted : Option ℕ) → IsRound image settings r → IsRound image settings q → r.lane ≡ q.lane → IsChosen wanted r → IsChosen wanted q → r.number ≡ q.number
one_number image settings r q (Some n) a b lane first second = first ∙ sym second
one_number image settings r q None a b lane first second =
    ⊎_elim (λ same. same)
    (⊎_elim
    (λ (low : r.number < q.number). absurd (none_behind image settings q b (record { end = r; round = a; same_lane = lane; last = first; before = low })))
    (λ (high : q.number < r.number). absurd (none_behind image settings r a (record { end = q; round = b; same_lane = sym lane; last = second; before = high }))))
    (cases_order r.number q.number)

pub one_asked : (image : Image) (settings : Settings) (choice : Choice) (r q : Round) → IsAsked image settings choice r → IsAsked image settings choice q → (r.number ≡ q.number) × (r.lane ≡ q.lane)
one_asked image settings choice r q a b =
    let lane : r.lane ≡ q.lane = a.lane ∙ sym b.lane in
    (one_number image settings r q choice.round a.round b.round lane a.chosen b.chosen, lane)
