-- How a shop's lanes are opened, one number of call sites after another.
use Rattle.std.proofs.Common.{◌≡◌, ◌≢◌, ℕ, zero, suc, ◌+◌, ◌<◌, ◌≤◌, ◌==◌, Bool, true, false, Option, Some, None, List, [], ◌∷◌, ◌++◌, length, get_or, set, refl, sym, ap, ◌∙◌, subst, arith, length-set, get_or-set_same, get_or-set_other}
use Rattle.std.specs.Prelude.{IsSome, ◌↔◌}
use Rattle.std.proofs.lemmas.Bool.{true≢false, eqb-true, eq-eqb, and_parts, and_from}
use Rattle.std.proofs.lemmas.List.{length-append}
use Rattle.std.proofs.lemmas.Option.{none-some}
use mathlib.Core.Logic.{dite}
use native.Mathlib.Decide.{ℕ_discrete}
use Rattle.image_map.specs.declared.image.Image.{Image}
use Rattle.image_map.specs.declared.region.Settings.{Settings}
use Rattle.round_slots.specs.Ends.{AreFirst}
use Rattle.rounds.specs.declared.round.Round.{Round}
use Rattle.rounds.specs.Rounds.{IsRound}
use Rattle.rounds.specs.Tags.{BelongsTo}
use Rattle.service.specs.Lanes.{tag_of, are_numbered, AreWanted}
use Rattle.service.proofs.LaneLemmas.{numbered_within}

same_eqb : (n : ℕ) → (n == n) ≡ true
same_eqb n = eq-eqb n n refl

beyond : {A : Type 0} (xs : List A) (k : ℕ) (d : A) → length xs ≤ k → get_or xs k d ≡ d
beyond [] k d h = refl
beyond (x ∷ xs) zero d h = absurd (omega arith)
beyond (x ∷ xs) (suc k) d h = beyond xs k d (omega arith)

numbered_none : (next count : ℕ) (lanes : List (Option ℕ)) → ((k : ℕ) → get_or lanes k None ≡ None) → are_numbered next count lanes ≡ true → next ≡ count
numbered_none next count [] h e = eqb-true next count e
numbered_none next count (None ∷ lanes) h e = numbered_none next count lanes (λ k. h (suc k)) e
numbered_none next count (Some lane ∷ lanes) h e = absurd (none-some lane (sym (h zero)))

none_numbered : (next count : ℕ) (lanes : List (Option ℕ)) → ((k : ℕ) → get_or lanes k None ≡ None) → next ≡ count → are_numbered next count lanes ≡ true
none_numbered next count [] h e = subst (λ n. (next == n) ≡ true) e (same_eqb next)
none_numbered next count (None ∷ lanes) h e = none_numbered next count lanes (λ k. h (suc k)) e
none_numbered next count (Some lane ∷ lanes) h e = absurd (none-some lane (sym (h zero)))

-- one more lane, behind all that there are
numbered_more : (next count : ℕ) (lanes : List (Option ℕ)) (i : ℕ) → i < length lanes → are_numbered next count lanes ≡ true → ((k : ℕ) → i ≤ k → get_or lanes k None ≡ None) → are_numbered next (count + 1) (set lanes i (Some count)) ≡ true
numbered_more next count [] i lt e h = absurd (omega arith)
numbered_more next count (None ∷ lanes) zero lt e h =
    let none : (k : ℕ) → get_or lanes k None ≡ None = λ k. h (suc k) (omega arith) in
    let same : next ≡ count = numbered_none next count lanes none e in
    and_from (count == next) (are_numbered (next + 1) (count + 1) lanes) (subst (λ n. (count == n) ≡ true) (sym same) (same_eqb count)) (none_numbered (next + 1) (count + 1) lanes none (ap (λ n. n + 1) same))
numbered_more next count (None ∷ lanes) (suc i) lt e h = numbered_more next count lanes i (omega arith) e (λ k le. h (suc k) (omega arith))
numbered_more next count (Some lane ∷ lanes) zero lt e h = absurd (none-some lane (sym (h zero (omega arith))))
numbered_more next count (Some lane ∷ lanes) (suc i) lt e h =
    let both = and_parts (lane == next) (are_numbered (next + 1) count lanes) e in
    and_from (lane == next) (are_numbered (next + 1) (count + 1) (set lanes i (Some count))) both.0 (numbered_more (next + 1) count lanes i (omega arith) both.1 (λ k le. h (suc k) (omega arith)))

module _ (image : Image) (settings : Settings) where
  abbrev Firsts : List (Option ℕ) → ℕ → List Round → Type 0
  Firsts lanes lane rounds = AreFirst BelongsTo (λ (r : Round). r.number) (tag_of image settings lanes) lane rounds

  firsts_kept : (lanes : List (Option ℕ)) (i count lane : ℕ) (rounds : List Round) → get_or lanes i None ≡ None → Firsts lanes lane rounds → Firsts (set lanes i (Some count)) lane rounds
  firsts_kept lanes i count lane [] none h = tt
  firsts_kept lanes i count lane (r ∷ rounds) none h =
      let other : r.lane ≢ i = λ e. none-some lane (sym none ∙ ap (λ k. get_or lanes k None) (sym e) ∙ h.0.1) in
      ((h.0.0, get_or-set_other lanes i r.lane (Some count) None other ∙ h.0.1), h.1, firsts_kept lanes i count (lane + 1) rounds none h.2)

  firsts_more : (lanes : List (Option ℕ)) (lane : ℕ) (rounds : List Round) (r : Round) → Firsts lanes lane rounds → BelongsTo (tag_of image settings lanes) (lane + length rounds) r → r.number ≡ 0 → Firsts lanes lane (rounds ++ r ∷ [])
  firsts_more lanes lane [] r h b n = (subst (λ l. BelongsTo (tag_of image settings lanes) l r) (omega arith) b, n, tt)
  firsts_more lanes lane (x ∷ rounds) r h b n = (h.0, h.1, firsts_more lanes (lane + 1) rounds r h.2 (subst (λ l. BelongsTo (tag_of image settings lanes) l r) (omega arith) b) n)

  -- the lanes of the numbers of call sites below this one are opened
  pub record Opened (wanted : List Bool) (i : ℕ) (rounds : List Round) (lanes : List (Option ℕ)) : Type 0 where
    pub size : length lanes ≡ 4
    pub few : length rounds ≤ i
    pub numbered : are_numbered 0 (length rounds) lanes ≡ true
    pub later : (k : ℕ) → i ≤ k → get_or lanes k None ≡ None
    pub first : Firsts lanes 0 rounds
    pub wants : (k : ℕ) → k < i → IsSome (get_or lanes k None) ↔ (get_or wanted k false ≡ true)

  pub opened_none : (wanted : List Bool) → Opened wanted 0 [] (None ∷ None ∷ None ∷ None ∷ [])
  opened_none wanted = record {
    size = refl;
    few = omega arith;
    numbered = refl;
    later = none;
    first = tt;
    wants = λ k lt. absurd (omega (arith, lt));
  } where
    none : (k : ℕ) → 0 ≤ k → get_or {A = Option ℕ} (None ∷ None ∷ None ∷ None ∷ []) k None ≡ None
    none zero h = refl
    none (suc zero) h = refl
    none (suc (suc zero)) h = refl
    none (suc (suc (suc zero))) h = refl
    none (suc (suc (suc (suc k)))) h = refl

  pub opened_skip : (wanted : List Bool) (i : ℕ) (rounds : List Round) (lanes : List (Option ℕ)) → get_or wanted i false ≡ false → Opened wanted i rounds lanes → Opened wanted (i + 1) rounds lanes
  opened_skip wanted i rounds lanes not o = record {
    size = o.size;
    few = let f = o.few in omega (arith, f);
    numbered = o.numbered;
    later = λ k le. o.later k (omega (arith, le));
    first = o.first;
    wants = λ k lt. dite (ℕ_discrete k i)
        (λ e. subst (λ j. IsSome (get_or lanes j None) ↔ (get_or wanted j false ≡ true)) (sym e) (
          (λ some. absurd (true≢false (sym (subst IsSome (o.later i (omega arith)) some)))),
          (λ is. absurd (true≢false (sym is ∙ not))),
        ))
        (λ ne. o.wants k (omega (arith, lt, ne)));
  }

  pub opened_more : (wanted : List Bool) (i : ℕ) (rounds : List Round) (lanes : List (Option ℕ)) (r : Round) → i < 4 → get_or wanted i false ≡ true → IsRound image settings r → r.number ≡ 0 → r.lane ≡ i → Opened wanted i rounds lanes
      → Opened wanted (i + 1) (rounds ++ r ∷ []) (set lanes i (Some (length rounds)))
  opened_more wanted i rounds lanes r lt is round number lane o =
      let size = o.size in
      let within : i < length lanes = omega (arith, size, lt) in
      let all : length (rounds ++ r ∷ []) ≡ length rounds + 1 = length-append rounds (r ∷ []) in
      let here : get_or (set lanes i (Some (length rounds))) i None ≡ Some (length rounds) = get_or-set_same lanes i (Some (length rounds)) None within in
      record {
        size = length-set lanes i (Some (length rounds)) ∙ size;
        few = (let f = o.few in omega (arith, f, all));
        numbered = subst (λ n. are_numbered 0 n (set lanes i (Some (length rounds))) ≡ true) (sym all) (numbered_more 0 (length rounds) lanes i within o.numbered o.later);
        later = λ k le. get_or-set_other lanes i k (Some (length rounds)) None (λ e. omega (arith, le, e)) ∙ o.later k (omega (arith, le));
        first = firsts_more (set lanes i (Some (length rounds))) 0 rounds r (firsts_kept lanes i (length rounds) 0 rounds (o.later i (omega arith)) o.first)
            (round, ap (λ k. get_or (set lanes i (Some (length rounds))) k None) lane ∙ here ∙ ap Some (omega arith)) number;
        wants = λ k lt. dite (ℕ_discrete k i)
            (λ e. subst (λ j. IsSome (get_or (set lanes i (Some (length rounds))) j None) ↔ (get_or wanted j false ≡ true)) (sym e) ((λ some. is), (λ h. subst IsSome (sym here) refl)))
            (λ ne. subst (λ v. IsSome v ↔ (get_or wanted k false ≡ true)) (sym (get_or-set_other lanes i k (Some (length rounds)) None ne)) (o.wants k (omega (arith, lt, ne))));
      }

  pub opened_as : (wanted : List Bool) (i : ℕ) (rounds others : List Round) (lanes known : List (Option ℕ)) → others ≡ rounds → known ≡ lanes → Opened wanted i rounds lanes → Opened wanted i others known
  opened_as wanted i rounds others lanes known p q o = subst (λ rs. Opened wanted i rs known) (sym p) (subst (λ ls. Opened wanted i rounds ls) (sym q) o)

  pub opened_all : (wanted : List Bool) (i : ℕ) (rounds : List Round) (lanes : List (Option ℕ)) → length wanted ≡ 4 → i ≡ 4 → Opened wanted i rounds lanes → AreWanted wanted lanes
  opened_all wanted i rounds lanes size four o sites = dite_lt sites
    where
      dite_lt : (k : ℕ) → IsSome (get_or lanes k None) ↔ (get_or wanted k false ≡ true)
      dite_lt zero = o.wants zero (omega (arith, four))
      dite_lt (suc zero) = o.wants (suc zero) (omega (arith, four))
      dite_lt (suc (suc zero)) = o.wants (suc (suc zero)) (omega (arith, four))
      dite_lt (suc (suc (suc zero))) = o.wants (suc (suc (suc zero))) (omega (arith, four))
      dite_lt (suc (suc (suc (suc k)))) = (
        (λ some. absurd (true≢false (sym (subst IsSome (o.later (suc (suc (suc (suc k)))) (omega (arith, four))) some)))),
        (λ is. absurd (true≢false (sym is ∙ beyond wanted (suc (suc (suc (suc k)))) false (omega (arith, size))))),
      )

-- where a lane is wanted there is one
pub some_opened : (wanted : List Bool) (lanes : List (Option ℕ)) (count k : ℕ) → are_numbered 0 count lanes ≡ true → AreWanted wanted lanes → get_or wanted k false ≡ true → 1 ≤ count
some_opened wanted lanes count k numbered wants is = by (get_or lanes k None) refl ((wants k).1 is)
  where
    by : (o : Option ℕ) → get_or lanes k None ≡ o → IsSome o → 1 ≤ count
    by None e some = absurd (true≢false (sym some))
    by (Some lane) e some = let within = (numbered_within 0 count lanes k lane numbered e).1 in omega (arith, within)
