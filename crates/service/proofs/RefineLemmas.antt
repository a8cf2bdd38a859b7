-- What a refiner has done, visit after visit.
use Rattle.std.proofs.Common.{◌≡◌, ◌≢◌, ℕ, zero, suc, ◌+◌, ◌*◌, ◌<◌, ◌≤◌, ◌⊎◌, inl, inr, ⊎_elim, Bool, true, false, None, List, [], ◌∷◌, ◌++◌, length, get_or, set, refl, sym, ap, ◌∙◌, subst, arith, append_assoc, append-nil, length-set, get_or-set_other}
use Rattle.std.specs.Prelude.{IsTrue}
use Rattle.std.specs.List.{AllByRecursion}
use Rattle.std.proofs.lemmas.Bool.{true≢false}
use Rattle.std.proofs.lemmas.List.{length-append}
use mathlib.Core.Logic.{dite}
use native.Mathlib.Decide.{ℕ_discrete}
use Rattle.round_core.specs.declared.word.Word.{Word}
use Rattle.round_slots.specs.declared.view.LaneView.{LaneView}
use Rattle.round_slots.specs.Seats.{Place, HasNoTurn, view_in}
use Rattle.round_slots.proofs.ListLemmas.{all_append, all_right}
use Rattle.round_slots.proofs.ViewLaws.{other_view}
use Rattle.rounds.specs.declared.round.Round.{Round}
use Rattle.rounds.specs.declared.numbered.RoundTag.{RoundTag}
use Rattle.rounds.specs.Tags.{BelongsTo}
use Rattle.service.specs.declared.refining.Refining.{Refining}
use Rattle.service.specs.declared.shop.Shop.{Shop}
use Rattle.service.specs.Lanes.{tag_of}
use Rattle.service.specs.Seats.{key_of, SitsIn, IsReady}
use Rattle.service.specs.Steps.{grown, Grows, LooksOn, Publishes, Looks}
use Rattle.service.specs.Refines.{total_made, GrowsAt, SawLast, Refined}
use Rattle.service.proofs.GrowLemmas.{view_after, as_grown}

-- -- One lane

pub grows_at_none : (a : LaneView) → a.turn ≡ None → GrowsAt a a
grows_at_none a turn = record {
  words = [];
  numbers = [];
  view_is = as_grown a a [] [] (sym (append-nil a.seen)) (sym (append-nil a.made)) turn;
  small = tt;
  few = λ m h. omega arith;
}

grown_again : (a b c : LaneView) (words more : List Word) (numbers others : List ℕ) → b ≡ grown a words numbers → c ≡ grown b more others → c ≡ grown a (words ++ more) (numbers ++ others)
grown_again a b c words more numbers others p q =
    as_grown a c (words ++ more) (numbers ++ others)
    (ap (λ v. v.seen) q ∙ ap (λ v. v.seen ++ more) p ∙ append_assoc a.seen words more)
    (ap (λ v. v.made) q ∙ ap (λ v. v.made ++ others) p ∙ append_assoc a.made numbers others)
    (ap (λ v. v.turn) q)

grows_at_looks : (a b c : LaneView) (more : List Word) → GrowsAt a b → c ≡ grown b more [] → GrowsAt a c
grows_at_looks a b c more g e = record {
  words = g.words ++ more;
  numbers = g.numbers;
  view_is = subst (λ ns. c ≡ grown a (g.words ++ more) ns) (append-nil g.numbers) (grown_again a b c g.words more g.numbers [] g.view_is e);
  small = g.small;
  few = g.few;
}

grows_at_publishes : (a b c : LaneView) (more : List Word) (n : ℕ) → n < 9 → AllByRecursion (λ m. m < n) b.made → GrowsAt a b → c ≡ grown b more (n ∷ []) → GrowsAt a c
grows_at_publishes a b c more n small above g e =
    let before : AllByRecursion (λ m. m < n) g.numbers = all_right (λ m. m < n) a.made g.numbers (subst (AllByRecursion (λ m. m < n)) (ap (λ v. v.made) g.view_is) above) in
    let all = length-append g.numbers (n ∷ []) in
    record {
      words = g.words ++ more;
      numbers = g.numbers ++ n ∷ [];
      view_is = grown_again a b c g.words more g.numbers (n ∷ []) g.view_is e;
      small = all_append (λ m. m < 9) g.numbers (n ∷ []) g.small (small, tt);
      few = λ m h. (let last = (all_right (λ k. k < m) g.numbers (n ∷ []) h).0 in let count = g.few n before in omega (arith, last, count, all));
    }

-- -- All lanes

total_same : (old new : Place RoundTag) (n : ℕ) → ((k : ℕ) → k < n → (view_in new k).made ≡ (view_in old k).made) → total_made new n ≡ total_made old n
total_same old new zero h = refl
total_same old new (suc n) h =
    let rest = total_same old new n (λ k lt. h k (omega (arith, lt))) in
    let here = ap length (h n (omega arith)) in
    omega (arith, rest, here)

-- the lists of one lane have grown by so many numbers
total_more : (old new : Place RoundTag) (lane more n : ℕ) → lane < n → ((k : ℕ) → k ≢ lane → (view_in new k).made ≡ (view_in old k).made) → length (view_in new lane).made ≡ length (view_in old lane).made + more → total_made new n ≡ total_made old n + more
total_more old new lane more zero lt others here = absurd (omega (arith, lt))
total_more old new lane more (suc n) lt others here = dite (ℕ_discrete lane n)
    (λ (e : lane ≡ n).
    let rest = total_same old new n (λ k below. others k (λ same. omega (arith, below, same, e))) in
    let this = subst (λ l. length (view_in new l).made ≡ length (view_in old l).made + more) e here in
    omega (arith, rest, this))
    (λ ne.
    let rest = total_more old new lane more n (omega (arith, lt, ne)) others here in
    let this = ap length (others n (λ same. ne (sym same))) in
    omega (arith, rest, this))

pub total_few : (old new : Place RoundTag) (n : ℕ) → ((k : ℕ) → k < n → GrowsAt (view_in old k) (view_in new k)) → total_made new n ≤ total_made old n + 9 * n
total_few old new zero h = omega arith
total_few old new (suc n) h =
    let rest = total_few old new n (λ k lt. h k (omega (arith, lt))) in
    let g = h n (omega arith) in
    let made = ap (λ v. length v.made) g.view_is in
    let all = length-append (view_in old n).made g.numbers in
    let count = g.few 9 g.small in
    omega (arith, rest, made, all, count)

saw_more : (shop : Shop) (old cur new : Place RoundTag) (lane : ℕ) (more : List Word) → (view_in new lane).seen ≡ (view_in cur lane).seen ++ more → SawLast shop old cur lane → SawLast shop old new lane
saw_more shop old cur new lane more e s = record {
  last = s.last;
  belongs = s.belongs;
  is_last = s.is_last;
  before = s.before;
  word = s.word;
  after = s.after ++ more;
  seen_is = e ∙ ap (λ ws. ws ++ more) s.seen_is ∙ append_assoc (view_in old lane).seen (s.before ++ (s.word ∷ s.after)) more ∙ ap (λ ws. (view_in old lane).seen ++ ws) (append_assoc s.before (s.word ∷ s.after) more);
  word_is = s.word_is;
}

module _ (shop : Shop) (old cur new : Place RoundTag) (lane : ℕ) (words : List Word) (numbers : List ℕ) (s : SitsIn shop cur) (inside : lane < (key_of shop).lanes) (g : Grows cur new lane words numbers) where
  here_is : view_in new lane ≡ grown (view_in cur lane) words numbers
  here_is = view_after shop cur new lane (grown (view_in cur lane) words numbers) s inside g

  other_is : (k : ℕ) → k ≢ lane → view_in new k ≡ view_in cur k
  other_is k ne = other_view cur new lane k (grown (view_in cur lane) words numbers) g ne

  refined_grown : (r r' : Refining) → Refined shop old cur r → (GrowsAt (view_in old lane) (view_in cur lane) → GrowsAt (view_in old lane) (view_in new lane)) → r'.made ≡ r.made + length numbers
      → ((k : ℕ) → k < (key_of shop).lanes → get_or r'.settled k false ≡ true → (get_or r.settled k false ≡ true) ⊎ SawLast shop old new k) → length r'.settled ≡ 4 → Refined shop old new r'
  refined_grown r r' f grows made settled size = record {
    grows = λ k lt. dite (ℕ_discrete k lane)
        (λ e. subst (λ l. GrowsAt (view_in old l) (view_in new l)) (sym e) (grows (f.grows lane inside)))
        (λ ne. subst (λ v. GrowsAt (view_in old k) v) (sym (other_is k ne)) (f.grows k lt));
    counted =
        (let one = total_more cur new lane (length numbers) (key_of shop).lanes inside (λ k ne. ap (λ v. v.made) (other_is k ne)) (ap (λ v. length v.made) here_is ∙ length-append (view_in cur lane).made numbers) in
        let before = f.counted in omega (arith, one, before, made));
    settled = λ k lt is. ⊎_elim (λ was. dite (ℕ_discrete k lane)
        (λ e. subst (λ l. SawLast shop old new l) (sym e) (saw_more shop old cur new lane words (ap (λ v. v.seen) here_is) (f.settled lane inside (subst (λ l. get_or r.settled l false ≡ true) e was))))
        (λ ne. saw_more shop old cur new k [] (ap (λ v. v.seen) (other_is k ne) ∙ sym (append-nil (view_in cur k).seen)) (f.settled k lt was)))
        (λ now. now) (settled k lt is);
    size = size;
  }

module _ (shop : Shop) (old cur new : Place RoundTag) (lane : ℕ) (r r' : Refining) (s : SitsIn shop cur) (inside : lane < (key_of shop).lanes) (f : Refined shop old cur r) where
  pub refined_looks : LooksOn cur new lane → r'.made ≡ r.made → r'.settled ≡ r.settled → Refined shop old new r'
  refined_looks l made settled = refined_grown shop old cur new lane l.0 [] s inside l.1 r r' f
      (λ g. grows_at_looks (view_in old lane) (view_in cur lane) (view_in new lane) l.0 g (here_is shop cur cur new lane l.0 [] s inside l.1))
      (omega (arith, made)) (λ k lt is. inl (subst (λ xs. get_or xs k false ≡ true) settled is)) (ap length settled ∙ f.size)

  pub refined_publishes : (n : ℕ) → n < 9 → Publishes cur new lane n → r'.made ≡ r.made + 1 → r'.settled ≡ r.settled → Refined shop old new r'
  refined_publishes n small p made settled = refined_grown shop old cur new lane (p.before ++ p.last ∷ []) (n ∷ []) s inside p.grows r r' f
      (λ g. grows_at_publishes (view_in old lane) (view_in cur lane) (view_in new lane) (p.before ++ p.last ∷ []) n small p.above.made g (here_is shop cur cur new lane (p.before ++ p.last ∷ []) (n ∷ []) s inside p.grows))
      made (λ k lt is. inl (subst (λ xs. get_or xs k false ≡ true) settled is)) (ap length settled ∙ f.size)

  pub refined_settles : (n : ℕ) (last : Round) → BelongsTo (tag_of shop.image shop.settings shop.lanes) lane last → IsTrue last.last → last.number ≡ n → Looks cur new lane n → r'.made ≡ r.made → r'.settled ≡ set r.settled lane true → Refined shop old new r'
  refined_settles n last belongs is_last number l made settled =
      let ws = l.before ++ l.last ∷ [] in
      let now = here_is shop cur cur new lane ws [] s inside l.grows in
      let g = f.grows lane inside in
      let saw : SawLast shop old new lane = record {
        last = last;
        belongs = belongs;
        is_last = is_last;
        before = g.words ++ l.before;
        word = l.last;
        after = [];
        seen_is = ap (λ v. v.seen) now ∙ ap (λ v. v.seen ++ ws) g.view_is ∙ append_assoc (view_in old lane).seen g.words ws ∙ ap (λ vs. (view_in old lane).seen ++ vs) (sym (append_assoc g.words l.before (l.last ∷ [])));
        word_is = l.last_is ∙ sym number;
      } in
      refined_grown shop old cur new lane ws [] s inside l.grows r r' f
      (λ h. grows_at_looks (view_in old lane) (view_in cur lane) (view_in new lane) ws h now)
      (omega (arith, made))
      (λ k lt is. dite (ℕ_discrete k lane)
      (λ e. inr (subst (λ j. SawLast shop old new j) (sym e) saw))
      (λ ne. inl (sym (get_or-set_other r.settled lane k true false ne) ∙ ap (λ xs. get_or xs k false) (sym settled) ∙ is)))
      (ap length settled ∙ length-set r.settled lane true ∙ f.size)

-- only what a refiner has made and settled counts
pub refined_same : (shop : Shop) (old new : Place RoundTag) (r r' : Refining) → r'.made ≡ r.made → r'.settled ≡ r.settled → Refined shop old new r → Refined shop old new r'
refined_same shop old new r r' made settled f = record {
  grows = f.grows;
  counted = (let c = f.counted in omega (arith, c, made));
  settled = λ k lt is. f.settled k lt (subst (λ xs. get_or xs k false ≡ true) settled is);
  size = ap length settled ∙ f.size;
}

pub refined_none : (shop : Shop) (old : Place RoundTag) (r : Refining) → HasNoTurn (key_of shop) old → r.made ≡ 0 → r.settled ≡ false ∷ false ∷ false ∷ false ∷ [] → Refined shop old old r
refined_none shop old r none made settled = record {
  grows = λ k lt. grows_at_none (view_in old k) (none k lt);
  counted = omega (arith, made);
  settled = λ k lt is. absurd (true≢false (sym is ∙ ap (λ xs. get_or xs k false) settled ∙ all_false k));
  size = ap length settled;
} where
  all_false : (k : ℕ) → get_or (false ∷ false ∷ false ∷ false ∷ []) k false ≡ false
  all_false zero = refl
  all_false (suc zero) = refl
  all_false (suc (suc zero)) = refl
  all_false (suc (suc (suc zero))) = refl
  all_false (suc (suc (suc (suc k)))) = refl

pub refined_as : (shop : Shop) (old new known : Place RoundTag) (r r' : Refining) → known ≡ new → r' ≡ r → Refined shop old new r → Refined shop old known r'
refined_as shop old new known r r' p q f = subst (λ t. Refined shop old known t) (sym q) (subst (λ t. Refined shop old t r) (sym p) f)

pub ready_as : (shop : Shop) (place known : Place RoundTag) (pinned b : Bool) → known ≡ place → b ≡ pinned → IsReady shop place pinned → IsReady shop known b
ready_as shop place known pinned b p q h = subst (λ t. IsReady shop known t) (sym q) (subst (λ t. IsReady shop t pinned) (sym p) h)
