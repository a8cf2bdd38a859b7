-- The rule at the start; the first values; and what the last words bound.
use Rattle.std.proofs.Common.{◌≡◌, ℕ, zero, suc, ◌+◌, ◌<◌, ◌≤◌, Bool, false, Option, Some, None, List, [], ◌∷◌, ◌++◌, length, replicate, take, get_or, set, refl, sym, ap, ◌∙◌, subst, arith, get_or-set_same, get_or-set_other}
use mathlib.Core.Logic.{dite}
use native.Mathlib.Decide.{ℕ_discrete}
use mathlib.Core.Option.{some, some-injective, some-ne-none}
use lib.ListN.{get_elem?, length-replicate, get_or-replicate}
use Rattle.std.specs.Prelude.{Vec}
use Rattle.std.specs.declared.alloc.Global.{Global}
use Rattle.std.specs.List.{All, AllByRecursion}
use Rattle.std.proofs.lemmas.Option.{none-some, same_Some}
use Rattle.atomic_table.specs.Table.{opening, Final, Seen}
use Rattle.atomic_table.specs.Seated.{TableId}
use Rattle.round_core.specs.Word.{unpacked}
use Rattle.round_core.specs.Laws.{IsNoNewer}
use Rattle.round_slots.specs.declared.view.LaneTag.{LaneTag}
use Rattle.round_slots.specs.declared.view.Known.{Known}
use Rattle.round_slots.specs.declared.view.Key.{Key}
use Rattle.round_slots.specs.View.{no_view, lane_of, first_view}
use Rattle.round_slots.specs.Rule.{AgreesWith, word_of, Knows, Keeps}
use Rattle.round_slots.specs.Seats.{Place, HasSeen, HasNoTurn, Sits, view_in}
use Rattle.round_slots.specs.Rows.{Admits, AreRows}
use Rattle.round_slots.specs.Joins.{gathered_lane, gathered, merged, fresh}
use Rattle.round_slots.specs.Ends.{AreFirst, AreAdmitted, IsFresh, IsSeat, IsBounded, IsCovered, EndsAt}
use Rattle.round_slots.specs.Claims.{front_of}
use Rattle.round_slots.specs.declared.store.Front.{Front}
use Rattle.std.proofs.lemmas.List.Elements.{All-from_recursion}
use Rattle.round_slots.proofs.ListLemmas.{all_map, all_left, all_right}
use Rattle.round_slots.proofs.JoinLemmas.{merged_length, merged_at}
use Rattle.round_slots.proofs.PinLemmas.{admits, plus_zero, plus_suc, zero_plus}

-- the one element of a list
only_one : {X : Type 0} (x y : X) (i : ℕ) → get_elem? (x ∷ []) i ≡ some y → (i ≡ 0) × (x ≡ y)
only_one x y zero e = (refl, some-injective x y e)
only_one x y (suc i) e = absurd (some-ne-none y (sym e))

one_between : {X : Type 0} (xs : List X) (x : X) (ys : List X) → (xs ++ (x ∷ [])) ++ ys ≡ xs ++ (x ∷ ys)
one_between [] x ys = refl
one_between (z ∷ zs) x ys = ap (λ ts. z ∷ ts) (one_between zs x ys)

get_of : {X : Type 0} (xs : List X) (i : ℕ) (a d : X) → get_elem? xs i ≡ some a → get_or xs i d ≡ a
get_of [] i a d e = absurd (some-ne-none a (sym e))
get_of (x ∷ xs) zero a d e = some-injective x a e
get_of (x ∷ xs) (suc i) a d e = get_of xs i a d e

-- one more lane's front
pub fronts_more : (P : ℕ → Option Front → Type 0) (xs : List (Option Front)) (i : ℕ) (x : Option Front) → i < length xs → ((k : ℕ) → k < i → P k (get_or xs k None)) → ((k : ℕ) → i ≤ k → get_or xs k None ≡ None) → P i x
    → ((k : ℕ) → k < i + 1 → P k (get_or (set xs i x) k None)) × ((k : ℕ) → i + 1 ≤ k → get_or (set xs i x) k None ≡ None)
fronts_more P xs i x lt before after here = (
  (λ k h. dite (ℕ_discrete k i)
      (λ e. subst (λ m. P m (get_or (set xs i x) m None)) (sym e) (subst (P i) (sym (get_or-set_same xs i x None lt)) here))
      (λ ne. subst (P k) (sym (get_or-set_other xs i k x None ne)) (before k (omega (arith, h, ne))))),
  (λ k h. get_or-set_other xs i k x None (λ e. omega (arith, h, e)) ∙ after k (omega (arith, h))),
)

pub first_words : (n : ℕ) → n ≤ 4 → take {A = ℕ} n (0 ∷ 0 ∷ 0 ∷ 0 ∷ []) ≡ replicate n 0
first_words zero h = refl
first_words (suc zero) h = refl
first_words (suc (suc zero)) h = refl
first_words (suc (suc (suc zero))) h = refl
first_words (suc (suc (suc (suc zero)))) h = refl
first_words (suc (suc (suc (suc (suc n))))) h = absurd (omega arith)

module _ {G : Type 0} where
  -- no seat has done anything, and the words are of round 0
  pub opens : (possible : G → ℕ → ℕ → Type 0) (key : Key G) (words : List ℕ) → words ≡ replicate key.lanes 0 → ((l : ℕ) → l < key.lanes → possible key.tag.value l 0) → Keeps key possible (opening words [] (first_view key))
  opens possible key words e p = record {
    lanes = ap length e ∙ length-replicate key.lanes 0;
    rounds = λ l h. subst (λ w. possible key.tag.value l w.round) (sym (word_is l h)) (p l h);
    knows = λ i v at. subst (Knows key words) (same_Some first v (only_one (Some first) (Some v) i at).1) own;
    apart = λ i j v w ne at other. absurd (ne ((only_one (Some first) (Some v) i at).0 ∙ sym (only_one (Some first) (Some w) j other).0));
  } where
    first : Known G
    first = record { tag = key.tag.value; seats = key.seats; lanes = replicate key.lanes no_view }

    word_is : (l : ℕ) → l < key.lanes → word_of words l ≡ unpacked 0
    word_is l h = ap (λ ws. word_of ws l) e ∙ ap unpacked (get_or-replicate key.lanes l 0 0 h)

    agrees : AgreesWith key.seats (unpacked 0) no_view
    agrees = record { seen = tt; made = tt; distinct = tt; turn = λ x q. absurd (none-some x q); only = λ one. refl }

    own : Knows key words first
    own = record {
      tag = refl;
      seats = refl;
      lanes = length-replicate key.lanes no_view;
      agrees = λ l h. subst (λ w. AgreesWith key.seats w (lane_of (Some first) l)) (sym (word_is l h)) (subst (AgreesWith key.seats (unpacked 0)) (sym (get_or-replicate key.lanes l no_view no_view h)) agrees);
    }

  -- a seat that has done nothing is one of the store
  pub fresh_sits : (possible : G → ℕ → ℕ → Type 0) (id : TableId) (key : Key G) (p : Place G) → IsFresh id key p → Sits possible id key p
  fresh_sits possible id key p h = record {
    table = h.0;
    empty = ap (λ m. m.1) h.1;
    view = first;
    is_view = ap (λ m. m.0) h.1;
    tag = refl;
    seats = refl;
    lanes = length-replicate key.lanes no_view;
    seen = λ l lt. subst (λ o. HasSeen possible key.tag.value l (lane_of o l)) (sym (ap (λ m. m.0) h.1))
        (subst (HasSeen possible key.tag.value l) (sym (get_or-replicate key.lanes l no_view no_view lt)) (record { rising = tt; rounds = tt }));
  } where
    first : Known G
    first = record { tag = key.tag.value; seats = key.seats; lanes = replicate key.lanes no_view }

  -- seats that have done nothing are of the store, and have no turn
  pub fresh_ready : {X : Type 0} (place : X → Place G) (pinned : X → Bool) (possible : G → ℕ → ℕ → Type 0) (id : TableId) (key : Key G) (xs : List X) → All (λ x. IsFresh id key (place x) × (pinned x ≡ false)) xs
      → All (λ x. Sits possible id key (place x) × ((place x).me.0 ≡ first_view key) × HasNoTurn key (place x) × (pinned x ≡ false)) xs
  fresh_ready place pinned possible id key xs h k d lt = let t = h k d lt in let is = ap (λ m. m.0) t.0.1 in
      (fresh_sits possible id key _ t.0, is, (λ l inside. ap (λ o. (lane_of o l).turn) is ∙ ap (λ a. a.turn) (get_or-replicate key.lanes l no_view no_view inside)), t.1)

  -- a seat that is new beside one that has done nothing is like it
  pub fresh_first : (key : Key G) → fresh (first_view key) ≡ first_view key
  fresh_first key = ap (λ n. let v : Known G = record { tag = key.tag.value; seats = key.seats; lanes = replicate n no_view } in Some v) (length-replicate key.lanes no_view)

  -- the rounds of the first values are possible
  first_from : {T : Type 0} (belongs : G → ℕ → T → Type 0) (number : T → ℕ) (possible : G → ℕ → ℕ → Type 0) (tag : G) → ((lane : ℕ) (x : T) → belongs tag lane x → possible tag lane (number x))
      → (xs : List T) (lane k : ℕ) → AreFirst belongs number tag lane xs → k < length xs → possible tag (lane + k) 0
  first_from belongs number possible tag law [] lane k h lt = absurd (omega arith)
  first_from belongs number possible tag law (x ∷ xs) lane zero h lt = subst (λ l. possible tag l 0) (plus_zero lane) (subst (possible tag lane) h.1 (law lane x h.0))
  first_from belongs number possible tag law (x ∷ xs) lane (suc k) h lt = subst (λ l. possible tag l 0) (plus_suc lane k) (first_from belongs number possible tag law xs (lane + 1) k h.2 (omega arith))

  pub first_possible : {T : Type 0} (belongs : G → ℕ → T → Type 0) (number : T → ℕ) (possible : G → ℕ → ℕ → Type 0) (tag : G) → ((lane : ℕ) (x : T) → belongs tag lane x → possible tag lane (number x))
      → (xs : List T) (l : ℕ) → AreFirst belongs number tag 0 xs → l < length xs → possible tag l 0
  first_possible belongs number possible tag law xs l h lt = subst (λ k. possible tag k 0) (zero_plus l) (first_from belongs number possible tag law xs 0 l h lt)

  -- the rows admit the first values
  pub first_admitted : {T : Type 0} (belongs : G → ℕ → T → Type 0) (number : T → ℕ) (key : Key G) (tag : G) → tag ≡ key.tag.value
      → (xs : List T) (rows : List (Vec (LaneTag G) Global)) (lane : ℕ) → AreFirst belongs number tag lane xs → AreRows key lane rows → length rows ≡ length xs → AreAdmitted belongs xs rows
  first_admitted belongs number key tag e [] rows lane h r n = tt
  first_admitted belongs number key tag e (x ∷ xs) [] lane h r n = absurd (omega arith)
  first_admitted belongs number key tag e (x ∷ xs) (row ∷ rows) lane h r n = (
    admits belongs key lane x row.items r.0 (subst (λ g. belongs g lane x) e h.0),
    omega (arith, r.0.0),
    first_admitted belongs number key tag e xs rows (lane + 1) h.2 r.1 (omega arith),
  )

  pub admitted_front : {T : Type 0} (belongs : G → ℕ → T → Type 0) (xs ys : List T) (rows : List (Vec (LaneTag G) Global)) → AreAdmitted belongs (xs ++ ys) rows → AreAdmitted belongs xs rows
  admitted_front belongs [] ys rows h = tt
  admitted_front belongs (x ∷ xs) ys [] h = absurd h
  admitted_front belongs (x ∷ xs) ys (row ∷ rows) h = (h.0, h.1, admitted_front belongs xs ys rows h.2)

  pub admitted_last : {T : Type 0} (belongs : G → ℕ → T → Type 0) (xs : List T) (x : T) (rows : List (Vec (LaneTag G) Global)) (d : Vec (LaneTag G) Global) → AreAdmitted belongs (xs ++ (x ∷ [])) rows
      → (length xs < length rows) × Admits belongs x (get_or rows (length xs) d).items × (0 < length (get_or rows (length xs) d).items)
  admitted_last belongs [] x [] d h = absurd h
  admitted_last belongs [] x (row ∷ rows) d h = (omega arith, h.0, h.1)
  admitted_last belongs (y ∷ ys) x [] d h = absurd h
  admitted_last belongs (y ∷ ys) x (row ∷ rows) d h = let t = admitted_last belongs ys x rows d h.2 in (omega (arith, t.0), t.1, t.2)

  pub admitted_within : {T : Type 0} (belongs : G → ℕ → T → Type 0) (xs : List T) (x : T) (rows : List (Vec (LaneTag G) Global)) → AreAdmitted belongs (xs ++ (x ∷ [])) rows → length xs < length rows
  admitted_within belongs [] x [] h = absurd h
  admitted_within belongs [] x (row ∷ rows) h = omega arith
  admitted_within belongs (y ∷ ys) x [] h = absurd h
  admitted_within belongs (y ∷ ys) x (row ∷ rows) h = let t = admitted_within belongs ys x rows h.2 in omega (arith, t)

  -- one more row
  pub rows_more : (key : Key G) (rows : List (Vec (LaneTag G) Global)) (row : Vec (LaneTag G) Global) (first lane : ℕ) → AreRows key first rows → first + length rows ≡ lane
      → length row.items ≡ key.seats + 2 → AllByRecursion (λ t. (t.tag.value ≡ key.tag.value) × (t.lane ≡ lane)) row.items → AreRows key first (rows ++ (row ∷ []))
  rows_more key [] row first lane h e n t = let is : lane ≡ first = omega (arith, e) in ((n, subst (λ l. AllByRecursion (λ z. (z.tag.value ≡ key.tag.value) × (z.lane ≡ l)) row.items) is t), tt)
  rows_more key (r ∷ rows) row first lane h e n t = (h.0, rows_more key rows row (first + 1) lane h.1 (omega (arith, e)) n t)

  -- a seat of the store, whatever it has seen
  pub sits_seat : (possible : G → ℕ → ℕ → Type 0) (id : TableId) (key : Key G) (p : Place G) → Sits possible id key p → IsSeat id key p
  sits_seat possible id key p s = record { table = s.table; empty = s.empty; view = s.view; is_view = s.is_view; lanes = s.lanes }

  -- one seat that has seen all that two saw
  pub gathers : (id : TableId) (key : Key G) (old other new : Place G) → IsSeat id key old → IsSeat id key other → new.table_id ≡ old.table_id → new.me ≡ (gathered old.me.0 other.me.0, old.me.1)
      → IsSeat id key new × ((l : ℕ) → l < key.lanes → IsCovered new old l × IsCovered new other l)
  gathers id key old other new s t same me = (
    record {
      table = same ∙ s.table;
      empty = ap (λ m. m.1) me ∙ s.empty;
      view = v;
      is_view = is;
      lanes = merged_length gathered_lane s.view.lanes t.view.lanes ∙ s.lanes;
    },
    λ l h. (
      (λ n b. subst (IsBounded n) (sym (ap (λ o. lane_of o l) s.is_view)) (left l n (lane l h n b))),
      (λ n b. subst (IsBounded n) (sym (ap (λ o. lane_of o l) t.is_view)) (right l n (lane l h n b))),
    ),
  )
    where
      v : Known G
      v = record s.view { lanes = merged gathered_lane s.view.lanes t.view.lanes }

      is : new.me.0 ≡ Some v
      is = ap (λ m. m.0) me ∙ (λ j. gathered (s.is_view j) (t.is_view j))

      lane : (l : ℕ) → l < key.lanes → (n : ℕ) → IsBounded n (view_in new l) → IsBounded n (gathered_lane (lane_of (Some s.view) l) (lane_of (Some t.view) l))
      lane l h n b = subst (IsBounded n) (merged_at gathered_lane s.view.lanes t.view.lanes l no_view (omega (arith, s.lanes)) (s.lanes ∙ sym t.lanes)) (subst (λ o. IsBounded n (lane_of o l)) is b)

      left : (l n : ℕ) → IsBounded n (gathered_lane (lane_of (Some s.view) l) (lane_of (Some t.view) l)) → IsBounded n (lane_of (Some s.view) l)
      left l n b = record { seen = all_left (λ w. w.round ≤ n) (lane_of (Some s.view) l).seen (lane_of (Some t.view) l).seen b.seen; made = all_left (λ m. m ≤ n) (lane_of (Some s.view) l).made (lane_of (Some t.view) l).made b.made }

      right : (l n : ℕ) → IsBounded n (gathered_lane (lane_of (Some s.view) l) (lane_of (Some t.view) l)) → IsBounded n (lane_of (Some t.view) l)
      right l n b = record { seen = all_right (λ w. w.round ≤ n) (lane_of (Some s.view) l).seen (lane_of (Some t.view) l).seen b.seen; made = all_right (λ m. m ≤ n) (lane_of (Some s.view) l).made (lane_of (Some t.view) l).made b.made }

  -- the seats from the end on that one seat has taken in
  pub record Gathered {X : Type 0} (id : TableId) (key : Key G) (place : X → Place G) (all rest : List X) (by : Place G) : Type 0 where
    pub taken : List X
    pub split : all ≡ rest ++ taken
    pub seat : IsSeat id key by
    pub covers : AllByRecursion (λ x. (l : ℕ) → l < key.lanes → IsCovered by (place x) l) taken

  pub gathered_first : {X : Type 0} (id : TableId) (key : Key G) (place : X → Place G) (all rest : List X) (x : X) → all ≡ rest ++ (x ∷ []) → IsSeat id key (place x) → Gathered id key place all rest (place x)
  gathered_first id key place all rest x e s = record { taken = x ∷ []; split = e; seat = s; covers = ((λ l h n b. b), tt) }

  pub next_seat : {X : Type 0} (id : TableId) (key : Key G) (place : X → Place G) (all rest before : List X) (by : Place G) (x : X) → Gathered id key place all rest by → rest ≡ before ++ (x ∷ [])
      → AllByRecursion (λ y. IsSeat id key (place y)) all → IsSeat id key (place x)
  next_seat id key place all rest before by x g e sit =
      (all_right (λ y. IsSeat id key (place y)) before (x ∷ []) (subst (AllByRecursion (λ y. IsSeat id key (place y))) e (all_left (λ y. IsSeat id key (place y)) rest g.taken (subst (AllByRecursion (λ y. IsSeat id key (place y))) g.split sit)))).0

  pub gathered_next : {X : Type 0} (id : TableId) (key : Key G) (place : X → Place G) (all rest before : List X) (by new : Place G) (x : X) → Gathered id key place all rest by → rest ≡ before ++ (x ∷ [])
      → IsSeat id key (place x) → new.table_id ≡ by.table_id → new.me ≡ (gathered by.me.0 (place x).me.0, by.me.1) → Gathered id key place all before new
  gathered_next id key place all rest before by new x g e sit same me = let t = gathers id key by (place x) new g.seat sit same me in record {
    taken = x ∷ g.taken;
    split = g.split ∙ (ap (λ r. r ++ g.taken) e ∙ one_between before x g.taken);
    seat = t.0;
    covers = ((λ l h n b. (t.1 l h).1 n b), all_map (λ y. (l : ℕ) → l < key.lanes → IsCovered by (place y) l) (λ y. (l : ℕ) → l < key.lanes → IsCovered new (place y) l) (λ y c l h n b. c l h n ((t.1 l h).0 n b)) g.taken g.covers);
  }

  pub gathered_all : {X : Type 0} (id : TableId) (key : Key G) (place : X → Place G) (all rest : List X) (by : Place G) → Gathered id key place all rest by → rest ≡ []
      → AllByRecursion (λ x. (l : ℕ) → l < key.lanes → IsCovered by (place x) l) all
  gathered_all id key place all rest by g e = subst (AllByRecursion (λ x. (l : ℕ) → l < key.lanes → IsCovered by (place x) l)) (sym (g.split ∙ ap (λ r. r ++ g.taken) e)) g.covers

  -- the last words bound what the last seat saw and published
  pub closes : (possible : G → ℕ → ℕ → Type 0) (id : TableId) (key : Key G) (p : Place G) (ws : List ℕ) (xs : List (Unit {0})) → IsSeat id key p → Final (Seen (Keeps key possible) p.id p.me.0) ws xs
      → (l : ℕ) → l < key.lanes → possible key.tag.value l (word_of ws l).round × IsBounded (word_of ws l).round (view_in p l)
  closes possible id key p ws xs s f l h = let r = f.1.0 in let k = r.knows p.id s.view (f.1.1 ∙ ap some s.is_view) in let g = k.agrees l h in
      subst (λ us. possible key.tag.value l (word_of us l).round × IsBounded (word_of us l).round (view_in p l)) f.2 (
        r.rounds l h,
        subst (λ o. IsBounded (word_of f.0.words l).round (lane_of o l)) (sym s.is_view)
            (record {
              seen = all_map (λ x. IsNoNewer x (word_of f.0.words l)) (λ x. x.round ≤ (word_of f.0.words l).round) (λ x t. t.round) (lane_of (Some s.view) l).seen g.seen;
              made = all_map (λ n. (1 ≤ n) × (n ≤ (word_of f.0.words l).round)) (λ n. n ≤ (word_of f.0.words l).round) (λ n t. t.1) (lane_of (Some s.view) l).made g.made;
            }),
      )

  pub ends_at : {X : Type 0} (possible : G → ℕ → ℕ → Type 0) (id : TableId) (key : Key G) (place : X → Place G) (seats : List X) (p : Place G) (ws : List ℕ) (xs : List (Unit {0})) (lane found : ℕ) (front : Option Front)
      → IsSeat id key p → Final (Seen (Keeps key possible) p.id p.me.0) ws xs
      → AllByRecursion (λ x. (l : ℕ) → l < key.lanes → IsCovered p (place x) l) seats
      → lane < key.lanes → get_elem? ws lane ≡ some found → front ≡ Some (front_of (unpacked found)) → EndsAt possible key place seats lane front
  ends_at possible id key place seats p ws xs lane found front s f covers h at e =
      let c = closes possible id key p ws xs s f lane h in
      let is : word_of ws lane ≡ unpacked found = ap unpacked (get_of ws lane found 0 at) in
      record {
        last = unpacked found;
        shows = e;
        rounds = subst (λ w. possible key.tag.value lane w.round) is c.0;
        bounds = All-from_recursion (λ x. IsBounded (unpacked found).round (view_in (place x) lane)) seats
            (all_map (λ x. (l : ℕ) → l < key.lanes → IsCovered p (place x) l) (λ x. IsBounded (unpacked found).round (view_in (place x) lane))
            (λ x k. k lane h (unpacked found).round (subst (λ w. IsBounded w.round (view_in p lane)) is c.1)) seats covers);
      }
