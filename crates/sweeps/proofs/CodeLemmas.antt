-- What single calls of the code give.
use Rattle.std.proofs.Common.{◌≡◌, ℕ, zero, suc, ◌+◌, ◌<◌, ◌≤◌, Bool, true, false, not, leb, List, [], ◌∷◌, ◌++◌, map, take, drop, length, get_or, set, replicate, refl, sym, ap, subst, ◌∙◌, arith}
use Rattle.std.specs.Prelude.{slice_get, if◌then◌else◌, is_none}
use Rattle.std.specs.List.{fold, insert, AllByRecursion}
use Rattle.std.specs.Option.{option_map_or}
use Rattle.std.proofs.lemmas.Bool.{cond-true, cond-false, le-leb, lt-leb, not-true, not-false, true≢false}
use Rattle.std.proofs.lemmas.List.{set-set, get_or-set_same, map-append, map-set, set-get_or, append-nil, append_assoc, take_more, take_all, drop_all, get_or_default}
use Rattle.std.proofs.lemmas.List.Elements.{filter-append}
use Rattle.std.proofs.lemmas.List.Sums.{fold-append}
use Rattle.std.proofs.lemmas.List.Edits.{map_over_more}
use Rattle.std.proofs.lemmas.Grind.{flat_map-append}
use Rattle.sweeps.specs.declared.row.Row.{Row}
use Rattle.sweeps.specs.declared.kept.Arrival.{Arrival}
use Rattle.sweeps.specs.declared.kept.Kept.{Kept}
use Rattle.sweeps.specs.declared.kept.Slot.{Slot}
use Rattle.sweeps.specs.declared.kept.Slot.TheVariants.{Idle, Due}
use Rattle.sweeps.specs.Meaning.{Meaning}
use Rattle.sweeps.specs.Sweeps.{entry_of, successors_of, widened_to, changed_to, with_state, raised, with_arrival, AreRising}
use Rattle.sweeps.specs.Kept.{rank_by, place_in, kept_table, pair_of, strangers, all_arrivals, unaimed, renewed, aimed, aimed_at, fresh, with_kept, entered}
use Rattle.sweeps.proofs.StepLemmas.{over_same, over_within, read_same}

abbrev pub idle_slot : {S : Type 0} → Slot S
idle_slot = Idle

abbrev pub due_slot : {S : Type 0} → Slot S
due_slot = Due

module _ {P S : Type 0} (m : Meaning P S) where
  -- -- A row's change

  pub topped_is : (w : Bool) (n : ℕ) (old new s : S) → 48 ≤ n → s ≡ widened_to m w n old new → m.topped old s ≡ changed_to m w n old new
  unfolding changed_to
  topped_is w n old new s late is = ap (m.topped old) is ∙ sym (cond-true (leb 48 n) _ _ (le-leb 48 n late))

  pub not_topped : (w : Bool) (n : ℕ) (old new s : S) → n < 48 → s ≡ widened_to m w n old new → s ≡ changed_to m w n old new
  unfolding changed_to
  not_topped w n old new s early is = is ∙ sym (cond-false (leb 48 n) _ _ (lt-leb 48 n early))

  pub same_raised : (w : Bool) (r : Row P S) (j : S) → m.same r.state j ≡ true → r ≡ raised m w r j
  unfolding raised
  same_raised w r j same = sym (cond-true (m.same r.state j) _ _ same)

  pub change_raised : (w : Bool) (r next : Row P S) (j s : S) (n : ℕ) → n ≡ suc r.changes → m.same r.state j ≡ false → s ≡ changed_to m w n r.state j → next ≡ with_state m r s → next ≡ raised m w r j
  unfolding raised
  change_raised w r next j s n one differs is with = with ∙ ap (with_state m r) (is ∙ ap (λ k. changed_to m w k r.state j) one) ∙ sym (cond-false (m.same r.state j) _ _ differs)

  -- -- What comes to new places

  abbrev pub stands : P → List (Row P S) → ℕ → Bool
  stands p rows n = option_map_or (λ r. not (m.before p r.place)) (slice_get rows n) false

  pub stands_within : (p : P) (rows : List (Row P S)) (n : ℕ) → stands p rows n ≡ true → n < length rows
  stands_within p [] n here = absurd (true≢false (sym here))
  stands_within p (r ∷ rows) zero here = omega arith
  stands_within p (r ∷ rows) (suc n) here = let lt = stands_within p rows n here in omega arith

  pub joins_there : (rows : List (Row P S)) (p : P) (s : S) (n : ℕ) (r : Row P S) → n ≡ rank_by (λ r. m.before r.place p) rows → stands p rows n ≡ true → r ≡ get_or rows n r
      → set rows n (record r { state = m.join r.state s }) ≡ with_arrival m rows (p, s)
  unfolding with_arrival rank_by
  joins_there [] p s n r at here is = absurd (true≢false (sym here))
  joins_there (x ∷ rows) p s n r at here is = by (m.before x.place p) n at here is (joins_there rows p s)
    where
      by : (b : Bool) (n : ℕ) → n ≡ (if b then suc (rank_by (λ r. m.before r.place p) rows) else 0) → stands p (x ∷ rows) n ≡ true → r ≡ get_or (x ∷ rows) n r
          → ((n : ℕ) (r : Row P S) → n ≡ rank_by (λ r. m.before r.place p) rows → stands p rows n ≡ true → r ≡ get_or rows n r → set rows n (record r { state = m.join r.state s }) ≡ with_arrival m rows (p, s))
          → set (x ∷ rows) n (record r { state = m.join r.state s })
          ≡ (if b then x ∷ with_arrival m rows (p, s) else (if m.before p x.place then record { place = p; state = s; changes = 1 } ∷ x ∷ rows else record x { state = m.join x.state s } ∷ rows))
      by true zero at here is rest = absurd (omega (arith, at))
      by true (suc n) at here is rest = ap (λ l. x ∷ l) (rest n r (omega (arith, at)) here is)
      by false zero at here is rest = ap (λ (y : Row P S). record y { state = m.join y.state s } ∷ rows) is ∙ sym (cond-false (m.before p x.place) _ _ (not-true (m.before p x.place) here))
      by false (suc n) at here is rest = absurd (omega (arith, at))

  pub enters_there : (rows : List (Row P S)) (p : P) (s : S) (n : ℕ) → n ≡ rank_by (λ r. m.before r.place p) rows → stands p rows n ≡ false
      → insert rows n (record { place = p; state = s; changes = 1 }) ≡ with_arrival m rows (p, s)
  unfolding with_arrival rank_by
  enters_there [] p s n at here = ap (λ k. insert [] k (record { place = p; state = s; changes = 1 })) at
  enters_there (x ∷ rows) p s n at here = by (m.before x.place p) n at here (enters_there rows p s)
    where
      by : (b : Bool) (n : ℕ) → n ≡ (if b then suc (rank_by (λ r. m.before r.place p) rows) else 0) → stands p (x ∷ rows) n ≡ false
          → ((n : ℕ) → n ≡ rank_by (λ r. m.before r.place p) rows → stands p rows n ≡ false → insert rows n (record { place = p; state = s; changes = 1 }) ≡ with_arrival m rows (p, s))
          → insert (x ∷ rows) n (record { place = p; state = s; changes = 1 })
          ≡ (if b then x ∷ with_arrival m rows (p, s) else (if m.before p x.place then record { place = p; state = s; changes = 1 } ∷ x ∷ rows else record x { state = m.join x.state s } ∷ rows))
      by true zero at here rest = absurd (omega (arith, at))
      by true (suc n) at here rest = ap (λ l. x ∷ l) (rest n (omega (arith, at)) here)
      by false zero at here rest = sym (cond-true (m.before p x.place) _ _ (not-false (m.before p x.place) here))
      by false (suc n) at here rest = absurd (omega (arith, at))

  -- -- New rows

  put_there : (ks : List (Kept P S)) (r : Row P S) (n : ℕ) → n ≡ rank_by (λ k. m.before k.row.place r.place) ks → insert ks n (fresh r) ≡ with_kept m ks r
  unfolding with_kept rank_by
  put_there [] r n at = ap (λ k. insert [] k (fresh r)) at
  put_there (k ∷ ks) r n at = by (m.before k.row.place r.place) n at (put_there ks r)
    where
      by : (b : Bool) (n : ℕ) → n ≡ (if b then suc (rank_by (λ k. m.before k.row.place r.place) ks) else 0) → ((n : ℕ) → n ≡ rank_by (λ k. m.before k.row.place r.place) ks → insert ks n (fresh r) ≡ with_kept m ks r)
          → insert (k ∷ ks) n (fresh r) ≡ (if b then k ∷ with_kept m ks r else fresh r ∷ k ∷ ks)
      by true zero at rest = absurd (omega (arith, at))
      by true (suc n) at rest = ap (λ l. k ∷ l) (rest n (omega (arith, at)))
      by false zero at rest = refl
      by false (suc n) at rest = absurd (omega (arith, at))

  pub puts_there : (ks ls : List (Kept P S)) (r : Row P S) (n : ℕ) → n ≡ rank_by (λ k. m.before k.row.place r.place) ks → ls ≡ insert ks n (fresh r) → ls ≡ with_kept m ks r
  puts_there ks ls r n at is = is ∙ put_there ks r n at

  -- -- Strangers

  pub strangers_append : (xs ys : List (Arrival P S)) → strangers (xs ++ ys) ≡ strangers xs ++ strangers ys
  strangers_append xs ys = ap (map pair_of) (filter-append (λ a. is_none a.target) xs ys) ∙ map-append pair_of _ _

  pub met_more : (rows : List (Row P S)) (list : List (Arrival P S)) (i : ℕ) (a : Arrival P S) (now next : List (Row P S)) → i < length list → a ≡ get_or list i a → now ≡ fold (with_arrival m) rows (strangers (take i list))
      → next ≡ fold (with_arrival m) now (strangers (a ∷ [])) → next ≡ fold (with_arrival m) rows (strangers (take (i + 1) list))
  met_more rows list i a now next within is before after =
      after ∙ ap (λ l. fold (with_arrival m) l (strangers (a ∷ []))) before ∙ sym (fold-append (with_arrival m) rows (strangers (take i list)) (strangers (a ∷ [])))
      ∙ ap (fold (with_arrival m) rows) (sym (strangers_append (take i list) (a ∷ [])) ∙ ap strangers (ap (λ b. take i list ++ b ∷ []) is ∙ sym (take_more list i a within)))

  pub met_list : (rows : List (Row P S)) (ks : List (Kept P S)) (i : ℕ) (k : Kept P S) (now next : List (Row P S)) → i < length ks → k ≡ get_or ks i k → now ≡ fold (with_arrival m) rows (strangers (all_arrivals (take i ks)))
      → next ≡ fold (with_arrival m) now (strangers k.arrivals) → next ≡ fold (with_arrival m) rows (strangers (all_arrivals (take (i + 1) ks)))
  met_list rows ks i k now next within is before after =
      after ∙ ap (λ l. fold (with_arrival m) l (strangers k.arrivals)) before ∙ sym (fold-append (with_arrival m) rows (strangers (all_arrivals (take i ks))) (strangers k.arrivals))
      ∙ ap (fold (with_arrival m) rows) (sym (strangers_append (all_arrivals (take i ks)) k.arrivals)
      ∙ ap strangers (ap (λ l. all_arrivals (take i ks) ++ l) (sym (append-nil k.arrivals)) ∙ sym (flat_map-append (λ (j : Kept P S). j.arrivals) (take i ks) (k ∷ [])) ∙ ap all_arrivals (ap (λ b. take i ks ++ b ∷ []) is ∙ sym (take_more ks i k within))))

  -- -- Successors made anew, and aimed

  pub table_stays : (T : List (P × S)) (ks ls : List (Kept P S)) (i : ℕ) → ls ≡ map (renewed m T) (take i ks) ++ drop i ks → kept_table ls ≡ kept_table ks
  table_stays T ks ls i is = ap kept_table is ∙ over_same (λ (k : Kept P S). entry_of k.row) (renewed m T) ks i (λ k. refl)

  pub renew_more : (ks ls next : List (Kept P S)) (i : ℕ) → i < length ks → ls ≡ map (renewed m (kept_table ks)) (take i ks) ++ drop i ks
      → ((d : Kept P S) → next ≡ set ls i (renewed m (kept_table ls) (get_or ls i d))) → next ≡ map (renewed m (kept_table ks)) (take (i + 1) ks) ++ drop (i + 1) ks
  renew_more [] ls next i within is sets = absurd (omega arith)
  renew_more (k ∷ ks) ls next i within is sets =
      let x = get_or ls i k in
      let here : x ≡ get_or ls i x = get_or_default ls i k x (over_within (renewed m (kept_table (k ∷ ks))) (k ∷ ks) ls i within is) in
      sets k ∙ ap (λ t. set ls i (renewed m t x)) (table_stays (kept_table (k ∷ ks)) (k ∷ ks) ls i is) ∙ map_over_more (renewed m (kept_table (k ∷ ks))) (k ∷ ks) ls i x within is here

  pub places_stay : (ps : List P) (ks ls : List (Kept P S)) (i : ℕ) → ls ≡ map (aimed m ps) (take i ks) ++ drop i ks → map place_in ls ≡ map place_in ks
  places_stay ps ks ls i is = ap (map place_in) is ∙ over_same place_in (aimed m ps) ks i (λ k. refl)

  places_set : (ls : List (Kept P S)) (i : ℕ) (x y : Kept P S) → x ≡ get_or ls i x → y.row.place ≡ x.row.place → map place_in (set ls i y) ≡ map place_in ls
  places_set ls i x y is same =
      map-set place_in ls i y ∙ ap (set (map place_in ls) i) same ∙ sym (map-set place_in ls i x) ∙ ap (λ l. map place_in l) (ap (set ls i) is ∙ set-get_or ls i x)

  pub aim_rising : (ks ls now : List (Kept P S)) (i : ℕ) (x : Kept P S) (e : List (Arrival P S)) → AreRising m (map place_in ks) → ls ≡ map (aimed m (map place_in ks)) (take i ks) ++ drop i ks → x ≡ get_or ls i x
      → now ≡ set ls i (record x { arrivals = e }) → AreRising m (map place_in now)
  aim_rising ks ls now i x e rising is here after =
      subst (AreRising m) (sym (ap (map place_in) after ∙ places_set ls i x (record x { arrivals = e }) here refl ∙ places_stay (map place_in ks) ks ls i is)) rising

  pub aim_more : (ks ls now : List (Kept P S)) (i : ℕ) (x y : Kept P S) (e list aims : List (Arrival P S)) → i < length ks → ls ≡ map (aimed m (map place_in ks)) (take i ks) ++ drop i ks → x ≡ get_or ls i x
      → now ≡ set ls i (record x { arrivals = e }) → y ≡ get_or (set ls i (record x { arrivals = e })) i y → list ≡ x.arrivals → aims ≡ map (aimed_at m (map place_in now)) list
      → set (set ls i (record x { arrivals = e })) i (record y { arrivals = aims }) ≡ map (aimed m (map place_in ks)) (take (i + 1) ks) ++ drop (i + 1) ks
  aim_more ks ls now i x y e list aims within is here after read taken aim =
      let inside = over_within (aimed m (map place_in ks)) ks ls i within is in
      let same : y ≡ record x { arrivals = e } = read ∙ get_or-set_same ls i (record x { arrivals = e }) y inside in
      let places : map place_in now ≡ map place_in ks = ap (map place_in) after ∙ places_set ls i x (record x { arrivals = e }) here refl ∙ places_stay (map place_in ks) ks ls i is in
      set-set ls i _ _ ∙ ap (set ls i) (ap (λ (z : Kept P S). record z { arrivals = aims }) same ∙ ap (λ l. record x { arrivals = l }) (aim ∙ ap (λ ps. map (aimed_at m ps) list) places ∙ ap (map (aimed_at m (map place_in ks))) taken))
      ∙ map_over_more (aimed m (map place_in ks)) ks ls i x within is here

  pub row_stays : (T : List (P × S)) (ks : List (Kept P S)) (n : ℕ) (x d : Kept P S) → n < length ks → x ≡ get_or ks n x → x.stale ≡ false → ks ≡ set ks n (renewed m T (get_or ks n d))
  row_stays T ks n x d within is still =
      let same : get_or ks n d ≡ x = get_or_default ks n d x within ∙ sym is in
      let stays : renewed m T x ≡ x = ap (λ b. record x { arrivals = (if b then map unaimed (successors_of m T (entry_of x.row)) else x.arrivals) }) still in
      sym (ap (set ks n) (ap (renewed m T) same ∙ stays ∙ is) ∙ set-get_or ks n x)

  pub row_renewed : (ks now : List (Kept P S)) (n : ℕ) (x y z d : Kept P S) (list : List (Arrival P S)) → n < length ks → x ≡ get_or ks n x → y ≡ get_or ks n y → z ≡ get_or ks n z → y.stale ≡ true → now ≡ ks
      → list ≡ map unaimed (successors_of m (kept_table now) (entry_of z.row)) → set ks n (record x { arrivals = list }) ≡ set ks n (renewed m (kept_table ks) (get_or ks n d))
  row_renewed ks now n x y z d list within is js zs stale same made =
      let yx = read_same ks n y x within js is in
      let zx = read_same ks n z x within zs is in
      let flag : x.stale ≡ true = ap (λ (k : Kept P S). k.stale) (sym yx) ∙ stale in
      let lists : list ≡ map unaimed (successors_of m (kept_table ks) (entry_of x.row)) = made ∙ ap (λ (l : List (Kept P S)). map unaimed (successors_of m (kept_table l) (entry_of z.row))) same ∙ ap (λ (k : Kept P S). map unaimed (successors_of m (kept_table ks) (entry_of k.row))) zx in
      ap (set ks n) (ap (λ l. record x { arrivals = l }) lists ∙ ap (λ b. record x { arrivals = (if b then map unaimed (successors_of m (kept_table ks) (entry_of x.row)) else x.arrivals) }) (sym flag)
      ∙ ap (renewed m (kept_table ks)) (is ∙ get_or_default ks n x d within))

  -- -- New rows, from the last one on

  pub record EnteredTo (ks : List (Kept P S)) (rows : List (Row P S)) (ls : List (Kept P S)) (left : List (Row P S)) : Type 0 where
    pub rest : List (Row P S)
    pub split : rows ≡ left ++ rest
    pub is : ls ≡ entered m ks rest

  pub enter_none : (ks : List (Kept P S)) (rows : List (Row P S)) → EnteredTo ks rows ks rows
  enter_none ks rows = record { rest = []; split = sym (append-nil rows); is = refl }

  pub enter_more : (ks : List (Kept P S)) (rows : List (Row P S)) (ls next : List (Kept P S)) (left less : List (Row P S)) (r : Row P S) → EnteredTo ks rows ls left → left ≡ less ++ r ∷ [] → next ≡ with_kept m ls r → EnteredTo ks rows next less
  enter_more ks rows ls next left less r e was put = record {
    rest = r ∷ e.rest;
    split = e.split ∙ ap (λ l. l ++ e.rest) was ∙ append_assoc less (r ∷ []) e.rest;
    is = put ∙ ap (λ l. with_kept m l r) e.is;
  }

  pub enter_all : (ks : List (Kept P S)) (rows : List (Row P S)) (ls : List (Kept P S)) (left : List (Row P S)) → EnteredTo ks rows ls left → left ≡ [] → ls ≡ entered m ks rows
  enter_all ks rows ls left e none = e.is ∙ ap (entered m ks) (sym (e.split ∙ ap (λ l. l ++ e.rest) none))

  pub rising_rest : (xs ys : List (Row P S)) → AreRising m (map (λ r. r.place) (xs ++ ys)) → AreRising m (map (λ r. r.place) ys)
  rising_rest [] ys rising = rising
  rising_rest (x ∷ xs) ys rising = rising_rest xs ys rising.1

pub all_rest : {X : Type 0} (Q : X → Type 0) (xs ys : List X) → AllByRecursion Q (xs ++ ys) → AllByRecursion Q ys
all_rest Q [] ys all = all
all_rest Q (x ∷ xs) ys all = all_rest Q xs ys all.1

-- a vector's elements after a call that was lent them as a slice
pub refilled : {X : Type 0} (n : ℕ) (xs ys : List X) → n ≡ length ys → length xs ≡ length ys → take n (ys ++ drop (length ys) xs) ≡ ys
refilled n xs ys same long =
    ap (λ l. take n (ys ++ l)) (drop_all (length ys) xs (omega (arith, long))) ∙ ap (take n) (append-nil ys) ∙ take_all n ys (omega (arith, same))

pub idle_are : {P S : Type 0} (ks : List (Kept P S)) (n : ℕ) → n ≡ length ks → replicate n (idle_slot {S = S}) ≡ map (λ k. idle_slot {S = S}) ks
idle_are {P = P} {S = S} ks n is = ap (λ k. replicate k idle_slot) is ∙ go ks
  where
    go : (ls : List (Kept P S)) → replicate (length ls) (idle_slot {S = S}) ≡ map (λ k. idle_slot {S = S}) ls
    go [] = refl
    go (k ∷ ls) = ap (λ l. idle_slot ∷ l) (go ls)

pub due_are : {P S : Type 0} (ks : List (Kept P S)) (n : ℕ) → n ≡ length ks → replicate n (due_slot {S = S}) ≡ map (λ k. due_slot {S = S}) ks
due_are {P = P} {S = S} ks n is = ap (λ k. replicate k due_slot) is ∙ go ks
  where
    go : (ls : List (Kept P S)) → replicate (length ls) (due_slot {S = S}) ≡ map (λ k. due_slot {S = S}) ls
    go [] = refl
    go (k ∷ ls) = ap (λ l. due_slot ∷ l) (go ls)
