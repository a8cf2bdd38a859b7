-- Making two seats one, and beginning a new one, keep the rule.
use Rattle.std.proofs.Common.{◌≡◌, ◌≢◌, ℕ, zero, suc, ◌<◌, ◌≤◌, ◌⊎◌, ⊎_elim, inl, inr, Bool, true, false, cond, Option, Some, None, List, [], ◌∷◌, ◌++◌, length, replicate, get_or, set, refl, sym, ap, ◌∙◌, subst, arith}
use Rattle.std.specs.Prelude.{nat_lt}
use mathlib.Core.Option.{some}
use lib.ListN.{get_elem?, length-replicate, get_or-replicate}
use Rattle.std.proofs.lemmas.Option.{none-some, same_Some}
use Rattle.std.specs.List.{AllByRecursion}
use Rattle.atomic_table.specs.Table.{State, Joins, Splits}
use Rattle.atomic_table.specs.Seated.{TableId}
use Rattle.atomic_table.proofs.Lists.{at_set, at_snoc, set_again}
use Rattle.round_core.specs.declared.word.Word.{Word}
use Rattle.round_core.specs.Laws.{IsNoNewer}
use Rattle.round_slots.specs.declared.view.LaneView.{LaneView}
use Rattle.round_slots.specs.declared.view.Known.{Known}
use Rattle.round_slots.specs.declared.view.Key.{Key}
use Rattle.round_slots.specs.View.{no_view, lane_of}
use Rattle.round_slots.specs.Rule.{HasNoRepeat, AreApart, AgreesWith, IsApart, word_of, Knows, Keeps}
use Rattle.round_slots.specs.Seats.{Place, HasSeen, Sits, IsRising}
use Rattle.round_slots.specs.Joins.{newest_from, later_seen, joined_lane, gathered_lane, merged, merged_views, joined, fresh}
use Rattle.round_slots.proofs.ListLemmas.{all_append, no_repeat_append}
use Rattle.round_slots.proofs.RuleLemmas.{is_apart_sym}

pub merged_length : (f : LaneView → LaneView → LaneView) (xs ys : List LaneView) → length (merged f xs ys) ≡ length xs
merged_length f [] ys = refl
merged_length f (a ∷ xs) [] = refl
merged_length f (a ∷ xs) (b ∷ ys) = let h = merged_length f xs ys in omega (arith, h)

pub merged_at : (f : LaneView → LaneView → LaneView) (xs ys : List LaneView) (k : ℕ) (d : LaneView) → k < length xs → length xs ≡ length ys → get_or (merged f xs ys) k d ≡ f (get_or xs k d) (get_or ys k d)
merged_at f [] ys k d h e = absurd (omega arith)
merged_at f (a ∷ xs) [] k d h e = absurd (omega arith)
merged_at f (a ∷ xs) (b ∷ ys) zero d h e = refl
merged_at f (a ∷ xs) (b ∷ ys) (suc k) d h e = merged_at f xs ys k d (omega arith) (omega arith)

module _ {G : Type 0} (possible : G → ℕ → ℕ → Type 0) (key : Key G) where
  -- what a way to join two views of a lane has to keep
  abbrev pub IsMerge : (LaneView → LaneView → LaneView) → Type 0
  IsMerge f = (w : Word) (a b : LaneView) → 1 < key.seats → AgreesWith key.seats w a → AgreesWith key.seats w b → IsApart a b
      → AgreesWith key.seats w (f a b) × ((d : LaneView) → IsApart a d → IsApart b d → IsApart (f a b) d)

  module _ (f : LaneView → LaneView → LaneView) (m : IsMerge f) (s : State (Unit {0}) (Option (Known G))) (r : Keeps key possible s) (i j : ℕ) (v w : Known G)
      (at : get_elem? s.views i ≡ some (Some v)) (ne : i ≢ j) (other : get_elem? s.views j ≡ some (Some w)) where
    abbrev c : Known G
    c = record v { lanes = merged f v.lanes w.lanes }

    a_knows : Knows key s.words v
    a_knows = r.knows i v at

    b_knows : Knows key s.words w
    b_knows = r.knows j w other

    lane_is : (l : ℕ) → l < key.lanes → lane_of (Some c) l ≡ f (lane_of (Some v) l) (lane_of (Some w) l)
    lane_is l h = merged_at f v.lanes w.lanes l no_view (omega (arith, a_knows.lanes)) (a_knows.lanes ∙ sym b_knows.lanes)

    merges : (l : ℕ) → l < key.lanes → AgreesWith key.seats (word_of s.words l) (f (lane_of (Some v) l) (lane_of (Some w) l))
        × ((d : LaneView) → IsApart (lane_of (Some v) l) d → IsApart (lane_of (Some w) l) d → IsApart (f (lane_of (Some v) l) (lane_of (Some w) l)) d)
    merges l h = let q = r.apart i j v w ne at other in m (word_of s.words l) (lane_of (Some v) l) (lane_of (Some w) l) q.0 (a_knows.agrees l h) (b_knows.agrees l h) (q.1 l h)

    own : Knows key s.words c
    own = record {
      tag = a_knows.tag;
      seats = a_knows.seats;
      lanes = merged_length f v.lanes w.lanes ∙ a_knows.lanes;
      agrees = λ l h. subst (AgreesWith key.seats (word_of s.words l)) (sym (lane_is l h)) (merges l h).0;
    }

    abbrev after : List (Option (Known G))
    after = set (set s.views i (Some c)) j None

    -- the view of a seat after the join is the joined one or one of a third seat
    which : (k : ℕ) (x : Known G) → get_elem? after k ≡ some (Some x) → ((k ≡ i) × (c ≡ x)) ⊎ ((k ≢ i) × (k ≢ j) × (get_elem? s.views k ≡ some (Some x)))
    which k x e = ⊎_elim
        (λ t. absurd (none-some x t.1))
        (λ t. ⊎_elim (λ u. inl (u.0, same_Some c x u.1)) (λ u. inr (u.0, t.0, u.1)) (at_set s.views i k (Some c) (Some x) t.1))
        (at_set (set s.views i (Some c)) j k None (Some x) e)

    beside : (k : ℕ) (x : Known G) → k ≢ i → k ≢ j → get_elem? s.views k ≡ some (Some x) → (1 < key.seats) × ((l : ℕ) → l < key.lanes → IsApart (lane_of (Some c) l) (lane_of (Some x) l))
    beside k x ni nj e = let p = r.apart i k v x (λ z. ni (sym z)) at e in let q = r.apart j k w x (λ z. nj (sym z)) other e in
        (p.0, λ l h. subst (λ z. IsApart z (lane_of (Some x) l)) (sym (lane_is l h)) ((merges l h).1 (lane_of (Some x) l) (p.1 l h) (q.1 l h)))

    joins_keep : Keeps key possible record { words = s.words; homes = s.homes; views = after }
    joins_keep = record {
      lanes = r.lanes;
      rounds = r.rounds;
      knows = λ k x e. ⊎_elim (λ t. subst (Knows key s.words) t.1 own) (λ t. r.knows k x t.2) (which k x e);
      apart = λ k l x y nkl e g. ⊎_elim
          (λ t. ⊎_elim (λ u. absurd (nkl (t.0 ∙ sym u.0)))
          (λ u. subst (λ z. (1 < key.seats) × ((n : ℕ) → n < key.lanes → IsApart (lane_of (Some z) n) (lane_of (Some y) n))) t.1 (beside l y u.0 u.1 u.2))
          (which l y g))
          (λ t. ⊎_elim
          (λ u. subst (λ z. (1 < key.seats) × ((n : ℕ) → n < key.lanes → IsApart (lane_of (Some x) n) (lane_of (Some z) n))) u.1
          (let q = beside k x t.0 t.1 t.2 in (q.0, λ n h. is_apart_sym _ _ (q.1 n h))))
          (λ u. r.apart k l x y nkl t.2 u.2)
          (which l y g))
          (which k x e);
    }

  pub joins_allowed : (f : LaneView → LaneView → LaneView) (m : IsMerge f) (i j : ℕ) (o p : Option (Known G)) (v w : Known G) → o ≡ Some v → p ≡ Some w
      → Joins (Keeps key possible) i o j p (merged_views f o p) None
  joins_allowed f m i j o p v w is_v is_w s r at ne other =
      let e : merged_views f o p ≡ Some (record v { lanes = merged f v.lanes w.lanes }) = λ k. merged_views f (is_v k) (is_w k) in
      let there = ⊎_elim (λ t. absurd (ne t.0)) (λ t. t.1) (at_set s.views i j (merged_views f o p) p other) in
      subst (λ z. Keeps key possible record { words = s.words; homes = s.homes; views = set (set s.views i z) j None }) (sym e)
      (joins_keep f m s r i j v w (at ∙ ap some is_v) (λ z. ne (sym z)) (there ∙ ap some is_w))

  -- which of two lists is kept satisfies what both do
  kept_seen : (P : List Word → Type 0) (ws vs : List Word) → P ws → P vs → P (later_seen ws vs)
  kept_seen P ws vs p q = at (nat_lt (newest_from 0 ws) (newest_from 0 vs)) where
    at : (b : Bool) → P (cond b vs ws)
    at true = q
    at false = p

  merge_parts : (w : Word) (a b c : LaneView) → 1 < key.seats → AgreesWith key.seats w a → AgreesWith key.seats w b → IsApart a b
      → c.made ≡ a.made ++ b.made → c.turn ≡ a.turn → AllByRecursion (λ x. IsNoNewer x w) c.seen
      → AgreesWith key.seats w c × ((d : LaneView) → IsApart a d → IsApart b d → IsApart c d)
  merge_parts w a b c many g h t is_made is_turn seen = (
    record {
      seen = seen;
      made = subst (AllByRecursion (λ n. (1 ≤ n) × (n ≤ w.round))) (sym is_made) (all_append _ a.made b.made g.made h.made);
      distinct = subst HasNoRepeat (sym is_made) (no_repeat_append a.made b.made g.distinct h.distinct t.made);
      turn = λ x e. g.turn x (sym is_turn ∙ e);
      only = λ one. absurd (omega (arith, one, many));
    },
    λ d p q. record {
      turns = λ x y e k. p.turns x y (sym is_turn ∙ e) k;
      made = subst (λ ms. AreApart ms d.made) (sym is_made) (all_append _ a.made b.made p.made q.made);
    },
  )

  pub joined_merges : IsMerge joined_lane
  joined_merges w a b many g h t = merge_parts w a b (joined_lane a b) many g h t refl refl (kept_seen (AllByRecursion (λ x. IsNoNewer x w)) a.seen b.seen g.seen h.seen)

  pub gathered_merges : IsMerge gathered_lane
  gathered_merges w a b many g h t = merge_parts w a b (gathered_lane a b) many g h t refl refl (all_append (λ x. IsNoNewer x w) a.seen b.seen g.seen h.seen)

  -- a seat after a join
  module _ (id : TableId) where
    pub sits_joined : (old other new : Place G) → Sits possible id key old → Sits possible id key other → new.table_id ≡ old.table_id
        → new.me ≡ (joined old.me.0 other.me.0, old.me.1) → Sits possible id key new
    sits_joined old other new s t same me = record {
      table = same ∙ s.table;
      empty = ap (λ m. m.1) me ∙ s.empty;
      view = v;
      is_view = is;
      tag = s.tag;
      seats = s.seats;
      lanes = merged_length joined_lane s.view.lanes t.view.lanes ∙ s.lanes;
      seen = λ k lt. subst (λ o. HasSeen possible key.tag.value k (lane_of o k)) (sym is)
          (subst (HasSeen possible key.tag.value k) (sym (merged_at joined_lane s.view.lanes t.view.lanes k no_view (omega (arith, s.lanes)) (s.lanes ∙ sym t.lanes)))
          (both_seen k (lane_of (Some s.view) k) (lane_of (Some t.view) k)
          (subst (λ o. HasSeen possible key.tag.value k (lane_of o k)) s.is_view (s.seen k lt))
          (subst (λ o. HasSeen possible key.tag.value k (lane_of o k)) t.is_view (t.seen k lt))));
    } where
      v : Known G
      v = record s.view { lanes = merged joined_lane s.view.lanes t.view.lanes }

      is : new.me.0 ≡ Some v
      is = ap (λ m. m.0) me ∙ (λ j. joined (s.is_view j) (t.is_view j))

      both_seen : (k : ℕ) (a b : LaneView) → HasSeen possible key.tag.value k a → HasSeen possible key.tag.value k b → HasSeen possible key.tag.value k (joined_lane a b)
      both_seen k a b p q = record {
        rising = kept_seen IsRising a.seen b.seen p.rising q.rising;
        rounds = kept_seen (AllByRecursion (λ x. possible key.tag.value k x.round)) a.seen b.seen p.rounds q.rounds;
      }

  -- a seat that has done nothing agrees with any word, in a store of more seats than one
  new_agrees : (w : Word) → 1 < key.seats → AgreesWith key.seats w no_view
  new_agrees w many = record { seen = tt; made = tt; distinct = tt; turn = λ x e. absurd (none-some x e); only = λ one. absurd (omega (arith, one, many)) }

  pub adds_allowed : (i : ℕ) (o : Option (Known G)) (v : Known G) → o ≡ Some v → 1 < v.seats → Splits (Keeps key possible) i o o (fresh o)
  adds_allowed i o v is many s r at = subst (λ z. Keeps key possible record { words = s.words; homes = s.homes; views = z ++ (fresh o ∷ []) }) (sym (set_again s.views i o at))
      (subst (λ z. Keeps key possible record { words = s.words; homes = s.homes; views = s.views ++ (z ∷ []) }) (ap fresh (sym is)) keeps) where
        old : Knows key s.words v
        old = r.knows i v (at ∙ ap some is)

        more : 1 < key.seats
        more = let e = old.seats in omega arith

        n : Known G
        n = record v { lanes = replicate (length v.lanes) no_view }

        lane_is : (l : ℕ) → l < key.lanes → lane_of (Some n) l ≡ no_view
        lane_is l h = get_or-replicate (length v.lanes) l no_view no_view (let e = old.lanes in omega arith)

        own : Knows key s.words n
        own = record {
          tag = old.tag;
          seats = old.seats;
          lanes = length-replicate (length v.lanes) no_view ∙ old.lanes;
          agrees = λ l h. subst (AgreesWith key.seats (word_of s.words l)) (sym (lane_is l h)) (new_agrees (word_of s.words l) more);
        }

        beside : (x : Known G) → (l : ℕ) → l < key.lanes → IsApart (lane_of (Some n) l) (lane_of (Some x) l)
        beside x l h = subst (λ z. IsApart z (lane_of (Some x) l)) (sym (lane_is l h)) (record { turns = λ y z e k. none-some y e; made = tt })

        keeps : Keeps key possible record { words = s.words; homes = s.homes; views = s.views ++ (Some n ∷ []) }
        keeps = record {
          lanes = r.lanes;
          rounds = r.rounds;
          knows = λ k x e. ⊎_elim (λ t. r.knows k x t) (λ t. subst (Knows key s.words) (same_Some n x t) own) (at_snoc s.views (Some n) (Some x) k e);
          apart = λ k l x y ne e g. ⊎_elim
              (λ t. ⊎_elim (λ u. r.apart k l x y ne t u)
              (λ u. subst (λ z. (1 < key.seats) × ((m : ℕ) → m < key.lanes → IsApart (lane_of (Some x) m) (lane_of (Some z) m))) (same_Some n y u)
              (more, λ m h. is_apart_sym (lane_of (Some n) m) (lane_of (Some x) m) (beside x m h)))
              (at_snoc s.views (Some n) (Some y) l g))
              (λ t. subst (λ z. (1 < key.seats) × ((m : ℕ) → m < key.lanes → IsApart (lane_of (Some z) m) (lane_of (Some y) m))) (same_Some n x t)
              (more, λ m h. beside y m h))
              (at_snoc s.views (Some n) (Some x) k e);
        }
