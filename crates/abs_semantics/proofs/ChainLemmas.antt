-- An address in a frame, followed up the activations to the one that owns it.
use Rattle.std.proofs.Common.{◌≡◌, ℕ, ◌+◌, ◌^◌, ◌≤◌, ◌==◌, ◌⊎◌, inl, inr, Bool, true, false, ◌&&◌, ◌||◌, not, List, [], ◌∷◌, ◌++◌, refl, sym, ◌∙◌, ap, subst, arith, ℤ, pos, ◌+ℤ◌}
use Rattle.std.specs.Prelude.{◌≤ℤ◌, ◌-ℤ◌, int_lt, filter, if◌then◌else◌}
use Rattle.std.specs.List.{list_any}
use Rattle.std.proofs.lemmas.Int.{ints}
use Rattle.std.proofs.lemmas.List.{append_assoc}
use Rattle.std.proofs.lemmas.Bool.{and_from, or_parts, or_right, or_left, eqb-true, eq-eqb, cond_both, false≢true, true≢false}
use Rattle.image_map.specs.declared.image.Image.{Image}
use Rattle.image_map.specs.declared.region.Activation.{Activation}
use Rattle.image_map.specs.declared.region.RegionId.{RegionId}
use Rattle.image_map.specs.declared.region.RegionId.TheVariants.{Frame, OldFrame}
use Rattle.image_map.specs.Regions.{same_region}
use Rattle.image_map.proofs.OrderLaws.{same_region-equal}
use Rattle.ia32_semantics.specs.CallModel.{AreActivations}
use Rattle.ia32_semantics.specs.State.{State}
use Rattle.alocs.proofs.CellLemmas.{int_lt_false}
use Rattle.strided.specs.Interval.{Interval, IsMember}
use Rattle.vset.specs.declared.part.Part.{Part}
use Rattle.vset.specs.World.{ActivationAt, region_of, is_called}
use Rattle.abs_semantics.specs.declared.parts.Link.{Link}
use Rattle.abs_semantics.specs.States.{AbsState, has_procedure}
use Rattle.abs_semantics.specs.StandsFor.{IsAboveAll, IsLinked}
use Rattle.abs_semantics.specs.Resolve.{links_from, is_empty, is_below_callee, frame_verdict, verdict_in, verdict, parent_regions, links_of_region, Met, is_listed}
use Rattle.abs_semantics.specs.Ownership.{IsKnown, IsOwnedAt}
use Rattle.abs_semantics.proofs.StackLemmas.{base_bounds, chain_of, newer_below, raised, above_both}
use Rattle.abs_semantics.proofs.VerdictLemmas.{FrameFacts}
use Rattle.abs_semantics.proofs.LevelLemmas.{IsAmong, among_filter, IsMet}

-- -- Lists of activations

-- a list has no last element, or it has one
pub last_split : (newer : List Activation) → (newer ≡ []) ⊎ ((front : List Activation) × (c : Activation) × (newer ≡ front ++ (c ∷ [])))
last_split [] = inl refl
last_split (n ∷ newer) = inr (longer (last_split newer))
  where
    longer : (newer ≡ []) ⊎ ((front : List Activation) × (c : Activation) × (newer ≡ front ++ (c ∷ []))) → (front : List Activation) × (c : Activation) × (n ∷ newer ≡ front ++ (c ∷ []))
    longer (inl none) = ([], n, ap (λ l. n ∷ l) none)
    longer (inr last) = (n ∷ last.0, last.1, ap (λ l. n ∷ l) last.2)

called_last : (q : ℕ) (newer : List Activation) (x : Activation) → x.callee ≡ q → is_called q (newer ++ (x ∷ [])) ≡ true
called_last q [] x is = or_left (x.callee == q) false (eq-eqb x.callee q is)
called_last q (n ∷ newer) x is = or_right (n.callee == q) (is_called q (newer ++ (x ∷ []))) (called_last q newer x is)

-- -- Links

-- a link of a pair of activations
pub record Joins (a : AbsState) (child : ℕ) (aged : Bool) (parent : ℕ) (distance : ℤ) : Type 0 where
  pub link : Link
  pub listed : IsAmong link (links_from a child aged)
  pub child_is : link.child ≡ child
  pub parent_is : link.parent ≡ parent
  pub within : IsMember distance link.off

module _ (child : ℕ) (aged : Bool) (parent : ℕ) (distance : ℤ) where
  abbrev of_child : Link → Bool
  of_child l = l.child == child && (if aged then l.aged else not l.aged)

  of_age : (t u : Bool) → t ≡ u → (if u then t else not t) ≡ true
  of_age true u is = subst (λ v. (if v then true else not true) ≡ true) is refl
  of_age false u is = subst (λ v. (if v then false else not false) ≡ true) is refl

  linked : (ls : List Link) → IsLinked ls child aged parent distance → (l : Link) × IsAmong l (filter of_child ls) × (l.child ≡ child) × (l.parent ≡ parent) × IsMember distance l.off
  linked [] h = absurd h
  linked (l ∷ ls) (inl is) =
      (l, among_filter of_child l (l ∷ ls) (inl refl) (and_from (l.child == child) (if aged then l.aged else not l.aged) (eq-eqb l.child child is.0) (of_age l.aged aged is.1)), is.0, is.2, is.3)
  linked (l ∷ ls) (inr later) =
      let rest = linked ls later in
      (rest.0, cond_both (of_child l) (l ∷ filter of_child ls) (filter of_child ls) (IsAmong rest.0) (λ _. inr rest.1) (λ _. rest.1), rest.2, rest.3, rest.4)

  pub joins : (a : AbsState) → IsLinked a.links child aged parent distance → Joins a child aged parent distance
  joins a h = let found = linked a.links h in record { link = found.0; listed = found.1; child_is = found.2; parent_is = found.3; within = found.4 }

  -- the interval begins behind the end of the child's return slot
  linked_above : (si : Interval) (ls : List Link) → IsLinked ls child aged parent distance → list_any (λ (l : Link). l.parent == parent && int_lt si.lo (l.off.hi +ℤ pos 4)) ls ≡ false → (distance +ℤ pos 4) ≤ℤ si.lo
  linked_above si [] h e = absurd h
  linked_above si (l ∷ ls) (inl is) e =
      let test = (or_parts (l.parent == parent && int_lt si.lo (l.off.hi +ℤ pos 4)) (list_any (λ (l : Link). l.parent == parent && int_lt si.lo (l.off.hi +ℤ pos 4)) ls) e).0 in
      let low = int_lt_false si.lo (l.off.hi +ℤ pos 4) (second (l.parent == parent) (int_lt si.lo (l.off.hi +ℤ pos 4)) test (eq-eqb l.parent parent is.2)) in
      let top : distance ≤ℤ l.off.hi = is.3.in_range in
      omega (arith, ints)
    where
      second : (t u : Bool) → (t && u) ≡ false → t ≡ true → u ≡ false
      second true u e is = e
      second false u e is = absurd (false≢true is)
  linked_above si (l ∷ ls) (inr later) e =
      linked_above si ls later (or_parts (l.parent == parent && int_lt si.lo (l.off.hi +ℤ pos 4)) (list_any (λ (l : Link). l.parent == parent && int_lt si.lo (l.off.hi +ℤ pos 4)) ls) e).1

pub no_link : (a : AbsState) (child : ℕ) (aged : Bool) (l : Link) → IsAmong l (links_from a child aged) → is_empty (links_from a child aged) ≡ true → ⊥
no_link a child aged l listed e = none (links_from a child aged) listed e
  where
    none : (ls : List Link) → IsAmong l ls → is_empty ls ≡ true → ⊥
    none [] h e = h
    none (k ∷ ls) h e = false≢true e

-- -- Regions of activations

pub frame_verdict_is : (a : AbsState) (p len n q : ℕ) (si : Interval) (aged : Bool) → verdict_in a p len n si (if aged then OldFrame q else Frame q) ≡ frame_verdict a p len n q aged si
frame_verdict_is a p len n q si true = refl
frame_verdict_is a p len n q si false = refl

pub frame_links_are : (a : AbsState) (q : ℕ) (aged : Bool) → links_of_region a (if aged then OldFrame q else Frame q) ≡ links_from a q aged
frame_links_are a q true = refl
frame_links_are a q false = refl

-- -- Following

-- what is met, listed, and owns the bytes
pub record Found (a : AbsState) (p : ℕ) (lane : ℕ) (s : State) (at count len : ℕ) (ms : List Met) : Type 0 where
  pub followed : ℕ
  pub place : Part
  pub met : IsMet followed place ms
  pub listed : is_listed (verdict a p len followed place) ≡ true
  pub owned : IsOwnedAt lane s at count place

module _ (image : Image) (lane : ℕ) (a : AbsState) (p : ℕ) (s : State) (known : IsKnown image lane a p s) where
  -- the newest activation of the running procedure is the newest of all
  none_newer : (newer : List Activation) (x : Activation) (older : List Activation) → s.activations ≡ newer ++ (x ∷ older) → is_called x.callee newer ≡ false → x.callee ≡ p → newer ≡ []
  none_newer [] x older split alone is = refl
  none_newer (n ∷ newer) x older split alone is =
      let first : known.newest ≡ n = (let both : known.newest ∷ known.others ≡ n ∷ (newer ++ (x ∷ older)) = sym known.activations ∙ split in cc) in
      let runs : n.callee ≡ x.callee = ap (λ (y : Activation). y.callee) (sym first) ∙ known.runs ∙ sym is in
      absurd (true≢false (sym (eq-eqb n.callee x.callee runs) ∙ (or_parts (n.callee == x.callee) (is_called x.callee newer) alone).0))

  module _ (newer : List Activation) (x : Activation) (older : List Activation) (split : s.activations ≡ newer ++ (x ∷ older)) where
    abbrev aged : Bool
    aged = is_called x.callee newer

    pub bounds : (x.base ≤ s.slot) × (s.slot ≤ x.base + 2 ^ 20)
    bounds = base_bounds image s.memory s.slot x older (chain_of image s.memory s.slot newer x older (subst (AreActivations image s.memory s.slot) split known.whole.activations))

    above_callee : (z : ℕ) (o : ℤ) (si : Interval) → si.lo ≤ℤ o → is_below_callee a x.callee si ≡ false → pos z ≡ pos x.base +ℤ o → IsAboveAll z newer
    above_callee z o si low e is = by_last (last_split newer)
      where
        by_last : (newer ≡ []) ⊎ ((front : List Activation) × (c : Activation) × (newer ≡ front ++ (c ∷ []))) → IsAboveAll z newer
        by_last (inl none) = subst (IsAboveAll z) (sym none) tt
        by_last (inr last) =
            let front = last.0 in
            let c = last.1 in
            let again : s.activations ≡ front ++ (c ∷ x ∷ older) = split ∙ ap (λ l. l ++ (x ∷ older)) last.2 ∙ append_assoc front (c ∷ []) (x ∷ older) in
            let below = linked_above c.callee (is_called c.callee front) x.callee (pos c.base -ℤ pos x.base) si a.links (known.stands.links front older c x again) e in
            let here : c.base + 4 ≤ z = omega (arith, ints) in
            let before = newer_below image s.memory s.slot front c (x ∷ older) (subst (AreActivations image s.memory s.slot) again known.whole.activations) in
            subst (IsAboveAll z) (sym last.2) (above_both z front (c ∷ []) (raised c.base z front (omega arith) before) (here, tt))

    -- the lower end of a range that isn't refused
    pub lower : (z : ℕ) (o : ℤ) (si : Interval) (len n : ℕ) → si.lo ≤ℤ o → pos z ≡ pos x.base +ℤ o → FrameFacts a p len n x.callee aged si → IsAboveAll z newer
    lower z o si len n low is facts = by_test (aged || not (x.callee == p)) refl
      where
        newest : (t u : Bool) → t ≡ aged → u ≡ (x.callee == p) → (t || not u) ≡ false → IsAboveAll z newer
        newest true u t_is u_is e = absurd (true≢false e)
        newest false true t_is u_is e = subst (IsAboveAll z) (sym (none_newer newer x older split (sym t_is) (eqb-true x.callee p (sym u_is)))) tt
        newest false false t_is u_is e = absurd (true≢false e)

        by_test : (t : Bool) → (aged || not (x.callee == p)) ≡ t → IsAboveAll z newer
        by_test true e = above_callee z o si low (facts.above e) is
        by_test false e = newest aged (x.callee == p) refl refl e

    module _ (y : Activation) (rest : List Activation) (older_is : older ≡ y ∷ rest) (l : Link) (child : l.child ≡ x.callee) (parent : l.parent ≡ y.callee) (r : RegionId) (r_is : r ≡ (if aged then OldFrame x.callee else Frame x.callee)) where
      abbrev grown : Bool
      grown = is_called y.callee (newer ++ (x ∷ []))

      abbrev both_ages : List RegionId
      both_ages = if has_procedure l.parent a.older then Frame l.parent ∷ OldFrame l.parent ∷ [] else Frame l.parent ∷ []

      abbrev own_or_both : List RegionId
      own_or_both = if same_region r (Frame p) then Frame l.parent ∷ [] else both_ages

      split_on : s.activations ≡ (newer ++ (x ∷ [])) ++ (y ∷ rest)
      split_on = split ∙ ap (λ l. newer ++ (x ∷ l)) older_is ∙ sym (append_assoc newer (x ∷ []) (y ∷ rest))

      ages : (t : Bool) → grown ≡ t → IsAmong (if t then OldFrame y.callee else Frame y.callee) both_ages
      ages true called =
          let has : has_procedure l.parent a.older ≡ true = ap (λ q. has_procedure q a.older) parent ∙ known.stands.older (newer ++ (x ∷ [])) rest y split_on called in
          subst (λ t. IsAmong (OldFrame y.callee) (if t then Frame l.parent ∷ OldFrame l.parent ∷ [] else Frame l.parent ∷ [])) (sym has) (inr (inl (ap (λ q. OldFrame q) parent)))
      ages false alone =
          cond_both (has_procedure l.parent a.older) (Frame l.parent ∷ OldFrame l.parent ∷ []) (Frame l.parent ∷ []) (IsAmong (Frame y.callee)) (λ _. inl (ap (λ q. Frame q) parent)) (λ _. inl (ap (λ q. Frame q) parent))

      -- the running procedure's activation is the newest, so its parent has one newer activation
      is_own : (t : Bool) → aged ≡ t → (if t then OldFrame x.callee else Frame x.callee) ≡ Frame p → newer ≡ []
      is_own true called e = absurd (cc)
      is_own false alone e = none_newer newer x older split alone (cc)

      own : same_region r (Frame p) ≡ true → (l.parent == l.child) ≡ false → IsAmong (if grown then OldFrame y.callee else Frame y.callee) (Frame l.parent ∷ [])
      own same other =
          let none = is_own aged refl (sym r_is ∙ same_region-equal r (Frame p) same) in
          let apart : (x.callee == y.callee) ≡ false = differ (λ is. true≢false (sym (eq-eqb l.parent l.child (parent ∙ sym is ∙ sym child)) ∙ other)) (x.callee == y.callee) refl in
          let alone : grown ≡ false = ap (λ l. is_called y.callee (l ++ (x ∷ []))) none ∙ ap (λ t. t || false) apart in
          subst (λ t. IsAmong (if t then OldFrame y.callee else Frame y.callee) (Frame l.parent ∷ [])) (sym alone) (inl (ap (λ q. Frame q) parent))
        where
          differ : (x.callee ≡ y.callee → ⊥) → (t : Bool) → (x.callee == y.callee) ≡ t → t ≡ false
          differ none true is = absurd (none (eqb-true x.callee y.callee is))
          differ none false is = refl

      by_own : (l.parent == l.child) ≡ false → (t : Bool) → same_region r (Frame p) ≡ t → IsAmong (if grown then OldFrame y.callee else Frame y.callee) (if t then Frame l.parent ∷ [] else both_ages)
      by_own other true same = own same other
      by_own other false apart = ages grown refl

      by_same : (t : Bool) → (l.parent == l.child) ≡ t → IsAmong (if grown then OldFrame y.callee else Frame y.callee) (if t then OldFrame l.parent ∷ [] else own_or_both)
      by_same true same =
          let called : grown ≡ true = called_last y.callee newer x (sym child ∙ sym (eqb-true l.parent l.child same) ∙ parent) in
          subst (λ t. IsAmong (if t then OldFrame y.callee else Frame y.callee) (OldFrame l.parent ∷ [])) (sym called) (inl (ap (λ q. OldFrame q) parent))
      by_same false other = by_own other (same_region r (Frame p)) refl

      -- the parent's region is one of those that it may be
      pub parent_region : IsAmong (region_of lane (ActivationAt (newer ++ (x ∷ [])) y rest)) (parent_regions a p r l)
      parent_region = by_same (l.parent == l.child) refl
