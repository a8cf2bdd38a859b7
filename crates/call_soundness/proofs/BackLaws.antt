-- Where a return goes back to: behind each call that fits a successor stands, all with one abstract state.
use Rattle.std.proofs.Common.{◌≡◌, inl, inr, ℕ, ◌+◌, ◌%◌, ◌≤◌, ◌==◌, ◌&&◌, Bool, true, false, not, cond, List, [], ◌∷◌, Option, Some, None, refl, sym, ◌∙◌, ap, subst, arith, pos, ◌<◌}
use Rattle.std.specs.Prelude.{nat_lt, ℤ, ◌+ℤ◌, ◌-ℤ◌, ◌≤ℤ◌, int_lt, filter}
use Rattle.std.specs.List.{list_any}
use Rattle.std.proofs.lemmas.Int.{ints}
use Rattle.std.proofs.lemmas.Bool.{false≢true, true≢false, cond_both, and_from, eq-eqb, le-ltb, lt-ltb}
use Rattle.std.proofs.lemmas.Cmp.{on_equiv, nat_list_eq_equiv}
use Rattle.std.proofs.lemmas.Option.{none-some, same_Some}
use Rattle.image_map.specs.declared.image.Image.{Image}
use Rattle.image_map.specs.declared.region.Activation.{Activation}
use Rattle.image_map.specs.declared.region.Settings.{Settings}
use Rattle.ia32_semantics.specs.CallModel.{IsWhole, AreActivations}
use Rattle.ia32_semantics.specs.Machine.{Occurrence}
use Rattle.ia32_semantics.specs.Rows.{next_place}
use Rattle.ia32_semantics.specs.State.{State, word_at, AtByte}
use Rattle.alocs.proofs.CellLemmas.{int_lt_false}
use Rattle.strided.specs.Interval.{IsMember}
use Rattle.call_strings.specs.declared.context.Node.{Node}
use Rattle.call_strings.specs.NodeKeys.{same_is}
use Rattle.call_strings.specs.Nodes.{pushed, same_node, numbers_of}
use Rattle.abs_semantics.specs.declared.parts.Link.{Link}
use Rattle.abs_semantics.specs.States.{AbsState}
use Rattle.abs_semantics.specs.StandsFor.{StandsFor, IsLinked}
use Rattle.abs_semantics.proofs.LevelLemmas.{IsAmong, among_map, among_filter, among_flat}
use Rattle.abs_semantics.proofs.StackLemmas.{base_bounds}
use Rattle.abs_steps.specs.Calls as abs_calls
use Rattle.abs_steps.specs.Places.{content_at}
use Rattle.abs_steps.specs.Successors.{Placed, States, at_node, callee_node, is_zero_offset, young_links, calls_at, place_behind, goes_back_to, gone_back_to, returned_by, returned_each, successors}
use Rattle.call_soundness.specs.Calls.{IsReturned}
use Rattle.call_soundness.specs.Maps.{state_in, IsListed}
use Rattle.call_soundness.proofs.ContentLaws.{fetched_stands}
use Rattle.call_soundness.proofs.EnterLaws.{kept_slots}
use Rattle.ia32_semantics.specs.CallModel.{IsLaidOut}
use Rattle.image_map.specs.Whole.{IsImage}
use Rattle.ia32_semantics.specs.Outcome.{is_in_stack}
use Rattle.ia32_semantics.specs.Step.{Act, HALT, IsPlaceAfter, is_single, returns_to_halt, forgets}
use Rattle.step_soundness.proofs.AdvanceLaws.{place_word}
use Rattle.ia32_semantics.proofs.EffectLemmas.{or_false_left, or_false_right}
use Rattle.std.proofs.lemmas.Bool.Decides.{Decides-int_eq}
use Rattle.call_soundness.proofs.ReturnLaws.{returned_states_stand}
use Rattle.call_soundness.proofs.StayLaws.{listed_among}

-- -- Links of the newest activation

-- the link of an activation and its caller
pub record IsYoung (q parent : ℕ) (distance : ℤ) (ls : List Link) : Type 0 where
  pub link : Link
  pub among : IsAmong link (young_links q ls)
  pub parent_is : link.parent ≡ parent
  pub within : IsMember distance link.off

young_of : (q parent : ℕ) (distance : ℤ) (ls : List Link) → IsLinked ls q false parent distance → IsYoung q parent distance ls
young_of q parent distance [] is = absurd is
young_of q parent distance (l ∷ ls) (inl h) =
    record {
      link = l;
      among = cond_both (l.child == q && not l.aged) (l ∷ young_links q ls) (young_links q ls) (IsAmong l) (λ _. inl refl)
          (λ other. absurd (true≢false (sym (and_from (l.child == q) (not l.aged) (eq-eqb l.child q h.0) (ap not h.1)) ∙ other)));
      parent_is = h.2;
      within = h.3;
    }
young_of q parent distance (l ∷ ls) (inr later) =
    let rest = young_of q parent distance ls later in
    record {
      link = rest.link;
      among = cond_both (l.child == q && not l.aged) (l ∷ young_links q ls) (young_links q ls) (IsAmong rest.link) (λ _. inr rest.among) (λ _. rest.among);
      parent_is = rest.parent_is;
      within = rest.within;
    }

-- where no link lets a return take bytes of the caller's caller, the distance doesn't
pub taken_less : (q parent : ℕ) (distance : ℤ) (extra : ℕ) (ls : List Link) → IsLinked ls q false parent distance → list_any (λ (l : Link). l.child == q && int_lt (pos 0) (l.off.hi +ℤ pos (4 + extra))) ls ≡ false
    → (distance +ℤ pos (4 + extra)) ≤ℤ pos 0
taken_less q parent distance extra [] is none = absurd is
taken_less q parent distance extra (l ∷ ls) (inl h) none =
    let first : (l.child == q && int_lt (pos 0) (l.off.hi +ℤ pos (4 + extra))) ≡ false = or_false_left _ _ none in
    let less : (l.off.hi +ℤ pos (4 + extra)) ≤ℤ pos 0 =
    int_lt_false (pos 0) (l.off.hi +ℤ pos (4 + extra)) (sym (ap (λ b. b && int_lt (pos 0) (l.off.hi +ℤ pos (4 + extra))) (eq-eqb l.child q h.0)) ∙ first) in
    let to : distance ≤ℤ l.off.hi = h.3.in_range in
    omega (arith, ints)
taken_less q parent distance extra (l ∷ ls) (inr later) none = taken_less q parent distance extra ls later (or_false_right _ _ none)

-- -- Nodes of the map

same_itself : (n : Node) → same_node n n ≡ true
same_itself n = (on_equiv numbers_of nat_list_eq_equiv).refl n

placed_among : (n : Node) (xs : List Placed) (b : AbsState) → state_in n xs ≡ Some b → IsAmong (at_node n b) xs
placed_among n [] b e = absurd (none-some b e)
placed_among n (x ∷ xs) b e = by (placed_among n xs b) (same_node x.node n) refl e
  where
    by : (state_in n xs ≡ Some b → IsAmong (at_node n b) xs) → (t : Bool) → same_node x.node n ≡ t → cond t (Some x.state) (state_in n xs) ≡ Some b → IsAmong (at_node n b) (x ∷ xs)
    by rest true f g = let node = same_is x.node n f in let state = same_Some x.state b g in inl (λ i. at_node (node i) (state i))
    by rest false f g = inr (rest g)

pub is_zero : (o : Option ℤ) → is_zero_offset o ≡ true → o ≡ Some (pos 0)
is_zero None e = absurd (false≢true e)
is_zero (Some z) e = ap (λ y. Some y) ((Decides-int_eq z (pos 0)).0 e)

-- A step that returns.
pub record Leaves (image : Image) (settings : Settings) (states : States) (n : Node) (a : AbsState) (o : Occurrence Act) : Type 0 where
  pub whole : IsWhole image o.after
  pub ending : Activation
  pub parent : Activation
  pub older : List Activation
  pub were : o.before.activations ≡ ending ∷ parent ∷ older
  pub are : o.after.activations ≡ parent ∷ older
  pub place : IsPlaceAfter image ending.site o.after.eip
  pub next : AbsState
  pub stands : StandsFor states.lane next o.after
  -- the bytes of the activation that ends
  pub given_up : (y : ℕ) → is_in_stack o.before.slot y ≡ true → y < ending.base + 4 → forgets o (AtByte y) ≡ true
  pub leads : (call : Node) (b : AbsState) → state_in call states.placed ≡ Some b → calls_at states call b (content_at image settings call.at) n.context.proc ≡ true
      → pushed states.lane call.at n.context.proc call.context ≡ n.context → call.at ≡ ending.site → call.context.proc ≡ parent.callee
      → IsListed (at_node (record call { at = o.after.eip }) next) (successors image settings states n a)

-- the bytes of the stack below a limit are forgotten, and no other
pub kept_above : (slot limit y : ℕ) (mapped : Bool) → (is_in_stack slot y ≡ true → limit ≤ y) → cond mapped (is_in_stack slot y && nat_lt y limit) false ≡ false
kept_above slot limit y mapped above =
    cond_both mapped (is_in_stack slot y && nat_lt y limit) false (λ b. b ≡ false) (λ _. by (is_in_stack slot y) refl) (λ _. refl)
  where
    by : (b : Bool) → is_in_stack slot y ≡ b → (b && nat_lt y limit) ≡ false
    by true f = le-ltb y limit (above f)
    by false f = refl

-- A step that goes to the place in the return slot of the newest activation, and isn't the last of a run. State m has the calls of the state
-- before it.
module _ (image : Image) (o : Occurrence Act) (m : State) (whole : IsWhole image m) (same : m.activations ≡ o.before.activations) (newest : Activation) (others : List Activation) (activations : o.before.activations ≡ newest ∷ others)
    (place : ℕ) (is_place : word_at m.memory newest.base ≡ Some place) (eip : o.after.eip ≡ place % 4294967296) where
  chain_at : (xs : List Activation) → others ≡ xs → AreActivations image m.memory m.slot (newest ∷ xs)
  chain_at xs e = subst (AreActivations image m.memory m.slot) (same ∙ activations ∙ ap (λ ys. newest ∷ ys) e) whole.activations

  -- the last activation would return to HALT
  not_alone : returns_to_halt o ≡ false → others ≡ [] → ⊥
  not_alone not_last none =
      let chain = chain_at [] none in
      let is : place ≡ 4294901760 = same_Some place HALT (sym is_place ∙ ap (word_at m.memory) chain.0 ∙ chain.1) in
      let halt : o.after.eip ≡ HALT = eip ∙ (let e : place % 4294967296 ≡ 4294901760 = omega (arith, is) in e) in
      let single : is_single o.before.activations ≡ true = ap is_single (activations ∙ ap (λ ys. newest ∷ ys) none) in
      true≢false (sym (and_from (is_single o.before.activations) (o.after.eip == HALT) single (eq-eqb o.after.eip HALT halt)) ∙ not_last)

  -- the caller, which goes on behind its call
  pub record HasCaller : Type 0 where
    pub parent : Activation
    pub older : List Activation
    pub are : others ≡ parent ∷ older
    pub above : newest.base + 4 ≤ parent.base
    pub high : parent.base ≤ m.slot
    pub behind : IsPlaceAfter image newest.site o.after.eip

  pub has_caller : returns_to_halt o ≡ false → HasCaller
  has_caller not_last = by others refl
    where
      by : (xs : List Activation) → others ≡ xs → HasCaller
      by [] e = absurd (not_alone not_last e)
      by (parent ∷ older) e =
          let chain = chain_at (parent ∷ older) e in
          let call = chain.2.1 in
          let is : place ≡ next_place call.call = same_Some place chain.2.0 (sym is_place ∙ chain.2.2) ∙ call.place_is in
          let goes : o.after.eip ≡ next_place call.call = eip ∙ ap (λ k. k % 4294967296) is ∙ place_word call.call in
          record {
            parent = parent;
            older = older;
            are = e;
            above = chain.1;
            high = (base_bounds image m.memory m.slot parent older chain.3).0;
            behind = subst (λ x. IsPlaceAfter image newest.site x) (call.place_is ∙ sym goes) call;
          }

-- From a state m with the place and the calls of the state before, for which an abstract state stands, the newest activation ends.
module _ (image : Image) (settings : Settings) (states : States) (n : Node) (a b : AbsState) (o : Occurrence Act) (m : State) (ending parent : Activation) (older : List Activation) (extra : ℕ)
    (good : IsImage image) (whole : IsWhole image m) (stands : StandsFor states.lane b m) (runs : ending.callee ≡ n.context.proc) (were : o.before.activations ≡ ending ∷ parent ∷ older)
    (gone : IsReturned m o.after ending parent older extra) (laid : IsLaidOut image o.after) (below : ending.base + 4 + extra ≤ parent.base)
    (behind_site : IsPlaceAfter image ending.site o.after.eip) (forgotten : (y : ℕ) → forgets o (AtByte y) ≡ (is_in_stack o.before.slot y && nat_lt y (ending.base + 4 + extra)))
    (all : successors image settings states n a ≡ returned_each image settings states n extra b) where
  abbrev p : ℕ
  p = n.context.proc

  young : IsYoung p parent.callee (pos ending.base -ℤ pos parent.base) b.links
  young =
      young_of p parent.callee (pos ending.base -ℤ pos parent.base) b.links
      (subst (λ q. IsLinked b.links q false parent.callee (pos ending.base -ℤ pos parent.base)) runs (stands.links [] older ending parent gone.before))

  chain : AreActivations image m.memory m.slot (ending ∷ parent ∷ older)
  chain = subst (AreActivations image m.memory m.slot) gone.before whole.activations

  whole_after : IsWhole image o.after
  whole_after =
      record {
        laid_out = laid;
        activations = subst (λ xs. AreActivations image o.after.memory o.after.slot xs) (sym gone.activations)
            (subst (λ k. AreActivations image o.after.memory k (parent ∷ older)) (sym gone.slot)
            (kept_slots image m.memory o.after.memory m.slot (ending.base + 4 + extra) gone.bytes parent older below chain.3));
      }

  abbrev state_after : AbsState
  state_after = abs_calls.returned p parent.callee young.link.off extra b

  stands_after : StandsFor states.lane state_after o.after
  stands_after =
      subst (λ q. StandsFor states.lane (abs_calls.returned q parent.callee young.link.off extra b) o.after) runs
      (returned_states_stand image states.lane b m o.after ending parent older young.link.off extra good whole stands gone young.within below)

  module _ (call : Node) (c : AbsState) (there : state_in call states.placed ≡ Some c) (calls : calls_at states call c (content_at image settings call.at) p ≡ true)
      (context : pushed states.lane call.at p call.context ≡ n.context) (at : call.at ≡ ending.site) (procedure : call.context.proc ≡ parent.callee) where
    fits : goes_back_to image settings states n young.link (at_node call c) ≡ true
    fits =
        let same : callee_node states.lane call.at p call ≡ record n { at = n.context.proc } = λ j. record { context = context j; at = p } in
        and_from (call.context.proc == young.link.parent) _ (eq-eqb call.context.proc young.link.parent (procedure ∙ sym young.parent_is))
        (and_from (same_node (callee_node states.lane call.at p call) (record n { at = n.context.proc })) _
        (subst (λ z. same_node (callee_node states.lane call.at p call) z ≡ true) same (same_itself (callee_node states.lane call.at p call))) calls)

    behind : place_behind (content_at image settings call.at) ≡ o.after.eip
    behind =
        ap (λ x. place_behind (content_at image settings x)) at
        ∙ ap place_behind (fetched_stands image settings ending.site behind_site.call good behind_site.fetched) ∙ sym behind_site.place_is

    made_here : IsAmong (gone_back_to image settings (abs_calls.returned p young.link.parent young.link.off extra b) (at_node call c)) (returned_by image settings states n extra b young.link)
    made_here =
        among_map (gone_back_to image settings (abs_calls.returned p young.link.parent young.link.off extra b)) (at_node call c) (filter (goes_back_to image settings states n young.link) states.placed)
        (among_filter (goes_back_to image settings states n young.link) (at_node call c) states.placed (placed_among call states.placed c there) fits)

    listed_here : IsListed (at_node (record call { at = o.after.eip }) state_after) (successors image settings states n a)
    listed_here =
        subst (IsListed (at_node (record call { at = o.after.eip }) state_after)) (sym all)
        (listed_among (at_node (record call { at = o.after.eip }) state_after) (returned_each image settings states n extra b)
        (among_flat (returned_by image settings states n extra b) young.link (at_node (record call { at = o.after.eip }) state_after) (young_links p b.links) young.among
        (subst (λ x. IsAmong x (returned_by image settings states n extra b young.link))
        (λ j. at_node (record call { at = behind j }) (abs_calls.returned p (young.parent_is j) young.link.off extra b)) made_here)))

  pub goes_back : Leaves image settings states n a o
  goes_back =
      record {
        whole = whole_after;
        ending = ending;
        parent = parent;
        older = older;
        were = were;
        given_up = λ y stack lt. forgotten y ∙ and_from (is_in_stack o.before.slot y) (nat_lt y (ending.base + 4 + extra)) stack (lt-ltb y (ending.base + 4 + extra) (omega (arith, lt)));
        are = gone.activations;
        place = behind_site;
        next = state_after;
        stands = stands_after;
        leads = listed_here;
      }
