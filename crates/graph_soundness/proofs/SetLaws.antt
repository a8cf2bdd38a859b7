-- The graph's sets have the places of whatever the accesses of a node may concern.
use Rattle.std.proofs.Common.{◌≡◌, ◌<◌, ◌≤◌, inl, inr, ⊎_elim, ℕ, suc, ◌+◌, ◌&&◌, Bool, true, false, cond, List, [], ◌∷◌, ◌++◌, Option, Some, None, ℤ, pos, ◌+ℤ◌, refl, sym, ap, subst, ◌∙◌, arith}
use Rattle.std.specs.Prelude.{Contains, slice_get, is_some, int_le, int_lt, ◌<ℤ◌, ◌≤ℤ◌}
use Rattle.std.proofs.lemmas.Bool.{false≢true, and_parts, and_from, or_left, or_right}
use Rattle.std.proofs.lemmas.Int.{ints}
use Rattle.std.proofs.lemmas.List.Elements.{Contains-append_left, Contains-append_right, Contains-append_cases}
use Rattle.std.proofs.lemmas.Option.{none-some, same_Some}
use Rattle.image_map.specs.declared.image.Image.{Image}
use Rattle.image_map.specs.declared.region.Cell.{Cell}
use Rattle.image_map.specs.declared.region.RegionId.{RegionId}
use Rattle.image_map.specs.declared.region.Settings.{Settings}
use Rattle.image_map.specs.Regions.{same_region}
use Rattle.image_map.proofs.OrderLaws.{same_region-equal, same_region-itself}
use Rattle.ia32_types.specs.declared.Reg.{Reg}
use Rattle.ia32_types.specs.declared.Flag.{Flag}
use Rattle.flow_graph.specs.FlowGraph.{MustDefine}
use Rattle.ia32_semantics.proofs.EffectLemmas.{or_true}
use Rattle.alocs.proofs.CellLemmas.{int_lt_true}
use Rattle.strided.proofs.MemberLemmas.{int_le_true}
use Rattle.alocs.specs.Cells.{holds}
use Rattle.alocs.specs.Extents.{home}
use Rattle.strided.specs.Interval.{IsCanonical}
use Rattle.vset.specs.declared.part.Part as vset_part
use Rattle.vset.specs.Values.{AreCanonical}
use Rattle.call_strings.specs.declared.context.Node.{Node}
use Rattle.abs_semantics.specs.States.{AbsState}
use Rattle.abs_semantics.specs.Touching.{touches, meeting, is_within, sure_place}
use Rattle.abs_semantics.proofs.MeetLemmas.{meets as member_meets}
use Rattle.abs_steps.specs.Places.{content_at}
use Rattle.abs_steps.specs.Rows.{view_of}
use Rattle.abs_steps.specs.Successors.{States}
use Rattle.abs_steps.specs.Views.{View}
use Rattle.slice_soundness.specs.Located.{Part, OfCore, OfRegion, HasPlace, HasSets}
use Rattle.call_soundness.specs.Maps.{state_in}
use Rattle.access_facts.specs.declared.reach.Reach.{Reach}
use Rattle.access_facts.specs.declared.reach.Reach.TheVariants.{Anywhere, Within}
use Rattle.access_facts.specs.CellSets.{meets, may_read, may_write, is_sure, fills_place, must_write, is_read, is_written, is_filled}
use Rattle.access_facts.specs.Cores.{registers_used, registers_defined, registers_always, flags_used, flags_defined, flags_always}
use Rattle.access_facts.specs.Flow.{flow_node}
use Rattle.access_facts.specs.Forms.{IsFormed, AreFormed}
use Rattle.access_facts.specs.Places.{register_places, flag_places, cell_places, graph_cells}
use Rattle.access_facts.specs.Reach.{at_home}
use Rattle.access_facts.specs.Sets.{read_reaches, write_reaches, sure_reaches, older_behind, may_use, may_def, must_def}
use Rattle.access_facts.proofs.MemberLemmas.{picked_has, has_picked}
use Rattle.graph_soundness.specs.Drawn.{place_in, number_in, map_drawn, division_of}
use Rattle.graph_soundness.specs.Forms.{AreFormedAt}
use Rattle.graph_soundness.specs.Reached.{IsInRange, IsInSome, IsRead, IsReadBy, IsWritten, IsWrittenBy, IsSureIn, IsFilled, IsFilledBy, MayRead, MayWrite, MustWrite, goes_on_from, IsAtNode, accesses_of}
use Rattle.graph_soundness.proofs.CoreLaws.{low_place, flag_below}
use Rattle.graph_soundness.proofs.GraphLaws.{node_has, node_back}

-- -- Cells

-- the cell that has an offset
pub record IsPlaced (first : ℕ) (cs : List Cell) (region : RegionId) (offset : ℤ) (place : ℕ) : Type 0 where
  pub number : ℕ
  pub cell : Cell
  pub there : slice_get cs number ≡ Some cell
  pub of_region : cell.region ≡ region
  pub low : cell.start ≤ℤ offset
  pub high : offset <ℤ cell.end
  pub is : place ≡ first + number

behind : (first : ℕ) (c : Cell) (cs : List Cell) (region : RegionId) (offset : ℤ) (place : ℕ) → IsPlaced (first + 1) cs region offset place → IsPlaced first (c ∷ cs) region offset place
behind first c cs region offset place h = let on = h.is in record { number = suc h.number; cell = h.cell; there = h.there; of_region = h.of_region; low = h.low; high = h.high; is = omega (arith, on) }

pub placed : (first : ℕ) (cs : List Cell) (region : RegionId) (offset : ℤ) (place : ℕ) → place_in first cs region offset ≡ Some place → IsPlaced first cs region offset place
unfolding place_in
placed first [] region offset place e = absurd (none-some place e)
placed first (c ∷ cs) region offset place e = by (same_region c.region region && holds offset c) refl (placed (first + 1) cs region offset place) e
  where
    by : (b : Bool) → (same_region c.region region && holds offset c) ≡ b → (place_in (first + 1) cs region offset ≡ Some place → IsPlaced (first + 1) cs region offset place)
        → cond b (Some first) (place_in (first + 1) cs region offset) ≡ Some place → IsPlaced first (c ∷ cs) region offset place
    by true is rest e =
        let both = and_parts (same_region c.region region) (holds offset c) is in
        let ends = and_parts (int_le c.start offset) (int_lt offset c.end) both.1 in
        let same = same_Some first place e in
        record {
          number = 0;
          cell = c;
          there = refl;
          of_region = same_region-equal c.region region both.0;
          low = int_le_true c.start offset ends.0;
          high = int_lt_true offset c.end ends.1;
          is = omega (arith, same);
        }
    by false is rest e = behind first c cs region offset place (rest e)

-- a region is itself
same_self : (r q : RegionId) → r ≡ q → same_region r q ≡ true
same_self r q e = subst (λ x. same_region r x ≡ true) e (same_region-itself r)

module _ (region : RegionId) (offset : ℤ) (c : Cell) (of_region : c.region ≡ region) (low : c.start ≤ℤ offset) (high : offset <ℤ c.end) where
  touched : (len : ℕ) (x : vset_part.Part) → IsCanonical x.si → IsInRange len x region offset → touches len c (at_home x) ≡ true
  touched len x form h =
      let from_low = h.low in
      let from_high = h.high in
      let met = member_meets h.from len c x.si form h.member (omega (arith, ints)) (omega (arith, ints)) in
      and_from (same_region (home x.region) c.region) (is_some (meeting x.si len c)) (same_self (home x.region) c.region (h.region_is ∙ sym of_region)) (ap is_some met.is)

  some_met : (len : ℕ) (xs : List vset_part.Part) → AreCanonical xs → IsInSome len xs region offset → meets len xs c ≡ true
  some_met len [] forms h = absurd h
  some_met len (x ∷ xs) forms (inl h) = or_left (touches len c (at_home x)) (meets len xs c) (touched len x forms.0 h)
  some_met len (x ∷ xs) forms (inr h) = or_right (touches len c (at_home x)) (meets len xs c) (some_met len xs forms.1 h)

  read_met : (rs : List Reach) → AreFormed rs → IsReadBy rs region offset → is_read rs c ≡ true
  read_met [] forms h = absurd h
  read_met (r ∷ rs) forms (inl h) = or_left (may_read c r) (is_read rs c) (one r forms.0 h)
    where
      one : (q : Reach) → IsFormed q → IsRead q region offset → may_read c q ≡ true
      one Anywhere form h = refl
      one (Within len xs) form h = some_met len xs form h
  read_met (r ∷ rs) forms (inr h) = or_right (may_read c r) (is_read rs c) (read_met rs forms.1 h)

  written_met : (image : Image) (rs : List Reach) → AreFormed rs → IsWrittenBy rs region offset → is_written image rs c ≡ true
  written_met image [] forms h = absurd h
  written_met image (r ∷ rs) forms (inl h) = or_left (may_write image c r) (is_written image rs c) (one r forms.0 h)
    where
      one : (q : Reach) → IsFormed q → IsWritten q region offset → may_write image c q ≡ true
      one Anywhere form h = absurd h
      one (Within len xs) form h = some_met len xs form h
  written_met image (r ∷ rs) forms (inr h) = or_right (may_write image c r) (is_written image rs c) (written_met image rs forms.1 h)

  filled_met : (older : List ℕ) (rs : List Reach) → is_filled older rs c ≡ true → IsFilledBy older rs region offset
  filled_met older [] e = absurd (false≢true e)
  filled_met older (r ∷ rs) e = or_true (must_write older c r) (is_filled older rs c) e (λ here. inl (one r here)) (λ later. inr (filled_met older rs later))
    where
      of_place : (len : ℕ) (o : Option vset_part.Part) → fills_place older len c o ≡ true → IsSureIn older len o region offset
      of_place len None e = absurd (false≢true e)
      of_place len (Some x) e =
          let parts = and_parts (is_sure older x.region) (is_within len x c) e in
          let inner = and_parts (same_region x.region c.region && int_le x.si.lo c.start) (int_le c.end (x.si.lo +ℤ pos len)) parts.1 in
          let first = and_parts (same_region x.region c.region) (int_le x.si.lo c.start) inner.0 in
          let from : x.si.lo ≤ℤ c.start = int_le_true x.si.lo c.start first.1 in
          let to : c.end ≤ℤ (x.si.lo +ℤ pos len) = int_le_true c.end (x.si.lo +ℤ pos len) inner.1 in
          record { sure = parts.0; region_is = same_region-equal x.region c.region first.0 ∙ of_region; low = omega (arith, ints); high = omega (arith, ints) }

      one : (q : Reach) → must_write older c q ≡ true → IsFilled older q region offset
      one Anywhere e = absurd (false≢true e)
      one (Within len xs) e = of_place len (sure_place xs) e

-- -- Places among cells

cell_in : (test : Cell → Bool) (cs : List Cell) (region : RegionId) (offset : ℤ) (place : ℕ) → place_in 14 cs region offset ≡ Some place
    → ((c : Cell) → c.region ≡ region → c.start ≤ℤ offset → offset <ℤ c.end → test c ≡ true) → Contains (cell_places test cs) place
cell_in test cs region offset place e passes =
    let p = placed 14 cs region offset place e in
    subst (Contains (cell_places test cs)) (sym p.is) (has_picked test 14 p.number p.cell cs p.there (passes p.cell p.of_region p.low p.high))

cell_back : (test : Cell → Bool) (cs : List Cell) (region : RegionId) (offset : ℤ) (place : ℕ) → place_in 14 cs region offset ≡ Some place → Contains (cell_places test cs) place
    → (c : Cell) × (test c ≡ true) × (c.region ≡ region) × (c.start ≤ℤ offset) × (offset <ℤ c.end)
cell_back test cs region offset place e has =
    let p = placed 14 cs region offset place e in
    let q = picked_has test 14 place cs has in
    let one = p.is in
    let two = q.is in
    let same : q.number ≡ p.number = omega (arith, one, two) in
    let cell : q.thing ≡ p.cell = same_Some q.thing p.cell (sym q.there ∙ ap (slice_get cs) same ∙ p.there) in
    (p.cell, ap test (sym cell) ∙ q.picked, p.of_region, p.low, p.high)

-- -- Registers, flags and cells together

module _ (rs fs cells : List ℕ) where
  core_left : (k place : ℕ) → (place ≡ k) × (k < 14) → Contains (rs ++ fs) k → Contains (rs ++ fs ++ cells) place
  core_left k place is has = subst (Contains (rs ++ fs ++ cells)) (sym is.0) (Contains-append_left (rs ++ fs) cells k has)

  cell_right : (place : ℕ) → Contains cells place → Contains (rs ++ fs ++ cells) place
  cell_right place has = Contains-append_right (rs ++ fs) cells place has

module _ (cs : List Cell) where
  -- a place below 14 is that of a register or a flag, and one from 14 on that of a cell
  core_back : (rs fs : List ℕ) (test : Cell → Bool) (k place : ℕ) → (place ≡ k) × (k < 14) → Contains (rs ++ fs ++ cell_places test cs) place → Contains (rs ++ fs) k
  core_back rs fs test k place is has =
      let same = is.0 in
      let less = is.1 in
      ⊎_elim (λ core. subst (Contains (rs ++ fs)) same core)
      (λ cell. absurd (let q = picked_has test 14 place cs cell in let there = q.is in omega (arith, same, less, there)))
      (Contains-append_cases (rs ++ fs) (cell_places test cs) place has)

  cell_of : (rs fs : List ℕ) (test : Cell → Bool) (place : ℕ) → ((m : ℕ) → Contains (rs ++ fs) m → m < 14) → 14 ≤ place → Contains (rs ++ fs ++ cell_places test cs) place → Contains (cell_places test cs) place
  cell_of rs fs test place few high has =
      ⊎_elim (λ core. absurd (let low = few place core in omega (arith, low, high))) (λ cell. cell) (Contains-append_cases (rs ++ fs) (cell_places test cs) place has)

few_cores : (r : List Reg) (f : List Flag) (m : ℕ) → Contains (register_places r ++ flag_places f) m → m < 14
few_cores r f m has =
    ⊎_elim (λ a. let low = low_place r m a in omega (arith, low)) (λ b. flag_below f m b) (Contains-append_cases (register_places r) (flag_places f) m has)

-- -- Of a node

module _ (image : Image) (settings : Settings) (states : States) (forms : (n : Node) (a : AbsState) → state_in n states.placed ≡ Some a → AreFormedAt image (view_of a states.cells n.context.proc) (content_at image settings n.at)) where
  abbrev cs : List Cell
  cs = graph_cells states

  -- the state of a node, where a premise has one
  at_state : {P : View → Type 0} (n : Node) (a : AbsState) → state_in n states.placed ≡ Some a → IsAtNode states P n → P (view_of a states.cells n.context.proc)
  at_state {P} n a e h = subst (λ s. P (view_of s states.cells n.context.proc)) (same_Some h.state a (sym h.has_state ∙ e)) h.does

  used : (n : Node) (a : AbsState) (part : Part) (place : ℕ) → state_in n states.placed ≡ Some a → MayRead (view_of a states.cells n.context.proc) (content_at image settings n.at) part → HasPlace (division_of states) part place
      → Contains (may_use cs (view_of a states.cells n.context.proc) (content_at image settings n.at)) place
  unfolding may_use
  used n a (OfCore k) place e reads is =
      let content = content_at image settings n.at in
      core_left (register_places (registers_used content)) (flag_places (flags_used content)) (cell_places (is_read (read_reaches (view_of a states.cells n.context.proc) content)) cs) k place is reads
  used n a (OfRegion region offset) place e reads is =
      let content = content_at image settings n.at in
      let V = view_of a states.cells n.context.proc in
      cell_right (register_places (registers_used content)) (flag_places (flags_used content)) (cell_places (is_read (read_reaches V content)) cs) place
      (cell_in (is_read (read_reaches V content)) cs region offset place is (λ c of low high. read_met region offset c of low high (read_reaches V content) (forms n a e).reads reads))

  defined : (n : Node) (a : AbsState) (part : Part) (place : ℕ) → state_in n states.placed ≡ Some a
      → MayWrite image (view_of a states.cells n.context.proc) (content_at image settings n.at) (goes_on_from image settings states n a) part → HasPlace (division_of states) part place
      → Contains (may_def image cs (view_of a states.cells n.context.proc) (content_at image settings n.at) (goes_on_from image settings states n a)) place
  unfolding may_def
  defined n a (OfCore k) place e writes is =
      let content = content_at image settings n.at in
      core_left (register_places (registers_defined content)) (flag_places (flags_defined content))
      (cell_places (is_written image (write_reaches image (view_of a states.cells n.context.proc) content (goes_on_from image settings states n a))) cs) k place is writes
  defined n a (OfRegion region offset) place e writes is =
      let content = content_at image settings n.at in
      let rs = write_reaches image (view_of a states.cells n.context.proc) content (goes_on_from image settings states n a) in
      cell_right (register_places (registers_defined content)) (flag_places (flags_defined content)) (cell_places (is_written image rs) cs) place
      (cell_in (is_written image rs) cs region offset place is (λ c of low high. written_met region offset c of low high image rs ((forms n a e).writes (goes_on_from image settings states n a)) writes))

  always : (n : Node) (a : AbsState) (part : Part) (place : ℕ) → Contains (must_def image cs (view_of a states.cells n.context.proc) (content_at image settings n.at) (goes_on_from image settings states n a)) place
      → HasPlace (division_of states) part place → MustWrite image (view_of a states.cells n.context.proc) (content_at image settings n.at) (goes_on_from image settings states n a) part
  unfolding must_def
  always n a (OfCore k) place must is =
      let content = content_at image settings n.at in
      let V = view_of a states.cells n.context.proc in
      let g = goes_on_from image settings states n a in
      core_back cs (register_places (registers_always a content)) (flag_places (flags_always content)) (is_filled (older_behind V content g) (sure_reaches image V content g)) k place is must
  always n a (OfRegion region offset) place must is =
      let content = content_at image settings n.at in
      let V = view_of a states.cells n.context.proc in
      let g = goes_on_from image settings states n a in
      let p = placed 14 cs region offset place is in
      let at = p.is in
      let test = is_filled (older_behind V content g) (sure_reaches image V content g) in
      let cell = cell_of cs (register_places (registers_always a content)) (flag_places (flags_always content)) test place (few_cores (registers_always a content) (flags_always content)) (omega (arith, at)) must in
      let found = cell_back test cs region offset place is cell in
      filled_met region offset found.0 found.2 found.3 found.4 (older_behind V content g) (sure_reaches image V content g) found.1

  pub has_sets : HasSets (map_drawn image settings states) (division_of states) (accesses_of image settings states)
  unfolding flow_node
  has_sets =
      record {
        used = λ n a part place e reads is. node_has image settings states (λ node. Contains node.may_use place) n a e (used n a part place e (at_state n a e reads) is);
        defined = λ n a part place e writes is. node_has image settings states (λ node. Contains node.may_def place) n a e (defined n a part place e (at_state n a e writes) is);
        always = λ n a part place e must is. record { state = a; has_state = e; does = always n a part place (from_graph n a place e must) is };
      }
    where
      from_graph : (n : Node) (a : AbsState) (place : ℕ) → state_in n states.placed ≡ Some a → MustDefine (map_drawn image settings states).graph place (number_in states.placed n)
          → Contains (must_def image cs (view_of a states.cells n.context.proc) (content_at image settings n.at) (goes_on_from image settings states n a)) place
      from_graph n a place e must = node_back image settings states (λ node. Contains node.must_def place) n a e must
