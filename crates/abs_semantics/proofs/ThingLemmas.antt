-- A byte has one owner, and a region that names one thing has one.
use Rattle.std.proofs.Common.{◌≡◌, ℕ, ◌+◌, ◌^◌, ◌<◌, ◌≤◌, ◌==◌, Bool, true, false, cond, List, [], ◌∷◌, ◌++◌, map, refl, sym, ◌∙◌, ap, subst, arith}
use Rattle.std.specs.Prelude.{nat_le, nat_lt, filter, if◌then◌else◌}
use Rattle.std.specs.List.{list_any}
use Rattle.std.proofs.lemmas.Bool.{and_from, or_left, or_right, eq-eqb, le-leb, lt-ltb, true≢false}
use Rattle.image_map.specs.declared.image.Image.{Image}
use Rattle.image_map.specs.declared.region.Activation.{Activation}
use Rattle.image_map.specs.declared.region.RegionId.{RegionId}
use Rattle.image_map.specs.declared.region.RegionId.TheVariants.{Global, Frame, OldFrame, Heap, OldHeap}
use Rattle.image_map.specs.Whole.{IsImage}
use Rattle.ia32_semantics.specs.declared.state.Allocation.{Allocation}
use Rattle.ia32_semantics.specs.CallModel.{IsLaidOut, AreBlocks, gives_block, block_of, blocks_given}
use Rattle.ia32_semantics.specs.Outcome.{is_in_block, IsFarFrom}
use Rattle.ia32_semantics.specs.State.{State}
use Rattle.vset.specs.World.{Thing, TheImage, ActivationAt, BlockAt, IsIn, region_of, is_called, has_key, key_of, is_given}
use Rattle.abs_semantics.specs.StandsFor.{Owns, IsAboveAll, EndsAbove, world_of}
use Rattle.abs_semantics.specs.Touching.{names_one}
use Rattle.abs_semantics.proofs.StackLemmas.{stack_bounds, in_block}

-- -- Two splits of one list

pub data Order {A : Type 0} (newer : List A) (x : A) (older newer' : List A) (x' : A) (older' : List A) : Type 0 where
  SameSplit : newer ≡ newer' → x ≡ x' → older ≡ older' → Order newer x older newer' x' older'
  -- the second lies behind the first
  Behind : (more : List A) → newer' ≡ newer ++ (x ∷ more) → older ≡ more ++ (x' ∷ older') → Order newer x older newer' x' older'
  Before : (more : List A) → newer ≡ newer' ++ (x' ∷ more) → older' ≡ more ++ (x ∷ older) → Order newer x older newer' x' older'

pub two_splits : {A : Type 0} (newer newer' : List A) (x x' : A) (older older' : List A) → newer ++ (x ∷ older) ≡ newer' ++ (x' ∷ older') → Order newer x older newer' x' older'
two_splits [] [] x x' older older' e = SameSplit refl (cc) (cc)
two_splits [] (n ∷ newer') x x' older older' e = Behind newer' (let first : x ≡ n = cc in ap (λ y. y ∷ newer') (sym first)) (cc)
two_splits (n ∷ newer) [] x x' older older' e = Before newer (let first : n ≡ x' = cc in ap (λ y. y ∷ newer) first) (let rest : newer ++ (x ∷ older) ≡ older' = cc in sym rest)
two_splits (n ∷ newer) (m ∷ newer') x x' older older' e = longer (two_splits newer newer' x x' older older' (cc))
  where
    first : n ≡ m
    first = cc

    longer : Order newer x older newer' x' older' → Order (n ∷ newer) x older (m ∷ newer') x' older'
    longer (SameSplit a b c) = SameSplit (λ i. first i ∷ a i) b c
    longer (Behind more a b) = Behind more (λ i. sym first i ∷ a i) b
    longer (Before more a b) = Before more (λ i. first i ∷ a i) b

any_middle : {A : Type 0} (test : A → Bool) (front : List A) (x : A) (back : List A) → test x ≡ true → list_any test (front ++ (x ∷ back)) ≡ true
any_middle test [] x back is = or_left (test x) (list_any test back) is
any_middle test (y ∷ front) x back is = or_right (test y) (list_any test (front ++ (x ∷ back))) (any_middle test front x back is)

-- -- Activations

above_middle : (y : ℕ) (front : List Activation) (x : Activation) (back : List Activation) → IsAboveAll y (front ++ (x ∷ back)) → x.base + 4 ≤ y
above_middle y [] x back above = above.0
above_middle y (n ∷ front) x back above = above_middle y front x back above.1

ends_before : (y : ℕ) (x : Activation) (more : List Activation) (x' : Activation) (older : List Activation) → EndsAbove y x (more ++ (x' ∷ older)) → y < x.base + 4
ends_before y x [] x' older ends = ends
ends_before y x (m ∷ more) x' older ends = ends

-- an activation that is newer than another owns none of its bytes
not_both_own : (y : ℕ) (newer newer' : List Activation) (x x' : Activation) (older older' more : List Activation) → newer' ≡ newer ++ (x ∷ more) → older ≡ more ++ (x' ∷ older')
    → EndsAbove y x older → IsAboveAll y newer' → ⊥
not_both_own y newer newer' x x' older older' more front back ends above =
    let low = above_middle y newer x more (subst (IsAboveAll y) front above) in
    let high = ends_before y x more x' older' (subst (EndsAbove y x) back ends) in
    omega arith

-- -- Blocks

block_holds : (y : ℕ) (x : Allocation) → x.base ≤ y → y < x.base + x.size → is_in_block y (block_of x) ≡ true
block_holds y x low high = and_from (nat_le x.base y) (nat_lt y (x.base + x.size)) (le-leb x.base y low) (lt-ltb y (x.base + x.size) high)

pub given_holds : (y : ℕ) (front : List Allocation) (x : Allocation) (back : List Allocation) → is_given x ≡ true → is_in_block y (block_of x) ≡ true → list_any (is_in_block y) (blocks_given (front ++ (x ∷ back))) ≡ true
given_holds y [] x back given is = first (gives_block x) given
  where
    first : (t : Bool) → t ≡ true → list_any (is_in_block y) (map block_of (cond t (x ∷ filter gives_block back) (filter gives_block back))) ≡ true
    first true given = or_left (is_in_block y (block_of x)) (list_any (is_in_block y) (blocks_given back)) is
    first false given = absurd (true≢false (sym given))
given_holds y (n ∷ front) x back given is = passed (gives_block n) (given_holds y front x back given is)
  where
    passed : (t : Bool) → list_any (is_in_block y) (blocks_given (front ++ (x ∷ back))) ≡ true → list_any (is_in_block y) (map block_of (cond t (n ∷ filter gives_block (front ++ (x ∷ back))) (filter gives_block (front ++ (x ∷ back))))) ≡ true
    passed true rest = or_right (is_in_block y (block_of n)) (list_any (is_in_block y) (blocks_given (front ++ (x ∷ back)))) rest
    passed false rest = rest

-- a block's bytes lie in none of the later ones
given_apart : (slot y : ℕ) (front : List Allocation) (x : Allocation) (back : List Allocation) → is_given x ≡ true → is_in_block y (block_of x) ≡ true → AreBlocks slot (blocks_given (front ++ (x ∷ back)))
    → list_any (is_in_block y) (blocks_given back) ≡ false
given_apart slot y [] x back given is placed = first (gives_block x) given placed
  where
    first : (t : Bool) → t ≡ true → AreBlocks slot (map block_of (cond t (x ∷ filter gives_block back) (filter gives_block back))) → list_any (is_in_block y) (blocks_given back) ≡ false
    first true given placed = placed.0.apart y is
    first false given placed = absurd (true≢false (sym given))
given_apart slot y (n ∷ front) x back given is placed = passed (given_apart slot y front x back given is) (gives_block n) placed
  where
    passed : (AreBlocks slot (blocks_given (front ++ (x ∷ back))) → list_any (is_in_block y) (blocks_given back) ≡ false) → (t : Bool)
        → AreBlocks slot (map block_of (cond t (n ∷ filter gives_block (front ++ (x ∷ back))) (filter gives_block (front ++ (x ∷ back))))) → list_any (is_in_block y) (blocks_given back) ≡ false
    passed rest true placed = rest placed.1
    passed rest false placed = rest placed

-- -- Owners

module _ (image : Image) (s : State) (good : IsImage image) (laid : IsLaidOut image s) (y : ℕ) where
  placed_given : AreBlocks s.slot (blocks_given s.allocs)
  placed_given = subst (AreBlocks s.slot) laid.given laid.placed

  module _ (before : List Allocation) (x : Allocation) (later : List Allocation) (is_in : IsIn (world_of s) (BlockAt before x later)) (low : x.base ≤ y) (high : y < x.base + x.size) where
    lies : (0x90000000 ≤ y) × (y < 0xB0000000) × IsFarFrom s.slot y
    lies =
        in_block s.slot y (blocks_given s.allocs) placed_given
        (subst (λ l. list_any (is_in_block y) (blocks_given l) ≡ true) (sym is_in.0) (given_holds y before x later is_in.1 (block_holds y x low high)))

    -- a later block doesn't own it
    none_later : (more later' : List Allocation) (x' : Allocation) → later ≡ more ++ (x' ∷ later') → is_given x' ≡ true → x'.base ≤ y → y < x'.base + x'.size → ⊥
    none_later more later' x' back given low' high' =
        let none = given_apart s.slot y before x later is_in.1 (block_holds y x low high) (subst (λ l. AreBlocks s.slot (blocks_given l)) is_in.0 placed_given) in
        let has = subst (λ l. list_any (is_in_block y) (blocks_given l) ≡ true) (sym back) (given_holds y more x' later' given (block_holds y x' low' high')) in
        true≢false (sym has ∙ none)

  pub one_owner : (t u : Thing) → IsIn (world_of s) t → IsIn (world_of s) u → Owns s t y → Owns s u y → t ≡ u
  one_owner TheImage TheImage t_in u_in own own' = refl
  one_owner TheImage (ActivationAt newer x older) t_in u_in own own' =
      let b = stack_bounds image s good laid y own'.0 in
      let l : y < 2 ^ 31 = own in
      absurd (omega arith)
  one_owner TheImage (BlockAt before x later) t_in u_in own own' =
      let b = lies before x later u_in own'.0 own'.1 in
      let l : y < 2 ^ 31 = own in
      absurd (omega arith)
  one_owner (ActivationAt newer x older) TheImage t_in u_in own own' =
      let b = stack_bounds image s good laid y own.0 in
      let l : y < 2 ^ 31 = own' in
      absurd (omega arith)
  one_owner (ActivationAt newer x older) (BlockAt before x' later) t_in u_in own own' =
      let b = stack_bounds image s good laid y own.0 in
      let l = lies before x' later u_in own'.0 own'.1 in
      absurd (omega arith)
  one_owner (BlockAt before x later) TheImage t_in u_in own own' =
      let b = lies before x later t_in own.0 own.1 in
      let l : y < 2 ^ 31 = own' in
      absurd (omega arith)
  one_owner (BlockAt before x later) (ActivationAt newer x' older) t_in u_in own own' =
      let b = stack_bounds image s good laid y own'.0 in
      let l = lies before x later t_in own.0 own.1 in
      absurd (omega arith)
  one_owner (ActivationAt newer x older) (ActivationAt newer' x' older') t_in u_in own own' = by_order (two_splits newer newer' x x' older older' (sym t_in ∙ u_in))
    where
      by_order : Order newer x older newer' x' older' → ActivationAt newer x older ≡ ActivationAt newer' x' older'
      by_order (SameSplit a b c) = λ i. ActivationAt (a i) (b i) (c i)
      by_order (Behind more front back) = absurd (not_both_own y newer newer' x x' older older' more front back own.2 own'.1)
      by_order (Before more front back) = absurd (not_both_own y newer' newer x' x older' older more front back own'.2 own.1)
  one_owner (BlockAt before x later) (BlockAt before' x' later') t_in u_in own own' = by_order (two_splits before before' x x' later later' (sym t_in.0 ∙ u_in.0))
    where
      by_order : Order before x later before' x' later' → BlockAt before x later ≡ BlockAt before' x' later'
      by_order (SameSplit a b c) = λ i. BlockAt (a i) (b i) (c i)
      by_order (Behind more front back) = absurd (none_later before x later t_in own.0 own.1 more later' x' back u_in.1 own'.0 own'.1)
      by_order (Before more front back) = absurd (none_later before' x' later' u_in own'.0 own'.1 more later x back t_in.1 own.0 own.1)

-- -- Regions that name one thing

-- what a thing's region tells of it
young_frame : (t : Bool) (q p : ℕ) → (if t then OldFrame q else Frame q) ≡ Frame p → (t ≡ false) × (q ≡ p)
young_frame true q p e = absurd (cc)
young_frame false q p e = (refl, cc)

young_block : (t : Bool) (k key : ℕ) → (if t then OldHeap k else Heap k) ≡ Heap key → (t ≡ false) × (k ≡ key)
young_block true k key e = absurd (cc)
young_block false k key e = (refl, cc)

older_called : (newer : List Activation) (x : Activation) (more : List Activation) (x' : Activation) (newer' : List Activation) → newer' ≡ newer ++ (x ∷ more) → x.callee ≡ x'.callee → is_called x'.callee newer' ≡ false → ⊥
older_called newer x more x' newer' front same alone =
    true≢false (sym (subst (λ l. is_called x'.callee l ≡ true) (sym front) (any_middle (λ (a : Activation). a.callee == x'.callee) newer x more (eq-eqb x.callee x'.callee same))) ∙ alone)

older_key : (lane : ℕ) (more : List Allocation) (x x' : Allocation) (later later' : List Allocation) → later ≡ more ++ (x' ∷ later') → key_of lane x' ≡ key_of lane x → has_key lane (key_of lane x) later ≡ false → ⊥
older_key lane more x x' later later' back same alone =
    true≢false (sym (subst (λ l. has_key lane (key_of lane x) l ≡ true) (sym back) (any_middle (λ (a : Allocation). key_of lane a == key_of lane x) more x' later' (eq-eqb (key_of lane x') (key_of lane x) same))) ∙ alone)

module _ (lane : ℕ) (s : State) where
  one_frame : (p : ℕ) (newer newer' : List Activation) (x x' : Activation) (older older' : List Activation) → newer ++ (x ∷ older) ≡ newer' ++ (x' ∷ older')
      → region_of lane (ActivationAt newer x older) ≡ Frame p → region_of lane (ActivationAt newer' x' older') ≡ Frame p → ActivationAt newer x older ≡ ActivationAt newer' x' older'
  one_frame p newer newer' x x' older older' e r r' = by_order (two_splits newer newer' x x' older older' e)
    where
      y : (is_called x.callee newer ≡ false) × (x.callee ≡ p)
      y = young_frame (is_called x.callee newer) x.callee p r

      y' : (is_called x'.callee newer' ≡ false) × (x'.callee ≡ p)
      y' = young_frame (is_called x'.callee newer') x'.callee p r'

      by_order : Order newer x older newer' x' older' → ActivationAt newer x older ≡ ActivationAt newer' x' older'
      by_order (SameSplit a b c) = λ i. ActivationAt (a i) (b i) (c i)
      by_order (Behind more front back) = absurd (older_called newer x more x' newer' front (y.1 ∙ sym y'.1) y'.0)
      by_order (Before more front back) = absurd (older_called newer' x' more x newer front (y'.1 ∙ sym y.1) y.0)

  one_block : (key : ℕ) (before before' : List Allocation) (x x' : Allocation) (later later' : List Allocation) → before ++ (x ∷ later) ≡ before' ++ (x' ∷ later')
      → region_of lane (BlockAt before x later) ≡ Heap key → region_of lane (BlockAt before' x' later') ≡ Heap key → BlockAt before x later ≡ BlockAt before' x' later'
  one_block key before before' x x' later later' e r r' = by_order (two_splits before before' x x' later later' e)
    where
      y : (has_key lane (key_of lane x) later ≡ false) × (key_of lane x ≡ key)
      y = young_block (has_key lane (key_of lane x) later) (key_of lane x) key r

      y' : (has_key lane (key_of lane x') later' ≡ false) × (key_of lane x' ≡ key)
      y' = young_block (has_key lane (key_of lane x') later') (key_of lane x') key r'

      by_order : Order before x later before' x' later' → BlockAt before x later ≡ BlockAt before' x' later'
      by_order (SameSplit a b c) = λ i. BlockAt (a i) (b i) (c i)
      by_order (Behind more front back) = absurd (older_key lane more x x' later later' back (y'.1 ∙ sym y.1) y.0)
      by_order (Before more front back) = absurd (older_key lane more x' x later' later back (y.1 ∙ sym y'.1) y'.0)

  not_frame : (q p : ℕ) (t : Bool) → (if t then OldHeap q else Heap q) ≡ Frame p → ⊥
  not_frame q p true e = cc
  not_frame q p false e = cc

  not_block : (q p : ℕ) (t : Bool) → (if t then OldFrame q else Frame q) ≡ Heap p → ⊥
  not_block q p true e = cc
  not_block q p false e = cc

  not_number : (q : ℕ) (t : Bool) → (if t then OldFrame q else Frame q) ≡ Global → ⊥
  not_number q true e = cc
  not_number q false e = cc

  not_number' : (q : ℕ) (t : Bool) → (if t then OldHeap q else Heap q) ≡ Global → ⊥
  not_number' q true e = cc
  not_number' q false e = cc

  -- a thing of the region of numbers is the image
  pub is_image : (t : Thing) → region_of lane t ≡ Global → t ≡ TheImage
  is_image TheImage r = refl
  is_image (ActivationAt newer x older) r = absurd (not_number x.callee (is_called x.callee newer) r)
  is_image (BlockAt before x later) r = absurd (not_number' (key_of lane x) (has_key lane (key_of lane x) later) r)

  pub one_thing : (r : RegionId) (t u : Thing) → names_one r ≡ true → IsIn (world_of s) t → IsIn (world_of s) u → region_of lane t ≡ r → region_of lane u ≡ r → t ≡ u
  one_thing Global t u one t_in u_in rt ru = is_image t rt ∙ sym (is_image u ru)
  one_thing (OldFrame p) t u one t_in u_in rt ru = absurd (true≢false (sym one))
  one_thing (OldHeap key) t u one t_in u_in rt ru = absurd (true≢false (sym one))
  one_thing (Frame p) (ActivationAt newer x older) (ActivationAt newer' x' older') one t_in u_in rt ru = one_frame p newer newer' x x' older older' (sym t_in ∙ u_in) rt ru
  one_thing (Frame p) TheImage u one t_in u_in rt ru = absurd (cc)
  one_thing (Frame p) (BlockAt before x later) u one t_in u_in rt ru = absurd (not_frame (key_of lane x) p (has_key lane (key_of lane x) later) rt)
  one_thing (Frame p) (ActivationAt newer x older) TheImage one t_in u_in rt ru = absurd (cc)
  one_thing (Frame p) (ActivationAt newer x older) (BlockAt before x' later) one t_in u_in rt ru = absurd (not_frame (key_of lane x') p (has_key lane (key_of lane x') later) ru)
  one_thing (Heap key) (BlockAt before x later) (BlockAt before' x' later') one t_in u_in rt ru = one_block key before before' x x' later later' (sym t_in.0 ∙ u_in.0) rt ru
  one_thing (Heap key) TheImage u one t_in u_in rt ru = absurd (cc)
  one_thing (Heap key) (ActivationAt newer x older) u one t_in u_in rt ru = absurd (not_block x.callee key (is_called x.callee newer) rt)
  one_thing (Heap key) (BlockAt before x later) TheImage one t_in u_in rt ru = absurd (cc)
  one_thing (Heap key) (BlockAt before x later) (ActivationAt newer x' older) one t_in u_in rt ru = absurd (not_block x'.callee key (is_called x'.callee newer) ru)
