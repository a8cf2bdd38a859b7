-- Laws on the sets of a node.
use Rattle.std.proofs.Common.{◌≡◌, ⊎_elim, ℕ, zero, suc, ◌+◌, Bool, true, false, cond, List, [], ◌∷◌, ◌++◌, refl, sym, subst}
use Rattle.std.specs.Prelude.{Contains, Some, slice_get, ◌<ℤ◌}
use Rattle.std.proofs.lemmas.List.Elements.{Contains-append_left, Contains-append_right, Contains-append_cases}
use Rattle.image_map.specs.declared.image.Image.{Image}
use Rattle.image_map.specs.declared.region.Cell.{Cell}
use Rattle.ia32_types.specs.Places.{registers_written, flags_written}
use Rattle.alocs.proofs.MemberLaws.{contains-none}
use Rattle.abs_semantics.specs.States.{AbsState}
use Rattle.abs_steps.specs.Views.{View}
use Rattle.abs_steps.specs.Places.{Content, Extern, Instruction, Nothing}
use Rattle.access_facts.specs.declared.reach.Reach.{Reach}
use Rattle.access_facts.specs.Places.{picked, register_places, flag_places, cell_places, all_registers, all_flags}
use Rattle.access_facts.specs.Rows.{AreSome}
use Rattle.access_facts.specs.Rising.{RisesFrom}
use Rattle.access_facts.specs.CellSets.{is_read, is_written, is_filled}
use Rattle.access_facts.specs.Forms.{AreFormed}
use Rattle.access_facts.specs.Cores.{registers_used, registers_defined, registers_always, flags_used, flags_defined, flags_always, writes_registers_always, writes_flags_always}
use Rattle.access_facts.specs.Sets.{may_use, may_def, must_def, read_reaches, write_reaches, sure_reaches, writes_surely, older_behind}
use Rattle.access_facts.proofs.CellLemmas.{filled_written}
use Rattle.access_facts.proofs.MemberLemmas.{picked_has, has_picked}
use Rattle.access_facts.proofs.RiseLemmas.{places_rise}

-- -- They rise

pub use_rises : (cs : List Cell) (v : View) (content : Content) → RisesFrom 0 (may_use cs v content)
unfolding may_use
use_rises cs v content = places_rise (registers_used content) (flags_used content) (is_read (read_reaches v content)) cs

pub def_rises : (image : Image) (cs : List Cell) (v : View) (content : Content) (goes_on : Bool) → RisesFrom 0 (may_def image cs v content goes_on)
unfolding may_def
def_rises image cs v content goes_on = places_rise (registers_defined content) (flags_defined content) (is_written image (write_reaches image v content goes_on)) cs

pub must_rises : (image : Image) (cs : List Cell) (v : View) (content : Content) (goes_on : Bool) → RisesFrom 0 (must_def image cs v content goes_on)
unfolding must_def
must_rises image cs v content goes_on =
    places_rise (registers_always v.state content) (flags_always content) (is_filled (older_behind v content goes_on) (sure_reaches image v content goes_on)) cs

-- -- What must be defined may be

none_picked : {A : Type 0} (n : ℕ) (xs : List A) → picked (λ x. false) n xs ≡ []
unfolding picked
none_picked n [] = refl
none_picked n (x ∷ xs) = none_picked (n + 1) xs

no_registers : (m : ℕ) → Contains (register_places []) m → ⊥
unfolding register_places
no_registers m has = contains-none m (subst (λ ns. Contains ns m) (none_picked 0 all_registers) has)

no_flags : (m : ℕ) → Contains (flag_places []) m → ⊥
unfolding flag_places
no_flags m has = contains-none m (subst (λ ns. Contains ns m) (none_picked 8 all_flags) has)

register_may : (a : AbsState) (content : Content) (m : ℕ) → Contains (register_places (registers_always a content)) m → Contains (register_places (registers_defined content)) m
unfolding registers_always registers_defined
register_may a (Extern k) m has = has
register_may a (Instruction i) m has =
    by_test (writes_registers_always a i.op) has
  where
    by_test : (b : Bool) → Contains (register_places (cond b (registers_written i) [])) m → Contains (register_places (registers_written i)) m
    by_test true has = has
    by_test false has = absurd (no_registers m has)
register_may a Nothing m has = has

flag_may : (content : Content) (m : ℕ) → Contains (flag_places (flags_always content)) m → Contains (flag_places (flags_defined content)) m
unfolding flags_always flags_defined
flag_may (Extern k) m has = has
flag_may (Instruction i) m has = by_test (writes_flags_always i) has
  where
    by_test : (b : Bool) → Contains (flag_places (cond b (flags_written i) [])) m → Contains (flag_places (flags_written i)) m
    by_test true has = has
    by_test false has = absurd (no_flags m has)
flag_may Nothing m has = has

sound_get : (cs : List Cell) (k : ℕ) (c : Cell) → AreSome cs → slice_get cs k ≡ Some c → c.start <ℤ c.end
sound_get [] k c sound there = absurd (cc there)
sound_get (x ∷ xs) zero c sound there = let same : x ≡ c = cc there in subst (λ (y : Cell). y.start <ℤ y.end) same sound.0
sound_get (x ∷ xs) (suc k) c sound there = sound_get xs k c sound.1 there

no_filled : (older : List ℕ) (cs : List Cell) (m : ℕ) → Contains (cell_places (is_filled older []) cs) m → ⊥
no_filled older cs m has = contains-none m (subst (λ ns. Contains ns m) (none_picked 14 cs) has)

filled_may : (image : Image) (older : List ℕ) (rs : List Reach) (cs : List Cell) (m : ℕ) → AreSome cs → AreFormed rs → Contains (cell_places (is_filled older rs) cs) m → Contains (cell_places (is_written image rs) cs) m
filled_may image older rs cs m sound forms has =
    let p = picked_has (is_filled older rs) 14 m cs has in
    subst (Contains (cell_places (is_written image rs) cs)) (sym p.is)
    (has_picked (is_written image rs) 14 p.number p.thing cs p.there (filled_written image older rs p.thing (sound_get cs p.number p.thing sound p.there) forms p.picked))

cell_may : (image : Image) (cs : List Cell) (v : View) (content : Content) (goes_on : Bool) (m : ℕ) → AreSome cs → AreFormed (write_reaches image v content goes_on)
    → Contains (cell_places (is_filled (older_behind v content goes_on) (sure_reaches image v content goes_on)) cs) m → Contains (cell_places (is_written image (write_reaches image v content goes_on)) cs) m
unfolding sure_reaches
cell_may image cs v content goes_on m sound forms has = by_test (writes_surely v content goes_on) has
  where
    by_test : (b : Bool) → Contains (cell_places (is_filled (older_behind v content goes_on) (cond b (write_reaches image v content goes_on) [])) cs) m
        → Contains (cell_places (is_written image (write_reaches image v content goes_on)) cs) m
    by_test true has = filled_may image (older_behind v content goes_on) (write_reaches image v content goes_on) cs m sound forms has
    by_test false has = absurd (no_filled (older_behind v content goes_on) cs m has)

pub must_is_may : (image : Image) (cs : List Cell) (v : View) (content : Content) (goes_on : Bool) (m : ℕ) → AreSome cs → AreFormed (write_reaches image v content goes_on)
    → Contains (must_def image cs v content goes_on) m → Contains (may_def image cs v content goes_on) m
unfolding may_def must_def
must_is_may image cs v content goes_on m sound forms has =
    let rs = register_places (registers_defined content) in
    let fs = flag_places (flags_defined content) in
    let cells = cell_places (is_written image (write_reaches image v content goes_on)) cs in
    let sure_rs = register_places (registers_always v.state content) in
    let sure_fs = flag_places (flags_always content) in
    let sure_cells = cell_places (is_filled (older_behind v content goes_on) (sure_reaches image v content goes_on)) cs in
    ⊎_elim
    (λ core. Contains-append_left (rs ++ fs) cells m
    (⊎_elim (λ r. Contains-append_left rs fs m (register_may v.state content m r)) (λ f. Contains-append_right rs fs m (flag_may content m f)) (Contains-append_cases sure_rs sure_fs m core)))
    (λ c. Contains-append_right (rs ++ fs) cells m (cell_may image cs v content goes_on m sound forms c)) (Contains-append_cases (sure_rs ++ sure_fs) sure_cells m has)
