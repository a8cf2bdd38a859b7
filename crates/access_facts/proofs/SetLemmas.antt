-- The places of a node from what the code has.
use Rattle.std.proofs.Common.{◌≡◌, ℕ, Bool, true, false, cond, List, [], ◌∷◌, ◌++◌, refl, sym, ◌∙◌, ap}
use Rattle.image_map.specs.declared.image.Image.{Image}
use Rattle.image_map.specs.declared.region.Cell.{Cell}
use Rattle.std.specs.Prelude.{Some, None, slice_get}
use Rattle.abs_semantics.specs.States.{AbsState, has_procedure}
use Rattle.abs_semantics.specs.Joins.{with_number}
use Rattle.abs_steps.specs.Calls.{grown_old, grown_old_if_live}
use Rattle.abs_steps.specs.Views.{View}
use Rattle.abs_steps.specs.Places.{Content}
use Rattle.access_facts.specs.declared.reach.Reach.{Reach}
use Rattle.access_facts.specs.Places.{register_places, flag_places, cell_places}
use Rattle.access_facts.specs.CellSets.{is_read, is_written, is_filled}
use Rattle.access_facts.specs.Cores.{registers_used, registers_defined, registers_always, flags_used, flags_defined, flags_always}
use Rattle.access_facts.specs.Sets.{may_use, may_def, must_def, older_after, older_behind, read_reaches, sure_reaches, write_reaches, writes_surely}

pub used_are : (cs : List Cell) (v : View) (content : Content) (reads : List Reach) (places : List ℕ) → reads ≡ read_reaches v content
    → places ≡ register_places (registers_used content) ++ flag_places (flags_used content) ++ cell_places (is_read reads) cs → places ≡ may_use cs v content
unfolding may_use
used_are cs v content reads places is e = e ∙ ap (λ rs. register_places (registers_used content) ++ flag_places (flags_used content) ++ cell_places (is_read rs) cs) is

pub defined_are : (image : Image) (cs : List Cell) (v : View) (content : Content) (goes_on : Bool) (writes : List Reach) (places : List ℕ) → writes ≡ write_reaches image v content goes_on
    → places ≡ register_places (registers_defined content) ++ flag_places (flags_defined content) ++ cell_places (is_written image writes) cs → places ≡ may_def image cs v content goes_on
unfolding may_def
defined_are image cs v content goes_on writes places is e =
    e ∙ ap (λ rs. register_places (registers_defined content) ++ flag_places (flags_defined content) ++ cell_places (is_written image rs) cs) is

pub always_are : (image : Image) (cs : List Cell) (v : View) (content : Content) (goes_on : Bool) (older : List ℕ) (writes : List Reach) (places : List ℕ) → older ≡ older_behind v content goes_on → writes ≡ sure_reaches image v content goes_on
    → places ≡ register_places (registers_always v.state content) ++ flag_places (flags_always content) ++ cell_places (is_filled older writes) cs → places ≡ must_def image cs v content goes_on
unfolding must_def
always_are image cs v content goes_on older writes places are is e =
    e ∙ ap (λ rs. register_places (registers_always v.state content) ++ flag_places (flags_always content) ++ cell_places (is_filled older rs) cs) is
    ∙ ap (λ os. register_places (registers_always v.state content) ++ flag_places (flags_always content) ++ cell_places (is_filled os (sure_reaches image v content goes_on)) cs) are

pub sure_are : (image : Image) (v : View) (content : Content) (goes_on sure : Bool) (writes : List Reach) → sure ≡ writes_surely v content goes_on → writes ≡ write_reaches image v content goes_on
    → cond sure writes [] ≡ sure_reaches image v content goes_on
unfolding sure_reaches
sure_are image v content goes_on sure writes is are = ap (λ b. cond b writes []) is ∙ ap (λ ws. cond (writes_surely v content goes_on) ws []) are

older_by_test : (a : AbsState) (t : ℕ) (b : Bool) → has_procedure t a.live ≡ b → (grown_old_if_live t a).older ≡ cond b (with_number t a.older) a.older
older_by_test a t b is = ap (λ c. (cond c (grown_old t a) a).older) is ∙ by_test b
  where
    by_test : (b : Bool) → (cond b (grown_old t a) a).older ≡ cond b (with_number t a.older) a.older
    by_test true = refl
    by_test false = refl

pub older_of_none : (a : AbsState) (older ts : List ℕ) → slice_get ts 0 ≡ None → older ≡ a.older → older ≡ older_after a ts
older_of_none a older [] none is = is
older_of_none a older (t ∷ ts) none is = absurd (cc none)

pub older_of_first : (a : AbsState) (older ts : List ℕ) (t : ℕ) → slice_get ts 0 ≡ Some t → older ≡ cond (has_procedure t a.live) (with_number t a.older) a.older → older ≡ older_after a ts
older_of_first a older [] t some is = absurd (cc some)
older_of_first a older (u ∷ us) t some is =
    let same : u ≡ t = cc some in
    is ∙ sym (older_by_test a t (has_procedure t a.live) refl) ∙ ap (λ n. (grown_old_if_live n a).older) (sym same)

pub kept_if : {A : Type 0} (b : Bool) (x y z : A) → b ≡ false → x ≡ y → x ≡ cond b z y
kept_if b x y z isnt is = is ∙ sym (ap (λ c. cond c z y) isnt)

pub put_if_there : {A : Type 0} (b : Bool) (x y z : A) → b ≡ true → x ≡ z → x ≡ cond b z y
put_if_there b x y z is e = e ∙ sym (ap (λ c. cond c z y) is)
