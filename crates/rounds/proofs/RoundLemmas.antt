-- What a round has, by what was found for it.
use Rattle.std.proofs.Common.{Bool, ◌≡◌, ◌≢◌, ◌≤◌, inl, ℕ, zero, suc, ◌+◌, List, refl, sym, subst, ap, ◌∙◌, arith}
use Rattle.image_map.specs.declared.image.Image.{Image}
use Rattle.image_map.specs.declared.image.Segment.{Segment}
use Rattle.image_map.specs.declared.region.Settings.{Settings}
use Rattle.image_map.specs.CallModel.{AreSettings}
use Rattle.alocs.specs.declared.cells.CutList.{CutList}
use Rattle.alocs.specs.Cells.{Division}
use Rattle.alocs.specs.Extents.{AreOfImage}
use Rattle.abs_steps.specs.Successors.{States}
use Rattle.vsa.specs.declared.states.States.{States as HeldStates}
use Rattle.vsa.specs.Analysis.{analysis_of}
use Rattle.vsa.specs.Swept.{analysed, placed_in}
use Rattle.vsa.specs.Views.{told}
use Rattle.rounds.specs.Next.{AreNext, IsLast}
use Rattle.access_facts.specs.Facts.{constraints}
use Rattle.access_facts.specs.Flow.{flow}
use Rattle.access_facts.specs.Kept.{kept_lists}
use Rattle.first_cuts.specs.FirstCuts.{first_lists}
use Rattle.item_list.proofs.TruthLaws.{same_test}
use Rattle.vsa.specs.Warned.{map_warnings}
use Rattle.rounds.specs.declared.round.Round.{Round}
use Rattle.rounds.specs.Rounds.{HasCells, IsRound, map_with}
use Rattle.rounds.proofs.OneLemmas.{one_image, one_least}

-- -- Cells

-- lists and an image divide in one way
pub one_division : (segments : List Segment) (lists : List CutList) (d e : Division) → d.lists ≡ lists → e.lists ≡ lists → AreOfImage segments d.image → AreOfImage segments e.image → d ≡ e
one_division segments lists d e p q a b =
    let listed : d.lists ≡ e.lists = p ∙ sym q in
    let image : d.image ≡ e.image = one_image segments d.image e.image a b in
    λ i. record { lists = listed i; image = image i }

pub told_is : (image : Image) (settings : Settings) (lane : ℕ) (own cells : Division) (s : HeldStates) → own ≡ cells → (told s).placed ≡ placed_in (analysed (analysis_of image settings own lane)) → s.lane ≡ lane → s.cells ≡ own
    → told s ≡ map_with image settings lane cells
told_is image settings lane own cells s one placed lanes is =
    let there : (told s).placed ≡ placed_in (analysed (analysis_of image settings cells lane)) = placed ∙ ap (λ (d : Division). placed_in (analysed (analysis_of image settings d lane))) one in
    let division : s.cells ≡ cells = is ∙ one in
    λ i. record { lane = lanes i; cells = division i; placed = there i }

pub full_is : (image : Image) (settings : Settings) (lane : ℕ) (own cells : Division) (full : Bool) → own ≡ cells → full ≡ (analysed (analysis_of image settings own lane)).full → full ≡ (analysed (analysis_of image settings cells lane)).full
full_is image settings lane own cells full one is = is ∙ ap (λ (d : Division). (analysed (analysis_of image settings d lane)).full) one

-- -- Numbers

-- a round's number is below that of the rounds
pub within_rounds : (image : Image) (settings : Settings) (externs lane n : ℕ) (d : Division) → AreSettings externs settings → HasCells image settings lane n d → n + 1 ≤ settings.rounds
within_rounds image settings externs lane zero d given h = given.some_round
within_rounds image settings externs lane (suc n) d given h =
    let below : n + 1 ≤ settings.rounds = within_rounds image settings externs lane n h.1.before given h.1.is_of_round in
    let other : n + 1 ≢ settings.rounds = λ e. h.1.goes_on (inl e) in
    omega arith

-- the cells behind a round that isn't the last
pub cells_behind : (image : Image) (settings : Settings) (lane n m : ℕ) (before d : Division) (s : States) (lists : List CutList) → m ≡ n + 1 → s ≡ map_with image settings lane before → HasCells image settings lane n before
    → ¬ IsLast image settings n s → AreNext image settings n s lists → d.lists ≡ lists → AreOfImage image.segments d.image → HasCells image settings lane m d
cells_behind image settings lane n m before d s lists number is has goes_on next listed extents =
    let behind : HasCells image settings lane (suc n) d = (
      extents,
      record {
        before = before;
        is_of_round = has;
        goes_on = subst (λ (t : States). ¬ IsLast image settings n t) is goes_on;
        lists = subst (λ (t : States). AreNext image settings n t d.lists) is (subst (λ (ls : List CutList). AreNext image settings n s ls) (sym listed) next);
      },
    ) in
    let same : suc n ≡ m = omega arith in
    subst (λ k. HasCells image settings lane k d) same behind

-- the extents of a round's cells are those of the image
pub of_image : (image : Image) (settings : Settings) (lane n : ℕ) (d e : Division) → HasCells image settings lane n d → e ≡ d → AreOfImage image.segments e.image
of_image image settings lane zero d e h same = subst (λ (k : Division). AreOfImage image.segments k.image) (sym same) h.0
of_image image settings lane (suc n) d e h same = subst (λ (k : Division). AreOfImage image.segments k.image) (sym same) h.0

pub one_more : (m n : ℕ) → m + 1 ≤ n → m + 1 ≢ n → m + 1 + 1 ≤ n
one_more m n few other = omega arith

-- -- Numbers settle rounds

pub one_cells : (image : Image) (settings : Settings) (lane n : ℕ) (d e : Division) → HasCells image settings lane n d → HasCells image settings lane n e → d ≡ e
one_cells image settings lane zero d e h k = one_division image.segments (first_lists image) d e h.1 k.1 h.0 k.0
one_cells image settings lane (suc n) d e h k =
    let same : h.1.before ≡ k.1.before = one_cells image settings lane n h.1.before k.1.before h.1.is_of_round k.1.is_of_round in
    let s = map_with image settings lane h.1.before in
    let next : AreNext image settings n s e.lists = subst (λ (b : Division). AreNext image settings n (map_with image settings lane b) e.lists) (sym same) k.1.lists in
    one_division image.segments e.lists d e (one_least (kept_lists image n s) (constraints image settings s) image.segments d.lists e.lists h.1.lists next) refl h.0 k.0

pub one_map : (image : Image) (settings : Settings) (r q : Round) → IsRound image settings r → IsRound image settings q → r.number ≡ q.number → r.lane ≡ q.lane → told r.states ≡ told q.states
one_map image settings r q a b number lane =
    let there : HasCells image settings q.lane q.number r.cells = subst (λ k. HasCells image settings k q.number r.cells) lane (subst (λ k. HasCells image settings r.lane k r.cells) number a.cells) in
    let cells : r.cells ≡ q.cells = one_cells image settings q.lane q.number r.cells q.cells there b.cells in
    a.states ∙ (λ i. map_with image settings (lane i) (cells i)) ∙ sym b.states

pub one_full : (image : Image) (settings : Settings) (r q : Round) → IsRound image settings r → IsRound image settings q → r.number ≡ q.number → r.lane ≡ q.lane → r.states.full ≡ q.states.full
one_full image settings r q a b number lane =
    let there : HasCells image settings q.lane q.number r.cells = subst (λ k. HasCells image settings k q.number r.cells) lane (subst (λ k. HasCells image settings r.lane k r.cells) number a.cells) in
    let cells : r.cells ≡ q.cells = one_cells image settings q.lane q.number r.cells q.cells there b.cells in
    a.full ∙ (λ i. (analysed (analysis_of image settings (cells i) (lane i))).full) ∙ sym b.full

pub one_warnings : (image : Image) (settings : Settings) (r q : Round) → IsRound image settings r → IsRound image settings q → r.number ≡ q.number → r.lane ≡ q.lane → r.warnings.items ≡ q.warnings.items
one_warnings image settings r q a b number lane =
    let map : told r.states ≡ told q.states = one_map image settings r q a b number lane in
    let full : r.states.full ≡ q.states.full = one_full image settings r q a b number lane in
    a.warnings ∙ (λ i. map_warnings image settings (map i) (full i)) ∙ sym b.warnings

pub one_flow : (image : Image) (settings : Settings) (r q : Round) → IsRound image settings r → IsRound image settings q → r.number ≡ q.number → r.lane ≡ q.lane → r.graph.flow.nodes ≡ q.graph.flow.nodes
one_flow image settings r q a b number lane = a.flow ∙ ap (flow image settings) (one_map image settings r q a b number lane) ∙ sym b.flow

pub one_last : (image : Image) (settings : Settings) (r q : Round) → IsRound image settings r → IsRound image settings q → r.number ≡ q.number → r.lane ≡ q.lane → r.last ≡ q.last
one_last image settings r q a b number lane =
    let map : told r.states ≡ told q.states = one_map image settings r q a b number lane in
    same_test r.last q.last
    (λ h. b.last.1 (subst (λ (s : States). IsLast image settings q.number s) map (subst (λ k. IsLast image settings k (told r.states)) number (a.last.0 h))))
    (λ h. a.last.1 (subst (λ (s : States). IsLast image settings r.number s) (sym map) (subst (λ k. IsLast image settings k (told q.states)) (sym number) (b.last.0 h))))
