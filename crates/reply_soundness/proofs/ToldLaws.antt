-- Replies about a round without warnings tell of each run.
use Rattle.std.proofs.Common.{◌≡◌, ⊎_elim, ℕ, List, [], ◌∷◌, ◌++◌, length, refl, sym, ap, subst, ◌∙◌, append_assoc, append-nil}
use Rattle.std.specs.Prelude.{Contains, codes}
use Rattle.std.specs.List.{flat_map}
use Rattle.std.specs.Fmt.{decimal}
use Rattle.image_map.specs.declared.image.Image.{Image}
use Rattle.image_map.specs.declared.region.Settings.{Settings}
use Rattle.alocs.proofs.MemberLaws.{contains-cases, contains-none}
use Rattle.requests.specs.Texts.{address_line, first_line, last_line, listed, why_text}
use Rattle.slicer.specs.Slicer.{IsSlice}
use Rattle.chops.specs.declared.hops.Hop.{Hop}
use Rattle.chops.specs.Chops.{IsForwardSlice, IsChop}
use Rattle.vsa.specs.declared.warning.Warning.{Warning}
use Rattle.rounds.specs.declared.round.Round.{Round}
use Rattle.round_texts.specs.Warnings.{warning_count}
use Rattle.round_answers.specs.declared.question.Question.{Question}
use Rattle.round_answers.specs.declared.question.Question.TheVariants as asks
use Rattle.round_answers.specs.Replies.{EdgeOf, IsMatchedSlice, Lists, arrows_of, IsOwnReply, has_some, unless_none, IsReply}
use Rattle.round_soundness.specs.Quiet.{IsQuietRound}
use Rattle.round_soundness.proofs.ArrowLaws.{round_lists, way_told}
use Rattle.matched_soundness.specs.Laws.{kinds_in}
use Rattle.matched_soundness.proofs.MatchLaws.{matches_listed}
use Rattle.reply_soundness.specs.Told.{HasLine, TellsArrows, TellsRuns}

-- -- Lines

-- the line of an address stands among those of all
among : (rest : List ℕ) (a : ℕ) (addresses : List ℕ) → Contains addresses a → HasLine (flat_map address_line addresses ++ rest) a
among rest a [] has = absurd (contains-none a has)
among rest a (b ∷ others) has =
    ⊎_elim
    (λ (same : b ≡ a).
    ([], flat_map address_line others ++ rest, append_assoc (address_line b) (flat_map address_line others) rest ∙ ap (λ c. address_line c ++ (flat_map address_line others ++ rest)) same))
    (λ later.
    let line = among rest a others later in (
      address_line b ++ line.0,
      line.1,
      append_assoc (address_line b) (flat_map address_line others) rest ∙ ap (λ text. address_line b ++ text) line.2 ∙ sym (append_assoc (address_line b) line.0 (address_line a ++ line.1)),
    ))
    (contains-cases b others a has)

in_list : (word asked : List ℕ) (round lane : ℕ) (addresses : List ℕ) (warnings a : ℕ) → Contains addresses a → HasLine (listed word asked round lane addresses warnings) a
in_list word asked round lane addresses warnings a has =
    let first = first_line word asked round lane in
    let line = among (last_line (decimal (length addresses)) (codes " addresses ") warnings) a addresses has in
    (first ++ line.0, line.1, ap (λ text. first ++ text) line.2 ∙ sym (append_assoc first line.0 (address_line a ++ line.1)))

in_text : (r : Round) (word asked : List ℕ) (Are : List ℕ → Type 0) (text : List ℕ) (lists : Lists r word asked Are text) (a : ℕ) → Contains lists.addresses a → HasLine text a
in_text r word asked Are text lists a has = subst (λ t. HasLine t a) (sym lists.text_is) (in_list word asked r.number r.lane lists.addresses (warning_count r) a has)

-- -- Replies

module _ (image : Image) (settings : Settings) (r : Round) (quiet : IsQuietRound image settings r) where
  arrows_told : (from to : ℕ) (text : List ℕ) (hops : List Hop) → ¬ (hops ≡ []) → text ≡ why_text from to r.number r.lane (arrows_of hops) (warning_count r) → TellsArrows from to text
  arrows_told from to text [] some e = absurd (some refl)
  arrows_told from to text (first ∷ hops) some e = record { arrows = _; round = r.number; lane = r.lane; warnings = warning_count r; text_is = e }

  own_tells : (question : Question) (text : List ℕ) → IsOwnReply image settings r question text → TellsRuns image settings question text
  own_tells (asks.Slice at skip_sp) text lists =
      λ run is_run j i criterion source there is at_i depends. in_text r (codes "slice") (at ∷ []) (IsSlice (EdgeOf r skip_sp) r.graph.flow.nodes at) text lists _
      (round_lists image settings r quiet run is_run skip_sp at lists.addresses lists.are j i criterion source there is at_i depends)
  own_tells (asks.Matched at skip_sp) text lists =
      λ run is_run j i criterion source there is at_i depends. in_text r (codes "matched") (at ∷ []) (IsMatchedSlice (kinds_in image settings r) r at skip_sp) text lists _
      (matches_listed image settings r quiet run is_run skip_sp lists.are.ordinary lists.are.sp lists.are.control lists.are.matches at lists.addresses lists.are.are j i criterion source there is at_i depends)
  own_tells (asks.Forward at skip_sp) text lists =
      λ run is_run to j i depends. in_text r (codes "forward") (at ∷ []) (IsForwardSlice (EdgeOf r skip_sp) r.graph.flow.nodes at) text lists to
      ((way_told image settings r quiet run is_run skip_sp at to j i depends).forward lists.addresses lists.are)
  own_tells (asks.Chop from at skip_sp) text lists =
      λ run is_run j i depends k way. in_text r (codes "chop") (from ∷ at ∷ []) (IsChop (EdgeOf r skip_sp) r.graph.flow.nodes from at) text lists _
      ((way_told image settings r quiet run is_run skip_sp from at j i depends).chop lists.addresses lists.are k way)
  own_tells (asks.Why from at skip_sp) text tells =
      λ run is_run j i depends. arrows_told from at text tells.hops ((way_told image settings r quiet run is_run skip_sp from at j i depends).why tells.hops tells.are) tells.text_is
  own_tells (asks.Values at) text own = tt
  own_tells asks.Locations text own = tt
  own_tells asks.Graph text own = tt

  -- nothing stands behind the reply itself
  alone : (warnings : List Warning) (own behind : List ℕ) → warnings ≡ [] → own ++ unless_none (has_some warnings) behind ≡ own
  alone [] own behind none = append-nil own
  alone (w ∷ ws) own behind none = absurd (cc none)

  pub reply_tells : (question : Question) (text : List ℕ) → IsReply image settings r question text → TellsRuns image settings question text
  reply_tells question text reply =
      subst (TellsRuns image settings question) (sym (reply.text_is ∙ alone r.warnings.items reply.own _ quiet.none)) (own_tells question reply.own reply.is_own)
