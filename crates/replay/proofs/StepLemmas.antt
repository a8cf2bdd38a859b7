-- A line tells one step of the machine at most.
use Rattle.std.proofs.Common.{◌≡◌, ◌≢◌, ⊎_elim, ℕ, ◌+◌, ◌-◌, ◌<◌, ◌≤◌, List, [], ◌∷◌, ◌++◌, length, drop, refl, sym, ap, ◌∙◌, subst, arith, length-append, length-drop}
use Rattle.std.proofs.lemmas.List.{append-nil}
use Rattle.std.proofs.lemmas.Bool.Decides.{leb_tells}
use Rattle.image_map.specs.declared.image.Image.{Image}
use Rattle.image_map.specs.declared.region.Kind.TheVariants as kind
use Rattle.image_map.specs.declared.region.Settings.{Settings}
use Rattle.image_map.specs.Whole.{IsImage}
use Rattle.ia32_semantics.specs.State.{State}
use Rattle.ia32_semantics.specs.Machine.{Occurrence}
use Rattle.ia32_semantics.specs.Step.{Act, Executes, Answers}
use Rattle.ia32_run.specs.declared.log.Made.{Made}
use Rattle.ia32_run.specs.Choices.{Spreads, Makes}
use Rattle.ia32_run.specs.Traces.{NoStep, eight_words, IsMade}
use Rattle.ia32_run.proofs.AdvanceLemmas.{spread_more}
use Rattle.ia32_run.proofs.OneTraceLemmas.{cut_end, one_make}
use Rattle.replay.specs.Lines.{IsStepLine}
use Rattle.replay.specs.Replayed.{TellsStep}
use Rattle.replay.specs.Steps.{IsMadeBy, NoStepBy}
use Rattle.replay.proofs.LineLemmas.{one_step}

-- -- Words that are more or fewer

makes_more : (image : Image) (settings : Settings) (words rest left : List ℕ) (o : Occurrence Act) → Makes image settings words left o → Makes image settings (words ++ rest) (left ++ rest) o
makes_more image settings words rest left o m = record { happens = m.happens; spread = spread_more o.act o.before words rest left o.choices m.spread; zeros = m.zeros }

less_left : (words rest front : List ℕ) → words ++ rest ≡ front ++ rest → words ≡ front ++ []
less_left words rest front e = cut_end words front rest e ∙ sym (append-nil front)

-- where just the last words are left, the others are those that were taken
spread_less : (act : Act) (s : State) (words rest choices : List ℕ) → Spreads act s (words ++ rest) rest choices → Spreads act s words [] choices
spread_less (Executes i) s words rest choices e = less_left words rest choices e
spread_less (Answers at (kind.Pure n)) s words rest choices e = less_left words rest choices e
spread_less (Answers at (kind.Reader n)) s words rest choices e = less_left words rest choices e
spread_less (Answers at kind.Stop) s words rest choices e = less_left words rest choices e
spread_less (Answers at kind.Unknown) s words rest choices e = less_left words rest choices e
spread_less (Answers at kind.Alloc) s words rest choices (first, others, size, is_size, seven, are, spread) = (first, others, size, is_size, seven, less_left words rest (first ∷ others) are, spread)
spread_less (Answers at (kind.Fills buffer len)) s words rest choices (first, others, count, is_count, seven, are, spread) = (first, others, count, is_count, seven, less_left words rest (first ∷ others) are, spread)

makes_less : (image : Image) (settings : Settings) (words rest : List ℕ) (o : Occurrence Act) → Makes image settings (words ++ rest) rest o → Makes image settings words [] o
makes_less image settings words rest o m = record { happens = m.happens; spread = spread_less o.act o.before words rest o.choices m.spread; zeros = m.zeros }

-- -- The first eight words

-- the first eight words are some words and others, or some words are the first eight and others
eight_are : (words : List ℕ) → length words ≤ 8 → (pad : List ℕ) × (eight_words words 0 ≡ words ++ pad)
eight_are [] le = (0 ∷ 0 ∷ 0 ∷ 0 ∷ 0 ∷ 0 ∷ 0 ∷ 0 ∷ [], refl)
eight_are (a ∷ []) le = (0 ∷ 0 ∷ 0 ∷ 0 ∷ 0 ∷ 0 ∷ 0 ∷ [], refl)
eight_are (a ∷ b ∷ []) le = (0 ∷ 0 ∷ 0 ∷ 0 ∷ 0 ∷ 0 ∷ [], refl)
eight_are (a ∷ b ∷ c ∷ []) le = (0 ∷ 0 ∷ 0 ∷ 0 ∷ 0 ∷ [], refl)
eight_are (a ∷ b ∷ c ∷ d ∷ []) le = (0 ∷ 0 ∷ 0 ∷ 0 ∷ [], refl)
eight_are (a ∷ b ∷ c ∷ d ∷ e ∷ []) le = (0 ∷ 0 ∷ 0 ∷ [], refl)
eight_are (a ∷ b ∷ c ∷ d ∷ e ∷ f ∷ []) le = (0 ∷ 0 ∷ [], refl)
eight_are (a ∷ b ∷ c ∷ d ∷ e ∷ f ∷ g ∷ []) le = (0 ∷ [], refl)
eight_are (a ∷ b ∷ c ∷ d ∷ e ∷ f ∷ g ∷ h ∷ []) le = ([], refl)
eight_are (a ∷ b ∷ c ∷ d ∷ e ∷ f ∷ g ∷ h ∷ i ∷ rest) le = absurd (omega arith)

eight_then : (words : List ℕ) → 8 < length words → (rest : List ℕ) × (words ≡ eight_words words 0 ++ rest) × (1 ≤ length rest)
eight_then (a ∷ b ∷ c ∷ d ∷ e ∷ f ∷ g ∷ h ∷ i ∷ rest) lt = (i ∷ rest, refl, omega arith)
eight_then (a ∷ b ∷ c ∷ d ∷ e ∷ f ∷ g ∷ h ∷ []) lt = absurd (omega arith)
eight_then (a ∷ b ∷ c ∷ d ∷ e ∷ f ∷ g ∷ []) lt = absurd (omega arith)
eight_then (a ∷ b ∷ c ∷ d ∷ e ∷ f ∷ []) lt = absurd (omega arith)
eight_then (a ∷ b ∷ c ∷ d ∷ e ∷ []) lt = absurd (omega arith)
eight_then (a ∷ b ∷ c ∷ d ∷ []) lt = absurd (omega arith)
eight_then (a ∷ b ∷ c ∷ []) lt = absurd (omega arith)
eight_then (a ∷ b ∷ []) lt = absurd (omega arith)
eight_then (a ∷ []) lt = absurd (omega arith)
eight_then [] lt = absurd (omega arith)

-- a step that takes just some words makes a step with the first eight of them, behind which others may come
record Extends (image : Image) (settings : Settings) (words : List ℕ) (o : Occurrence Act) : Type 0 where
  rest : List ℕ
  left : List ℕ
  makes : Makes image settings (eight_words words 0 ++ rest) left o
  long : length left + length words ≡ 8 + length rest
  few : 8 < length words → left ≡ []

extends : (image : Image) (settings : Settings) (words : List ℕ) (o : Occurrence Act) → Makes image settings words [] o → Extends image settings words o
extends image settings words o m = ⊎_elim
    (λ short.
    let pad = eight_are words short.1 in
    record {
      rest = [];
      left = pad.0;
      makes = subst (λ l. Makes image settings l pad.0 o) (sym (append-nil (eight_words words 0) ∙ pad.1)) (makes_more image settings words pad.0 [] o m);
      long = let all : length (eight_words words 0) ≡ length (words ++ pad.0) = ap (λ (l : List ℕ). length l) pad.1 in let sum = length-append words pad.0 in omega arith;
      few = λ many. absurd (let le = short.1 in omega arith);
    })
    (λ long.
    let cut = eight_then words long.1 in
    record {
      rest = cut.0;
      left = [];
      makes = subst (λ l. Makes image settings l [] o) cut.1 m;
      long = let all : length words ≡ length (eight_words words 0 ++ cut.0) = ap (λ (l : List ℕ). length l) cut.1 in let sum = length-append (eight_words words 0) cut.0 in omega arith;
      few = λ many. refl;
    })
    (leb_tells (length words) 8)

-- -- What a line tells

-- where no step can be made with the first eight words, the line tells none
pub line_faults : (image : Image) (settings : Settings) (line words : List ℕ) (s : State) → IsStepLine line s.eip words → ((rest : List ℕ) → NoStep image settings s (eight_words words 0 ++ rest)) → NoStepBy image settings line s
line_faults image settings line words s form none o is tells =
    let same : tells.words ≡ words = one_step line s.eip tells.words words (subst (λ (b : State). IsStepLine line b.eip tells.words) is tells.form) form in
    let more = extends image settings words o (subst (λ l. Makes image settings l [] o) same tells.makes) in
    (none more.rest).1 more.left o is more.makes

-- a step that was made with the first eight words took as many as the line tells, or the line tells none
pub line_differs : (image : Image) (settings : Settings) (line words : List ℕ) (made : Made) (s after : State) → IsImage image → IsStepLine line s.eip words
    → ((rest : List ℕ) → IsMade image settings (eight_words words 0 ++ rest) (drop made.out.used (eight_words words 0) ++ rest) made s after) → made.out.used ≤ 8 → made.out.used ≢ length words → NoStepBy image settings line s
line_differs image settings line words made s after whole form makes few differs o is tells =
    let same : tells.words ≡ words = one_step line s.eip tells.words words (subst (λ (b : State). IsStepLine line b.eip tells.words) is tells.form) form in
    let more = extends image settings words o (subst (λ l. Makes image settings l [] o) same tells.makes) in
    let also = makes more.rest in
    let one = one_make image settings (eight_words words 0 ++ more.rest) more.left (drop made.out.used (eight_words words 0) ++ more.rest) o also.o whole more.makes also.makes (is ∙ sym also.before_is) in
    let lefts : length more.left ≡ length (drop made.out.used (eight_words words 0) ++ more.rest) = ap (λ (l : List ℕ). length l) one.left_is in
    let sum = length-append (drop made.out.used (eight_words words 0)) more.rest in
    let dropped : length (drop made.out.used (eight_words words 0)) ≡ 8 - made.out.used = length-drop made.out.used (eight_words words 0) in
    let long = more.long in
    differs (omega arith)

-- and where it took just these, it is the step that the line tells
pub line_tells : (image : Image) (settings : Settings) (line words : List ℕ) (made : Made) (s after : State) → IsStepLine line s.eip words
    → ((rest : List ℕ) → IsMade image settings (eight_words words 0 ++ rest) (drop made.out.used (eight_words words 0) ++ rest) made s after) → made.out.used ≤ 8 → made.out.used ≡ length words → IsMadeBy image settings line made s after
line_tells image settings line words made s after form makes few same =
    let one = makes [] in
    let short : length words ≤ 8 = omega arith in
    let pad = eight_are words short in
    let left : drop made.out.used (eight_words words 0) ≡ pad.0 = ap (λ n. drop n (eight_words words 0)) same ∙ ap (drop (length words)) pad.1 ∙ drop_front words pad.0 in
    let taken : Makes image settings (words ++ pad.0) pad.0 one.o
    = subst (λ l. Makes image settings (words ++ pad.0) l one.o) (append-nil (drop made.out.used (eight_words words 0)) ∙ left)
    (subst (λ l. Makes image settings l (drop made.out.used (eight_words words 0) ++ []) one.o) (append-nil (eight_words words 0) ∙ pad.1) one.makes) in
    record {
      o = one.o;
      before_is = one.before_is;
      after_is = one.after_is;
      tells = record {
        words = words;
        form = subst (λ (b : State). IsStepLine line b.eip words) (sym one.before_is) form;
        makes = makes_less image settings words pad.0 one.o taken;
      };
      at = one.at;
      reads = one.reads;
      writes = one.writes;
      forgets = one.forgets;
      finish = one.finish;
    }
  where
    drop_front : (xs ys : List ℕ) → drop (length xs) (xs ++ ys) ≡ ys
    drop_front [] ys = refl
    drop_front (x ∷ xs) ys = drop_front xs ys

-- two steps from one state that a line tells are one
pub one_told : (image : Image) (settings : Settings) (line : List ℕ) (o p : Occurrence Act) → IsImage image → TellsStep image settings line o → TellsStep image settings line p → o.before ≡ p.before → o ≡ p
one_told image settings line o p whole t u start =
    let same : t.words ≡ u.words = one_step line p.before.eip t.words u.words (subst (λ (b : State). IsStepLine line b.eip t.words) start t.form) u.form in
    let one = one_make image settings u.words [] [] o p whole (subst (λ l. Makes image settings l [] o) same t.makes) u.makes start in
    one.same
