-- A session's requests, one after another.
use Rattle.std.proofs.Common.{◌≡◌, ◌≢◌, ⊎_elim, ℕ, suc, ◌<◌, ◌==◌, true, false, cond, List, [], ◌∷◌, ◌++◌, length, get_or, refl, sym, ap, ◌∙◌, subst, arith, append_assoc, append-nil}
use Rattle.std.specs.Prelude.{All}
use Rattle.std.proofs.lemmas.Bool.{eq-eqb}
use Rattle.std.proofs.lemmas.Bool.Decides.{eqb_tells}
use Rattle.requests.specs.declared.request.Request.{Request}
use Rattle.requests.specs.declared.request.Request.TheVariants as asks
use Rattle.service.specs.declared.session.Reply.{Reply}
use Rattle.service.specs.declared.session.Session.{Session}
use Rattle.service.specs.declared.shop.Shop.{Shop}
use Rattle.service.specs.Answers.{AnswersTo}
use Rattle.service.specs.Requests.{IsAskable}
use Rattle.service.specs.Runs.{own_requests, AnswersAll}
use Rattle.service.specs.Seats.{HasLane}

-- after a reply the session's lane is one of the shop's
pub lane_after : (shop : Shop) (old new : Session) (request : Request) (reply : Reply) → HasLane shop old.lane → IsAskable shop request → AnswersTo shop old new request reply → HasLane shop new.lane
lane_after shop old new (asks.Slice at skip_sp) reply h k a = subst (HasLane shop) (sym a.same_lane) h
lane_after shop old new (asks.Values at) reply h k a = subst (HasLane shop) (sym a.same_lane) h
lane_after shop old new asks.Warnings reply h k a = subst (HasLane shop) (sym a.same_lane) h
lane_after shop old new asks.Locations reply h k a = subst (HasLane shop) (sym a.same_lane) h
lane_after shop old new asks.Step reply h k a = subst (HasLane shop) (sym a.same_lane) h
lane_after shop old new (asks.Lane sites) reply h k a = subst (HasLane shop) (sym a.lane_is) k
lane_after shop old new (asks.Forward at skip_sp) reply h k a = absurd k
lane_after shop old new (asks.Chop from to skip_sp) reply h k a = absurd k
lane_after shop old new (asks.Why from to skip_sp) reply h k a = absurd k
lane_after shop old new (asks.Matched at skip_sp) reply h k a = absurd k
lane_after shop old new (asks.Program p) reply h k a = absurd k

-- what is left to answer makes the replies so far those to all
abbrev pub Completes : Shop → ℕ → List (ℕ × Request) → List (ℕ × Request) → Session → Session → List ℕ → Type 0
Completes shop number lines rest old now text =
    (new : Session) (more : List ℕ) → AnswersAll shop (own_requests number rest) now new more → AnswersAll shop (own_requests number lines) old new (text ++ more)

pub completes_none : (shop : Shop) (number : ℕ) (lines : List (ℕ × Request)) (old : Session) → Completes shop number lines lines old old []
completes_none shop number lines old new more h = h

own_first : (number : ℕ) (line : ℕ × Request) (lines : List (ℕ × Request)) → (line.0 == number) ≡ true → own_requests number (line ∷ lines) ≡ line.1 ∷ own_requests number lines
unfolding own_requests
own_first number line lines e = ap (λ b. cond b (line.1 ∷ own_requests number lines) (own_requests number lines)) e

own_other : (number : ℕ) (line : ℕ × Request) (lines : List (ℕ × Request)) → (line.0 == number) ≡ false → own_requests number (line ∷ lines) ≡ own_requests number lines
unfolding own_requests
own_other number line lines e = ap (λ b. cond b (line.1 ∷ own_requests number lines) (own_requests number lines)) e

pub completes_other : (shop : Shop) (number : ℕ) (lines after : List (ℕ × Request)) (line : ℕ × Request) (old now : Session) (text : List ℕ) → (line.0 == number) ≡ false
    → Completes shop number lines (line ∷ after) old now text → Completes shop number lines after old now text
completes_other shop number lines after line old now text e c new more h = c new more (subst (λ qs. AnswersAll shop qs now new more) (sym (own_other number line after e)) h)

pub completes_more : (shop : Shop) (number : ℕ) (lines after : List (ℕ × Request)) (line : ℕ × Request) (old now next : Session) (reply : Reply) (text : List ℕ) → (line.0 == number) ≡ true
    → AnswersTo shop now next line.1 reply → Completes shop number lines (line ∷ after) old now text → Completes shop number lines after old next (text ++ next.page)
unfolding AnswersAll
completes_more shop number lines after line old now next reply text e a c new more h =
    subst (λ ws. AnswersAll shop (own_requests number lines) old new ws) (sym (append_assoc text next.page more))
    (c new (next.page ++ more) (subst (λ qs. AnswersAll shop qs now new (next.page ++ more)) (sym (own_first number line after e))
    (record { mid = next; reply = reply; rest = more; answers = a; text_is = refl; goes_on = h })))

pub completes_all : (shop : Shop) (number : ℕ) (lines : List (ℕ × Request)) (old now : Session) (text : List ℕ) → Completes shop number lines [] old now text → AnswersAll shop (own_requests number lines) old now (text ++ [])
unfolding AnswersAll own_requests
completes_all shop number lines old now text c = c now [] (refl, refl, refl)

pub all_tail : {A : Type 0} (P : A → Type 0) (xs ys : List A) (x : A) → xs ≡ x ∷ ys → All P xs → All P ys
all_tail P xs ys x e h k d lt = subst (λ zs. (i : ℕ) → i < length zs → P (get_or zs i d)) e (λ i. h i d) (suc k) (omega (arith, lt))

pub all_head : {A : Type 0} (P : A → Type 0) (xs ys : List A) (x : A) → xs ≡ x ∷ ys → All P xs → P x
all_head P xs ys x e h = subst (λ zs. (i : ℕ) → i < length zs → P (get_or zs i x)) e (λ i. h i x) 0 (omega arith)

not_eqb : (a b : ℕ) → a ≢ b → (a == b) ≡ false
not_eqb a b ne = ⊎_elim (λ t. absurd (ne t.1)) (λ t. t.0) (eqb_tells a b)

-- how a session goes on after a line
module _ (shop : Shop) (number : ℕ) (lines rest after : List (ℕ × Request)) (line : ℕ × Request) (old now : Session) (text : List ℕ) (e : rest ≡ line ∷ after) where
  pub passes_line : (n : ℕ) → n ≡ number → line.0 ≢ n → Completes shop number lines rest old now text → Completes shop number lines after old now text
  passes_line n is other c = completes_other shop number lines after line old now text (not_eqb line.0 number (subst (λ m. line.0 ≢ m) is other)) (subst (λ ls. Completes shop number lines ls old now text) e c)

  pub answers_line : (n : ℕ) (next : Session) (reply : Reply) (page all : List ℕ) → n ≡ number → line.0 ≡ n → AnswersTo shop now next line.1 reply → page ≡ next.page → all ≡ text ++ page → Completes shop number lines rest old now text → Completes shop number lines after old next all
  answers_line n next reply page all is own a shows put c =
      subst (λ ws. Completes shop number lines after old next ws) (sym (put ∙ ap (λ ws. text ++ ws) shows))
      (completes_more shop number lines after line old now next reply text (eq-eqb line.0 number (own ∙ is)) a (subst (λ ls. Completes shop number lines ls old now text) e c))

pub answers_end : (shop : Shop) (number : ℕ) (lines rest : List (ℕ × Request)) (old now : Session) (text : List ℕ) → length rest ≡ 0 → Completes shop number lines rest old now text → AnswersAll shop (own_requests number lines) old now text
answers_end shop number lines [] old now text e c = subst (λ ws. AnswersAll shop (own_requests number lines) old now ws) (append-nil text) (completes_all shop number lines old now text c)
answers_end shop number lines (line ∷ rest) old now text e c = absurd (omega (arith, e))
