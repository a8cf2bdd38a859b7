-- How a set of cuts grows, step by step.
use Rattle.std.proofs.Common.{◌≤◌, ◌⊎◌, inl, inr, ⊎_elim, List, [], ◌++◌, length, sym, subst, ap, ◌∙◌, append_assoc, append-nil}
use Rattle.std.specs.Prelude.{Contains}
use Rattle.std.specs.declared.result.Result.{Result}
use Rattle.std.specs.declared.result.Result.TheVariants.{Ok, Err}
use Rattle.std.proofs.lemmas.List.Elements.{Contains-append_left, Contains-append_cases}
use Rattle.alocs.proofs.MemberLaws.{contains-none}
use Rattle.asi_cuts.specs.declared.set.Cut.{Cut}
use Rattle.asi_cuts.specs.declared.set.Halt.{Halt}
use Rattle.asi_cuts.specs.declared.set.Halt.TheVariants.{TooMany, Memory}
use Rattle.asi_cuts.specs.Adding.{Grows, Adds}

-- so far: only cuts as P says are added, among them all as Done says
pub record Reached (P Done : Cut → Type 0) (old now : List Cut) : Type 0 where
  pub grows : Grows P old now
  pub has : (x : Cut) → Done x → Contains now x
  pub few : length now ≤ 1024

pub grows_none : (P : Cut → Type 0) (old : List Cut) → Grows P old old
grows_none P old = record { more = []; is = sym (append-nil old); each = λ x h. absurd (contains-none x h) }

pub grows_then : (P Q : Cut → Type 0) (old mid new : List Cut) → ((x : Cut) → Q x → P x) → Grows P old mid → Grows Q mid new → Grows P old new
grows_then P Q old mid new weaker a b = record {
  more = a.more ++ b.more;
  is = b.is ∙ (ap (λ l. l ++ b.more) a.is ∙ append_assoc old a.more b.more);
  each = λ x h. ⊎_elim (λ q. a.each x q) (λ q. weaker x (b.each x q)) (Contains-append_cases a.more b.more x h);
}

pub kept_there : (P : Cut → Type 0) (old new : List Cut) (x : Cut) → Grows P old new → Contains old x → Contains new x
kept_there P old new x g h = subst (λ (l : List Cut). Contains l x) (sym g.is) (Contains-append_left old g.more x h)

pub reach_begin : (P Done : Cut → Type 0) (old : List Cut) → length old ≤ 1024 → ((x : Cut) → Done x → Contains old x) → Reached P Done old old
reach_begin P Done old few none = record { grows = grows_none P old; has = none; few = few }

pub reach_more : (P Q Done More : Cut → Type 0) (old now new : List Cut) → Reached P Done old now → Adds Q now new (Ok tt) → ((x : Cut) → Q x → P x) → ((x : Cut) → More x → Done x ⊎ (Q x ⊎ Contains now x)) → Reached P More old new
reach_more P Q Done More old now new r a weaker cases = record {
  grows = grows_then P Q old now new weaker r.grows a.0;
  has = λ x h. ⊎_elim (λ q. kept_there Q now new x a.0 (r.has x q)) (λ k. ⊎_elim (λ q. a.1 x q) (λ q. kept_there Q now new x a.0 q) k) (cases x h);
  few = a.2;
}

pub reach_stop : (P Q Done : Cut → Type 0) (old now new : List Cut) (e : Halt) → Reached P Done old now → Adds Q now new (Err e) → ((x : Cut) → Q x → P x) → Adds P old new (Err e)
reach_stop P Q Done old now new TooMany r a weaker = (grows_then P Q old now new weaker r.grows a.0, a.1)
reach_stop P Q Done old now new Memory r a weaker = tt

pub reach_end : (P Done : Cut → Type 0) (old now : List Cut) → Reached P Done old now → ((x : Cut) → P x → Done x ⊎ Contains now x) → Adds P old now (Ok tt)
reach_end P Done old now r all = (r.grows, λ x h. ⊎_elim (λ q. r.has x q) (λ q. q) (all x h), r.few)

-- the same where one more call ends it
pub reach_last : (P Q Done : Cut → Type 0) (old now new : List Cut) (r : Result (Unit {0}) Halt) → Reached P Done old now → Adds Q now new r → ((x : Cut) → Q x → P x) → ((x : Cut) → P x → Done x ⊎ (Q x ⊎ Contains now x)) → Adds P old new r
reach_last P Q Done old now new (Ok tt) r a weaker all = let m = reach_more P Q Done P old now new r a weaker all in reach_end P P old new m (λ x h. inl h)
reach_last P Q Done old now new (Err e) r a weaker all = reach_stop P Q Done old now new e r a weaker

-- two ways to say what is added
pub adds_like : (P Q : Cut → Type 0) (old new : List Cut) (r : Result (Unit {0}) Halt) → length old ≤ 1024 → Adds Q old new r → ((x : Cut) → Q x → P x) → ((x : Cut) → P x → Q x ⊎ Contains old x) → Adds P old new r
adds_like P Q old new r few a weaker all = reach_last P Q (λ x. ⊥) old old new r (reach_begin P (λ x. ⊥) old few (λ x h. absurd h)) a weaker (λ x h. inr (all x h))

-- nothing is added
pub adds_none : (P : Cut → Type 0) (old : List Cut) → length old ≤ 1024 → ((x : Cut) → P x → Contains old x) → Adds P old old (Ok tt)
adds_none P old few all = (grows_none P old, all, few)

-- two calls, one after the other
pub two_steps : (P Q R : Cut → Type 0) (old mid new : List Cut) (r : Result (Unit {0}) Halt) → length old ≤ 1024 → Adds Q old mid (Ok tt) → Adds R mid new r → ((x : Cut) → Q x → P x) → ((x : Cut) → R x → P x) → ((x : Cut) → P x → Q x ⊎ R x) → Adds P old new r
two_steps P Q R old mid new r few a b first second all =
    reach_last P R Q old mid new r (reach_more P Q (λ x. ⊥) Q old old mid (reach_begin P (λ x. ⊥) old few (λ x h. absurd h)) a first (λ x h. inr (inl h))) b second
    (λ x h. ⊎_elim (λ q. inl q) (λ q. inr (inl q)) (all x h))

pub first_stops : (P Q : Cut → Type 0) (old new : List Cut) (e : Halt) → length old ≤ 1024 → Adds Q old new (Err e) → ((x : Cut) → Q x → P x) → Adds P old new (Err e)
first_stops P Q old new e few a weaker = reach_stop P Q (λ x. ⊥) old old new e (reach_begin P (λ x. ⊥) old few (λ x h. absurd h)) a weaker

pub second_stops : (P Q R : Cut → Type 0) (old mid new : List Cut) (e : Halt) → length old ≤ 1024 → Adds Q old mid (Ok tt) → Adds R mid new (Err e) → ((x : Cut) → Q x → P x) → ((x : Cut) → R x → P x) → Adds P old new (Err e)
second_stops P Q R old mid new e few a b first second =
    reach_stop P R Q old mid new e (reach_more P Q (λ x. ⊥) Q old old mid (reach_begin P (λ x. ⊥) old few (λ x h. absurd h)) a first (λ x h. inr (inl h))) b second
