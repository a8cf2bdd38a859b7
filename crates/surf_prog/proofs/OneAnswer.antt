-- A query is answered in one way at most.
use Rattle.std.proofs.Common.{◌≡◌, ℕ, zero, suc, ◌+◌, List, [], ◌∷◌, Option, sym, ◌∙◌, subst}
use Rattle.std.specs.Prelude.{take}
use Rattle.std.proofs.lemmas.Option.{same_Some}
use Rattle.ia32_types.specs.declared.Instr.{Instr}
use Rattle.ia32_types.specs.Spells.{Spells}
use Rattle.image_map.specs.declared.image.Image.{Image}
use Rattle.elf32.specs.Loading.{Loads}
use Rattle.surf_prog.specs.declared.words.Task.{Task}
use Rattle.surf_prog.specs.declared.words.Task.TheVariants as task
use Rattle.ia32_semantics.specs.Fetch.{fetch_window, longest_instruction, IsFetched}
use Rattle.surf_prog.specs.Listing.{StandsAt, Follow, IsListing}
use Rattle.surf_prog.specs.Once.{RepliesAt, AbsentAt, IsListReply, first_place}
use Rattle.surf_prog.specs.OneAnswer.{RepliesAreOne, ShowsCode, ListsAreOne, AbsencesAreOne, ImagesPass, OutcomesExclude}
use Rattle.surf_prog.proofs.FileImage.{same_run, one_place}
use Rattle.surf_prog.proofs.OneTrace.{one_tracing}
use Rattle.surf_prog.proofs.RoundLaws.{one_round_reply, one_absence}
use Rattle.surf_prog.proofs.RequestLaws.{at_once, enters_once, loads_passes, reply_in_time, absence_in_time, reply_present}

-- -- Lists, by whatever image of the file

moved_fetched : (file : List ℕ) (i j : Image) → Loads file i → Loads file j → (a : ℕ) (x : Instr) → IsFetched i a x → IsFetched j a x
moved_fetched file i j p q a x fetched =
    let window : fetch_window i a ≡ fetch_window j a = same_run file i j p q a longest_instruction in
    record { count = fetched.count; spelled = subst (λ w. Spells (take fetched.count w) a x) window fetched.spelled }

moved_stands : (file : List ℕ) (i j : Image) → Loads file i → Loads file j → (a : ℕ) (x : Instr) → StandsAt i a x → StandsAt j a x
moved_stands file i j p q a x stands = (stands.0, moved_fetched file i j p q a x stands.1)

moved_follow : (file : List ℕ) (i j : Image) → Loads file i → Loads file j → (n a : ℕ) (xs : List Instr) → Follow i n a xs → Follow j n a xs
unfolding Follow
moved_follow file i j p q zero a xs follow = follow
moved_follow file i j p q (suc n) a [] none = λ x stands. none x (moved_stands file j i q p a x stands)
moved_follow file i j p q (suc n) a (x ∷ xs) follow = (moved_stands file i j p q a x follow.0, moved_follow file i j p q n (a + x.len) xs follow.1)

one_list_reply : (file : List ℕ) (i j : Image) (place : ℕ) (from : Option ℕ) (steps : ℕ) (one other : List ℕ) → Loads file i → Loads file j → IsListReply i place from steps one → IsListReply j place from steps other → one ≡ other
one_list_reply file i j place from steps one other l m p q =
    let there = q.1.0 in
    let lists : IsListing i (first_place place from) steps other = record {
      instrs = there.instrs;
      follow = moved_follow file j i m l steps (first_place place from) there.instrs there.follow;
      text_is = there.text_is;
    } in
    sym (p.1.1 other lists)

-- -- Replies

one_code_reply : (file : List ℕ) (i j : Image) (place : ℕ) (asked : Task) (one other : List ℕ) → Loads file i → Loads file j → ShowsCode asked → RepliesAt i place asked one → RepliesAt j place asked other → one ≡ other
one_code_reply file i j place (task.Ask plan question) one other l m shows p q = absurd shows
one_code_reply file i j place (task.List from steps) one other l m shows p q = one_list_reply file i j place from steps one other l m p q
one_code_reply file i j place (task.Trace options) one other l m shows p q = one_tracing file options i j place one other l m p q

one_reply : (file : List ℕ) (image : Image) (place : ℕ) (asked : Task) (one other : List ℕ) → Loads file image → RepliesAt image place asked one → RepliesAt image place asked other → one ≡ other
one_reply file image place (task.Ask plan question) one other l p q = one_round_reply image place plan question one other p q
one_reply file image place (task.List from steps) one other l p q = one_list_reply file image image place from steps one other l l p q
one_reply file image place (task.Trace options) one other l p q = one_tracing file options image image place one other l l p q

pub replies_are_one : RepliesAreOne
replies_are_one file image loads query one other p q = let both = at_once image query _ _ p q in one_reply file image both.0 query.task one other loads both.1 both.2

pub lists_are_one : ListsAreOne
lists_are_one file i j l m query shows one other p q =
    let place = one_place file query.entry i j p.place q.place l m p.enters q.enters in
    one_code_reply file i j p.place query.task one other l m shows p.fact (subst (λ a. RepliesAt j a query.task other) (sym place) q.fact)

-- -- Refusals

absent_once : (image : Image) (place : ℕ) (asked : Task) (one other : ℕ) → AbsentAt image place asked one → AbsentAt image place asked other → one ≡ other
absent_once image place (task.Ask plan question) one other p q = one_absence image place plan question one other p q
absent_once image place (task.List from steps) one other p q = same_Some one other (sym p.0 ∙ q.0)
absent_once image place (task.Trace options) one other p q = same_Some one other (sym p.named ∙ q.named)

pub absences_are_one : AbsencesAreOne
absences_are_one file image loads query one other p q = let both = at_once image query _ _ p q in absent_once image both.0 query.task one other both.1 both.2

pub images_pass : ImagesPass
images_pass file image cause loads none = loads_passes file image cause loads none

pub outcomes_exclude : OutcomesExclude
outcomes_exclude = record {
  no_entry = λ image query none. ((λ n behind. enters_once image query _ behind none), (λ at absent. enters_once image query _ absent none), (λ has. enters_once image query _ has none));
  behind = λ image query n behind. ((λ at absent. absence_in_time image query n at absent behind), (λ has. reply_in_time image query n has behind));
  absent = λ file image loads query at absent has. reply_present file image query at loads has absent;
}
