-- The search's loop: what is left to meet, and what is told in the end.
use Rattle.std.proofs.Common.{◌≡◌, ◌≤◌, ◌<◌, ℕ, ◌+◌, ◌-◌, true, List, [], map, length, sym, ◌∙◌, ap, arith}
use Rattle.vset.specs.declared.part.Part.{Part}
use Rattle.abs_semantics.specs.States.{AbsState}
use Rattle.abs_semantics.specs.Resolve.{Resolved, levels, met_after, most_links, rising_onto, told_of_few}
use Rattle.abs_resolve.specs.Search.{Noted, nothing, all_noted, crowded, finished, is_crowd}
use Rattle.abs_resolve.proofs.NotedLemmas.{told_is}
use Rattle.abs_resolve.proofs.LevelLemmas.{risen_next, told_empty, told_last, told_crowd, told_on, told_too_many}

-- what is told where so much is noted, and these parts are met after so many links
abbrev pub told_from : AbsState → ℕ → ℕ → ℕ → ℕ → Noted → List Part → Resolved
told_from a p len most followed n xs = finished (all_noted a p len n (levels a p len (most + 1 - followed) followed xs))

pub starts : (a : AbsState) (p len most : ℕ) (n : Noted) (xs parts : List Part) → n ≡ nothing → xs ≡ rising_onto [] parts → most ≡ most_links a
    → told_from a p len most 0 n xs ≡ told_of_few a p len (levels a p len (most_links a + 1) 0 (rising_onto [] parts))
starts a p len most n xs parts new risen is =
    let fuel : most + 1 - 0 ≡ most_links a + 1 = omega arith in
    ap (λ m. finished (all_noted a p len m (levels a p len (most + 1 - 0) 0 xs))) new
    ∙ ap (λ k. finished (all_noted a p len nothing (levels a p len k 0 xs))) fuel
    ∙ ap (λ ys. finished (all_noted a p len nothing (levels a p len (most_links a + 1) 0 ys))) risen
    ∙ sym (told_is a p len (levels a p len (most_links a + 1) 0 (rising_onto [] parts)))

noted_there : (a : AbsState) (p len followed : ℕ) (n next : Noted) (xs lent : List Part) → next ≡ all_noted a p len n (map (met_after followed) lent) → lent ≡ xs → next ≡ all_noted a p len n (map (met_after followed) xs)
noted_there a p len followed n next xs lent noted is = noted ∙ ap (λ ys. all_noted a p len n (map (met_after followed) ys)) is

pub ends_empty : (a : AbsState) (p len most followed : ℕ) (n : Noted) (xs : List Part) (whole : Resolved) → length xs ≡ 0 → told_from a p len most followed n xs ≡ whole → finished n ≡ whole
ends_empty a p len most followed n xs whole none e = sym (told_empty a p len (most + 1 - followed) followed n xs none) ∙ e

pub ends_crowded : (a : AbsState) (p len most followed : ℕ) (n next : Noted) (xs lent : List Part) (whole : Resolved) → next ≡ all_noted a p len n (map (met_after followed) lent) → lent ≡ xs → is_crowd next.seen ≡ true
    → told_from a p len most followed n xs ≡ whole → crowded ≡ whole
ends_crowded a p len most followed n next xs lent whole noted is crowd e =
    let there = noted_there a p len followed n next xs lent noted is in
    sym (told_crowd a p len (most + 1 - followed) followed n xs (ap (λ (m : Noted). is_crowd m.seen) (sym there) ∙ crowd)) ∙ e

pub ends_last : (a : AbsState) (p len most followed : ℕ) (n next : Noted) (xs lent : List Part) (whole : Resolved) → next ≡ all_noted a p len n (map (met_after followed) lent) → lent ≡ xs → most < followed
    → told_from a p len most followed n xs ≡ whole → finished next ≡ whole
ends_last a p len most followed n next xs lent whole noted is last e =
    ap finished (noted_there a p len followed n next xs lent noted is) ∙ sym (told_last a p len (most + 1 - followed) followed n xs (omega arith)) ∙ e

pub ends_too_many : (a : AbsState) (p len most followed : ℕ) (n : Noted) (xs lent : List Part) (whole : Resolved) → lent ≡ xs → followed ≤ most → is_crowd (risen_next a p len followed lent) ≡ true
    → told_from a p len most followed n xs ≡ whole → crowded ≡ whole
ends_too_many a p len most followed n xs lent whole is more crowd e =
    sym (told_too_many a p len (most + 1 - followed) (most - followed) followed n xs (omega arith) (ap (λ ys. is_crowd (risen_next a p len followed ys)) (sym is) ∙ crowd)) ∙ e

pub goes_on : (a : AbsState) (p len most followed : ℕ) (n next : Noted) (xs lent again level : List Part) (whole : Resolved) → next ≡ all_noted a p len n (map (met_after followed) lent) → lent ≡ xs → followed ≤ most
    → again ≡ xs → level ≡ risen_next a p len followed again → told_from a p len most followed n xs ≡ whole → told_from a p len most (followed + 1) next level ≡ whole
goes_on a p len most followed n next xs lent again level whole noted is more same risen e =
    let rest : most + 1 - (followed + 1) ≡ most - followed = omega arith in
    ap (λ m. finished (all_noted a p len m (levels a p len (most + 1 - (followed + 1)) (followed + 1) level))) (noted_there a p len followed n next xs lent noted is)
    ∙ ap (λ k. finished (all_noted a p len (all_noted a p len n (map (met_after followed) xs)) (levels a p len k (followed + 1) level))) rest
    ∙ ap (λ ys. finished (all_noted a p len (all_noted a p len n (map (met_after followed) xs)) (levels a p len (most - followed) (followed + 1) ys))) (risen ∙ ap (risen_next a p len followed) same)
    ∙ sym (told_on a p len (most + 1 - followed) (most - followed) followed n xs (omega arith)) ∙ e
