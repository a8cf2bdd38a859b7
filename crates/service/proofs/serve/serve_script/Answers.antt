use Rattle.std.proofs.Common.{◌≡◌, ◌<◌, length, sym, subst, rules}
use Rattle.std.specs.Prelude.{vec_len}
use Rattle.service.specs.declared.job.Job.TheVariants.{Refines}
use Rattle.service.proofs.ServeLemmas.{are_jobs, told_all}
use Rattle.service.proofs.serve.serve_script.Goals as goal

pub work_all-requires-clause-jobs : goal.work_all-requires-clause-jobs
work_all-requires-clause-jobs g c κs within = λ i d lt.
    let n : vec_len c.in_ok-jobs.jobs ≡ length c.in_ok-jobs.jobs.items = search rules in
    are_jobs c.args.shop.now c.args.script.now.lines Refines c.args.sessions.items c.args.refiners.items c.in_ok-jobs.jobs.items c.in_ok-jobs.ensures c.requires.sessions c.requires.refiners i d (subst (λ m. i < m) n lt)

pub returns-clause-len : goal.returns-clause-len
returns-clause-len g c =
    let n : vec_len c.in_ok-jobs.jobs ≡ length c.in_ok-jobs.jobs.items = search rules in
    let m : length c.in_ok-done.done.items ≡ length c.in_ok-jobs.jobs.items = search rules in
    (told_all c.args.shop.now c.args.script.now.lines Refines (λ x text h. h) c.args.sessions.items c.args.refiners.items c.in_ok-jobs.jobs.items c.in_ok-done.done.items c.in_ok-texts.texts.items c.in_ok-jobs.ensures m
    (λ i d e lt. c.in_ok-done.ensures.done i d e (subst (λ k. i < k) (sym n) lt)) c.in_ok-texts.ensures.whole c.in_ok-texts.ensures.texts).0

pub returns-clause-answered : goal.returns-clause-answered
returns-clause-answered g c =
    let n : vec_len c.in_ok-jobs.jobs ≡ length c.in_ok-jobs.jobs.items = search rules in
    let m : length c.in_ok-done.done.items ≡ length c.in_ok-jobs.jobs.items = search rules in
    (told_all c.args.shop.now c.args.script.now.lines Refines (λ x text h. h) c.args.sessions.items c.args.refiners.items c.in_ok-jobs.jobs.items c.in_ok-done.done.items c.in_ok-texts.texts.items c.in_ok-jobs.ensures m
    (λ i d e lt. c.in_ok-done.ensures.done i d e (subst (λ k. i < k) (sym n) lt)) c.in_ok-texts.ensures.whole c.in_ok-texts.ensures.texts).1
