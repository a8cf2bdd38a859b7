use Rattle.std.proofs.Common.{◌≡◌, Some, [], ◌∷◌, ◌++◌, length, set, ap, ◌∙◌, rules}
use Rattle.service.proofs.OpenLemmas.{opened_skip, opened_more, opened_as}
use Rattle.service.proofs.make.open.Goals as goal
use Rattle.service.proofs.make.open.Goals.{then-wanted-sites+in_ok-first+in_ok-push, else-wanted-sites}

pub loop-sites-preserved : goal.loop-sites-preserved
loop-sites-preserved c = elim c.if-wanted-sites.branch [
  | then-wanted-sites+in_ok-first+in_ok-push w ↦ (
      let r = w.in_ok-first.field-0 in
      let made = w.in_ok-first.ensures in
      let counted : w.len.result ≡ length c.loop-sites.rounds.items = search rules in
      let rounds : c.if-wanted-sites.rounds.items ≡ c.loop-sites.rounds.items ++ r ∷ [] = ap (λ v. v.items) w.rounds-is ∙ w.in_ok-push.ensures.items in
      let lanes : c.if-wanted-sites.lanes ≡ set c.loop-sites.lanes c.loop-sites.sites (Some (length c.loop-sites.rounds.items)) = w.lanes-is ∙ ap (λ n. set c.loop-sites.lanes c.loop-sites.sites (Some n)) counted in
      opened_as c.args.image.now c.args.settings.now c.args.wanted _ _ _ _ _ rounds lanes
      (opened_more c.args.image.now c.args.settings.now c.args.wanted c.loop-sites.sites c.loop-sites.rounds.items c.loop-sites.lanes r c.loop-sites-test.true w.if-wanted-sites.true made.round made.name.0 made.name.1 c.loop-sites.invariant))
  | else-wanted-sites w ↦ opened_as c.args.image.now c.args.settings.now c.args.wanted _ _ _ _ _ (ap (λ v. v.items) w.rounds-is) w.lanes-is
      (opened_skip c.args.image.now c.args.settings.now c.args.wanted c.loop-sites.sites c.loop-sites.rounds.items c.loop-sites.lanes w.if-wanted-sites.false c.loop-sites.invariant)
]
