use Rattle.std.proofs.Common.{◌≡◌, ◌+◌, refl, ap, arith}
use Rattle.surf_prog.proofs.ListingLaws.{told_next, told_none, told_full}
use Rattle.surf_prog.proofs.list.listing.Goals as goal

pub places-preserved : goal.places-preserved
places-preserved c =
    let stands = (c.in-Some.ensures.stands c.in-Some.instr).0 refl in
    let next_is : c.places.place + c.from-place-in-Some.result ≡ c.places.place + c.in-Some.instr.len = ap (λ n. c.places.place + n) c.from-place-in-Some.ensures in
    record {
      told = told_next c.args.image.now c.args.at c.args.steps c.places.place c.places.count _ _ c.places.text.items c.push_line.new.text.items c.in-Some.instr c.places.invariant.told (omega arith) stands c.in_ok-push_line-in-Some.ensures next_is refl;
      within = omega arith;
    }

pub returns-in-None : goal.returns-in-None
returns-in-None c = told_none c.args.image.now c.args.at c.args.steps c.places.place c.places.count c.places.text.items c.ended.result c.places.invariant.told c.in-None.ensures.stands c.ended.ensures

pub returns : goal.returns
returns c = told_full c.args.image.now c.args.at c.args.steps c.places.place c.places.count c.places.text.items c.ended-2.result c.places.invariant.told (omega arith) c.ended-2.ensures
