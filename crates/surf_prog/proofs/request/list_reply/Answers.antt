use Rattle.std.proofs.Common.{◌≡◌, ℕ, sym, ◌∙◌, ap, true, Vec, Global}
use Rattle.image_map.specs.Queries.{is_code}
use Rattle.surf_prog.proofs.RequestLaws.{list_told}
use Rattle.surf_prog.proofs.request.list_reply.Goals as goal

pub returns : goal.returns
returns c =
    let code : is_code c.args.image.now c.first_place-first.result ≡ true = sym c.is_code.ensures ∙ c.if-not-is_code.false in
    list_told c.args.image.now c.args.place c.args.from c.args.steps c.first_place-first.result c.in_ok-listing.field-0.items c.plain.result.text.items c.plain.result.is_warned
    c.first_place-first.ensures code c.in_ok-listing.ensures (ap (λ (v : Vec ℕ Global). v.items) c.plain.ensures.text) c.plain.ensures.calm
