use Rattle.std.proofs.Common.{◌≡◌, length, rules}
use Rattle.requests.proofs.FilledLemmas.{listed_more, listed_all}
use Rattle.requests.proofs.text.put_addresses.Goals as goal

pub addresses-preserved : goal.addresses-preserved
addresses-preserved c =
    listed_more c.args.into.now c.addresses.into c.put_address-end.new.into c.args.at c.addresses.end c.put_address-end.result c.args.addresses.now c.addresses.rest.now c.in-Some.after.now c.in-Some.address.now
    c.in-Some.ensures.cases.0 c.put_address-end.ensures.end c.put_address-end.ensures.text c.addresses.invariant

pub returns-clause-text : goal.returns-clause-text
returns-clause-text c =
    let none : length c.addresses.rest.now ≡ 0 = search rules in
    listed_all c.args.into.now c.addresses.into c.args.at c.addresses.end c.args.addresses.now c.addresses.rest.now none c.addresses.invariant
