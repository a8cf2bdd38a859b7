use Rattle.ia32_decode.proofs.PrefixListLemmas.{prefixes_are_accepted, fifteen_are_refused, prefixes_alone_are_refused}
use Rattle.ia32_decode.proofs.laws.accepted_prefixes.Goals as goal

pub returns : goal.returns
returns c = record { exactly = prefixes_are_accepted; fifteen = fifteen_are_refused; alone = prefixes_alone_are_refused }
