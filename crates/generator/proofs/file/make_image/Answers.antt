use Rattle.std.proofs.Common.{◌≡◌, length, sym, subst, None, ap, arith, rules}
use Rattle.elf32.specs.Loading.{failure}
use Rattle.generator.specs.Items.{code}
use Rattle.generator.specs.Files.{made_image}
use Rattle.generator.proofs.FileLaws.{made_loads}
use Rattle.generator.proofs.ItemLemmas.{short_code}
use Rattle.generator.proofs.file.make_image.Goals as goal

pub overflow_cast-len : goal.overflow_cast-len
overflow_cast-len c =
    let short = short_code c.args.seed c.args.items c.requires.few in
    let same : length c.in_ok-code.code.items ≡ length (code c.args.seed c.args.items) = ap length c.in_ok-code.ensures in
    let len : c.len.result ≡ length c.in_ok-code.code.items = search rules in
    grind (arith, short, same, len)

pub returns-clause-file : goal.returns-clause-file
unfolding made_image
returns-clause-file c = search rules

pub returns-clause-loads : goal.returns-clause-loads
returns-clause-loads c = subst (λ f. failure f ≡ None) (sym (returns-clause-file c)) (made_loads c.args.seed c.args.items c.requires.few)
