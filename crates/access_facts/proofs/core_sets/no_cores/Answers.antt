use Rattle.access_facts.proofs.core_sets.no_cores.Goals as goal

pub returns : goal.returns
returns c =
    let r = c.no_register-registers.ensures in
    let f = c.no_flag-flags.ensures in
    record { registers_used = r; registers_defined = r; registers_always = r; flags_used = f; flags_defined = f; flags_always = f }
