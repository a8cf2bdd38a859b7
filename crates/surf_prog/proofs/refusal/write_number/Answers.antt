use Rattle.std.proofs.Common.{◌≡◌, [], ◌∷◌, ◌∙◌, subst}
use Rattle.std.specs.Fmt.{decimal}
use Rattle.surf_base.specs.Sink.{AppendsPart}
use Rattle.surf_base.proofs.Appending.{part_then}
use Rattle.surf_prog.proofs.RefusalLaws.{part_longer, on_err, on_err_then}
use Rattle.surf_prog.proofs.refusal.write_number.Goals as goal

pub returns-in_err-write-clause-part : goal.returns-in_err-write-clause-part
returns-in_err-write-clause-part g c =
    let written = g.E.Sink.written in
    on_err c.from_residual.result (AppendsPart (written c.args.err.now) (written c.write.new.self) (32 ∷ decimal c.args.number))
    (part_longer (written c.args.err.now) (written c.write.new.self) (32 ∷ []) (decimal c.args.number) c.in_err-write.ensures.part)

pub returns-clause-part : goal.returns-clause-part
returns-clause-part g c =
    let written = g.E.Sink.written in
    let digits : c.as_bytes-digits.result.now ≡ decimal c.args.number = c.as_bytes-digits.ensures.value ∙ c.format.ensures.text in
    on_err_then c.write-2.result (AppendsPart (written c.write.new.self) (written c.write-2.new.self) c.as_bytes-digits.result.now) (AppendsPart (written c.args.err.now) (written c.write-2.new.self) (32 ∷ decimal c.args.number))
    (λ part. subst (λ d. AppendsPart (written c.args.err.now) (written c.write-2.new.self) (32 ∷ d)) digits
    (part_then (written c.args.err.now) (written c.write.new.self) (written c.write-2.new.self) (32 ∷ []) c.as_bytes-digits.result.now c.in_ok-write.ensures.appended part))
    c.write-2.ensures.part
