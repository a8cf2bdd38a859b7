use Rattle.std.proofs.Common.{◌≡◌, ◌<◌, ◌∷◌, length, ◌∙◌, rules}
use Rattle.std.proofs.lemmas.Result.{err_from_is_err_and}
use Rattle.surf_base.specs.Sink.{lines_of}
use Rattle.surf_base.proofs.TextLines.{line_split, lines_append, written_line, written_part, written_all}
use Rattle.surf_base.proofs.sink.write_lines.Goals as goal

pub returns-in_err-write-clause-stops : goal.returns-in_err-write-clause-stops
returns-in_err-write-clause-stops g c =
    let some : 0 < length c.loop-rest.rest.now = search rules in
    let split : lines_of c.loop-rest.rest.now ≡ c.split_at.result.0.now ∷ lines_of c.split_at.result.1.now =
    line_split _ _ _ _ some c.first_line_len.ensures c.split_at.ensures.front c.split_at.ensures.back in
    let p = err_from_is_err_and c.from_residual.result c.from_residual.ensures.1 in
    rw p.1 (written_part g.K.Sink.written g.K.Sink.faults _ _ _ _ _ _ _ split c.loop-rest.invariant.lines
    record { part = c.in_err-write.ensures.part; cause = c.in_err-write.ensures.cause })

pub loop-rest-preserved : goal.loop-rest-preserved
loop-rest-preserved g c =
    let some : 0 < length c.loop-rest.rest.now = search rules in
    let split : lines_of c.loop-rest.rest.now ≡ c.split_at.result.0.now ∷ lines_of c.split_at.result.1.now =
    line_split _ _ _ _ some c.first_line_len.ensures c.split_at.ensures.front c.split_at.ensures.back in
    record {
      lines = written_line g.K.Sink.written g.K.Sink.faults _ _ _ _ _ _ _ split c.loop-rest.invariant.lines
          record { appended = c.in_ok-write.ensures.appended; counted = c.in_ok-write.ensures.kept };
      counts = c.in_ok-write.ensures.kept ∙ c.loop-rest.invariant.counts;
    }

pub returns-clause-lines : goal.returns-clause-lines
returns-clause-lines g c =
    let none : length c.loop-rest.rest.now ≡ 0 = search rules in
    written_all g.K.Sink.written g.K.Sink.faults _ _ _ _ none c.loop-rest.invariant.lines

pub returns-clause-appended : goal.returns-clause-appended
returns-clause-appended g c = lines_append g.K.Sink.written g.K.Sink.faults _ _ _ (returns-clause-lines g c)
