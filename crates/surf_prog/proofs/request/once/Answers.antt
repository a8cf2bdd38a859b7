use Rattle.std.proofs.Common.{ℕ, List, refl, map, Ok, Err}
use Rattle.std.specs.String.{string_bytes}
use Rattle.surf_base.specs.Sink.{WritesLines, StopsInLine}
use Rattle.surf_prog.specs.Once.{TellsLine, IsAnswered, IsReply}
use Rattle.surf_prog.specs.RunReply.{TellsDependences}
use Rattle.surf_prog.proofs.RequestLaws.{answered_asked, answered_is, statuses_hold, text_holds, warned_holds, bad_words_hold, nothing_asked_holds, shelf_holds, within_holds, image_holds, absent_holds, output_holds, part_holds, untouched_holds, complete_holds, silent_lines, told_lines, dependences_hold, appended}
use Rattle.surf_prog.proofs.request.once.Goals as goal

pub returns-in-Ok : goal.returns-in-Ok
returns-in-Ok g c =
    let words = map string_bytes c.args.words.now in
    let files = g.F.Shelf.file c.args.shelf.now in
    let before = g.F.Shelf.faults c.args.shelf.now in
    let now = g.F.Shelf.faults c.answer.new.shelf in
    let old = g.K.Sink.written c.args.out.now in
    let new = g.K.Sink.written c.answer.new.out in
    let faults = g.K.Sink.faults c.args.out.now in
    let whole : List ℕ → Type 0 = λ text. WritesLines g.K.Sink.written g.K.Sink.faults c.args.out.now text c.answer.new.out in
    let stops : List ℕ → Type 0 = λ text. StopsInLine g.K.Sink.written g.K.Sink.faults c.args.out.now text c.answer.new.out in
    let faults_now = g.K.Sink.faults c.answer.new.out in
    let err = g.E.Sink.written c.args.err.now in
    let err_faults = g.E.Sink.faults c.args.err.now in
    let r = Ok c.in-Ok.is_warned in
    let status = c.answered.result in
    let is = c.answered.ensures in
    let ended = c.in-Ok.ensures in
    let done : IsAnswered status = answered_asked c.in-Ok.is_warned status is in
    let lines = text_holds words files before now old new whole stops faults faults_now r status is ended in
    record {
      statuses = statuses_hold words files before now old new whole stops faults faults_now r status is;
      text = λ yes. appended g.K.Sink.written g.K.Sink.faults c.args.out.now c.answer.new.out words files IsReply (lines yes);
      lines = lines;
      dependences = λ zero_is. appended g.K.Sink.written g.K.Sink.faults c.args.out.now c.answer.new.out words files TellsDependences (dependences_hold words files before now old new whole stops faults faults_now r status is ended zero_is);
      warned = warned_holds words files before now old new whole stops faults faults_now r status is ended;
      bad_words = bad_words_hold words files before now old new whole stops faults faults_now r status is ended;
      nothing_asked = nothing_asked_holds words files before now old new whole stops faults faults_now r status is ended;
      shelf = λ three. absurd (answered_is status 1 done three);
      within = within_holds words files before now old new whole stops faults faults_now r status is ended;
      image = image_holds words files before now old new whole stops faults faults_now r status is ended;
      absent = absent_holds words files before now old new whole stops faults faults_now r status is ended;
      output = λ six. absurd (answered_is status 4 done six);
      part = λ six. absurd (answered_is status 4 done six);
      untouched = untouched_holds words files before now old new whole stops faults faults_now r status is ended;
      complete = complete_holds words files before now old new whole stops faults faults_now r status is ended;
      error_line = silent_lines words files before now old new whole stops faults faults_now status err err err_faults err_faults done refl;
    }

pub returns-in-Err : goal.returns-in-Err
returns-in-Err g c =
    let words = map string_bytes c.args.words.now in
    let files = g.F.Shelf.file c.args.shelf.now in
    let before = g.F.Shelf.faults c.args.shelf.now in
    let now = g.F.Shelf.faults c.answer.new.shelf in
    let old = g.K.Sink.written c.args.out.now in
    let new = g.K.Sink.written c.answer.new.out in
    let faults = g.K.Sink.faults c.args.out.now in
    let whole : List ℕ → Type 0 = λ text. WritesLines g.K.Sink.written g.K.Sink.faults c.args.out.now text c.answer.new.out in
    let stops : List ℕ → Type 0 = λ text. StopsInLine g.K.Sink.written g.K.Sink.faults c.args.out.now text c.answer.new.out in
    let faults_now = g.K.Sink.faults c.answer.new.out in
    let err = g.E.Sink.written c.args.err.now in
    let err_faults = g.E.Sink.faults c.args.err.now in
    let e = c.in-Err.refusal in
    let r = Err c.in-Err.refusal in
    let status = c.status.result in
    let is = c.status.ensures in
    let ended = c.in-Err.ensures in
    let err_now = g.E.Sink.written c.complain.new.err in
    let err_faults_now = g.E.Sink.faults c.complain.new.err in
    let lines = text_holds words files before now old new whole stops faults faults_now r status is ended in
    record {
      statuses = statuses_hold words files before now old new whole stops faults faults_now r status is;
      text = λ yes. appended g.K.Sink.written g.K.Sink.faults c.args.out.now c.answer.new.out words files IsReply (lines yes);
      lines = lines;
      dependences = λ zero_is. appended g.K.Sink.written g.K.Sink.faults c.args.out.now c.answer.new.out words files TellsDependences (dependences_hold words files before now old new whole stops faults faults_now r status is ended zero_is);
      warned = warned_holds words files before now old new whole stops faults faults_now r status is ended;
      bad_words = bad_words_hold words files before now old new whole stops faults faults_now r status is ended;
      nothing_asked = nothing_asked_holds words files before now old new whole stops faults faults_now r status is ended;
      shelf = shelf_holds words files before now old new whole stops faults faults_now e status (TellsLine err err_now err_faults err_faults_now) is ended c.complain.ensures;
      within = within_holds words files before now old new whole stops faults faults_now r status is ended;
      image = image_holds words files before now old new whole stops faults faults_now r status is ended;
      absent = absent_holds words files before now old new whole stops faults faults_now r status is ended;
      output = output_holds words files before now old new whole stops faults faults_now e status is ended;
      part = part_holds words files before now old new whole stops faults faults_now e status is ended;
      untouched = untouched_holds words files before now old new whole stops faults faults_now r status is ended;
      complete = complete_holds words files before now old new whole stops faults faults_now r status is ended;
      error_line = told_lines words files before now old new whole stops faults faults_now e status err err_now err_faults err_faults_now is ended c.complain.ensures;
    }
