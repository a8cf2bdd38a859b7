use Rattle.std.proofs.Common.{ℕ, List, length, ◌≤◌, map, sym, subst}
use Rattle.std.specs.String.{string_bytes}
use Rattle.surf_base.specs.Shelf.{Gives}
use Rattle.surf_base.specs.Sink.{WritesLines, StopsInLine}
use Rattle.surf_prog.specs.Once.{image_limit}
use Rattle.surf_prog.proofs.RequestLaws.{answered_by, stopped_by, refused}
use Rattle.surf_prog.proofs.request.answer.Goals as goal

pub returns-in-Err-reply : goal.returns-in-Err-reply
returns-in-Err-reply g c =
    let files = g.F.Shelf.file c.args.shelf.now in
    let out = c.args.out.now in
    let bytes = c.deref.result.now in
    let name = c.in-Ok.request.name in
    let read = c.in-Ok-read.ensures.answers in
    let gives = subst (Gives (files name)) (sym c.deref.ensures.value) (subst (λ n. Gives (files n) c.in-Ok-read.file.items) c.as_str.ensures read.0) in
    let short = subst (λ (l : List ℕ). length l ≤ image_limit) (sym c.deref.ensures.value) read.1 in
    refused (map string_bytes c.args.words.now) files (g.F.Shelf.faults c.args.shelf.now) (g.F.Shelf.faults c.read.new.self) (g.K.Sink.written out)
    (λ text. WritesLines g.K.Sink.written g.K.Sink.faults out text out) (λ text. StopsInLine g.K.Sink.written g.K.Sink.faults out text out) (g.K.Sink.faults out)
    name bytes c.in-Ok.request.query c.in-Err-reply.none c.from-in-Err-reply.result c.from-in-Err-reply.ensures c.in-Ok.ensures gives short c.in-Err-reply.ensures

pub returns-in-Ok-write_lines : goal.returns-in-Ok-write_lines
returns-in-Ok-write_lines g c =
    let files = g.F.Shelf.file c.args.shelf.now in
    let out = c.args.out.now in
    let new = c.write_lines.new.sink in
    let bytes = c.deref.result.now in
    let name = c.in-Ok.request.name in
    let read = c.in-Ok-read.ensures.answers in
    let gives = subst (Gives (files name)) (sym c.deref.ensures.value) (subst (λ n. Gives (files n) c.in-Ok-read.file.items) c.as_str.ensures read.0) in
    let short = subst (λ (l : List ℕ). length l ≤ image_limit) (sym c.deref.ensures.value) read.1 in
    answered_by (map string_bytes c.args.words.now) files (g.F.Shelf.faults c.args.shelf.now) (g.F.Shelf.faults c.read.new.self) (g.K.Sink.written out) (g.K.Sink.written new)
    (λ text. WritesLines g.K.Sink.written g.K.Sink.faults out text new) (λ text. StopsInLine g.K.Sink.written g.K.Sink.faults out text new) (g.K.Sink.faults out) (g.K.Sink.faults new)
    name bytes c.in-Ok-reply.answer.text.items c.deref-2.result.now c.in-Ok.request.query c.in-Ok-reply.answer.is_warned c.in-Ok.ensures gives short c.in-Ok-reply.ensures c.deref-2.ensures.value c.in-Ok-write_lines.ensures.lines

pub returns : goal.returns
returns g c =
    let files = g.F.Shelf.file c.args.shelf.now in
    let out = c.args.out.now in
    let new = c.write_lines.new.sink in
    let bytes = c.deref.result.now in
    let name = c.in-Ok.request.name in
    let read = c.in-Ok-read.ensures.answers in
    let gives = subst (Gives (files name)) (sym c.deref.ensures.value) (subst (λ n. Gives (files n) c.in-Ok-read.file.items) c.as_str.ensures read.0) in
    let short = subst (λ (l : List ℕ). length l ≤ image_limit) (sym c.deref.ensures.value) read.1 in
    stopped_by (map string_bytes c.args.words.now) files (g.F.Shelf.faults c.args.shelf.now) (g.F.Shelf.faults c.read.new.self) (g.K.Sink.written out) (g.K.Sink.written new)
    (λ text. WritesLines g.K.Sink.written g.K.Sink.faults out text new) (λ text. StopsInLine g.K.Sink.written g.K.Sink.faults out text new) (g.K.Sink.faults out) (g.K.Sink.faults new)
    name bytes c.in-Ok-reply.answer.text.items c.deref-2.result.now c.in-Ok.request.query c.in-Ok-reply.answer.is_warned c.in-Ok.ensures gives short c.in-Ok-reply.ensures c.deref-2.ensures.value
    c.in-Err-write_lines.ensures.stops c.in-Err-write_lines.ensures.cause
