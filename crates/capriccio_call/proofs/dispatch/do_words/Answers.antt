use Rattle.capriccio_call.proofs.Common.{inl, inr, refl, ap, map, Err, string_bytes, request_of, Does, IsDue, Outside, outside_by, ends-follow, refused-at-once, memory-at-once, IsEnd}
use Rattle.command_words.specs.declared.commands.WordsError.{WordsError}
use Rattle.command_outcomes.specs.declared.stops.Cause.TheVariants.{Usage}
use Rattle.capriccio_call.proofs.dispatch.do_words.Goals as goal

pub do_command-requires : goal.do_command-requires
do_command-requires g c = (map (λ word. string_bytes word) c.args.words.now.items, c.in-Ok.ensures.read)

pub returns-in-Ok : goal.returns-in-Ok
returns-in-Ok g c =
    let request = request_of c.in-Ok.command in
    let F = g.F.Shelf in let S = g.S.Source in let K = g.K.Sink in
    let a = c.args in
    let before : Outside = outside_by F.files F.load_faults F.store_faults S.left S.faults K.taken K.faults a.shelf.now a.trace.now a.out.now in
    ends-follow IsEnd (Does request before) (IsDue (map (λ word. string_bytes word) a.words.now.items) before) _ _ c.do_command.result (λ o h. inl (request, c.in-Ok.ensures.read, h)) c.do_command.ensures

pub returns-in-Err-NotWords : goal.returns-in-Err-NotWords
returns-in-Err-NotWords g c =
    let F = g.F.Shelf in let S = g.S.Source in let K = g.K.Sink in
    let a = c.args in
    let before : Outside = outside_by F.files F.load_faults F.store_faults S.left S.faults K.taken K.faults a.shelf.now a.trace.now a.out.now in
    let none = c.in-Err-NotWords.ensures.refused (ap (λ (e : WordsError). Err e) c.in-Err-NotWords.field-0-is) in
    refused-at-once IsEnd (IsDue (map (λ word. string_bytes word) a.words.now.items) before) before Usage (inr (none, refl))

pub returns-in-Err-Memory : goal.returns-in-Err-Memory
returns-in-Err-Memory g c =
    let F = g.F.Shelf in let S = g.S.Source in let K = g.K.Sink in
    let a = c.args in
    let before : Outside = outside_by F.files F.load_faults F.store_faults S.left S.faults K.taken K.faults a.shelf.now a.trace.now a.out.now in
    memory-at-once IsEnd (IsDue (map (λ word. string_bytes word) a.words.now.items) before) before
