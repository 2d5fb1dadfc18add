use Rattle.pair_commands.proofs.Common.{inl, subst, sym, err_from_is_err_and, MatchResult-weaker, program_tree, Program, Image, AfterSource, AfterImage, AfterCertificate, IsSourceText, IsImageText, NoMore, stop-follows, source-follows, image-follows, AfterPair, Unread}
use Rattle.pair_commands.proofs.pairs.read_pair.Goals as goal

pub returns-in_err-program : goal.returns-in_err-program
returns-in_err-program c =
    let p = err_from_is_err_and c.from_residual.result c.from_residual.ensures.1 in
    let a = c.args in
    rw (p.1, p.2) (stop-follows (AfterSource a.source.now NoMore) (AfterPair a.source.now a.image.now a.certificate.now Unread) c.in_err-program.field-0.0
    (λ o h. source-follows a.source.now NoMore (λ program. AfterImage a.image.now (λ i. AfterCertificate a.certificate.now (Unread program i))) o (λ program none. absurd none) h) c.in_err-program.ensures)

pub returns-in-Ok : goal.returns-in-Ok
returns-in-Ok c =
    let a = c.args in
    let program = c.in_ok-program.program in
    let reads = c.in_ok-program.ensures in
    MatchResult-weaker c.with_certificate.result c.with_certificate.ensures
    (λ pair is. record {
      program = subst (λ (q : Program). IsSourceText a.source.now (program_tree q)) (sym is.0) reads;
      image_bytes = subst (λ (i : Image). IsImageText a.image.now i) (sym is.1) c.in-Ok.ensures;
      certificate_bytes = is.2;
    })
    (λ stop h. stop-follows (AfterCertificate a.certificate.now NoMore) (AfterPair a.source.now a.image.now a.certificate.now Unread) stop
    (λ o y. inl (program_tree program, reads, inl (c.in-Ok.image, c.in-Ok.ensures, y))) h)

pub returns-in-Err : goal.returns-in-Err
returns-in-Err c =
    let a = c.args in
    let tree = program_tree c.in_ok-program.program in
    stop-follows (AfterImage a.image.now NoMore) (AfterPair a.source.now a.image.now a.certificate.now Unread) c.in-Err.stop
    (λ o y. inl (tree, c.in_ok-program.ensures, image-follows a.image.now NoMore (λ i. AfterCertificate a.certificate.now (Unread tree i)) o (λ i none. absurd none) y)) c.in-Err.ensures
