use Rattle.codegen_link.proofs.Common.{◌≡◌, ap, sym, ◌∙◌, arith, function_at, operation_at, program_code, begin, kind_of, size, size_at, words_step, numbered-pushed}
use Rattle.codegen_link.proofs.AddressLemmas.{ahead}
use Rattle.codegen_link.proofs.SiteLemmas.{kind-link}
use Rattle.codegen_link.proofs.settings.begins.Goals as goal

pub loop-op-preserved : goal.loop-op-preserved
loop-op-preserved c =
    let flat = c.args.layout.now.flat.now in
    let code = program_code flat in
    let plan = c.args.layout.now.plan.now in
    let certificate = c.args.layout.now.certificate.now in
    let f = c.args.function in
    let i = c.loop-op.op in
    let op = c.operation_of.result.now in
    let sizes = (function_at code f).sizes in
    let there = c.operation_of.ensures.value in
    let next : c.from-in-loop-op.result ≡ size_at sizes (kind_of certificate op) (operation_at code f i) =
    c.from-in-loop-op.ensures ∙ (c.operation_size.ensures.size ∙
    (ap (λ o. size_at sizes c.shape-kind.result o) (sym there) ∙ (c.shape-kind.ensures code sizes ∙
    (ap (λ kind. size sizes kind op) (sym (kind-link code plan certificate f i op flat.well_formed c.requires.ready.facts c.requires.function (sym there))) ∙
    ap (λ o. size_at sizes (kind_of certificate op) o) there)))) in
    record {
      begins = numbered-pushed (begin code certificate f) i _ _ _ c.loop-op.invariant.begins c.in_ok-push.ensures.items c.loop-op.invariant.here;
      here = ahead _ _ _ _ _ _ c.loop-op.invariant.here next (words_step code certificate f i op there);
      range = omega (arith, c.loop-op.invariant.range, c.operation_size.ensures.few, c.from-in-loop-op.ensures);
    }
