use Rattle.codegen_link.proofs.Common.{◌≤◌, arith, program_code, code_words}
use Rattle.codegen_link.proofs.ValidLemmas.{valid}
use Rattle.codegen_link.proofs.generating.generate.Goals as goal

pub returns-clause-valid : goal.returns-clause-valid
returns-clause-valid c =
    let code = program_code c.args.flat.now in
    let fits : code_words code c.args.plan.now ≤ 200000 = omega (arith, c.code_size-words.ensures, c.if-words-gt-MOST_WORDS.false) in
    valid code c.args.plan.now c.args.options c.in_ok-certificate.certificate c.in_ok-image.image
    c.args.flat.now.well_formed c.requires.options c.requires.plan fits c.in_ok-certificate.ensures c.in_ok-image.ensures
