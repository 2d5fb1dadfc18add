use Rattle.certificate_check.proofs.Common.{Option, sym, subst, IfOk-weaker, program_code, V2, V7, V8, V12, Holds, Spot, IsFirstSpot, at_zero}
use Rattle.certificate_check.proofs.RuleLemmas.{spot_everywhere, spot_v2, spot_v7, spot_v8, spot_v12}
use Rattle.certificate_check.proofs.first.first_in_rule.Goals as goal

pub returns-in-2 : goal.returns-in-2
returns-in-2 c =
    let P : Option Spot → Type 0 = λ r. IsFirstSpot (V2 (program_code c.args.flat.now) c.args.image.now c.args.certificate.now) r in
    let Q : Option Spot → Type 0 = λ r. IsFirstSpot (λ f i. Holds (program_code c.args.flat.now) c.args.image.now c.args.certificate.now c.args.rule f i) r in
    IfOk-weaker c.first_wrong_range.result P Q (λ r h. spot_v2 (program_code c.args.flat.now) c.args.image.now c.args.certificate.now c.args.rule r c.in-2.is h) c.first_wrong_range.ensures

pub returns-in-7 : goal.returns-in-7
returns-in-7 c =
    subst (λ r. IsFirstSpot (λ f i. Holds (program_code c.args.flat.now) c.args.image.now c.args.certificate.now c.args.rule f i) r) (sym c.everywhere.ensures)
    (spot_v7 (program_code c.args.flat.now) c.args.image.now c.args.certificate.now c.args.rule (at_zero c.first_wrong_stub_word.result) c.in-7.is (spot_everywhere (λ f i. V7 c.args.image.now f i) c.first_wrong_stub_word.result c.first_wrong_stub_word.ensures))

pub returns-in-8 : goal.returns-in-8
returns-in-8 c =
    subst (λ r. IsFirstSpot (λ f i. Holds (program_code c.args.flat.now) c.args.image.now c.args.certificate.now c.args.rule f i) r) (sym c.everywhere-in-8.ensures)
    (spot_v8 (program_code c.args.flat.now) c.args.image.now c.args.certificate.now c.args.rule (at_zero c.first_wrong_member.result) c.in-8.is (spot_everywhere (λ f i. V8 (program_code c.args.flat.now) c.args.image.now c.args.certificate.now f i) c.first_wrong_member.result c.first_wrong_member.ensures))

pub returns-in-12 : goal.returns-in-12
returns-in-12 c =
    subst (λ r. IsFirstSpot (λ f i. Holds (program_code c.args.flat.now) c.args.image.now c.args.certificate.now c.args.rule f i) r) (sym c.everywhere-in-12.ensures)
    (spot_v12 (program_code c.args.flat.now) c.args.image.now c.args.certificate.now c.args.rule (at_zero c.first_wrong_global.result) c.in-12.is (spot_everywhere (λ f i. V12 (program_code c.args.flat.now) c.args.image.now f i) c.first_wrong_global.result c.first_wrong_global.ensures))
