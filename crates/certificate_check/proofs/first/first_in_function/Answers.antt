use Rattle.certificate_check.proofs.Common.{◌≡◌, ℕ, Option, refl, sym, arith, IfOk-weaker, program_code, V4, V6, Holds, IsFirst}
use Rattle.certificate_check.proofs.RuleLemmas.{first_v3, first_v4, first_v5, first_v6, first_v9, first_v10, first_v11}
use Rattle.certificate_check.proofs.first.first_in_function.Goals as goal

pub returns-in-3 : goal.returns-in-3
returns-in-3 c = first_v3 (program_code c.args.flat.now) c.args.image.now c.args.certificate.now c.args.rule c.args.function c.first_wrong_frame.result c.in-3.is (c.first_wrong_frame.ensures (program_code c.args.flat.now) (sym c.requires.readable.functions))

pub returns-in-4 : goal.returns-in-4
returns-in-4 c =
    let P : Option ℕ → Type 0 = λ r. IsFirst (V4 (program_code c.args.flat.now) c.args.certificate.now c.args.function) r in
    let Q : Option ℕ → Type 0 = λ r. IsFirst (λ i. Holds (program_code c.args.flat.now) c.args.image.now c.args.certificate.now c.args.rule c.args.function i) r in
    IfOk-weaker c.first_wrong_place.result P Q (λ r h. first_v4 (program_code c.args.flat.now) c.args.image.now c.args.certificate.now c.args.rule c.args.function r c.in-4.is h) c.first_wrong_place.ensures

pub returns-in-5 : goal.returns-in-5
returns-in-5 c = first_v5 (program_code c.args.flat.now) c.args.image.now c.args.certificate.now c.args.rule c.args.function c.first_wrong_prologue_word.result c.in-5.is c.first_wrong_prologue_word.ensures

pub returns-in-6 : goal.returns-in-6
returns-in-6 c =
    let P : Option ℕ → Type 0 = λ r. IsFirst (V6 (program_code c.args.flat.now) c.args.image.now c.args.certificate.now c.args.function) r in
    let Q : Option ℕ → Type 0 = λ r. IsFirst (λ i. Holds (program_code c.args.flat.now) c.args.image.now c.args.certificate.now c.args.rule c.args.function i) r in
    IfOk-weaker c.first_wrong_operation.result P Q (λ r h. first_v6 (program_code c.args.flat.now) c.args.image.now c.args.certificate.now c.args.rule c.args.function r c.in-6.is h) c.first_wrong_operation.ensures

pub returns-in-9 : goal.returns-in-9
returns-in-9 c = first_v9 (program_code c.args.flat.now) c.args.image.now c.args.certificate.now c.args.rule c.args.function _ c.in-9.is (c.first_wrong_site.ensures.need refl)

pub returns-in-10 : goal.returns-in-10
returns-in-10 c = first_v10 (program_code c.args.flat.now) c.args.image.now c.args.certificate.now c.args.rule c.args.function _ c.in-10.is (c.first_wrong_site-in-10.ensures.bound refl)

pub returns-in_default : goal.returns-in_default
returns-in_default c =
    let is : c.args.rule ≡ 11 = omega (arith, c.requires.rule.0, c.requires.rule.1, c.requires.rule.2, c.requires.rule.3) in
    first_v11 (program_code c.args.flat.now) c.args.image.now c.args.certificate.now c.args.rule c.args.function c.first_outside_path.result is (c.first_outside_path.ensures (program_code c.args.flat.now) (sym c.requires.readable.functions))
