use Rattle.std.proofs.lemmas.Int.{to_z-of_z}
use Rattle.std.proofs.Common.{rules, ℤ, ◌≤◌, ◌^◌, w64, to_z, of_z, FitsSigned, unsigned_abs, subst, sym}
use Rattle.report.proofs.Eight.{all_eight}
use Rattle.report.proofs.again.uses.changes.Goals as goal

-- the number that is read back from its bits
abbrev shown : ℤ → ℤ
shown z = to_z w64 (of_z w64 z)

kept : (z : ℤ) → FitsSigned w64 z → unsigned_abs z ≤ 2 ^ 31 → unsigned_abs (shown z) ≤ 2 ^ 31
kept z fits small = subst (λ (x : ℤ). unsigned_abs x ≤ 2 ^ 31) (sym (to_z-of_z w64 z fits)) small

pub returns : goal.returns
returns c =
    let f0 : FitsSigned w64 c.difference.result = search rules in
    let f1 : FitsSigned w64 c.difference-2.result = search rules in
    let f2 : FitsSigned w64 c.difference-3.result = search rules in
    let f3 : FitsSigned w64 c.difference-4.result = search rules in
    let f4 : FitsSigned w64 c.difference-5.result = search rules in
    let f5 : FitsSigned w64 c.difference-6.result = search rules in
    let f6 : FitsSigned w64 c.difference-7.result = search rules in
    let f7 : FitsSigned w64 c.difference-8.result = search rules in
    all_eight (λ (z : ℤ). unsigned_abs z ≤ 2 ^ 31)
    (shown c.difference.result) (shown c.difference-2.result) (shown c.difference-3.result) (shown c.difference-4.result)
    (shown c.difference-5.result) (shown c.difference-6.result) (shown c.difference-7.result) (shown c.difference-8.result)
    (kept c.difference.result f0 c.difference.ensures) (kept c.difference-2.result f1 c.difference-2.ensures)
    (kept c.difference-3.result f2 c.difference-3.ensures) (kept c.difference-4.result f3 c.difference-4.ensures)
    (kept c.difference-5.result f4 c.difference-5.ensures) (kept c.difference-6.result f5 c.difference-6.ensures)
    (kept c.difference-7.result f6 c.difference-7.ensures) (kept c.difference-8.result f7 c.difference-8.ensures)
