use Rattle.decoded_code.proofs.Common.{◌≡◌, ◌+◌, ◌-◌, refl, sym, subst, arith, slice_index_or, Ready}
use Rattle.std.proofs.lemmas.Option.{slice_get-get_or}
use Rattle.decoded_code.specs.declared.ready.Kind.TheVariants as kind
use Rattle.decoded_code.proofs.Groups.{AreGrouped, one_grouped, all_grouped, length_set}
use Rattle.decoded_code.proofs.lists.group_all.Goals as goal

pub loop-at-preserved : goal.loop-at-preserved
loop-at-preserved c =
    let ops = c.loop-at.ready in
    let n = c.loop-at.at - 1 in
    let none : Ready = record { kind = kind.Other; rd = 0; rs1 = 0; rs2 = 0; imm = 0 } in
    let was = slice_index_or ops (n - 1) none in
    let op : Ready = record was { kind = c.before-kind.result } in
    let above = c.loop-at-test.true in
    let within = c.loop-at.invariant.0 in
    let count = length_set ops (n - 1) op in
    let some : n + 1 ≡ c.loop-at.at = omega (arith, above) in
    let are = subst (λ (k : _). AreGrouped c.args.ready.now k ops) (sym some) c.loop-at.invariant.1 in (
      omega (arith, count, within),
      one_grouped c.args.ready.now ops n was (slice_index_or ops n none) op (omega (arith, above)) are
          (slice_get-get_or ops (n - 1) none (omega (arith, within, above))) (slice_get-get_or ops n none (omega (arith, within, above)))
          (record { is = refl; does = c.before-kind.ensures.does }) c.before-kind.ensures.group,
    )

pub returns : goal.returns
returns c = λ words count each.
    all_grouped words count c.loop-at.at c.args.ready.now c.loop-at.ready each c.loop-at.invariant.1 (omega (arith, c.loop-at-test.false))
