use Rattle.decoded_code.proofs.Common.{◌≡◌, IfSome, sym, subst, Some, arith, started, decoded, ready_effect, Ready}
use Rattle.decoded_code.proofs.readying.reading.Goals as goal

pub returns : goal.returns
unfolding started
returns c = λ place instr does. record {
  writes = omega arith;
  rd = omega arith;
  rs1 = c.number.ensures.range;
  rs2 = c.number-2.ensures.range;
  does = λ m at.
      subst (λ (op : Ready). IfSome (ready_effect op m) (λ outcome. started (decoded (Some instr)) m ≡ outcome))
      (λ i. record { kind = c.args.kind; rd = 1; rs1 = sym c.number.ensures.value i; rs2 = sym c.number-2.ensures.value i; imm = c.args.imm })
      (does m at);
}
