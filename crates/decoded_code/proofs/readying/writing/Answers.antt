use Rattle.decoded_code.proofs.Common.{◌≡◌, IfSome, sym, subst, Some, arith, started, decoded, ready_effect, Ready}
use Rattle.decoded_code.proofs.readying.writing.Goals as goal

pub returns-then-number-eq0 : goal.returns-then-number-eq0
returns-then-number-eq0 c = λ place instr does. c.other.ensures place (Some instr)

pub returns : goal.returns
unfolding started
returns c = λ place instr does. record {
  writes = omega (arith, c.if-number-eq0.false, c.number.ensures.value, c.number-2.ensures.value);
  rd = c.number-2.ensures.range;
  rs1 = c.number-3.ensures.range;
  rs2 = c.number-4.ensures.range;
  does = λ m at.
      subst (λ (op : Ready). IfSome (ready_effect op m) (λ outcome. started (decoded (Some instr)) m ≡ outcome))
      (λ i. record { kind = c.args.kind; rd = sym c.number-2.ensures.value i; rs1 = sym c.number-3.ensures.value i; rs2 = sym c.number-4.ensures.value i; imm = c.args.imm })
      (does m at);
}
