use Rattle.decoded_code.proofs.Common.{arith, done}
use Rattle.decoded_code.proofs.readying.other.Goals as goal

pub returns : goal.returns
unfolding done
returns c = λ place found. record { writes = omega arith; rd = omega arith; rs1 = omega arith; rs2 = omega arith; does = λ m at. tt }
