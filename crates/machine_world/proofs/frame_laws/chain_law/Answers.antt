use Rattle.machine_world.proofs.ChainLaws.{length-chain}
use Rattle.machine_world.proofs.frame_laws.chain_law.Goals as goal

pub returns : goal.returns
returns c = length-chain
