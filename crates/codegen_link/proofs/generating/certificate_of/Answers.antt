use Rattle.codegen_link.proofs.Common.{arith, program_code}
use Rattle.codegen_link.proofs.AddressLemmas.{few-functions}
use Rattle.codegen_link.proofs.generating.certificate_of.Goals as goal

pub sites_of-requires-clause-few : goal.sites_of-requires-clause-few
sites_of-requires-clause-few c = omega (arith, few-functions (program_code c.args.flat.now) c.args.plan.now c.requires.fits)
