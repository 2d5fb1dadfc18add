use Rattle.lawful_log.proofs.StrideChoices as choosing
use Rattle.lawful_log.proofs.ClientsGoing as going
use Rattle.lawful_log.proofs.Passing as passing
use Rattle.lawful_log.proofs.strides.stride_step_laws.Goals as goal

pub returns : goal.returns
returns c = record {
  choice = choosing.stride_choice_told;
  clients_taken = going.clients_taken;
  clients_started = going.clients_started;
  clients_rejoined = going.clients_rejoined;
  clients_left = going.clients_left;
  passes_taken = passing.passes_taken;
  passes_started = passing.passes_started;
  passes_rejoined = passing.passes_rejoined;
  passes_left = passing.passes_left;
}
