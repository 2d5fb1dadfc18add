-- What a run is given in addition to its trace: a program with its image and certificate, and a policy.
use Rattle.std.specs.Prelude.{Option}
use Rattle.c_tree.specs.Trees.{ProgramTree}
use Rattle.choice_rules.specs.Policy.{Policy}
use Rattle.machine_world.specs.Areas.{Areas, new_areas}
use Rattle.machine_world.specs.Runs.{start_world}
use Rattle.machine_world.specs.Threads.{World, Setting}
use Rattle.stack_certificate.specs.declared.certificates.Certificate.{Certificate}
use Rattle.stack_certificate.specs.declared.functions.FunctionFact.{FunctionFact}
use Rattle.stack_certificate.specs.Certificates.{fact_at}
use Rattle.stack_image.specs.declared.images.Image.{Image}

pub record Setup : Type 0 where
  pub program : ProgramTree
  pub image : Image
  pub certificate : Certificate
  pub policy : Policy

-- what stays the same during a run of the machine
abbrev pub setting_of : Setup → Setting
setting_of g = record { code = g.image.code; fuel = g.policy.fuel; backlog = g.policy.backlog; caps = g.policy.caps }

-- the certificate's entry for `main`
abbrev pub main_fact : Setup → FunctionFact
main_fact g = fact_at g.certificate g.program.main

-- the areas in which the run starts: a new pool with the policy's chunks of both sizes, and the globals and tables of
-- the image
abbrev pub start_areas : Setup → Areas
start_areas g =
    new_areas g.policy.chunks g.certificate.chunk g.policy.extra g.policy.extra_bytes g.image.globals g.image.tables

-- the machine world in which the run starts
abbrev pub start_machine : Setup → Option World
start_machine g = start_world (start_areas g) (main_fact g).entry (main_fact g).bound
