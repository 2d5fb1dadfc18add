-- The contents of a world's fields.
use Rattle.thread_core.specs.States.{setting_of, machine_of, numbers_of}
use Rattle.thread_core.specs.Worlds.{Held}
use Rattle.thread_core.specs.declared.world.World.TheInside.{Inside}

abbrev pub held_of : Inside → Held
held_of w = record {
  accepted = w.accepted;
  setting = setting_of w.accepted w.most w.state;
  machine = machine_of w.most w.state;
  places = numbers_of w.state;
  begun = w.state.begun;
  stopped = w.state.stopped;
}
