-- Silent steps of the world, and those that correspond to good steps of its running thread.
use Rattle.std.specs.Prelude.{◌≡◌, ℕ, zero, suc, ◌+◌}
use Rattle.machine_world.specs.Local.{Local}
use Rattle.machine_world.specs.Threads.{Thread, World, Setting, replaced, Goes, step}

-- this number of silent steps leads from one world to another
abbrev pub GoesOn : Setting → ℕ → World → World → Type 0
GoesOn s zero w after = after ≡ w
GoesOn s (suc n) w after = (next : World) × (step s w ≡ Goes next) × GoesOn s n next after

-- the world after n silent steps of a thread, which led it to this state
abbrev pub after_silent : World → Thread → Local → ℕ → World
after_silent w thread at n = record w {
  threads = replaced (record thread { core = at.core }) w.threads;
  areas = at.areas;
  clock = w.clock + n;
  cost = w.cost + n;
}
