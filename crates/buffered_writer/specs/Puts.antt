-- The effect of writing an entry on the sink's count of faults.
use Rattle.std.specs.Prelude.{◌≡◌, ℕ, Result, Ok, Err}
use Rattle.cap_io.specs.Faults.{Rose}
use Rattle.buffered_writer.specs.declared.writer.PutError.{PutError}
use Rattle.buffered_writer.specs.declared.writer.PutError.TheVariants.{WriteFault, Memory}

-- the count rises exactly if a write failed
abbrev pub CountsPut : Result (Unit {0}) PutError → ℕ → ℕ → Type 0
CountsPut (Ok _) old new = new ≡ old
CountsPut (Err WriteFault) old new = Rose old new
CountsPut (Err Memory) old new = new ≡ old
