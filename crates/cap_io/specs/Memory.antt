-- The objects in memory: their contents, and the effect of each call on them.
use Rattle.std.specs.Prelude.{◌≡◌, ℕ, ◌+◌, ◌-◌, ◌^◌, min, Bool, true, false, ◌==◌, List, length, take, drop, ◌++◌, Result, Ok, Err}
use Rattle.std.specs.List.{list_any}
use Rattle.cap_io.specs.declared.sources.Failed.{Failed as ReadFailed}
use Rattle.cap_io.specs.declared.sinks.SinkError.{SinkError}
use Rattle.cap_io.specs.declared.sinks.SinkError.TheVariants.{Failed, Memory}

-- a count one higher; it stays at its maximum of 64 bits
abbrev pub counted_up : ℕ → ℕ
counted_up count = min (count + 1) (2 ^ 64 - 1)

-- the next call is among those that fail, which are counted from 1
abbrev pub fails_next : List ℕ → ℕ → Bool
fails_next fails calls = list_any (λ call. call == counted_up calls) fails

-- a source in memory: the bytes left, the maximum number per call, the number of calls, which of them fail, and how
-- many failed
pub record SourceState : Type 0 where
  pub left : List ℕ
  pub per_call : ℕ
  pub calls : ℕ
  pub fails : List ℕ
  pub faults : ℕ

-- a read into a buffer of this size: it fails if the call is to fail, and otherwise provides the maximum number of
-- bytes per call, or fewer if fewer are left or the buffer is shorter
abbrev pub ReadsMemory : SourceState → SourceState → ℕ → Result ℕ ReadFailed → Type 0
ReadsMemory old new room (Ok n) = (fails_next old.fails old.calls ≡ false) × (n ≡ min (min old.per_call (length old.left)) room)
    × (new ≡ record old { calls = counted_up old.calls; left = drop n old.left })
ReadsMemory old new room (Err _) = (fails_next old.fails old.calls ≡ true)
    × (new ≡ record old { calls = counted_up old.calls; faults = counted_up old.faults })

-- a sink in memory: the bytes taken, the maximum number per call, the number of calls, which of them fail, and how many
-- failed
pub record SinkState : Type 0 where
  pub taken : List ℕ
  pub per_call : ℕ
  pub calls : ℕ
  pub fails : List ℕ
  pub faults : ℕ

-- a write of a piece: it fails if the call is to fail, and otherwise takes the maximum number of bytes per call, or the
-- whole piece if it is shorter
abbrev pub WritesMemory : SinkState → SinkState → List ℕ → Result ℕ SinkError → Type 0
WritesMemory old new piece (Ok n) = (fails_next old.fails old.calls ≡ false) × (n ≡ min old.per_call (length piece))
    × (new ≡ record old { calls = counted_up old.calls; taken = old.taken ++ take n piece })
WritesMemory old new piece (Err Failed) = (fails_next old.fails old.calls ≡ true)
    × (new ≡ record old { calls = counted_up old.calls; faults = counted_up old.faults })
WritesMemory old new piece (Err Memory) = (fails_next old.fails old.calls ≡ false)
    × (new ≡ record old { calls = counted_up old.calls })
