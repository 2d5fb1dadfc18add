-- The effect of reading a line from a source, if the source exposes its bytes.
use Rattle.std.specs.Prelude.{◌≡◌, ℕ, ◌<◌, ◌≤◌, List, [], ◌++◌, length, Option, None, Some, Result, MatchResult}
use Rattle.event_trace.specs.declared.gathering.Ending.{Ending}
use Rattle.event_trace.specs.declared.gathering.Ending.TheVariants.{Line, End, TooLong}
use Rattle.cap_io.specs.Faults.{Rose}
use Rattle.event_trace.specs.Lines.{line_of, rest_of}

-- what an ending implies for the bytes before and after
abbrev pub GathersLine : List ℕ → List ℕ → List ℕ → Ending → Type 0
GathersLine before after line Line = (0 < length before) × (line ≡ line_of before) × (after ≡ rest_of before)
GathersLine before after line End = (before ≡ []) × (after ≡ [])
GathersLine before after line TooLong = 64 < length (line_of before)

-- the next line was removed; a failed read says nothing about the line
abbrev pub Gathers : {E : Type 0} → Option (List ℕ) → Option (List ℕ) → List ℕ → Result Ending E → Type 0
Gathers None after line r = Unit {0}
Gathers (Some before) None line r = ⊥
Gathers (Some before) (Some after) line r = MatchResult r (λ ending. GathersLine before after line ending) (λ _. Unit {0})

-- the bytes left are a suffix of those before, if the source exposes them
abbrev pub LeavesTail : Option (List ℕ) → Option (List ℕ) → Type 0
LeavesTail None after = Unit {0}
LeavesTail (Some before) None = ⊥
LeavesTail (Some before) (Some after) = (taken : List ℕ) × (before ≡ taken ++ after)

-- a line that was read has at most 64 bytes
abbrev pub IsShort : Ending → List ℕ → Type 0
IsShort Line line = length line ≤ 64
IsShort End line = Unit {0}
IsShort TooLong line = Unit {0}

-- at the end the buffer is unchanged
abbrev pub KeepsAtEnd : Ending → List ℕ → List ℕ → Type 0
KeepsAtEnd Line old new = Unit {0}
KeepsAtEnd End old new = new ≡ old
KeepsAtEnd TooLong old new = Unit {0}

-- the count of faults rises exactly if a read failed
abbrev pub CountsFaults : {V E : Type 0} → Result V E → ℕ → ℕ → Type 0
CountsFaults r old new = MatchResult r (λ _. new ≡ old) (λ _. Rose old new)
