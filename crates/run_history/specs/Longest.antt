-- The longest wait at a site.
use Rattle.std.specs.Prelude.{ℕ, List, Option, Some, None, fold, nat_eq, nat_lt, if◌then◌else◌}
use Rattle.run_history.specs.declared.waits.WaitLength.{WaitLength}

-- the longer of a wait and the longest before it, the earlier if they are equally long
abbrev pub longer_of : Option WaitLength → WaitLength → WaitLength
longer_of None wait = wait
longer_of (Some before) wait = if nat_lt before.ticks wait.ticks then wait else before

-- waits at other sites don't count
abbrev pub longer_at : ℕ → Option WaitLength → WaitLength → Option WaitLength
longer_at site before wait = if nat_eq wait.site site then Some (longer_of before wait) else before

-- the longest wait, the first of equally long ones
abbrev pub longest_at : ℕ → List WaitLength → Option WaitLength
longest_at site waits = fold (longer_at site) None waits
