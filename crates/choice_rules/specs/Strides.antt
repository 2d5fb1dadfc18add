-- The passes of threads under strides, after the past choices.
use Rattle.std.specs.Prelude.{ℕ, ◌+◌, nat_eq, nat_le, if◌then◌else◌, List, [], ◌∷◌}
use Rattle.choice_rules.specs.Seen.{PastChoice}
use Rattle.stride_rule.specs.Tickets.{stride_of}

-- The pass of a thread after these choices, the latest first. A thread that is started after a choice and before the
-- next one starts at the pass that the chosen thread had at that choice; the pass of the chosen thread grows by its
-- stride; every other pass stays the same.
abbrev pub pass_of : List (ℕ × ℕ) → List PastChoice → ℕ → ℕ
pass_of tickets [] thread = 0
pass_of tickets (latest ∷ earlier) thread =
    if nat_le latest.started thread then pass_of tickets earlier latest.thread
    else if nat_eq latest.thread thread then pass_of tickets earlier thread + stride_of tickets thread
    else pass_of tickets earlier thread

-- the pass, before its growth, of the thread chosen last, or 0 at first
abbrev pub latest_pass : List (ℕ × ℕ) → List PastChoice → ℕ
latest_pass tickets [] = 0
latest_pass tickets (latest ∷ earlier) = pass_of tickets earlier latest.thread
