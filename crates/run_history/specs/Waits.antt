-- Waits by site.
use Rattle.std.specs.Prelude.{ℕ, Bool, true, List, [], ◌∷◌, ◌++◌, Option, Some, None, filter, fold, nat_eq, if◌then◌else◌}
use Rattle.report_figures.specs.declared.windows.Window.{Window}
use Rattle.report_figures.specs.Windows.{is_within}
use Rattle.run_history.specs.declared.waits.SiteWaits.{SiteWaits}
use Rattle.run_history.specs.declared.waits.WaitLength.{WaitLength}
use Rattle.report_figures.specs.Ticks.{ticks_in}

-- a clock is in the window, if there is one
abbrev pub is_told : Option Window → ℕ → Bool
is_told None clock = true
is_told (Some window) clock = is_within window.from window.to clock

-- the waits that ended in the window
abbrev pub told_of : Option Window → List WaitLength → List WaitLength
told_of window waits = filter (λ (wait : WaitLength). is_told window wait.until) waits

-- with one more wait; at another site it doesn't count
abbrev pub with_ticks : ℕ → List ℕ → WaitLength → List ℕ
with_ticks site before wait = if nat_eq wait.site site then before ++ wait.ticks ∷ [] else before

-- the lengths of the waits at a site, in order
abbrev pub ticks_at : ℕ → List WaitLength → List ℕ
ticks_at site waits = fold (with_ticks site) [] waits

-- the recorded lengths of a site; none if no wait was there
abbrev pub ticks_kept : Option SiteWaits → List ℕ
ticks_kept None = []
ticks_kept (Some waits) = ticks_in waits.ticks

abbrev pub longest_kept : Option SiteWaits → Option WaitLength
longest_kept None = None
longest_kept (Some waits) = Some waits.longest
