use Rattle.std.proofs.Common.{◌<◌, ◌≤◌, ◌∙◌, arith}
use Rattle.thread_waits.proofs.TimeLaws.{later_number, past_number}
use Rattle.thread_waits.proofs.kinds.later.Goals as goal

pub returns-then-clock-time : goal.returns-then-clock-time
returns-then-clock-time c = λ o e. e ∙ later_number c.args.clock o (let h : c.args.clock < c.args.time = c.if-clock-time.true in omega arith)

pub returns-else-clock-time : goal.returns-else-clock-time
returns-else-clock-time c = λ o e. past_number c.args.clock o (let h : c.args.time ≤ c.args.clock = c.if-clock-time.false in omega arith)
