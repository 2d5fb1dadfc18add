use Rattle.thread_waits.proofs.SleepLaws.{wake_told, nobody_told}
use Rattle.thread_waits.proofs.waits.Waits.wake.Goals as goal

pub returns-then-time-lt-NONE : goal.returns-then-time-lt-NONE
returns-then-time-lt-NONE c =
    wake_told c.args.exchange.now.caps c.args.exchange.now.exchange c.args.self.now c.least_time-time.result c.least_time-time.ensures c.if-time-lt-NONE.true

pub returns-else-time-lt-NONE : goal.returns-else-time-lt-NONE
returns-else-time-lt-NONE c =
    nobody_told c.args.exchange.now.caps c.args.exchange.now.exchange c.args.self.now c.least_time-time.result c.least_time-time.ensures c.if-time-lt-NONE.false
