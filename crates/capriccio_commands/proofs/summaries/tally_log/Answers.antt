use Rattle.capriccio_commands.proofs.Common.{subst, sym, ◌∙◌, List, ℕ, no_tally}
use Rattle.capriccio_commands.proofs.Counting.{IsTallying, tally-starts, tally-goes-on, tally-is}
use Rattle.capriccio_commands.proofs.FitCounting.{IsReading, reading-starts, line-is-read, room-for-line, reading-goes-on, room-at-end}
use Rattle.capriccio_commands.proofs.summaries.tally_log.Goals as goal

pub loop-line-init : goal.loop-line-init
loop-line-init c =
    let log = c.args.log.now in
    let starts = sym (c.into_iter-line-iterator.ensures.into_iter_gives ∙ c.new-line-items.ensures) in (
      subst (λ (left : List (List ℕ)). IsTallying log left no_tally) starts (tally-starts log),
      subst (λ (left : List (List ℕ)). IsReading left no_tally) starts (reading-starts log c.few_bytes.ensures c.requires),
    )

pub unreachable-requires : goal.unreachable-requires
unreachable-requires c =
    c.in-Err-Line.ensures.refused (line-is-read c.in-Some.line.now c.loop-line.line-iterator c.next.new.self c.loop-line.tally c.loop-line.invariant.1 c.in-Some.ensures.steps)

pub count_entry-tally-requires : goal.count_entry-tally-requires
count_entry-tally-requires c =
    room-for-line c.in-Some.line.now c.loop-line.line-iterator c.next.new.self c.loop-line.tally c.loop-line.invariant.1 c.in-Some.ensures.steps

pub loop-line-preserved : goal.loop-line-preserved
loop-line-preserved c = (
  tally-goes-on c.args.log.now c.in-Some.line.now c.loop-line.line-iterator c.next.new.self c.loop-line.tally c.count_entry-tally.result c.in-Ok.entry
      c.loop-line.invariant.0 c.in-Some.ensures.steps c.in-Ok.ensures.read.1 c.count_entry-tally.ensures,
  reading-goes-on c.in-Some.line.now c.loop-line.line-iterator c.next.new.self c.loop-line.tally c.count_entry-tally.result c.in-Ok.entry
      c.loop-line.invariant.1 c.in-Some.ensures.steps c.in-Ok.ensures.read.0 c.count_entry-tally.ensures,
)

pub returns-clause-counted : goal.returns-clause-counted
returns-clause-counted c = tally-is c.args.log.now c.loop-line.line-iterator c.loop-line.tally c.loop-line.invariant.0 c.in-None.ensures.steps.0

pub returns-clause-room : goal.returns-clause-room
returns-clause-room c = room-at-end c.loop-line.line-iterator c.loop-line.tally c.loop-line.invariant.1 c.in-None.ensures.steps.0
