-- What a part of what is kept doesn't change.
use Rattle.schedule_reading.proofs.Common.{◌≡◌, ℕ, ◌≤◌, List, length, refl, sym, ap, ◌∙◌, subst, arith, count_of, ThreadId, GraphState, Exchange, Past, Given, State, MonitorState, SchedulerState, last_of, IsReady, tree_of, Exchanging, Interpreter, AuditPolicy, Core, AreBeside, HasPast, IsOf, ThreadsState}
use Rattle.c_mean.specs.World as source

-- what stays the same of a monitor that observes
pub record SameMonitor (old new : MonitorState) : Type 0 where
  pub curves : new.curves ≡ old.curves
  pub caps : new.caps ≡ old.caps
  pub high : new.high ≡ old.high
  pub low : new.low ≡ old.low

pub of_with : (g : Given) (old new : Core) → new.policy ≡ old.policy → new.interpreter ≡ old.interpreter → new.threads.exchange.caps ≡ old.threads.exchange.caps → new.threads.exchange.backlog ≡ old.threads.exchange.backlog →
    SameMonitor old.monitor new.monitor → IsOf g old → IsOf g new
of_with g old new policy interpreter caps backlog monitor of = record {
  program = ap (λ (i : Interpreter). tree_of i) interpreter ∙ of.program;
  ready = subst (λ (i : Interpreter). IsReady i) (sym interpreter) of.ready;
  chunks = ap (λ (p : AuditPolicy). p.chunks) policy ∙ of.chunks;
  extra = of.extra;
  fuel = ap (λ (p : AuditPolicy). p.fuel) policy ∙ of.fuel;
  caps = ap (λ (p : AuditPolicy). p.caps) policy ∙ of.caps;
  exchange_caps = caps ∙ of.exchange_caps;
  backlog = backlog ∙ of.backlog;
  curves = monitor.curves ∙ of.curves;
  monitor_caps = monitor.caps ∙ of.monitor_caps;
  high = monitor.high ∙ of.high;
  low = monitor.low ∙ of.low;
  rule = of.rule;
  small = of.small;
  cap_count = of.cap_count;
  most_fuel = of.most_fuel;
  most_steps = of.most_steps;
}

pub same_monitor : (m : MonitorState) → SameMonitor m m
same_monitor m = record { curves = refl; caps = refl; high = refl; low = refl }

-- the past, with the same scheduler's last choices and the same graph
pub past_with : (past : Past) (old new : Core) (choices most : ℕ) → new.scheduler ≡ old.scheduler → new.graph ≡ old.graph → HasPast past old choices most → HasPast past new choices most
past_with past old new choices most scheduler graph h = record {
  lasts = λ node. ap (λ (s : SchedulerState). last_of s node) scheduler ∙ h.lasts node;
  taken = ap (λ (s : SchedulerState). s.noted) scheduler ∙ h.taken;
  noted = let same = ap (λ (s : SchedulerState). s.noted) scheduler in let most_of = h.noted in omega (arith, same, most_of);
  graph_keys = ap (λ (x : GraphState). x.keys) graph ∙ h.graph_keys;
  edges = ap (λ (x : GraphState). x.edges) graph ∙ h.edges;
  records = subst (λ (x : GraphState). count_of x.edges ≤ most) (sym graph) h.records;
  keys = subst (λ (x : GraphState). length x.keys ≤ most) (sym graph) h.keys;
}

-- the threads beside the running one, where what they meet has changed, in a state with the same source and the same waiting threads
pub beside_other : {g : Given} {state : State} {rests : List source.Rest} {exchange : Exchange} {number : ℕ} {threads : ThreadsState}
    {scheduler : SchedulerState} {running : ThreadId} → AreBeside g state rests exchange number threads scheduler running → (other : State) (met : Exchange)
    (y : Exchanging) → y.exchange ≡ met → length met.uses ≡ 8 →
    AreBeside g (record other { source = state.source; waiting = state.waiting }) rests met number (record threads { exchange = y }) scheduler running
beside_other b other met y e eight = record {
  are = record { exchange_is = e; uses = eight; count = b.are.count; live = b.are.live; are = b.are.are };
  started = b.started;
  away = b.away;
  away_there = b.away_there;
  away_number = b.away_number;
  away_waits = b.away_waits;
  resting = b.resting;
  number_is = b.number_is;
  scheduled = b.scheduled;
}
