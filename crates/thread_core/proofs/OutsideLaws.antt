-- What comes from outside, and the clock that goes on, keep what every world keeps.
use Rattle.thread_core.proofs.Common.{◌≡◌, ℕ, ◌+◌, ◌-◌, ◌≤◌, ◌^◌, ◌&&◌, Bool, true, false, Option, Some, None, is_none, refl, sym, subst, arith, nat_le, if◌then◌else◌, Delivery, Exchange, is_dropped, with_delivery, Block, ThreadId, Acceptance, Checked, Deliver, Advance, delivered, advanced, World, Setting, IsWellFormed, IsWellFormedIf, DeliversWords, IsWellFormedIf-action, checked_of, Exchanging, after_delivery, Waiting, wait_at, IsUntrapped, Wait, IsSettled, machine_of, setting_of, number_in, IsKept, HasCome, State, and_from, le_yes}

-- a call is a trap by the caps alone
untrapped_block : (x y : Exchanging) → y.caps ≡ x.caps → (block : Block) (since : ℕ) → IsUntrapped x (Some (Wait.At block since)) → IsUntrapped y (Some (Wait.At block since))
untrapped_block x y e (Block.Take resource amount) since u = rw e u
untrapped_block x y e _ since u = u

pub untrapped_same : (x y : Exchanging) → y.caps ≡ x.caps → (wait : Option Wait) → IsUntrapped x wait → IsUntrapped y wait
untrapped_same x y e (Some (Wait.At block since)) u = untrapped_block x y e block since u
untrapped_same x y e _ u = tt

-- the world that an action that can be done leads to is well formed
form_if : (c : Checked) (s : Setting) (w : World) (b : Bool) → b ≡ true → IsWellFormedIf c s (if b then Some w else None) → IsWellFormed c s w
form_if c s w true e f = f
form_if c s w false e f = absurd (cc)

pub between_is : (running : Option ThreadId) → number_in running ≡ None → running ≡ None
between_is None e = refl
between_is (Some thread) e = absurd (let x : Some thread.number ≡ None = e in cc)

none_is : (running : Option ThreadId) → running ≡ None → is_none (number_in running) ≡ true
none_is None e = refl
none_is (Some thread) e = absurd (let x : Some thread ≡ None = e in cc)

-- what came of it
pub record IsMoved (accepted : Acceptance) (most : ℕ) (new : State) (after : World) : Type 0 where
  pub kept : IsKept accepted most new
  pub machine : machine_of most new ≡ after
  pub settled : IsSettled (checked_of accepted) (machine_of most new)

module _ (accepted : Acceptance) (most : ℕ) (st : State) (kept : IsKept accepted most st) (between : st.running ≡ None) (settled : IsSettled (checked_of accepted) (machine_of most st)) where
  abbrev setting : Setting
  setting = setting_of accepted most st

  -- the state with another exchange and clock
  abbrev changed : Exchange → ℕ → State
  changed exchange to = record st { exchange = record st.exchange { exchange = exchange }; waits = record st.waits { clock = to } }

  -- it is kept if its world is well formed
  changed_moved : (exchange : Exchange) (to : ℕ) (after : World) → machine_of most (changed exchange to) ≡ after → to ≤ 2 ^ 63 + (most - st.fuel.left) →
      IsWellFormed (checked_of accepted) setting after → IsMoved accepted most (changed exchange to) after
  changed_moved exchange to after same possible form = record {
    kept = record {
      areas = kept.areas;
      numbered = kept.numbered;
      aligned = record {
        vacant = kept.aligned.vacant;
        runs = kept.aligned.runs;
        waits = kept.aligned.waits;
        there = kept.aligned.there;
        named = kept.aligned.named;
        untrapped = λ place. untrapped_same st.exchange (changed exchange to).exchange refl (wait_at st.waits place) (kept.aligned.untrapped place);
      };
      live = kept.live;
      fuel = kept.fuel;
      begun = kept.begun;
      clock = possible;
      formed = subst (λ (w : World). IsWellFormed (checked_of accepted) setting w) (sym same) form;
      running = kept.running;
    };
    machine = same;
    settled = record { between = settled.between; threads = settled.threads };
  }

  by_dropped : (delivery : Delivery) → DeliversWords (Deliver delivery) → (b : Bool) → is_dropped st.exchange.backlog st.exchange.exchange delivery ≡ b →
      IsMoved accepted most (record st { exchange = if b then st.exchange else record st.exchange { exchange = with_delivery st.exchange.exchange delivery } }) (delivered setting (machine_of most st) delivery)
  by_dropped delivery words true e = record { kept = kept; machine = rw e refl; settled = settled }
  by_dropped delivery words false e =
      changed_moved (with_delivery st.exchange.exchange delivery) st.waits.clock (delivered setting (machine_of most st) delivery) (rw e refl) kept.clock
      (form_if (checked_of accepted) setting (delivered setting (machine_of most st) delivery) (is_none (number_in st.running)) (none_is st.running between)
      (IsWellFormedIf-action (checked_of accepted) setting (machine_of most st) (Deliver delivery) words kept.formed))

  pub delivered_moved : (delivery : Delivery) → DeliversWords (Deliver delivery) → (exchange : Exchanging) → exchange ≡ after_delivery st.exchange delivery →
      IsMoved accepted most (record st { exchange = exchange }) (delivered setting (machine_of most st) delivery)
  delivered_moved delivery words exchange e =
      subst (λ (x : Exchanging). IsMoved accepted most (record st { exchange = x }) (delivered setting (machine_of most st) delivery)) (sym e)
      (by_dropped delivery words (is_dropped st.exchange.backlog st.exchange.exchange delivery) refl)

  at_time : (to : ℕ) → st.waits.clock ≤ to → to ≤ 2 ^ 63 → IsMoved accepted most (record st { waits = record st.waits { clock = to } }) (advanced (machine_of most st) to)
  at_time to later possible =
      changed_moved st.exchange.exchange to (advanced (machine_of most st) to) refl (omega arith)
      (form_if (checked_of accepted) setting (advanced (machine_of most st) to) (is_none (number_in st.running) && nat_le st.waits.clock to)
      (and_from (is_none (number_in st.running)) (nat_le st.waits.clock to) (none_is st.running between) (le_yes st.waits.clock to later))
      (IsWellFormedIf-action (checked_of accepted) setting (machine_of most st) (Advance to) tt kept.formed))

  pub advanced_moved : (to : ℕ) → st.waits.clock ≤ to → to ≤ 2 ^ 63 → (waits : Waiting) → waits ≡ record st.waits { clock = to } → IsMoved accepted most (record st { waits = waits }) (advanced (machine_of most st) to)
  advanced_moved to later possible waits e = subst (λ (w : Waiting). IsMoved accepted most (record st { waits = w }) (advanced (machine_of most st) to)) (sym e) (at_time to later possible)

-- between segments the threads rest
pub come_between : (accepted : Acceptance) (most : ℕ) (st : State) (running : Option ThreadId) → running ≡ None → HasCome accepted most st running → IsSettled (checked_of accepted) (machine_of most st)
come_between accepted most st None e h = h
come_between accepted most st (Some thread) e h = absurd (let x : Some thread ≡ None = e in cc)

pub between_come : (accepted : Acceptance) (most : ℕ) (st : State) (running : Option ThreadId) → running ≡ None → IsSettled (checked_of accepted) (machine_of most st) → HasCome accepted most st running
between_come accepted most st None e h = h
between_come accepted most st (Some thread) e h = absurd (let x : Some thread ≡ None = e in cc)
