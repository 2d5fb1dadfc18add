-- Every time to wake is a number.
use Rattle.thread_waits.proofs.Common.{◌≡◌, ℕ, ◌+◌, ◌^◌, ◌<◌, ◌≤◌, ◌⊎◌, inl, inr, Option, Some, None, sym, ◌∙◌, arith, Block, ticks_of, Wait, IsWaitInRangeIf, latest, no_number, later_wake, if_later, cases_lt}
use Rattle.thread_waits.proofs.TimeLaws.{few_ticks, later_yes, later_no}

time_small : (clock time n : ℕ) → if_later clock (Some time) ≡ Some n → time < no_number → (clock < time) ⊎ (time ≤ clock) → n < no_number
time_small clock time n e h (inl later) = let x : time ≡ n = (let y : Some time ≡ Some n = sym (later_yes clock time later) ∙ e in cc) in omega arith
time_small clock time n e h (inr past) = absurd (let y : None ≡ Some n = sym (later_no clock time past) ∙ e in cc)

ticks_small : (clock since ticks n : ℕ) → since ≤ latest → if_later clock (Some (since + ticks_of ticks)) ≡ Some n → n < no_number
ticks_small clock since ticks n h e =
    let few : ticks_of ticks < 2 ^ 31 = few_ticks ticks in
    time_small clock (since + ticks_of ticks) n e (omega arith) (cases_lt clock (since + ticks_of ticks))

block_small : (clock since n : ℕ) (block : Block) → since ≤ latest → later_wake clock (Some (Wait.At block since)) ≡ Some n → n < no_number
block_small clock since n (Block.Sleep ticks) h e = ticks_small clock since ticks n h e
block_small clock since n (Block.WaitFor channel ticks) h e = ticks_small clock since ticks n h e
block_small clock since n _ h e = absurd (cc)

pub wake_small : (clock n : ℕ) (wait : Option Wait) → IsWaitInRangeIf wait → later_wake clock wait ≡ Some n → n < no_number
wake_small clock n (Some (Wait.At block since)) r e = block_small clock since n block r.1 e
wake_small clock n _ r e = absurd (cc)

pub none_by : (o : Option ℕ) → ((n : ℕ) → o ≡ Some n → ⊥) → (o ≡ None) ⊎ ((n : ℕ) × (o ≡ Some n)) → o ≡ None
none_by o never (inl e) = e
none_by o never (inr s) = absurd (never s.0 s.1)
