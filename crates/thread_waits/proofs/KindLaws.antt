-- Readiness by kinds.
use Rattle.thread_waits.proofs.Common.{◌≡◌, ℕ, ◌&&◌, ◌||◌, not, Bool, true, false, List, Option, Some, refl, ◌∙◌, list_any, Block, Exchange, channel_of, holds_some, Wait, Waiting, is_ready_in, is_at_accept, any_ready_in, any_elsewhere_in, is_ready_anyway, is_at_message, is_taking, or-true}
use Rattle.thread_waits.proofs.AnyLaws.{any_ext, any_or, any_and}

or_false : (a : Bool) → ((a || false) && true) ≡ a
or_false true = refl
or_false false = refl

and_false : (a : Bool) → (a && false) ≡ false
and_false true = refl
and_false false = refl

false_or : (a : Bool) → a ≡ (a || false)
false_or true = refl
false_or false = refl

and_true : (a : Bool) → (a && true) ≡ (a || false)
and_true true = refl
and_true false = refl

either_way : (h p : Bool) → ((h || p) && true) ≡ (p || (h || false))
either_way true true = refl
either_way true false = refl
either_way false true = refl
either_way false false = refl

block_elsewhere : (caps : List ℕ) (x : Exchange) (clock since : ℕ) (block : Block) →
    (is_ready_in caps x clock (Some (Wait.At block since)) && not (is_at_accept (Some (Wait.At block since))))
    ≡ (is_ready_anyway clock (Some (Wait.At block since)) || (is_at_message x (Some (Wait.At block since)) || is_taking caps x (Some (Wait.At block since))))
block_elsewhere caps x clock since Block.Accept = and_false _
block_elsewhere caps x clock since (Block.Wait channel) = or_false _ ∙ false_or _
block_elsewhere caps x clock since (Block.Sleep ticks) = and_true _
block_elsewhere caps x clock since Block.Yield = refl
block_elsewhere caps x clock since (Block.Take resource amount) = or_false _
block_elsewhere caps x clock since (Block.WaitFor channel ticks) = either_way (holds_some (channel_of x channel)) _

elsewhere : (caps : List ℕ) (x : Exchange) (clock : ℕ) (wait : Option Wait) →
    (is_ready_in caps x clock wait && not (is_at_accept wait)) ≡ (is_ready_anyway clock wait || (is_at_message x wait || is_taking caps x wait))
elsewhere caps x clock (Some (Wait.At block since)) = block_elsewhere caps x clock since block
elsewhere caps x clock _ = refl

-- some is ready elsewhere: one anyway, one at a message, or one that takes
pub any_elsewhere_by : (caps : List ℕ) (x : Exchange) (w : Waiting) →
    any_elsewhere_in caps x w ≡ (list_any (is_ready_anyway w.clock) w.places || (list_any (is_at_message x) w.places || list_any (is_taking caps x) w.places))
any_elsewhere_by caps x w =
    any_ext (λ wait. is_ready_in caps x w.clock wait && not (is_at_accept wait)) (λ wait. is_ready_anyway w.clock wait || (is_at_message x wait || is_taking caps x wait)) (elsewhere caps x w.clock) w.places
    ∙ any_or (is_ready_anyway w.clock) (λ wait. is_at_message x wait || is_taking caps x wait) w.places
    ∙ rw (any_or (is_at_message x) (is_taking caps x) w.places) refl

at_accept : (h : Bool) → (h || false) ≡ (((h || false) && false) || (true && h))
at_accept true = refl
at_accept false = refl

elsewhere_is : (a : Bool) → a ≡ ((a && true) || (false && false))
elsewhere_is true = refl
elsewhere_is false = refl

block_ready : (caps : List ℕ) (x : Exchange) (clock since : ℕ) (block : Block) →
    is_ready_in caps x clock (Some (Wait.At block since))
    ≡ ((is_ready_in caps x clock (Some (Wait.At block since)) && not (is_at_accept (Some (Wait.At block since)))) || (is_at_accept (Some (Wait.At block since)) && holds_some x.arrivals))
block_ready caps x clock since Block.Accept = at_accept (holds_some x.arrivals)
block_ready caps x clock since Block.Yield = refl
block_ready caps x clock since _ = elsewhere_is _

ready : (caps : List ℕ) (x : Exchange) (clock : ℕ) (wait : Option Wait) →
    is_ready_in caps x clock wait ≡ ((is_ready_in caps x clock wait && not (is_at_accept wait)) || (is_at_accept wait && holds_some x.arrivals))
ready caps x clock (Some (Wait.At block since)) = block_ready caps x clock since block
ready caps x clock _ = refl

-- some is ready: one elsewhere, or one at `accept` where an arrival waits
pub any_ready_by : (caps : List ℕ) (x : Exchange) (w : Waiting) →
    any_ready_in caps x w ≡ (any_elsewhere_in caps x w || (list_any is_at_accept w.places && holds_some x.arrivals))
any_ready_by caps x w =
    any_ext (is_ready_in caps x w.clock) (λ wait. (is_ready_in caps x w.clock wait && not (is_at_accept wait)) || (is_at_accept wait && holds_some x.arrivals)) (ready caps x w.clock) w.places
    ∙ any_or (λ wait. is_ready_in caps x w.clock wait && not (is_at_accept wait)) (λ wait. is_at_accept wait && holds_some x.arrivals) w.places
    ∙ rw (any_and is_at_accept (holds_some x.arrivals) w.places) refl

-- ---- the answers, one after another

module _ (caps : List ℕ) (x : Exchange) (w : Waiting) where
  pub elsewhere_anyway : list_any (is_ready_anyway w.clock) w.places ≡ true → any_elsewhere_in caps x w ≡ true
  elsewhere_anyway e = any_elsewhere_by caps x w ∙ rw e refl

  pub elsewhere_message : list_any (is_at_message x) w.places ≡ true → any_elsewhere_in caps x w ≡ true
  elsewhere_message e = any_elsewhere_by caps x w ∙ rw e (or-true (list_any (is_ready_anyway w.clock) w.places))

  pub elsewhere_taking : list_any (is_ready_anyway w.clock) w.places ≡ false → list_any (is_at_message x) w.places ≡ false → any_elsewhere_in caps x w ≡ list_any (is_taking caps x) w.places
  elsewhere_taking e f = any_elsewhere_by caps x w ∙ rw (e, f) refl

  pub ready_elsewhere : any_elsewhere_in caps x w ≡ true → any_ready_in caps x w ≡ true
  ready_elsewhere e = any_ready_by caps x w ∙ rw e refl

  pub ready_nowhere : any_elsewhere_in caps x w ≡ false → list_any is_at_accept w.places ≡ false → any_ready_in caps x w ≡ false
  ready_nowhere e f = any_ready_by caps x w ∙ rw (e, f) refl

  pub ready_accept : any_elsewhere_in caps x w ≡ false → list_any is_at_accept w.places ≡ true → any_ready_in caps x w ≡ holds_some x.arrivals
  ready_accept e f = any_ready_by caps x w ∙ rw (e, f) refl
