-- Lines of choice points, from what had to come there.
use mathlib.Core.Bool.{beq}
use Rattle.schedule_reading.proofs.Common.{◌≡◌, ℕ, Bool, true, false, not, List, Option, None, Result, Ok, Err, refl, sym, ap, ◌∙◌, subst, is_dropped, delivery_of, item_of, coming_entry, Event, Given, State, Entry, Item, after_delivery, Point, Failure, Ruling, RulesWithin, Kept, ruled, Comes, ComesToChoice, CountsReads, IsPoint, Refuses, Rules, RulesChoice, Chooses, IsTold, ThreadsState}
use Rattle.lawful_reading.specs.State as reading
use Rattle.schedule_reading.specs.declared.reading.End.TheVariants as end
use Rattle.schedule_reading.specs.declared.reading.Next.TheVariants as next
use Rattle.schedule_reading.specs.declared.rulings.Ruling.TheVariants as ruling
use Rattle.schedule_reading.proofs.PointLines.{chooses, run_elsewhen, run_ruled}
use Rattle.schedule_reading.proofs.Delivering.{comes_allowed, other_drops}

-- ---- what is kept of the end and of the segment

abbrev pub pointed : Kept → Kept → Type 0
pointed old new = new ≡ record old { core = record old.core { threads = new.core.threads }; reader = new.reader; next = new.next }

pub same_end : (old new : Kept) → pointed old new → old.end ≡ end.NotYet → new.end ≡ end.NotYet
same_end old new keeps before = ap (λ (k : Kept). k.end) keeps ∙ before

pub same_under : (old new : Kept) → pointed old new → old.under ≡ None → new.under ≡ None
same_under old new keeps none = ap (λ (k : Kept). k.under) keeps ∙ none

pub as_point : (g : Given) (state : State) (old : Kept) (told : Option (List ℕ)) (k : Kept) (told' : Option (List ℕ)) (p q : Point) → p ≡ q → IsPoint g state old told k told' p → IsPoint g state old told k told' q
as_point g state old told k told' p q same is = subst (IsPoint g state old told k told') same is

-- ---- `event` and `drop`

-- an event that doesn't join its queue is dropped
pub differs : (queued drops dropped : Bool) → queued ≡ not dropped → not (beq queued drops) ≡ true → drops ≡ dropped
differs true true dropped is e = absurd (cc)
differs true false true is e = absurd (cc)
differs true false false is e = refl
differs false true true is e = refl
differs false true false is e = absurd (cc)
differs false false dropped is e = absurd (cc)

pub agrees_not : (queued drops dropped : Bool) → queued ≡ not dropped → not (beq queued drops) ≡ false → drops ≡ dropped → ⊥
agrees_not true true true is e d = absurd (cc)
agrees_not _ _ _ is e d = absurd (cc)

module _ (g : Given) (state : State) (old k : Kept) (told told' : Option (List ℕ)) (event : Event) (comes : Comes g state old told event k told') (clock : ℕ) (item : Item) (drops : Bool) where
  abbrev dropped : Bool
  dropped = is_dropped k.core.threads.exchange.backlog k.core.threads.exchange.exchange (delivery_of event.kind)

  -- it is that of the event, and dropped or not
  module _ (new : Kept) (threads : ThreadsState) (between : state.end ≡ reading.NotYet) (none : k.under ≡ None) (before_end : k.end ≡ end.NotYet) (clock_is : clock ≡ k.core.threads.waits.clock) (item_is : item ≡ item_of event.kind)
      (after : threads ≡ record k.core.threads { exchange = after_delivery k.core.threads.exchange (delivery_of event.kind) }) (new_is : new ≡ record k { core = record k.core { threads = threads }; next = next.Unread }) where
    new_as : new ≡ record k { core = record k.core { threads = record k.core.threads { exchange = after_delivery k.core.threads.exchange (delivery_of event.kind) } }; next = next.Unread }
    new_as = new_is ∙ ap (λ (t : ThreadsState). record k { core = record k.core { threads = t }; next = next.Unread }) after

    line_allowed : drops ≡ dropped → Rules g state old (coming_entry drops clock item) told new told' (Ok ruling.Allowed)
    line_allowed drops_is = subst (λ (m : Kept). Rules g state old (coming_entry drops clock item) told m told' (Ok ruling.Allowed)) (sym new_as)
        (subst (λ (n : ℕ). Rules g state old (coming_entry drops n item) told (record k { core = record k.core { threads = record k.core.threads { exchange = after_delivery k.core.threads.exchange (delivery_of event.kind) } }; next = next.Unread }) told' (Ok ruling.Allowed)) (sym clock_is)
        (comes_allowed g state old k told told' event comes between item drops item_is drops_is none before_end))

    pub line_ruled : (holds : Bool) → (holds ≡ true → drops ≡ dropped) → (holds ≡ false → drops ≡ dropped → ⊥) → (r : Ruling) → r ≡ ruled holds → Rules g state old (coming_entry drops clock item) told new told' (Ok r)
    line_ruled true p q r is = subst (λ (x : Ruling). Rules g state old (coming_entry drops clock item) told new told' (Ok x)) (sym is) (line_allowed (p refl))
    line_ruled false p q r is = subst (λ (x : Ruling). Rules g state old (coming_entry drops clock item) told new told' (Ok x)) (sym is)
        (λ t. other_drops g state old k told told' event comes clock item drops (q refl) t)

-- ---- `run`

module _ (g : Given) (state : State) (old k : Kept) (told told' : Option (List ℕ)) (number node : ℕ) (c : ComesToChoice g state old told k told') where
  pub to_choice : Chooses g state k.core
  to_choice = chooses g state old k told told' number node c

  pub choice_elsewhen : (clock : ℕ) → (clock ≡ k.core.threads.waits.clock → ⊥) → IsTold state old told → Refuses g state (Entry.Run clock number node)
  choice_elsewhen clock apart t = run_elsewhen g state old k told told' number node c clock apart t

  pub choice_ruled : state.end ≡ reading.NotYet → k.end ≡ end.NotYet → (clock : ℕ) → clock ≡ k.core.threads.waits.clock → (new : Kept) → new ≡ record k { core = new.core; under = new.under } → (result : Result Ruling Failure) →
      RulesChoice g state k.core number node new.core new.under result → Rules g state old (Entry.Run clock number node) told new told' result
  choice_ruled between before_end clock clock_is new rest result r =
      subst (λ (m : Kept). Rules g state old (Entry.Run clock number node) told m told' result) (sym rest)
      (subst (λ (n : ℕ). Rules g state old (Entry.Run n number node) told (record k { core = new.core; under = new.under }) told' result) (sym clock_is)
      (run_ruled g state old k told told' number node c between before_end new.core new.under result r))

-- ---- faults

apart_failures : (failure : Failure) → failure ≡ Failure.Memory → (old new : ℕ) → new ≡ old → CountsReads {V = Ruling} (Err failure) old new
apart_failures Failure.Read is old new same = absurd (cc)
apart_failures Failure.Memory is old new same = same

-- where nothing is read, only want of memory is a failure
pub counts_alone : (result : Result Ruling Failure) (old new : ℕ) → new ≡ old → ((failure : Failure) → result ≡ Err failure → failure ≡ Failure.Memory) → CountsReads result old new
counts_alone (Ok r) old new same memory = same
counts_alone (Err failure) old new same memory = apart_failures failure (memory failure refl) old new same

same_err : (a b : Failure) → ◌≡◌ {A = Result Ruling Failure} (Err a) (Err b) → a ≡ b
same_err a b e = cc

no_err : (r : Ruling) (failure : Failure) → ◌≡◌ {A = Result Ruling Failure} (Ok r) (Err failure) → ⊥
no_err r failure e = absurd (cc)

pub memory_within : (g : Given) (state : State) (old : Kept) (entry : Entry) (new : Kept) (result : Result Ruling Failure) → RulesWithin g state old entry new result → (failure : Failure) → result ≡ Err failure → failure ≡ Failure.Memory
memory_within g state old entry new (Ok r) is failure e = absurd (no_err r failure e)
memory_within g state old entry new (Err other) is failure e = sym (same_err other failure e) ∙ is
