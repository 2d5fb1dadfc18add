-- What is said of a line, from what is said of its parts.
use Rattle.schedule_audit.proofs.Common.{◌≡◌, ℕ, ◌+◌, ◌<◌, ◌≤◌, true, false, List, Option, Some, None, Result, Ok, Err, refl, sym, ◌∙◌, subst, arith, ℤ, is_some, ReaderState, Given, Segment, State, seen_of, Entry, Item, End, Next, Failure, Ruling, AllowsWithin, RulesWithin, IsNoEnd, IsLine, RulesLine, Kept, Allows, Refuses, Rules, IsLooked, IsTold, IsTraceOf, Stands, stands_as, stands_by}
use Rattle.choice_rules.specs.Clock.{IsChoicePoint}
use Rattle.choice_rules.specs.Trace.{Trace}
use Rattle.event_trace.specs.declared.events.Event.{Event}
use Rattle.lawful_reading.specs.State as reading
use Rattle.schedule_reading.specs.declared.reading.End.TheVariants as end
use Rattle.schedule_reading.specs.declared.rulings.Ruling.TheVariants as ruling
use Rattle.schedule_reading.proofs.Delivering.{not_beyond}

-- ---- a line of a segment

told_as : (state after : State) (old new : Kept) (told : Option (List ℕ)) → after.trace ≡ state.trace → new.reader ≡ old.reader → new.next ≡ old.next → IsTold state old told → IsTold after new told
told_as state after old new told trace reader next t =
    subst (λ (x : Trace). IsTraceOf x new.reader new.next told) (sym trace)
    (subst (λ (r : ReaderState). IsTraceOf state.trace r new.next told) (sym reader) (subst (λ (n : Next). IsTraceOf state.trace old.reader n told) (sym next) t))

module _ (g : Given) (state : State) (old : Kept) (stands : Stands g state old) (going : old.end ≡ end.Stopped → ⊥) (told : Option (List ℕ)) where
  looked : IsLooked old.reader old.next
  looked = (stands_by g state old stands going).1

  within_allows : (entry : Entry) (new : Kept) → AllowsWithin g state (record old { under = None }) entry new → Allows g state old entry told new told
  within_allows entry new a = record {
    after = a.after;
    allowed = λ t. a.allowed;
    within = a.within;
    stands = stands_as g a.after new a.end_is (λ e. going (sym a.going ∙ e)) a.stands
        (subst (λ (r : ReaderState). IsLooked r new.next) (sym a.reader) (subst (λ (n : Next). IsLooked old.reader n) (sym a.next) looked));
    trace = told_as state a.after old new told a.trace a.reader a.next;
  }

  pub within_rules : (entry : Entry) (new : Kept) (result : Result Ruling Failure) → RulesWithin g state (record old { under = None }) entry new result → Rules g state old entry told new told result
  within_rules entry new (Ok ruling.Allowed) r = within_allows entry new r
  within_rules entry new (Ok ruling.Refused) r = λ t. r
  within_rules entry new (Ok ruling.OutOfSteps) r = r
  within_rules entry new (Err failure) r = tt

-- a line of a choice point isn't one of a segment
module _ (g : Given) (state : State) (segment : Segment) (under_way : state.segment ≡ Some segment) (within : state.steps ≤ g.most_steps) where
  some_is : {X : Type 0} (o : Option X) (x : X) → o ≡ Some x → is_some o ≡ true
  some_is None x e = absurd (cc)
  some_is (Some y) x e = refl

  seen_way : (seen_of state).under_way ≡ true
  seen_way = some_is state.segment segment under_way

  not_point : (next : Option Event) (clock : ℕ) → IsChoicePoint g.policy (seen_of state) next clock → ⊥
  not_point next clock p = absurd (let no : true ≡ false = sym seen_way ∙ p.between in cc)

  no_need : (b : g.most_steps < state.steps + 0) → ⊥
  no_need b = omega (arith, b, within)

  pub point_in_segment : (entry : Entry) → IsNoEnd entry → ((thread : ℕ) (value : ℤ) → entry ≡ Entry.Out thread value → ⊥) → ((thread node : ℕ) (key : List ℕ) (cost free : ℕ) → entry ≡ Entry.Block thread node key cost free → ⊥) →
      ((thread cost free : ℕ) → entry ≡ Entry.End thread cost free → ⊥) → Refuses g state entry
  point_in_segment (Entry.Event clock item) line out block ends = record { refused = λ after p. not_point (Some p.event) clock p.delivery.point; enough = λ b. no_need (b.beyond 0 refl) }
  point_in_segment (Entry.Dropped clock item) line out block ends = record { refused = λ after p. not_point (Some p.event) clock p.delivery.point; enough = λ b. no_need (b.beyond 0 refl) }
  point_in_segment (Entry.Run clock thread node) line out block ends = record { refused = λ after p. not_point p.choice.next clock p.choice.point; enough = λ b. no_need (b.beyond 0 refl) }
  point_in_segment (Entry.Out thread value) line out block ends = absurd (out thread value refl)
  point_in_segment (Entry.Block thread node key cost free) line out block ends = absurd (block thread node key cost free refl)
  point_in_segment (Entry.End thread cost free) line out block ends = absurd (ends thread cost free refl)
  point_in_segment _ line out block ends = absurd line

-- ---- a line of a choice point

-- where no segment is under way, and the end has begun or the line is of a segment
module _ (g : Given) (state : State) (none : state.segment ≡ None) where
  none_some : {X : Type 0} (o : Option X) (x : X) → o ≡ None → o ≡ Some x → ⊥
  none_some o x e f = absurd (let no : None ≡ Some x = sym e ∙ f in cc)

  pub no_segment : (entry : Entry) → IsNoEnd entry → (state.end ≡ reading.NotYet → (((clock : ℕ) (item : Item) → entry ≡ Entry.Event clock item → ⊥) × ((clock : ℕ) (item : Item) → entry ≡ Entry.Dropped clock item → ⊥) × ((clock thread node : ℕ) → entry ≡ Entry.Run clock thread node → ⊥))) → Refuses g state entry
  no_segment (Entry.Event clock item) line never = record { refused = λ after p. (never p.not_over).0 clock item refl; enough = not_beyond g state (Entry.Event clock item) none }
  no_segment (Entry.Dropped clock item) line never = record { refused = λ after p. (never p.not_over).1 clock item refl; enough = not_beyond g state (Entry.Dropped clock item) none }
  no_segment (Entry.Run clock thread node) line never = record { refused = λ after p. (never p.not_over).2 clock thread node refl; enough = not_beyond g state (Entry.Run clock thread node) none }
  no_segment (Entry.Out thread value) line never = record { refused = λ after p. none_some state.segment p.segment none p.under_way; enough = not_beyond g state (Entry.Out thread value) none }
  no_segment (Entry.Block thread node key cost free) line never = record { refused = λ after p. none_some state.segment p.segment none p.closed.under_way; enough = not_beyond g state (Entry.Block thread node key cost free) none }
  no_segment (Entry.End thread cost free) line never = record { refused = λ after p. none_some state.segment p.segment none p.closed.under_way; enough = not_beyond g state (Entry.End thread cost free) none }
  no_segment _ line never = absurd line

-- ---- the bytes of a line

pub line_rules : (g : Given) (state : State) (old : Kept) (line : List ℕ) (told : Option (List ℕ)) (new : Kept) (told' : Option (List ℕ)) (entry : Entry) (result : Result Ruling Failure) → IsLine line entry → ((other : Entry) → IsLine line other → other ≡ entry) →
    Rules g state old entry told new told' result → RulesLine g state old line told new told' result
line_rules g state old line told new told' entry (Ok ruling.Refused) is one r = λ t other l. subst (λ (e : Entry). Refuses g state e) (sym (one other l)) (r t)
line_rules g state old line told new told' entry (Err failure) is one r = tt
line_rules g state old line told new told' entry (Ok _) is one r = (entry, is, r)
