-- A line as one of a choice point or of a segment.
use Rattle.schedule_audit.proofs.Common.{◌≡◌, ℕ, ◌≤◌, Bool, true, false, List, Option, Some, None, Result, Ok, Err, refl, sym, ap, ◌∙◌, subst, arith, ℤ, IsTrue, Given, State, FitsEntry, entry_text, Entry, Item, StopLine, Under, Ruling, Failure, RulesWithin, WithinSomehow, IsNoEnd, IsLine, Core, Kept, Refuses, Rules, StandsBetweenSomehow, IsEnd, IsTold, Stands, StandsBy, StandsSomehow, StandsWithin, memory_within, not_yet, between_by, stands_by}
use Rattle.schedule_log.specs.declared.reading.LogError.{LogError}
use Rattle.schedule_reading.specs.declared.reading.End.TheVariants as end
use Rattle.schedule_audit.proofs.Composing.{no_segment, point_in_segment, within_rules}

-- ---- the bytes of a line

module _ (line : List ℕ) (read : Result Entry LogError) (back : (entry : Entry) → FitsEntry entry → entry_text entry ≡ line → read ≡ Ok entry) where
  same_ok : (a b : Entry) → ◌≡◌ {A = Result Entry LogError} (Ok a) (Ok b) → a ≡ b
  same_ok a b e = cc

  pub only_line : (entry : Entry) → read ≡ Ok entry → (other : Entry) → IsLine line other → other ≡ entry
  only_line entry is other l = same_ok other entry (sym (back other l.fits l.text) ∙ is)

  not_both : (error : LogError) (entry : Entry) → ◌≡◌ {A = Result Entry LogError} (Err error) (Ok entry) → ⊥
  not_both error entry e = absurd (cc)

  pub no_line : (error : LogError) → read ≡ Err error → (entry : Entry) → IsLine line entry → ⊥
  no_line error is entry l = not_both error entry (sym is ∙ back entry l.fits l.text)

-- ---- whether a segment is under way

module _ (g : Given) (state : State) (k : Kept) (stands : Stands g state k) (going : k.end ≡ end.Stopped → ⊥) where
  pub within_of : (under : Under) → k.under ≡ Some under → StandsWithin g state k.core under
  within_of under is = subst (StandsBy g state k.core) is (stands_by g state k stands going).0

pub between_somehow : (k : Kept) → StandsSomehow k → (k.end ≡ end.Stopped → ⊥) → k.under ≡ None → StandsBetweenSomehow k
between_somehow k somehow going none = (somehow.0, somehow.1, between_by somehow.0 somehow.1 k somehow.2 going none)

pub within_somehow : (k : Kept) → StandsSomehow k → (k.end ≡ end.Stopped → ⊥) → (under : Under) → k.under ≡ Some under → WithinSomehow k.core under
within_somehow k somehow going under is = (somehow.0, somehow.1, within_of somehow.0 somehow.1 k somehow.2 going under is)

pub none_segment : (g : Given) (state : State) (k : Kept) → Stands g state k → (k.end ≡ end.Stopped → ⊥) → k.under ≡ None → state.segment ≡ None
none_segment g state k stands going none = (between_by g state k stands going none).0.between

-- the state of a segment has steps left
pub steps_within : (g : Given) (state : State) (k : Core) (under : Under) → StandsWithin g state k under → state.steps ≤ g.most_steps
steps_within g state k under w = let left = w.counted.left in omega (arith, left)

-- ---- what a line isn't

pub no_end : (entry : Entry) → ((from to count : ℕ) (cost : ℤ) (changes : List ℤ) → entry ≡ Entry.Edge from to count cost changes → ⊥) → ((line : StopLine) → entry ≡ Entry.Stop line → ⊥) → IsNoEnd entry
no_end (Entry.Edge from to count cost changes) edge stop = absurd (edge from to count cost changes refl)
no_end (Entry.Stop line) edge stop = absurd (stop line refl)
no_end _ edge stop = tt

-- ---- a line of a choice point that isn't allowed

module _ (g : Given) (state : State) (k : Kept) (stands : Stands g state k) (going : k.end ≡ end.Stopped → ⊥) (none : k.under ≡ None) (entry : Entry) (line : IsNoEnd entry) (told : Option (List ℕ)) where
  abbrev NoPoint : Type 0
  NoPoint = ((clock : ℕ) (item : Item) → entry ≡ Entry.Event clock item → ⊥) × ((clock : ℕ) (item : Item) → entry ≡ Entry.Dropped clock item → ⊥) × ((clock thread node : ℕ) → entry ≡ Entry.Run clock thread node → ⊥)

  -- it is one of a segment
  pub refused_other : NoPoint → IsTold state k told → Refuses g state entry
  refused_other never t = no_segment g state (none_segment g state k stands going none) entry line (λ before. never)

  false_not : (b : Bool) → b ≡ false → IsTrue b → ⊥
  false_not b e t = absurd (let no : true ≡ false = sym t ∙ e in cc)

  -- or the end has begun
  pub refused_late : (b : Bool) → b ≡ false → (k.end ≡ end.NotYet → IsTrue b) → IsTold state k told → Refuses g state entry
  refused_late b e before t = no_segment g state (none_segment g state k stands going none) entry line
      (λ same. absurd (false_not b e (before (not_yet g state k.end stands.end_is same))))

-- ---- a line of a segment that isn't one

pub refused_within : (g : Given) (state : State) (k : Core) (under : Under) → StandsWithin g state k under → (entry : Entry) → IsNoEnd entry → ((thread : ℕ) (value : ℤ) → entry ≡ Entry.Out thread value → ⊥) →
    ((thread node : ℕ) (key : List ℕ) (cost free : ℕ) → entry ≡ Entry.Block thread node key cost free → ⊥) → ((thread cost free : ℕ) → entry ≡ Entry.End thread cost free → ⊥) → Refuses g state entry
refused_within g state k under w entry line out block ends = point_in_segment g state w.segment w.under_way (steps_within g state k under w) entry line out block ends

-- ---- the line of an entry

pub rules_as : (g : Given) (state : State) (old : Kept) (entry other : Entry) (told : Option (List ℕ)) (new : Kept) (told' : Option (List ℕ)) (result : Result Ruling Failure) → entry ≡ other → Rules g state old other told new told' result → Rules g state old entry told new told' result
rules_as g state old entry other told new told' result same r = subst (λ (e : Entry). Rules g state old e told new told' result) (sym same) r

pub within_as : (g : Given) (state : State) (old : Kept) (entry other : Entry) (new : Kept) (result : Result Ruling Failure) → entry ≡ other → RulesWithin g state old other new result → RulesWithin g state old entry new result
within_as g state old entry other new result same r = subst (λ (e : Entry). RulesWithin g state old e new result) (sym same) r

-- ---- a segment that was under way is taken out

pub none_taken : (view k : Kept) → view ≡ k → (taken now : Option Under) → taken ≡ view.under → now ≡ None → taken ≡ None → record view { under = now } ≡ k
none_taken view k same taken now is gone none = ap (λ (u : Option Under). record view { under = u }) (gone ∙ sym none ∙ is) ∙ same

pub some_taken : (view k : Kept) → view ≡ k → (now : Option Under) → now ≡ None → record view { under = now } ≡ record k { under = None }
some_taken view k same now gone = ap (λ (u : Option Under). record view { under = u }) gone ∙ ap (λ (x : Kept). record x { under = None }) same

pub taken_is : (view k : Kept) → view ≡ k → (taken other : Option Under) → taken ≡ view.under → taken ≡ other → k.under ≡ other
taken_is view k same taken other is e = ap (λ (x : Kept). x.under) (sym same) ∙ sym is ∙ e

-- as nothing was under way, the line is that of a choice point
pub point_line : (g : Given) (state : State) (k : Kept) → Stands g state k → (mid : Kept) → mid ≡ k → (entry : Entry) (told : Option (List ℕ)) (new : Kept) (told' : Option (List ℕ)) (result : Result Ruling Failure) →
    (Stands g state mid → Rules g state mid entry told new told' result) → Rules g state k entry told new told' result
point_line g state k stands mid same entry told new told' result r = subst (λ (x : Kept). Rules g state x entry told new told' result) same (r (subst (Stands g state) (sym same) stands))

-- and else of the segment
pub segment_line : (g : Given) (state : State) (k : Kept) → Stands g state k → (k.end ≡ end.Stopped → ⊥) → (mid : Kept) → mid ≡ record k { under = None } → (under : Under) → k.under ≡ Some under → (entry : Entry) (told : Option (List ℕ)) (new : Kept) (result : Result Ruling Failure) →
    (StandsWithin g state mid.core under → IsEnd g state mid.end → RulesWithin g state mid entry new result) → Rules g state k entry told new told result
segment_line g state k stands going mid same under is entry told new result r =
    within_rules g state k stands going told entry new result
    (subst (λ (x : Kept). RulesWithin g state x entry new result) same
    (r (subst (λ (x : Kept). StandsWithin g state x.core under) (sym same) (within_of g state k stands going under is)) (subst (λ (x : Kept). IsEnd g state x.end) (sym same) stands.end_is)))

pub segment_memory : (g : Given) (state : State) (k : Kept) → Stands g state k → (k.end ≡ end.Stopped → ⊥) → (mid : Kept) → mid ≡ record k { under = None } → (under : Under) → k.under ≡ Some under → (entry : Entry) (new : Kept) (result : Result Ruling Failure) →
    (StandsWithin g state mid.core under → IsEnd g state mid.end → RulesWithin g state mid entry new result) → (failure : Failure) → result ≡ Err failure → failure ≡ Failure.Memory
segment_memory g state k stands going mid same under is entry new result r failure e =
    memory_within g state mid entry new result
    (r (subst (λ (x : Kept). StandsWithin g state x.core under) (sym same) (within_of g state k stands going under is)) (subst (λ (x : Kept). IsEnd g state x.end) (sym same) stands.end_is)) failure e
