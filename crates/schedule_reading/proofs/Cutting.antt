-- Stops that cut the segment under way.
use Rattle.schedule_reading.proofs.Common.{◌≡◌, ℕ, ◌+◌, ◌-◌, ◌<◌, ◌≤◌, inl, inr, Bool, true, false, Option, Some, None, Result, Ok, refl, sym, ap, ◌∙◌, subst, arith, ⊎_elim, cases_lt, Block, Stop, TrapKind, IsCause, IsCut, Given, ComesAt, IsCrowdedNext, RestsNext, IsBeyond, StopNeeds, not_put_and_rest, one_put, one_rest, Entry, StopLine, Happening, Under, Failure, Ruling, HasProceeded, IsWithin, CrowdsFirst, HasHappened, NoneCrowded, RulesCause, RulesCrowd, RulesCut, RulesTrap, TrapsNext, Core, ruled, StandsWithin, same_segment}
use Rattle.c_mean.specs.World as source
use Rattle.lawful_reading.specs.State.{IsPossible, Segment, State}
use Rattle.schedule_reading.specs.declared.events.Happening.TheVariants as happening
use Rattle.schedule_reading.specs.declared.rulings.Ruling.TheVariants as ruling
use Rattle.schedule_reading.proofs.Proceeding.{Came, came_blocks, came_ends, came_puts, came_traps, silent_comes}

pub cause_needs : (g : Given) (state : State) (segment : Segment) (stop : Stop) (cost steps : ℕ) → IsCause g state segment stop cost steps → StopNeeds g segment stop steps
cause_needs g state segment (Stop.Trap kind) cost steps c = inr (c.0, c.1)
cause_needs g state segment Stop.NoChunk cost steps c = c
cause_needs g state segment Stop.Fuel cost steps c = c.1
cause_needs g state segment Stop.Threads cost steps c = inl c

-- ---- a trap

module _ (g : Given) (state : State) (old : Core) (old_under : Under) (k : Core) (under : Under) (stands : StandsWithin g state old old_under) (kind : TrapKind) where
  -- what comes is no such trap
  by_came : (c : Came g state) → ((other : ℕ) → TrapsNext g c.segment other kind → ⊥) → RulesTrap g state kind (Ok ruling.Refused)
  by_came c never = (c.segment, c.under_way, c.steps, c.comes, c.within, never)

  no_rest : (segment : Segment) (steps other : ℕ) (rested : source.Rested) → RestsNext g.program g.policy.caps segment.here steps rested → (rested.trap ≡ Some kind → ⊥) → TrapsNext g segment other kind → ⊥
  no_rest segment steps other rested r never t =
      never (ap (λ (x : source.Rested). x.trap) (one_rest g.program g.policy.caps segment.here steps other rested t.0 r t.1).rests_are ∙ t.2)

  none_some : (o : Option TrapKind) → o ≡ None → o ≡ Some kind → ⊥
  none_some o e f = absurd (let no : None ≡ Some kind = sym e ∙ f in cc)

  pub traps_same : HasProceeded g state old old_under k under (Ok (happening.Traps kind)) → RulesTrap g state kind (Ok ruling.Allowed)
  traps_same p =
      let c = came_traps g state old old_under k under stands kind p in
      (p.segment, p.under_way, old.left - k.left, (record { trap = Some kind; world = p.happened.world }, p.happened.next, refl), c.within)

  pub traps_other : (other : TrapKind) → (kind ≡ other → ⊥) → HasProceeded g state old old_under k under (Ok (happening.Traps other)) → RulesTrap g state kind (Ok ruling.Refused)
  traps_other other apart p = by_came (came_traps g state old old_under k under stands other p)
      (λ n. no_rest p.segment (old.left - k.left) n (record { trap = Some other; world = p.happened.world }) p.happened.next (λ e. apart (same_kind other (sym e)))) where
        same_kind : (o : TrapKind) → ◌≡◌ {A = Option TrapKind} (Some kind) (Some o) → kind ≡ o
        same_kind o e = cc

  pub trap_ruled : (other : TrapKind) (b : Bool) → (b ≡ true → kind ≡ other) → (b ≡ false → kind ≡ other → ⊥) → HasProceeded g state old old_under k under (Ok (happening.Traps other)) → RulesTrap g state kind (Ok (ruled b))
  trap_ruled other true is never p = traps_same (subst (λ (t : TrapKind). HasProceeded g state old old_under k under (Ok (happening.Traps t))) (sym (is refl)) p)
  trap_ruled other false is never p = traps_other other (never refl) p

  pub trap_late : HasProceeded g state old old_under k under (Ok happening.OutOfSteps) → RulesTrap g state kind (Ok ruling.OutOfSteps)
  trap_late p = (
    p.segment,
    p.under_way,
    λ steps comes.
        let far = silent_comes g p.segment.here p.happened.1.after steps old.left comes p.happened.1.silent in
        let count = stands.counted.left in
        omega (arith, far, count),
  )

  -- it puts, blocks or ends
  pub trap_puts : (word : ℕ) → HasProceeded g state old old_under k under (Ok (happening.Puts word)) → RulesTrap g state kind (Ok ruling.Refused)
  trap_puts word p = by_came (came_puts g state old old_under k under stands word p)
      (λ n t. not_put_and_rest g.program g.policy.caps p.segment.here p.happened.after (old.left - k.left) n word t.0 p.happened.next t.1)

  pub trap_blocks : (block : Block) → HasProceeded g state old old_under k under (Ok (happening.Blocks block)) → RulesTrap g state kind (Ok ruling.Refused)
  trap_blocks block p = by_came (came_blocks g state old old_under k under stands block p)
      (λ n. no_rest p.segment (old.left - k.left) n _ p.happened.rests.next (none_some None refl))

  pub trap_ends : HasProceeded g state old old_under k under (Ok happening.Ends) → RulesTrap g state kind (Ok ruling.Refused)
  trap_ends p = by_came (came_ends g state old old_under k under stands p)
      (λ n. no_rest p.segment (old.left - k.left) n _ p.happened.rests.next (none_some None refl))

  -- so it is with all but a trap, where a start that is one too many isn't asked for
  pub trap_not : (came : Happening) → HasProceeded g state old old_under k under (Ok came) → (came ≡ happening.OutOfSteps → ⊥) → ((other : TrapKind) → came ≡ happening.Traps other → ⊥) → (came ≡ happening.IsCrowded → ⊥) → RulesTrap g state kind (Ok ruling.Refused)
  trap_not (happening.Puts word) p no_late no_trap no_crowd = trap_puts word p
  trap_not (happening.Blocks block) p no_late no_trap no_crowd = trap_blocks block p
  trap_not happening.Ends p no_late no_trap no_crowd = trap_ends p
  trap_not (happening.Traps other) p no_late no_trap no_crowd = absurd (no_trap other refl)
  trap_not happening.IsCrowded p no_late no_trap no_crowd = absurd (no_crowd refl)
  trap_not happening.OutOfSteps p no_late no_trap no_crowd = absurd (no_late refl)

-- ---- a start that is one too many

module _ (g : Given) (state : State) (old : Core) (old_under : Under) (stands : StandsWithin g state old old_under) (left : ℕ) (k : Core) (under : Under) where
  abbrev here : source.Segment
  here = stands.segment.here

  abbrev taken : ℕ
  taken = old.left + 1 - left

  count : old.left + state.steps ≡ g.most_steps
  count = stands.counted.left

  -- what comes comes once
  one_coming : (n m : ℕ) → ComesAt g.program g.policy.caps here n → ComesAt g.program g.policy.caps here m → n ≡ m
  one_coming n m (inl p) (inl q) = (one_put g.program g.policy.caps here p.1 q.1 n m p.0 q.0 p.2 q.2).steps_are
  one_coming n m (inl p) (inr q) = absurd (not_put_and_rest g.program g.policy.caps here p.1 n m p.0 q.0 p.2 q.1)
  one_coming n m (inr p) (inl q) = absurd (not_put_and_rest g.program g.policy.caps here q.1 m n q.0 p.0 q.2 p.1)
  one_coming n m (inr p) (inr q) = (one_rest g.program g.policy.caps here n m p.0 q.0 p.1 q.1).steps_are

  -- a start that is one too many comes after silent steps
  crowd_before : (n steps : ℕ) → ComesAt g.program g.policy.caps here n → IsCrowdedNext g.program g.policy.caps here steps → steps < n
  crowd_before n steps comes crowded = silent_comes g here crowded.here n steps comes crowded.silent

  crowd_after : NoneCrowded g here taken → (steps : ℕ) → IsCrowdedNext g.program g.policy.caps here steps → taken ≤ steps
  crowd_after none steps crowded = ⊎_elim (λ (early : steps < taken). absurd (none steps early crowded)) (λ late. late) (cases_lt steps taken)

  pub crowd_late : left ≡ 0 → HasHappened g state here (old.left + 1) left k under (Ok happening.OutOfSteps) → NoneCrowded g here taken → RulesCrowd g state (Ok ruling.OutOfSteps)
  crowd_late over h none = (
    stands.segment,
    stands.under_way,
    λ steps. λ either. ⊎_elim
        (λ (crowded : IsCrowdedNext g.program g.policy.caps here steps). let late = crowd_after none steps crowded in let c = count in omega (arith, late, c, over))
        (λ comes. let far = silent_comes g here h.1.after steps (old.left + 1) comes h.1.silent in let c = count in omega (arith, far, c))
        either,
  )

  pub crowd_now : left ≤ old.left + 1 → HasHappened g state here (old.left + 1) left k under (Ok happening.IsCrowded) → RulesCrowd g state (Ok ruling.Allowed)
  crowd_now few h = (stands.segment, stands.under_way, h.steps, h.next, (let t = h.taken_is in let c = count in omega (arith, t, c, few)))

  -- something else has come
  module _ (comes : ComesAt g.program g.policy.caps here taken) (none : NoneCrowded g here taken) (few : left ≤ old.left + 1) where
    pub crowd_far : left ≡ 0 → RulesCrowd g state (Ok ruling.OutOfSteps)
    crowd_far over = (
      stands.segment,
      stands.under_way,
      λ steps. λ either. ⊎_elim
          (λ (crowded : IsCrowdedNext g.program g.policy.caps here steps). let late = crowd_after none steps crowded in let c = count in omega (arith, late, c, over))
          (λ other. let same = one_coming taken steps comes other in let c = count in omega (arith, same, c, over))
          either,
    )

    pub crowd_not : 0 < left → RulesCrowd g state (Ok ruling.Refused)
    crowd_not some = (
      stands.segment,
      stands.under_way,
      taken,
      comes,
      (let c = count in omega (arith, c, some, few)),
      λ other crowded. let late = crowd_after none other crowded in let early = crowd_before taken other comes crowded in omega (arith, late, early),
    )

  -- what has come, where it is no such start
  module _ (came : Happening) (h : HasHappened g state here (old.left + 1) left k under (Ok came)) (first : CrowdsFirst g here true taken (Ok came)) (no_crowd : came ≡ happening.IsCrowded → ⊥) (few : left ≤ old.left + 1) where
    pub crowd_over : left ≡ 0 → RulesCrowd g state (Ok ruling.OutOfSteps)
    crowd_over over = by came h first no_crowd where
      by : (came : Happening) → HasHappened g state here (old.left + 1) left k under (Ok came) → CrowdsFirst g here true taken (Ok came) → (came ≡ happening.IsCrowded → ⊥) → RulesCrowd g state (Ok ruling.OutOfSteps)
      by (happening.Puts word) h first no_crowd = crowd_far (inl (word, h.after, h.next)) (first refl) few over
      by (happening.Blocks block) h first no_crowd = crowd_far (inr (_, h.rests.next)) (first refl) few over
      by happening.Ends h first no_crowd = crowd_far (inr (_, h.rests.next)) (first refl) few over
      by (happening.Traps other) h first no_crowd = crowd_far (inr (_, h.next)) (first refl) few over
      by happening.IsCrowded h first no_crowd = absurd (no_crowd refl)
      by happening.OutOfSteps h first no_crowd = crowd_late over h (first refl)

    pub crowd_else : (left ≡ 0 → ⊥) → RulesCrowd g state (Ok ruling.Refused)
    crowd_else some = by came h first no_crowd where
      more : 0 < left
      more = omega (arith, some)

      by : (came : Happening) → HasHappened g state here (old.left + 1) left k under (Ok came) → CrowdsFirst g here true taken (Ok came) → (came ≡ happening.IsCrowded → ⊥) → RulesCrowd g state (Ok ruling.Refused)
      by (happening.Puts word) h first no_crowd = crowd_not (inl (word, h.after, h.next)) (first refl) few more
      by (happening.Traps other) h first no_crowd = crowd_not (inr (_, h.next)) (first refl) few more
      by happening.IsCrowded h first no_crowd = absurd (no_crowd refl)
      by happening.OutOfSteps h first no_crowd = absurd (some h.0)
      by _ h first no_crowd = crowd_not (inr (_, h.rests.next)) (first refl) few more

-- ---- the line of the stop

-- costs and free chunks that may be
module _ (g : Given) (state : State) (old : Core) (old_under : Under) (stands : StandsWithin g state old old_under) (cost free : ℕ) where
  pub possible_is : IsWithin old cost free → IsPossible g state cost free
  possible_is w = record {
    fuel = let most = w.fuel in let fuel = stands.of.fuel in let here = stands.counted.cost in omega (arith, most, fuel, here);
    chunks = let most = w.chunks in let chunks = stands.of.chunks in omega (arith, most, chunks);
  }

  pub within_is : IsPossible g state cost free → IsWithin old cost free
  within_is p = record {
    fuel = let most = p.fuel in let fuel = stands.of.fuel in let here = stands.counted.cost in omega (arith, most, fuel, here);
    chunks = let most = p.chunks in let chunks = stands.of.chunks in omega (arith, most, chunks);
  }

  -- the line tells of the segment
  abbrev pub Tells : ℕ → Type 0
  Tells thread = (thread ≡ old_under.choice.thread.number) × IsWithin old cost free

  own_number : old_under.choice.thread.number ≡ stands.segment.here.number
  own_number = stands.runs.beside.number_is

  module _ (thread : ℕ) (stop : Stop) where
    abbrev line : StopLine
    line = StopLine.Cut thread stop cost free

    cut_is : (steps : ℕ) → Tells thread → IsCause g state stands.segment stop cost steps → IsCut g state thread stop cost free steps
    cut_is steps tells cause = record {
      segment = stands.segment;
      under_way = stands.under_way;
      thread_is = tells.0 ∙ own_number;
      possible = possible_is tells.1;
      cause = cause;
    }

    cut_tells : (steps : ℕ) → IsCut g state thread stop cost free steps → Tells thread
    cut_tells steps c = (c.thread_is ∙ ap (λ (s : Segment). s.here.number) (same_segment state c.segment stands.segment c.under_way stands.under_way) ∙ sym own_number, within_is c.possible)

    cut_cause : (steps : ℕ) → IsCut g state thread stop cost free steps → IsCause g state stands.segment stop cost steps
    cut_cause steps c = subst (λ (s : Segment). IsCause g state s stop cost steps) (same_segment state c.segment stands.segment c.under_way stands.under_way) c.cause

    -- the stop has its cause, within the steps
    pub record HasCause : Type 0 where
      pub steps : ℕ
      pub cause : IsCause g state stands.segment stop cost steps
      pub within : state.steps + steps ≤ g.most_steps
      pub needs : (segment : Segment) → state.segment ≡ Some segment → StopNeeds g segment stop steps

    caused_enough : HasCause → IsBeyond g state (Entry.Stop line) → ⊥
    caused_enough h b = let far = b.beyond h.steps (h.needs b.segment b.under_way) in let near = h.within in omega (arith, far, near)

    pub cut_ruled : (b : Bool) → (b ≡ true → Tells thread) → (b ≡ false → Tells thread → ⊥) → HasCause → RulesCut g state line (Ok (ruled b))
    cut_ruled true is never h = (h.steps, cut_is h.steps (is refl) h.cause, h.within)
    cut_ruled false is never h = (λ steps c. never refl (cut_tells steps c), caused_enough h)

    -- it has none
    pub cut_refused : ((steps : ℕ) → IsCause g state stands.segment stop cost steps → ⊥) → (IsBeyond g state (Entry.Stop line) → ⊥) → RulesCut g state line (Ok ruling.Refused)
    cut_refused never enough = (λ steps c. never steps (cut_cause steps c), enough)

    pub cut_late : (beyond : (segment : Segment) → state.segment ≡ Some segment → (steps : ℕ) → StopNeeds g segment stop steps → g.most_steps < state.steps + steps) → RulesCut g state line (Ok ruling.OutOfSteps)
    cut_late beyond = record { segment = stands.segment; under_way = stands.under_way; beyond = beyond stands.segment stands.under_way }

    -- by the cause of the segment under way
    cause_here : (steps : ℕ) (segment : Segment) → state.segment ≡ Some segment → IsCause g state segment stop cost steps → IsCause g state stands.segment stop cost steps
    cause_here steps segment under_way = subst (λ (s : Segment). IsCause g state s stop cost steps) (same_segment state segment stands.segment under_way stands.under_way)

    has_cause : RulesCause g state stop cost (Ok ruling.Allowed) → HasCause
    has_cause r = record {
      steps = r.2;
      cause = cause_here r.2 r.0 r.1 r.3;
      within = r.4;
      needs = λ segment under_way. subst (λ (s : Segment). StopNeeds g s stop r.2) (same_segment state r.0 segment r.1 under_way) (cause_needs g state r.0 stop cost r.2 r.3);
    }

    pub cut_allowed : (b : Bool) → (b ≡ true → Tells thread) → (b ≡ false → Tells thread → ⊥) → RulesCause g state stop cost (Ok ruling.Allowed) → RulesCut g state line (Ok (ruled b))
    cut_allowed b is never r = cut_ruled b is never (has_cause r)

    pub cut_not : RulesCause g state stop cost (Ok ruling.Refused) → RulesCut g state line (Ok ruling.Refused)
    cut_not r = cut_refused
        (λ steps c. r.2 steps (subst (λ (s : Segment). IsCause g state s stop cost steps) (same_segment state stands.segment r.0 stands.under_way r.1) c))
        (λ b. r.3 (λ steps n. b.beyond steps (subst (λ (s : Segment). StopNeeds g s stop steps) (same_segment state r.0 b.segment r.1 b.under_way) n)))

    pub cut_beyond : RulesCause g state stop cost (Ok ruling.OutOfSteps) → RulesCut g state line (Ok ruling.OutOfSteps)
    cut_beyond r = cut_late
        (λ segment under_way steps n. r.2 steps (subst (λ (s : Segment). StopNeeds g s stop steps) (same_segment state segment r.0 under_way r.1) n))

-- ---- each cause

module _ (g : Given) (state : State) (cost : ℕ) where
  pub cause_trap : (kind : TrapKind) (result : Result Ruling Failure) → RulesTrap g state kind result → RulesCause g state (Stop.Trap kind) cost result
  cause_trap kind (Ok ruling.Refused) r = (r.0, r.1, r.5, λ far. let beyond = far r.2 r.3 in let near = r.4 in omega (arith, beyond, near))
  cause_trap kind _ r = r

  pub cause_crowd : (result : Result Ruling Failure) → RulesCrowd g state result → RulesCause g state Stop.Threads cost result
  cause_crowd (Ok ruling.Refused) r = (r.0, r.1, r.5, λ far. let beyond = far r.2 (inr r.3) in let near = r.4 in omega (arith, beyond, near))
  cause_crowd _ r = r

  module _ (segment : Segment) (under_way : state.segment ≡ Some segment) (within : state.steps ≤ g.most_steps) where
    none_within : state.steps + 0 ≤ g.most_steps
    none_within = omega (arith, within)

    pub cause_fuel : (b : Bool) → (b ≡ true → state.cost + cost ≡ g.policy.fuel) → (b ≡ false → state.cost + cost ≡ g.policy.fuel → ⊥) → RulesCause g state Stop.Fuel cost (Ok (ruled b))
    cause_fuel true is never = (segment, under_way, 0, (is refl, refl), none_within)
    cause_fuel false is never = (segment, under_way, (λ steps c. never refl c.0), λ far. let beyond = far 0 refl in let near = within in omega (arith, beyond, near))
