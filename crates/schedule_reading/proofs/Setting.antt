-- A thread that is chosen goes on from where it rests.
use Rattle.schedule_reading.proofs.Common.{◌≡◌, ◌≢◌, ℕ, ◌<◌, List, length, Option, Some, None, Result, Ok, Err, IfOk, option_to_list, refl, sym, ap, ◌∙◌, subst, arith, slice_set, length-set, Block, ThreadId, source_resume, started, ProgramTree, get, IsThread, globals_of, running_of, waiting_of, Thread, Exchanging, MayResume, row_of, wait_at, IsUntrapped, Wait, Rest, Slot, GoesOn, HasBegun, KeepsOthers, MayBegin, MayGo, AreUntrapped, ThreadsState, WaitsAs}
use Rattle.schedule_reading.specs.declared.threads.Rest.TheVariants as rest
use Rattle.schedule_reading.proofs.Waits.{set_other, set_same, there_if}

-- both of what a call ensures
pub if_both : {A E : Type 0} (r : Result A E) (P Q R : A → Type 0) → ((a : A) → P a → Q a → R a) → IfOk r P → IfOk r Q → IfOk r R
if_both (Ok a) P Q R both p q = both a p q
if_both (Err e) P Q R both p q = tt

module _ (tree : ProgramTree) (old : ThreadsState) (words : List ℕ) (chosen : ThreadId) (may : MayBegin tree old words chosen) where
  -- what waits where it stood
  waits_by : (r : Rest) (block : Block) (thread : Thread) → r ≡ rest.Blocked block thread → WaitsAs r (wait_at old.waits chosen.slot) → (since : ℕ) × (wait_at old.waits chosen.slot ≡ Some (Wait.At block since))
  waits_by r block thread e w = subst (λ (x : Rest). WaitsAs x (wait_at old.waits chosen.slot)) e w

  untrapped_by : (o : Option Wait) (block : Block) (since : ℕ) → o ≡ Some (Wait.At block since) → IsUntrapped old.exchange o → (row_of old.exchange block).trap ≡ None
  untrapped_by o block since e u = let is : IsUntrapped old.exchange (Some (Wait.At block since)) = subst (IsUntrapped old.exchange) e u in is.0

  module _ (block : Block) (thread : Thread) (blocked : may.slot.rest ≡ rest.Blocked block thread) where
    go : MayGo tree old.exchange words (rest.Blocked block thread)
    go = subst (MayGo tree old.exchange words) blocked may.may

    pub may_resume : AreUntrapped old.exchange old.waits → (x : Exchanging) → x ≡ old.exchange → MayResume x block
    may_resume all x same = subst (λ (y : Exchanging). MayResume y block) (sym same) (record {
      untrapped = (let w = waits_by may.slot.rest block thread blocked may.waits_as in untrapped_by (wait_at old.waits chosen.slot) block w.0 w.1 (all chosen.slot));
      ready = go.0;
    })

    pub blocked_thread : IsThread tree thread words
    blocked_thread = go.1

  module _ (mid : ThreadsState) (away : (slot : Slot) → get old.slots chosen.slot ≡ Some slot → get mid.slots chosen.slot ≡ Some (record slot { rest = rest.Away }))
      (others : (other : ℕ) → other ≢ chosen.slot → get mid.slots other ≡ get old.slots other)
      (after : mid ≡ record old { slots = mid.slots; waits = record old.waits { places = slice_set old.waits.places chosen.slot None } }) where
    below : chosen.slot < length old.waits.places
    below = there_if old.waits.places chosen.slot may.waits

    kept : KeepsOthers old mid chosen.slot
    kept = record {
      slots = others;
      waits = λ other apart. ap (λ (t : ThreadsState). wait_at t.waits other) after ∙ set_other old.waits chosen.slot None other apart;
      longer = let same = ap (λ (t : ThreadsState). length t.waits.places) after ∙ length-set old.waits.places chosen.slot None in omega (arith, same);
    }

    pub begun : (y : Exchanging) (words' : List ℕ) (thread : Thread) → y.caps ≡ old.exchange.caps → y.backlog ≡ old.exchange.backlog → GoesOn tree may.slot.rest old.exchange words y words' thread → IsThread tree thread words' →
        HasBegun tree old words (record mid { exchange = y }) words' chosen thread
    begun y words' thread caps backlog goes is = record {
      slot = may.slot;
      was = may.there;
      away = away may.slot may.there;
      waits = ap (λ (t : ThreadsState). wait_at t.waits chosen.slot) after ∙ set_same old.waits chosen.slot None below;
      others = record { slots = kept.slots; waits = kept.waits; longer = kept.longer };
      clock = ap (λ (t : ThreadsState). t.waits.clock) after;
      goes_on = goes;
      thread_is = is;
      caps = caps;
      backlog = backlog;
      live = ap (λ (t : ThreadsState). t.live) after;
      next = ap (λ (t : ThreadsState). t.next) after;
    }

    -- it hasn't run
    pub begun_fresh : (function : ℕ) (argument : Option ℕ) → may.slot.rest ≡ rest.Fresh function argument → (thread : Thread) → running_of tree thread words ≡ started tree function (option_to_list argument) (globals_of tree words) → IsThread tree thread words →
        HasBegun tree old words mid words chosen thread
    begun_fresh function argument fresh thread runs is =
        subst (λ (t : ThreadsState). HasBegun tree old words t words chosen thread) (λ i. record mid { exchange = same i })
        (begun old.exchange words thread refl refl (subst (λ (r : Rest). GoesOn tree r old.exchange words old.exchange words thread) (sym fresh) (runs, refl, refl)) is)
      where
        same : old.exchange ≡ mid.exchange
        same = ap (λ (t : ThreadsState). t.exchange) (sym after)

    -- it has waited
    pub begun_blocked : (block : Block) (blocked : Thread) → may.slot.rest ≡ rest.Blocked block blocked → (x y : Exchanging) → x ≡ old.exchange → y ≡ record x { exchange = (row_of x block).after } → (word : ℕ) → word ≡ (row_of x block).result →
        (words' : List ℕ) (thread : Thread) → running_of tree thread words' ≡ source_resume (waiting_of tree blocked) (record { result = word; globals = globals_of tree words }) → IsThread tree thread words' →
        HasBegun tree old words (record mid { exchange = y }) words' chosen thread
    begun_blocked block blocked is_blocked x y same y_is word word_is words' thread runs is =
        let y_old : y ≡ record old.exchange { exchange = (row_of old.exchange block).after } = y_is ∙ ap (λ (z : Exchanging). record z { exchange = (row_of z block).after }) same in
        let word_old : word ≡ (row_of old.exchange block).result = word_is ∙ ap (λ (z : Exchanging). (row_of z block).result) same in
        begun y words' thread (ap (λ (z : Exchanging). z.caps) y_old) (ap (λ (z : Exchanging). z.backlog) y_old)
        (subst (λ (r : Rest). GoesOn tree r old.exchange words y words' thread) (sym is_blocked)
        (runs ∙ ap (λ (n : ℕ). source_resume (waiting_of tree blocked) (record { result = n; globals = globals_of tree words })) word_old, y_old)) is
