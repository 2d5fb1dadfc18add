-- It is decided whether the thread under way rests with a step as a line says, and whether the line of a stop is that of what it comes to.
use Rattle.lawful_reading.proofs.Common.{◌≡◌, ℕ, ◌+◌, ◌≤◌, ℤ, List, Option, Some, None, inl, inr, refl, sym, ap, ◌∙◌, subst, slice_get, Stop, TrapKind, Waiting, key_of, StopLine, Given, chunks_of, PutsNext, RestsNext, Segment, State, seen_of, IsPossible, IsCause, IsCut, StopsBy, Decided, decided_by, both_decided, only_decided, le_decided, number_same, integer_same, option_same, held_decided, text_same}
use Rattle.cap_word.specs.Word.{signed}
use Rattle.cap_word.specs.declared.calls.Block.{Block}
use Rattle.c_mean.specs.World as source
use Rattle.lawful_reading.proofs.Moves.{one_put, one_rest}
use Rattle.lawful_reading.proofs.DecidedHappenings.{puts_decided, rests_decided, crowded_decided}
use Rattle.lawful_reading.proofs.Points.{done_decided, idle_decided, bad_decided}

kind_same : (a b : TrapKind) → Decided (a ≡ b)
kind_same TrapKind.Index TrapKind.Index = inl refl
kind_same TrapKind.Table TrapKind.Table = inl refl
kind_same TrapKind.Resource TrapKind.Resource = inl refl
kind_same TrapKind.Channel TrapKind.Channel = inl refl
kind_same a b = inr (λ e. cc)

pub possible_decided : (g : Given) (s : State) (cost free : ℕ) → Decided (IsPossible g s cost free)
possible_decided g s cost free =
    decided_by (λ (p : (s.cost + cost ≤ g.policy.fuel) × (free ≤ chunks_of g)). record { fuel = p.0; chunks = p.1 }) (λ p. (p.fuel, p.chunks))
    (both_decided (le_decided (s.cost + cost) g.policy.fuel) (le_decided free (chunks_of g)))

module _ (g : Given) (segment : Segment) where
  abbrev Rests : ℕ → source.Rested → Type 0
  Rests n rested = RestsNext g.program g.policy.caps segment.here n rested

  one_rested : (n : ℕ) (a b : source.Rested) → Rests n a → Rests n b → a ≡ b
  one_rested n a b p q = (one_rest g.program g.policy.caps segment.here n n a b p q).rests_are

  -- ---- an output

  abbrev pub OutAt : ℤ → ℕ → Type 0
  OutAt value n = (word : ℕ) × ((here : source.Segment) × (PutsNext g.program g.policy.caps segment.here n word here × (value ≡ signed word)))

  pub out_decided : (value : ℤ) (n : ℕ) → Decided (OutAt value n)
  out_decided value n = by (puts_decided g.program g.policy.caps segment.here n) where
    with_value : (p : (word : ℕ) × (here : source.Segment) × PutsNext g.program g.policy.caps segment.here n word here) → Decided (value ≡ signed p.0) → Decided (OutAt value n)
    with_value p (inl e) = inl (p.0, (p.1, (p.2, e)))
    with_value p (inr none) = inr (λ o. none (o.1.1.1 ∙ ap signed (one_put g.program g.policy.caps segment.here o.1.0 p.1 n n o.0 p.0 o.1.1.0 p.2).words))

    by : Decided ((word : ℕ) × (here : source.Segment) × PutsNext g.program g.policy.caps segment.here n word here) → Decided (OutAt value n)
    by (inl p) = with_value p (integer_same value (signed p.0))
    by (inr none) = inr (λ o. none (o.0, o.1.0, o.1.1.0))

  -- ---- a rest without a trap

  abbrev Plain : source.World → source.Rested
  Plain world = record { trap = None; world = world }

  abbrev pub RestAt : (source.World → Type 0) → ℕ → Type 0
  RestAt P n = (world : source.World) × (Rests n (record { trap = None; world = world }) × P world)

  plain_decided : (n : ℕ) (rested : source.Rested) → Rests n rested → Decided (Rests n (Plain rested.world))
  plain_decided n rested r = by rested.trap refl where
    by : (trap : Option TrapKind) → rested.trap ≡ trap → Decided (Rests n (Plain rested.world))
    by None e = let same : rested ≡ Plain rested.world = λ k. record { trap = e k; world = rested.world } in inl (subst (λ (it : source.Rested). Rests n it) same r)
    by (Some kind) e = inr (λ q. let no : Some kind ≡ None = sym e ∙ ap (λ (it : source.Rested). it.trap) (one_rested n rested (Plain rested.world) r q) in absurd (cc))

  pub rest_decided : (P : source.World → Type 0) → ((world : source.World) → Decided (P world)) → (n : ℕ) → Decided (RestAt P n)
  rest_decided P each n = by (rests_decided g.program g.policy.caps segment.here n) where
    by : Decided ((rested : source.Rested) × Rests n rested) → Decided (RestAt P n)
    by (inl r) = only_decided (λ world. Rests n (Plain world) × P world) r.0.world (λ world q. ap (λ (it : source.Rested). it.world) (one_rested n (Plain world) r.0 q.0 r.1)) (both_decided (plain_decided n r.0 r.1) (each r.0.world))
    by (inr none) = inr (λ q. none (Plain q.0, q.1.0))

  -- ---- why a segment is cut

  trap_decided : (kind : TrapKind) (n : ℕ) → Decided ((reached : source.Rested) × Rests n reached × (reached.trap ≡ Some kind))
  trap_decided kind n = by (rests_decided g.program g.policy.caps segment.here n) where
    with_trap : (r : (rested : source.Rested) × Rests n rested) → Decided (r.0.trap ≡ Some kind) → Decided ((reached : source.Rested) × Rests n reached × (reached.trap ≡ Some kind))
    with_trap r (inl e) = inl (r.0, r.1, e)
    with_trap r (inr none) = inr (λ q. none (ap (λ (it : source.Rested). it.trap) (one_rested n r.0 q.0 r.1 q.1) ∙ q.2))

    by : Decided ((rested : source.Rested) × Rests n rested) → Decided ((reached : source.Rested) × Rests n reached × (reached.trap ≡ Some kind))
    by (inl r) = with_trap r (option_same kind_same r.0.trap (Some kind))
    by (inr none) = inr (λ q. none (q.0, q.1))

  cause_decided : (s : State) (stop : Stop) (cost n : ℕ) → Decided (IsCause g s segment stop cost n)
  cause_decided s (Stop.Trap kind) cost n = trap_decided kind n
  cause_decided s Stop.NoChunk cost n = number_same n 0
  cause_decided s Stop.Fuel cost n = both_decided (number_same (s.cost + cost) g.policy.fuel) (number_same n 0)
  cause_decided s Stop.Threads cost n = crowded_decided g.program g.policy.caps segment.here n

-- ---- where a thread rests

module _ (threads : List source.Rest) (thread : ℕ) where
  abbrev pub BlockedAt : List ℕ → Type 0
  BlockedAt key = (block : Block) × ((waiting : Waiting) × ((slice_get threads thread ≡ Some (source.Blocked block waiting)) × (key ≡ key_of waiting)))

  pub blocked_decided : (key : List ℕ) → Decided (BlockedAt key)
  blocked_decided key = by (slice_get threads thread) where
    by : (o : Option source.Rest) → Decided ((block : Block) × ((waiting : Waiting) × ((o ≡ Some (source.Blocked block waiting)) × (key ≡ key_of waiting))))
    by None = inr (λ h. let e = h.1.1.0 in absurd (cc))
    by (Some (source.Fresh function arguments)) = inr (λ h. let e = h.1.1.0 in absurd (cc))
    by (Some source.Ended) = inr (λ h. let e = h.1.1.0 in absurd (cc))
    by (Some (source.Blocked block waiting)) =
        decided_by (λ (e : key ≡ key_of waiting). (block, (waiting, (refl, e)))) (λ h. let e = h.1.1.0 in let same : h.1.0 ≡ waiting = cc in h.1.1.1 ∙ ap key_of same) (text_same key (key_of waiting))

  pub ended_decided : Decided (slice_get threads thread ≡ Some source.Ended)
  ended_decided = by (slice_get threads thread) where
    by : (o : Option source.Rest) → Decided (o ≡ Some source.Ended)
    by None = inr (λ e. absurd (cc))
    by (Some (source.Fresh function arguments)) = inr (λ e. absurd (cc))
    by (Some source.Ended) = inl refl
    by (Some (source.Blocked block waiting)) = inr (λ e. absurd (cc))

-- ---- a stop

module _ (g : Given) (s : State) where
  abbrev CutParts : ℕ → Stop → ℕ → ℕ → ℕ → Segment → Type 0
  CutParts thread stop cost free n segment = (thread ≡ segment.here.number) × (IsPossible g s cost free × IsCause g s segment stop cost n)

  cut_decided : (thread : ℕ) (stop : Stop) (cost free n : ℕ) → Decided (IsCut g s thread stop cost free n)
  cut_decided thread stop cost free n =
      decided_by
      (λ (h : (segment : Segment) × ((s.segment ≡ Some segment) × CutParts thread stop cost free n segment)). record { segment = h.0; under_way = h.1.0; thread_is = h.1.1.0; possible = h.1.1.1.0; cause = h.1.1.1.1 })
      (λ c. (c.segment, (c.under_way, (c.thread_is, (c.possible, c.cause)))))
      (held_decided (CutParts thread stop cost free n) s.segment
      (λ segment e. both_decided (number_same thread segment.here.number) (both_decided (possible_decided g s cost free) (cause_decided g segment s stop cost n))))

  pub stop_decided : (line : StopLine) (n : ℕ) → Decided (StopsBy g s line n)
  stop_decided StopLine.Done n = both_decided (done_decided g.policy (seen_of s)) (number_same n 0)
  stop_decided StopLine.Idle n = both_decided (idle_decided g.policy (seen_of s)) (number_same n 0)
  stop_decided (StopLine.Trace line) n = both_decided (bad_decided g.policy (seen_of s) line) (number_same n 0)
  stop_decided (StopLine.Cut thread stop cost free) n = cut_decided thread stop cost free n
