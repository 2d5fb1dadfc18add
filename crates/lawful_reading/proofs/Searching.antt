-- Of all entries of the format some has what is decided of each, or none has: what fits is finite.
use Rattle.std.specs.Int.{w32, w128}
use Rattle.lawful_reading.proofs.Common.{ℕ, ℤ, pos, negsuc, zero, suc, ◌^◌, ◌<◌, ◌≤◌, ◌⊎◌, inl, inr, List, [], ◌∷◌, length, FitsSigned, arith, AllByRecursion, TrapKind, Item, StopLine, Entry, FitsKey, FitsAverages, FitsItem, FitsStop, FitsEntry, Decided, decided_by, both_decided, either_decided, le_decided, Found, Searched, Number, numbers}
use Rattle.cap_word.specs.declared.stops.Stop.{Stop as Cause}
use mir.Syntax.{Width}
use mir.Val.{hbits}

-- ---- numbers

abbrev Integer : Width → (ℤ → Type 0) → Type 0
Integer w P = Found ℤ (FitsSigned w) P

integers : (w : Width) → Searched ℤ (FitsSigned w)
integers w P each = decided_by to from (either_decided (numbers (2 ^ hbits w) (λ n. P (pos n)) (λ n. each (pos n))) (numbers (2 ^ hbits w) (λ n. P (negsuc n)) (λ n. each (negsuc n)))) where
  to : Number (2 ^ hbits w) (λ n. P (pos n)) ⊎ Number (2 ^ hbits w) (λ n. P (negsuc n)) → Integer w P
  to (inl (n, (fits, p))) = (pos n, (record { sfits = fits }, p))
  to (inr (n, (fits, p))) = (negsuc n, (record { sfits = fits }, p))

  from : Integer w P → Number (2 ^ hbits w) (λ n. P (pos n)) ⊎ Number (2 ^ hbits w) (λ n. P (negsuc n))
  from (pos n, (fits, p)) = inl (n, (fits.sfits, p))
  from (negsuc n, (fits, p)) = inr (n, (fits.sfits, p))

-- ---- lists

module _ {A : Type 0} (Fits : A → Type 0) (search : Searched A Fits) where
  -- at most so many, each of which fits
  abbrev Few : ℕ → List A → Type 0
  Few most xs = (length xs ≤ most) × AllByRecursion Fits xs

  abbrev First : ℕ → (List A → Type 0) → A → Type 0
  First most P x = Found (List A) (Few most) (λ xs. P (x ∷ xs))

  few : (most : ℕ) → Searched (List A) (Few most)
  few zero P each = decided_by (λ (p : P []). ([], ((omega arith, tt), p))) from (each []) where
    from : Found (List A) (Few zero) P → P []
    from ([], (fits, p)) = p
    from (x ∷ xs, (fits, p)) = let none = fits.0 in absurd (omega (arith, none))
  few (suc most) P each = decided_by to from (either_decided (each []) (search (First most P) (λ x. few most (λ xs. P (x ∷ xs)) (λ xs. each (x ∷ xs))))) where
    to : P [] ⊎ Found A Fits (First most P) → Found (List A) (Few (suc most)) P
    to (inl p) = ([], ((omega arith, tt), p))
    to (inr (x, (fits, (xs, (few, p))))) = (x ∷ xs, (((let short = few.0 in omega (arith, short)), (fits, few.1)), p))

    from : Found (List A) (Few (suc most)) P → P [] ⊎ Found A Fits (First most P)
    from ([], (few, p)) = inl p
    from (x ∷ xs, (few, p)) = inr (x, (few.1.0, (xs, (((let short = few.0 in omega (arith, short)), few.1.1), p))))

  abbrev OneToEight : List A → Type 0
  OneToEight xs = (1 ≤ length xs) × (length xs ≤ 8) × AllByRecursion Fits xs

  one_to_eight : Searched (List A) OneToEight
  one_to_eight P each =
      decided_by (λ (s : Found (List A) (Few 8) (λ xs. (1 ≤ length xs) × P xs)). let got : Found (List A) OneToEight P = (s.0, ((s.1.1.0, s.1.0.0, s.1.0.1), s.1.1.1)) in got)
      (λ s. (s.0, ((s.1.0.1, s.1.0.2), (s.1.0.0, s.1.1))))
      (few 8 (λ xs. (1 ≤ length xs) × P xs) (λ xs. both_decided (le_decided 1 (length xs)) (each xs)))

keys : Searched (List ℕ) FitsKey
keys P each = one_to_eight (λ site. site < 2 ^ 32) (numbers (2 ^ 32)) P each

averages : Searched (List ℤ) FitsAverages
averages P each = one_to_eight (FitsSigned w128) (integers w128) P each

-- ---- what comes from outside

abbrev Items : (Item → Type 0) → Type 0
Items P = Integer w32 (λ value. P (Item.Arrive value)) ⊎ Number (2 ^ 32) (λ channel. Integer w32 (λ value. P (Item.Data channel value)))

items : Searched Item FitsItem
items P each =
    decided_by to from
    (either_decided (integers w32 (λ value. P (Item.Arrive value)) (λ value. each (Item.Arrive value)))
    (numbers (2 ^ 32) (λ channel. Integer w32 (λ value. P (Item.Data channel value))) (λ channel. integers w32 (λ value. P (Item.Data channel value)) (λ value. each (Item.Data channel value)))))
  where
    to : Items P → Found Item FitsItem P
    to (inl (value, (fits, p))) = (Item.Arrive value, (fits, p))
    to (inr (channel, (small, (value, (fits, p))))) = (Item.Data channel value, ((small, fits), p))

    from : Found Item FitsItem P → Items P
    from (Item.Arrive value, (fits, p)) = inl (value, (fits, p))
    from (Item.Data channel value, (fits, p)) = inr (channel, (fits.0, (value, (fits.1, p))))

-- ---- stops

abbrev Causes : (Cause → Type 0) → Type 0
Causes P = (P (Cause.Trap TrapKind.Index) ⊎ (P (Cause.Trap TrapKind.Table) ⊎ (P (Cause.Trap TrapKind.Resource) ⊎ P (Cause.Trap TrapKind.Channel)))) ⊎ (P Cause.NoChunk ⊎ (P Cause.Fuel ⊎ P Cause.Threads))

causes : (P : Cause → Type 0) → ((cause : Cause) → Decided (P cause)) → Decided ((cause : Cause) × P cause)
causes P each =
    decided_by to from
    (either_decided
    (either_decided (each (Cause.Trap TrapKind.Index)) (either_decided (each (Cause.Trap TrapKind.Table)) (either_decided (each (Cause.Trap TrapKind.Resource)) (each (Cause.Trap TrapKind.Channel)))))
    (either_decided (each Cause.NoChunk) (either_decided (each Cause.Fuel) (each Cause.Threads))))
  where
    to : Causes P → (cause : Cause) × P cause
    to (inl (inl p)) = (Cause.Trap TrapKind.Index, p)
    to (inl (inr (inl p))) = (Cause.Trap TrapKind.Table, p)
    to (inl (inr (inr (inl p)))) = (Cause.Trap TrapKind.Resource, p)
    to (inl (inr (inr (inr p)))) = (Cause.Trap TrapKind.Channel, p)
    to (inr (inl p)) = (Cause.NoChunk, p)
    to (inr (inr (inl p))) = (Cause.Fuel, p)
    to (inr (inr (inr p))) = (Cause.Threads, p)

    from : (cause : Cause) × P cause → Causes P
    from (Cause.Trap TrapKind.Index, p) = inl (inl p)
    from (Cause.Trap TrapKind.Table, p) = inl (inr (inl p))
    from (Cause.Trap TrapKind.Resource, p) = inl (inr (inr (inl p)))
    from (Cause.Trap TrapKind.Channel, p) = inl (inr (inr (inr p)))
    from (Cause.NoChunk, p) = inr (inl p)
    from (Cause.Fuel, p) = inr (inr (inl p))
    from (Cause.Threads, p) = inr (inr (inr p))

abbrev Cuts : (StopLine → Type 0) → Type 0
Cuts P = Number (2 ^ 32) (λ thread. Number (2 ^ 64) (λ cost. Number (2 ^ 32) (λ free. (cause : Cause) × P (StopLine.Cut thread cause cost free))))

abbrev Stops : (StopLine → Type 0) → Type 0
Stops P = P StopLine.Done ⊎ (P StopLine.Idle ⊎ (Number (2 ^ 64) (λ line. P (StopLine.Trace line)) ⊎ Cuts P))

stops : Searched StopLine FitsStop
stops P each =
    decided_by to from
    (either_decided (each StopLine.Done) (either_decided (each StopLine.Idle) (either_decided (numbers (2 ^ 64) (λ line. P (StopLine.Trace line)) (λ line. each (StopLine.Trace line)))
    (numbers (2 ^ 32) (λ thread. Number (2 ^ 64) (λ cost. Number (2 ^ 32) (λ free. (cause : Cause) × P (StopLine.Cut thread cause cost free))))
    (λ thread. numbers (2 ^ 64) (λ cost. Number (2 ^ 32) (λ free. (cause : Cause) × P (StopLine.Cut thread cause cost free)))
    (λ cost. numbers (2 ^ 32) (λ free. (cause : Cause) × P (StopLine.Cut thread cause cost free))
    (λ free. causes (λ cause. P (StopLine.Cut thread cause cost free)) (λ cause. each (StopLine.Cut thread cause cost free)))))))))
  where
    to : Stops P → Found StopLine FitsStop P
    to (inl p) = (StopLine.Done, (tt, p))
    to (inr (inl p)) = (StopLine.Idle, (tt, p))
    to (inr (inr (inl (line, (fits, p))))) = (StopLine.Trace line, (fits, p))
    to (inr (inr (inr (thread, (t, (cost, (c, (free, (f, (cause, p)))))))))) = (StopLine.Cut thread cause cost free, ((t, c, f), p))

    from : Found StopLine FitsStop P → Stops P
    from (StopLine.Done, (fits, p)) = inl p
    from (StopLine.Idle, (fits, p)) = inr (inl p)
    from (StopLine.Trace line, (fits, p)) = inr (inr (inl (line, (fits, p))))
    from (StopLine.Cut thread cause cost free, (fits, p)) = inr (inr (inr (thread, (fits.0, (cost, (fits.1, (free, (fits.2, (cause, p)))))))))

-- ---- entries

module _ (P : Entry → Type 0) (each : (entry : Entry) → Decided (P entry)) where
  abbrev Runs : Type 0
  Runs = Number (2 ^ 64) (λ clock. Number (2 ^ 32) (λ thread. Number (2 ^ 32) (λ node. P (Entry.Run clock thread node))))

  abbrev Delivered : (ℕ → Item → Entry) → Type 0
  Delivered entry = Number (2 ^ 64) (λ clock. Found Item FitsItem (λ item. P (entry clock item)))

  abbrev Outs : Type 0
  Outs = Number (2 ^ 32) (λ thread. Integer w32 (λ value. P (Entry.Out thread value)))

  abbrev Blocks : Type 0
  Blocks = Number (2 ^ 32) (λ thread. Number (2 ^ 32) (λ node. Found (List ℕ) FitsKey (λ key. Number (2 ^ 64) (λ cost. Number (2 ^ 32) (λ free. P (Entry.Block thread node key cost free))))))

  abbrev Ends : Type 0
  Ends = Number (2 ^ 32) (λ thread. Number (2 ^ 64) (λ cost. Number (2 ^ 32) (λ free. P (Entry.End thread cost free))))

  abbrev Edges : Type 0
  Edges = Number (2 ^ 32) (λ from. Number (2 ^ 32) (λ to. Number (2 ^ 64) (λ count. Integer w128 (λ cost. Found (List ℤ) FitsAverages (λ changes. P (Entry.Edge from to count cost changes))))))

  runs : Decided Runs
  runs = numbers (2 ^ 64) (λ clock. Number (2 ^ 32) (λ thread. Number (2 ^ 32) (λ node. P (Entry.Run clock thread node))))
      (λ clock. numbers (2 ^ 32) (λ thread. Number (2 ^ 32) (λ node. P (Entry.Run clock thread node)))
      (λ thread. numbers (2 ^ 32) (λ node. P (Entry.Run clock thread node)) (λ node. each (Entry.Run clock thread node))))

  delivered : (entry : ℕ → Item → Entry) → Decided (Delivered entry)
  delivered entry = numbers (2 ^ 64) (λ clock. Found Item FitsItem (λ item. P (entry clock item))) (λ clock. items (λ item. P (entry clock item)) (λ item. each (entry clock item)))

  outs : Decided Outs
  outs = numbers (2 ^ 32) (λ thread. Integer w32 (λ value. P (Entry.Out thread value))) (λ thread. integers w32 (λ value. P (Entry.Out thread value)) (λ value. each (Entry.Out thread value)))

  blocks : Decided Blocks
  blocks =
      numbers (2 ^ 32) (λ thread. Number (2 ^ 32) (λ node. Found (List ℕ) FitsKey (λ key. Number (2 ^ 64) (λ cost. Number (2 ^ 32) (λ free. P (Entry.Block thread node key cost free))))))
      (λ thread. numbers (2 ^ 32) (λ node. Found (List ℕ) FitsKey (λ key. Number (2 ^ 64) (λ cost. Number (2 ^ 32) (λ free. P (Entry.Block thread node key cost free)))))
      (λ node. keys (λ key. Number (2 ^ 64) (λ cost. Number (2 ^ 32) (λ free. P (Entry.Block thread node key cost free))))
      (λ key. numbers (2 ^ 64) (λ cost. Number (2 ^ 32) (λ free. P (Entry.Block thread node key cost free)))
      (λ cost. numbers (2 ^ 32) (λ free. P (Entry.Block thread node key cost free)) (λ free. each (Entry.Block thread node key cost free))))))

  ends : Decided Ends
  ends = numbers (2 ^ 32) (λ thread. Number (2 ^ 64) (λ cost. Number (2 ^ 32) (λ free. P (Entry.End thread cost free))))
      (λ thread. numbers (2 ^ 64) (λ cost. Number (2 ^ 32) (λ free. P (Entry.End thread cost free)))
      (λ cost. numbers (2 ^ 32) (λ free. P (Entry.End thread cost free)) (λ free. each (Entry.End thread cost free))))

  edges : Decided Edges
  edges =
      numbers (2 ^ 32) (λ from. Number (2 ^ 32) (λ to. Number (2 ^ 64) (λ count. Integer w128 (λ cost. Found (List ℤ) FitsAverages (λ changes. P (Entry.Edge from to count cost changes))))))
      (λ from. numbers (2 ^ 32) (λ to. Number (2 ^ 64) (λ count. Integer w128 (λ cost. Found (List ℤ) FitsAverages (λ changes. P (Entry.Edge from to count cost changes)))))
      (λ to. numbers (2 ^ 64) (λ count. Integer w128 (λ cost. Found (List ℤ) FitsAverages (λ changes. P (Entry.Edge from to count cost changes))))
      (λ count. integers w128 (λ cost. Found (List ℤ) FitsAverages (λ changes. P (Entry.Edge from to count cost changes)))
      (λ cost. averages (λ changes. P (Entry.Edge from to count cost changes)) (λ changes. each (Entry.Edge from to count cost changes))))))

  abbrev Any : Type 0
  Any = Delivered Entry.Event ⊎ (Delivered Entry.Dropped ⊎ (Runs ⊎ (Outs ⊎ (Blocks ⊎ (Ends ⊎ (Edges ⊎ Found StopLine FitsStop (λ line. P (Entry.Stop line))))))))

  to_entry : Any → Found Entry FitsEntry P
  to_entry (inl (clock, (c, (item, (i, p))))) = (Entry.Event clock item, ((c, i), p))
  to_entry (inr (inl (clock, (c, (item, (i, p)))))) = (Entry.Dropped clock item, ((c, i), p))
  to_entry (inr (inr (inl (clock, (c, (thread, (t, (node, (n, p))))))))) = (Entry.Run clock thread node, ((c, t, n), p))
  to_entry (inr (inr (inr (inl (thread, (t, (value, (v, p)))))))) = (Entry.Out thread value, ((t, v), p))
  to_entry (inr (inr (inr (inr (inl (thread, (t, (node, (n, (key, (k, (cost, (c, (free, (f, p))))))))))))))) = (Entry.Block thread node key cost free, ((t, n, k, c, f), p))
  to_entry (inr (inr (inr (inr (inr (inl (thread, (t, (cost, (c, (free, (f, p)))))))))))) = (Entry.End thread cost free, ((t, c, f), p))
  to_entry (inr (inr (inr (inr (inr (inr (inl (from, (f, (to, (t, (count, (n, (cost, (c, (changes, (h, p))))))))))))))))) = (Entry.Edge from to count cost changes, ((f, t, n, c, h), p))
  to_entry (inr (inr (inr (inr (inr (inr (inr (line, (l, p))))))))) = (Entry.Stop line, (l, p))

  from_entry : Found Entry FitsEntry P → Any
  from_entry (Entry.Event clock item, (h, p)) = inl (clock, (h.0, (item, (h.1, p))))
  from_entry (Entry.Dropped clock item, (h, p)) = inr (inl (clock, (h.0, (item, (h.1, p)))))
  from_entry (Entry.Run clock thread node, (h, p)) = inr (inr (inl (clock, (h.0, (thread, (h.1, (node, (h.2, p))))))))
  from_entry (Entry.Out thread value, (h, p)) = inr (inr (inr (inl (thread, (h.0, (value, (h.1, p)))))))
  from_entry (Entry.Block thread node key cost free, (h, p)) = inr (inr (inr (inr (inl (thread, (h.0, (node, (h.1, (key, (h.2, (cost, (h.3, (free, (h.4, p))))))))))))))
  from_entry (Entry.End thread cost free, (h, p)) = inr (inr (inr (inr (inr (inl (thread, (h.0, (cost, (h.1, (free, (h.2, p)))))))))))
  from_entry (Entry.Edge from to count cost changes, (h, p)) =
      inr (inr (inr (inr (inr (inr (inl (from, (h.0, (to, (h.1, (count, (h.2, (cost, (h.3, (changes, (h.4, p))))))))))))))))
  from_entry (Entry.Stop line, (h, p)) = inr (inr (inr (inr (inr (inr (inr (line, (h, p))))))))

  pub entries : Decided (Found Entry FitsEntry P)
  entries = decided_by to_entry from_entry
      (either_decided (delivered Entry.Event) (either_decided (delivered Entry.Dropped) (either_decided runs (either_decided outs (either_decided blocks (either_decided ends (either_decided edges
      (stops (λ line. P (Entry.Stop line)) (λ line. each (Entry.Stop line))))))))))
