-- Every line of a log whose entries fit their types is read back, and what is counted over it fits the types of a tally.
use Rattle.capriccio_commands.proofs.Common.{◌≡◌, ℕ, suc, ◌+◌, ◌^◌, ◌<◌, ◌≤◌, ℤ, ◌+ℤ◌, List, [], ◌∷◌, ◌++◌, length, map, Option, Some, Result, Ok, Err, FitsSigned, unsigned_abs, ap, sym, ◌∙◌, subst, arith, length-append, OnOk, w32, ints, lines_of, Setup, entry_text, log_text, Entry, Done, Idle, Cut, log_lines, CameTo, IsRunEnd, IsFitText, RunEnd, Held, Ended, IsClosed, HasRoom, TakesFit, counted, no_tally, Tally}
use Rattle.std.specs.List.{AllByRecursion}
use Rattle.schedule_log.specs.EntryRanges.{FitsEntry, IsLogLine}
use Rattle.schedule_log.specs.declared.entries.Entry.TheVariants.{Run, Out, Block, End, Stop}
use Rattle.runner.specs.declared.ends.RunEnd.TheVariants as end
use Rattle.command_outcomes.specs.declared.stops.Stop.{Stop as LastStep}

-- ---- the log of a run

module _ (g : Setup) (held : Held) (left taken taken' : Option (List ℕ)) (reads reads' writes writes' : ℕ) (r : Result Ended LastStep) where
  came-fits : (answer : RunEnd) (ended : Ended) → CameTo g held left taken taken' answer → r ≡ Ok ended → OnOk r (TakesFit taken taken')
  came-fits answer ended came is =
      subst (λ (a : Result Ended LastStep). OnOk a (TakesFit taken taken')) (sym is) (record { text = log_text came.log.entries; fits = came.fits; writes = came.writes })

  no-log : (stop : LastStep) → r ≡ Err stop → OnOk r (TakesFit taken taken')
  no-log stop is = subst (λ (a : Result Ended LastStep). OnOk a (TakesFit taken taken')) (sym is) tt

  -- where the command ends with a status, the run came to its stop
  pub closed-fits : (answer : RunEnd) → IsRunEnd g held left taken taken' reads reads' writes writes' answer → IsClosed held answer r → OnOk r (TakesFit taken taken')
  closed-fits end.Done h is = came-fits end.Done _ h.0 is
  closed-fits (end.BadTrace line) h is = came-fits (end.BadTrace line) _ h.0 is
  closed-fits end.Idle h is = came-fits end.Idle _ h.0 is
  closed-fits (end.Trap thread kind) h is = came-fits (end.Trap thread kind) _ h.0 is
  closed-fits (end.NoChunk thread) h is = came-fits (end.NoChunk thread) _ h.0 is
  closed-fits (end.Fuel thread) h is = came-fits (end.Fuel thread) _ h.0 is
  closed-fits (end.Threads thread) h is = came-fits (end.Threads thread) _ h.0 is
  closed-fits _ h is = no-log _ is

-- the log in a sink that was empty
pub clean-fits : (log : List ℕ) → TakesFit (Some []) (Some log) → IsFitText log
clean-fits log h = let is : log ≡ h.text = h.writes in subst IsFitText (sym is) h.fits

-- ---- the lines that are left

-- the lines that are left are those of entries that fit their types, and the tally has room for them
pub record IsReading (left : List (List ℕ)) (t : Tally) : Type 0 where
  pub rest : List Entry
  pub fit : AllByRecursion FitsEntry rest
  pub lines : left ≡ map entry_text rest
  pub room : HasRoom (length rest) t

-- each entry has a line feed at least
more-entries : (entry : Entry) (text : List ℕ) (n : ℕ) → n ≤ length text → suc n ≤ length ((entry_text entry ++ 10 ∷ []) ++ text)
more-entries entry text n few =
    let whole = length-append (entry_text entry ++ 10 ∷ []) text in
    let line = length-append (entry_text entry) (10 ∷ []) in
    omega (arith, whole, line, few)

pub entries-few : (entries : List Entry) → length entries ≤ length (log_text entries)
unfolding log_text
entries-few [] = omega arith
entries-few (entry ∷ entries) = more-entries entry (log_text entries) (length entries) (entries-few entries)

pub reading-starts : (log : List ℕ) → length log < 2 ^ 63 → IsFitText log → IsReading (lines_of log) no_tally
reading-starts log small h =
    let few : length h.fitting ≤ length log = subst (λ (l : List ℕ). length h.fitting ≤ length l) (sym h.text_is) (entries-few h.fitting) in
    record {
      rest = h.fitting;
      fit = h.fit;
      lines = ap lines_of h.text_is ∙ log_lines h.fitting;
      room = record { choices = omega (arith, small, few); outputs = omega (arith, small, few); sum = omega (arith, small, few); cost = omega (arith, small, few) };
    }

-- a line that is left is that of an entry that fits
line-by : (line : List ℕ) (left' : List (List ℕ)) (rest : List Entry) → AllByRecursion FitsEntry rest → line ∷ left' ≡ map entry_text rest → IsLogLine line
line-by line left' [] fit is = absurd (cc)
line-by line left' (entry ∷ rest) fit is = let same : entry_text entry ≡ line = cc in (entry, fit.0, same)

pub line-is-read : (line : List ℕ) (left left' : List (List ℕ)) (t : Tally) → IsReading left t → left ≡ line ∷ left' → IsLogLine line
line-is-read line left left' t h goes = line-by line left' h.rest h.fit (sym goes ∙ h.lines)

-- ---- room

room-for : (left : ℕ) (t : Tally) → HasRoom (suc left) t → HasRoom 1 t
room-for left t h = let a = h.choices in let b = h.outputs in let c = h.sum in let d = h.cost in
    record { choices = omega (arith, a); outputs = omega (arith, b); sum = omega (arith, c); cost = omega (arith, d) }

room-kept : (left : ℕ) (t : Tally) → HasRoom (suc left) t → HasRoom left t
room-kept left t h = let a = h.choices in let b = h.outputs in let c = h.sum in let d = h.cost in
    record { choices = omega (arith, a); outputs = omega (arith, b); sum = omega (arith, c); cost = omega (arith, d) }

-- the absolute value of a word as a signed number
pub word-abs : (value : ℤ) → FitsSigned w32 value → unsigned_abs value ≤ 2 ^ 31
word-abs value fits = omega (arith, ints, fits)

pub sum-abs : (sum value : ℤ) → unsigned_abs value ≤ 2 ^ 31 → unsigned_abs (sum +ℤ value) ≤ unsigned_abs sum + 2 ^ 31
sum-abs sum value small = omega (arith, ints, small)

room-of-cost : (left cost : ℕ) (t : Tally) → cost < 2 ^ 64 → HasRoom (suc left) t → HasRoom left (record t { cost = t.cost + cost })
room-of-cost left cost t small h = let a = h.choices in let b = h.outputs in let c = h.sum in let d = h.cost in
    record { choices = omega (arith, a); outputs = omega (arith, b); sum = omega (arith, c); cost = omega (arith, d, small) }

room-of-choice : (left : ℕ) (t : Tally) → HasRoom (suc left) t → HasRoom left (record t { choices = t.choices + 1 })
room-of-choice left t h = let a = h.choices in let b = h.outputs in let c = h.sum in let d = h.cost in
    record { choices = omega (arith, a); outputs = omega (arith, b); sum = omega (arith, c); cost = omega (arith, d) }

room-of-output : (left : ℕ) (value : ℤ) (t : Tally) → FitsSigned w32 value → HasRoom (suc left) t → HasRoom left (record t { outputs = t.outputs + 1; sum = t.sum +ℤ value })
room-of-output left value t fits h = let a = h.choices in let b = h.outputs in let c = h.sum in let d = h.cost in
    let e = sum-abs t.sum value (word-abs value fits) in
    record { choices = omega (arith, a); outputs = omega (arith, b); sum = omega (arith, c, e); cost = omega (arith, d) }

room-after : (left : ℕ) (entry : Entry) (t : Tally) → FitsEntry entry → HasRoom (suc left) t → HasRoom left (counted entry t)
room-after left (Run clock thread node) t fits h = room-of-choice left t h
room-after left (Out thread value) t fits h = room-of-output left value t fits.1 h
room-after left (Block thread node key cost free) t fits h = room-of-cost left cost t fits.3 h
room-after left (End thread cost free) t fits h = room-of-cost left cost t fits.1 h
room-after left (Stop (Cut thread stop cost free)) t fits h = room-of-cost left cost t fits.1 h
room-after left _ t fits h = room-kept left t h

-- ---- one line more

room-by : (line : List ℕ) (left' : List (List ℕ)) (t : Tally) (rest : List Entry) → line ∷ left' ≡ map entry_text rest → HasRoom (length rest) t → HasRoom 1 t
room-by line left' t [] is room = absurd (cc)
room-by line left' t (entry ∷ rest) is room = room-for (length rest) t room

pub room-for-line : (line : List ℕ) (left left' : List (List ℕ)) (t : Tally) → IsReading left t → left ≡ line ∷ left' → HasRoom 1 t
room-for-line line left left' t h goes = room-by line left' t h.rest (sym goes ∙ h.lines) h.room

on-by : (line : List ℕ) (left' : List (List ℕ)) (t more : Tally) (e : Entry) (rest : List Entry) → AllByRecursion FitsEntry rest → line ∷ left' ≡ map entry_text rest → HasRoom (length rest) t → FitsEntry e → more ≡ counted e t →
    IsReading left' more
on-by line left' t more e [] fit is room fits same = absurd (cc)
on-by line left' t more e (entry ∷ rest) fit is room fits same =
    let others : left' ≡ map entry_text rest = cc in
    record { rest = rest; fit = fit.1; lines = others; room = subst (HasRoom (length rest)) (sym same) (room-after (length rest) e t fits room) }

pub reading-goes-on : (line : List ℕ) (left left' : List (List ℕ)) (t more : Tally) (e : Entry) → IsReading left t → left ≡ line ∷ left' → FitsEntry e → more ≡ counted e t → IsReading left' more
reading-goes-on line left left' t more e h goes fits same = on-by line left' t more e h.rest h.fit (sym goes ∙ h.lines) h.room fits same

none-by : (t : Tally) (rest : List Entry) → HasRoom (length rest) t → [] ≡ map entry_text rest → HasRoom 0 t
none-by t [] room is = room
none-by t (entry ∷ rest) room is = absurd (cc)

pub room-at-end : (left : List (List ℕ)) (t : Tally) → IsReading left t → left ≡ [] → HasRoom 0 t
room-at-end left t h over = none-by t h.rest h.room (sym over ∙ h.lines)
