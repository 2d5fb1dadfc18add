-- How a command ends whose run came to its stop, or could not go on.
use Rattle.capriccio_commands.proofs.Common.{◌≡◌, ℕ, List, Option, Some, None, Result, Ok, Err, refl, sym, ap, subst, inr, IfSome, KeepsFiles, checked_of, Setup, IsSound, World, HasLog, IsEndAt, CameTo, IsRunEnd, RunEnd, Entry, StopLine, Held, Read, Write, Memory, Stop, Failed, Ended, Outcome, Outside, IsWhole, IsCutInOut, NoneCounted, TraceCounted, WriteCounted, IsAccepted, IsRun, RunsOn, run_outcome, stop_status, EndsAs, IsClosed, kept-are-stored, IsEnd, IsReachable, IsWorldOf}
use Rattle.runner.specs.declared.ends.RunEnd.TheVariants as end
use Rattle.cap_word.specs.declared.stops.Stop.TheVariants as cut

-- the status that goes with the end of a run
abbrev end-status : RunEnd → ℕ
end-status end.Done = 0
end-status (end.BadTrace line) = 4
end-status end.Idle = 10
end-status (end.Trap thread kind) = 11
end-status (end.NoChunk thread) = 12
end-status (end.Fuel thread) = 13
end-status (end.Threads thread) = 14
end-status end.ReadFault = 6
end-status end.WriteFault = 7
end-status end.Memory = 8

end-is : (stop : StopLine) (answer : RunEnd) → IsEndAt stop answer → stop_status stop ≡ end-status answer
end-is StopLine.Done answer h = sym (ap end-status h)
end-is StopLine.Idle answer h = sym (ap end-status h)
end-is (StopLine.Trace line) answer h = sym (ap end-status h)
end-is (StopLine.Cut number (cut.Trap kind) cost free) answer h = sym (ap end-status h.2)
end-is (StopLine.Cut number cut.NoChunk cost free) answer h = sym (ap end-status h.2)
end-is (StopLine.Cut number cut.Fuel cost free) answer h = sym (ap end-status h.2)
end-is (StopLine.Cut number cut.Threads cost free) answer h = sym (ap end-status h.2)

-- what holds of the bytes that the trace could have had holds of its own, where it tells them
if-told : (g : Setup) (left : Option (List ℕ)) (bytes : List ℕ) → IfSome left (λ its. its ≡ bytes) → (entries : List Entry) (stop : StopLine) (w : World) → IsRun g bytes entries stop w → IfSome left (λ its. IsRun g its entries stop w)
if-told g None bytes told entries stop w run = tt
if-told g (Some its) bytes told entries stop w run = subst (λ (b : List ℕ). IsRun g b entries stop w) (sym told) run

-- the outcome that is due beside the log of a run
log-due : (g : Setup) (left : Option (List ℕ)) (end world : World) → IsAccepted g → (log : HasLog g left end world) → RunsOn left g (run_outcome g log.entries log.stop end)
log-due g left end world ok log =
    let run : IsRun g log.bytes log.entries log.stop end = record { lawful = log.lawful; good = log.good } in
    (ok, log.entries, log.stop, end, if-told g left log.bytes log.told log.entries log.stop end run, refl, record { bytes = log.bytes; told = log.told; run = run })

-- the run came to its stop
at-stop : (g : Setup) (before after : Outside) (held : Held) (answer : RunEnd) (r : Result Ended Stop) → IsAccepted g → KeepsFiles before.files after.files → after.loads ≡ before.loads → after.stores ≡ before.stores →
    (IsReachable g held.machine → IsSound (checked_of g) held.machine → IsWorldOf (record { setup = g; end = held.machine }) held) → CameTo g held before.left before.taken after.taken answer → after.reads ≡ before.reads → after.writes ≡ before.writes →
    r ≡ Ok (record { status = end-status answer; last = Some held }) → EndsAs IsEnd (RunsOn before.left g) before after r
at-stop g before after held answer r ok files loads stores of came reads writes is =
    let given : Ended = record { status = end-status answer; last = Some held } in
    let log = came.log in
    let outcome : Outcome = run_outcome g log.entries log.stop held.machine in
    let due : RunsOn before.left g outcome = log-due g before.left held.machine held.machine ok log in
    let whole : IsWhole outcome before after = record { files = kept-are-stored before.files after.files files; trace = tt; out = came.writes } in
    let none : NoneCounted before after = record { loads = loads; stores = stores; reads = reads; writes = writes } in
    let ends : EndsAs IsEnd (RunsOn before.left g) before after (Ok given) = (outcome, (due, whole, none), (end-is log.stop answer came.end_is, refl, of (record { start = log.start; starts = log.starts; actions = log.actions; leads = log.machine }) log.sound)) in
    subst (λ (a : Result Ended Stop). EndsAs IsEnd (RunsOn before.left g) before after a) (sym is) ends

pub closed : (g : Setup) (before after : Outside) (held : Held) (answer : RunEnd) (r : Result Ended Stop) → IsAccepted g → KeepsFiles before.files after.files → after.loads ≡ before.loads → after.stores ≡ before.stores →
    (IsReachable g held.machine → IsSound (checked_of g) held.machine → IsWorldOf (record { setup = g; end = held.machine }) held) → IsRunEnd g held before.left before.taken after.taken before.reads after.reads before.writes after.writes answer →
    IsClosed held answer r → EndsAs IsEnd (RunsOn before.left g) before after r
closed g before after held end.Done r ok files loads stores of h is = at-stop g before after held end.Done r ok files loads stores of h.0 h.1 h.2 is
closed g before after held (end.BadTrace line) r ok files loads stores of h is = at-stop g before after held (end.BadTrace line) r ok files loads stores of h.0 h.1 h.2 is
closed g before after held end.Idle r ok files loads stores of h is = at-stop g before after held end.Idle r ok files loads stores of h.0 h.1 h.2 is
closed g before after held (end.Trap thread kind) r ok files loads stores of h is = at-stop g before after held (end.Trap thread kind) r ok files loads stores of h.0 h.1 h.2 is
closed g before after held (end.NoChunk thread) r ok files loads stores of h is = at-stop g before after held (end.NoChunk thread) r ok files loads stores of h.0 h.1 h.2 is
closed g before after held (end.Fuel thread) r ok files loads stores of h is = at-stop g before after held (end.Fuel thread) r ok files loads stores of h.0 h.1 h.2 is
closed g before after held (end.Threads thread) r ok files loads stores of h is = at-stop g before after held (end.Threads thread) r ok files loads stores of h.0 h.1 h.2 is
closed g before after held end.ReadFault r ok files loads stores of h is =
    let short = h.0 in let risen = h.1 in
    let outcome : Outcome = run_outcome g short.log.entries short.log.stop short.end in
    let cut-short : IsCutInOut outcome before after = record { files = kept-are-stored before.files after.files files; trace = tt; out = (short.count, short.part, short.writes) } in
    let counted : TraceCounted before after = record { loads = loads; stores = stores; reads = record { rose = risen.rose; never_falls = risen.never_falls }; writes = h.2 } in
    let ends : EndsAs IsEnd (RunsOn before.left g) before after (Err (Failed Read)) =
    inr (outcome, refl, log-due g before.left short.end held.machine ok short.log, cut-short, counted) in
    subst (λ (a : Result Ended Stop). EndsAs IsEnd (RunsOn before.left g) before after a) (sym is) ends
closed g before after held end.WriteFault r ok files loads stores of h is =
    let short = h.0 in let risen = h.2 in
    let outcome : Outcome = run_outcome g short.log.entries short.log.stop short.end in
    let cut-short : IsCutInOut outcome before after = record { files = kept-are-stored before.files after.files files; trace = tt; out = (short.count, short.part, short.writes) } in
    let counted : WriteCounted before after = record { loads = loads; stores = stores; reads = h.1; writes = record { rose = risen.rose; never_falls = risen.never_falls } } in
    let ends : EndsAs IsEnd (RunsOn before.left g) before after (Err (Failed Write)) =
    (outcome, log-due g before.left short.end held.machine ok short.log, inr (cut-short, counted)) in
    subst (λ (a : Result Ended Stop). EndsAs IsEnd (RunsOn before.left g) before after a) (sym is) ends
closed g before after held end.Memory r ok files loads stores of h is =
    let short = h.0 in
    let outcome : Outcome = run_outcome g short.log.entries short.log.stop short.end in
    let cut-short : IsCutInOut outcome before after = record { files = kept-are-stored before.files after.files files; trace = tt; out = (short.count, short.part, short.writes) } in
    let ends : EndsAs IsEnd (RunsOn before.left g) before after (Err (Failed Memory)) =
    (inr (inr (outcome, log-due g before.left short.end held.machine ok short.log, inr cut-short)), record { loads = loads; stores = stores; reads = h.1; writes = h.2 }) in
    subst (λ (a : Result Ended Stop). EndsAs IsEnd (RunsOn before.left g) before after a) (sym is) ends
