-- The loop of a run.
use Rattle.runner.proofs.Common.{◌≡◌, ℕ, List, [], ◌++◌, Option, Some, None, Result, Ok, Err, refl, ◌∙◌, subst, arith, IfSome, Appends, Puts, Stop, ThreadId, Rule, nowhere, Setup, setting_of, State, start_of, MonitorState, IsAtStartBy, KeepsRun, CameTo, FellShort, IsRunEnd, CountsPart, CountsStep, Failure, Halt, Kept, failure_end, halt_end, end_lines, IsFitText, Output, unheld, IsSound, has_run, StandsBetween, Stands, StandsSomehow, HaltsAt, StepEnds, stop_line, Rest, HasBytes, bytes_of, Knows, BackTo, Unasked, Told, Made, log_text, Held, no_acts, start_sound, free_count}
use Rattle.std.proofs.KnownBytes.{Appends-nil}
use Rattle.cap_io.specs.Faults.{IsRisen}
use Rattle.runner.proofs.Backs.{few_bytes}
use Rattle.runner.proofs.Following.{Follows, follows_first, follows_on, fails_now, comes_to, stops_short, fell_leads}
use Rattle.runner.proofs.StepLemmas.{keeps_on, keeps_same}

pub record RunsOn (first : Held) (rule : Rule) (monitor : MonitorState) (left_first taken_first : Option (List ℕ)) (reads_first writes_first : ℕ) (k : Kept) (held : Held) (told_left : Option (List ℕ)) (now : Output) (reads writes : ℕ) : Type 0 where
  pub some : (g : Setup) × IsAtStartBy rule g first monitor
  pub sound : IsSound first.accepted
  pub follows : (g : Setup) → IsAtStartBy rule g first monitor → (left : Rest) → Knows left told_left → Follows g first left_first taken_first k held left now
  pub same_reads : reads ≡ reads_first
  pub same_writes : writes ≡ writes_first
  pub keeps : KeepsRun first held

pub runs_first : (first : Held) (rule : Rule) (monitor : MonitorState) (left taken : Option (List ℕ)) (reads writes : ℕ) (k : Kept) → ((g : Setup) × IsAtStartBy rule g first monitor) → IsSound first.accepted →
    ((g : Setup) (l : Rest) → IsAtStartBy rule g first monitor → (k.under ≡ None) × StandsBetween g (start_of g (bytes_of l) first.machine) k first l) → RunsOn first rule monitor left taken reads writes k first left (unheld taken) reads writes
runs_first first rule monitor left taken reads writes k some sound starts = record {
  some = some;
  sound = sound;
  follows = λ g at rest knows. let s = starts g rest at in follows_first g first left taken k rest knows s.0 s.1;
  same_reads = refl;
  same_writes = refl;
  keeps = keeps_same first;
}

-- what a step says of every log beside it, whatever is left of the trace
abbrev pub Ends : Kept → Held → Option (List ℕ) → Output → Kept → Held → Option (List ℕ) → Output → Result (Option Halt) Failure → Type 0
Ends k held told now new after told_after then_ result =
    BackTo told told_after (λ before left. (g : Setup) (state : State) → Stands g state k held before → StepEnds g state before new after left now then_ result)

-- something that may be left
abbrev settled : Option (List ℕ) → Rest
settled None = Made []
settled (Some left) = Told left

settled_knows : (told : Option (List ℕ)) → Knows (settled told) told
settled_knows None = refl
settled_knows (Some left) = refl

settled_has : (told : Option (List ℕ)) → HasBytes (settled told)
settled_has None = tt
settled_has (Some left) = tt

settled_told : (told : Option (List ℕ)) → IfSome told (λ its. its ≡ bytes_of (settled told))
settled_told None = tt
settled_told (Some left) = refl

module _ (first : Held) (rule : Rule) (monitor : MonitorState) (left_first taken_first : Option (List ℕ)) (reads_first writes_first : ℕ) (k : Kept) (held : Held) (told : Option (List ℕ)) (now : Output) (reads writes : ℕ)
    (runs : RunsOn first rule monitor left_first taken_first reads_first writes_first k held told now reads writes) where
  pub stands_somehow : StandsSomehow k held
  stands_somehow = let f = runs.follows runs.some.0 runs.some.1 Unasked tt in (runs.some.0, f.state, Unasked, f.stands)

  module _ (new : Kept) (after : Held) (told_after : Option (List ℕ)) (then_ : Output) (reads_after writes_after : ℕ) (keeps : KeepsRun held after) where
    pub keeps_now : KeepsRun first after
    keeps_now = keeps_on first held after runs.keeps keeps

    pub runs_step : Ends k held told now new after told_after then_ (Ok None) → CountsStep {V = Option Halt} (Ok None) reads reads_after writes writes_after → RunsOn first rule monitor left_first taken_first reads_first writes_first new after told_after then_ reads_after writes_after
    runs_step ends counts = record {
      some = runs.some;
      sound = runs.sound;
      follows = λ g at left knows.
          let e = ends left knows in
          let f = runs.follows g at e.0 e.1 in
          follows_on g first left_first taken_first k held e.0 now f new after left then_ e.3 (e.4 g f.state f.stands);
      same_reads = counts.0 ∙ runs.same_reads;
      same_writes = counts.1 ∙ runs.same_writes;
      keeps = keeps_now;
    }

    -- a step fails
    end_by : (failure : Failure) (g : Setup) → FellShort g after left_first taken_first then_.taken → CountsStep {V = Option Halt} (Err failure) reads reads_after writes writes_after →
        IsRunEnd g after left_first taken_first then_.taken reads_first reads_after writes_first writes_after (failure_end failure)
    end_by Failure.Read g short counts = (short, subst (λ (n : ℕ). IsRisen n reads_after) runs.same_reads counts.0, counts.1 ∙ runs.same_writes)
    end_by Failure.Write g short counts = (short, counts.0 ∙ runs.same_reads, subst (λ (n : ℕ). IsRisen n writes_after) runs.same_writes counts.1)
    end_by Failure.Memory g short counts = (short, counts.0 ∙ runs.same_reads, counts.1 ∙ runs.same_writes)

    pub run_fails : (failure : Failure) → Ends k held told now new after told_after then_ (Err failure) → CountsStep {V = Option Halt} (Err failure) reads reads_after writes writes_after → (g : Setup) → IsAtStartBy rule g first monitor →
        IsRunEnd g after left_first taken_first then_.taken reads_first reads_after writes_first writes_after (failure_end failure)
    run_fails failure ends counts g at =
        let e = ends (settled told_after) (settled_knows told_after) in
        let f = runs.follows g at e.0 e.1 in
        end_by failure g (fails_now g first left_first taken_first k held e.0 now f monitor at runs.sound (e.3 (settled_has told_after)) after then_ (e.4 g f.state f.stands)) counts

    -- it stops, and its end is written
    module _ (halt : Halt) (ends : Ends k held told now new after told_after then_ (Ok (Some halt))) (counts : CountsStep {V = Option Halt} (Ok (Some halt)) reads reads_after writes writes_after) (last : Option (List ℕ)) (writes_last : ℕ) where
      -- what was left before it stopped
      abbrev left_then : Rest
      left_then = (ends (settled told_after) (settled_knows told_after)).0

      abbrev knows_then : Knows left_then told
      knows_then = (ends (settled told_after) (settled_knows told_after)).1

      has_then : HasBytes left_then
      has_then = (ends (settled told_after) (settled_knows told_after)).3 (settled_has told_after)

      halts : (g : Setup) (at : IsAtStartBy rule g first monitor) → let f = runs.follows g at left_then knows_then in HaltsAt g f.state left_then new after halt now then_
      halts g at = let f = runs.follows g at left_then knows_then in (ends (settled told_after) (settled_knows told_after)).4 g f.state f.stands

      came_cut : (thread : ThreadId) (stop : Stop) (cost : ℕ) (g : Setup) → CameTo g after left_first taken_first last (halt_end (Halt.Cut thread stop cost)) → writes_last ≡ writes_first →
          IsRunEnd g after left_first taken_first last reads_first reads_after writes_first writes_last (halt_end (Halt.Cut thread stop cost))
      came_cut thread (Stop.Trap kind) cost g came same = (came, counts.0 ∙ runs.same_reads, same)
      came_cut thread _ cost g came same = (came, counts.0 ∙ runs.same_reads, same)

      came_by : (h : Halt) (g : Setup) → CameTo g after left_first taken_first last (halt_end h) → writes_last ≡ writes_first → IsRunEnd g after left_first taken_first last reads_first reads_after writes_first writes_last (halt_end h)
      came_by (Halt.Cut thread stop cost) g came same = came_cut thread stop cost g came same
      came_by _ g came same = (came, counts.0 ∙ runs.same_reads, same)

      pub run_comes : Appends then_.taken last (then_.held ++ log_text (end_lines after.setting.caps new.graph.edges (stop_line halt (free_count after.machine.areas.pool)))) → IsFitText (log_text (end_lines after.setting.caps new.graph.edges (stop_line halt (free_count after.machine.areas.pool)))) → CountsPart {V = Unit {0}} (Ok tt) writes_after writes_last → (g : Setup) → IsAtStartBy rule g first monitor →
          IsRunEnd g after left_first taken_first last reads_first reads_after writes_first writes_last (halt_end halt)
      run_comes puts fits same g at =
          came_by halt g (comes_to g first left_first taken_first k held left_then now (runs.follows g at left_then knows_then) monitor at runs.sound has_then halt new after then_ (halts g at) last puts fits) (same ∙ counts.1 ∙ runs.same_writes)

      short_by : (failure : Failure) (g : Setup) → FellShort g after left_first taken_first last → CountsPart {V = Unit {0}} (Err failure) writes_after writes_last →
          IsRunEnd g after left_first taken_first last reads_first reads_after writes_first writes_last (failure_end failure)
      short_by Failure.Read g short c = absurd c
      short_by Failure.Write g short c = (short, counts.0 ∙ runs.same_reads, subst (λ (n : ℕ). IsRisen n writes_last) (counts.1 ∙ runs.same_writes) c)
      short_by Failure.Memory g short c = (short, counts.0 ∙ runs.same_reads, c ∙ counts.1 ∙ runs.same_writes)

      pub run_unwritten : (failure : Failure) → Puts {E = Failure} then_.taken last (then_.held ++ log_text (end_lines after.setting.caps new.graph.edges (stop_line halt (free_count after.machine.areas.pool)))) (Err failure) → CountsPart {V = Unit {0}} (Err failure) writes_after writes_last →
          (g : Setup) → IsAtStartBy rule g first monitor → IsRunEnd g after left_first taken_first last reads_first reads_after writes_first writes_last (failure_end failure)
      run_unwritten failure puts c g at =
          short_by failure g (stops_short g first left_first taken_first k held left_then now (runs.follows g at left_then knows_then) monitor at runs.sound has_then halt new after then_ (halts g at) last puts) c

-- there was no memory to begin with
pub run_memory : (first : Held) (rule : Rule) (monitor : MonitorState) (left taken : Option (List ℕ)) (reads writes : ℕ) → IsSound first.accepted → (g : Setup) → IsAtStartBy rule g first monitor → IsRunEnd g first left taken taken reads reads writes writes (failure_end Failure.Memory)
run_memory first rule monitor left taken reads writes sound g at = (
  fell_leads g first monitor at sound left taken taken first (bytes_of (settled left)) (settled_told left) (start_of g (bytes_of (settled left)) first.machine) [] nowhere 0 (omega arith)
      (let none = few_bytes [] (omega arith) in omega (arith, none)) (Appends-nil taken) (no_acts (setting_of g) first.machine first.machine refl) (has_run 0 refl) refl (start_sound g first monitor at sound),
  refl,
  refl,
)
