-- The needs of threads that leave queues.
use Rattle.std.proofs.Common.{◌≡◌, ℕ, Bool, true, false, List, [], ◌∷◌, if◌then◌else◌, sym, subst, ⊎_elim}
use Rattle.std.specs.List.{AllByRecursion}
use Rattle.std.proofs.lemmas.Bool.{cases_eq}
use Rattle.cap_word.specs.declared.threads.ThreadId.{ThreadId}
use Rattle.ready_tree.specs.declared.entries.Entry.{Entry}
use Rattle.scheduler.specs.Queues.{is_same, without_entry}
use Rattle.scheduler.specs.State.{SchedulerState, entries_at, IsTaken}
use Rattle.scheduler.specs.declared.choices.Choice.{Choice}
use Rattle.schedule_rows.specs.Needs.{IsByNumber, KnowsNeeds}

without_on : (P : Entry → Type 0) (same : Bool) (first : Entry) (queue left : List Entry) → P first → AllByRecursion P queue → AllByRecursion P left →
    AllByRecursion P (if same then queue else first ∷ left)
without_on P true first queue left here all rest = all
without_on P false first queue left here all rest = (here, rest)

all_without : (P : Entry → Type 0) (thread : ThreadId) (entries : List Entry) → AllByRecursion P entries → AllByRecursion P (without_entry thread entries)
all_without P thread [] all = tt
all_without P thread (first ∷ queue) all = without_on P (is_same first.thread thread) first queue (without_entry thread queue) all.0 all.1 (all_without P thread queue all.1)

abbrev IsEntry : Entry → Type 0
IsEntry entry = IsByNumber entry.thread entry.need

pub knows_taken : (old new : SchedulerState) (choice : Choice) → IsTaken old new choice → KnowsNeeds old → KnowsNeeds new
knows_taken old new choice taken known = λ other. ⊎_elim
    (λ (same : other ≡ choice.node).
    subst (λ (n : ℕ). AllByRecursion IsEntry (entries_at new n)) (sym same)
    (subst (AllByRecursion IsEntry) (sym taken.queue) (all_without IsEntry choice.thread (entries_at old choice.node) (known choice.node))))
    (λ apart. subst (AllByRecursion IsEntry) (sym (taken.others other apart)) (known other))
    (cases_eq other choice.node)
