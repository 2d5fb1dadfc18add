-- A thread joins the queue of a node, with what it waits for.
use Rattle.schedule_reading.proofs.Common.{◌≡◌, ℕ, List, [], ◌∷◌, ◌++◌, Option, sym, subst, ⊎_elim, AllByRecursion, ThreadId, Waiter, IsPlaced, Need, Slab, Wait, Slot, IsScheduled, numbers_of, VouchesIn, All-append, same_or_not}
use Rattle.choice_rules.proofs.Joining.{queued_more}
use Rattle.ready_tree.specs.declared.entries.Entry.{Entry}
use Rattle.scheduler.specs.State.{SchedulerState, IsJoined, IsTold, entries_at}

pub joins : (slots : Slab Slot) (places : List (Option Wait)) (old new : SchedulerState) (node : ℕ) (thread : ThreadId) (need : Need) (waiting : List Waiter) (since : ℕ) →
    IsJoined old new node thread → IsTold old new node (record { thread = thread; need = need }) → IsPlaced (numbers_of slots) thread → VouchesIn slots places thread need →
    IsScheduled slots places old waiting → IsScheduled slots places new (waiting ++ record { thread = thread.number; node = node; since = since } ∷ [])
joins slots places old new node thread need waiting since joined told placed vouched is = record {
  queued = queued_more (numbers_of slots) old new node thread waiting since placed joined is.queued;
  known = λ other. ⊎_elim
      (λ (same : other ≡ node).
      subst (λ (n : ℕ). AllByRecursion (λ entry. VouchesIn slots places entry.thread entry.need) (entries_at new n)) (sym same)
      (subst (AllByRecursion (λ entry. VouchesIn slots places entry.thread entry.need)) (sym told.queue)
      (All-append (λ (entry : Entry). VouchesIn slots places entry.thread entry.need) (entries_at old node) (record { thread = thread; need = need } ∷ []) (is.known node) (vouched, tt))))
      (λ apart. subst (AllByRecursion (λ entry. VouchesIn slots places entry.thread entry.need)) (sym (told.others other apart)) (is.known other))
      (same_or_not other node);
}
