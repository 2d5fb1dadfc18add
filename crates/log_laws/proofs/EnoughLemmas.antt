-- Where the pool has as many chunks that are large enough as a budget gives the threads, no step stops for want of a chunk.
use Rattle.log_laws.proofs.Common.{◌≡◌, ◌≢◌, ℕ, ◌+◌, ◌*◌, ◌≤◌, List, [], ◌∷◌, length, Some, None, refl, sym, ap, subst, ◌∙◌, arith, ⊎_elim, Option, slice_get, AllByRecursion, cases_eq, none-some, same_Some, lowered, Waiting, IsWellScoped, Question, Stop, source_machine, IsValid, Budget, IsRoot, IsBudget, has_member, taken_for, Shape, Op, Setup, setting_of, checked_of, formed, Frame, is_linked, Local, LocalMove, NoRoom, local_step, before_transfer, IsAtCall, StandAtCall, World, Thread, step, thread_of, local_in, AsksCall, IsStepAsSource, first_of, asks-first, need_of, kind_of, LinkKind, each_live, starting, starting_by, starting_under, live, root_of, roomy}
use Rattle.cap_word.specs.Runs.{Asks, Stops, moves}
use Rattle.certificate_rules.specs.Sites.{certified_site}
use Rattle.machine_world.specs.Local as local
use Rattle.machine_world.specs.Threads as machine
use Rattle.segment_laws.specs.Alike.{last_function as last_frame, IsCutOff, IsCutMove}
use Rattle.segment_laws.proofs.Needs.{need_path}
use Rattle.log_laws.proofs.BoundLemmas.{linked_high, holds_at_most, holds_fewer}
use Rattle.log_laws.proofs.CountLemmas.{finds_for_link, finds_for_start}
use Rattle.log_laws.proofs.RestLemmas.{IsRootedRest, IsRootedThread, all-get, rest-rooted, call-root}
use Rattle.log_laws.proofs.StartLemmas.{Runs, along, running-rooted, step_of_running}
use Rattle.log_laws.proofs.StepLemmas.{FindsNone, finds-none}

-- the last of some frames, in the words of either law
root-last : (frame : Frame) (frames : List Frame) → root_of frame frames ≡ last_frame frame.function frames
root-last frame [] = refl
root-last frame (next ∷ frames) = root-last next frames

-- a call has a site
record HasSite (op : Op) : Type 0 where
  site : ℕ
  is : certified_site op ≡ Some site

call_site : (op : Op) (before : ℕ) → before_transfer op ≡ Some before → HasSite op
call_site (Op.Call site d g args) before e = record { site = site; is = refl }
call_site (Op.CallTable site d t i s) before e = record { site = site; is = refl }
call_site _ before e = absurd (none-some before e)

module _ (g : Setup) (scoped : IsWellScoped g.program) (valid : IsValid (lowered g.program) g.image g.certificate) (shape : Shape) (budget : Budget) (is_budget : IsBudget (lowered g.program) g.certificate budget) (w : World) (is : Runs g scoped valid shape w) where
  abbrev number : ℕ
  number = is.reached.segment.number

  abbrev thread : Thread
  thread = is.reached.under_way.thread

  abbrev at : Local
  at = local_in w thread

  root : IsRoot (lowered g.program) (first_of is.reached.segment.running)
  root = running-rooted g scoped valid shape w is

  -- ---- the threads that don't run

  holds : (t : Thread) → IsRootedThread (checked_of g) w.areas.pool t.core → length t.core.chain ≤ budget.per_thread
  holds t rooted = holds_at_most (checked_of g) budget (formed g.program g.image g.certificate scoped valid) is_budget w.areas.pool t.core rooted.place rooted.frames rooted.in_place rooted.root

  other_holds : (n : ℕ) (t : Thread) → n ≢ number → thread_of w n ≡ Some t → length t.core.chain ≤ budget.per_thread
  other_holds n t apart found =
      holds t (rest-rooted (checked_of g) g.program w.areas.pool (thread_of w n) (slice_get is.reached.segment.world.threads n) t (is.reached.under_way.others n apart) found
      (λ rest there. all-get (IsRootedRest (lowered g.program)) is.reached.segment.world.threads n rest is.rooted there))

  -- where the running thread holds as many, all do
  all_hold : length thread.core.chain ≤ budget.per_thread → AllByRecursion (λ (t : Thread). length t.core.chain ≤ budget.per_thread) w.threads
  all_hold own =
      each_live (λ (t : Thread). length t.core.chain ≤ budget.per_thread) 0 w.next w.threads is.form.counted.numbered
      (λ n t found. ⊎_elim
      (λ (same : n ≡ number).
      let both : Some thread ≡ Some t = sym is.reached.under_way.live ∙ (ap (λ (k : ℕ). thread_of w k) (sym same) ∙ found) in
      subst (λ (x : Thread). length x.core.chain ≤ budget.per_thread) (same_Some thread t both) own)
      (λ (apart : n ≢ number). other_holds n t apart found)
      (cases_eq n number))

  -- ---- at a LINK

  link_finds : (n : ℕ) → length w.threads ≤ n → n * budget.per_thread ≤ roomy w.areas.pool g.certificate.max_path → IsCutOff (checked_of g) (first_of is.reached.segment.running) at → ⊥
  link_finds n few enough cut =
      let code = formed g.program g.image g.certificate scoped valid in
      let site = call_site cut.op cut.before cut.calls in
      let path = need_path (lowered g.program) g.image g.certificate code valid cut.function cut.operation site.site cut.op cut.inside cut.there site.is in
      let need : cut.need ≤ g.certificate.max_path = subst (λ (kind : LinkKind). need_of kind ≤ g.certificate.max_path) cut.linked path in
      let high = linked_high (checked_of g) budget.heights cut.function cut.before cut.op (has_member (lowered g.program) cut.function cut.operation cut.op code cut.there)
      (is_budget.calls cut.function cut.operation cut.op cut.there) cut.calls (ap is_linked cut.linked) in
      let starts : IsRoot (lowered g.program) (root_of cut.frame cut.below) = subst (IsRoot (lowered g.program)) (sym (root-last cut.frame cut.below ∙ cut.started_is)) root in
      let fewer = holds_fewer (checked_of g) budget code is_budget w.areas.pool thread.core cut.function cut.operation cut.word cut.need cut.op (cut.frame ∷ cut.below) cut.in_place cut.row cut.there high starts in
      finds_for_link w cut.need g.certificate.max_path n budget.per_thread number thread is.form.areas.pool is.form.counted.partition need few enough (all_hold (omega (arith, fewer))) is.reached.under_way.live fewer cut.nothing

  -- ---- where a thread is about to start

  start_finds : (n entry argument need m : ℕ) (asked : Question) (waiting : Waiting) (f i word : ℕ) (op : Op) (frames : List Frame) → length w.threads + 1 ≤ n → n * budget.per_thread ≤ roomy w.areas.pool g.certificate.max_path →
      IsAtCall (checked_of g) w.areas.pool thread.core f i op word frames → StandAtCall (checked_of g) g.program w.areas.pool op frames waiting → moves (source_machine g.program) m is.reached.segment.running ≡ Asks asked waiting →
      AsksCall (checked_of g) op (local.Starts entry argument need) asked.call → taken_for w.areas.pool need ≡ None → ⊥
  start_finds n entry argument need m asked waiting f i word (Op.Spawn site d h x) frames few enough rests stands comes same none =
      let code = formed g.program g.image g.certificate scoped valid in
      let path = need_path (lowered g.program) g.image g.certificate code valid f i site (Op.Spawn site d h x) rests.frames_are.at.0 rests.operation refl in
      let need_is : need ≡ need_of (kind_of g.certificate (Op.Spawn site d h x)) = need_same _ _ _ _ _ _ same.2 in
      let first = asks-first g.program m is.reached.segment.running asked waiting comes in
      let starts = call-root (checked_of g) g.program w.areas.pool (Op.Spawn site d h x) frames waiting stands (subst (IsRoot (lowered g.program)) (sym first) root) in
      let own = holds_at_most (checked_of g) budget code is_budget w.areas.pool thread.core _ frames rests.frames_are starts in
      finds_for_start w need g.certificate.max_path n budget.per_thread is.form.areas.pool is.form.counted.partition (omega (arith, need_is, path)) is_budget.chunks few enough (all_hold own) none
    where
      need_same : (a b e p q r : ℕ) → (let u : local.Question = local.Starts a b e in u) ≡ local.Starts p q r → e ≡ r
      need_same a b e p q r u = cc
  start_finds n entry argument need m asked waiting f i word (Op.Model site d k args) frames few enough rests stands comes same none = (let u = same.2 in cc)
  start_finds n entry argument need m asked waiting f i word _ frames few enough rests stands comes same none = same

  -- ---- both

  move_finds : (n : ℕ) (move : LocalMove) → length w.threads + starting move ≤ n → n * budget.per_thread ≤ roomy w.areas.pool g.certificate.max_path → IsStepAsSource (checked_of g) g.program is.reached.segment.running at move →
      IsCutMove (checked_of g) (first_of is.reached.segment.running) at move → FindsNone (setting_of g) w thread move → ⊥
  move_finds n (Asks (local.Starts entry argument need) still) few enough h cut none =
      let a = h.1.4 in
      start_finds n entry argument need h.1.0 h.1.1 h.1.2 a.function a.operation a.word a.op a.frames few enough a.rests a.stands h.1.3 a.same none
  move_finds n (Stops NoRoom) few enough h cut none = link_finds n (omega (arith, few)) enough cut
  move_finds n _ few enough h cut none = none

  live_is : live (setting_of g) w ≡ length w.threads + starting (local_step (setting_of g).code at)
  live_is =
      ap (λ (o : Option ℕ). length w.threads + starting_under (setting_of g) w o) is.reached.under_way.running
      ∙ ap (λ (o : Option Thread). length w.threads + starting_by (setting_of g) w o) is.reached.under_way.live

  pub never_short : (n : ℕ) → live (setting_of g) w ≤ n → n * budget.per_thread ≤ roomy w.areas.pool g.certificate.max_path → step (setting_of g) w ≢ machine.Stops Stop.NoChunk
  never_short n few enough e =
      let a = along g scoped valid shape w is in
      move_finds n (local_step (setting_of g).code at) (omega (arith, few, live_is)) enough a.step a.cut
      (finds-none (setting_of g) w thread (sym (step_of_running g scoped valid shape w is) ∙ e))
