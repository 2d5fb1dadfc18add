-- A thread under way: from its start so many good steps, each of which keeps its form and its chunks.
use Rattle.cap_word.specs.Runs as runs
use Rattle.segment_run.proofs.Common.{◌≡◌, ℕ, zero, suc, ◌+◌, List, [], refl, ap, subst, ◌∙◌, arith, Goes, Stops, moves, KeepsCopies, KeepsShape, Local, Ended, local_step, local_machine, Checked, KeepsForm, KeepsForm-step, KeepsCopies-step, KeepsShape-step, HasForm, IsGoodState, WayIn, IsWellFormed, IsSafe, StaysSafe, IsEnd, IsSegment, Segment, KeepsCounts, IsUnderWay, all_free}
use Rattle.machine_world.specs.Alone.{KeepsChunk}
use Rattle.machine_world.proofs.FormLaws as forms
use Rattle.segment_laws.proofs.Ways.{Leads-none, Leads-one, Leads-then, HasForm-next}
use Rattle.segment_laws.proofs.Untouched.{keeps_step}

-- good steps are silent steps
moves_way : (c : Checked) (code : List ℕ) (n : ℕ) (l after : Local) → WayIn c code n l after → moves (local_machine code) n l ≡ Goes after
moves_way c code zero l after way = ap Goes way
moves_way c code (suc n) l after way =
    ap (λ move. runs.and_then move (moves (local_machine code) n)) way.1.1 ∙ moves_way c code n way.1.0 after way.1.2

-- ---- one step

pub counts_none : (c : Checked) (l : Local) → HasForm c l → KeepsCounts c l l
counts_none c l form = record { areas = form.areas; shape = refl; copies = λ chunk. refl; others = λ chunk away. refl }

pub counts_goes : (c : Checked) (code : List ℕ) (start l next : Local) → IsWellFormed c.flat → KeepsCounts c start l → HasForm c l → IsGoodState c code l → local_step code l ≡ Goes next → KeepsCounts c start next
counts_goes c code start l next formed kept form good e = record {
  areas = (HasForm-next c code l next form e).areas;
  shape = subst (KeepsShape l) e (KeepsShape-step code l) ∙ kept.shape;
  copies = λ chunk. subst (KeepsCopies chunk l) e (KeepsCopies-step code l chunk) ∙ kept.copies chunk;
  others = λ chunk away.
      subst (KeepsChunk chunk l) e (keeps_step c code l chunk formed form good (kept.copies chunk ∙ away)) ∙ kept.others chunk away;
}

-- ---- under way

pub begun : (c : Checked) (code : List ℕ) (start : Local) (left : ℕ) → HasForm c start → IsUnderWay c code start left start left
begun c code start left form = record { steps = 0; fuel = omega arith; leads = Leads-none c code start; form = form; counts = counts_none c start form }

pub safe_now : (c : Checked) (code : List ℕ) (start now : Local) (left left_now : ℕ) → StaysSafe c code start → IsUnderWay c code start left now left_now → IsSafe c code now
safe_now c code start now left left_now safe way = safe.safe way.steps now (moves_way c code way.steps start now way.leads.way)

pub goes_on : (c : Checked) (code : List ℕ) (start now next : Local) (left left_now left_next : ℕ) → IsWellFormed c.flat → StaysSafe c code start → IsUnderWay c code start left now left_now → local_step code now ≡ Goes next → left_next + 1 ≡ left_now →
    IsUnderWay c code start left next left_next
goes_on c code start now next left left_now left_next formed safe way e less =
    let good = (safe_now c code start now left left_now safe way).good in
    record {
      steps = way.steps + 1;
      fuel = omega (arith, way.fuel, less);
      leads = Leads-then c code way.steps 1 start now next way.leads (Leads-one c code now next good e);
      form = HasForm-next c code now next way.form e;
      counts = counts_goes c code start now next formed way.counts way.form good e;
    }

-- from its start to a place, and from there on
counts_then : (c : Checked) (start middle now : Local) → KeepsCounts c start middle → KeepsCounts c middle now → KeepsCounts c start now
counts_then c start middle now first second = record {
  areas = second.areas;
  shape = second.shape ∙ first.shape;
  copies = λ chunk. second.copies chunk ∙ first.copies chunk;
  others = λ chunk away. second.others chunk (first.copies chunk ∙ away) ∙ first.others chunk away;
}

pub way_then : (c : Checked) (code : List ℕ) (start middle now : Local) (left left_middle left_now : ℕ) → IsUnderWay c code start left middle left_middle → IsUnderWay c code middle left_middle now left_now →
    IsUnderWay c code start left now left_now
way_then c code start middle now left left_middle left_now first second = record {
  steps = first.steps + second.steps;
  fuel = omega (arith, first.fuel, second.fuel);
  leads = Leads-then c code first.steps second.steps start middle now first.leads second.leads;
  form = second.form;
  counts = counts_then c start middle now first.counts second.counts;
}

-- good steps, and then as many moves as are still to make
moves_then : (c : Checked) (code : List ℕ) (m n : ℕ) (l middle after : Local) → WayIn c code m l middle → moves (local_machine code) n middle ≡ Goes after → moves (local_machine code) (m + n) l ≡ Goes after
moves_then c code zero n l middle after way e =
    let same : n ≡ zero + n = omega arith in
    subst (λ (k : ℕ). moves (local_machine code) k l ≡ Goes after) same (ap (moves (local_machine code) n) way ∙ e)
moves_then c code (suc m) n l middle after way e =
    let same : suc (m + n) ≡ suc m + n = omega arith in
    subst (λ (k : ℕ). moves (local_machine code) k l ≡ Goes after) same
    (ap (λ move. runs.and_then move (moves (local_machine code) (m + n))) way.1.1 ∙ moves_then c code m n way.1.0 middle after way.1.2 e)

-- so it stays safe from there on
pub stays_safe : (c : Checked) (code : List ℕ) (start now : Local) (left left_now : ℕ) → StaysSafe c code start → IsUnderWay c code start left now left_now → StaysSafe c code now
stays_safe c code start now left left_now safe way = record {
  safe = λ n after e. safe.safe (way.steps + n) after (moves_then c code way.steps n start now after way.leads.way e);
}

-- ---- at its end

pub counts_ended : (c : Checked) (code : List ℕ) (start now after : Local) → IsWellFormed c.flat → KeepsCounts c start now → HasForm c now → IsGoodState c code now → local_step code now ≡ Stops (Ended after.areas) → after.core.chain ≡ [] → KeepsCounts c start after
counts_ended c code start now after formed kept form good e none =
    let kept_form : forms.HasForm c now = record { areas = form.areas; core = form.core; owns = record { once = form.owns.once } } in
    record {
      areas = subst (KeepsForm c) e (KeepsForm-step c code now kept_form);
      shape = subst (KeepsShape now) e (KeepsShape-step code now) ∙ kept.shape;
      copies = λ chunk.
          let free = subst (KeepsCopies chunk now) e (KeepsCopies-step code now chunk) in
          let empty = ap (λ (chain : List ℕ). Rattle.machine_world.specs.Held.copies chunk chain + Rattle.machine_world.specs.Held.copies chunk (all_free after.areas.pool)) none in
          omega (arith, free, empty, kept.copies chunk);
      others = λ chunk away. subst (KeepsChunk chunk now) e (keeps_step c code now chunk formed form good (kept.copies chunk ∙ away)) ∙ kept.others chunk away;
    }

-- the segment ends here
pub ends_here : (c : Checked) (code : List ℕ) (start now after : Local) (left left_now left_after : ℕ) (segment : Segment) → StaysSafe c code start → IsUnderWay c code start left now left_now → IsEnd c code segment now left_now after left_after →
    IsSegment c code segment start left after left_after
ends_here c code start now after left left_now left_after segment safe way end = record {
  steps = way.steps;
  spare = left_now;
  at = now;
  fuel = way.fuel;
  leads = way.leads;
  good = (safe_now c code start now left left_now safe way).good;
  end = end;
}
