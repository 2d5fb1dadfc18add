-- A thread that stands at the ECALL of a call that is answered at once: what the step of the world is, and what comes of it.
use Rattle.thread_core.proofs.Common.{◌≡◌, ◌≢◌, ℕ, ◌+◌, ◌-◌, ◌^◌, ◌<◌, ◌⊎◌, inl, inr, Option, Some, None, refl, sym, ap, ◌∙◌, subst, arith, option_map, cases_eq, Slab, get, lowered, ImmediateRow, immediate_row, Immediate, Ask, Stop, ThreadId, TrapKind, Acceptance, accepted_tree, IsValid, Op, formed, program_zeroes, Areas, Calls, size_in, AtCall, Thread, World, Move, Goes, Stops, answered, unless_trap, printed, result_of, retired, resumed, step, IsWellFormed, KeepsWellFormed, KeepsWellFormed-step, CodeFacts-valid, CodeFacts, checked_of, code_of, local_of, IsReady, RestsBefore, RestsBehind, IsAtModel, Context, Fuel, Exchanging, IsKept, ContextIs, HasContext, passed_context, number_of, thread_of_record, blocked_of, machine_of, setting_of, Runs, LocalIs, MayRun, SamePlaces, KeepsRest, Told, TellsIf, held_in, Record, State, Turn}
use Rattle.segment_run.specs.Safe.{RestsAtCall}
use Rattle.thread_core.proofs.PassLaws.{its_record, its_step, its_chunks, waits_not, world_after, kept_after}
use Rattle.thread_core.proofs.TellingLaws.{number_at}

-- pc at the ECALL of an operation is small
pub rests_small : (accepted : Acceptance) (st : State) (context : Context) (op : Op) → IsValid (lowered (accepted_tree accepted)) accepted.image accepted.certificate → RestsAtCall (checked_of accepted) (local_of st.areas context) op →
    context.pc < 2 ^ 32 - 4
rests_small accepted st context op valid rests =
    let facts : CodeFacts (checked_of accepted) (code_of accepted) = CodeFacts-valid (lowered (accepted_tree accepted)) accepted.image accepted.certificate
    (formed (accepted_tree accepted) accepted.image accepted.certificate accepted.program.well_scoped valid) (program_zeroes (accepted_tree accepted) accepted.program.well_scoped) valid in
    let stands = rests.at.frames_are.at in
    let room = (facts.operation rests.function rests.operation op stands.0 rests.at.operation).room in
    let within = subst (λ (o : Option Op). rests.word < size_in (checked_of accepted) rests.function o) rests.at.operation stands.1 in
    let is = stands.2 in
    omega (arith, room, within, is)

module _ (accepted : Acceptance) (most : ℕ) (st : State) (thread : ThreadId) (runs : Runs accepted most st thread) (left : 0 < st.fuel.left) (ask : Ask)
    (at : LocalIs st thread (λ l. IsAtModel (checked_of accepted) (code_of accepted) l (Calls (Immediate ask)))) (valid : IsValid (lowered (accepted_tree accepted)) accepted.image accepted.certificate) where
  abbrev pub r : Record
  r = (its_record accepted most st thread runs).0

  pub there : get st.records thread.slot ≡ Some r
  there = (its_record accepted most st thread runs).1

  pub model : IsAtModel (checked_of accepted) (code_of accepted) (local_of st.areas r.context) (Calls (Immediate ask))
  model = at r there

  pub small_pc : r.context.pc < 2 ^ 32 - 4
  small_pc = rests_small accepted st r.context _ valid model.rests

  abbrev pub t : Thread
  t = thread_of_record st.areas.pool st.waits thread.slot r

  abbrev pub row : ImmediateRow
  row = immediate_row st.exchange.caps st.exchange.exchange r.number st.next ask

  pub step_is : step (setting_of accepted most st) (machine_of most st) ≡ answered (machine_of most st) t ask row
  step_is = its_step accepted most st thread runs r _ there left model.asks

  pub traps : (kind : TrapKind) → row.trap ≡ Some kind → step (setting_of accepted most st) (machine_of most st) ≡ Stops (Stop.Trap kind)
  traps kind e = step_is ∙ ap (λ (o : Option TrapKind). unless_trap o (printed row.prints (record (retired (machine_of most st) (resumed t (result_of ask row.result)) st.areas) { exchange = row.after }))) e

  abbrev pub answer : Option ℕ
  answer = result_of ask row.result

  abbrev pub world : World
  world = record (retired (machine_of most st) (resumed t answer) st.areas) { exchange = row.after }

  pub goes_on : row.trap ≡ None → step (setting_of accepted most st) (machine_of most st) ≡ printed row.prints world
  goes_on e = step_is ∙ ap (λ (o : Option TrapKind). unless_trap o (printed row.prints world)) e

  pub rests_before : RestsBefore (checked_of accepted) (local_of st.areas r.context)
  rests_before = record { rests = AtCall model.rests.function model.rests.operation _ model.rests.word model.rests.frames model.rests.at; before = tt }

  -- for each record that is there
  pub all_there : (P : Record → Type 0) → P r → (x : Record) → get st.records thread.slot ≡ Some x → P x
  all_there P p x e = let both : Some r ≡ Some x = sym there ∙ e in let same : r ≡ x = cc in subst P same p

  module _ (exchange : Exchanging) (exchange_is : exchange.exchange ≡ row.after) (caps : exchange.caps ≡ st.exchange.caps) (backlog : exchange.backlog ≡ st.exchange.backlog) (untrapped : row.trap ≡ None)
      (records : Slab Record) (fuel : Fuel) (result : Context) where
    abbrev pub new : State
    new = record st { exchange = exchange; records = records; fuel = fuel; waits = record st.waits { clock = st.waits.clock + 1 } }

    module _ (written : HasContext st thread result new) (result_is : result ≡ passed_context r.context answer) (less : fuel.left + 1 ≡ st.fuel.left) (behind : RestsBehind (checked_of accepted) (code_of accepted) (local_of st.areas result)) where
      resumed_is : record t { core = (record (resumed t answer) { number = t.number }).core } ≡ resumed t answer
      resumed_is = λ i. record { number = t.number; core = (resumed t answer).core; blocked = blocked_of (waits_not accepted most st thread runs i) }

      pub machine_is : machine_of most new ≡ world
      machine_is =
          world_after accepted most st thread runs r there result exchange records fuel written answer result_is small_pc less
          ∙ ap (λ (u : Thread). record (retired (machine_of most st) u st.areas) { exchange = exchange.exchange }) resumed_is
          ∙ ap (λ x. record (retired (machine_of most st) (resumed t answer) st.areas) { exchange = x }) exchange_is

      world_formed : (prints : Option ℕ) → KeepsWellFormed (checked_of accepted) (setting_of accepted most st) (printed prints world) → IsWellFormed (checked_of accepted) (setting_of accepted most st) world
      world_formed None form = form
      world_formed (Some value) form = form

      formed_st : IsWellFormed (checked_of accepted) (setting_of accepted most st) (machine_of most new)
      formed_st = subst (λ (v : World). IsWellFormed (checked_of accepted) (setting_of accepted most st) v) (sym machine_is)
          (world_formed row.prints (subst (KeepsWellFormed (checked_of accepted) (setting_of accepted most st)) (goes_on untrapped) (KeepsWellFormed-step (checked_of accepted) (setting_of accepted most st) (machine_of most st) runs.kept.formed)))

      setting_is : setting_of accepted most new ≡ setting_of accepted most st
      setting_is = λ i. record { code = accepted.image.code; fuel = most; backlog = backlog i; caps = caps i }

      pub kept_new : IsKept accepted most new
      kept_new = kept_after accepted most st thread runs r there result exchange records fuel written answer result_is small_pc less caps
          (subst (λ s. IsWellFormed (checked_of accepted) s (machine_of most new)) (sym setting_is) formed_st)

      new_there : get records thread.slot ≡ Some (record r { context = result })
      new_there = written.written r there

      pub may_run : MayRun accepted most new thread
      may_run =
          let runs_new : Runs accepted most new thread = record { kept = kept_new; is = runs.is; going = runs.going } in
          record {
            runs = runs_new;
            ready = λ x e. (let both : Some (record r { context = result }) ≡ Some x = sym new_there ∙ e in let same : record r { context = result } ≡ x = cc in
                subst (λ (y : Record). IsReady (checked_of accepted) (code_of accepted) (local_of st.areas y.context)) same
                (record { owned = its_chunks accepted most new thread runs_new (record r { context = result }) new_there; rests = behind.rests; behind = behind.no_ecall }));
          }

      same_by : (place : ℕ) → (place ≡ thread.slot) ⊎ (place ≢ thread.slot) → option_map number_of (get records place) ≡ option_map number_of (get st.records place)
      same_by place (inl e) =
          ap (λ (k : ℕ). option_map number_of (get records k)) e ∙ ap (option_map number_of) new_there
          ∙ sym (ap (λ (k : ℕ). option_map number_of (get st.records k)) e ∙ ap (option_map number_of) there)
      same_by place (inr apart) = ap (option_map number_of) (written.others place apart)

      pub same_places : SamePlaces st new
      same_places place = same_by place (cases_eq place thread.slot)

      rest_new : KeepsRest accepted most st new
      rest_new = record { caps = caps; backlog = backlog; chunks = refl; begun = refl }

      -- it tells nothing
      pub silent_told : row.prints ≡ None → Told accepted most thread st None new
      silent_told none = record {
        kept = kept_new;
        rest = rest_new;
        places = same_places;
        tells = (goes_on untrapped ∙ ap (λ (o : Option ℕ). printed o world) none ∙ ap Goes (sym machine_is), runs.going);
        goes = may_run;
      }

      -- a value is put
      pub put_told : (value : ℕ) → row.prints ≡ Some value → Told accepted most thread st (Some (Turn.Out value)) new
      put_told value some = record {
        kept = kept_new;
        rest = rest_new;
        places = λ other is alive. number_at new other.slot ∙ same_places other.slot ∙ sym (number_at st other.slot) ∙ is;
        tells = subst (λ (m : Move). TellsIf m (Some (Turn.Out value)) thread.number (machine_of most st) (held_in accepted most new)) (sym (goes_on untrapped ∙ ap (λ (o : Option ℕ). printed o world) some))
            (refl, machine_is, runs.going);
        goes = may_run;
      }

  -- the same, from what the call that passes tells
  module _ (exchange : Exchanging) (exchange_is : exchange.exchange ≡ row.after) (caps : exchange.caps ≡ st.exchange.caps) (backlog : exchange.backlog ≡ st.exchange.backlog) (untrapped : row.trap ≡ None)
      (st4 : State) (result : Context) (has : HasContext (record st { exchange = exchange }) thread result st4) (context_is : ContextIs (record st { exchange = exchange }) thread (λ context. result ≡ passed_context context answer))
      (rest : st4 ≡ record st { exchange = exchange; records = st4.records; fuel = st4.fuel; waits = record st.waits { clock = st.waits.clock + 1 } }) (less : st4.fuel.left + 1 ≡ st.fuel.left)
      (rests : (a : Acceptance) (areas : Areas) → IsValid (lowered (accepted_tree a)) a.image a.certificate → ContextIs (record st { exchange = exchange }) thread (λ context. RestsBefore (checked_of a) (local_of areas context)) →
      RestsBehind (checked_of a) (code_of a) (local_of areas result)) where
    behind_now : RestsBehind (checked_of accepted) (code_of accepted) (local_of st.areas result)
    behind_now = rests accepted st.areas valid (all_there (λ x. RestsBefore (checked_of accepted) (local_of st.areas x.context)) rests_before)

    has_now : HasContext st thread result (record st { exchange = exchange; records = st4.records; fuel = st4.fuel; waits = record st.waits { clock = st.waits.clock + 1 } })
    has_now = record { written = has.written; others = has.others }

    pub silent_passed : row.prints ≡ None → Told accepted most thread st None st4
    silent_passed none = subst (Told accepted most thread st None) (sym rest)
        (silent_told exchange exchange_is caps backlog untrapped st4.records st4.fuel result has_now (context_is r there) less behind_now none)

    pub put_passed : (value : ℕ) → row.prints ≡ Some value → Told accepted most thread st (Some (Turn.Out value)) st4
    put_passed value some = subst (Told accepted most thread st (Some (Turn.Out value))) (sym rest)
        (put_told exchange exchange_is caps backlog untrapped st4.records st4.fuel result has_now (context_is r there) less behind_now value some)
