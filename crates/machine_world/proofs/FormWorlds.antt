-- Every world of a run is well formed: at the start, after each step, and after each action.
use Rattle.machine_world.proofs.Common.{◌≡◌, ℕ, ◌+◌, ◌^◌, ◌<◌, ◌≤◌, nat_eq, Bool, true, false, not, List, [], ◌∷◌, ◌++◌, length, set, Option, Some, None, refl, sym, subst, ◌∙◌, arith, lit<, ⊎_elim, IfSome, nat_le, ◌&&◌, if◌then◌else◌, AllByRecursion, cond_both, cases_eq, cases_lt, cond-true, cond-false, eq-eqb, ne_eqb, eqb-false, length-set, get_or_past, All-set, All-get_or, All-append, All-drop, All-replicate, All-from_recursion, Ask, Block, Exchange, channel_of, holds_some, blocking_row, immediate_row, Delivery, Arrival, Message, is_dropped, with_delivery, Pool, Taken, taken_for, end_of, payload_place_of, IsPool, Areas, held_copies, AreAllFree, IsCounted, KeepsCounted, IsCountedIf, copies, local_step, RiseBetween, Checked, empty_world, started_on, start_world, Action, Deliver, Advance, Pick, Step, delivered, advanced, may_run, picked_at, picked, is_between, world_of, after_action, Blocked, Thread, World, Setting, first_with, thread_of, replaced, without, with_thread, start_core, start_registers, Move, Goes, Puts, Spawns, Blocks, Ends, retired, resumed, result_of, result_on, step, local_in, AreWords, AreWellFormed, IsCore, IsExchange, most_fuel, IsWellFormed, KeepsWellFormed, IsWellFormedIf, DeliversWords}
use Rattle.c_mean.specs.World.{empty_exchange}
use Rattle.machine_world.proofs.StepCases.{Ways, blocked_at, row_for, on_step, on_printed}
use Rattle.machine_world.proofs.CountedLaws.{counted_start, counted_step, counted_action}
use Rattle.machine_world.proofs.FormLaws.{word-below, HasForm, KeepsForm, KeepsForm-step, AreWellFormed-taken, AreAddresses-taken, IsCore-passed, IsCore-with_result}

-- ---- the threads

abbrev AreCores : List Thread → Type 0
AreCores threads = AllByRecursion (λ thread. IsCore thread.core) threads

AreCores-replaced : (new : Thread) (threads : List Thread) → IsCore new.core → AreCores threads → AreCores (replaced new threads)
AreCores-replaced new [] is cores = cores
AreCores-replaced new (t ∷ ts) is cores =
    (cond_both (nat_eq t.number new.number) new t (λ (u : Thread). IsCore u.core) (λ _. is) (λ _. cores.0), AreCores-replaced new ts is cores.1)

AreCores-without : (number : ℕ) (threads : List Thread) → AreCores threads → AreCores (without number threads)
AreCores-without number [] cores = cores
AreCores-without number (t ∷ ts) cores =
    let rest = AreCores-without number ts cores.1 in
    cond_both (not (nat_eq t.number number)) (t ∷ without number ts) (without number ts) AreCores (λ _. (cores.0, rest)) (λ _. rest)

AreCores-append : (threads : List Thread) (t : Thread) → AreCores threads → IsCore t.core → AreCores (threads ++ t ∷ [])
AreCores-append [] t cores is = (is, cores)
AreCores-append (u ∷ us) t cores is = (cores.0, AreCores-append us t cores.1 is)

-- what is known of the live thread of a number
record IsFound (threads : List Thread) (next : ℕ) (t : Thread) : Type 0 where
  core : IsCore t.core
  below : t.number < next
  held : (chunk : ℕ) → copies chunk t.core.chain ≤ held_copies chunk threads

pub RiseBetween-bound : (from next : ℕ) (threads : List Thread) → RiseBetween from next threads → from ≤ next
RiseBetween-bound from next [] rise = rise
RiseBetween-bound from next (t ∷ ts) rise = let rest = RiseBetween-bound (t.number + 1) next ts rise.1 in omega (arith, rise.0, rest)

IsFound-first_with : (number from next : ℕ) (threads : List Thread) (t : Thread) → AreCores threads → RiseBetween from next threads → first_with number threads ≡ Some t → IsFound threads next t
IsFound-first_with number from next [] t cores rise found = absurd (cc)
IsFound-first_with number from next (u ∷ us) t cores rise found = ⊎_elim
    (λ (same : u.number ≡ number).
    let is : u ≡ t = (let here : Some u ≡ Some t = sym (cond-true (nat_eq u.number number) (Some u) (first_with number us) (eq-eqb u.number number same)) ∙ found in cc) in
    subst (IsFound (u ∷ us) next) is (record {
      core = cores.0;
      below = (let rest = RiseBetween-bound (u.number + 1) next us rise.1 in omega (arith, rest));
      held = λ chunk. omega arith;
    }))
    (λ apart.
    let later : first_with number us ≡ Some t = sym (cond-false (nat_eq u.number number) (Some u) (first_with number us) (ne_eqb u.number number apart)) ∙ found in
    let rest = IsFound-first_with number (u.number + 1) next us t cores.1 rise.1 later in
    record { core = rest.core; below = rest.below; held = λ chunk. omega (arith, rest.held chunk) })
    (cases_eq u.number number)

-- ---- the exchange

IsExchange-arrivals : (x : Exchange) (arrivals : List ℕ) → IsExchange x → AreWords arrivals → IsExchange (record x { arrivals = arrivals })
IsExchange-arrivals x arrivals is words = record { arrivals = words; channels = is.channels; channel_count = is.channel_count; use_count = is.use_count }

IsExchange-channel : (x : Exchange) (channel : ℕ) (messages : List ℕ) → IsExchange x → AreWords messages → IsExchange (record x { channels = set x.channels channel messages })
IsExchange-channel x channel messages is words = record {
  arrivals = is.arrivals;
  channels = All-set AreWords x.channels channel messages words is.channels;
  channel_count = length-set x.channels channel messages ∙ is.channel_count;
  use_count = is.use_count;
}

IsExchange-use : (x : Exchange) (r use_now : ℕ) → IsExchange x → IsExchange (record x { uses = set x.uses r use_now })
IsExchange-use x r use_now is = record { arrivals = is.arrivals; channels = is.channels; channel_count = is.channel_count; use_count = length-set x.uses r use_now ∙ is.use_count }

AreWords-none : AreWords []
AreWords-none k d below = absurd (omega arith)

AreWords-channel : (x : Exchange) (channel : ℕ) → IsExchange x → AreWords (channel_of x channel)
AreWords-channel x channel is = ⊎_elim
    (λ (within : channel < length x.channels). All-get_or AreWords x.channels channel [] within is.channels)
    (λ (past : length x.channels ≤ channel). subst AreWords (sym (get_or_past x.channels channel [] past)) AreWords-none)
    (cases_lt channel (length x.channels))

AreWords-one : (value : ℕ) → value < 2 ^ 32 → AreWords (value ∷ [])
AreWords-one value below = All-from_recursion (λ (v : ℕ). v < 2 ^ 32) (value ∷ []) (below, tt)

IsExchange-delivery : (x : Exchange) (delivery : Delivery) → IsExchange x → DeliversWords (Deliver delivery) → IsExchange (with_delivery x delivery)
IsExchange-delivery x (Arrival value) is below =
    IsExchange-arrivals x (x.arrivals ++ value ∷ []) is (All-append (λ (v : ℕ). v < 2 ^ 32) x.arrivals (value ∷ []) is.arrivals (AreWords-one value below))
IsExchange-delivery x (Message channel value) is below =
    IsExchange-channel x channel (channel_of x channel ++ value ∷ []) is
    (All-append (λ (v : ℕ). v < 2 ^ 32) (channel_of x channel) (value ∷ []) (AreWords-channel x channel is) (AreWords-one value below))

-- the exchange after a call is resumed, and its result
record IsResumed (after : Exchange) (result : Option ℕ) : Type 0 where
  exchange : IsExchange after
  result_below : IfSome result (λ value. value < 2 ^ 32)

one_or_none-below : (b : Bool) → (if b then 1 else 0) < 2 ^ 32
one_or_none-below true = omega arith
one_or_none-below false = omega arith

IsResumed-blocking : (caps : List ℕ) (x : Exchange) (block : Block) → IsExchange x → IsResumed (blocking_row caps x block).after (result_on block (blocking_row caps x block).result)
IsResumed-blocking caps x Block.Accept is = record {
  exchange = IsExchange-arrivals x _ is (All-drop (λ (v : ℕ). v < 2 ^ 32) 1 x.arrivals is.arrivals);
  result_below = word-below x.arrivals 0 is.arrivals;
}
IsResumed-blocking caps x (Block.Wait channel) is = record {
  exchange = IsExchange-channel x channel _ is (All-drop (λ (v : ℕ). v < 2 ^ 32) 1 (channel_of x channel) (AreWords-channel x channel is));
  result_below = word-below (channel_of x channel) 0 (AreWords-channel x channel is);
}
IsResumed-blocking caps x (Block.Take resource amount) is = record { exchange = IsExchange-use x resource _ is; result_below = tt }
IsResumed-blocking caps x (Block.WaitFor channel ticks) is = record { exchange = is; result_below = one_or_none-below (holds_some (channel_of x channel)) }
IsResumed-blocking caps x _ is = record { exchange = is; result_below = tt }

IsResumed-immediate : (caps : List ℕ) (x : Exchange) (number next : ℕ) (ask : Ask) → IsExchange x → number < 2 ^ 32 → next < 2 ^ 32 → IsResumed (immediate_row caps x number next ask).after (result_of ask (immediate_row caps x number next ask).result)
IsResumed-immediate caps x number next (Ask.Put value) is n m = record { exchange = is; result_below = tt }
IsResumed-immediate caps x number next (Ask.Spawn function argument) is n m = record { exchange = is; result_below = m }
IsResumed-immediate caps x number next (Ask.Give resource amount) is n m = record { exchange = IsExchange-use x resource _ is; result_below = tt }
IsResumed-immediate caps x number next Ask.SelfNumber is n m = record { exchange = is; result_below = n }

-- ---- worlds, but for numbers and partition

record HasRest (c : Checked) (s : Setting) (w : World) : Type 0 where
  areas : AreWellFormed c w.areas
  cores : AreCores w.threads
  exchange : IsExchange w.exchange
  fuel : s.fuel ≤ most_fuel
  cost : w.cost ≤ s.fuel
  next : w.next ≤ w.cost + 1

abbrev HasRestIf : Checked → Setting → Option World → Type 0
HasRestIf c s found = IfSome found (HasRest c s)

abbrev KeepsRest : Checked → Setting → Move → Type 0
KeepsRest c s move = HasRestIf c s (world_of move)

HasRest-retired : (c : Checked) (s : Setting) (w : World) (new : Thread) (areas : Areas) → HasRest c s w → w.cost < s.fuel → AreWellFormed c areas → IsCore new.core → HasRest c s (retired w new areas)
HasRest-retired c s w new areas rest left form is = record {
  areas = form;
  cores = AreCores-replaced new w.threads is rest.cores;
  exchange = rest.exchange;
  fuel = rest.fuel;
  cost = omega arith;
  next = omega (arith, rest.next);
}

HasRest-exchange : (c : Checked) (s : Setting) (w : World) (x : Exchange) → HasRest c s w → IsExchange x → HasRest c s (record w { exchange = x })
HasRest-exchange c s w x rest is = record { areas = rest.areas; cores = rest.cores; exchange = is; fuel = rest.fuel; cost = rest.cost; next = rest.next }

HasRest-running : (c : Checked) (s : Setting) (w : World) (running : Option ℕ) → HasRest c s w → HasRest c s (record w { running = running })
HasRest-running c s w running rest = record { areas = rest.areas; cores = rest.cores; exchange = rest.exchange; fuel = rest.fuel; cost = rest.cost; next = rest.next }

-- the registers of a new thread
IsCore-start : (taken : Taken) (pool : Pool) (need entry argument : ℕ) → IsPool pool → taken_for pool need ≡ Some taken → entry < 2 ^ 32 → argument < 2 ^ 32 → IsCore (start_core taken entry argument)
IsCore-start taken pool need entry argument is some entry_below argument_below =
    let addresses = AreAddresses-taken pool need taken is some in
    record {
      pc = entry_below;
      count = refl;
      registers = All-from_recursion (λ (v : ℕ). v < 2 ^ 32) (start_registers (end_of taken.pool taken.chunk) (payload_place_of taken.pool taken.chunk) argument)
          (lit< tt, (lit< tt, (addresses.end, (lit< tt, (addresses.payload, (lit< tt, (lit< tt, (lit< tt, (lit< tt, (lit< tt, (argument_below, (lit< tt, (lit< tt, (lit< tt, (lit< tt, (lit< tt, (lit< tt, (lit< tt, (lit< tt, (lit< tt, (lit< tt, (lit< tt, (lit< tt, (lit< tt, (lit< tt, (lit< tt, (lit< tt, (lit< tt, (lit< tt, (lit< tt, (lit< tt, (lit< tt, tt))))))))))))))))))))))))))))))));
    }

HasRest-started : (c : Checked) (s : Setting) (w : World) (taken : Taken) (need entry argument : ℕ) → HasRest c s w → w.next ≤ w.cost → taken_for w.areas.pool need ≡ Some taken → entry < 2 ^ 32 → argument < 2 ^ 32 → HasRest c s (with_thread w taken entry argument)
HasRest-started c s w taken need entry argument rest room some entry_below argument_below = record {
  areas = AreWellFormed-taken c w.areas need taken 0 0 rest.areas some (lit< tt) (lit< tt);
  cores = AreCores-append w.threads _ rest.cores (IsCore-start taken w.areas.pool need entry argument rest.areas.pool some entry_below argument_below);
  exchange = rest.exchange;
  fuel = rest.fuel;
  cost = rest.cost;
  next = omega arith;
}

HasForm-local_in : (c : Checked) (w : World) (thread : Thread) → AreWellFormed c w.areas → IsCounted w → IsFound w.threads w.next thread → HasForm c (local_in w thread)
HasForm-local_in c w thread form counted found = record {
  areas = form;
  core = found.core;
  owns = record { once = λ chunk. omega (arith, counted.partition chunk, found.held chunk) };
}

-- each way in which a step of a thread can go, before the fuel is used up
rest_ways : (c : Checked) (s : Setting) (w : World) (thread : Thread) → HasRest c s w → w.cost < s.fuel → IsFound w.threads w.next thread → KeepsForm c (local_step s.code (local_in w thread)) → Ways s w (KeepsRest c s) thread
rest_ways c s w thread rest left found form =
    let next : w.next < 2 ^ 32 = omega (arith, rest.next, rest.fuel) in
    let number : thread.number < 2 ^ 32 = omega (arith, found.below) in
    record {
      goes = λ after e. let now = subst (KeepsForm c) e form in HasRest-retired c s w (record thread { core = after.core }) after.areas rest left now.0 now.1;
      answers = λ ask still e.
          let row = row_for s w thread ask in
          let resumes = IsResumed-immediate s.caps w.exchange thread.number w.next ask rest.exchange number next in
          let after = HasRest-exchange c s _ row.after (HasRest-retired c s w (resumed thread (result_of ask row.result)) w.areas rest left rest.areas (IsCore-passed thread.core (result_of ask row.result) found.core resumes.result_below)) resumes.exchange in
          on_printed (KeepsRest c s) row.prints _ after (λ word some. after);
      blocks = λ block. HasRest-running c s _ None (HasRest-retired c s w (blocked_at w thread block) w.areas rest left rest.areas (IsCore-passed thread.core None found.core tt));
      spawns = λ entry argument need still taken e few some.
          let below = subst (KeepsForm c) e form in
          let after = HasRest-retired c s w (resumed thread (Some w.next)) w.areas rest left rest.areas (IsCore-passed thread.core (Some w.next) found.core next) in
          HasRest-started c s (retired w (resumed thread (Some w.next)) w.areas) taken need entry argument after rest.next some below.0 below.1;
      ends = λ areas e. record {
        areas = subst (KeepsForm c) e form;
        cores = AreCores-without thread.number w.threads rest.cores;
        exchange = rest.exchange;
        fuel = rest.fuel;
        cost = omega arith;
        next = omega (arith, rest.next);
      };
    }

rest_step : (c : Checked) (s : Setting) (w : World) → IsCounted w → HasRest c s w → KeepsRest c s (step s w)
rest_step c s w counted rest =
    on_step s w (KeepsRest c s) (λ stop. tt) tt
    (λ number thread runs there left.
    let is = IsFound-first_with number 0 w.next w.threads thread rest.cores counted.numbered there in
    let differ = eqb-false w.cost s.fuel left in
    rest_ways c s w thread rest (omega (arith, rest.cost, differ)) is (KeepsForm-step c s.code (local_in w thread) (HasForm-local_in c w thread rest.areas counted is)))

-- ---- actions

rest_picked_at : (c : Checked) (s : Setting) (w : World) (thread : Thread) (blocked : Option Blocked) → HasRest c s w → IsCore thread.core → HasRest c s (picked_at s w thread blocked)
rest_picked_at c s w thread None rest is = HasRest-running c s w (Some thread.number) rest
rest_picked_at c s w thread (Some blocked) rest is =
    let row = blocking_row s.caps w.exchange blocked.block in
    let resumes = IsResumed-blocking s.caps w.exchange blocked.block rest.exchange in
    record {
      areas = rest.areas;
      cores = AreCores-replaced _ w.threads (IsCore-with_result thread.core (result_on blocked.block row.result) is resumes.result_below) rest.cores;
      exchange = resumes.exchange;
      fuel = rest.fuel;
      cost = rest.cost;
      next = rest.next;
    }

rest_picked : (c : Checked) (s : Setting) (w : World) (number : ℕ) (found : Option Thread) → IsCounted w → HasRest c s w → thread_of w number ≡ found → HasRestIf c s (picked s w found)
rest_picked c s w number None counted rest e = tt
rest_picked c s w number (Some thread) counted rest e =
    cond_both (may_run s w thread.blocked) (Some (picked_at s w thread thread.blocked)) None (HasRestIf c s)
    (λ _. rest_picked_at c s w thread thread.blocked rest (IsFound-first_with number 0 w.next w.threads thread rest.cores counted.numbered e).core)
    (λ _. tt)

rest_action : (c : Checked) (s : Setting) (w : World) (action : Action) → DeliversWords action → IsCounted w → HasRest c s w → HasRestIf c s (after_action s w action)
rest_action c s w (Deliver delivery) words counted rest =
    cond_both (is_between w) (Some (delivered s w delivery)) None (HasRestIf c s)
    (λ _. cond_both (is_dropped s.backlog w.exchange delivery) w (record w { exchange = with_delivery w.exchange delivery }) (HasRest c s)
    (λ _. rest)
    (λ _. HasRest-exchange c s w (with_delivery w.exchange delivery) rest (IsExchange-delivery w.exchange delivery rest.exchange words)))
    (λ _. tt)
rest_action c s w (Advance to) words counted rest =
    cond_both (is_between w && nat_le w.clock to) (Some (advanced w to)) None (HasRestIf c s)
    (λ _. record { areas = rest.areas; cores = rest.cores; exchange = rest.exchange; fuel = rest.fuel; cost = rest.cost; next = rest.next })
    (λ _. tt)
rest_action c s w (Pick number) words counted rest =
    cond_both (is_between w) (picked s w (thread_of w number)) None (HasRestIf c s)
    (λ _. rest_picked c s w number (thread_of w number) counted rest refl)
    (λ _. tt)
rest_action c s w Step words counted rest = rest_step c s w counted rest

-- ---- all of it

whole : (c : Checked) (s : Setting) (w : World) → IsCounted w → HasRest c s w → IsWellFormed c s w
whole c s w counted rest = record { areas = rest.areas; cores = rest.cores; counted = counted; exchange = rest.exchange; fuel = rest.fuel; cost = rest.cost; next = rest.next }

rest_of : (c : Checked) (s : Setting) (w : World) → IsWellFormed c s w → HasRest c s w
rest_of c s w form = record { areas = form.areas; cores = form.cores; exchange = form.exchange; fuel = form.fuel; cost = form.cost; next = form.next }

whole_move : (c : Checked) (s : Setting) (move : Move) → KeepsCounted move → KeepsRest c s move → KeepsWellFormed c s move
whole_move c s (Goes after) counted rest = whole c s after counted rest
whole_move c s (Puts value after) counted rest = whole c s after counted rest
whole_move c s (Spawns number after) counted rest = whole c s after counted rest
whole_move c s (Blocks after) counted rest = whole c s after counted rest
whole_move c s (Ends after) counted rest = whole c s after counted rest
whole_move c s _ counted rest = tt

whole_if : (c : Checked) (s : Setting) (found : Option World) → IsCountedIf found → HasRestIf c s found → IsWellFormedIf c s found
whole_if c s None counted rest = tt
whole_if c s (Some w) counted rest = whole c s w counted rest

pub KeepsWellFormed-step : (c : Checked) (s : Setting) (w : World) → IsWellFormed c s w → KeepsWellFormed c s (step s w)
KeepsWellFormed-step c s w form = whole_move c s (step s w) (counted_step s w form.counted) (rest_step c s w form.counted (rest_of c s w form))

pub IsWellFormedIf-action : (c : Checked) (s : Setting) (w : World) (action : Action) → DeliversWords action → IsWellFormed c s w → IsWellFormedIf c s (after_action s w action)
IsWellFormedIf-action c s w action words form =
    whole_if c s (after_action s w action) (counted_action s w action form.counted) (rest_action c s w action words form.counted (rest_of c s w form))

-- ---- the start

HasRest-started_on : (c : Checked) (s : Setting) (w : World) (entry need : ℕ) (found : Option Taken) → HasRest c s w → w.next ≤ w.cost → entry < 2 ^ 32 → taken_for w.areas.pool need ≡ found → HasRestIf c s (started_on w entry found)
HasRest-started_on c s w entry need None rest room below e = tt
HasRest-started_on c s w entry need (Some taken) rest room below e = HasRest-started c s w taken need entry 0 rest room e below (lit< tt)

IsExchange-empty : IsExchange empty_exchange
IsExchange-empty = record {
  arrivals = AreWords-none;
  channels = All-replicate AreWords 64 [] AreWords-none;
  channel_count = refl;
  use_count = refl;
}

pub IsWellFormedIf-start : (c : Checked) (s : Setting) (areas : Areas) (entry need : ℕ) → AreWellFormed c areas → AreAllFree areas.pool → s.fuel ≤ most_fuel → entry < 2 ^ 32 → IsWellFormedIf c s (start_world areas entry need)
unfolding start_world
IsWellFormedIf-start c s areas entry need form free fuel below =
    whole_if c s (started_on (empty_world areas) entry (taken_for areas.pool need)) (counted_start areas entry need free)
    (HasRest-started_on c s (empty_world areas) entry need (taken_for areas.pool need)
    (record { areas = form; cores = tt; exchange = IsExchange-empty; fuel = fuel; cost = omega arith; next = omega arith }) (omega arith) below refl)
