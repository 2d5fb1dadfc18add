-- A pick begins a segment, and the source's run of its thread.
use Rattle.machine_meaning.proofs.Common.{◌≡◌, ◌≢◌, ℕ, ◌+◌, ◌*◌, ◌<◌, Bool, true, false, List, [], ◌∷◌, length, Option, Some, None, refl, sym, ap, subst, ◌∙◌, arith, cond, slice_get, is_none, option_map, AllByRecursion, cond_both, length-map, append-nil, Blocking, Goes, moves, lowered_function, lowered, Waiting, pushed, Exchange, blocking_row, source_resume, started, Rest, Segment, segment_machine, begun, begun_at, thread_moves, ProgramTree, IsWellScoped, IsValid, Pool, chunk_of, modelled_gives, Op, Frame, ra, sp, tp, a0, ecall_word, IsPastCall, IsResting, AtStart, AtCall, PastCall, Pick, after_action, picked, picked_at, picked_row, may_run, is_between, Starts, Waits, StandsFor, StandsForThread, IsFresh, IsBlockedAt, IsPast, StandsForRest, Blocked, Thread, World, Setting, first_with, thread_of, replaced, result_on, local_in, IsWellFormed, IsWellFormedIf-action, read, one_place, HoldsWanted, HoldsResult, MayRun, begin, Certificate, Image, KeepsChunks, KeepsStack, frames_law, with_puts, IsReached, IsBlockingCall, RestsSo, IsSettledThread, IsSettledIf, StandsSettled, IsUnderWay, slice_get_within, first_with-number, kept, first_with-replaced}
use Rattle.cap_word.specs.declared.calls.Block.{Block}
use Rattle.c_mean.specs.World as source
use Rattle.flat_code.specs.Codes.{function_at, operation_at, result_place}
use Rattle.flat_code.specs.WellFormed as flat
use Rattle.machine_world.specs.Local.{Core, Local, passed, with_result}
use Rattle.machine_world.specs.Places.{Checked, Place, InOperation, IsAt, size_in, function_of}
use Rattle.machine_meaning.proofs.Past.{ecall_inside}
use Rattle.machine_meaning.proofs.Sites.{has_operation}
use Rattle.machine_meaning.proofs.Forms.{has_form}
use Rattle.machine_meaning.proofs.Modelled.{call_is}
use Rattle.std.specs.Prelude.{is_some}
use Rattle.machine_meaning.proofs.Outputs.{cut_at}
use Rattle.machine_meaning.proofs.Staying.{holds_by}
use Rattle.machine_meaning.proofs.SegmentSteps.{facts, runs_from, wanted}
use Rattle.machine_meaning.proofs.Threads.{replaced_same}

-- ---- one ECALL by its pc

module _ (program : ProgramTree) (image : Image) (certificate : Certificate) (scoped : IsWellScoped program) (valid : IsValid (lowered program) image certificate) where
  abbrev checked : Checked
  checked = record { flat = lowered program; certificate = certificate }

  at_ecall : (f i word : ℕ) (op : Op) → operation_at (lowered program) f i ≡ Some op → ecall_word op ≡ Some word → IsAt checked (begin (lowered program) certificate f i + 4 * word) (InOperation f i word)
  at_ecall f i word op at ecall =
      let there = has_operation program scoped f i op at in
      let inside = ecall_inside (function_at (lowered program) f).sizes certificate op word ecall in
      (omega (arith, there, length-map program.functions lowered_function), subst (λ (o : Option Op). word < size_in checked f o) (sym at) (omega (arith, inside)), refl)

  -- two operations whose ECALL lies before the same pc are one
  same_op : (pool : Pool) (core : Core) (f i word g j v : ℕ) (op other : Op) (place place' : Place) (frames frames' : List Frame) → IsPastCall checked pool core f i op word place frames → IsPastCall checked pool core g j other v place' frames' → op ≡ other
  same_op pool core f i word g j v op other place place' frames frames' one two =
      let pc : begin (lowered program) certificate f i + 4 * word ≡ begin (lowered program) certificate g j + 4 * v = (let a = one.pc in let b = two.pc in omega (arith, a, b)) in
      let here = at_ecall f i word op one.operation one.ecall in
      let there : IsAt checked (begin (lowered program) certificate f i + 4 * word) (InOperation g j v) = subst (λ (a : ℕ). IsAt checked a (InOperation g j v)) (sym pc) (at_ecall g j v other two.operation two.ecall) in
      let places = one_place (lowered program) image certificate (begin (lowered program) certificate f i + 4 * word) (InOperation f i word) (InOperation g j v) valid here there in
      let ops : Some op ≡ Some other = sym one.operation ∙ ap (λ (p : Place). operation_at (lowered program) (function_of p) (Rattle.machine_world.specs.Places.operation_of p)) places ∙ two.operation in
      cc

-- ---- registers

kept_stack : (core : Core) (result : Option ℕ) → KeepsStack core (record core { x = with_result core.x result })
kept_stack core result = record {
  pc = refl;
  chain = refl;
  returns = kept core.x result ra (λ e. omega (arith, e));
  stack = kept core.x result sp (λ e. omega (arith, e));
  front = kept core.x result tp (λ e. omega (arith, e));
}

pub kept_pool : (pool : Pool) (chain : List ℕ) → KeepsChunks pool pool chain
kept_pool pool chain = record { shape = refl; words = all chain }
  where
    all : (chain : List ℕ) → AllByRecursion (λ chunk. chunk_of pool chunk ≡ chunk_of pool chunk) chain
    all [] = tt
    all (chunk ∷ chain) = (refl, all chain)

-- the result of a blocking call, where it gives one
block_result : (n result : ℕ) (block : Block) → modelled_gives n ≡ is_some (result_on block 0) → modelled_gives n ≡ true → result_on block result ≡ Some result
block_result n result Block.Accept gives does = refl
block_result n result (Block.Wait channel) gives does = refl
block_result n result (Block.Sleep ticks) gives does = absurd (let no : true ≡ false = sym does ∙ gives in cc)
block_result n result Block.Yield gives does = absurd (let no : true ≡ false = sym does ∙ gives in cc)
block_result n result (Block.Take resource amount) gives does = absurd (let no : true ≡ false = sym does ∙ gives in cc)
block_result n result (Block.WaitFor channel ticks) gives does = refl

start_may : (c : Checked) (program : ProgramTree) (pool : Pool) (core : Core) (rests : IsResting c pool core) (frame : Rattle.c_mean.specs.Frames.Frame) (below : List Rattle.c_mean.specs.Frames.WaitingFrame) → StandsFor c program pool core rests (Starts frame below) → MayRun c pool core rests
start_may c program pool core (AtCall f i op word frames in_place) frame below h = absurd h
start_may c program pool core _ frame below h = tt

-- no world
abbrev no_world : Option World
no_world = None

module _ (program : ProgramTree) (image : Image) (certificate : Certificate) (scoped : IsWellScoped program) (valid : IsValid (lowered program) image certificate) (s : Setting) (code_is : s.code ≡ image.code)
    (start : source.World) (number : ℕ) (w : World) (formed_w : IsWellFormed (record { flat = lowered program; certificate = certificate }) s w) (stands : StandsSettled (record { flat = lowered program; certificate = certificate }) program w start) where
  abbrev here : Checked
  here = record { flat = lowered program; certificate = certificate }

  -- a segment that has just begun
  begins : (after : World) (first : Segment) → begun program s.caps start number ≡ Some first → first.number ≡ number → first.world.outputs ≡ start.outputs → IsUnderWay here program s after first → IsReached here program s start number [] after
  begins after first is own outputs under =
      let comes : thread_moves program s.caps start number 0 ≡ Some (Goes first) = ap (λ (o : Option Segment). option_map (moves (segment_machine program s.caps) 0) o) is in
      let none : first.world.outputs ≡ with_puts start number [] = outputs ∙ sym (append-nil start.outputs) in
      let count : length first.world.outputs ≡ length start.outputs + 0 = ap (λ (os : List (ℕ × ℕ)). length os) outputs ∙ omega arith in
      let cut = cut_at program s.caps start number 0 0 first comes count in
      record {
        segment = first;
        of_thread = own;
        steps = 0;
        comes = comes;
        outputs = none;
        cut = cut.cut;
        is_cut = cut.is_cut;
        cut_outputs = cut.same ∙ none;
        under_way = under;
      }

  fresh_begins : (t : Thread) (f : ℕ) (arguments : List ℕ) → thread_of w number ≡ Some t → slice_get start.threads number ≡ Some (source.Fresh f arguments) → IsFresh here program w.areas.pool t f arguments
      → IsReached here program s start number [] (picked_at s w t None)
  fresh_begins t f arguments found at h =
      let own = first_with-number number w.threads t found in
      let first : Segment = record { number = number; running = started program f arguments start.globals; world = start } in
      let l = local_in w t in
      let stands_now : StandsForThread here program l (Starts (pushed program f arguments) []) start.globals = record { rests = h.rests; stands = h.stands; globals_are = stands.stands.globals_are } in
      begins (picked_at s w t None) first (ap (begun_at program s.caps start number) at) refl refl (record {
        running = ap (λ (n : ℕ). Some n) own;
        thread = t;
        live = found;
        there = slice_get_within start.threads number (source.Fresh f arguments) at;
        from = l;
        steps = 0;
        comes = refl;
        runs = runs_from program image certificate scoped valid s code_is l (Starts (pushed program f arguments) []) start.globals (read t.core.x a0) (has_form here s w number t formed_w found) stands_now
            (start_may here program w.areas.pool t.core h.rests (pushed program f arguments) [] h.stands) (holds_by here w.areas.pool t.core h.rests (read t.core.x a0) refl);
        others = λ n apart. stands.stands.threads n;
        settled = λ n apart. stands.settled.threads n;
        exchange = stands.stands.exchange;
        next = stands.stands.next;
      })

  -- the thread just past its ECALL, with the call's result
  resting_now : (core : Core) (result : Option ℕ) (f i word : ℕ) (op : Op) (place : Place) (frames : List Frame) → IsPastCall here w.areas.pool core f i op word place frames → IsPastCall here w.areas.pool (record core { x = with_result core.x result }) f i op word place frames
  resting_now core result f i word op place frames past = record {
    operation = past.operation;
    ecall = past.ecall;
    pc = past.pc;
    frames_are = frames_law here w.areas.pool w.areas.pool core (record core { x = with_result core.x result }) place frames (kept_pool w.areas.pool core.chain) (kept_stack core result) past.frames_are;
  }

  wanted_there : (d : Option ℕ) (core other : Core) (result : ℕ) → core.x ≡ other.x → HoldsWanted d core result → HoldsWanted d other result
  wanted_there None core other result same h = tt
  wanted_there (Some d) core other result same h = h ∙ ap (λ (x : List ℕ). read x a0) same

  holds_block : (t : Thread) (block : Block) (result : ℕ) (f i word : ℕ) (op : Op) (place : Place) (frames : List Frame) → length t.core.x ≡ 32 → IsPastCall here w.areas.pool t.core f i op word place frames → IsBlockingCall op block
      → HoldsWanted (result_place op) (record t.core { x = with_result t.core.x (result_on block result) }) result
  holds_block t block result f i word (Op.Model site d n args) place frames long past h =
      let there : f < length (lowered program).functions = (let known = has_operation program scoped f i (Op.Model site d n args) past.operation in omega (arith, known, length-map program.functions lowered_function)) in
      let place_is = ((facts program image certificate scoped valid s code_is).operation f i (Op.Model site d n args) there past.operation).formed.2 in
      let gives = call_is n h.0 (Blocking block) h.1 in
      wanted_there d (passed t.core (result_on block result)) (record t.core { x = with_result t.core.x (result_on block result) }) result refl
      (wanted (flat.context_of (lowered program) (function_at (lowered program) f)) d (modelled_gives n) t.core (result_on block result) result long place_is (λ does. block_result n result block gives does))
  holds_block t block result f i word op place frames long past h = absurd h

  -- a thread that goes on from its blocking call
  record GoesOn (core : Core) (waiting : Waiting) (result : ℕ) : Type 0 where
    rests : IsResting here w.areas.pool core
    stands_for : StandsFor here program w.areas.pool core rests (Waits waiting)
    may : MayRun here w.areas.pool core rests
    holds : HoldsResult here w.areas.pool core rests result

  goes_on : (t : Thread) (blocked : Blocked) (waiting : Waiting) (result : ℕ) (rests : IsResting here w.areas.pool t.core) (settled : IsResting here w.areas.pool t.core) → length t.core.x ≡ 32 → IsPast here w.areas.pool t.core rests → StandsFor here program w.areas.pool t.core rests (Waits waiting)
      → RestsSo here w.areas.pool t settled (Some blocked) → GoesOn (record t.core { x = with_result t.core.x (result_on blocked.block result) }) waiting result
  goes_on t blocked waiting result (PastCall f i op word place frames in_place) (AtStart g frames' at) long past h so = absurd so
  goes_on t blocked waiting result (PastCall f i op word place frames in_place) (AtCall g j other v frames' at) long past h so = absurd so
  goes_on t blocked waiting result (PastCall f i op word place frames in_place) (PastCall g j other v place' frames' at) long past h so =
      let same : op ≡ other = same_op program image certificate scoped valid w.areas.pool t.core f i word g j v op other place place' frames frames' in_place at in
      let block = blocked.block in
      record {
        rests = PastCall f i op word place frames (resting_now t.core (result_on block result) f i word op place frames in_place);
        stands_for = h;
        may = tt;
        holds = holds_block t block result f i word op place frames long in_place (subst (λ (o : Op). IsBlockingCall o block) (sym same) so);
      }
  goes_on t blocked waiting result _ settled long past h so = absurd past

  blocked_begins : (t : Thread) (blocked : Blocked) (waiting : Waiting) → thread_of w number ≡ Some t → slice_get start.threads number ≡ Some (source.Blocked blocked.block waiting) → IsBlockedAt here program w.areas.pool t blocked.block waiting → (settled : IsResting here w.areas.pool t.core) → RestsSo here w.areas.pool t settled (Some blocked)
      → IsWellFormed here s (picked_row w t blocked.block (blocking_row s.caps start.exchange blocked.block)) → IsReached here program s start number [] (picked_row w t blocked.block (blocking_row s.caps start.exchange blocked.block))
  blocked_begins t blocked waiting found at h settled so formed_now =
      let own = first_with-number number w.threads t found in
      let row = blocking_row s.caps start.exchange blocked.block in
      let core_now : Core = record t.core { x = with_result t.core.x (result_on blocked.block row.result) } in
      let new : Thread = record t { core = core_now; blocked = None } in
      let first : Segment = record { number = number; running = source_resume waiting (record { result = row.result; globals = start.globals }); world = record start { exchange = row.after } } in
      let l : Local = record { areas = w.areas; core = core_now } in
      let on = goes_on t blocked waiting row.result h.rests settled (has_form here s w number t formed_w found).core.count h.past h.stands so in
      let stands_now : StandsForThread here program l (Waits waiting) start.globals = record { rests = on.rests; stands = on.stands_for; globals_are = stands.stands.globals_are } in
      let live : first_with number (replaced new w.threads) ≡ Some new =
      ap (λ (n : ℕ). first_with n (replaced new w.threads)) (sym own) ∙ replaced_same new t w.threads (ap (λ (n : ℕ). first_with n w.threads) own ∙ found) in
      let same = λ (n : ℕ) (apart : n ≢ number). first_with-replaced n new w.threads (λ (e : n ≡ t.number). apart (e ∙ own)) in
      begins (picked_row w t blocked.block row) first (ap (begun_at program s.caps start number) at) refl refl (record {
        running = ap (λ (n : ℕ). Some n) own;
        thread = new;
        live = live;
        there = slice_get_within start.threads number (source.Blocked blocked.block waiting) at;
        from = l;
        steps = 0;
        comes = refl;
        runs = runs_from program image certificate scoped valid s code_is l (Waits waiting) start.globals row.result (has_form here s (picked_row w t blocked.block row) number new formed_now live) stands_now on.may on.holds;
        others = λ n apart. subst (λ (o : Option Thread). StandsForRest here program w.areas.pool o (slice_get start.threads n)) (sym (same n apart)) (stands.stands.threads n);
        settled = λ n apart. subst (IsSettledIf here w.areas.pool) (sym (same n apart)) (stands.settled.threads n);
        exchange = refl;
        next = stands.stands.next;
      })

  abbrev Begins : World → Type 0
  Begins after = IsWellFormed here s after → IsReached here program s start number [] after

  by_rest : (t : Thread) (blocked : Option Blocked) (rest : Option Rest) → thread_of w number ≡ Some t → t.blocked ≡ blocked → slice_get start.threads number ≡ rest → StandsForRest here program w.areas.pool (Some t) rest → (settled : IsResting here w.areas.pool t.core) → RestsSo here w.areas.pool t settled blocked
      → Begins (picked_at s w t blocked)
  by_rest t None (Some (source.Fresh f arguments)) found is at h settled so formed_now = fresh_begins t f arguments found at h
  by_rest t (Some blocked) (Some (source.Fresh f arguments)) found is at h settled so formed_now = absurd (let e : Some blocked ≡ Rattle.std.specs.Prelude.None = sym is ∙ h.unblocked in cc)
  by_rest t None (Some (source.Blocked block waiting)) found is at h settled so formed_now = absurd (let e = sym (ap (option_map (λ (b : Blocked). b.block)) is) ∙ h.blocked in cc)
  by_rest t (Some blocked) (Some (source.Blocked block waiting)) found is at h settled so formed_now =
      let both : Some blocked.block ≡ Some block = sym (ap (option_map (λ (b : Blocked). b.block)) is) ∙ h.blocked in
      let same : blocked.block ≡ block = cc in
      subst (λ (x : Exchange). Begins (picked_row w t blocked.block (blocking_row s.caps x blocked.block))) (sym stands.stands.exchange)
      (blocked_begins t blocked waiting found (at ∙ ap (λ (b : Block). Some (source.Blocked b waiting)) (sym same)) (subst (λ (b : Block). IsBlockedAt here program w.areas.pool t b waiting) (sym same) h) settled so) formed_now
  by_rest t blocked _ found is at h settled so formed_now = absurd h

  by_thread : (o : Option Thread) (after : World) → thread_of w number ≡ o → picked s w o ≡ Some after → Begins after
  by_thread None after found e formed_now = absurd (let none : no_world ≡ Some after = e in cc)
  by_thread (Some t) after found e formed_now =
      cond_both (may_run s w t.blocked) (Some (picked_at s w t t.blocked)) no_world (λ (o : Option World). o ≡ Some after → Begins after)
      (λ ready e'. let same : picked_at s w t t.blocked ≡ after = cc in
      let stands_here : StandsForRest here program w.areas.pool (Some t) (slice_get start.threads number) = subst (λ (o : Option Thread). StandsForRest here program w.areas.pool o (slice_get start.threads number)) found (stands.stands.threads number) in
      let settled : IsSettledThread here w.areas.pool t = subst (IsSettledIf here w.areas.pool) found (stands.settled.threads number) in
      subst Begins same (by_rest t t.blocked (slice_get start.threads number) found refl refl stands_here settled.0 settled.1))
      (λ busy e'. absurd (let none : no_world ≡ Some after = e' in cc))
      e formed_now

  pub pick_reach : (after : World) → after_action s w (Pick number) ≡ Some after → IsReached here program s start number [] after
  pick_reach after e =
      let between : is_between w ≡ true = ap (λ (o : Option ℕ). is_none o) stands.settled.between in
      let chosen : picked s w (thread_of w number) ≡ Some after = sym (ap (λ (b : Bool). cond b (picked s w (thread_of w number)) no_world) between) ∙ e in
      let formed_now : IsWellFormed here s after = subst (Rattle.machine_world.specs.WellFormed.IsWellFormedIf here s) e (IsWellFormedIf-action here s w (Pick number) tt formed_w) in
      by_thread (thread_of w number) after refl chosen formed_now
