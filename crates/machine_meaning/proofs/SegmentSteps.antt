-- One step of a segment, beside the source's run of its thread.
use Rattle.machine_meaning.proofs.Common.{◌≡◌, ◌≢◌, ℕ, ◌+◌, Bool, true, false, List, [], ◌∷◌, ◌++◌, length, map, Option, Some, None, refl, sym, ap, subst, ◌∙◌, arith, append_assoc, length-append, ⊎_elim, slice_get, slice_set, cases_eq, length-map, length-set, map-append, Blocking, Immediate, Finish, call_of, Goes, Stops, and_then, moves, goes_on, Ask, Stop, TrapKind, lowered, Waiting, Exchange, blocking_row, immediate_row, source_resume, Rest, Segment, segment_machine, ProgramTree, IsWellScoped, IsValid, Op, Areas, AreGlobals, Frame, a0, Core, Local, LocalMove, Ended, local_step, local_machine, passed, Checked, IsAtCall, PastCall, SourceThread, Waits, StandAtCall, StandsForThread, going_on, StandsForRest, IsWellFormed, KeepsWellFormed, read, CodeFacts-valid, CodeFacts, HasForm, HoldsWanted, HoldsResult, IsAlongSource, RunsAsSource, MayRun, Certificate, Image, with_puts, IsReached, IsFinished, StepReaches, IsSettledIf, IsUnderWay, slice_get-set_other, first_with-number, first_with-replaced, first_with-without, read-write_same}
use Rattle.cap_word.specs.declared.calls.Block.{Block}
use Rattle.c_mean.specs.World as source
use Rattle.flat_code.specs.Codes.{function_at}
use Rattle.flat_code.specs.WellFormed as flat
use Rattle.machine_meaning.proofs.Formed.{formed, follows}
use Rattle.machine_meaning.proofs.Zeroes.{program_zeroes}
use Rattle.machine_world.specs.Local as local
use Rattle.machine_world.specs.Threads as machine
use Rattle.machine_world.specs.Threads.{Blocked, Thread, World, Setting, first_with, thread_of, replaced, retired, resumed, unless_trap, printed, answered, blocks, package_call, stopped, local_in}
use Rattle.machine_meaning.proofs.SourceLaws as law
use Rattle.machine_meaning.proofs.Forms.{has_form, kept_going, kept_ending, rest_stays}
use Rattle.machine_meaning.proofs.Modelled.{call_is}
use Rattle.machine_meaning.proofs.Outputs.{then_moves, cut_at}
use Rattle.machine_meaning.proofs.Passing.{PastWaits, past_waits}
use Rattle.machine_meaning.proofs.Staying.{settled_stays, get_set_same}
use Rattle.machine_meaning.proofs.Threads.{replaced_same, without_same}

-- outputs with one value more
with_one : (start : source.World) (number own value : ℕ) (puts : List ℕ) (outputs : List (ℕ × ℕ)) → own ≡ number → outputs ≡ with_puts start number puts → outputs ++ (own, value) ∷ [] ≡ with_puts start number (puts ++ value ∷ [])
with_one start number own value puts outputs same e =
    ap (λ (os : List (ℕ × ℕ)). os ++ (own, value) ∷ []) e
    ∙ append_assoc start.outputs (map (λ v. (number, v)) puts) ((own, value) ∷ [])
    ∙ ap (λ (n : ℕ). start.outputs ++ (map (λ v. (number, v)) puts ++ (n, value) ∷ [])) same
    ∙ ap (λ (os : List (ℕ × ℕ)). start.outputs ++ os) (sym (map-append (λ (v : ℕ). (number, v)) puts (value ∷ [])))

-- a result in a0, where one is given
pub wanted : (ctx : flat.Context) (d : Option ℕ) (gives : Bool) (core : Core) (res : Option ℕ) (result : ℕ) → length core.x ≡ 32 → flat.IsResultPlace ctx gives d → (gives ≡ true → res ≡ Some result) → HoldsWanted d (passed core res) result
wanted ctx None gives core res result long place given = tt
wanted ctx (Some d) gives core res result long place given =
    let is : res ≡ Some result = given place.0 in
    sym (ap (λ (r : Option ℕ). read (local.with_result core.x r) a0) is ∙ read-write_same core.x a0 result (omega arith) (omega (arith, long)))

module _ (program : ProgramTree) (image : Image) (certificate : Certificate) (scoped : IsWellScoped program) (valid : IsValid (lowered program) image certificate) (s : Setting) (code_is : s.code ≡ image.code) where
  abbrev pub checked : Checked
  checked = record { flat = lowered program; certificate = certificate }

  pub well : flat.IsWellFormed (lowered program)
  well = formed program image certificate scoped valid

  pub facts : CodeFacts checked s.code
  facts = subst (CodeFacts checked) (sym code_is) (CodeFacts-valid (lowered program) image certificate well (program_zeroes program scoped) valid)

  pub runs_from : (l : Local) (thread : SourceThread) (globals : List (List ℕ)) (result : ℕ) → HasForm checked l → (stands : StandsForThread checked program l thread globals) → MayRun checked l.areas.pool l.core stands.rests → HoldsResult checked l.areas.pool l.core stands.rests result
      → RunsAsSource checked s.code program l (going_on thread result globals)
  runs_from l thread globals result form stands may holds =
      subst (λ (code : List ℕ). RunsAsSource checked code program l (going_on thread result globals)) (sym code_is) (law.source program image certificate l thread globals result scoped valid form stands may holds)

  module _ (start : source.World) (number : ℕ) (puts : List ℕ) (w : World) (formed_w : IsWellFormed checked s w) (r : IsReached checked program s start number puts w) where
    abbrev segment : Segment
    segment = r.segment

    abbrev thread : Thread
    thread = r.under_way.thread

    abbrev l : Local
    l = local_in w thread

    pub own : thread.number ≡ segment.number
    own = first_with-number segment.number w.threads thread r.under_way.live

    pub form : HasForm checked l
    form = has_form checked s w segment.number thread formed_w r.under_way.live

    pub along : IsAlongSource checked s.code program segment.running l
    along = r.under_way.runs.along r.under_way.steps l r.under_way.comes

    -- ---- what a run has come to

    pub reach : (after : World) (puts_now : List ℕ) (m : ℕ) (now : Segment) → moves (segment_machine program s.caps) m segment ≡ Goes now → now.number ≡ segment.number → now.world.outputs ≡ with_puts start number puts_now → IsUnderWay checked program s after now
        → IsReached checked program s start number puts_now after
    reach after puts_now m now e same outputs under =
        let comes = then_moves program s.caps start number r.steps m segment (Goes now) r.comes e in
        let count : length now.world.outputs ≡ length start.outputs + length puts_now =
        ap (λ (os : List (ℕ × ℕ)). length os) outputs ∙ length-append start.outputs (map (λ v. (number, v)) puts_now) ∙ ap (λ (n : ℕ). length start.outputs + n) (length-map puts_now (λ v. (number, v))) in
        let cut = cut_at program s.caps start number (r.steps + m) (length puts_now) now comes count in
        record {
          segment = now;
          of_thread = same ∙ r.of_thread;
          steps = r.steps + m;
          comes = comes;
          outputs = outputs;
          cut = cut.cut;
          is_cut = cut.is_cut;
          cut_outputs = cut.same ∙ outputs;
          under_way = under;
        }

    pub finish : (m : ℕ) (trap : Option TrapKind) (after : source.World) → moves (segment_machine program s.caps) m segment ≡ Stops (record { trap = trap; world = after }) → after.outputs ≡ segment.world.outputs → IsFinished checked program s start number puts trap after
    finish m trap after e same = record {
      runs = (r.steps + m, then_moves program s.caps start number r.steps m segment (Stops (record { trap = trap; world = after })) r.comes e);
      outputs = same ∙ r.outputs;
    }

    apart_own : (new : Thread) (n : ℕ) → new.number ≡ thread.number → n ≢ segment.number → n ≢ new.number
    apart_own new n same apart e = apart (e ∙ same ∙ own)

    live_now : (new : Thread) → new.number ≡ thread.number → first_with segment.number (replaced new w.threads) ≡ Some new
    live_now new same =
        let is : segment.number ≡ new.number = sym (same ∙ own) in
        ap (λ (n : ℕ). first_with n (replaced new w.threads)) is ∙ replaced_same new thread w.threads (ap (λ (n : ℕ). first_with n w.threads) (sym is) ∙ r.under_way.live)

    -- ---- a silent step

    pub goes_reach : (next : Local) → local_step s.code l ≡ Goes next → IsReached checked program s start number puts (retired w (record thread { core = next.core }) next.areas)
    goes_reach next e =
        let u = r.under_way in
        let new : Thread = record thread { core = next.core } in
        let good = along.good in
        reach (retired w new next.areas) puts 0 segment refl refl r.outputs (record {
          running = u.running;
          thread = new;
          live = live_now new refl;
          there = u.there;
          from = u.from;
          steps = u.steps + 1;
          comes = goes_on (local_machine s.code) u.steps 1 u.from l u.comes ∙ ap (λ (move : LocalMove). and_then move (moves (local_machine s.code) 0)) e;
          runs = u.runs;
          others = λ n apart. subst (λ (o : Option Thread). StandsForRest checked program next.areas.pool o (slice_get segment.world.threads n)) (sym (first_with-replaced n new w.threads (apart_own new n refl apart)))
              (rest_stays checked program w.areas.pool next.areas.pool (thread_of w n) (slice_get segment.world.threads n) (λ v found. kept_going checked s w segment.number n thread v next well formed_w good u.live found apart e) (u.others n apart));
          settled = λ n apart. subst (IsSettledIf checked next.areas.pool) (sym (first_with-replaced n new w.threads (apart_own new n refl apart)))
              (settled_stays checked w.areas.pool next.areas.pool (thread_of w n) (λ v found. kept_going checked s w segment.number n thread v next well formed_w good u.live found apart e) (u.settled n apart));
          exchange = u.exchange;
          next = u.next;
        })

    -- ---- the end of a segment

    -- the other threads of a world where the running one has another core, or none
    others_stand : (now : List Thread) (rest : Rest) → ((n : ℕ) → n ≢ segment.number → first_with n now ≡ first_with n w.threads) → (n : ℕ) → n ≢ segment.number
        → StandsForRest checked program w.areas.pool (first_with n now) (slice_get (slice_set segment.world.threads segment.number rest) n)
    others_stand now rest same n apart =
        subst (λ (o : Option Thread). StandsForRest checked program w.areas.pool o (slice_get (slice_set segment.world.threads segment.number rest) n)) (sym (same n apart))
        (subst (StandsForRest checked program w.areas.pool (thread_of w n)) (sym (slice_get-set_other segment.world.threads segment.number n rest apart)) (r.under_way.others n apart))

    by_number : (P : ℕ → Type 0) → P segment.number → ((n : ℕ) → n ≢ segment.number → P n) → (n : ℕ) → P n
    by_number P here others n = ⊎_elim (λ (same : n ≡ segment.number). subst P (sym same) here) (λ (apart : n ≡ segment.number → ⊥). others n apart) (cases_eq n segment.number)

    pub ended_reach : (m : ℕ) (finished : Finish) (areas : Areas) → local_step s.code l ≡ Stops (Ended areas) → finished.trap ≡ None → AreGlobals (lowered program) finished.globals areas.globals
        → moves (segment_machine program s.caps) m segment ≡ source.unless_trap segment finished.globals finished.trap (source.rests segment finished.globals source.Ended) → StepReaches checked program s start number puts (stopped w thread (Ended areas))
    ended_reach m finished areas e trap globals comes =
        let u = r.under_way in
        let after : source.World = record segment.world { threads = slice_set segment.world.threads segment.number source.Ended; globals = finished.globals } in
        let ends : moves (segment_machine program s.caps) m segment ≡ Stops (record { trap = None; world = after }) =
        comes ∙ ap (λ (t : Option TrapKind). source.unless_trap segment finished.globals t (source.rests segment finished.globals source.Ended)) trap in
        let gone : first_with segment.number (machine.without thread.number w.threads) ≡ None = ap (λ (n : ℕ). first_with n (machine.without thread.number w.threads)) (sym own) ∙ without_same thread.number w.threads in
        let stays = λ (n : ℕ) (apart : n ≢ segment.number). first_with-without n thread.number w.threads (λ (same : n ≡ thread.number). apart (same ∙ own)) in (
          after,
          finish m None after ends refl,
          record {
            stands = record {
              between = refl;
              threads = by_number (λ n. StandsForRest checked program areas.pool (first_with n (machine.without thread.number w.threads)) (slice_get after.threads n))
                  (subst (λ (o : Option Thread). StandsForRest checked program areas.pool o (slice_get after.threads segment.number)) (sym gone)
                  (subst (StandsForRest checked program areas.pool None) (sym (get_set_same segment.world.threads segment.number source.Ended u.there)) tt))
                  (λ n apart. subst (λ (o : Option Thread). StandsForRest checked program areas.pool o (slice_get after.threads n)) (sym (stays n apart))
                  (subst (StandsForRest checked program areas.pool (thread_of w n)) (sym (slice_get-set_other segment.world.threads segment.number n source.Ended apart))
                  (rest_stays checked program w.areas.pool areas.pool (thread_of w n) (slice_get segment.world.threads n) (λ v found. kept_ending checked s w segment.number n thread v areas well formed_w along.good u.live found apart e) (u.others n apart))));
              globals_are = globals;
              exchange = u.exchange;
              next = u.next ∙ sym (length-set segment.world.threads segment.number source.Ended);
            };
            settled = record {
              between = refl;
              threads = by_number (λ n. IsSettledIf checked areas.pool (first_with n (machine.without thread.number w.threads)))
                  (subst (IsSettledIf checked areas.pool) (sym gone) tt)
                  (λ n apart. subst (IsSettledIf checked areas.pool) (sym (stays n apart))
                  (settled_stays checked w.areas.pool areas.pool (thread_of w n) (λ v found. kept_ending checked s w segment.number n thread v areas well formed_w along.good u.live found apart e) (u.settled n apart)));
            };
          },
        )

    pub trapped_reach : (m : ℕ) (finished : Finish) (kind : TrapKind) → finished.trap ≡ Some kind
        → moves (segment_machine program s.caps) m segment ≡ source.unless_trap segment finished.globals finished.trap (source.rests segment finished.globals source.Ended) → StepReaches checked program s start number puts (machine.Stops (Stop.Trap kind))
    trapped_reach m finished kind trap comes =
        let after : source.World = record segment.world { globals = finished.globals } in
        (after, finish m (Some kind) after (comes ∙ ap (λ (t : Option TrapKind). source.unless_trap segment finished.globals t (source.rests segment finished.globals source.Ended)) trap) refl)

    -- ---- a modelled call

    module _ (m : ℕ) (waiting : Waiting) (globals : List (List ℕ)) (f i word : ℕ) (site n : ℕ) (d : Option ℕ) (args words : List ℕ) (frames : List Frame)
        (rests : IsAtCall checked w.areas.pool thread.core f i (Op.Model site d n args) word frames) (stands : StandAtCall checked program w.areas.pool (Op.Model site d n args) frames waiting) (globals_are : AreGlobals (lowered program) globals w.areas.globals) where
      past : (result : Option ℕ) → PastWaits checked program w.areas.pool (passed thread.core result) f i (Op.Model site d n args) word waiting
      past result = past_waits checked s.code program w.areas.pool thread.core f i word (Op.Model site d n args) frames waiting result facts (follows program scoped) rests stands

      result_place_is : flat.IsResultPlace (flat.context_of (lowered program) (function_at (lowered program) f)) (Rattle.flat_code.specs.Modelled.modelled_gives n) d
      result_place_is = (facts.operation f i (Op.Model site d n args) rests.frames_are.at.0 rests.operation).formed.2

      -- one that blocks
      block_by : (block : Block) (trap : Option TrapKind) → call_of n words ≡ Some (Blocking block) → moves (segment_machine program s.caps) m segment ≡ source.unless_trap segment globals trap (source.rests segment globals (source.Blocked block waiting))
          → StepReaches checked program s start number puts (blocks w thread block trap)
      block_by block (Some kind) is comes = (let after : source.World = record segment.world { globals = globals } in (after, finish m (Some kind) after comes refl))
      block_by block None is comes =
          let u = r.under_way in
          let p = past None in
          let new : Thread = record thread { core = passed thread.core None; blocked = Some (record { block = block; since = w.clock + 1 }) } in
          let after : source.World = record segment.world { threads = slice_set segment.world.threads segment.number (source.Blocked block waiting); globals = globals } in
          let same = λ (k : ℕ) (apart : k ≢ segment.number). first_with-replaced k new w.threads (apart_own new k refl apart) in (
            after,
            finish m None after comes refl,
            record {
              stands = record {
                between = refl;
                threads = by_number (λ k. StandsForRest checked program w.areas.pool (first_with k (replaced new w.threads)) (slice_get after.threads k))
                    (subst (λ (o : Option Thread). StandsForRest checked program w.areas.pool o (slice_get after.threads segment.number)) (sym (live_now new refl))
                    (subst (StandsForRest checked program w.areas.pool (Some new)) (sym (get_set_same segment.world.threads segment.number (source.Blocked block waiting) u.there))
                    (record { blocked = refl; rests = PastCall f i (Op.Model site d n args) word p.place p.frames p.past; past = tt; stands = p.stands })))
                    (others_stand (replaced new w.threads) (source.Blocked block waiting) same);
                globals_are = globals_are;
                exchange = u.exchange;
                next = u.next ∙ sym (length-set segment.world.threads segment.number (source.Blocked block waiting));
              };
              settled = record {
                between = refl;
                threads = by_number (λ k. IsSettledIf checked w.areas.pool (first_with k (replaced new w.threads)))
                    (subst (IsSettledIf checked w.areas.pool) (sym (live_now new refl)) (PastCall f i (Op.Model site d n args) word p.place p.frames p.past, (words, is)))
                    (λ k apart. subst (IsSettledIf checked w.areas.pool) (sym (same k apart)) (u.settled k apart));
              };
            },
          )

      pub block_reach : (block : Block) → call_of n words ≡ Some (Blocking block) → moves (segment_machine program s.caps) m segment ≡ source.calls s.caps segment globals waiting (Blocking block) → StepReaches checked program s start number puts (package_call s w thread (Blocking block))
      block_reach block is comes =
          subst (λ (x : Exchange). StepReaches checked program s start number puts (blocks w thread block (blocking_row s.caps x block).trap)) (sym r.under_way.exchange)
          (block_by block (blocking_row s.caps segment.world.exchange block).trap is comes)

      -- one that is answered at once
      abbrev now_of : ℕ → Exchange → Option ℕ → Segment
      now_of result x prints = record {
        number = segment.number;
        running = source_resume waiting (record { result = result; globals = globals });
        world = record { threads = segment.world.threads; globals = segment.world.globals; exchange = x; outputs = source.with_printed segment.number segment.world.outputs prints };
      }

      abbrev world_now : Option ℕ → Exchange → World
      world_now res x = record (retired w (resumed thread res) w.areas) { exchange = x }

      under_now : (result : ℕ) (res : Option ℕ) (x : Exchange) (prints : Option ℕ) → HoldsWanted d (passed thread.core res) result → IsWellFormed checked s (world_now res x) → IsUnderWay checked program s (world_now res x) (now_of result x prints)
      under_now result res x prints holds formed_now =
          let u = r.under_way in
          let p = past res in
          let new = resumed thread res in
          let same = λ (k : ℕ) (apart : k ≢ segment.number). first_with-replaced k new w.threads (apart_own new k refl apart) in
          let l_now : Local = record { areas = w.areas; core = passed thread.core res } in
          let stands_now : StandsForThread checked program l_now (Waits waiting) globals = record { rests = PastCall f i (Op.Model site d n args) word p.place p.frames p.past; stands = p.stands; globals_are = globals_are } in
          record {
            running = u.running;
            thread = new;
            live = live_now new refl;
            there = u.there;
            from = l_now;
            steps = 0;
            comes = refl;
            runs = runs_from l_now (Waits waiting) globals result (has_form checked s (world_now res x) segment.number new formed_now (live_now new refl)) stands_now tt holds;
            others = λ k apart. subst (λ (o : Option Thread). StandsForRest checked program w.areas.pool o (slice_get segment.world.threads k)) (sym (same k apart)) (u.others k apart);
            settled = λ k apart. subst (IsSettledIf checked w.areas.pool) (sym (same k apart)) (u.settled k apart);
            exchange = refl;
            next = u.next;
          }

      goes_by : (trap : Option TrapKind) (result : ℕ) (res : Option ℕ) (x : Exchange) (prints : Option ℕ) → HoldsWanted d (passed thread.core res) result
          → moves (segment_machine program s.caps) m segment ≡ source.unless_trap segment globals trap (Goes (now_of result x prints)) → KeepsWellFormed checked s (unless_trap trap (printed prints (world_now res x)))
          → StepReaches checked program s start number puts (unless_trap trap (printed prints (world_now res x)))
      goes_by (Some kind) result res x prints holds comes keeps = (let after : source.World = record segment.world { globals = globals } in (after, finish m (Some kind) after comes refl))
      goes_by None result res x None holds comes keeps = reach (world_now res x) puts m (now_of result x None) comes refl r.outputs (under_now result res x None holds keeps)
      goes_by None result res x (Some value) holds comes keeps =
          reach (world_now res x) (puts ++ value ∷ []) m (now_of result x (Some value)) comes refl (with_one start number segment.number value puts segment.world.outputs r.of_thread r.outputs) (under_now result res x (Some value) holds keeps)

      abbrev AskReaches : Ask → Exchange → ℕ → ℕ → Type 0
      AskReaches ask x own_number next = KeepsWellFormed checked s (answered w thread ask (immediate_row s.caps x own_number next ask)) → StepReaches checked program s start number puts (answered w thread ask (immediate_row s.caps x own_number next ask))

      same_row : (ask : Ask) → AskReaches ask segment.world.exchange segment.number (length segment.world.threads) → AskReaches ask w.exchange thread.number w.next
      same_row ask h = subst (λ (x : Exchange). AskReaches ask x thread.number w.next) (sym r.under_way.exchange) (subst (λ (k : ℕ). AskReaches ask segment.world.exchange k w.next) (sym own) (subst (λ (k : ℕ). AskReaches ask segment.world.exchange segment.number k) (sym r.under_way.next) h))

      pub ask_reach : (ask : Ask) → call_of n words ≡ Some (Immediate ask) → moves (segment_machine program s.caps) m segment ≡ source.calls s.caps segment globals waiting (Immediate ask) → KeepsWellFormed checked s (package_call s w thread (Immediate ask))
          → StepReaches checked program s start number puts (package_call s w thread (Immediate ask))
      ask_reach (Ask.Spawn function argument) is comes keeps = absurd (call_is n words (Immediate (Ask.Spawn function argument)) is)
      ask_reach (Ask.Put value) is comes keeps =
          let gives = call_is n words (Immediate (Ask.Put value)) is in
          same_row (Ask.Put value) (goes_by None 0 None segment.world.exchange (Some value) (wanted (flat.context_of (lowered program) (function_at (lowered program) f)) d _ thread.core None 0 form.core.count result_place_is (λ yes. absurd (let no : true ≡ false = sym yes ∙ gives in cc))) comes) keeps
      ask_reach (Ask.Give resource amount) is comes keeps =
          let gives = call_is n words (Immediate (Ask.Give resource amount)) is in
          let row = immediate_row s.caps segment.world.exchange segment.number (length segment.world.threads) (Ask.Give resource amount) in
          same_row (Ask.Give resource amount) (goes_by row.trap 0 None row.after None (wanted (flat.context_of (lowered program) (function_at (lowered program) f)) d _ thread.core None 0 form.core.count result_place_is (λ yes. absurd (let no : true ≡ false = sym yes ∙ gives in cc))) comes) keeps
      ask_reach Ask.SelfNumber is comes keeps =
          same_row Ask.SelfNumber (goes_by None segment.number (Some segment.number) segment.world.exchange None (wanted (flat.context_of (lowered program) (function_at (lowered program) f)) d _ thread.core (Some segment.number) segment.number form.core.count result_place_is (λ yes. refl)) comes) keeps
