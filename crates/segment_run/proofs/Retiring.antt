-- A call that retires, and its result: the thread rests behind the ECALL, for the same source thread.
use Rattle.segment_run.proofs.Common.{◌≡◌, ℕ, ◌+◌, ◌-◌, ◌^◌, ◌<◌, List, [], ◌∷◌, None, refl, ap, subst, arith, AllByRecursion, lowered, ProgramTree, IsWellScoped, IsValid, Pool, chunk_of, result_place, Op, formed, follows, program_zeroes, Areas, AreGlobals, Frame, Core, passed, Checked, IsResting, AtCall, PastCall, IsAtCall, Waits, HoldsIndex, StandAtCall, StandsFor, write, CodeFacts-valid, IsBefore, RestsBefore, RestsBehind, WaitsBefore, WaitsBehind, Certificate, Image, kept_pool}
use Rattle.c_mean.specs.Frames.{Place, InLocalElement, InGlobalElement, Waiting}
use Rattle.segment_laws.proofs.Passing.{passes, behind_by}
use Rattle.segment_laws.proofs.Facts.{CodeFacts}
use Rattle.segment_laws.proofs.Finish.{frame_at}
use Rattle.segment_laws.proofs.Registers.{add-small, read-write_other}
use Rattle.segment_laws.specs.Kept.{KeepsStack}
use Rattle.segment_laws.proofs.SameRest.{answered_law}

-- the thread at the next instruction
abbrev pub retired : Core → Core
retired core = record { pc = core.pc + 4; x = core.x; chain = core.chain }

retired_is : (core : Core) → core.pc < 2 ^ 32 - 4 → passed core None ≡ retired core
retired_is core below = ap (λ (pc : ℕ). let next : Core = record { pc = pc; x = core.x; chain = core.chain } in next) (add-small core.pc 4 (omega (arith, below)))

-- the index of a place that waits stands where it stood
index_kept : (c : Checked) (pool : Pool) (frame : Frame) (temporary j : ℕ) (place : Place) → HoldsIndex c pool frame temporary place → HoldsIndex c pool (frame_at frame j) temporary place
index_kept c pool frame temporary j (InLocalElement a i) is = is
index_kept c pool frame temporary j (InGlobalElement a i) is = is
index_kept c pool frame temporary j _ is = tt

waiting_kept : (c : Checked) (program : ProgramTree) (pool : Pool) (op : Op) (j : ℕ) (frame : Frame) (below : List Frame) (waiting : Waiting) → StandAtCall c program pool op (frame ∷ below) waiting → StandAtCall c program pool op (frame_at frame j ∷ below) waiting
waiting_kept c program pool op j frame below waiting is = (
  record {
    function = is.0.function;
    site = is.0.site;
    named = is.0.named;
    call = is.0.call;
    in_text = is.0.in_text;
    names = is.0.names;
    index = index_kept c pool frame _ j waiting.front.place is.0.index;
  },
  is.1,
)

module _ (program : ProgramTree) (image : Image) (certificate : Certificate) (scoped : IsWellScoped program) (valid : IsValid (lowered program) image certificate) where
  abbrev checked : Checked
  checked = record { flat = lowered program; certificate = certificate }

  facts : CodeFacts checked image.code
  facts = CodeFacts-valid (lowered program) image certificate (formed program image certificate scoped valid) (program_zeroes program scoped) valid

  -- ---- a call retires

  rests_by : (areas : Areas) (core : Core) (rests : IsResting checked areas.pool core) → core.pc < 2 ^ 32 - 4 → IsBefore checked areas.pool core rests → RestsBehind checked image.code (record { areas = areas; core = retired core })
  rests_by areas core (AtCall f i op word frames at) below before =
      let is = passes checked image.code areas.pool core f i word op frames None facts (follows program scoped) at in
      subst (λ (next : Core). RestsBehind checked image.code (record { areas = areas; core = next })) (retired_is core below)
      (record { rests = PastCall f i op word is.place is.frames is.past; behind = tt; no_ecall = is.no_ecall })
  rests_by areas core _ below before = absurd before

  pub retire_rests : (areas : Areas) (core : Core) → core.pc < 2 ^ 32 - 4 → RestsBefore checked (record { areas = areas; core = core }) → RestsBehind checked image.code (record { areas = areas; core = retired core })
  retire_rests areas core below is = rests_by areas core is.rests below is.before

  waits_at : (areas : Areas) (core : Core) (f i word : ℕ) (op : Op) (frames : List Frame) (waiting : Waiting) (globals : List (List ℕ)) → core.pc < 2 ^ 32 - 4 → IsAtCall checked areas.pool core f i op word frames → StandAtCall checked program areas.pool op frames waiting →
      AreGlobals checked.flat globals areas.globals → WaitsBehind checked program (record { areas = areas; core = retired core }) waiting globals
  waits_at areas core f i word op [] waiting globals below at stands globals_are = absurd stands
  waits_at areas core f i word op (frame ∷ rest) waiting globals below at stands globals_are =
      let is = behind_by checked image.code areas.pool core f i word op frame rest None (result_place op) facts (follows program scoped) at refl in
      subst (λ (next : Core). WaitsBehind checked program (record { areas = areas; core = next }) waiting globals) (retired_is core below)
      (record {
        stands = record {
          rests = PastCall f i op word is.place (frame_at frame is.operation ∷ rest) is.past;
          stands = waiting_kept checked program areas.pool op is.operation frame rest waiting stands;
          globals_are = globals_are;
        };
        behind = tt;
      })

  waits_by : (areas : Areas) (core : Core) (waiting : Waiting) (globals : List (List ℕ)) (rests : IsResting checked areas.pool core) → core.pc < 2 ^ 32 - 4 → IsBefore checked areas.pool core rests → StandsFor checked program areas.pool core rests (Waits waiting) →
      AreGlobals checked.flat globals areas.globals → WaitsBehind checked program (record { areas = areas; core = retired core }) waiting globals
  waits_by areas core waiting globals (AtCall f i op word frames at) below before stands globals_are = waits_at areas core f i word op frames waiting globals below at stands globals_are
  waits_by areas core waiting globals _ below before stands globals_are = absurd before

  pub retire_waits : (areas : Areas) (core : Core) (waiting : Waiting) (globals : List (List ℕ)) → core.pc < 2 ^ 32 - 4 → WaitsBefore checked program (record { areas = areas; core = core }) waiting globals → WaitsBehind checked program (record { areas = areas; core = retired core }) waiting globals
  retire_waits areas core waiting globals below is = waits_by areas core waiting globals is.stands.rests below is.before is.stands.stands is.stands.globals_are

-- ---- a result in a0

-- the thread with the result
abbrev pub replied : Core → ℕ → Core
replied core value = record { pc = core.pc; x = write core.x 10 value; chain = core.chain }

all_same : (pool : Pool) (chain : List ℕ) → AllByRecursion (λ (chunk : ℕ). chunk_of pool chunk ≡ chunk_of pool chunk) chain
all_same pool [] = tt
all_same pool (chunk ∷ chain) = (refl, all_same pool chain)

stack_kept : (core : Core) (value : ℕ) → KeepsStack core (replied core value)
stack_kept core value = record {
  pc = refl;
  chain = refl;
  returns = read-write_other core.x 10 value 1 (λ e. omega arith);
  stack = read-write_other core.x 10 value 2 (λ e. omega arith);
  front = read-write_other core.x 10 value 4 (λ e. omega arith);
}

pub reply_rests : (c : Checked) (code : List ℕ) (areas : Areas) (core : Core) (value : ℕ) → RestsBehind c code (record { areas = areas; core = core }) → RestsBehind c code (record { areas = areas; core = replied core value })
reply_rests c code areas core value is =
    let on = answered_law c areas.pool areas.pool core (replied core value) is.rests (kept_pool areas.pool core.chain) (stack_kept core value) is.behind in
    record { rests = on.rests; behind = on.past is.behind; no_ecall = is.no_ecall }

pub reply_waits : (c : Checked) (program : ProgramTree) (areas : Areas) (core : Core) (value : ℕ) (waiting : Waiting) (globals : List (List ℕ)) → WaitsBehind c program (record { areas = areas; core = core }) waiting globals → WaitsBehind c program (record { areas = areas; core = replied core value }) waiting globals
reply_waits c program areas core value waiting globals is =
    let on = answered_law c areas.pool areas.pool core (replied core value) is.stands.rests (kept_pool areas.pool core.chain) (stack_kept core value) is.behind in
    record {
      stands = record { rests = on.rests; stands = on.stands program (Waits waiting) is.stands.stands; globals_are = is.stands.globals_are };
      behind = on.past is.behind;
    }
