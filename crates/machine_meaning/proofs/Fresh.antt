-- A new thread on a chunk that was free: it rests at its start for the source thread, and the others keep their chunks.
use Rattle.machine_meaning.proofs.Common.{◌≡◌, ℕ, ◌+◌, ◌^◌, ◌<◌, ◌≤◌, ltb, List, [], ◌∷◌, length, Some, refl, sym, ap, subst, ◌∙◌, arith, slice_index, lowered_function, lowered, function_at, pushed, ProgramTree, IsWellScoped, IsValid, Pool, Taken, taken_for, chunk_of, all_free, FlatFunction, Areas, copies, AreGlobals, a0, Core, with_header, IsResting, AtStart, AtCall, PastCall, StandsForFlat, Frame, Starts, StandAtStart, StandsFor, Thread, World, Setting, thread_of, AreWellFormed, IsWellFormed, read, one_place, NeedsFit-valid, fact_at, Certificate, Image, KeepsChunks, held_one, each_chunk, taken_free, at_most_one}
use Rattle.chunk_pool.proofs.NeedLaws.{taken_for-keeps, taken_for-shape}
use Rattle.flat_code.specs.Codes as codes
use Rattle.flat_code.specs.Frames as flats
use Rattle.machine_meaning.proofs.Lowered.{function_is}
use Rattle.machine_meaning.proofs.Formed.{formed}
use Rattle.machine_world.specs.Places.{Checked, Place, InPrologue, InOperation, IsAt, function_of}
use Rattle.segment_laws.specs.Around.{new_thread}
use Rattle.segment_laws.proofs.Starting as starting
use Rattle.segment_laws.proofs.ValidCalls.{CallFacts-valid}
use Rattle.machine_meaning.proofs.Going as going
use Rattle.machine_meaning.proofs.BetweenLaws as between
use Rattle.machine_meaning.proofs.Past.{InFunction, past_function}
use Rattle.machine_world.proofs.AloneLaws.{chunk_of-with_header}

-- ---- chunks

pub kept_starting : (c : Checked) (s : Setting) (w : World) (number need : ℕ) (taken : Taken) (v : Thread) → IsWellFormed c s w → taken_for w.areas.pool need ≡ Some taken → thread_of w number ≡ Some v → KeepsChunks w.areas.pool (with_header taken.pool taken.chunk 0 0) v.core.chain
kept_starting c s w number need taken v formed e found =
    let keeps = taken_for-keeps w.areas.pool need taken e in
    record {
      shape = taken_for-shape w.areas.pool need taken e;
      words = each_chunk (λ chunk. chunk_of (with_header taken.pool taken.chunk 0 0) chunk ≡ chunk_of w.areas.pool chunk) v.core.chain
          (λ chunk some. chunk_of-with_header taken.pool taken.chunk 0 0 chunk
          (λ (same : chunk ≡ taken.chunk). (let held = held_one chunk number w.threads v found in
          let all = formed.counted.partition chunk in
          let most = at_most_one (ltb chunk w.areas.pool.count) in
          let free = taken_free w.areas.pool need taken e in
          let equal : copies chunk (all_free w.areas.pool) ≡ copies taken.chunk (all_free w.areas.pool) = ap (λ (k : ℕ). copies k (all_free w.areas.pool)) same in
          omega (arith, held, all, most, free, equal, some)))
          ∙ ap (λ (p : Pool). chunk_of p chunk) keeps);
    }

-- ---- rest at a function's first word

module _ (program : ProgramTree) (image : Image) (certificate : Certificate) (scoped : IsWellScoped program) (valid : IsValid (lowered program) image certificate) where
  abbrev checked : Checked
  checked = record { flat = lowered program; certificate = certificate }

  pub record StartsAt (pool : Pool) (core : Core) (g : ℕ) (arguments : List ℕ) : Type 0 where
    pub frames : List Rattle.machine_world.specs.InPlace.Frame
    pub in_place : Rattle.machine_world.specs.InPlace.HasFrames checked pool core (InPrologue g 0) frames
    pub stands : StandsFor checked program pool core (AtStart g frames in_place) (Starts (pushed program g arguments) [])
    pub single : length frames ≡ 1

  single_start : (pool : Pool) (core : Core) (frames : List Frame) (starting : Rattle.c_mean.specs.Frames.Frame) → StandAtStart checked program pool core frames starting [] → length frames ≡ 1
  single_start pool core [] starting h = absurd h
  single_start pool core (frame ∷ []) starting h = refl
  single_start pool core (frame ∷ next ∷ frames) starting h = absurd h.1

  same_f : (f g : ℕ) → InPrologue f 0 ≡ InPrologue g 0 → f ≡ g
  same_f f g e = ap (λ (p : Place). function_of p) e

  starts_at : (pool : Pool) (core : Core) (g : ℕ) (arguments : List ℕ) (rests : IsResting checked pool core) → g < length (lowered program).functions → core.pc ≡ (fact_at certificate g).entry → length arguments ≡ (function_at program g).params
      → StandsForFlat checked pool core rests (flats.pushed (lowered program) g arguments ∷ []) → StartsAt pool core g arguments
  starts_at pool core g arguments (AtStart f frames in_place) there pc count machine =
      let here : IsAt checked core.pc (InPrologue g 0) = (there, omega arith, omega (arith, pc)) in
      let same : f ≡ g = same_f f g (one_place (lowered program) image certificate core.pc (InPrologue f 0) (InPrologue g 0) valid in_place.at here) in
      let program_there : g < length program.functions = omega (arith, there, Rattle.std.proofs.lemmas.List.length-map program.functions lowered_function) in
      let stands : StandsFor checked program pool core (AtStart f frames in_place) (Starts (pushed program f arguments) []) =
      between.up program checked image pool core (AtStart f frames in_place) (Starts (pushed program f arguments) []) scoped refl valid
      (flats.pushed (lowered program) g arguments ∷ [], record { alike = tt; machine = machine; source = subst (λ (h : ℕ). Rattle.machine_meaning.specs.Between.FlatsStandFor program (flats.pushed (lowered program) g arguments ∷ []) (Starts (pushed program h arguments) [])) (sym same) (going.starts program g arguments scoped program_there count) }) in
      subst (λ (h : ℕ). StartsAt pool core h arguments → StartsAt pool core g arguments) (sym same) (λ (x : StartsAt pool core g arguments). x)
      (record { frames = frames; in_place = in_place; stands = stands; single = single_start pool core frames (pushed program f arguments) stands })
  starts_at pool core g arguments (AtCall f i op word frames in_place) there pc count machine =
      let here : IsAt checked core.pc (InPrologue g 0) = (there, omega arith, omega (arith, pc)) in
      absurd (let e = one_place (lowered program) image certificate core.pc (InOperation f i word) (InPrologue g 0) valid in_place.frames_are.at here in cc)
  starts_at pool core g arguments (PastCall f i op word place frames in_place) there pc count machine =
      let here : IsAt checked core.pc (InPrologue g 0) = (there, omega arith, omega (arith, pc)) in
      let place_is : place ≡ InPrologue g 0 = one_place (lowered program) image certificate core.pc place (InPrologue g 0) valid in_place.frames_are.at here in
      let inside : InFunction place = record { not_stub = λ w e. absurd (let both : InPrologue g 0 ≡ Rattle.machine_world.specs.Places.InStub w = sym place_is ∙ e in cc) } in
      let past : function_of place ≡ f = past_function program image certificate core.pc f i word op place scoped valid in_place.operation in_place.ecall in_place.pc in_place.frames_are.at inside in
      let same : g ≡ f = sym (ap (λ (p : Place). function_of p) place_is) ∙ past in
      let entries : (fact_at certificate g).entry ≡ (fact_at certificate f).entry = ap (λ (h : ℕ). (fact_at certificate h).entry) same in
      let at = in_place.pc in
      absurd (omega (arith, at, pc, entries))

  pub new_stands : (areas : Areas) (taken : Taken) (need g argument : ℕ) (arguments : List ℕ) (globals : List (List ℕ)) → AreWellFormed checked areas → taken_for areas.pool need ≡ Some taken → (fact_at certificate g).bound ≤ need → g < length (lowered program).functions → argument < 2 ^ 32 →
      length arguments ≡ (function_at program g).params → ((k : ℕ) → k < length arguments → slice_index arguments k ≡ read (new_thread checked areas taken g argument).core.x (a0 + k)) → AreGlobals (lowered program) globals areas.globals
      → StartsAt (new_thread checked areas taken g argument).areas.pool (new_thread checked areas taken g argument).core g arguments
  new_stands areas taken need g argument arguments globals form e enough there small count registers globals_are =
      let code = lowered program in
      let well = formed program image certificate scoped valid in
      let program_there : g < length program.functions = omega (arith, there, Rattle.std.proofs.lemmas.List.length-map program.functions lowered_function) in
      let params : (codes.function_at code g).params ≡ (function_at program g).params = ap (λ (h : FlatFunction). h.params) (function_is program scoped g program_there) in
      let new = starting.starts checked image.code areas taken need g argument arguments globals (CallFacts-valid code image certificate well valid) (NeedsFit-valid code image certificate well valid) form e enough there small (count ∙ sym params) registers globals_are in
      starts_at (new_thread checked areas taken g argument).areas.pool (new_thread checked areas taken g argument).core g arguments new.stands.rests there refl count new.stands.stands
