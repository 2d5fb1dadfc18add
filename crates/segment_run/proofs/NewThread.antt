-- A new thread of an accepted program is ready to run, and stands for the new source thread.
use Rattle.segment_run.proofs.Common.{◌≡◌, ℕ, zero, suc, ◌+◌, ◌*◌, ◌^◌, ◌<◌, ◌≤◌, List, [], ◌∷◌, length, take, replicate, get_or, pos, ◌-ℤ◌, Some, Ok, refl, sym, ap, ◌∙◌, arith, slice_index, IsDistinct, length-map, length-take, get_or-map, All-from_recursion, lowered, lowered_function, ProgramTree, IsWellScoped, IsValid, Pool, Taken, taken_for, IsHeld, place_of, bytes_of, taken_for-sound, function_at, formed, program_zeroes, Areas, AreGlobals, a0, Core, Local, with_header, Checked, IsResting, AtStart, AreWellFormed, Instr, read, instruction_at, CodeFacts-valid, AreOf, IsOwned, IsReady, AreKept, accepted_tree, Accepted, first_arguments, fact_at, Certificate, Image}
use Rattle.c_mean.specs.Frames as source
use Rattle.flat_code.specs.Frames as flat
use Rattle.machine_world.specs.StandsFor.{Starts, StandsForThread}
use Rattle.segment_laws.specs.Around.{IsAtStart, new_thread, RestsAtStart}
use Rattle.segment_laws.proofs.Starting.{starts}
use Rattle.segment_laws.proofs.ValidCalls.{CallFacts-valid}
use Rattle.segment_laws.proofs.Facts.{CodeFacts}
use Rattle.segment_laws.proofs.Needs.{NeedsFit-valid}
use Rattle.segment_run.proofs.Forming.{areas_formed}
use Rattle.machine_meaning.specs.Between.{RestAlike}
use Rattle.machine_meaning.proofs.Going as going
use Rattle.machine_meaning.proofs.BetweenLaws as between
use Rattle.machine_meaning.proofs.StandsForSome.{globals_somewhere}

-- the k-th of the arguments is what stands in the k-th argument register
argument_at : (params argument k : ℕ) → k < length (first_arguments params argument) → slice_index (first_arguments params argument) k ≡ get_or (argument ∷ replicate 7 0) k 0
argument_at params argument k lt = taken_at params (argument ∷ replicate 7 0) k lt
  where
    taken_at : (n : ℕ) (xs : List ℕ) (k : ℕ) → k < length (take n xs) → get_or (take n xs) k 0 ≡ get_or xs k 0
    taken_at zero xs k lt = absurd (omega arith)
    taken_at (suc n) [] k lt = absurd (omega arith)
    taken_at (suc n) (x ∷ xs) zero lt = refl
    taken_at (suc n) (x ∷ xs) (suc k) lt = taken_at n xs k (omega arith)

module _ (program : ProgramTree) (image : Image) (certificate : Certificate) (scoped : IsWellScoped program) (valid : IsValid (lowered program) image certificate) where
  abbrev checked : Checked
  checked = record { flat = lowered program; certificate = certificate }

  facts : CodeFacts checked image.code
  facts = CodeFacts-valid (lowered program) image certificate (formed program image certificate scoped valid) (program_zeroes program scoped) valid

  no_ecall : (f : ℕ) → f < length (lowered program).functions → instruction_at image.code (fact_at certificate f).entry ≡ Ok Instr.Ecall → ⊥
  no_ecall f there e =
      let first : Instr = Instr.Addi 2 2 (pos 0 -ℤ pos (fact_at certificate f).frame) in
      let same : (fact_at certificate f).entry ≡ (fact_at certificate f).entry + 4 * 0 = omega arith in
      let fetch : instruction_at image.code (fact_at certificate f).entry ≡ Ok first = ap (instruction_at image.code) same ∙ facts.prologue_fetch f 0 first there refl in
      let both : Ok first ≡ Ok Instr.Ecall = sym fetch ∙ e in cc

  owned_one : (pool : Pool) (chunk : ℕ) → IsHeld pool chunk → IsOwned pool (chunk ∷ [])
  unfolding IsDistinct
  owned_one pool chunk held = record { held = All-from_recursion (IsHeld pool) (chunk ∷ []) (held, tt); distinct = (tt, tt) }

  -- the parameters of a function of the source
  params_are : (f : ℕ) → f < length program.functions → (function_at (lowered program) f).params ≡ (source.function_at program f).params
  params_are f there = ap (λ (g : Rattle.flat_code.specs.declared.functions.FlatFunction.FlatFunction). g.params) (get_or-map lowered_function program.functions f _ _ there)

  module _ (areas : Areas) (taken : Taken) (need f argument : ℕ) (form : AreWellFormed checked areas) (e : taken_for areas.pool need ≡ Some taken) (enough : (fact_at certificate f).bound ≤ need) (there : f < length (lowered program).functions) (below : argument < 2 ^ 32) where
    abbrev arguments : List ℕ
    arguments = first_arguments (source.function_at program f).params argument

    in_source : f < length program.functions
    in_source = omega (arith, there, length-map program.functions lowered_function)

    count : length arguments ≡ (function_at (lowered program) f).params
    count =
        let entry = (CallFacts-valid (lowered program) image certificate (formed program image certificate scoped valid) valid).entries f there in
        let few = entry.most in
        let same = params_are f in_source in
        let cut = length-take (source.function_at program f).params (argument ∷ replicate {A = ℕ} 7 0) in
        let eight : length (argument ∷ replicate {A = ℕ} 7 0) ≡ 8 = refl in
        omega (arith, few, same, cut, eight)

    registers : (k : ℕ) → k < length arguments → slice_index arguments k ≡ read (new_thread checked areas taken f argument).core.x (a0 + k)
    registers k lt = argument_at (source.function_at program f).params argument k lt ∙ in_register k (omega (arith, lt, few, count))
      where
        few : (function_at (lowered program) f).params ≤ 6
        few = ((CallFacts-valid (lowered program) image certificate (formed program image certificate scoped valid) valid).entries f there).most

        in_register : (k : ℕ) → k < 8 → get_or (argument ∷ replicate 7 0) k 0 ≡ read (new_thread checked areas taken f argument).core.x (10 + k)
        in_register (suc (suc (suc (suc (suc (suc (suc (suc k)))))))) lt = absurd (omega arith)
        in_register _ lt = refl

    rests_at : (globals : List (List ℕ)) → AreGlobals (lowered program) globals areas.globals → RestsAtStart checked (new_thread checked areas taken f argument) f arguments globals
    rests_at globals are =
        starts checked image.code areas taken need f argument arguments globals
        (CallFacts-valid (lowered program) image certificate (formed program image certificate scoped valid) valid)
        (NeedsFit-valid (lowered program) image certificate (formed program image certificate scoped valid) valid)
        form e enough there below count registers are

    pub new_ready : IsReady checked image.code (new_thread checked areas taken f argument)
    new_ready =
        let globals = globals_somewhere (lowered program) areas.globals form.globals in
        let sound = taken_for-sound areas.pool need taken form.pool e in
        record {
          owned = owned_one (with_header taken.pool taken.chunk 0 0) taken.chunk sound.1;
          rests = (rests_at globals.0 globals.1).stands.rests;
          behind = no_ecall f there;
        }

    rest_alike : (pool : Pool) (core : Core) (rests : IsResting checked pool core) (frame : source.Frame) → IsAtStart checked pool core rests → RestAlike checked pool core rests (Starts frame [])
    rest_alike pool core (AtStart g frames has) frame start = tt
    rest_alike pool core _ frame start = absurd start

    pub new_source : (globals : List (List ℕ)) → AreGlobals (lowered program) globals areas.globals → StandsForThread checked program (new_thread checked areas taken f argument) (Starts (source.pushed program f arguments) []) globals
    new_source globals are =
        let l = new_thread checked areas taken f argument in
        let rest = rests_at globals are in
        record {
          rests = rest.stands.rests;
          stands = between.up program checked image l.areas.pool l.core rest.stands.rests (Starts (source.pushed program f arguments) []) scoped refl valid (
            flat.pushed (lowered program) f arguments ∷ [],
            record {
              alike = rest_alike l.areas.pool l.core rest.stands.rests (source.pushed program f arguments) rest.start;
              machine = rest.stands.stands;
              source = going.starts program f arguments scoped in_source (count ∙ params_are f in_source);
            },
          );
          globals_are = rest.stands.globals_are;
        }

-- ---- what the call made

-- the registers that it wrote
abbrev pub written : ℕ → ℕ → ℕ → List ℕ
written place bytes argument = 0 ∷ 4096 ∷ (place + bytes) ∷ 0 ∷ (place + 16) ∷ 0 ∷ 0 ∷ 0 ∷ 0 ∷ 0 ∷ argument ∷ replicate 21 0

pub made : (c : Checked) (areas : Areas) (taken : Taken) (pool : Pool) (entry place bytes f argument chunk : ℕ) → pool ≡ with_header taken.pool taken.chunk 0 0 → entry ≡ (fact_at c.certificate f).entry → chunk ≡ taken.chunk → place ≡ place_of pool chunk → bytes ≡ bytes_of pool chunk →
    (let l : Local = record { areas = record areas { pool = pool }; core = record { pc = entry; x = written place bytes argument; chain = chunk ∷ [] } } in l) ≡ new_thread c areas taken f argument
made c areas taken pool entry place bytes f argument chunk pool_is entry_is chunk_is place_at bytes_at =
    let place_is : place ≡ place_of taken.pool taken.chunk = place_at ∙ (λ i. place_of (pool_is i) (chunk_is i)) in
    let bytes_is : bytes ≡ bytes_of taken.pool taken.chunk = bytes_at ∙ (λ i. bytes_of (pool_is i) (chunk_is i)) in
    (λ i. record { areas = record areas { pool = pool_is i }; core = record { pc = entry_is i; x = written (place_is i) (bytes_is i) argument; chain = chunk_is i ∷ [] } })

-- the areas and the entry, before the call
pub record Before (program : ProgramTree) (certificate : Certificate) (areas : Areas) (f : ℕ) : Type 0 where
  pub form : AreWellFormed (record { flat = lowered program; certificate = certificate }) areas
  pub there : f < length (lowered program).functions

pub before : (accepted : Accepted) (areas : Areas) (f : ℕ) → IsValid (lowered (accepted_tree accepted)) accepted.image accepted.certificate → AreKept areas → AreOf accepted areas → f < length accepted.certificate.functions → Before (accepted_tree accepted) accepted.certificate areas f
before accepted areas f valid kept of there =
    let counts = (((valid.holds 1 f 3).v1 refl).functions refl).0 in
    record {
      form = areas_formed (lowered (accepted_tree accepted)) accepted.image accepted.certificate areas valid kept.pool kept.global_words of.chunk of.globals of.tables;
      there = omega (arith, there, counts);
    }
