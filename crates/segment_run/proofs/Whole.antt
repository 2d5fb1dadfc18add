-- A segment as a whole: what its condition gives, and what follows of its steps.
use Rattle.segment_run.proofs.Common.{◌≡◌, ℕ, ◌^◌, ◌<◌, List, length, Option, Some, None, Ok, refl, sym, ap, ◌∙◌, arith, nat_lt, lowered, ProgramTree, IsWellScoped, Accepted, IsValid, result_place, Certificate, Image, Pool, Instr, read, instruction_at, Areas, a0, Core, Local, Checked, IsResting, PastCall, SourceThread, StandsForThread, going_on, AreWellFormed, AreWords, HasForm, Owns, HoldsWanted, HoldsResult, RunsAsSource, checked_of, local_of, AreOf, IsOwned, AreKept, KeepsChunks, KeepsCounts, Context}
use Rattle.chunk_pool.specs.declared.shape.Shape.{Shape}
use Rattle.machine_meaning.proofs.SourceLaws as source
use Rattle.segment_run.proofs.Forming.{areas_formed}
use Rattle.segment_run.proofs.Owning.{one_if, IsOwned-owns, Owns-owned}

-- ---- before

pub form_of : (accepted : Accepted) (areas : Areas) (context : Context) → IsValid (checked_of accepted).flat accepted.image accepted.certificate → AreKept areas → AreOf accepted areas → IsOwned areas.pool (local_of areas context).core.chain →
    (pc : context.pc < 2 ^ 32) → (count : length context.x ≡ 32) → AreWords context.x → HasForm (checked_of accepted) (local_of areas context)
form_of accepted areas context valid kept of owned pc count words = record {
  areas = areas_formed (checked_of accepted).flat accepted.image accepted.certificate areas valid kept.pool kept.global_words of.chunk of.globals of.tables;
  core = record { pc = pc; count = count; registers = words };
  owns = Owns-owned (local_of areas context) kept.pool owned;
}

-- ---- after

owns_after : (c : Checked) (before after : Local) → Owns before → KeepsCounts c before after → Owns after
owns_after c before after owns counts = record {
  once = λ chunk.
      let count : one_if (nat_lt chunk after.areas.pool.count) ≡ one_if (nat_lt chunk before.areas.pool.count) = ap (λ (s : Shape). one_if (nat_lt chunk s.count)) counts.shape in
      omega (arith, owns.once chunk, counts.copies chunk, count);
}

pub keeps_chunks : (c : Checked) (before after : Local) → Owns before → KeepsCounts c before after → KeepsChunks before after
keeps_chunks c before after owns counts = record {
  shape = counts.shape;
  others = counts.others;
  copies = counts.copies;
  owned = IsOwned-owns after (owns_after c before after owns counts);
}

pub are_of : (accepted : Accepted) (before after : Areas) → AreWellFormed (checked_of accepted) before → AreWellFormed (checked_of accepted) after → AreOf accepted before → AreOf accepted after
are_of accepted before after first second of = record {
  chunk = second.chunk;
  globals = second.globals ∙ sym first.globals ∙ of.globals;
  tables = second.tables ∙ sym first.tables ∙ of.tables;
}

-- ---- the source

wanted : (d : Option ℕ) (core : Core) → HoldsWanted d core (read core.x a0)
wanted None core = tt
wanted (Some d) core = refl

holds : (c : Checked) (pool : Pool) (core : Core) (rests : IsResting c pool core) → HoldsResult c pool core rests (read core.x a0)
holds c pool core (PastCall f i op word place frames in_place) = wanted (result_place op) core
holds c pool core _ = tt

pub runs_as : (program : ProgramTree) (image : Image) (certificate : Certificate) (l : Local) (thread : SourceThread) (globals : List (List ℕ)) → IsWellScoped program → IsValid (lowered program) image certificate → HasForm (record { flat = lowered program; certificate = certificate }) l →
    StandsForThread (record { flat = lowered program; certificate = certificate }) program l thread globals → (instruction_at image.code l.core.pc ≡ Ok Instr.Ecall → ⊥) →
    RunsAsSource (record { flat = lowered program; certificate = certificate }) image.code program l (going_on thread (read l.core.x a0) globals)
runs_as program image certificate l thread globals scoped valid form stands none =
    source.source program image certificate l thread globals (read l.core.x a0) scoped valid form stands
    (source.may_run program image certificate l scoped valid stands.rests none)
    (holds (record { flat = lowered program; certificate = certificate }) l.areas.pool l.core stands.rests)
