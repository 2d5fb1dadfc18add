-- The laws for code that is that of the program.
use Rattle.machine_meaning.proofs.Common.{◌≡◌, sym, subst, lowered, ProgramTree, IsWellScoped, IsValid, Pool, FlatCode, Core, Checked, IsResting, SourceThread, StandsFor, Image, HasBetween}
use Rattle.machine_meaning.proofs.StandsForSome as some
use Rattle.machine_meaning.proofs.ExactlyBetween as whole

pub down : (program : ProgramTree) (c : Checked) (pool : Pool) (core : Core) (rests : IsResting c pool core) (thread : SourceThread) → IsWellScoped program → c.flat ≡ lowered program → StandsFor c program pool core rests thread → HasBetween c program pool core rests thread
down program c pool core rests thread scoped is =
    subst (λ (code : FlatCode). (rests : IsResting (record { flat = code; certificate = c.certificate }) pool core) → StandsFor (record { flat = code; certificate = c.certificate }) program pool core rests thread → HasBetween (record { flat = code; certificate = c.certificate }) program pool core rests thread)
    (sym is) (λ (rests : IsResting (record { flat = lowered program; certificate = c.certificate }) pool core) h. whole.down program c.certificate scoped pool core rests thread h) rests

pub up : (program : ProgramTree) (c : Checked) (image : Image) (pool : Pool) (core : Core) (rests : IsResting c pool core) (thread : SourceThread) → IsWellScoped program → c.flat ≡ lowered program → IsValid c.flat image c.certificate
    → HasBetween c program pool core rests thread → StandsFor c program pool core rests thread
up program c image pool core rests thread scoped is =
    subst (λ (code : FlatCode). (rests : IsResting (record { flat = code; certificate = c.certificate }) pool core) → IsValid code image c.certificate → HasBetween (record { flat = code; certificate = c.certificate }) program pool core rests thread → StandsFor (record { flat = code; certificate = c.certificate }) program pool core rests thread)
    (sym is) (λ (rests : IsResting (record { flat = lowered program; certificate = c.certificate }) pool core) valid h. whole.up program c.certificate scoped image valid pool core rests thread h) rests

pub somewhere : (program : ProgramTree) (c : Checked) (image : Image) (pool : Pool) (core : Core) (rests : IsResting c pool core) → IsWellScoped program → c.flat ≡ lowered program → IsValid c.flat image c.certificate → (thread : SourceThread) × StandsFor c program pool core rests thread
somewhere program c image pool core rests scoped is =
    subst (λ (code : FlatCode). (rests : IsResting (record { flat = code; certificate = c.certificate }) pool core) → IsValid code image c.certificate → (thread : SourceThread) × StandsFor (record { flat = code; certificate = c.certificate }) program pool core rests thread)
    (sym is) (λ (rests : IsResting (record { flat = lowered program; certificate = c.certificate }) pool core) valid. some.somewhere program c.certificate scoped image valid pool core rests) rests
