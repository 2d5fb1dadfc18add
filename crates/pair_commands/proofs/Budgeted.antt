-- What the command `budget` does with a pair that is accepted, and with one that isn't.
use Rattle.pair_commands.proofs.Common.{◌≡◌, ℕ, inl, refl, subst, MatchResult, Result, Vec, program_tree, ProgramTree, Program, accepted_tree, IsRefusalOf, Acceptance, CheckError, printed, IsStop, Stop, Certificate, Image, BudgetsPair, IsUnaccepted}
use Rattle.certificate_check.specs.declared.checking.CheckError.TheVariants as checking

-- what is made of a pair
abbrev pub IsMade : ProgramTree → Image → Certificate → Result (Vec ℕ) Stop → Type 0
IsMade program i c answer = MatchResult answer (λ text. BudgetsPair program i c (printed 0 text.items)) (IsStop (BudgetsPair program i c))

pub budget-of : (accepted : Acceptance) (program : ProgramTree) (i : Image) (c : Certificate) (answer : Result (Vec ℕ) Stop) → accepted_tree accepted ≡ program → accepted.image ≡ i → accepted.certificate ≡ c →
    IsMade (accepted_tree accepted) accepted.image accepted.certificate answer → IsMade program i c answer
budget-of accepted program i c answer program_is image_is certificate_is made =
    subst (λ (x : Certificate). IsMade program i x answer) certificate_is
    (subst (λ (x : Image). IsMade program x accepted.certificate answer) image_is
    (subst (λ (x : ProgramTree). IsMade x accepted.image accepted.certificate answer) program_is made))

pub unbudgeted : (program : Program) (i : Image) (c : Certificate) (error : CheckError) (stop : Stop) → IsRefusalOf program i c error → IsUnaccepted error stop → IsStop (BudgetsPair (program_tree program) i c) stop
unbudgeted program i c (checking.Rejected rule function index p x y) stop refused is = rw is (inl (rule, function, index, refused.1, refl))
unbudgeted program i c (checking.Memory p x y) stop refused is = rw is tt
