use Rattle.segment_laws.proofs.Passing.{call_is_ecall, may_run, passes, stands_behind}
use Rattle.segment_laws.proofs.ValidFacts.{CodeFacts-valid}
use Rattle.segment_laws.proofs.around.passing_laws.Goals as goal

pub returns-clause-at_call : goal.returns-clause-at_call
returns-clause-at_call c' = λ flat image certificate l f i word op frames formed zeroes valid at.
    call_is_ecall (record { flat = flat; certificate = certificate }) image.code l.areas.pool l.core f i word op frames (CodeFacts-valid flat image certificate formed zeroes valid) at

pub returns-clause-may_run : goal.returns-clause-may_run
returns-clause-may_run c' = λ flat image certificate l formed zeroes valid rests none.
    may_run (record { flat = flat; certificate = certificate }) image.code l.areas.pool l.core (CodeFacts-valid flat image certificate formed zeroes valid) rests none

pub returns-clause-passes : goal.returns-clause-passes
returns-clause-passes c' = λ flat image certificate l f i word op frames result formed zeroes follows valid at.
    passes (record { flat = flat; certificate = certificate }) image.code l.areas.pool l.core f i word op frames result (CodeFacts-valid flat image certificate formed zeroes valid) follows at

pub returns-clause-stands : goal.returns-clause-stands
returns-clause-stands c' = λ flat image certificate at question asked waiting result formed zeroes follows valid waits small.
    stands_behind (record { flat = flat; certificate = certificate }) image.code at question asked waiting result (CodeFacts-valid flat image certificate formed zeroes valid) follows waits small
