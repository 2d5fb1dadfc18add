use Rattle.segment_laws.proofs.ReturnSteps.{return_alike, end_alike}
use Rattle.segment_laws.proofs.Rooms.{call_alike}
use Rattle.segment_laws.proofs.calls.calling_laws.Goals as goal

pub returns-clause-calls : goal.returns-clause-calls
returns-clause-calls c' = λ c code l t after site g d args facts calls simulates stands step. call_alike c code facts calls l t after site g d args simulates stands step

pub returns-clause-returns : goal.returns-clause-returns
returns-clause-returns c' = λ c code l t after s facts calls simulates stands step. return_alike c code facts calls l t after s simulates stands step

pub returns-clause-ends : goal.returns-clause-ends
returns-clause-ends c' = λ c code l t finish s facts calls simulates stands step. end_alike c code facts calls l t finish s simulates stands step
