use Rattle.segment_laws.proofs.Silent as proved
use Rattle.segment_laws.proofs.steps.step_laws.Goals as goal

pub returns-clause-goes_on : goal.returns-clause-goes_on
returns-clause-goes_on c' = λ c s w thread at n counted running found fits leads. proved.goes_on c s w thread at n counted running found fits leads

pub returns-clause-thread : goal.returns-clause-thread
returns-clause-thread c' = λ w thread at n found. proved.thread_after w thread at n found

pub returns-clause-moves : goal.returns-clause-moves
returns-clause-moves c' = λ s w thread move running found less e. proved.step_moves s w thread move running found less e

pub returns-clause-turns : goal.returns-clause-turns
returns-clause-turns c' = λ s w thread at n move running found less e. proved.step_turns s w thread at n move running found less e

pub returns-clause-fuel : goal.returns-clause-fuel
returns-clause-fuel c' = λ s w thread running found same. proved.step_fuel s w thread running found same

pub returns-clause-joined : goal.returns-clause-joined
returns-clause-joined c' = λ s m n w between after first rest. proved.joined s m n w between after first rest

pub returns-clause-runs : goal.returns-clause-runs
returns-clause-runs c' = λ s n w after goes. proved.runs_on s n w after goes
