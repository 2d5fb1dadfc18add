use Rattle.segment_laws.proofs.Changing as proved
use Rattle.segment_laws.proofs.numbered.numbered_laws.Goals as goal

pub returns-clause-found : goal.returns-clause-found
returns-clause-found c' s' = λ number_of thread_in slots next place r has numbered there. proved.thread_found number_of thread_in slots next place r has numbered there

pub returns-clause-back : goal.returns-clause-back
returns-clause-back c' s' = λ number_of thread_in slots next number thread has e. proved.thread_back number_of thread_in slots next number thread has e

pub returns-clause-members : goal.returns-clause-members
returns-clause-members c' s' = λ number_of thread_in slots next. proved.thread_members number_of thread_in slots next

pub returns-clause-same : goal.returns-clause-same
returns-clause-same c' s' = λ number_of thread_in thread_in' slots slots' next numbered records threads. proved.all_same number_of thread_in thread_in' slots slots' next numbered records threads

pub returns-clause-written : goal.returns-clause-written
returns-clause-written c' s' = λ number_of thread_in thread_in' slots slots' next place r r' has has' numbered was now same keeps. proved.record_written number_of thread_in thread_in' slots slots' next place r r' has has' numbered was now same keeps

pub returns-clause-added : goal.returns-clause-added
returns-clause-added c' s' = λ number_of thread_in thread_in' slots slots' next place r numbered was now is keeps. proved.record_added number_of thread_in thread_in' slots slots' next place r numbered was now is keeps

pub returns-clause-removed : goal.returns-clause-removed
returns-clause-removed c' s' = λ number_of thread_in thread_in' slots slots' next place r has numbered was now keeps. proved.record_removed number_of thread_in thread_in' slots slots' next place r has numbered was now keeps
