-- What an answer says where no count of faults rose: what is due was done as a whole, or memory was wanting.
use Rattle.decisions.proofs.Common.{◌≡◌, ◌⊎◌, ℕ, List, Option, Result, Ok, Err, subst, inl, inr, ⊎_elim, Files, IsWordList, Request, Read, Write, Memory, Outside, NoFault, IsDone, IsWhole, IsTold, status_of, line_of, fault_status, Outcome, Does, IsDue, HasAnswered, UnlessMemory, not-risen, not-rose}
use Rattle.command_words.proofs.OneRequest.{one_request}
use Rattle.command_outcomes.specs.declared.faults.Fault.{Fault}
use Rattle.capriccio_call.proofs.Faults.{answer-of}

-- an outcome that is due for a request was done as a whole, and has the status
pub record HasDone (request : Request) (before after : Outside) (status : ℕ) : Type 0 where
  pub outcome : Outcome
  pub does : Does request before outcome
  pub whole : IsWhole outcome before after
  pub status_is : status ≡ outcome.status

-- the request that is asked for is the one that is due
does_it : (words : List (List ℕ)) (before : Outside) (o : Outcome) (request : Request) → IsWordList words request → IsDue words before o → Does request before o
does_it words before o request asked h =
    ⊎_elim (λ x. subst (λ (r : Request). Does r before o) (one_request words x.0 request x.1 asked) x.2) (λ x. absurd (x.0 request asked)) h

by_result : (words : List (List ℕ)) (before after : Outside) (request : Request) (given : Result Outcome Fault) (old new : Option (List ℕ)) (faults faults' status : ℕ) →
    IsWordList words request → NoFault before after → IsDone (IsDue words before) before after given → IsTold (status_of given) (line_of given) old new faults faults' status →
    UnlessMemory status (HasDone request before after status)
by_result words before after request (Ok o) old new faults faults' status asked none done told =
    ⊎_elim (λ same. inl (record { outcome = o; does = does_it words before o request asked done.0; whole = done.1; status_is = same })) (λ want. inr want)
    (answer-of o.status o.line old new faults faults' status told)
by_result words before after request (Err Read) old new faults faults' status asked none done told =
    ⊎_elim
    (λ x. ⊎_elim (λ y. let counted = y.1 in not-risen before.loads after.loads counted.loads none.loads) (λ y. let counted = y.1 in not-rose before.reads after.reads counted.reads none.reads) x)
    (λ x. let counted = x.4 in not-risen before.reads after.reads counted.reads none.reads) done
by_result words before after request (Err Write) old new faults faults' status asked none done told =
    ⊎_elim (λ x. let counted = x.1 in not-risen before.stores after.stores counted.stores none.stores) (λ x. let counted = x.1 in not-risen before.writes after.writes counted.writes none.writes) done.2
by_result words before after request (Err Memory) old new faults faults' status asked none done told =
    ⊎_elim (λ same. inr same) (λ want. inr want) (answer-of (fault_status Memory) (line_of (Err Memory)) old new faults faults' status told)

pub has_done : (words : List (List ℕ)) (files : Files) (trace : List ℕ) (before after : Outside) (status : ℕ) (request : Request) →
    HasAnswered words files trace before after status → IsWordList words request → UnlessMemory status (HasDone request before after status)
has_done words files trace before after status request h asked =
    by_result words before after request h.answer.0 h.err h.err_after h.faults h.faults_after status asked h.none_rose h.answer.1 h.answer.3

-- what follows from it
pub where_done : {P : Type 0} (request : Request) (before after : Outside) (status : ℕ) → (HasDone request before after status → P) → UnlessMemory status (HasDone request before after status) → UnlessMemory status P
where_done request before after status next h = ⊎_elim (λ done. inl (next done)) (λ want. inr want) h
