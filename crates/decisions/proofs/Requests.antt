-- Any command, or that the words ask for none.
use Rattle.decisions.proofs.Common.{◌⊎◌, inl, inr, List, decided_by, either_decided, Request, Serve, Run, Build, Check, Graph, Demo, Audit, Budget, IsWordList, Decided}
use Rattle.decisions.proofs.Spoken.{Text}
use Rattle.decisions.proofs.Commands.{AsksServe, AsksRun, AsksBuild, AsksCheck, AsksGraph, AsksDemo, AsksAudit, AsksBudget, serve_decided, run_decided, build_decided, check_decided, graph_decided, demo_decided, audit_decided, budget_decided}

abbrev Asks : List Text → Type 0
Asks words = AsksServe words ⊎ (AsksRun words ⊎ (AsksBuild words ⊎ (AsksCheck words ⊎ (AsksGraph words ⊎ (AsksDemo words ⊎ (AsksAudit words ⊎ AsksBudget words))))))

asked : (words : List Text) → Asks words → (request : Request) × IsWordList words request
asked words (inl a) = (Serve a.0 a.1.0 a.1.1.0, a.1.1.1)
asked words (inr (inl a)) = (Run a.0 a.1.0 a.1.1.0 a.1.1.1.0, a.1.1.1.1)
asked words (inr (inr (inl a))) = (Build a.0 a.1.0 a.1.1.0 a.1.1.1.0, a.1.1.1.1)
asked words (inr (inr (inr (inl a)))) = (Check a.0 a.1.0 a.1.1.0, a.1.1.1)
asked words (inr (inr (inr (inr (inl a))))) = (Graph a.0 a.1.0, a.1.1)
asked words (inr (inr (inr (inr (inr (inl a)))))) = (Demo a.0, a.1)
asked words (inr (inr (inr (inr (inr (inr (inl a))))))) = (Audit a.0 a.1.0 a.1.1.0, a.1.1.1)
asked words (inr (inr (inr (inr (inr (inr (inr a))))))) = (Budget a.0 a.1.0 a.1.1.0, a.1.1.1)

of_request : (words : List Text) (request : Request) → IsWordList words request → Asks words
of_request words (Serve source placement policy) is = inl (source, (placement, (policy, is)))
of_request words (Run source image certificate policy) is = inr (inl (source, (image, (certificate, (policy, is)))))
of_request words (Build source image certificate placement) is = inr (inr (inl (source, (image, (certificate, (placement, is))))))
of_request words (Check source image certificate) is = inr (inr (inr (inl (source, (image, (certificate, is))))))
of_request words (Graph source placement) is = inr (inr (inr (inr (inl (source, (placement, is))))))
of_request words (Demo number) is = inr (inr (inr (inr (inr (inl (number, is))))))
of_request words (Audit source log options) is = inr (inr (inr (inr (inr (inr (inl (source, (log, (options, is)))))))))
of_request words (Budget source image certificate) is = inr (inr (inr (inr (inr (inr (inr (source, (image, (certificate, is)))))))))

pub request_decided : (words : List Text) → Decided ((request : Request) × IsWordList words request)
request_decided words = decided_by (asked words) (λ r. of_request words r.0 r.1)
    (either_decided (serve_decided words) (either_decided (run_decided words) (either_decided (build_decided words) (either_decided (check_decided words)
    (either_decided (graph_decided words) (either_decided (demo_decided words) (either_decided (audit_decided words) (budget_decided words))))))))

pub list_or_none : (words : List Text) → ((request : Request) × IsWordList words request) ⊎ ((request : Request) → ¬ IsWordList words request)
list_or_none words = by (request_decided words) where
  by : Decided ((request : Request) × IsWordList words request) → ((request : Request) × IsWordList words request) ⊎ ((request : Request) → ¬ IsWordList words request)
  by (inl some) = inl some
  by (inr none) = inr (λ request is. none (request, is))
