-- An outcome is due of every list of words.
use Rattle.decisions.proofs.Common.{ℕ, ⊎_elim, List, Request, Serve, Run, Build, Check, Graph, Demo, Audit, Budget, IsWordList, Outside, IsDue, HoldBytes}
use Rattle.decisions.proofs.Requests.{list_or_none}
use Rattle.decisions.proofs.Auditing.{audit_words_due}
use Rattle.decisions.proofs.Loading.{Some_due}
use Rattle.decisions.proofs.DueCommands.{usage_due, check_words_due, run_words_due, graph_words_due, build_words_due, budget_words_due}
use Rattle.decisions.proofs.Serving.{serve_words_due, demo_words_due}

request_due : (words : List (List ℕ)) (before : Outside) (request : Request) → IsWordList words request → HoldBytes before.files → Some_due (IsDue words before)
request_due words before (Serve source placement policy) is are = serve_words_due words before source placement policy is are
request_due words before (Run source image certificate policy) is are = run_words_due words before source image certificate policy is are
request_due words before (Build source image certificate placement) is are = build_words_due words before source image certificate placement is are
request_due words before (Check source image certificate) is are = check_words_due words before source image certificate is are
request_due words before (Graph source placement) is are = graph_words_due words before source placement is are
request_due words before (Demo number) is are = demo_words_due words before number is
request_due words before (Audit source log options) is are = audit_words_due words before source log options is
request_due words before (Budget source image certificate) is are = budget_words_due words before source image certificate is are

pub words_due : (words : List (List ℕ)) (before : Outside) → HoldBytes before.files → Some_due (IsDue words before)
words_due words before are = ⊎_elim (λ r. request_due words before r.0 r.1 are) (λ none. usage_due words before none) (list_or_none words)
