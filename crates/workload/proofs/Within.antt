-- The tokens of the workload's source are a program in which nothing is too deep, and no call in it is nested.
use Rattle.workload.proofs.Common.{ℕ, zero, suc, ◌≡◌, List, [], ◌∷◌, None, refl, ◌∙◌, subst, Token, RawItemTree}
use Rattle.c_grammar.specs.Reading.{run}
use Rattle.c_grammar.specs.Refusals.{IsWithin, Verdict}
use Rattle.c_parse.specs.NestedCalls.{nested_in_items}
use Rattle.grammar_laws.proofs.Verdicts.{start}
use Rattle.grammar_laws.proofs.Outcome.{run_is_verdict}
use Rattle.workload.proofs.Spelling.{tokens_of}
use Rattle.workload.proofs.Pieces.{first_pieces, link_pieces, worker_pieces, main_pieces}
use Rattle.workload.proofs.Lexed.{chain_tokens, worker_tokens, main_tokens, worker_place, main_place, program_tokens}
use Rattle.workload.proofs.Items.{link_item, link_places, worker_item, worker_places, main_item, main_places, chain_items, program_items}

-- behind each line the machine stands where it began
first_run : (end at : ℕ) (more : List Token) → run end start (tokens_of at first_pieces more) ≡ run end start more
unfolding run
first_run end at more = refl

link_run : (i m end at : ℕ) (more : List Token) → run end start (tokens_of at (link_pieces i m) more) ≡ run end start more
unfolding run
link_run i m end at more = refl

worker_run : (n end at : ℕ) (more : List Token) → run end start (tokens_of at (worker_pieces n) more) ≡ run end start more
unfolding run
worker_run n end at more = refl

main_run : (n end at : ℕ) (more : List Token) → run end start (tokens_of at (main_pieces n) more) ≡ run end start more
unfolding run
main_run n end at more = refl

nothing_run : (end : ℕ) → run end start [] ≡ None
unfolding run
nothing_run end = refl

chain_run : (m end : ℕ) (more : List Token) → run end start (chain_tokens m more) ≡ run end start more
chain_run zero end more = first_run end 0 more
chain_run (suc m) end more = chain_run m end (tokens_of _ (link_pieces (suc m) m) more) ∙ link_run (suc m) m end _ more

pub program_within : (n : ℕ) → IsWithin (program_tokens n)
program_within n =
    let read : run 0 start (program_tokens n) ≡ None =
    chain_run n 0 (worker_tokens n) ∙ worker_run n 0 (worker_place n) (main_tokens n) ∙ main_run n 0 (main_place n) [] ∙ nothing_run 0 in
    subst (Verdict 0 (program_tokens n)) read (run_is_verdict 0 (program_tokens n))

chain_none_nested : (m : ℕ) (items : List RawItemTree) → nested_in_items items ≡ None → nested_in_items (chain_items m items) ≡ None
chain_none_nested zero items none = none
chain_none_nested (suc m) items none = chain_none_nested m (link_item (link_places m) (suc m) m ∷ items) none

pub program_none_nested : (n : ℕ) → nested_in_items (program_items n) ≡ None
program_none_nested n = chain_none_nested n (worker_item (worker_places n) n ∷ main_item (main_places n) n ∷ []) refl
