use Rattle.workload.proofs.Common.{◌≡◌, List, ℕ, ◌++◌, ap, sym, subst, ◌∙◌, ProgramTree, ReadsAs, first_line, worker_line, main_line, program_text}
use Rattle.workload.proofs.Reading.{program_read}
use Rattle.workload.proofs.Written.{chain_begins, program_whole}
use Rattle.workload.proofs.program.make_program.Goals as goal

pub put_links-requires : goal.put_links-requires
put_links-requires c = c.in_ok-put_first.ensures ∙ ap (λ text. text ++ first_line) c.new-text.ensures.items ∙ sym chain_begins

pub returns : goal.returns
returns c =
    let whole : c.put_main.new.text.items ≡ program_text c.args.n =
    c.in_ok-put_main.ensures
    ∙ ap (λ text. text ++ main_line c.args.n) (c.in_ok-put_worker.ensures ∙ ap (λ text. text ++ worker_line c.args.n) c.in_ok-put_links.ensures)
    ∙ program_whole c.args.n in
    let P : List ℕ → Type 0 = λ bytes. (program : ProgramTree) × ReadsAs bytes program in
    record { text = whole; read = subst P (sym whole) (program_read c.args.n c.requires.some c.requires.few) }
