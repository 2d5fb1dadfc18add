use Rattle.stride_rule.proofs.Common.{◌∙◌, ap, sym, clients_of, needs_in}
use Rattle.stride_rule.proofs.ClientLemmas.{grown-absent, pass-absent}
use Rattle.stride_rule.proofs.LevelLemmas.{levels_grown}
use Rattle.stride_rule.proofs.RowLemmas.{absent_rows, clients_grown_at, needs_grown, pass_row}
use Rattle.stride_rule.proofs.threads.grow.Goals as goal

pub returns-in-Some-clause-pass : goal.returns-in-Some-clause-pass
returns-in-Some-clause-pass c = c.grow_at.ensures.pass ∙ pass_row c.args.thread.number c.args.places.now.items c.in-Some.place c.requires.once (rw c.as_slice.ensures.value at c.in-Some.ensures).there (rw c.as_slice.ensures.value at c.in-Some.ensures).its

pub returns-in-Some-clause-grown : goal.returns-in-Some-clause-grown
returns-in-Some-clause-grown c =
    ap clients_of c.grow_at.ensures.grown ∙ clients_grown_at c.args.thread.number c.args.places.now.items c.in-Some.place c.requires.once (rw c.as_slice.ensures.value at c.in-Some.ensures).there (rw c.as_slice.ensures.value at c.in-Some.ensures).its

pub returns-in-Some-clause-needs : goal.returns-in-Some-clause-needs
returns-in-Some-clause-needs c = ap needs_in c.grow_at.ensures.grown ∙ needs_grown c.args.places.now.items c.in-Some.place

pub returns-in-None-clause-pass : goal.returns-in-None-clause-pass
returns-in-None-clause-pass c = sym (pass-absent c.args.thread.number (clients_of c.args.places.now.items) (absent_rows c.args.thread.number c.args.places.now.items (rw c.as_slice.ensures.value at c.in-None.ensures)))

pub returns-in-None-clause-grown : goal.returns-in-None-clause-grown
returns-in-None-clause-grown c = grown-absent c.args.thread.number (clients_of c.args.places.now.items) (absent_rows c.args.thread.number c.args.places.now.items (rw c.as_slice.ensures.value at c.in-None.ensures))

pub returns-in-Some-clause-levels : goal.returns-in-Some-clause-levels
returns-in-Some-clause-levels c = λ levels are.
    rw c.grow_at.ensures.grown
    (levels_grown levels c.args.places.now.items c.in-Some.place (rw c.as_slice.ensures.value at c.in-Some.ensures).there are)
