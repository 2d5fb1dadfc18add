use Rattle.source_runs.proofs.Common.{ap, sym, refl, err_from_is_err_and, expr_tree, scoped_in_range, Goes, context_at, tree_of}
use Rattle.source_runs.proofs.Functions.{globals-there}
use Rattle.source_runs.proofs.interpreter.Interpreter.perform_simple.Goals as goal

pub clear-requires-clause-named : goal.clear-requires-clause-named
clear-requires-clause-named c = let h = rw c.in-DeclareScalar.is at c.requires.scoped in h.scoped.0

pub clear-requires-in-DeclareArray-clause-named : goal.clear-requires-in-DeclareArray-clause-named
clear-requires-in-DeclareArray-clause-named c = let h = rw c.in-DeclareArray.is at c.requires.scoped in h.scoped.0

pub returns-in-DeclareScalar : goal.returns-in-DeclareScalar
returns-in-DeclareScalar c =
    let words = c.args.globals.now.items in
    rw c.in-DeclareScalar.is (ap Goes (sym (c.clear.ensures.cleared words)), c.clear.ensures.thread words c.requires.thread)

pub returns-in-DeclareArray : goal.returns-in-DeclareArray
returns-in-DeclareArray c =
    let words = c.args.globals.now.items in
    let cleared = c.clear-in-DeclareArray.ensures in
    rw c.in-DeclareArray.is (ap Goes (sym (cleared.cleared words)), cleared.thread words c.requires.thread)

pub assign-requires-clause-place : goal.assign-requires-clause-place
assign-requires-clause-place c = let h = rw c.in-DeclareWith.is at c.requires.scoped in (h.scoped.0, h.scoped.1)

pub assign-requires-clause-scoped : goal.assign-requires-clause-scoped
assign-requires-clause-scoped c = let h = rw c.in-DeclareWith.is at c.requires.scoped in record { scope = h.scope; scoped = h.scoped.2 }

pub assign-requires-in-SetLocal-clause-place : goal.assign-requires-in-SetLocal-clause-place
assign-requires-in-SetLocal-clause-place c = let h = rw c.in-SetLocal.is at c.requires.scoped in (h.scoped.0, h.scoped.1)

pub assign-requires-in-SetLocal-clause-scoped : goal.assign-requires-in-SetLocal-clause-scoped
assign-requires-in-SetLocal-clause-scoped c = let h = rw c.in-SetLocal.is at c.requires.scoped in record { scope = h.scope; scoped = h.scoped.3 }

pub assign-requires-in-SetGlobal-clause-place : goal.assign-requires-in-SetGlobal-clause-place
assign-requires-in-SetGlobal-clause-place c = let h = rw c.in-SetGlobal.is at c.requires.scoped in (globals-there (tree_of c.args.self.now) _ h.scoped.0, h.scoped.1)

pub assign-requires-in-SetGlobal-clause-scoped : goal.assign-requires-in-SetGlobal-clause-scoped
assign-requires-in-SetGlobal-clause-scoped c = let h = rw c.in-SetGlobal.is at c.requires.scoped in record { scope = h.scope; scoped = h.scoped.2 }

pub assign-requires-in-SetLocalElement-clause-place : goal.assign-requires-in-SetLocalElement-clause-place
assign-requires-in-SetLocalElement-clause-place c = let h = rw c.in-SetLocalElement.is at c.requires.scoped in h.scoped.0

pub assign-requires-in-SetLocalElement-clause-scoped : goal.assign-requires-in-SetLocalElement-clause-scoped
assign-requires-in-SetLocalElement-clause-scoped c = let h = rw c.in-SetLocalElement.is at c.requires.scoped in record { scope = h.scope; scoped = rw c.deref-in-SetLocalElement.ensures h.scoped.3 }

pub assign-requires-in-SetGlobalElement-clause-place : goal.assign-requires-in-SetGlobalElement-clause-place
assign-requires-in-SetGlobalElement-clause-place c = let h = rw c.in-SetGlobalElement.is at c.requires.scoped in globals-there (tree_of c.args.self.now) _ h.scoped.0

pub assign-requires-in-SetGlobalElement-clause-scoped : goal.assign-requires-in-SetGlobalElement-clause-scoped
assign-requires-in-SetGlobalElement-clause-scoped c = let h = rw c.in-SetGlobalElement.is at c.requires.scoped in record { scope = h.scope; scoped = rw c.deref-in-SetGlobalElement-2.ensures h.scoped.2 }

pub returns-in-DeclareWith : goal.returns-in-DeclareWith
returns-in-DeclareWith c = rw c.in-DeclareWith.is c.assign.ensures

pub returns-in-SetLocal : goal.returns-in-SetLocal
returns-in-SetLocal c = rw c.in-SetLocal.is c.assign-in-SetLocal.ensures

pub returns-in-SetGlobal : goal.returns-in-SetGlobal
returns-in-SetGlobal c = rw c.in-SetGlobal.is c.assign-in-SetGlobal.ensures

pub value-requires-clause-in_range : goal.value-requires-clause-in_range
value-requires-clause-in_range c = let h = rw c.in-SetLocalElement.is at c.requires.scoped in rw c.deref.ensures (scoped_in_range (context_at (tree_of c.args.self.now) c.args.thread.now.front.function) h.scope (expr_tree c.in-SetLocalElement.index.value) h.scoped.2)

pub value-requires-in-SetGlobalElement-clause-in_range : goal.value-requires-in-SetGlobalElement-clause-in_range
value-requires-in-SetGlobalElement-clause-in_range c = let h = rw c.in-SetGlobalElement.is at c.requires.scoped in rw c.deref-in-SetGlobalElement.ensures (scoped_in_range (context_at (tree_of c.args.self.now) c.args.thread.now.front.function) h.scope (expr_tree c.in-SetGlobalElement.index.value) h.scoped.1)

pub returns-in_err-index-in-SetLocalElement : goal.returns-in_err-index-in-SetLocalElement
returns-in_err-index-in-SetLocalElement c =
    let p = err_from_is_err_and c.from_residual.result c.from_residual.ensures.1 in
    rw (c.in-SetLocalElement.is, p.1, p.2, ← c.deref.ensures, ← c.in_err-index-in-SetLocalElement.ensures) refl

pub returns-in_ok-index-in-SetLocalElement : goal.returns-in_ok-index-in-SetLocalElement
returns-in_ok-index-in-SetLocalElement c =
    rw (c.in-SetLocalElement.is, ← c.deref.ensures, ← c.in_ok-index-in-SetLocalElement.ensures, ← c.deref-in-SetLocalElement.ensures)
    c.assign-in-SetLocalElement.ensures

pub returns-in_err-index-in-SetGlobalElement : goal.returns-in_err-index-in-SetGlobalElement
returns-in_err-index-in-SetGlobalElement c =
    let p = err_from_is_err_and c.from_residual-in_err-index-in-SetGlobalElement.result c.from_residual-in_err-index-in-SetGlobalElement.ensures.1 in
    rw (c.in-SetGlobalElement.is, p.1, p.2, ← c.deref-in-SetGlobalElement.ensures, ← c.in_err-index-in-SetGlobalElement.ensures) refl

pub returns-in_ok-index-in-SetGlobalElement : goal.returns-in_ok-index-in-SetGlobalElement
returns-in_ok-index-in-SetGlobalElement c =
    rw (c.in-SetGlobalElement.is, ← c.deref-in-SetGlobalElement.ensures, ← c.in_ok-index-in-SetGlobalElement.ensures)
    (rw (← c.deref-in-SetGlobalElement-2.ensures) c.assign-in-SetGlobalElement.ensures)

pub call-requires-clause-scoped : goal.call-requires-clause-scoped
call-requires-clause-scoped c = let h = rw c.in-Call.is at c.requires.scoped in record { scope = h.scope; scoped = h.scoped }

pub returns-in-Call : goal.returns-in-Call
returns-in-Call c = rw c.in-Call.is c.call.ensures
