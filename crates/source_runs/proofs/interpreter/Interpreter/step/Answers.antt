use Rattle.source_runs.proofs.Common.{refl, Ok, item_of, context_at, tree_of, running_of, Thread}
use Rattle.source_runs.proofs.Moved.{front-with, made-so, step-fails, step-gives, step-item, step-none}
use Rattle.source_runs.proofs.interpreter.Interpreter.step.Goals as goal

pub perform-requires-clause-item : goal.perform-requires-clause-item
perform-requires-clause-item c = (c.in-Some.ensures (context_at (tree_of c.args.self.now) c.args.thread.now.front.function) c.requires.thread.front.items).1

pub perform-requires-clause-thread : goal.perform-requires-clause-thread
perform-requires-clause-thread c =
    let found = c.in-Some.ensures (context_at (tree_of c.args.self.now) c.args.thread.now.front.function) c.requires.thread.front.items in
    front-with _ c.requires.thread _ _ _ refl found.2

pub returns-in-None : goal.returns-in-None
returns-in-None c =
    let thread = c.args.thread.now in
    let words = c.args.globals.now.items in
    let after : Thread = record thread { front = record thread.front { items = c.take_item.new.items } } in
    let none = c.in-None.ensures (context_at (tree_of c.args.self.now) thread.front.function) c.requires.thread.front.items in
    made-so (tree_of c.args.self.now) _ _ c.give_back.new.globals.items c.give_back.new.thread (Ok c.give_back.result)
    (step-none (tree_of c.args.self.now) thread words (running_of (tree_of c.args.self.now) after words) c.in-Items.is none refl) c.give_back.ensures

pub returns-in-Some : goal.returns-in-Some
returns-in-Some c =
    let found = c.in-Some.ensures (context_at (tree_of c.args.self.now) c.args.thread.now.front.function) c.requires.thread.front.items in
    rw (step-item (tree_of c.args.self.now) c.args.thread.now c.args.globals.now.items c.take_item.new.items (item_of c.in-Some.item) c.in-Items.is found.0)
    c.perform.ensures

pub returns-in-GiveBack : goal.returns-in-GiveBack
returns-in-GiveBack c =
    let new = c.give_back-in-GiveBack.new in
    made-so (tree_of c.args.self.now) _ _ new.globals.items new.thread (Ok c.give_back-in-GiveBack.result)
    (step-gives (tree_of c.args.self.now) c.args.thread.now c.args.globals.now.items c.in-GiveBack.word c.in-GiveBack.is) c.give_back-in-GiveBack.ensures

pub returns-in-Fail : goal.returns-in-Fail
returns-in-Fail c = step-fails (tree_of c.args.self.now) c.args.thread.now c.args.globals.now.items c.in-Fail.kind c.in-Fail.is
