use Rattle.std.proofs.Common.{refl, arith}
use Rattle.ready_tree.proofs.NextLaws.{after_end, after_up, reached_right}
use Rattle.ready_tree.proofs.subtrees.Subtree.next.Goals as goal

pub returns-then-node-self-clause-past : goal.returns-then-node-self-clause-past
returns-then-node-self-clause-past c = λ bounds nodes joined reached none. after_end bounds nodes joined c.args.self c.if-node-self.true reached none

pub returns-then-node-eq0-clause-past : goal.returns-then-node-eq0-clause-past
returns-then-node-eq0-clause-past c = λ bounds nodes joined reached none.
    let to = c.requires.to in
    let inner = c.if-node-self.false in
    after_up bounds nodes joined c.args.self (omega arith) c.if-node-eq0.true reached none

pub returns-clause-past : goal.returns-clause-past
returns-clause-past c = λ bounds nodes joined reached none.
    let to = c.requires.to in
    let inner = c.if-node-self.false in
    (refl, reached_right bounds nodes joined c.args.self reached (omega arith) none)
