use Rattle.std.proofs.Common.{◌-◌, length, arith}
use Rattle.certificate_text.proofs.Causes.{functions_break}
use Rattle.certificate_text.proofs.Otherwise.{no_function, other_function}
use Rattle.certificate_text.proofs.reading.read_functions.Goals as goal

pub returns-in_default-clause-refused : goal.returns-in_default-clause-refused
returns-in_default-clause-refused c =
    let loop = c.loop-number in
    let facts = loop.facts.items in
    functions_break facts c.args.count loop.number c.args.rest.now loop.rest loop.invariant.0 (omega (arith, loop.invariant.0, c.loop-number-test.true)) loop.invariant.1 loop.invariant.2 loop.invariant.3
    (no_function (c.args.count - length facts) loop.rest c.in_default.ensures.none)

pub returns-in_default-2-clause-refused : goal.returns-in_default-2-clause-refused
returns-in_default-2-clause-refused c =
    let loop = c.loop-number in
    let facts = loop.facts.items in
    functions_break facts c.args.count loop.number c.args.rest.now loop.rest loop.invariant.0 (omega (arith, loop.invariant.0, c.loop-number-test.true)) loop.invariant.1 loop.invariant.2 loop.invariant.3
    (other_function (c.args.count - length facts) loop.rest c.in-Some.line.now c.next_line.new.self (omega (arith, loop.invariant.0, c.loop-number-test.true)) c.in-Some.ensures.line.0 c.in-Some.ensures.line.1
    (rw c.in_default-2.is at c.in_ok-fact.ensures.none))
