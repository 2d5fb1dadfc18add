use Rattle.std.proofs.Common.{◌-◌, length, arith, None}
use Rattle.certificate_text.proofs.Causes.{sites_break}
use Rattle.certificate_text.proofs.Otherwise.{no_site, other_site}
use Rattle.certificate_text.proofs.Passing.{last_number}
use Rattle.certificate_text.proofs.Rising.{one_site_more}
use Rattle.certificate_text.proofs.reading.read_sites.Goals as goal

pub returns-in_default-clause-refused : goal.returns-in_default-clause-refused
returns-in_default-clause-refused c =
    let loop = c.loop-number in
    let facts = loop.facts.items in
    sites_break facts c.args.count c.args.first loop.number c.args.rest.now loop.rest loop.invariant.0 (omega (arith, loop.invariant.0, c.loop-number-test.true)) loop.invariant.1 loop.invariant.2 loop.invariant.3
    (no_site (c.args.count - length facts) (last_number None facts) loop.rest (omega (arith, loop.invariant.0, c.loop-number-test.true)) c.in_default.ensures.none)

pub returns-in_default-read_site-clause-refused : goal.returns-in_default-read_site-clause-refused
returns-in_default-read_site-clause-refused c =
    let loop = c.loop-number in
    let facts = loop.facts.items in
    sites_break facts c.args.count c.args.first loop.number c.args.rest.now loop.rest loop.invariant.0 (omega (arith, loop.invariant.0, c.loop-number-test.true)) loop.invariant.1 loop.invariant.2 loop.invariant.3
    (other_site (c.args.count - length facts) (last_number None facts) loop.rest c.in-Some.line.now c.next_line.new.self (omega (arith, loop.invariant.0, c.loop-number-test.true)) c.in-Some.ensures.line.0
    c.in-Some.ensures.line.1 (rw loop.invariant.4 at c.in_default-read_site.ensures.none))

pub loop-number-preserved : goal.loop-number-preserved
loop-number-preserved c =
    let loop = c.loop-number in
    let found = c.in-Some-read_site.ensures.found in
    rw c.in_ok-push.ensures.items (one_site_more c.args.first loop.number c.args.rest.now loop.rest c.next_line.new.self c.in-Some.line.now loop.last loop.facts.items c.in-Some-read_site.fact
    loop.invariant.0 loop.invariant.1 loop.invariant.2 loop.invariant.3 loop.invariant.4 c.in-Some.ensures.line.0 found.0 found.1 found.2)
