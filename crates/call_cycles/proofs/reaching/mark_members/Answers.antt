use Rattle.call_cycles.proofs.Common.{◌≡◌, true, arith, rules, common_steps, has, members_of, program_code, Marks}
use Rattle.call_cycles.proofs.MarkLemmas.{marks-none, seen-more}
use Rattle.call_cycles.proofs.reaching.mark_members.Goals as goal

pub returns-then-seen-table-clause-marked : goal.returns-then-seen-table-clause-marked
returns-then-seen-table-clause-marked c =
    marks-none (λ g. has g (members_of (program_code c.args.flat.now) c.args.table) ≡ true) c.args.marks.now c.args.left.now.items (λ g h. c.requires.seen.members c.args.table g c.if-seen-table.true h)

pub returns-clause-seen : goal.returns-clause-seen
returns-clause-seen c =
    let members : Marks (λ g. has g (members_of (program_code c.args.flat.now) c.args.table) ≡ true) c.args.marks.now c.args.left.now.items c.mark_each.new.marks c.mark_each.new.left.items =
    first_of (search rules, grind (arith, common_steps)) in
    seen-more (program_code c.args.flat.now) c.args.table c.args.marks.now c.args.left.now.items c.mark_each.new.marks c.mark_each.new.left.items c.args.seen.now members c.requires.seen
