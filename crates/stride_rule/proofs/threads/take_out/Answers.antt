use Rattle.stride_rule.proofs.Common.{◌∙◌, ap, None, length-set, clients_of, needs_in}
use Rattle.stride_rule.proofs.ClientLemmas.{without-absent}
use Rattle.stride_rule.proofs.LevelLemmas.{levels_but}
use Rattle.stride_rule.proofs.RowLemmas.{absent_rows, clients_emptied, needs-absent, needs_emptied}
use Rattle.stride_rule.proofs.threads.take_out.Goals as goal

pub returns-in-Some-clause-clients : goal.returns-in-Some-clause-clients
returns-in-Some-clause-clients c =
    ap clients_of c.empty_at.ensures ∙ clients_emptied c.args.thread.number c.args.places.now.items c.in-Some.place c.requires.once (rw c.as_slice.ensures.value at c.in-Some.ensures).there (rw c.as_slice.ensures.value at c.in-Some.ensures).its

pub returns-in-Some-clause-needs : goal.returns-in-Some-clause-needs
returns-in-Some-clause-needs c =
    ap needs_in c.empty_at.ensures ∙ needs_emptied c.args.thread.number c.args.places.now.items c.in-Some.place c.requires.once (rw c.as_slice.ensures.value at c.in-Some.ensures).there (rw c.as_slice.ensures.value at c.in-Some.ensures).its

pub returns-in_default-clause-clients : goal.returns-in_default-clause-clients
returns-in_default-clause-clients c =
    without-absent c.args.thread.number (clients_of c.args.places.now.items) (absent_rows c.args.thread.number c.args.places.now.items (rw (c.in_default.is, c.as_slice.ensures.value) at c.place_of.ensures))

pub returns-in_default-clause-needs : goal.returns-in_default-clause-needs
returns-in_default-clause-needs c =
    needs-absent c.args.thread.number c.args.places.now.items (absent_rows c.args.thread.number c.args.places.now.items (rw (c.in_default.is, c.as_slice.ensures.value) at c.place_of.ensures))

pub renew-requires : goal.renew-requires
renew-requires c =
    let its = rw c.as_slice.ensures.value at c.in-Some.ensures in
    record {
      there = rw (c.as_slice-in-Some.ensures.value, c.empty_at.ensures, length-set c.args.places.now.items c.in-Some.place None) its.there;
      but = rw (c.as_slice-in-Some.ensures.value, c.empty_at.ensures) (levels_but c.args.levels.now c.args.places.now.items c.in-Some.place None c.requires.levels);
    }
