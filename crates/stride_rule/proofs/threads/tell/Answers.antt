use Rattle.stride_rule.proofs.Common.{◌≡◌, ◌∙◌, false, true, ap, None, length-set, IsSome, Client, client_of, clients_of, needs_in, row_at, row_told}
use Rattle.stride_rule.proofs.LevelLemmas.{levels_but}
use Rattle.stride_rule.proofs.RowLemmas.{absent_rows, client-absent, clients_told, needs_told}
use Rattle.stride_rule.proofs.threads.tell.Goals as goal

pub returns-in-Some-clause-clients : goal.returns-in-Some-clause-clients
returns-in-Some-clause-clients c = ap clients_of c.tell_at.ensures ∙ clients_told c.args.need c.args.places.now.items c.in-Some.place

pub returns-in-Some-clause-needs : goal.returns-in-Some-clause-needs
returns-in-Some-clause-needs c =
    ap needs_in c.tell_at.ensures ∙ needs_told c.args.thread.number c.args.need c.args.places.now.items c.in-Some.place c.requires.once (rw c.as_slice.ensures.value at c.in-Some.ensures).there (rw c.as_slice.ensures.value at c.in-Some.ensures).its

pub returns-in_default-clause-needs : goal.returns-in_default-clause-needs
returns-in_default-clause-needs c =
    let absent = absent_rows c.args.thread.number c.args.places.now.items (rw (c.in_default.is, c.as_slice.ensures.value) at c.place_of.ensures) in
    let none : client_of c.args.thread.number (clients_of c.args.places.now.items) ≡ None = client-absent c.args.thread.number (clients_of c.args.places.now.items) absent in
    let some : IsSome {T = Client} None = rw none at c.requires.there in
    absurd (let no : false ≡ true = some in cc)

pub renew-requires : goal.renew-requires
renew-requires c =
    let its = rw c.as_slice.ensures.value at c.in-Some.ensures in
    let row = row_told c.args.need (row_at c.args.places.now.items c.in-Some.place) in
    record {
      there = rw (c.as_slice-in-Some.ensures.value, c.tell_at.ensures, length-set c.args.places.now.items c.in-Some.place row) its.there;
      but = rw (c.as_slice-in-Some.ensures.value, c.tell_at.ensures) (levels_but c.args.levels.now c.args.places.now.items c.in-Some.place row c.requires.levels);
    }
