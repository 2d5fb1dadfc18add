use Rattle.segment_run.proofs.Common.{◌≡◌, ◌-◌, ap, subst, ◌∙◌, arith, place_of, Areas, AreKept}
use Rattle.segment_run.proofs.Spots.{AreFew, found_in_payload, found_in_tables, from_globals, found_in_globals}
use Rattle.segment_run.proofs.areas.Areas.spot_on.Goals as goal

pub overflow_sub-result-else-address-ge-TABLES : goal.overflow_sub-result-else-address-ge-TABLES
overflow_sub-result-else-address-ge-TABLES c = from_globals c.args.self.now c.args.address c.requires.0 c.requires.1

pub returns-then-address-ge-CHUNKS-clause-spot : goal.returns-then-address-ge-CHUNKS-clause-spot
returns-then-address-ge-CHUNKS-clause-spot c =
    let now = c.args.self.now in
    let kept = subst AreKept c.self.view_is c.self.invariant in
    let few : AreFew now = record { globals = kept.globals; tables = kept.tables } in
    let has = c.chunk_with-chunk.ensures.has in
    let place : c.place_of.result ≡ place_of now.pool c.chunk_with-chunk.result =
    c.place_of.ensures.place ∙ ap (λ (a : Areas). place_of a.pool c.chunk_with-chunk.result) c.self.view_is in
    (found_in_payload now c.args.address c.chunk_with-chunk.result (c.args.address - c.place_of.result) few has c.chunk_with-chunk.ensures.behind (omega (arith, place, has.1))).is

pub returns-then-address-ge-TABLES-clause-on : goal.returns-then-address-ge-TABLES-clause-on
returns-then-address-ge-TABLES-clause-on c =
    let kept = subst AreKept c.self.view_is c.self.invariant in
    let few : AreFew c.args.self.now = record { globals = kept.globals; tables = kept.tables } in
    (found_in_tables c.args.self.now c.args.address c.requires.0 few c.if-address-ge-TABLES.true c.if-address-ge-CHUNKS.false c.requires.1).on

pub returns-then-address-ge-TABLES-clause-spot : goal.returns-then-address-ge-TABLES-clause-spot
returns-then-address-ge-TABLES-clause-spot c =
    let kept = subst AreKept c.self.view_is c.self.invariant in
    let few : AreFew c.args.self.now = record { globals = kept.globals; tables = kept.tables } in
    (found_in_tables c.args.self.now c.args.address c.requires.0 few c.if-address-ge-TABLES.true c.if-address-ge-CHUNKS.false c.requires.1).is

pub returns-else-address-ge-TABLES-clause-on : goal.returns-else-address-ge-TABLES-clause-on
returns-else-address-ge-TABLES-clause-on c =
    (found_in_globals c.args.self.now c.args.address c.requires.0 c.if-address-ge-TABLES.false c.requires.1).on

pub returns-else-address-ge-TABLES-clause-spot : goal.returns-else-address-ge-TABLES-clause-spot
returns-else-address-ge-TABLES-clause-spot c =
    (found_in_globals c.args.self.now c.args.address c.requires.0 c.if-address-ge-TABLES.false c.requires.1).is
