use Rattle.segment_run.proofs.Common.{length, ap, subst, sym, arith, Areas, AreKept}
use Rattle.segment_run.proofs.Spots.{AreFew, spot_of-in_tables, spot_of-past_tables, spot_of-in_globals, spot_of-past_globals, spot_of-below}
use Rattle.segment_run.proofs.areas.Areas.spot.Goals as goal

pub returns-then-offset-len-clause-spot : goal.returns-then-offset-len-clause-spot
returns-then-offset-len-clause-spot c =
    let same = ap (λ (a : Areas). length a.tables) c.self.view_is in
    let kept : AreKept c.args.self.now = subst AreKept c.self.view_is c.self.invariant in
    let few : AreFew c.args.self.now = record { globals = kept.globals; tables = kept.tables } in
    sym (spot_of-in_tables c.args.self.now c.args.address few c.if-address-ge-TABLES.true (omega (arith, c.if-offset-len.true, c.len.ensures, same, c.if-address-ge-TABLES.true)))

pub returns-else-offset-len-clause-spot : goal.returns-else-offset-len-clause-spot
returns-else-offset-len-clause-spot c =
    let same = ap (λ (a : Areas). length a.tables) c.self.view_is in
    let kept : AreKept c.args.self.now = subst AreKept c.self.view_is c.self.invariant in
    let few : AreFew c.args.self.now = record { globals = kept.globals; tables = kept.tables } in
    sym (spot_of-past_tables c.args.self.now c.args.address few (omega (arith, c.if-offset-len.false, c.len.ensures, same, c.if-address-ge-TABLES.true)) c.if-address-ge-CHUNKS.false)

pub returns-then-offset-len-2-clause-spot : goal.returns-then-offset-len-2-clause-spot
returns-then-offset-len-2-clause-spot c =
    let same = ap (λ (a : Areas). length a.globals) c.self.view_is in
    sym (spot_of-in_globals c.args.self.now c.args.address c.if-address-ge-GLOBALS.true (omega (arith, c.if-offset-len-2.true, c.len-then-address-ge-GLOBALS.ensures, same, c.if-address-ge-GLOBALS.true)))

pub returns-else-offset-len-2-clause-spot : goal.returns-else-offset-len-2-clause-spot
returns-else-offset-len-2-clause-spot c =
    let same = ap (λ (a : Areas). length a.globals) c.self.view_is in
    sym (spot_of-past_globals c.args.self.now c.args.address (omega (arith, c.if-offset-len-2.false, c.len-then-address-ge-GLOBALS.ensures, same, c.if-address-ge-GLOBALS.true)) c.if-address-ge-TABLES.false)

pub returns-else-address-ge-GLOBALS-clause-spot : goal.returns-else-address-ge-GLOBALS-clause-spot
returns-else-address-ge-GLOBALS-clause-spot c = sym (spot_of-below c.args.self.now c.args.address c.if-address-ge-GLOBALS.false)
