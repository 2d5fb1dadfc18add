use Rattle.segment_run.proofs.Common.{◌-◌, Some, sym, ap, ◌∙◌, arith, Areas, InPayload, payload_spot, spot_of, areas_of}
use Rattle.segment_run.proofs.Spots.{AreFew, spot_of-high, payload_spot-in, payload_spot-header}
use Rattle.segment_run.proofs.areas.Areas.payload_spot.Goals as goal

pub returns-in-None-clause-spot : goal.returns-in-None-clause-spot
returns-in-None-clause-spot c =
    let old = areas_of c.self.inside in
    let few : AreFew old = record { globals = c.self.invariant.globals; tables = c.self.invariant.tables } in
    sym (ap (λ (a : Areas). spot_of a c.args.address) (sym c.self.view_is)
    ∙ spot_of-high old c.args.address few c.requires
    ∙ ap (payload_spot old.pool c.args.address) (sym c.in-None.ensures.value))

pub returns-then-offset-lt-HEADER-clause-spot : goal.returns-then-offset-lt-HEADER-clause-spot
returns-then-offset-lt-HEADER-clause-spot c =
    let old = areas_of c.self.inside in
    let few : AreFew old = record { globals = c.self.invariant.globals; tables = c.self.invariant.tables } in
    sym (ap (λ (a : Areas). spot_of a c.args.address) (sym c.self.view_is)
    ∙ spot_of-high old c.args.address few c.requires
    ∙ ap (payload_spot old.pool c.args.address) (sym c.in-Some.ensures.value)
    ∙ payload_spot-header old.pool c.args.address c.in-Some.chunk (omega (arith, c.place_of.ensures.place, c.if-offset-lt-HEADER.true)))

pub returns-else-offset-lt-HEADER-clause-spot : goal.returns-else-offset-lt-HEADER-clause-spot
returns-else-offset-lt-HEADER-clause-spot c =
    let old = areas_of c.self.inside in
    let few : AreFew old = record { globals = c.self.invariant.globals; tables = c.self.invariant.tables } in
    sym (ap (λ (a : Areas). spot_of a c.args.address) (sym c.self.view_is)
    ∙ spot_of-high old c.args.address few c.requires
    ∙ ap (payload_spot old.pool c.args.address) (sym c.in-Some.ensures.value)
    ∙ payload_spot-in old.pool c.args.address c.in-Some.chunk (omega (arith, c.place_of.ensures.place, c.if-offset-lt-HEADER.false, c.in-Some.ensures.holds))
    ∙ ap (λ place. Some (InPayload c.in-Some.chunk (c.args.address - place))) (sym c.place_of.ensures.place))
