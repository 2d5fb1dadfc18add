use Rattle.segment_run.proofs.Common.{◌≡◌, ◌≤◌, Some, sym, subst, ◌∙◌, HasAddress, payload_place_of, Areas, spot_of, areas_of}
use Rattle.segment_run.proofs.Spots.{AreFew, has_chunk}
use Rattle.segment_run.proofs.areas.Areas.chunk_with.Goals as goal

pub returns-in-Some-clause-has : goal.returns-in-Some-clause-has
returns-in-Some-clause-has c =
    subst (λ (a : Areas). HasAddress a.pool c.in-Some.chunk c.args.address) c.self.view_is c.in-Some.ensures.holds

pub returns-in-Some-clause-behind : goal.returns-in-Some-clause-behind
returns-in-Some-clause-behind c =
    let old = areas_of c.self.inside in
    let few : AreFew old = record { globals = c.self.invariant.globals; tables = c.self.invariant.tables } in
    let found = has_chunk old c.args.address c.requires.there.0 few c.requires.high (subst (λ (a : Areas). spot_of a c.args.address ≡ Some c.requires.there.0) (sym c.self.view_is) c.requires.there.1) in
    let both = c.in-Some.ensures.value ∙ found.1 in
    let same : found.0 ≡ c.in-Some.chunk = cc in
    subst (λ (a : Areas). payload_place_of a.pool c.in-Some.chunk ≤ c.args.address) c.self.view_is
    (subst (λ (k : _). payload_place_of old.pool k ≤ c.args.address) same found.2)

pub returns-in-None-clause-has : goal.returns-in-None-clause-has
returns-in-None-clause-has c =
    let old = areas_of c.self.inside in
    let few : AreFew old = record { globals = c.self.invariant.globals; tables = c.self.invariant.tables } in
    let found = has_chunk old c.args.address c.requires.there.0 few c.requires.high (subst (λ (a : Areas). spot_of a c.args.address ≡ Some c.requires.there.0) (sym c.self.view_is) c.requires.there.1) in
    absurd (let both = c.in-None.ensures.value ∙ found.1 in cc)

pub returns-in-None-clause-behind : goal.returns-in-None-clause-behind
returns-in-None-clause-behind c =
    let old = areas_of c.self.inside in
    let few : AreFew old = record { globals = c.self.invariant.globals; tables = c.self.invariant.tables } in
    let found = has_chunk old c.args.address c.requires.there.0 few c.requires.high (subst (λ (a : Areas). spot_of a c.args.address ≡ Some c.requires.there.0) (sym c.self.view_is) c.requires.there.1) in
    absurd (let both = c.in-None.ensures.value ∙ found.1 in cc)
