use Rattle.accepted_pairs.proofs.Common.{◌≡◌, ◌∙◌, ℕ, ◌-◌, ◌/◌, sym, subst, arith, slice_index, lowered, program_tree, get_or_default, Acceptance, StandsIn}
use Rattle.accepted_pairs.proofs.CodeListLemmas.{place_in_code, named_at}
use Rattle.accepted_pairs.proofs.accepted.Accepted.function_at.Goals as goal

pub overflow_sub-address : goal.overflow_sub-address
overflow_sub-address c =
    let a = c.self.inside in
    let there : (f : ℕ) × StandsIn a.certificate c.args.address f = subst (λ (v : Acceptance). (f : ℕ) × StandsIn v.certificate c.args.address f) (sym c.self.view_is) c.requires in
    (place_in_code (lowered (program_tree a.program)) a.image a.certificate c.args.address there.0 c.self.invariant.1 there.1).0

pub index-requires : goal.index-requires
index-requires c =
    let a = c.self.inside in
    let there : (f : ℕ) × StandsIn a.certificate c.args.address f = subst (λ (v : Acceptance). (f : ℕ) × StandsIn v.certificate c.args.address f) (sym c.self.view_is) c.requires in
    let place = place_in_code (lowered (program_tree a.program)) a.image a.certificate c.args.address there.0 c.self.invariant.1 there.1 in
    omega (arith, place.1, c.self.invariant.2.count)

pub returns : goal.returns
returns c =
    let a = c.self.inside in
    let there : (f : ℕ) × StandsIn a.certificate c.args.address f = subst (λ (v : Acceptance). (f : ℕ) × StandsIn v.certificate c.args.address f) (sym c.self.view_is) c.requires in
    let named = named_at (lowered (program_tree a.program)) a.image a.certificate a.lists.functions.items c.args.address there.0 c.self.invariant.1 c.self.invariant.2.functions there.1 in
    let place = place_in_code (lowered (program_tree a.program)) a.image a.certificate c.args.address there.0 c.self.invariant.1 there.1 in
    let read : slice_index a.lists.functions.items ((c.args.address - 0x1000) / 4) ≡ c.index.result.now =
    get_or_default a.lists.functions.items ((c.args.address - 0x1000) / 4) 0 c.index.result.now (omega (arith, place.1, c.self.invariant.2.count)) ∙ sym c.index.ensures in
    subst (λ (v : Acceptance). StandsIn v.certificate c.args.address c.index.result.now) c.self.view_is (subst (StandsIn a.certificate c.args.address) read named)
