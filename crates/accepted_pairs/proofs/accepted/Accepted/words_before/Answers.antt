use Rattle.accepted_pairs.proofs.Common.{◌≡◌, ◌<◌, length, sym, subst, Some, slice_get, lowered, program_tree, Acceptance, AreWordsBefore}
use Rattle.std.proofs.lemmas.Option.{slice_get_read}
use Rattle.accepted_pairs.proofs.accepted.Accepted.words_before.Goals as goal

pub returns : goal.returns
returns c =
    let a = c.self.inside in
    let code = lowered (program_tree a.program) in
    let there : c.args.function < length code.functions = subst (λ (v : Acceptance). c.args.function < length (lowered (program_tree v.program)).functions) (sym c.self.view_is) c.requires in
    let lists = c.self.invariant.2.before in
    let read : slice_get a.lists.before.items c.args.function ≡ Some c.index.result.now =
    slice_get_read a.lists.before.items (length code.functions) c.args.function c.index.result.now (sym lists.count) there c.index.ensures in
    let words : AreWordsBefore code a.certificate c.args.function c.as_slice.result.now =
    subst (AreWordsBefore code a.certificate c.args.function) (sym c.as_slice.ensures.value) (lists.each c.args.function c.index.result.now read) in
    subst (λ (v : Acceptance). AreWordsBefore (lowered (program_tree v.program)) v.certificate c.args.function c.as_slice.result.now) c.self.view_is words
