use Rattle.decoded_code.proofs.Common.{◌≡◌, ℕ, length, sym, ap, subst, ◌∙◌, arith, AreEachReady, AreReady}
use Rattle.decoded_code.proofs.Groups.{whole}
use Rattle.cap_word.specs.Word.{add}
use Rattle.decoded_code.proofs.MoreReady.{one_more}
use Rattle.decoded_code.proofs.lists.ready_all.Goals as goal

pub loop-word-preserved : goal.loop-word-preserved
unfolding add
loop-word-preserved c = (
  one_more c.args.words.now c.loop-word.word-index c.loop-word.place c.loop-word.ready.items c.push.new.self.items c.ready_at.result c.decode.result
      c.loop-word.invariant.0 c.loop-word.invariant.1 c.in_ok-push.ensures.items c.decode.ensures.row c.ready_at.ensures,
  omega (arith, c.add-place.ensures, c.loop-word.invariant.1),
)

pub returns : goal.returns
returns c =
    let words = c.args.words.now in
    let n = length words in
    let items = c.loop-word.ready.items in
    let new = c.group_all.new.ready in
    let last : c.loop-word.word-index ≡ n = omega (arith, c.loop-word-test.false, c.loop-word.auto.word-index-end) in
    let each : AreEachReady words n c.as_mut_slice.result.now =
    subst (AreEachReady words n) (sym c.as_mut_slice.ensures.value) (subst (λ (k : ℕ). AreEachReady words k items) last c.loop-word.invariant.0) in
    let are : AreReady words n new = c.group_all.ensures words n each in
    let old_count : length items ≡ n = ap length (sym c.as_mut_slice.ensures.value) ∙ each.count_is in
    subst (AreReady words n) (sym (whole new items c.loop-word.ready.len (are.count_is ∙ sym old_count) (sym c.as_mut_slice.ensures.len ∙ ap length c.as_mut_slice.ensures.value))) are
