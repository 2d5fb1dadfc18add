use Rattle.std.proofs.lemmas.Fn.{filter_same}
use Rattle.ready_tree.proofs.Common.{rules, ap, arith, ◌∙◌, ◌≡◌, length, entries_of, is_taken}
use Rattle.ready_tree.proofs.PlaceLaws.{entries_gathered, full_gathered}
use Rattle.ready_tree.proofs.places.gather.Goals as goal

pub rebuild-requires-clause-room : goal.rebuild-requires-clause-room
rebuild-requires-clause-room c = λ some.
    let gone : length c.retain.new.self.items ≡ length (entries_of c.args.places.now.items) =
    ap length (filter_same _ is_taken _ (λ x b f' k. search rules) _ _ c.retain.ensures.filtered) ∙ full_gathered c.args.places.now.items in
    let here : length c.deref.result.now ≡ length c.retain.new.self.items = ap length c.deref.ensures.value in
    let size : length c.deref_mut.result.now ≡ c.len-count.result = c.deref_mut.ensures.len ∙ c.in_ok-resize.ensures.len in
    let count : c.len-count.result ≡ length c.args.nodes.now.items = c.len-count.ensures ∙ c.args.nodes.now.ok.0 in
    let live = c.requires.live in
    let room = c.requires.room (omega arith) in
    omega arith

pub returns-clause-same : goal.returns-clause-same
returns-clause-same c = ap entries_of (filter_same _ is_taken _ (λ x b f' k. search rules) _ _ c.retain.ensures.filtered) ∙ entries_gathered c.args.places.now.items
