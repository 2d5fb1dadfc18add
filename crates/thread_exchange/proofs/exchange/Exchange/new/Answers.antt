use Rattle.std.proofs.Common.{◌≡◌, ap, arith, refl, ◌∙◌, [], length, slice_index, replicate, rules}
use Rattle.std.proofs.lemmas.List.{get_or-replicate}
use Rattle.std.proofs.lemmas.List.Elements.{All-replicate}
use Rattle.circular_buffer.specs.Buffer.{buffer}
use Rattle.thread_exchange.proofs.exchange.Exchange.new.Goals as goal

pub invariant_of-result : goal.invariant_of-result
invariant_of-result c = record {
  cap_count = search rules;
  use_count = refl;
  arrivals = ap (λ b. b.capacity) c.in_ok-arrivals.ensures;
  channels = rw c.in_ok-channels.ensures (All-replicate (λ queue. queue.capacity ≡ c.args.backlog) 64 (buffer [] c.args.backlog) refl);
  count = ap length c.in_ok-channels.ensures ∙ refl;
  within = λ r h. let e : slice_index (replicate 8 0) r ≡ 0 = get_or-replicate 8 r 0 0 h in omega (arith, e);
}
