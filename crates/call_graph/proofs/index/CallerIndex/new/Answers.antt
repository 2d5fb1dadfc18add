use Rattle.call_graph.proofs.Common.{◌≡◌, ◌<◌, ◌-◌, true, false, not, length, get_or, sym, ap, ◌∙◌, arith, get_or_read, has}
use Rattle.call_graph.proofs.ListLemmas.{all-at}
use Rattle.call_graph.proofs.IndexLemmas.{IsIndexFrom-kept, IsIndexFrom-skipped, no_site}
use Rattle.call_graph.proofs.index.CallerIndex.new.Goals as goal

pub loop-place-preserved-then-not-is_among : goal.loop-place-preserved-then-not-is_among
loop-place-preserved-then-not-is_among c =
    let sites = c.args.sites.now in
    let place = c.loop-place.place in
    let kept : not (has (get_or sites (place - 1) no_site).number c.args.without.now) ≡ true = ap not (sym c.is_among.ensures ∙ c.if-not-is_among.true) in
    let within : place - 1 < length sites = omega (arith, c.loop-place.invariant.within, c.loop-place-test.true) in
    let below : (get_or sites (place - 1) no_site).caller < c.args.functions = all-at (λ s. s.caller < c.args.functions) sites (place - 1) no_site c.requires.callers within in
    let read : c.index.result.now ≡ get_or c.loop-place.first.items (get_or sites (place - 1) no_site).caller 0 =
    get_or_read c.loop-place.first.items (get_or sites (place - 1) no_site).caller c.index.result.now (omega (arith, below, c.loop-place.invariant.each_function)) c.index.ensures 0 in
    rw read (IsIndexFrom-kept sites c.args.without.now c.args.functions place c.loop-place.first.items c.loop-place.next.items no_site c.loop-place-test.true kept below c.loop-place.invariant)

pub loop-place-preserved : goal.loop-place-preserved
loop-place-preserved c =
    let kept : not (has (get_or c.args.sites.now (c.loop-place.place - 1) no_site).number c.args.without.now) ≡ false = ap not (sym c.is_among.ensures ∙ c.if-not-is_among.false) in
    IsIndexFrom-skipped c.args.sites.now c.args.without.now c.args.functions c.loop-place.place c.loop-place.first.items c.loop-place.next.items no_site c.loop-place-test.true kept c.loop-place.invariant
