use Rattle.cycle_break.proofs.Common.{◌≡◌, ◌<◌, ◌+◌, ◌-◌, suc, [], ◌∷◌, length, get_or, reverse, sym, ◌∙◌, arith, rules, get_or_read, LeadsTo, no_site}
use Rattle.cycle_break.proofs.PathLemmas.{IsOnWay-first, IsOnWay-enter, IsOnWay-on, IsOnWay-over, work-enter, IsUnvisited, callee_found}
use Rattle.cycle_break.proofs.SeenLemmas.{IsSeen-mark}
use Rattle.cycle_break.proofs.walking.walk_from.Goals.{In-Some-first_unvisited}
use Rattle.cycle_break.proofs.walking.walk_from.Goals as goal

pub loop-frame-init : goal.loop-frame-init
loop-frame-init c =
    let functions = length c.args.visited.now in
    let root = c.args.root in
    let deep : suc (functions - 1) ≡ functions = omega (arith, c.requires.root) in
    let in_first : root < length c.args.index.now.first.items = omega (arith, c.requires.root, c.requires.index.each_function) in
    let read : c.index.result.now ≡ get_or c.args.index.now.first.items root 0 = get_or_read c.args.index.now.first.items root c.index.result.now in_first c.index.ensures 0 in
    let leads : LeadsTo c.args.index.now.sites.now c.args.index.now.without.now root 0 c.index.result.now = rw read (c.requires.index.first root c.requires.root) in
    let path : c.enter.new.self ≡ record { function = root; place = c.index.result.now } ∷ [] = rw c.new-path.ensures at c.in_ok-enter.ensures in
    record {
      way = rw path (IsOnWay-first c.args.tables.now c.args.index.now.sites.now c.args.index.now.without.now functions (functions - 1) root c.index.result.now c.args.visited.now (reverse c.args.left.now.items)
          deep c.requires.root c.requires.unvisited c.requires.marks leads);
      seen = IsSeen-mark c.args.tables.now c.args.visited.now c.args.seen.now root c.requires.root c.requires.seen;
    }

-- the callee that wasn't visited is a function, and isn't marked
unvisited : (c : In-Some-first_unvisited) → IsUnvisited (length c.args.visited.now) c.loop-frame.visited c.in-Some-first_unvisited.callee
unvisited c =
    let on = rw c.in-Some.ensures.frames at c.loop-frame.invariant.way in
    callee_found c.args.tables.now c.args.index.now.sites.now c.args.index.now.without.now (length c.args.visited.now) c.requires.sites c.if-frame-index.false
    on c.in-Some-first_unvisited.callee (sym c.first_unvisited.ensures.first ∙ c.in-Some-first_unvisited.is)

pub bounds-visited-callee : goal.bounds-visited-callee
bounds-visited-callee c = (unvisited (goal.at.bounds-visited-callee c).In-Some-first_unvisited).within

pub index-requires-in-Some-first_unvisited : goal.index-requires-in-Some-first_unvisited
index-requires-in-Some-first_unvisited c =
    let function = (unvisited (goal.at.index-requires-in-Some-first_unvisited c).In-Some-first_unvisited).function in
    let in_first : c.in-Some-first_unvisited.callee < length c.args.index.now.first.items = omega (arith, function, c.requires.index.each_function) in
    search rules

pub loop-frame-smaller-in-Continue-branch-4 : goal.loop-frame-smaller-in-Continue-branch-4
loop-frame-smaller-in-Continue-branch-4 c =
    let callee = c.in-Some-first_unvisited.callee in
    let holds = unvisited (goal.at.loop-frame-smaller-in-Continue-branch-4 c).In-Some-first_unvisited in
    rw (c.in_ok-enter-3.ensures, c.in_ok-enter-2.ensures, c.in-Some.ensures.frames)
    (work-enter (length c.args.index.now.sites.now) c.loop-frame.visited (record { function = callee; place = c.index-in-Some-first_unvisited.result.now })
    (c.in-Some.frame ∷ c.leave.new.self) callee holds.within holds.out)

pub loop-frame-preserved-in-Continue-branch-4 : goal.loop-frame-preserved-in-Continue-branch-4
loop-frame-preserved-in-Continue-branch-4 c =
    let index = c.args.index.now in
    let callee = c.in-Some-first_unvisited.callee in
    let holds = unvisited (goal.at.loop-frame-preserved-in-Continue-branch-4 c).In-Some-first_unvisited in
    let in_first : callee < length index.first.items = omega (arith, holds.function, c.requires.index.each_function) in
    let place = c.index-in-Some-first_unvisited.result.now in
    let read : place ≡ get_or index.first.items callee 0 = get_or_read index.first.items callee place in_first c.index-in-Some-first_unvisited.ensures 0 in
    let leads : LeadsTo index.sites.now index.without.now callee 0 place = rw read (c.requires.index.first callee holds.function) in
    let on = rw c.in-Some.ensures.frames at c.loop-frame.invariant.way in
    record {
      way = rw (c.in_ok-enter-3.ensures, c.in_ok-enter-2.ensures)
          (IsOnWay-enter c.args.tables.now index.sites.now index.without.now (length c.args.visited.now) c.requires.sites c.if-frame-index.false on callee place
          (sym c.first_unvisited.ensures.first ∙ c.in-Some-first_unvisited.is) leads);
      seen = IsSeen-mark c.args.tables.now c.loop-frame.visited c.first_unvisited.new.seen callee holds.within c.first_unvisited.ensures.seen;
    }

pub loop-frame-preserved : goal.loop-frame-preserved
loop-frame-preserved c =
    let frame = c.in-Some.frame in
    let index = c.args.index.now in
    let on = rw c.in-Some.ensures.frames at c.loop-frame.invariant.way in
    let within : frame.place < length index.sites.now = omega (arith, on.frames.0.within, c.if-frame-index.false) in
    let in_next : frame.place < length index.next.items = omega (arith, within, c.requires.index.each_site) in
    let next = c.index-in_default-first_unvisited.result.now in
    let read : next ≡ get_or index.next.items frame.place 0 =
    get_or_read index.next.items frame.place next in_next c.index-in_default-first_unvisited.ensures 0 in
    let leads : LeadsTo index.sites.now index.without.now frame.function (frame.place + 1) next =
    rw read (c.requires.index.next frame.place no_site frame.function within (on.frames.0.mine no_site within)) in
    record {
      way = rw c.in_ok-enter-4.ensures
          (IsOnWay-on c.args.tables.now index.sites.now index.without.now (length c.args.visited.now) c.requires.sites c.if-frame-index.false on next
          (sym c.first_unvisited.ensures.first ∙ c.in_default-first_unvisited.is) leads);
      seen = c.first_unvisited.ensures.seen;
    }

pub returns-clause-order : goal.returns-clause-order
returns-clause-order c =
    (IsOnWay-over c.args.tables.now c.args.index.now.sites.now c.args.index.now.without.now (length c.args.visited.now) _ c.loop-frame.visited (reverse c.loop-frame.left.items)
    (rw c.in_default.ensures.none at c.loop-frame.invariant.way)).0

pub returns-clause-marks : goal.returns-clause-marks
returns-clause-marks c =
    (IsOnWay-over c.args.tables.now c.args.index.now.sites.now c.args.index.now.without.now (length c.args.visited.now) _ c.loop-frame.visited (reverse c.loop-frame.left.items)
    (rw c.in_default.ensures.none at c.loop-frame.invariant.way)).1
