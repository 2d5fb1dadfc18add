use Rattle.thread_core.proofs.Common.{◌≡◌, Some, None, refl, ap, ◌∙◌, State}
use Rattle.thread_core.proofs.MakingLaws.{main_fact, main_fits, made_law, IsMade}
use Rattle.thread_core.proofs.making.with_main.Goals as goal

pub start-requires-clause-function : goal.start-requires-clause-function
start-requires-clause-function c = main_fact c.args.accepted c.args.accepted.program.well_scoped c.image-image.ensures.valid c.main_number-main.result (c.main_number-main.ensures ∙ ap (λ p. p.main) c.program.ensures)

pub unreachable-requires : goal.unreachable-requires
unreachable-requires c =
    main_fits c.args.accepted c.args.accepted.program.well_scoped c.image-image.ensures.valid c.args.policy c.args.parts c.requires.parts c.main_number-main.result
    (c.main_number-main.ensures ∙ ap (λ p. p.main) c.program.ensures) (c.in-None.ensures.none.0 refl)

-- the state that is made
abbrev state : goal.After-wait → State
state c = record {
  alloc = c.args.alloc;
  areas = c.start.new.areas;
  exchange = c.args.parts.exchange;
  waits = c.wait.new.self;
  records = c.insert_reserved-slot.new.self;
  live = 1;
  next = 1;
  fuel = record { left = c.args.fuel };
  running = None;
  begun = 0;
  stopped = None;
}

made : (c : goal.After-wait) → IsMade c.args.accepted c.args.policy c.args.fuel (state c)
made c = made_law c.args.accepted c.args.accepted.program.well_scoped c.image-image.ensures.valid c.args.policy c.args.fuel c.args.parts c.requires.policy c.requires.parts
    (state c) c.main_number-main.result c.in-Some.context (c.main_number-main.ensures ∙ ap (λ p. p.main) c.program.ensures)
    (rw c.in-Some.is at c.start.ensures.machine) c.start.ensures.areas
    (rw c.insert_reserved-slot.ensures.key at c.insert_reserved-slot.ensures.updates) (rw c.insert_reserved-slot.ensures.key at c.wait.ensures)
    refl refl refl refl refl refl

pub invariant_of-result : goal.invariant_of-result
invariant_of-result c = record {
  chunks = (made c).chunks;
  state = (made c).kept;
  come = (made c).settled;
  ready = λ thread r e. absurd (let x : None ≡ Some thread = e in cc);
  stopped = λ h. absurd (let e = h in cc);
}

pub returns : goal.returns
returns c = record {
  accepted_is = refl;
  setting = λ i. record { code = c.args.accepted.image.code; fuel = c.args.fuel; backlog = (made c).backlog i; caps = (made c).caps i };
  machine = (made c).machine;
  formed = (made c).kept.formed;
  stands = (made c).stands;
  main = (made c).main;
  begun = refl;
  stopped = refl;
}
