use Rattle.segment_run.proofs.Common.{◌≡◌, ℕ, List, refl, Some, sym, ap, subst, ◌∙◌, byte_at, Nothing, write, ready_effect, place_at, even, branches_to, machine_at, GoesOn}
use Rattle.rv_machine.specs.Rows.{Goes, next, sets, jumps, loads, word_loaded, word_stored}
use Rattle.segment_run.proofs.ReadyTurns.{by_kind, set_went, load_goes, load_went, store_goes, store_went, jump_went, branch_went}
use Rattle.segment_run.proofs.ready_turns.turn.Goals as goal

pub returns-in-Sets-clause-went : goal.returns-in-Sets-clause-went
returns-in-Sets-clause-went c =
    let op = c.args.op.now in
    let m = machine_at c.args.areas.now c.args.at c.args.file.now in
    let is : ready_effect op m ≡ Some (sets m op.rd c.in-Sets.value) = by_kind c.args.kind op c.args.a c.args.b m c.requires.kind c.requires.a c.requires.b ∙ c.in-Sets.ensures.does m in
    set_went (ready_effect op m) c.args.areas.now c.args.at op.rd c.in-Sets.value c.args.file.now c.write.new.self c.requires.place c.requires.goes is c.write.ensures

pub read_word-word-requires : goal.read_word-word-requires
read_word-word-requires c =
    let op = c.args.op.now in
    let m = machine_at c.args.areas.now c.args.at c.args.file.now in
    let is : ready_effect op m ≡ Some (loads m op.rd (word_loaded (byte_at c.args.areas.now) c.in-Loads.address)) = by_kind c.args.kind op c.args.a c.args.b m c.requires.kind c.requires.a c.requires.b ∙ c.in-Loads.ensures.does m in
    load_goes m op.rd (word_loaded (byte_at c.args.areas.now) c.in-Loads.address) (subst GoesOn is c.requires.goes)

pub returns-in-Loads-clause-went : goal.returns-in-Loads-clause-went
returns-in-Loads-clause-went c =
    let op = c.args.op.now in
    let m = machine_at c.args.areas.now c.args.at c.args.file.now in
    let is : ready_effect op m ≡ Some (loads m op.rd (word_loaded (byte_at c.args.areas.now) c.in-Loads.address)) = by_kind c.args.kind op c.args.a c.args.b m c.requires.kind c.requires.a c.requires.b ∙ c.in-Loads.ensures.does m in
    load_went (ready_effect op m) c.args.areas.now c.args.at op.rd c.read_word-word.result (word_loaded (byte_at c.args.areas.now) c.in-Loads.address) c.args.file.now c.write-in-Loads.new.self
    c.requires.place c.requires.goes is c.read_word-word.ensures c.write-in-Loads.ensures

pub put_word-requires-clause-aligned : goal.put_word-requires-clause-aligned
put_word-requires-clause-aligned c =
    let op = c.args.op.now in
    let m = machine_at c.args.areas.now c.args.at c.args.file.now in
    let is : ready_effect op m ≡ Some (word_stored m c.in-Stores.address c.args.b) = by_kind c.args.kind op c.args.a c.args.b m c.requires.kind c.requires.a c.requires.b ∙ c.in-Stores.ensures.does m in
    (store_goes m c.in-Stores.address c.args.b (subst GoesOn is c.requires.goes)).0

pub put_word-requires-clause-writable : goal.put_word-requires-clause-writable
put_word-requires-clause-writable c =
    let op = c.args.op.now in
    let m = machine_at c.args.areas.now c.args.at c.args.file.now in
    let is : ready_effect op m ≡ Some (word_stored m c.in-Stores.address c.args.b) = by_kind c.args.kind op c.args.a c.args.b m c.requires.kind c.requires.a c.requires.b ∙ c.in-Stores.ensures.does m in
    (store_goes m c.in-Stores.address c.args.b (subst GoesOn is c.requires.goes)).1

pub returns-in-Stores-clause-went : goal.returns-in-Stores-clause-went
returns-in-Stores-clause-went c =
    let op = c.args.op.now in
    let m = machine_at c.args.areas.now c.args.at c.args.file.now in
    let is : ready_effect op m ≡ Some (word_stored m c.in-Stores.address c.args.b) = by_kind c.args.kind op c.args.a c.args.b m c.requires.kind c.requires.a c.requires.b ∙ c.in-Stores.ensures.does m in
    store_went (ready_effect op m) c.args.areas.now c.put_word.new.self c.args.at c.in-Stores.address c.args.b c.args.file.now c.requires.place c.requires.goes is c.put_word.ensures

pub returns-in-Jumps-clause-went : goal.returns-in-Jumps-clause-went
returns-in-Jumps-clause-went c =
    let op = c.args.op.now in
    let m = machine_at c.args.areas.now c.args.at c.args.file.now in
    let is : ready_effect op m ≡ Some (Goes (place_at c.in-Jumps.to) c.args.file.now Nothing) = by_kind c.args.kind op c.args.a c.args.b m c.requires.kind c.requires.a c.requires.b ∙ c.in-Jumps.ensures.does m in
    record { stored = Nothing; outcome = is; memory = refl }

pub returns-in-Calls-clause-went : goal.returns-in-Calls-clause-went
returns-in-Calls-clause-went c =
    let op = c.args.op.now in
    let m = machine_at c.args.areas.now c.args.at c.args.file.now in
    let is : ready_effect op m ≡ Some (Goes (place_at c.in-Calls.to) (write c.args.file.now op.rd (next m)) Nothing) = by_kind c.args.kind op c.args.a c.args.b m c.requires.kind c.requires.a c.requires.b ∙ c.in-Calls.ensures.does m in
    let written = c.write-in-Calls.ensures ∙ ap (λ (value : ℕ). write c.args.file.now op.rd value) c.place_behind.ensures in
    record { stored = Nothing; outcome = is ∙ ap (λ (x : List ℕ). Some (Goes (place_at c.in-Calls.to) x Nothing)) (sym written); memory = refl }

pub returns-in-JumpsNear-clause-went : goal.returns-in-JumpsNear-clause-went
returns-in-JumpsNear-clause-went c =
    let op = c.args.op.now in
    let m = machine_at c.args.areas.now c.args.at c.args.file.now in
    let is : ready_effect op m ≡ Some (jumps m 0 (even c.in-JumpsNear.place)) = by_kind c.args.kind op c.args.a c.args.b m c.requires.kind c.requires.a c.requires.b ∙ c.in-JumpsNear.ensures.does m in
    jump_went (ready_effect op m) c.args.areas.now c.args.at 0 (even c.in-JumpsNear.place) c.index_near.result c.args.file.now c.args.file.now c.requires.goes is c.index_near.ensures refl

pub returns-in-CallsNear-clause-went : goal.returns-in-CallsNear-clause-went
returns-in-CallsNear-clause-went c =
    let op = c.args.op.now in
    let m = machine_at c.args.areas.now c.args.at c.args.file.now in
    let is : ready_effect op m ≡ Some (jumps m op.rd (even c.in-CallsNear.place)) = by_kind c.args.kind op c.args.a c.args.b m c.requires.kind c.requires.a c.requires.b ∙ c.in-CallsNear.ensures.does m in
    jump_went (ready_effect op m) c.args.areas.now c.args.at op.rd (even c.in-CallsNear.place) c.index_near-in-CallsNear.result c.args.file.now c.write-in-CallsNear.new.self c.requires.goes is c.index_near-in-CallsNear.ensures
    (c.write-in-CallsNear.ensures ∙ ap (λ (value : ℕ). write c.args.file.now op.rd value) c.place_behind-in-CallsNear.ensures)

pub returns-in-Branches-clause-went : goal.returns-in-Branches-clause-went
returns-in-Branches-clause-went c =
    let op = c.args.op.now in
    let m = machine_at c.args.areas.now c.args.at c.args.file.now in
    let is : ready_effect op m ≡ Some (branches_to m op.imm c.in-Branches.taken) = by_kind c.args.kind op c.args.a c.args.b m c.requires.kind c.requires.a c.requires.b ∙ c.in-Branches.ensures.does m in
    branch_went (ready_effect op m) c.args.areas.now c.args.at op.imm c.branch_to.result c.args.file.now c.in-Branches.taken c.requires.place c.requires.goes is c.branch_to.ensures
