use Rattle.segment_run.proofs.Common.{◌≡◌, ◌+◌, Some, refl, Kind, second, third, IsKindAt}
use Rattle.decoded_code.specs.declared.ready.Kind.TheVariants as kind
use Rattle.segment_run.proofs.ReadyRuns.{standing, second_at, third_at}
use Rattle.segment_run.proofs.ready_turns.turns.Goals as goal
use Rattle.segment_run.proofs.ready_turns.turns.Goals.{After-operation_at-op}

pub operation_at-op-requires-clause-there : goal.operation_at-op-requires-clause-there
operation_at-op-requires-clause-there c =
    let r = c.requires.run in
    let s = standing r.0 c.args.ready.now c.args.areas.now c.args.file.now c.args.stand.at c.args.stand.left r.1 in
    (r.0.code, s.0, r.1.are_ready, s.1)

pub operation_at-op-requires-clause-place : goal.operation_at-op-requires-clause-place
operation_at-op-requires-clause-place c = c.requires.run.1.way.form.core.pc

-- the kind of the operation after the first of a group
behind : (c : After-operation_at-op) (k after : Kind) → c.operation_at-op.result.now.kind ≡ k → second k ≡ Some after →
    IsKindAt c.args.ready.now (c.args.stand.at + 1) after
behind c k after =
    second_at _ c.args.ready.now c.args.stand.at c.operation_at-op.result.now k after c.requires.run.1.are_ready c.operation_at-op.ensures.there

-- and that of the one after it
last : (c : After-operation_at-op) (k after : Kind) → c.operation_at-op.result.now.kind ≡ k → third k ≡ Some after →
    IsKindAt c.args.ready.now (c.args.stand.at + 2) after
last c k after =
    third_at _ c.args.ready.now c.args.stand.at c.operation_at-op.result.now k after c.requires.run.1.are_ready c.operation_at-op.ensures.there

pub pair-requires-clause-behind : goal.pair-requires-clause-behind
pair-requires-clause-behind c = behind (goal.at.pair-requires-clause-behind c).After-operation_at-op _ kind.Lw c.in-LwLw.is refl

pub pair-requires-in-LwSw-clause-behind : goal.pair-requires-in-LwSw-clause-behind
pair-requires-in-LwSw-clause-behind c = behind (goal.at.pair-requires-in-LwSw-clause-behind c).After-operation_at-op _ kind.Sw c.in-LwSw.is refl

pub pair-requires-in-SwLw-clause-behind : goal.pair-requires-in-SwLw-clause-behind
pair-requires-in-SwLw-clause-behind c = behind (goal.at.pair-requires-in-SwLw-clause-behind c).After-operation_at-op _ kind.Lw c.in-SwLw.is refl

pub pair-requires-in-SwSw-clause-behind : goal.pair-requires-in-SwSw-clause-behind
pair-requires-in-SwSw-clause-behind c = behind (goal.at.pair-requires-in-SwSw-clause-behind c).After-operation_at-op _ kind.Sw c.in-SwSw.is refl

pub pair-requires-in-AddiSw-clause-behind : goal.pair-requires-in-AddiSw-clause-behind
pair-requires-in-AddiSw-clause-behind c = behind (goal.at.pair-requires-in-AddiSw-clause-behind c).After-operation_at-op _ kind.Sw c.in-AddiSw.is refl

pub pair-requires-in-LuiAddi-clause-behind : goal.pair-requires-in-LuiAddi-clause-behind
pair-requires-in-LuiAddi-clause-behind c = behind (goal.at.pair-requires-in-LuiAddi-clause-behind c).After-operation_at-op _ kind.Addi c.in-LuiAddi.is refl

pub triple-requires-clause-behind : goal.triple-requires-clause-behind
triple-requires-clause-behind c = behind (goal.at.triple-requires-clause-behind c).After-operation_at-op _ kind.Sw c.in-SwSwSw.is refl

pub triple-requires-clause-last : goal.triple-requires-clause-last
triple-requires-clause-last c = last (goal.at.triple-requires-clause-last c).After-operation_at-op _ kind.Sw c.in-SwSwSw.is refl

pub triple-requires-in-SwLwSw-clause-behind : goal.triple-requires-in-SwLwSw-clause-behind
triple-requires-in-SwLwSw-clause-behind c = behind (goal.at.triple-requires-in-SwLwSw-clause-behind c).After-operation_at-op _ kind.Lw c.in-SwLwSw.is refl

pub triple-requires-in-SwLwSw-clause-last : goal.triple-requires-in-SwLwSw-clause-last
triple-requires-in-SwLwSw-clause-last c = last (goal.at.triple-requires-in-SwLwSw-clause-last c).After-operation_at-op _ kind.Sw c.in-SwLwSw.is refl

pub triple-requires-in-SwLwLw-clause-behind : goal.triple-requires-in-SwLwLw-clause-behind
triple-requires-in-SwLwLw-clause-behind c = behind (goal.at.triple-requires-in-SwLwLw-clause-behind c).After-operation_at-op _ kind.Lw c.in-SwLwLw.is refl

pub triple-requires-in-SwLwLw-clause-last : goal.triple-requires-in-SwLwLw-clause-last
triple-requires-in-SwLwLw-clause-last c = last (goal.at.triple-requires-in-SwLwLw-clause-last c).After-operation_at-op _ kind.Lw c.in-SwLwLw.is refl

pub triple-requires-in-LuiAddiSw-clause-behind : goal.triple-requires-in-LuiAddiSw-clause-behind
triple-requires-in-LuiAddiSw-clause-behind c =
    behind (goal.at.triple-requires-in-LuiAddiSw-clause-behind c).After-operation_at-op _ kind.Addi c.in-LuiAddiSw.is refl

pub triple-requires-in-LuiAddiSw-clause-last : goal.triple-requires-in-LuiAddiSw-clause-last
triple-requires-in-LuiAddiSw-clause-last c = last (goal.at.triple-requires-in-LuiAddiSw-clause-last c).After-operation_at-op _ kind.Sw c.in-LuiAddiSw.is refl
