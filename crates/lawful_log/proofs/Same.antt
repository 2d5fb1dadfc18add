-- A thread is ready, at `accept` and asleep in the machine world as it is in the source world.
use Rattle.lawful_log.proofs.Common.{◌≡◌, ℕ, List, Option, Some, None, option_map, refl, ap, ◌∙◌, Block, Pool, Waiting, wakes_at, is_accept, may_run, is_blocked_at_accept, StandsForRest, Blocked, Thread, World, Setting, waking_time, SinceIs}
use Rattle.c_mean.specs.ModelledCalls as table
use Rattle.c_mean.specs.World.{Rest, Fresh, Blocked as Blocks}
use Rattle.c_tree.specs.Trees.{ProgramTree}
use Rattle.choice_rules.specs.Readiness as rules
use Rattle.machine_world.specs.Places.{Checked}

-- blocked at the same since the same clock, or at the start
abbrev pub RestsAlike : Option Blocked → ℕ → Option Rest → Type 0
RestsAlike None since (Some (Fresh function arguments)) = Unit {0}
RestsAlike (Some b) since (Some (Blocks block waiting)) = (b.block ≡ block) × (b.since ≡ since)
RestsAlike _ since _ = ⊥

blocked_alike : (b : Option Blocked) (since : ℕ) (block : Block) (waiting : Waiting) → option_map (λ v. v.block) b ≡ Some block → SinceIs b since → RestsAlike b since (Some (Blocks block waiting))
blocked_alike None since block waiting e s = absurd (cc)
blocked_alike (Some b) since block waiting e s = (cc, s)

fresh_alike : (b : Option Blocked) (since : ℕ) (function : ℕ) (arguments : List ℕ) → b ≡ None → RestsAlike b since (Some (Fresh function arguments))
fresh_alike None since function arguments e = tt
fresh_alike (Some b) since function arguments e = absurd (cc)

pub alike_rest : (c : Checked) (program : ProgramTree) (pool : Pool) (thread : Thread) (since : ℕ) (rest : Option Rest) → StandsForRest c program pool (Some thread) rest → SinceIs thread.blocked since →
    RestsAlike thread.blocked since rest
alike_rest c program pool thread since (Some (Fresh function arguments)) stands s = fresh_alike thread.blocked since function arguments stands.unblocked
alike_rest c program pool thread since (Some (Blocks block waiting)) stands s = blocked_alike thread.blocked since block waiting stands.blocked s
alike_rest c program pool thread since _ stands s = absurd stands

-- ---- the three tests

pub ready_alike : (s : Setting) (w : World) (b : Option Blocked) (since : ℕ) (rest : Option Rest) → RestsAlike b since rest → may_run s w b ≡ rules.is_ready_at s.caps w.exchange w.clock since rest
ready_alike s w None since (Some (Fresh function arguments)) alike = refl
ready_alike s w (Some b) since (Some (Blocks block waiting)) alike =
    ap (λ (v : Block). table.is_ready s.caps w.exchange w.clock b.since v) alike.0 ∙ ap (λ (n : ℕ). table.is_ready s.caps w.exchange w.clock n block) alike.1
ready_alike s w _ since _ alike = absurd alike

pub accept_alike : (b : Option Blocked) (since : ℕ) (rest : Option Rest) → RestsAlike b since rest → is_blocked_at_accept b ≡ rules.is_accepting rest
accept_alike None since (Some (Fresh function arguments)) alike = refl
accept_alike (Some b) since (Some (Blocks block waiting)) alike = ap is_accept alike.0
accept_alike _ since _ alike = absurd alike

pub wakes_alike : (b : Option Blocked) (since : ℕ) (rest : Option Rest) → RestsAlike b since rest → waking_time b ≡ rules.wakes since rest
wakes_alike None since (Some (Fresh function arguments)) alike = refl
wakes_alike (Some b) since (Some (Blocks block waiting)) alike =
    ap (λ (v : Block). wakes_at b.since v) alike.0 ∙ ap (λ (n : ℕ). wakes_at n block) alike.1
wakes_alike _ since _ alike = absurd alike
