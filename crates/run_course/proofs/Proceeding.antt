-- The segment goes on.
use Rattle.run_course.proofs.Common.{◌≡◌, ◌+◌, ◌-◌, ◌*◌, ◌<◌, ◌≤◌, List, ℕ, Option, Some, sym, ap, ◌∙◌, subst, checked_of, Setup, setting_of, State, Choice, Proceeds, KeepsSetting, Held, KeepsPlaces, Turn, Under, Setting, Kept, turn_rank, StandsInside, StandsWithin, Rest}
use Rattle.run_course.proofs.AsSource.{source_steps}
use Rattle.run_course.proofs.Costs.{goes_cost, told_cost, told_formed, falls}
use Rattle.run_course.proofs.Turned.{turned, there, tells_now}

pub inside_under : (g : Setup) (state : State) (k : Kept) (held : Held) (left : Rest) (choice : Choice) (before : List ℕ) (under : Option Under) → StandsInside g state k held left choice before →
    StandsInside g state (record k { under = under }) held left choice before
inside_under g state k held left choice before under is = record {
  of = is.of;
  going = is.going;
  segment = is.segment;
  waiting = is.waiting;
  within = is.within;
  reached = is.reached;
  thread_is = is.thread_is;
  node_is = is.node_is;
  before_is = is.before_is;
  within_caps = is.within_caps;
  placed = is.placed;
  kept = is.kept;
  started = is.started;
  needed = is.needed;
  past = is.past;
  gate = is.gate;
  read = is.read;
}

pub proceeded : (g : Setup) (state : State) (k : Kept) (old new : Held) (left : Rest) (choice : Choice) (before : List ℕ) (turn : Turn) → StandsInside g state k old left choice before → KeepsSetting old new → KeepsPlaces old new →
    Proceeds old turn new → StandsWithin g state (record k { under = Some (record { choice = choice; before = before; turn = turn }) }) new left (record { choice = choice; before = before; turn = turn })
unfolding inside_under
proceeded g state k old new left choice before turn is keeps places did =
    let under : Option Under = Some (record { choice = choice; before = before; turn = turn }) in
    let inside = inside_under g state k old left choice before under is in
    turned g state (record k { under = under }) old left choice before inside (source_steps g state old is.of is.segment.thread) new keeps places turn did

-- what is still to do falls
pub proceeded_falls : (g : Setup) (state : State) (k : Kept) (old new : Held) (left : Rest) (choice : Choice) (before : List ℕ) (turn : Turn) (r : ℕ) → StandsInside g state k old left choice before → KeepsSetting old new →
    KeepsPlaces old new → Proceeds old turn new → 1 ≤ r → 3 * (new.setting.fuel - new.machine.cost) + turn_rank turn < 3 * (old.setting.fuel - old.machine.cost) + r
proceeded_falls g state k old new left choice before turn r inside keeps places did some =
    let law = source_steps g state old inside.of inside.segment.thread in
    let is_there = there g state k old left choice before inside law new keeps places turn did in
    let tells = tells_now g state k old left choice before inside law new keeps places turn did in
    let way : old.machine.cost ≤ did.made.at.cost = goes_cost old.setting did.made.steps old.machine did.made.at did.made.goes_on in
    let cost = told_cost (setting_of g) did.made.at turn inside.segment.thread new tells in
    let most = (told_formed (checked_of g) (setting_of g) did.made.at new turn inside.segment.thread is_there.within.formed tells).cost in
    let old_fuel : old.setting.fuel ≡ g.policy.fuel = ap (λ (s : Setting). s.fuel) inside.of.setting in
    let new_fuel : new.setting.fuel ≡ g.policy.fuel = ap (λ (s : Setting). s.fuel) keeps.setting ∙ old_fuel in
    subst (λ (n : ℕ). 3 * (new.setting.fuel - new.machine.cost) + turn_rank turn < 3 * (n - old.machine.cost) + r) (sym old_fuel)
    (subst (λ (n : ℕ). 3 * (n - new.machine.cost) + turn_rank turn < 3 * (g.policy.fuel - old.machine.cost) + r) (sym new_fuel)
    (falls turn g.policy.fuel old.machine.cost did.made.at.cost new.machine.cost r way cost most some))
