-- Along a good stretch every chain is short.
use Rattle.thread_core.proofs.Common.{◌≡◌, ℕ, zero, suc, ◌-◌, List, [], ◌∷◌, Some, sym, subst, ◌∙◌, AllByRecursion, Pool, IsInPlace, Checked, after_action, Pick, IsSound, OnWorld, IsGoodStretch, Thread, World, Setting, Move, Goes, Puts, Spawns, Blocks, Ends, step, checked_of, IsTurn, Held, Turn}
use Rattle.machine_world.proofs.ChainLaws.{length-chain}
use Rattle.thread_core.specs.Lengths.{HasShortChain, HaveShortChains, ChainsStayShort, StepsKeepShort, BeginsShort}

each_short : (c : Checked) (pool : Pool) (threads : List Thread) → AllByRecursion (λ thread. IsInPlace c pool thread.core) threads → AllByRecursion (λ thread. HasShortChain c pool thread.core) threads
each_short c pool [] all = tt
each_short c pool (thread ∷ threads) all = (record { in_place = all.0; short = λ place frames h. length-chain c pool thread.core place frames h }, each_short c pool threads all.1)

all_short : (c : Checked) (w : World) → IsSound c w → HaveShortChains c w
all_short c w sound = each_short c w.areas.pool w.threads sound.in_place

on_both : (P Q : World → Type 0) → ((w : World) → P w → Q w) → (move : Move) → OnWorld move P → OnWorld move Q
on_both P Q both (Goes after) h = both after h
on_both P Q both (Puts value after) h = both after h
on_both P Q both (Spawns number after) h = both after h
on_both P Q both (Blocks after) h = both after h
on_both P Q both (Ends after) h = both after h
on_both P Q both _ h = absurd h

pub stay_short : (c : Checked) (s : Setting) (n : ℕ) (w : World) → IsGoodStretch c s n w → ChainsStayShort c s n w
stay_short c s zero w h = all_short c w h
stay_short c s (suc n) w h = (all_short c w h.0, on_both (IsGoodStretch c s n) (ChainsStayShort c s n) (stay_short c s n) (step s w) h.2)

-- so a turn keeps them
pub turn_short : (old new : Held) (number : ℕ) (from : World) (turn : Turn) → IsTurn old number from turn new → StepsKeepShort old from new
turn_short old new number from turn made = stay_short (checked_of old.accepted) old.setting (new.machine.cost - from.cost) from made.good

pub begins_short : (old new : Held) (number : ℕ) (from : World) (turn : Turn) → after_action old.setting old.machine (Pick number) ≡ Some from → IsTurn old number from turn new → BeginsShort old number new
begins_short old new number from turn picks made = λ picked is.
    let some : Some from ≡ Some picked = sym picks ∙ is in
    let same : from ≡ picked = cc in
    subst (λ (w : World). StepsKeepShort old w new) same (turn_short old new number from turn made)
