-- What holds of each way in which a step of a thread can go holds of the step.
use Rattle.machine_world.proofs.Common.{◌≡◌, ℕ, nat_eq, List, [], ◌∷◌, Option, Some, None, refl, ap, ◌∙◌, cond_both, eqb-true, Call, TrapKind, Taken, taken_for, after_give, payload_place_of, end_of, with_stored, Stored, read, outcome, with_byte, sp, tp, t1, a0, a1, a2, Local, LocalMove, Calls, Starts, Ended, Trapped, NoRoom, Wrong, saved_tp, saved_sp, with_header, after_call, linked_on, unlinked_front, unlinked_on, chunk_with_payload, ended, trapped, asks_or_wrong, package_call, system_call, machine_of, local_move, local_step}
use Rattle.cap_word.specs.Runs.{Goes, Asks, Stops}
use Rattle.rv_machine.specs.Rows as rows
use Rattle.stack_certificate.specs.RunTimeCalls.{link_number, unlink_number, end_number, trap_number}
use Rattle.cap_word.specs.ModelledCalls.{spawn_number}

-- the thread after an instruction of its own
abbrev pub executed : Local → ℕ → List ℕ → Stored → Local
executed l pc x stored = record { areas = with_stored with_byte stored l.areas; core = record { pc = pc; x = x; chain = l.core.chain } }

-- the thread after LINK
abbrev pub linked_to : Local → Taken → Local
linked_to l taken = record {
  areas = record l.areas { pool = with_header taken.pool taken.chunk (read l.core.x tp) (read l.core.x sp) };
  core = after_call l.core (taken.chunk ∷ l.core.chain) (payload_place_of taken.pool taken.chunk) (end_of taken.pool taken.chunk);
}

-- the thread after UNLINK, with this chain left
abbrev pub unlinked_from : Local → ℕ → List ℕ → Local
unlinked_from l chunk chain = record {
  areas = record l.areas { pool = after_give l.areas.pool chunk };
  core = after_call l.core chain (saved_tp l.areas.pool chunk) (saved_sp l.areas.pool chunk);
}

module _ (code : List ℕ) (l : Local) (P : LocalMove → Type 0) where
  -- the ways in which the thread's step can go
  pub record LocalWays : Type 0 where
    pub goes : (pc : ℕ) (x : List ℕ) (stored : Stored) → outcome code (machine_of l) ≡ rows.Goes pc x stored → P (Goes (executed l pc x stored))
    pub links : (taken : Taken) → taken_for l.areas.pool (read l.core.x t1) ≡ Some taken → P (Goes (linked_to l taken))
    pub unlinks : (chunk : ℕ) (chain : List ℕ) → l.core.chain ≡ chunk ∷ chain → P (Goes (unlinked_from l chunk chain))
    pub starts : P (Asks (Starts (read l.core.x a0) (read l.core.x a1) (read l.core.x a2)) l)
    pub calls : (number : ℕ) (call : Call) → package_call number l.core.x ≡ Some call → P (Asks (Calls call) l)
    pub ends : (chunk : ℕ) → l.core.chain ≡ chunk ∷ [] → P (Stops (Ended (record l.areas { pool = after_give l.areas.pool chunk })))
    pub traps : (kind : TrapKind) → P (Stops (Trapped kind))
    pub no_room : P (Stops NoRoom)
    pub wrong : P (Stops Wrong)

  module _ (ways : LocalWays) where
    on_linked : (found : Option Taken) → taken_for l.areas.pool (read l.core.x t1) ≡ found → P (linked_on l found)
    on_linked None e = ways.no_room
    on_linked (Some taken) e = ways.links taken e

    on_front : (chunk : ℕ) (chain : List ℕ) → l.core.chain ≡ chain → P (unlinked_front l chunk chain)
    on_front chunk [] e = ways.wrong
    on_front chunk (front ∷ chain) e =
        cond_both (nat_eq front chunk) (Goes (unlinked_from l chunk chain)) (Stops Wrong) P
        (λ same. ways.unlinks chunk chain (e ∙ ap (λ (k : ℕ). k ∷ chain) (eqb-true front chunk same)))
        (λ _. ways.wrong)

    on_unlinked : (found : Option ℕ) → P (unlinked_on l found)
    on_unlinked None = ways.wrong
    on_unlinked (Some chunk) = on_front chunk l.core.chain refl

    on_ended : (chain : List ℕ) → l.core.chain ≡ chain → P (ended l chain)
    on_ended (chunk ∷ []) e = ways.ends chunk e
    on_ended _ e = ways.wrong

    on_trapped : (kind : ℕ) → P (trapped kind)
    on_trapped kind =
        cond_both (nat_eq kind 1) _ _ P (λ _. ways.traps TrapKind.Index)
        (λ _. cond_both (nat_eq kind 2) (Stops (Trapped TrapKind.Table)) (Stops Wrong) P (λ _. ways.traps TrapKind.Table) (λ _. ways.wrong))

    on_asked : (number : ℕ) (call : Option Call) → package_call number l.core.x ≡ call → P (asks_or_wrong l call)
    on_asked number None e = ways.wrong
    on_asked number (Some call) e = ways.calls number call e

    on_call : (number : ℕ) → P (system_call l number)
    on_call number =
        cond_both (nat_eq number link_number) _ _ P (λ _. on_linked (taken_for l.areas.pool (read l.core.x t1)) refl)
        (λ _. cond_both (nat_eq number unlink_number) _ _ P (λ _. on_unlinked (chunk_with_payload l.areas.pool (read l.core.x tp)))
        (λ _. cond_both (nat_eq number spawn_number) _ _ P (λ _. ways.starts)
        (λ _. cond_both (nat_eq number end_number) _ _ P (λ _. on_ended l.core.chain refl)
        (λ _. cond_both (nat_eq number trap_number) _ _ P (λ _. on_trapped (read l.core.x a0))
        (λ _. on_asked number (package_call number l.core.x) refl)))))

    on_outcome : (o : rows.Outcome) → outcome code (machine_of l) ≡ o → P (local_move l o)
    on_outcome (rows.Goes pc x stored) e = ways.goes pc x stored e
    on_outcome (rows.Asks number) e = on_call number
    on_outcome (rows.Fails kind) e = ways.wrong

    pub on_local : P (local_step code l)
    unfolding local_step
    on_local = on_outcome (outcome code (machine_of l)) refl
