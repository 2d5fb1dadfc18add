-- LINK, UNLINK and END as the code does them.
use Rattle.segment_run.proofs.Common.{◌≡◌, ◌≢◌, ℕ, zero, suc, ◌+◌, ◌-◌, ◌<◌, ◌≤◌, Bool, List, ◌∷◌, set, Some, None, refl, sym, ap, subst, ◌∙◌, arith, cond, eq-eqb, Goes, Stops, Pool, Taken, taken_for, after_give, shape_of, word_of, end_of, payload_place_of, chunk_at, IsPool, IsFree, IsHeld, chunk_at-some, KeepsOthers-after_give, read, Areas, copies, HeadersName, TpIsFront, tp, t1, Local, Wrong, with_header, saved_tp, linked, linked_on, unlinked, unlinked_on, begins_at, chunk_with_payload, Owns, word_of-other, chunk_below, chain_from, thread_of, Thread, words_of-payload, payload_place_of-same, taken_for-sound, taken_for-fits, taken_for-keeps, taken_for-shape, taken_for-count, copies-front}
use Rattle.cap_word.specs.Word as word
use Rattle.machine_world.proofs.LinkLaws.{saved_tp-with_header}
use Rattle.segment_run.proofs.Chains.{chunk_below-of, chain_from-kept, length-chain_from}
use Rattle.segment_run.proofs.Owning.{IsHeld-owned, few_chunks}

-- ---- the front chunk

pub record HasFront (p : Pool) (thread : Thread) : Type 0 where
  pub below : ℕ
  pub depth : thread.depth ≡ suc below
  pub tp_is : read thread.regs.x tp ≡ payload_place_of p thread.chunk

pub front_of : (areas : Areas) (thread : Thread) (depth : ℕ) → thread.depth ≡ depth → TpIsFront areas.pool (thread_of areas thread).core (thread_of areas thread).core.chain → HasFront areas.pool thread
front_of areas thread zero is front = absurd (subst (λ (n : ℕ). TpIsFront areas.pool (thread_of areas thread).core (chain_from areas.pool thread.chunk n)) is front)
front_of areas thread (suc n) is front = record {
  below = n;
  depth = is;
  tp_is = subst (λ (k : ℕ). TpIsFront areas.pool (thread_of areas thread).core (chain_from areas.pool thread.chunk k)) is front;
}

chain_is : (p : Pool) (thread : Thread) (below : ℕ) → thread.depth ≡ suc below → chain_from p thread.chunk thread.depth ≡ thread.chunk ∷ chain_from p (chunk_below p thread.chunk) below
chain_is p thread below depth = ap (chain_from p thread.chunk) depth

pub front_held : (areas : Areas) (thread : Thread) (below : ℕ) → Owns (thread_of areas thread) → thread.depth ≡ suc below → IsHeld areas.pool thread.chunk
front_held areas thread below owns depth =
    let chain = chain_is areas.pool thread below depth in
    let here = ap (copies thread.chunk) chain ∙ copies-front thread.chunk (chain_from areas.pool (chunk_below areas.pool thread.chunk) below) in
    IsHeld-owned (thread_of areas thread) thread.chunk owns (omega (arith, here))

-- the innermost chunk is held, and has a header
pub innermost_held : (areas : Areas) (thread : Thread) → Owns (thread_of areas thread) → TpIsFront areas.pool (thread_of areas thread).core (thread_of areas thread).core.chain → IsHeld areas.pool thread.chunk
innermost_held areas thread owns front = let is = front_of areas thread thread.depth refl front in front_held areas thread is.below owns is.depth

pub depth_below : (areas : Areas) (thread : Thread) → Owns (thread_of areas thread) → thread.depth ≤ areas.pool.count
depth_below areas thread owns = omega (arith, few_chunks (thread_of areas thread) owns, length-chain_from areas.pool thread.chunk thread.depth)

-- ---- LINK

-- the thread after a LINK of that chunk
abbrev pub linked_thread : Thread → Pool → ℕ → Thread
linked_thread thread p id = record {
  regs = record { pc = word.add thread.regs.pc 4; x = set (set thread.regs.x 4 (payload_place_of p id)) 2 (end_of p id) };
  chunk = id;
  depth = thread.depth + 1;
}

abbrev pub linked_areas : Areas → Thread → Taken → Areas
linked_areas areas thread taken = record areas { pool = with_header taken.pool taken.chunk (read thread.regs.x tp) (read thread.regs.x 2) }

pub link_goes : (areas : Areas) (thread : Thread) (taken : Taken) → IsPool areas.pool → Owns (thread_of areas thread) → HasFront areas.pool thread →
    taken_for areas.pool (read thread.regs.x t1) ≡ Some taken →
    linked (thread_of areas thread) ≡ Goes (thread_of (linked_areas areas thread taken) (linked_thread thread taken.pool taken.chunk))
link_goes areas thread taken pool_sound owns front found =
    let l = thread_of areas thread in
    let p = areas.pool in
    let need = read thread.regs.x t1 in
    let id = taken.chunk in
    let q = (linked_areas areas thread taken).pool in
    let both = taken_for-sound p need taken pool_sound found in
    let shape : shape_of q ≡ shape_of p = taken_for-shape p need taken found in
    let within = (front_held areas thread front.below owns front.depth).0 in
    let within_taken : thread.chunk < taken.pool.count = omega (arith, within, taken_for-count p need taken found) in
    let named : saved_tp q id ≡ payload_place_of q thread.chunk =
    saved_tp-with_header taken.pool id _ _ both.0 both.1.0 ∙ front.tp_is ∙ sym (payload_place_of-same p q thread.chunk shape) in
    let below : chunk_below q id ≡ thread.chunk = chunk_below-of q id thread.chunk within_taken (words_of-payload taken.pool thread.chunk both.0 within_taken) named in
    let kept : chain_from q thread.chunk thread.depth ≡ chain_from p thread.chunk thread.depth =
    chain_from-kept p q thread.chunk thread.depth shape (λ k there. saved_away k (λ same. not_free k there same)) in
    let chain : chain_from q id (thread.depth + 1) ≡ id ∷ chain_from p thread.chunk thread.depth =
    (let next : thread.depth + 1 ≡ suc thread.depth = omega arith in ap (chain_from q id) next)
    ∙ ap (λ (c : ℕ). id ∷ chain_from q c thread.depth) below ∙ ap (λ (cs : List ℕ). id ∷ cs) kept in
    ap (linked_on l) found
    ∙ ap (λ (cs : List ℕ). Goes (record {
      areas = linked_areas areas thread taken;
      core = record { pc = word.add thread.regs.pc 4; x = (linked_thread thread taken.pool id).regs.x; chain = cs };
    })) (sym chain)
  where
    saved_away : (k : ℕ) → k ≢ taken.chunk → saved_tp (linked_areas areas thread taken).pool k ≡ saved_tp areas.pool k
    saved_away k apart =
        word_of-other (Rattle.chunk_pool.specs.Pool.with_word taken.pool taken.chunk 0 (read thread.regs.x tp)) taken.chunk 1 _ k 0 (λ same other. apart same)
        ∙ word_of-other taken.pool taken.chunk 0 _ k 0 (λ same other. apart same)
        ∙ ap (λ (q : Pool). word_of q k 0) (taken_for-keeps areas.pool (read thread.regs.x t1) taken found)

    not_free : (k : ℕ) → 1 ≤ copies k (chain_from areas.pool thread.chunk thread.depth) → k ≡ taken.chunk → ⊥
    not_free k there same =
        (IsHeld-owned (thread_of areas thread) k owns there).1
        (subst (λ (n : ℕ). IsFree areas.pool n) (sym same) (taken_for-fits areas.pool (read thread.regs.x t1) taken pool_sound found).0)

-- ---- UNLINK

payload_found : (p : Pool) (c : ℕ) → IsPool p → c < p.count → chunk_at p (payload_place_of p c) ≡ Some c
payload_found p c sound within = chunk_at-some p c (payload_place_of p c) (within, omega arith, omega (arith, words_of-payload p c sound within))

front_found : (p : Pool) (c : ℕ) → IsPool p → c < p.count → chunk_with_payload p (payload_place_of p c) ≡ Some c
front_found p c sound within =
    let place = payload_place_of p c in
    ap (begins_at p place) (payload_found p c sound within) ∙ ap (λ (b : Bool). cond b (Some c) None) (eq-eqb place place refl)

abbrev pub unlinked_thread : Thread → Pool → ℕ → Thread
unlinked_thread thread p below = record {
  regs = record { pc = word.add thread.regs.pc 4; x = set (set thread.regs.x 4 (word_of p thread.chunk 0)) 2 (word_of p thread.chunk 1) };
  chunk = below;
  depth = thread.depth - 1;
}

abbrev pub given_areas : Areas → ℕ → Areas
given_areas areas chunk = record areas { pool = after_give areas.pool chunk }

pub unlink_goes : (areas : Areas) (thread : Thread) (below : ℕ) → IsPool areas.pool → Owns (thread_of areas thread) → (front : HasFront areas.pool thread) →
    (1 ≤ front.below → below ≡ chunk_below areas.pool thread.chunk) →
    unlinked (thread_of areas thread) ≡ Goes (thread_of (given_areas areas thread.chunk) (unlinked_thread thread areas.pool below))
unlink_goes areas thread below sound owns front next =
    let l = thread_of areas thread in
    let p = areas.pool in
    let c = thread.chunk in
    let q = after_give p c in
    let rest = chain_from p (chunk_below p c) front.below in
    let held = front_held areas thread front.below owns front.depth in
    let found : chunk_with_payload p (read thread.regs.x tp) ≡ Some c = ap (chunk_with_payload p) front.tp_is ∙ front_found p c sound held.0 in
    let gone : List ℕ → Local = λ cs. record {
      areas = given_areas areas c;
      core = record { pc = word.add thread.regs.pc 4; x = (unlinked_thread thread p below).regs.x; chain = cs };
    } in
    let kept : chain_from q (chunk_below p c) front.below ≡ rest = chain_from-kept p q (chunk_below p c) front.below refl (λ k there. saved_away k (λ same. twice k there same)) in
    let last : chain_from q below (thread.depth - 1) ≡ rest =
    (let less : thread.depth - 1 ≡ front.below = omega (arith, front.depth) in ap (chain_from q below) less) ∙ next_chain front.below refl ∙ kept in
    ap (unlinked_on l) found
    ∙ ap (λ (cs : List ℕ). Rattle.machine_world.specs.Local.unlinked_front l c cs) (chain_is p thread front.below front.depth)
    ∙ ap (λ (b : Bool). cond b (Goes (gone rest)) (Stops Wrong)) (eq-eqb c c refl)
    ∙ ap (λ (cs : List ℕ). Goes (gone cs)) (sym last)
  where
    saved_away : (k : ℕ) → k ≢ thread.chunk → saved_tp (after_give areas.pool thread.chunk) k ≡ saved_tp areas.pool k
    saved_away k apart = ap (λ (words : List ℕ). Rattle.std.specs.Prelude.slice_index words 0) (KeepsOthers-after_give areas.pool thread.chunk k apart)

    twice : (k : ℕ) → 1 ≤ copies k (chain_from areas.pool (chunk_below areas.pool thread.chunk) front.below) → k ≡ thread.chunk → ⊥
    twice k there same =
        let c = thread.chunk in
        let rest = chain_from areas.pool (chunk_below areas.pool c) front.below in
        let here = ap (copies c) (chain_is areas.pool thread front.below front.depth) ∙ copies-front c rest in
        let other : 1 ≤ copies c rest = subst (λ (n : ℕ). 1 ≤ copies n rest) same there in
        let most = owns.once c in
        let one = Rattle.segment_run.proofs.Owning.at_most_one c areas.pool.count in
        omega (arith, here, other, most, one)

    next_chain : (n : ℕ) → front.below ≡ n → chain_from (after_give areas.pool thread.chunk) below front.below ≡ chain_from (after_give areas.pool thread.chunk) (chunk_below areas.pool thread.chunk) front.below
    next_chain zero is = ap (chain_from (after_give areas.pool thread.chunk) below) is ∙ sym (ap (chain_from (after_give areas.pool thread.chunk) (chunk_below areas.pool thread.chunk)) is)
    next_chain (suc n) is = ap (λ (c : ℕ). chain_from (after_give areas.pool thread.chunk) c front.below) (next (omega (arith, is)))

-- the next chunk is found by the saved tp
pub next_found : (areas : Areas) (thread : Thread) → IsPool areas.pool → Owns (thread_of areas thread) → (front : HasFront areas.pool thread) → HeadersName areas.pool (thread_of areas thread).core.chain → 1 ≤ front.below →
    chunk_at (after_give areas.pool thread.chunk) (saved_tp areas.pool thread.chunk) ≡ Some (chunk_below areas.pool thread.chunk)
next_found areas thread sound owns front names more = through front.below refl where
  through : (n : ℕ) → front.below ≡ n → chunk_at (after_give areas.pool thread.chunk) (saved_tp areas.pool thread.chunk) ≡ Some (chunk_below areas.pool thread.chunk)
  through zero is = absurd (omega (arith, is, more))
  through (suc n) is =
      let p = areas.pool in
      let c = thread.chunk in
      let next = chunk_below p c in
      let chain : chain_from p c thread.depth ≡ c ∷ next ∷ chain_from p (chunk_below p next) n = chain_is p thread front.below front.depth ∙ ap (λ (k : ℕ). c ∷ chain_from p next k) is in
      let named : saved_tp p c ≡ payload_place_of p next = (subst (HeadersName p) chain names).0 in
      let here = ap (copies next) chain in
      let behind = Rattle.machine_world.proofs.HeldLaws.copies-cons next c (next ∷ chain_from p (chunk_below p next) n) in
      let held = IsHeld-owned (thread_of areas thread) next owns (omega (arith, here, behind, copies-front next (chain_from p (chunk_below p next) n))) in
      ap (chunk_at (after_give p c)) named ∙ payload_found p next sound held.0
