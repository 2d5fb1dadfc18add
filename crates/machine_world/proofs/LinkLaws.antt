-- An UNLINK just after a LINK undoes it, but for the words of the chunk's header.
use Rattle.machine_world.proofs.Common.{◌≡◌, ◌≢◌, ℕ, ◌^◌, ◌<◌, ◌≤◌, Bool, false, eqb, inl, ⊎_elim, List, [], ◌∷◌, length, set, get_or, drop, Option, Some, None, refl, sym, ap, subst, ◌∙◌, arith, cond, get_or-set_same, get_or-set_other, cond_both, cases_eq, cases_lt, eq-eqb, ne_eqb, length-set, drop-set-lt, set_past, chunk_at-some, taken_for-sound, taken_for-keeps, taken_for-leaves, word_of-with_word_same, word_of-with_word_other, KeepsOthers-with_word, payload_of-after_give, IsPool-with_word, read, write, sp, tp, t1, Local, Wrong, with_header, saved_tp, saved_sp, after_call, linked_on, linked, unlinked_on, unlinked, begins_at, chunk_with_payload, words_of-payload, copies-after_give}
use Rattle.cap_word.specs.Runs.{Goes, Stops}
use Rattle.chunk_pool.specs.Pool.{Pool, Taken, taken_for, with_word, chunk_of, payload_of, end_of, payload_place_of, all_free, after_give, HasAddress, IsPool, IsHeld, words_of}
use Rattle.machine_world.specs.Links.{IsUndone}
use Rattle.machine_world.proofs.HeldLaws.{copies-cons}

-- ---- headers

payload_of-with_word : (p : Pool) (c word value other : ℕ) → word < 4 → payload_of (with_word p c word value) other ≡ payload_of p other
payload_of-with_word p c word value other header = ⊎_elim
    (λ (same : other ≡ c). subst (λ (k : ℕ). payload_of (with_word p c word value) k ≡ payload_of p k) (sym same) (⊎_elim
    (λ (within : c < length p.contents). ap (drop 4) (get_or-set_same p.contents c (set (chunk_of p c) word value) [] within) ∙ drop-set-lt 4 (chunk_of p c) word value header)
    (λ (past : length p.contents ≤ c). ap (λ (contents : List (List ℕ)). drop 4 (get_or contents c [])) (set_past p.contents c (set (chunk_of p c) word value) past))
    (cases_lt c (length p.contents))))
    (λ (apart : other ≢ c). ap (drop 4) (KeepsOthers-with_word p c word value other apart))
    (cases_eq other c)

pub payload_of-with_header : (p : Pool) (c a b other : ℕ) → payload_of (with_header p c a b) other ≡ payload_of p other
payload_of-with_header p c a b other = payload_of-with_word (with_word p c 0 a) c 1 b other (omega arith) ∙ payload_of-with_word p c 0 a other (omega arith)

pub saved_tp-with_header : (p : Pool) (c a b : ℕ) → IsPool p → c < p.count → saved_tp (with_header p c a b) c ≡ a
saved_tp-with_header p c a b sound within =
    word_of-with_word_other (with_word p c 0 a) c 1 b 0 (λ same. omega arith) ∙ word_of-with_word_same p c 0 a sound within (omega (arith, words_of-payload p c sound within))

pub saved_sp-with_header : (p : Pool) (c a b : ℕ) → IsPool p → a < 2 ^ 32 → c < p.count → IsHeld p c → saved_sp (with_header p c a b) c ≡ b
saved_sp-with_header p c a b sound fits within held =
    let room : 4 < words_of (with_word p c 0 a) c = words_of-payload p c sound within in
    word_of-with_word_same (with_word p c 0 a) c 1 b (IsPool-with_word p c 0 a sound within fits (inl held)) within (omega (arith, room))

-- ---- registers

pub read-write_same : (x : List ℕ) (r v : ℕ) → 0 < r → r < length x → read (write x r v) r ≡ v
read-write_same x r v some within =
    let no : eqb r 0 ≡ false = ne_eqb r 0 (λ same. omega arith) in
    ap (λ (b : Bool). cond b 0 (get_or (cond b x (set x r v)) r 0)) no ∙ get_or-set_same x r v 0 within

read-write_other : (x : List ℕ) (r v s : ℕ) → s ≢ r → read (write x r v) s ≡ read x s
read-write_other x r v s apart =
    cond_both (eqb r 0) x (set x r v) (λ y. cond (eqb s 0) 0 (get_or y s 0) ≡ read x s)
    (λ _. refl)
    (λ _. ap (cond (eqb s 0) 0) (get_or-set_other x r s v 0 apart))

length-write : (x : List ℕ) (r v : ℕ) → length (write x r v) ≡ length x
length-write x r v = cond_both (eqb r 0) x (set x r v) (λ y. length y ≡ length x) (λ _. refl) (λ _. length-set x r v)

-- tp and sp, set and then set again
tp_after : (x : List ℕ) (a b : ℕ) → 4 < length x → read (write (write x tp a) sp b) tp ≡ a
tp_after x a b long = read-write_other (write x tp a) sp b tp (λ same. omega arith) ∙ read-write_same x tp a (omega arith) long

sp_after : (x : List ℕ) (a b : ℕ) → 4 < length x → read (write (write x tp a) sp b) sp ≡ b
sp_after x a b long = read-write_same (write x tp a) sp b (omega arith) (omega (arith, length-write x tp a))

other_after : (x : List ℕ) (a b r : ℕ) → r ≢ tp → r ≢ sp → read (write (write x tp a) sp b) r ≡ read x r
other_after x a b r not_tp not_sp = read-write_other (write x tp a) sp b r not_sp ∙ read-write_other x tp a r not_tp

twice : (x : List ℕ) (a b a' b' r : ℕ) → 4 < length x → a' ≡ read x tp → b' ≡ read x sp → read (write (write (write (write x tp a) sp b) tp a') sp b') r ≡ read x r
twice x a b a' b' r long same_tp same_sp =
    let y = write (write x tp a) sp b in
    let long' : 4 < length y = omega (arith, length-write x tp a, length-write (write x tp a) sp b) in
    ⊎_elim
    (λ (is_tp : r ≡ tp). ap (read (write (write y tp a') sp b')) is_tp ∙ tp_after y a' b' long' ∙ same_tp ∙ ap (read x) (sym is_tp))
    (λ (not_tp : r ≢ tp). ⊎_elim
    (λ (is_sp : r ≡ sp). ap (read (write (write y tp a') sp b')) is_sp ∙ sp_after y a' b' long' ∙ same_sp ∙ ap (read x) (sym is_sp))
    (λ (not_sp : r ≢ sp). other_after y a' b' r not_tp not_sp ∙ other_after x a b r not_tp not_sp)
    (cases_eq r sp))
    (cases_eq r tp)

-- ---- the chunk that was linked is found again

HasAddress-payload : (p : Pool) (c : ℕ) → IsPool p → c < p.count → HasAddress p c (payload_place_of p c)
HasAddress-payload p c sound within = (within, omega arith, omega (arith, words_of-payload p c sound within))

-- ---- both

abbrev linked_local : Local → Taken → Local
linked_local l taken = record {
  areas = record l.areas { pool = with_header taken.pool taken.chunk (read l.core.x tp) (read l.core.x sp) };
  core = after_call l.core (taken.chunk ∷ l.core.chain) (payload_place_of taken.pool taken.chunk) (end_of taken.pool taken.chunk);
}

abbrev unlinked_local : Local → ℕ → List ℕ → Local
unlinked_local l chunk chain = record {
  areas = record l.areas { pool = after_give l.areas.pool chunk };
  core = after_call l.core chain (saved_tp l.areas.pool chunk) (saved_sp l.areas.pool chunk);
}

unlinked-linked : (l : Local) (taken : Taken) → IsPool taken.pool → IsHeld taken.pool taken.chunk → 4 < length l.core.x →
    unlinked (linked_local l taken) ≡ Goes (unlinked_local (linked_local l taken) taken.chunk l.core.chain)
unlinked-linked l taken sound held long =
    let m = linked_local l taken in
    let c = taken.chunk in
    let p = m.areas.pool in
    let at_payload : read m.core.x tp ≡ payload_place_of taken.pool c = tp_after l.core.x (payload_place_of taken.pool c) (end_of taken.pool c) long in
    let found : chunk_with_payload p (read m.core.x tp) ≡ Some c =
    ap (chunk_with_payload p) at_payload ∙ found_again taken.pool c (read l.core.x tp) (read l.core.x sp) sound held.0 in
    ap (unlinked_on m) found
    ∙ ap (λ (b : Bool). cond b (Goes (unlinked_local m c l.core.chain)) (Stops Wrong)) (eq-eqb c c refl)
  where
    found_again : (p : Pool) (c a b : ℕ) → IsPool p → c < p.count → chunk_with_payload (with_header p c a b) (payload_place_of p c) ≡ Some c
    found_again p c a b sound within =
        let place = payload_place_of p c in
        ap (begins_at (with_header p c a b) place) (chunk_at-some (with_header p c a b) c place (HasAddress-payload p c sound within))
        ∙ ap (λ (t : Bool). cond t (Some c) None) (eq-eqb place place refl)

pub unlinked-undoes : (l m : Local) → IsPool l.areas.pool → 4 < length l.core.x → read l.core.x tp < 2 ^ 32 → linked l ≡ Goes m → (n : Local) × (unlinked m ≡ Goes n) × IsUndone l n
unlinked-undoes l m sound long fits e = through (taken_for l.areas.pool (read l.core.x t1)) refl e where
  through : (found : Option Taken) → taken_for l.areas.pool (read l.core.x t1) ≡ found → linked_on l found ≡ Goes m → (n : Local) × (unlinked m ≡ Goes n) × IsUndone l n
  through None none e = absurd (cc)
  through (Some taken) some e =
      let same : linked_local l taken ≡ m = cc in
      let pool = taken_for-sound l.areas.pool (read l.core.x t1) taken sound some in
      let keeps = taken_for-keeps l.areas.pool (read l.core.x t1) taken some in
      let c = taken.chunk in
      let n = unlinked_local (linked_local l taken) c l.core.chain in
      let back_tp = saved_tp-with_header taken.pool c (read l.core.x tp) (read l.core.x sp) pool.0 pool.1.0 in
      let back_sp = saved_sp-with_header taken.pool c (read l.core.x tp) (read l.core.x sp) pool.0 fits pool.1.0 pool.1 in (
        n,
        ap unlinked (sym same) ∙ unlinked-linked l taken pool.0 pool.1 long,
        record {
          chain = refl;
          registers = λ r. twice l.core.x _ _ _ _ r long back_tp back_sp;
          globals = refl;
          tables = refl;
          free = λ chunk. copies-after_give (with_header taken.pool c (read l.core.x tp) (read l.core.x sp)) c chunk
              ∙ sym (copies-cons chunk c (all_free taken.pool))
              ∙ sym (taken_for-leaves l.areas.pool (read l.core.x t1) taken some chunk);
          payloads = λ chunk. payload_of-after_give (with_header taken.pool c (read l.core.x tp) (read l.core.x sp)) c chunk
              ∙ payload_of-with_header taken.pool c (read l.core.x tp) (read l.core.x sp) chunk
              ∙ ap (λ (p : Pool). payload_of p chunk) keeps;
        },
      )
