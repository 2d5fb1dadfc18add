-- What a need takes of the free chunks, and when it takes nothing.
use Rattle.std.proofs.Common.{◌≡◌, ℕ, zero, suc, ◌+◌, ◌-◌, ◌*◌, ◌<◌, ◌≤◌, List, [], ◌∷◌, ◌++◌, length, drop, get_or, refl, sym, ◌∙◌, ap, subst, inl, inr, ◌⊎◌, arith, nat_eq, nat_le, nat_lt, All, Option, Some, None, IfSome, IsNone, IsTrue, Bool, true, false, cond, ◌&&◌, count_by, Contains}
use Rattle.chunk_pool.proofs.Common.{cases_Bool, le-leb, leb-true, lt-ltb, ltb-true, and_from, and_parts, false≢true, leb-false, eq-eqb, get_or_default, All-append, All-contains, Contains-append_left, Contains-append_right, Contains-append_cases, ◌↔◌, is_some, Shape, Pool, Taken, shape_of, bytes_of, all_free, with_free_of, first_or, fits, FitsNone, offers, choice, class_for, taken_of, taken_for, IsTaken, IsFree, IsHeld, IsPool, start_pool}
use Rattle.std.proofs.Math.Bool.{and-false}
use Rattle.chunk_pool.specs.declared.shape.Class.{Class}
use Rattle.chunk_pool.specs.declared.shape.Class.TheVariants.{First, Extra}
use Rattle.chunk_pool.proofs.Shapes.{words_in-first, words_in-extra}
use Rattle.chunk_pool.proofs.PoolLaws.{IsPool-taken_first, IsPool-taken_extra}
use Rattle.chunk_pool.proofs.FreeLaws.{free_first, free_extra, free_below_count, copies-cons, copies-append, copies-free, absent_from_copies}

-- ---- of which size a need takes

choice-first : (a b c : Bool) → choice a b c ≡ Some First → (a ≡ true) × (b ≡ true → c ≡ true)
choice-first true false c e = (refl, λ no. absurd (false≢true no))
choice-first true true true e = (refl, λ same. refl)
choice-first false false c e = absurd (let both : None ≡ Some First = e in cc)
choice-first _ true _ e = absurd (let both : Some Extra ≡ Some First = e in cc)

choice-extra : (a b c : Bool) → choice a b c ≡ Some Extra → (b ≡ true) × (a ≡ true → c ≡ false)
choice-extra true true false e = (refl, λ same. refl)
choice-extra false true c e = (refl, λ no. absurd (false≢true no))
choice-extra false false c e = absurd (let both : None ≡ Some Extra = e in cc)
choice-extra true _ _ e = absurd (let both : Some First ≡ Some Extra = e in cc)

choice-none : (a b c : Bool) → choice a b c ≡ None → (a ≡ false) × (b ≡ false)
choice-none true false c e = absurd (let both : Some First ≡ None = e in cc)
choice-none true true true e = absurd (let both : Some First ≡ None = e in cc)
choice-none true true false e = absurd (let both : Some Extra ≡ None = e in cc)
choice-none false true c e = absurd (let both : Some Extra ≡ None = e in cc)
choice-none false false c e = (refl, refl)

-- a list that isn't empty begins with a number
pub front : (ids : List ℕ) (end : ℕ) → 0 < length ids → ids ≡ first_or ids end ∷ drop 1 ids
front [] end some = absurd (omega arith)
front (id ∷ ids) end some = refl

offers-parts : (words free need : ℕ) → offers words free need ≡ true → (0 < free) × (need ≤ 4 * words - 16)
offers-parts words free need e =
    let parts = and_parts (nat_lt 0 free) (nat_le need (4 * words - 16)) e in
    (ltb-true 0 free parts.0, leb-true need (4 * words - 16) parts.1)

offers-from : (words free need : ℕ) → 0 < free → need ≤ 4 * words - 16 → offers words free need ≡ true
offers-from words free need some room = and_from (nat_lt 0 free) (nat_le need (4 * words - 16)) (lt-ltb 0 free some) (le-leb need (4 * words - 16) room)

-- ---- what is taken

-- the need takes the first free number of the first size
record TakesFirst (p : Pool) (need : ℕ) (taken : Taken) : Type 0 where
  free : p.free ≡ taken.chunk ∷ taken.pool.free
  pool : taken.pool ≡ record p { free = drop 1 p.free }
  room : need ≤ 4 * p.words - 16
  smaller : offers p.extra_words (length p.extra_free) need ≡ true → p.words ≤ p.extra_words

-- the need takes the first free number of the second size
record TakesExtra (p : Pool) (need : ℕ) (taken : Taken) : Type 0 where
  free : p.extra_free ≡ taken.chunk ∷ taken.pool.extra_free
  pool : taken.pool ≡ record p { extra_free = drop 1 p.extra_free }
  room : need ≤ 4 * p.extra_words - 16
  smaller : offers p.words (length p.free) need ≡ true → p.extra_words ≤ p.words

takes : (p : Pool) (need : ℕ) (taken : Taken) → taken_for p need ≡ Some taken → TakesFirst p need taken ⊎ TakesExtra p need taken
unfolding taken_for
takes p need taken e = by (class_for p need) refl e where
  a : Bool
  a = offers p.words (length p.free) need

  b : Bool
  b = offers p.extra_words (length p.extra_free) need

  c : Bool
  c = nat_le p.words p.extra_words

  by : (class : Option Class) → class_for p need ≡ class → taken_of p class ≡ Some taken → TakesFirst p need taken ⊎ TakesExtra p need taken
  by None is found = absurd (let both : None ≡ Some taken = found in cc)
  by (Some First) is found =
      let which = choice-first a b c is in
      let parts = offers-parts p.words (length p.free) need which.0 in
      let made : Taken = record { chunk = first_or p.free p.count; pool = record p { free = drop 1 p.free } } in
      let same : made ≡ taken = (let both : Some made ≡ Some taken = found in cc) in
      inl (subst (TakesFirst p need) same (record {
        free = front p.free p.count parts.0;
        pool = refl;
        room = parts.1;
        smaller = λ offered. leb-true p.words p.extra_words (which.1 offered);
      }))
  by (Some Extra) is found =
      let which = choice-extra a b c is in
      let parts = offers-parts p.extra_words (length p.extra_free) need which.0 in
      let made : Taken = record { chunk = first_or p.extra_free p.count; pool = record p { extra_free = drop 1 p.extra_free } } in
      let same : made ≡ taken = (let both : Some made ≡ Some taken = found in cc) in
      inr (subst (TakesExtra p need) same (record {
        free = front p.extra_free p.count parts.0;
        pool = refl;
        room = parts.1;
        smaller = λ offered. omega (arith, leb-false p.words p.extra_words (which.1 offered));
      }))

-- ---- fitting chunks of each size

fits-first : (p : Pool) (need id : ℕ) → id < p.first_count → fits p need id ≡ nat_le need (4 * p.words - 16)
fits-first p need id below = ap (λ (n : ℕ). nat_le need (4 * n - 16)) (words_in-first (shape_of p) id below)

fits-extra : (p : Pool) (need id : ℕ) → p.first_count ≤ id → fits p need id ≡ nat_le need (4 * p.extra_words - 16)
fits-extra p need id from = ap (λ (n : ℕ). nat_le need (4 * n - 16)) (words_in-extra (shape_of p) id from)

some-front : (ids : List ℕ) (id : ℕ) → Contains ids id → 0 < length ids
some-front ids id there = omega (arith, there.1)

none_of : (ids : List ℕ) (end words need : ℕ) (fit : ℕ → Bool) → ((id : ℕ) → Contains ids id → fit id ≡ nat_le need (4 * words - 16)) → All (λ id. fit id ≡ false) ids → offers words (length ids) need ≡ false
none_of [] end words need fit same each = refl
none_of (id ∷ ids) end words need fit same each =
    let first : Contains (id ∷ ids) id = (0, omega arith, refl) in
    let not : nat_le need (4 * words - 16) ≡ false = sym (same id first) ∙ All-contains (λ id. fit id ≡ false) (id ∷ ids) id each first in
    ap (λ (b : Bool). nat_lt 0 (length (id ∷ ids)) && b) not ∙ and-false (nat_lt 0 (length (id ∷ ids)))

not_offered : (ids : List ℕ) (words need : ℕ) (fit : ℕ → Bool) → ((id : ℕ) → Contains ids id → fit id ≡ nat_le need (4 * words - 16)) → offers words (length ids) need ≡ false → All (λ id. fit id ≡ false) ids
not_offered ids words need fit same none k d within =
    let id = get_or ids k d in
    let there : Contains ids id = (k, within, get_or_default ids k (get_or ids k d) d within) in
    elim (cases_Bool (nat_le need (4 * words - 16))) [
      | inl fit ↦ let yes = offers-from words (length ids) need (omega arith) (leb-true need (4 * words - 16) fit) in absurd (false≢true (sym none ∙ yes))
      | inr not ↦ same id there ∙ not
    ]

pub taken_for-none : (p : Pool) (need : ℕ) → IsPool p → (taken_for p need ≡ None) ↔ All (λ id. fits p need id ≡ false) (all_free p)
unfolding taken_for
taken_for-none p need sound = (none_fits, nothing_taken) where
  a : Bool
  a = offers p.words (length p.free) need

  b : Bool
  b = offers p.extra_words (length p.extra_free) need

  first_same : (id : ℕ) → Contains p.free id → fits p need id ≡ nat_le need (4 * p.words - 16)
  first_same id there = fits-first p need id (free_first p id sound there)

  extra_same : (id : ℕ) → Contains p.extra_free id → fits p need id ≡ nat_le need (4 * p.extra_words - 16)
  extra_same id there = fits-extra p need id (free_extra p id sound there).0

  none_fits : taken_of p (class_for p need) ≡ None → All (λ id. fits p need id ≡ false) (all_free p)
  none_fits none = by (class_for p need) refl none where
    by : (class : Option Class) → class_for p need ≡ class → taken_of p class ≡ None → All (λ id. fits p need id ≡ false) (all_free p)
    by (Some First) is found =
        let made : Taken = record { chunk = first_or p.free p.count; pool = record p { free = drop 1 p.free } } in
        absurd (let both : Some made ≡ None = found in cc)
    by (Some Extra) is found =
        let made : Taken = record { chunk = first_or p.extra_free p.count; pool = record p { extra_free = drop 1 p.extra_free } } in
        absurd (let both : Some made ≡ None = found in cc)
    by None is found =
        let which = choice-none a b (nat_le p.words p.extra_words) is in
        All-append (λ id. fits p need id ≡ false) p.free p.extra_free
        (not_offered p.free p.words need (fits p need) first_same which.0)
        (not_offered p.extra_free p.extra_words need (fits p need) extra_same which.1)

  nothing_taken : All (λ id. fits p need id ≡ false) (all_free p) → taken_of p (class_for p need) ≡ None
  nothing_taken each =
      let no_first : a ≡ false = none_of p.free p.count p.words need (fits p need) first_same
      (λ k d within. All-contains (λ id. fits p need id ≡ false) (all_free p) (get_or p.free k d) each (Contains-append_left p.free p.extra_free (get_or p.free k d) (k, within, get_or_default p.free k (get_or p.free k d) d within))) in
      let no_extra : b ≡ false = none_of p.extra_free p.count p.extra_words need (fits p need) extra_same
      (λ k d within. All-contains (λ id. fits p need id ≡ false) (all_free p) (get_or p.extra_free k d) each (Contains-append_right p.free p.extra_free (get_or p.extra_free k d) (k, within, get_or_default p.extra_free k (get_or p.extra_free k d) d within))) in
      ap (λ (x : Bool). taken_of p (choice x b (nat_le p.words p.extra_words))) no_first
      ∙ ap (λ (y : Bool). taken_of p (choice false y (nat_le p.words p.extra_words))) no_extra

pub taken_for-fits : (p : Pool) (need : ℕ) (taken : Taken) → IsPool p → taken_for p need ≡ Some taken → IsFree p taken.chunk × IsTrue (fits p need taken.chunk)
taken_for-fits p need taken sound e = elim (takes p need taken e) [
  | inl first ↦
      let there : Contains p.free taken.chunk = subst (λ ids. Contains ids taken.chunk) (sym first.free) (0, omega arith, refl) in (
        Contains-append_left p.free p.extra_free taken.chunk there,
        fits-first p need taken.chunk (free_first p taken.chunk sound there) ∙ le-leb need (4 * p.words - 16) first.room,
      )
  | inr extra ↦
      let there : Contains p.extra_free taken.chunk = subst (λ ids. Contains ids taken.chunk) (sym extra.free) (0, omega arith, refl) in (
        Contains-append_right p.free p.extra_free taken.chunk there,
        fits-extra p need taken.chunk (free_extra p taken.chunk sound there).0 ∙ le-leb need (4 * p.extra_words - 16) extra.room,
      )
]

-- no free chunk that fits is smaller
pub taken_for-smallest : (p : Pool) (need : ℕ) (taken : Taken) (id : ℕ) → IsPool p → taken_for p need ≡ Some taken → IsFree p id → IsTrue (fits p need id) → bytes_of p taken.chunk ≤ bytes_of p id
taken_for-smallest p need taken id sound e free fit = elim (takes p need taken e) [
  | inl first ↦
      let there : Contains p.free taken.chunk = subst (λ ids. Contains ids taken.chunk) (sym first.free) (0, omega arith, refl) in
      let own = words_in-first (shape_of p) taken.chunk (free_first p taken.chunk sound there) in
      elim (Contains-append_cases p.free p.extra_free id free) [
        | inl in_first ↦ omega (arith, own, words_in-first (shape_of p) id (free_first p id sound in_first))
        | inr in_extra ↦
            let from = (free_extra p id sound in_extra).0 in
            let room = leb-true need (4 * p.extra_words - 16) (sym (fits-extra p need id from) ∙ fit) in
            omega (arith, own, words_in-extra (shape_of p) id from, first.smaller (offers-from p.extra_words (length p.extra_free) need (some-front p.extra_free id in_extra) room))
      ]
  | inr extra ↦
      let there : Contains p.extra_free taken.chunk = subst (λ ids. Contains ids taken.chunk) (sym extra.free) (0, omega arith, refl) in
      let own = words_in-extra (shape_of p) taken.chunk (free_extra p taken.chunk sound there).0 in
      elim (Contains-append_cases p.free p.extra_free id free) [
        | inr in_extra ↦ omega (arith, own, words_in-extra (shape_of p) id (free_extra p id sound in_extra).0)
        | inl in_first ↦
            let below = free_first p id sound in_first in
            let room = leb-true need (4 * p.words - 16) (sym (fits-first p need id below) ∙ fit) in
            omega (arith, own, words_in-first (shape_of p) id below, extra.smaller (offers-from p.words (length p.free) need (some-front p.free id in_first) room))
      ]
]

pub taken_for-leaves : (p : Pool) (need : ℕ) (taken : Taken) → taken_for p need ≡ Some taken → (id : ℕ) → count_by (λ other. nat_eq other id) (all_free p) ≡ count_by (λ other. nat_eq other id) (taken.chunk ∷ all_free taken.pool)
taken_for-leaves p need taken e id = elim (takes p need taken e) [
  | inl first ↦
      let rest : taken.pool.extra_free ≡ p.extra_free = ap (λ (q : Pool). q.extra_free) first.pool in
      ap (λ (ids : List ℕ). count_by (λ other. nat_eq other id) (ids ++ p.extra_free)) first.free
      ∙ ap (λ (ids : List ℕ). count_by (λ other. nat_eq other id) ((taken.chunk ∷ taken.pool.free) ++ ids)) (sym rest)
  | inr extra ↦
      let rest : taken.pool.free ≡ p.free = ap (λ (q : Pool). q.free) extra.pool in
      let one : ℕ = cond (nat_eq taken.chunk id) 1 0 in
      let copies : List ℕ → ℕ = count_by (λ other. nat_eq other id) in
      let whole : copies (p.free ++ p.extra_free) ≡ copies p.free + copies (taken.chunk ∷ taken.pool.extra_free) =
      copies-append p.free p.extra_free id ∙ ap (λ (ids : List ℕ). copies p.free + copies ids) extra.free in
      let left : copies (taken.pool.free ++ taken.pool.extra_free) ≡ copies p.free + copies taken.pool.extra_free =
      copies-append taken.pool.free taken.pool.extra_free id ∙ ap (λ (ids : List ℕ). copies ids + copies taken.pool.extra_free) rest in
      let sum : copies (p.free ++ p.extra_free) ≡ copies (taken.chunk ∷ (taken.pool.free ++ taken.pool.extra_free)) =
      omega (
        arith,
        whole,
        left,
        copies-cons taken.chunk taken.pool.extra_free id (nat_eq taken.chunk id) refl,
        copies-cons taken.chunk (taken.pool.free ++ taken.pool.extra_free) id (nat_eq taken.chunk id) refl,
      ) in
      sum
]

pub taken_for-keeps : (p : Pool) (need : ℕ) (taken : Taken) → taken_for p need ≡ Some taken → taken.pool ≡ with_free_of p taken.pool
taken_for-keeps p need taken e = elim (takes p need taken e) [
  | inl first ↦ subst (λ (q : Pool). q ≡ with_free_of p q) (sym first.pool) refl
  | inr extra ↦ subst (λ (q : Pool). q ≡ with_free_of p q) (sym extra.pool) refl
]

-- a take leaves the shape
pub taken_for-shape : (p : Pool) (need : ℕ) (taken : Taken) → taken_for p need ≡ Some taken → shape_of taken.pool ≡ shape_of p
taken_for-shape p need taken e = ap shape_of (taken_for-keeps p need taken e)

pub taken_for-count : (p : Pool) (need : ℕ) (taken : Taken) → taken_for p need ≡ Some taken → taken.pool.count ≡ p.count
taken_for-count p need taken e = ap (λ (s : Shape). s.count) (taken_for-shape p need taken e)

-- the pool after a need took its chunk is sound, and the chunk is held
pub taken_for-sound : (p : Pool) (need : ℕ) (taken : Taken) → IsPool p → taken_for p need ≡ Some taken → IsPool taken.pool × IsHeld taken.pool taken.chunk
taken_for-sound p need taken sound e =
    let pool : IsPool taken.pool = elim (takes p need taken e) [
      | inl first ↦ subst IsPool (sym first.pool) (IsPool-taken_first p sound)
      | inr extra ↦ subst IsPool (sym extra.pool) (IsPool-taken_extra p sound)
    ] in
    let free = (taken_for-fits p need taken sound e).0 in
    let once = copies-free p taken.chunk sound free in
    let rest : count_by (λ other. nat_eq other taken.chunk) (all_free taken.pool) ≡ 0 =
    omega (arith, once, taken_for-leaves p need taken e taken.chunk, copies-cons taken.chunk (all_free taken.pool) taken.chunk true (eq-eqb taken.chunk taken.chunk refl)) in
    (pool, (omega (arith, free_below_count p taken.chunk sound free, taken_for-count p need taken e), absent_from_copies taken.pool taken.chunk rest))

-- where a free chunk fits, the need takes one
pub taken_for-some : (p : Pool) (need id : ℕ) → IsPool p → IsFree p id → IsTrue (fits p need id) → (taken : Taken) × (taken_for p need ≡ Some taken)
taken_for-some p need id sound free fit = by (taken_for p need) refl where
  by : (found : Option Taken) → taken_for p need ≡ found → (taken : Taken) × (taken_for p need ≡ Some taken)
  by None none =
      let not : fits p need id ≡ false = All-contains (λ k. fits p need k ≡ false) (all_free p) id ((taken_for-none p need sound).0 none) free in
      absurd (false≢true (sym not ∙ fit))
  by (Some taken) some = (taken, some)

-- a size is chosen but where no free chunk fits
pub class_for-fits : (p : Pool) (need : ℕ) → IsPool p → (is_some (class_for p need) ≡ false) ↔ FitsNone p need
unfolding taken_for
class_for-fits p need sound = by (class_for p need) refl where
  by : (class : Option Class) → class_for p need ≡ class → (is_some class ≡ false) ↔ FitsNone p need
  by None is = ((λ no. (taken_for-none p need sound).0 (ap (taken_of p) is)), (λ none. refl))
  by (Some First) is =
      let made : Taken = record { chunk = first_or p.free p.count; pool = record p { free = drop 1 p.free } } in
      ((λ no. absurd (false≢true (sym no))), (λ none. (let both : Some made ≡ None = sym (ap (taken_of p) is) ∙ (taken_for-none p need sound).1 none in absurd (cc))))
  by (Some Extra) is =
      let made : Taken = record { chunk = first_or p.extra_free p.count; pool = record p { extra_free = drop 1 p.extra_free } } in
      ((λ no. absurd (false≢true (sym no))), (λ none. (let both : Some made ≡ None = sym (ap (taken_of p) is) ∙ (taken_for-none p need sound).1 none in absurd (cc))))

-- ---- what a take of that size does

pub IsTaken-first : (p : Pool) (need id : ℕ) (new : Pool) → class_for p need ≡ Some First → id ≡ first_or p.free p.count → new ≡ record p { free = drop 1 p.free } → IsTaken (taken_for p need) (Some id) p new
unfolding taken_for
IsTaken-first p need id new which first after = subst (λ (class : Option Class). IsTaken (taken_of p class) (Some id) p new) (sym which) (ap Some first, after)

pub IsTaken-extra : (p : Pool) (need id : ℕ) (new : Pool) → class_for p need ≡ Some Extra → id ≡ first_or p.extra_free p.count → new ≡ record p { extra_free = drop 1 p.extra_free } → IsTaken (taken_for p need) (Some id) p new
unfolding taken_for
IsTaken-extra p need id new which first after = subst (λ (class : Option Class). IsTaken (taken_of p class) (Some id) p new) (sym which) (ap Some first, after)

pub IsTaken-none : (p : Pool) (need : ℕ) → class_for p need ≡ None → IsTaken (taken_for p need) None p p
unfolding taken_for
IsTaken-none p need which = subst (λ (class : Option Class). IsTaken (taken_of p class) None p p) (sym which) (refl, refl)

-- an answer is none just where nothing fits, else a free chunk that fits and is then held
pub take_tells : (p : Pool) (need : ℕ) (answer : Option ℕ) (new : Pool) → IsPool p → IsTaken (taken_for p need) answer p new →
    (IsNone answer ↔ FitsNone p need) × IfSome answer (λ (id : ℕ). IsFree p id × IsTrue (fits p need id) × IsHeld new id)
take_tells p need answer new sound is = by (taken_for p need) refl is where
  by : (found : Option Taken) → taken_for p need ≡ found → IsTaken found answer p new → (IsNone answer ↔ FitsNone p need) × IfSome answer (λ (id : ℕ). IsFree p id × IsTrue (fits p need id) × IsHeld new id)
  by None e is =
      subst (λ (a : Option ℕ). (IsNone a ↔ FitsNone p need) × IfSome a (λ (id : ℕ). IsFree p id × IsTrue (fits p need id) × IsHeld new id)) (sym is.0)
      (((λ none. (taken_for-none p need sound).0 e), (λ none. refl)), tt)
  by (Some taken) e is =
      let there = taken_for-fits p need taken sound e in
      let held = (taken_for-sound p need taken sound e).1 in
      subst (λ (a : Option ℕ). (IsNone a ↔ FitsNone p need) × IfSome a (λ (id : ℕ). IsFree p id × IsTrue (fits p need id) × IsHeld new id)) (sym is.0) (
        ((λ none. absurd (false≢true (sym none))), (λ none. (let both : Some taken ≡ None = sym e ∙ (taken_for-none p need sound).1 none in absurd (cc)))),
        (there.0, there.1, subst (λ (q : Pool). IsHeld q taken.chunk) (sym is.1) held),
      )

-- a pool at its start has a chunk for each need that a payload of the first size holds
pub taken_for-start : (chunks words extra extra_words need : ℕ) → IsPool (start_pool chunks words extra extra_words) → need + 16 ≤ 4 * words → (taken : Taken) × (taken_for (start_pool chunks words extra extra_words) need ≡ Some taken)
taken_for-start zero words extra extra_words need sound room = absurd (omega (arith, sound.shape.some_chunks))
taken_for-start (suc chunks) words extra extra_words need sound room =
    let p : Pool = start_pool (suc chunks) words extra extra_words in
    let there : Contains p.free 0 = (0, omega arith, refl) in
    let below : 0 < p.first_count = omega arith in
    taken_for-some p need 0 sound (Contains-append_left p.free p.extra_free 0 there)
    (fits-first p need 0 below ∙ le-leb need (4 * words - 16) (omega arith))
