-- Each address belongs to one chunk at most, and where the chunks stand.
use Rattle.std.specs.Option.{SomeIff}
use Rattle.chunk_pool.proofs.Common.{◌≡◌, ℕ, ◌+◌, ◌-◌, ◌*◌, ◌/◌, ◌%◌, ◌<◌, ◌≤◌, ◌⊎◌, inl, inr, sym, ◌∙◌, ap, subst, arith, nat_lt, Option, Some, None, IfSome, IfNone, Bool, cond, cases_lt, lt-ltb, le-ltb, mul-add-lt, div-mul-add, mod-mul-add, div_below, mod_below, div-add-mod', Shape, Pool, shape_of, first_place, place_of, payload_place_of, bytes_of, words_of, start_of, size_in, HasAddress, IsHeld, chunk_at, IsPool, chunk_in, first_end, last_end, first_size, start_in}
use Rattle.chunk_pool.proofs.Shapes.{words_in-first, words_in-extra, start_in-first, start_in-extra, start_in-aligned, start_fits}

-- ---- the four parts of the addresses

pub chunk_in-below : (s : Shape) (address : ℕ) → address < first_place → chunk_in s address ≡ None
unfolding chunk_in
chunk_in-below s address below =
    ap (λ (a : Bool). cond a None (cond (nat_lt address (first_end s)) (Some ((address - first_place) / (4 * s.words))) (cond (nat_lt address (last_end s)) (Some (s.first_count + (address - first_end s) / (4 * s.extra_words))) None)))
    (lt-ltb address first_place below)

pub chunk_in-first : (s : Shape) (address : ℕ) → first_place ≤ address → address < first_end s → chunk_in s address ≡ Some ((address - first_place) / (4 * s.words))
unfolding chunk_in
chunk_in-first s address from below =
    ap (λ (a : Bool). cond a None (cond (nat_lt address (first_end s)) (Some ((address - first_place) / (4 * s.words))) (cond (nat_lt address (last_end s)) (Some (s.first_count + (address - first_end s) / (4 * s.extra_words))) None)))
    (le-ltb address first_place from)
    ∙ ap (λ (b : Bool). cond b (Some ((address - first_place) / (4 * s.words))) (cond (nat_lt address (last_end s)) (Some (s.first_count + (address - first_end s) / (4 * s.extra_words))) None))
    (lt-ltb address (first_end s) below)

behind_first : (s : Shape) (address : ℕ) → first_end s ≤ address → chunk_in s address ≡ cond (nat_lt address (last_end s)) (Some (s.first_count + (address - first_end s) / (4 * s.extra_words))) None
unfolding chunk_in
behind_first s address from =
    let above : first_place ≤ address = omega arith in
    ap (λ (a : Bool). cond a None (cond (nat_lt address (first_end s)) (Some ((address - first_place) / (4 * s.words))) (cond (nat_lt address (last_end s)) (Some (s.first_count + (address - first_end s) / (4 * s.extra_words))) None)))
    (le-ltb address first_place above)
    ∙ ap (λ (b : Bool). cond b (Some ((address - first_place) / (4 * s.words))) (cond (nat_lt address (last_end s)) (Some (s.first_count + (address - first_end s) / (4 * s.extra_words))) None))
    (le-ltb address (first_end s) from)

pub chunk_in-extra : (s : Shape) (address : ℕ) → first_end s ≤ address → address < last_end s → chunk_in s address ≡ Some (s.first_count + (address - first_end s) / (4 * s.extra_words))
chunk_in-extra s address from below =
    behind_first s address from
    ∙ ap (λ (c : Bool). cond c (Some (s.first_count + (address - first_end s) / (4 * s.extra_words))) None) (lt-ltb address (last_end s) below)

pub chunk_in-above : (s : Shape) (address : ℕ) → last_end s ≤ address → chunk_in s address ≡ None
chunk_in-above s address from =
    let behind : first_end s ≤ address = omega arith in
    behind_first s address behind
    ∙ ap (λ (c : Bool). cond c (Some (s.first_count + (address - first_end s) / (4 * s.extra_words))) None) (le-ltb address (last_end s) from)

-- ---- addresses

-- what lies in a run of equal parts lies in the part that a division finds
in_run : (from size count id address : ℕ) → id < count → from + id * size ≤ address → address < from + id * size + size → (address < from + count * size) × ((address - from) / size ≡ id)
in_run from size count id address within low high =
    let offset = address - (from + id * size) in
    let inside : address - from ≡ id * size + offset = omega arith in
    let below : id * size + offset < size * count = mul-add-lt id size offset count within (omega arith) in
    (omega arith, ap (λ (n : ℕ). n / size) inside ∙ div-mul-add id size offset (omega arith))

pub chunk_at-some : (p : Pool) (id address : ℕ) → HasAddress p id address → chunk_at p address ≡ Some id
chunk_at-some p id address has =
    let s = shape_of p in
    elim (cases_lt id s.first_count) [
      | inl first ↦
          let low : first_place + id * (4 * s.words) ≤ address = omega (arith, has.1, start_in-first s id first) in
          let high : address < first_place + id * (4 * s.words) + 4 * s.words = omega (arith, has.2, start_in-first s id first, words_in-first s id first) in
          let run = in_run first_place (4 * s.words) s.first_count id address first low high in
          let above : first_place ≤ address = omega arith in
          let below : address < first_end s = omega (arith, run.0) in
          chunk_in-first s address above below ∙ ap Some run.1
      | inr extra ↦
          let k = id - s.first_count in
          let low : first_end s + k * (4 * s.extra_words) ≤ address = omega (arith, has.1, start_in-extra s id extra) in
          let high : address < first_end s + k * (4 * s.extra_words) + 4 * s.extra_words = omega (arith, has.2, start_in-extra s id extra, words_in-extra s id extra) in
          let within : k < s.count - s.first_count = omega (arith, has.0) in
          let run = in_run (first_end s) (4 * s.extra_words) (s.count - s.first_count) k address within low high in
          let above : first_end s ≤ address = omega arith in
          let below : address < last_end s = omega (arith, run.0) in
          let number : s.first_count + (address - first_end s) / (4 * s.extra_words) ≡ id = omega (arith, run.1) in
          chunk_in-extra s address above below ∙ ap Some number
    ]

-- the part of a run of equal parts that a division finds
from_run : (from size count address : ℕ) → 0 < size → from ≤ address → address < from + count * size → (((address - from) / size < count) × (from + (address - from) / size * size ≤ address)) × (address < from + (address - from) / size * size + size)
from_run from size count address some low high =
    let offset = address - from in
    let within : offset / size < count = div_below offset size count some (omega arith) in
    let split : offset / size * size + offset % size ≡ offset = div-add-mod' offset size in
    ((within, omega (arith, split)), omega (arith, split, mod_below offset size some))

pub HasAddress-from_chunk_at : (p : Pool) (id address : ℕ) → IsPool p → chunk_at p address ≡ Some id → HasAddress p id address
HasAddress-from_chunk_at p id address sound at =
    let s = shape_of p in
    elim (cases_lt address first_place) [
      | inl below ↦ let none = chunk_in-below s address below in absurd (cc)
      | inr above ↦ elim (cases_lt address (first_end s)) [
        | inl in_first ↦
            let run = from_run first_place (4 * s.words) s.first_count address (omega (arith, sound.shape.header_fits)) above (omega arith) in
            let found = chunk_in-first s address above in_first in
            let same : (address - first_place) / (4 * s.words) ≡ id = cc in
            subst (λ (k : ℕ). HasAddress p k address) same (let k : ℕ = (address - first_place) / (4 * s.words) in
            let first : k < s.first_count = run.0.0 in (
              omega (arith, first, sound.shape.first_within),
              omega (arith, run.0.1, start_in-first s k first),
              omega (arith, run.1, start_in-first s k first, words_in-first s k first),
            ))
        | inr behind ↦ elim (cases_lt address (last_end s)) [
          | inl in_extra ↦
              let run = from_run (first_end s) (4 * s.extra_words) (s.count - s.first_count) address (omega (arith, sound.shape.extra_header_fits)) behind (omega arith) in
              let found = chunk_in-extra s address behind in_extra in
              let same : s.first_count + (address - first_end s) / (4 * s.extra_words) ≡ id = cc in
              subst (λ (k : ℕ). HasAddress p k address) same (let j : ℕ = (address - first_end s) / (4 * s.extra_words) in
              let k : ℕ = s.first_count + j in
              let extra : s.first_count ≤ k = omega arith in
              let back : k - s.first_count ≡ j = omega arith in
              let start : start_in s k ≡ first_size s + j * s.extra_words = start_in-extra s k extra ∙ ap (λ (n : ℕ). first_size s + n * s.extra_words) back in (
                omega (arith, run.0.0),
                omega (arith, run.0.1, start),
                omega (arith, run.1, start, words_in-extra s k extra),
              ))
          | inr past ↦ let none = chunk_in-above s address past in absurd (cc)
        ]
      ]
    ]

pub HasAddress-unique : (p : Pool) (a b address : ℕ) → HasAddress p a address → HasAddress p b address → a ≡ b
HasAddress-unique p a b address first second =
    let same : Some a ≡ Some b = sym (chunk_at-some p a address first) ∙ chunk_at-some p b address second in cc

-- what is found has the address, and where nothing is found no chunk has it
pub found_holds : (p : Pool) (address : ℕ) (found : Option ℕ) → IsPool p → found ≡ chunk_at p address → IfSome found (λ (id : ℕ). HasAddress p id address)
found_holds p address None sound e = tt
found_holds p address (Some id) sound e = HasAddress-from_chunk_at p id address sound (sym e)

pub found_none : (p : Pool) (address : ℕ) (found : Option ℕ) → found ≡ chunk_at p address → IfNone found ((id : ℕ) → ¬ HasAddress p id address)
found_none p address None e = λ id has. (let both : None ≡ Some id = e ∙ chunk_at-some p id address has in cc)
found_none p address (Some id) e = tt

pub place_of-aligned : (p : Pool) (id : ℕ) → IsPool p → place_of p id % 16 ≡ 0
place_of-aligned p id sound =
    let quarter = start_in-aligned (shape_of p) id sound.shape in
    let sixteens : place_of p id ≡ (134217728 + quarter.0) * 16 + 0 = omega (arith, quarter.1) in
    ap (λ (n : ℕ). n % 16) sixteens ∙ mod-mul-add (134217728 + quarter.0) 16 0 (omega arith)

-- every chunk lies between the places of the first and of the end of the largest pool
pub place_of-bounded : (p : Pool) (id : ℕ) → IsPool p → id < p.count → place_of p id + bytes_of p id ≤ 0x8400_0000
place_of-bounded p id sound within = omega (arith, sound.shape.size_bounded, start_fits (shape_of p) id sound.shape within)

-- ---- the word in which a byte lies

pub word_at : (p : Pool) (id address : ℕ) → HasAddress p id address → (address - first_place) / 4 ≡ start_of p id + (address - place_of p id) / 4
word_at p id address has = omega (arith, has.1)

pub word_within : (p : Pool) (id address : ℕ) → HasAddress p id address → (address - place_of p id) / 4 < words_of p id
word_within p id address has = omega (arith, has.1, has.2)

pub position_within : (p : Pool) (id address : ℕ) → IsPool p → HasAddress p id address → (address - first_place) / 4 < size_in (shape_of p)
position_within p id address sound has = omega (arith, has.1, has.2, start_fits (shape_of p) id sound.shape has.0)

-- a byte of a payload lies in a word behind the header
pub payload_word : (p : Pool) (id address : ℕ) → IsHeld p id ⊎ (payload_place_of p id ≤ address) → IsHeld p id ⊎ (4 ≤ (address - place_of p id) / 4)
payload_word p id address (inl held) = inl held
payload_word p id address (inr behind) = inr (omega (arith, behind))

-- ---- an answer that is there where something holds, and it holds

pub some_where : {P : Type 0} (answer : Option ℕ) (value : ℕ) → SomeIff answer P value → P → answer ≡ Some value
some_where None value none holds = absurd (none holds)
some_where (Some x) value there holds = ap (λ (n : ℕ). Some n) there.1
