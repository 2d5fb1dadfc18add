-- Some of the places of a list, in its order.
use Rattle.decisions.proofs.Common.{ℕ, ◌≡◌, ◌+◌, ◌≤◌, List, [], ◌∷◌, ◌++◌, Option, Some, None, arith, AllByRecursion, IsFirstPlace}
use Rattle.grammar_laws.specs.Rising.{RiseWithin}
use Rattle.grammar_laws.proofs.Walks.{from_lower}
use Rattle.decisions.proofs.Parts.{IsPart, keep, none, skip}

pub all_of : (places : List ℕ) → IsPart places places
all_of [] = none
all_of (p ∷ ps) = keep (all_of ps)

pub none_of : (places : List ℕ) → IsPart [] places
none_of [] = none
none_of (p ∷ ps) = skip (none_of ps)

-- a part behind places that are left out
pub behind : (left : List ℕ) {a b : List ℕ} → IsPart a b → IsPart a (left ++ b)
behind [] p = p
behind (x ∷ left) p = skip (behind left p)

pub part_rises : {part places : List ℕ} → IsPart part places → (low high : ℕ) → RiseWithin low places high → RiseWithin low part high
part_rises none low high r = r
part_rises (keep {x = x} p) low high r = (r.0, part_rises p (x + 1) high r.1)
part_rises (skip {y = x} {xs = a} p) low high r =
    from_lower low (x + 1) a high (let below = r.0 in omega (arith, below)) (part_rises p (x + 1) high r.1)

-- ---- the first

abbrev pub first_of : List ℕ → Option ℕ
first_of [] = None
first_of (p ∷ ps) = Some p

all_above : (low start : ℕ) (places : List ℕ) (high : ℕ) → low ≤ start → RiseWithin start places high → AllByRecursion (λ other. low ≤ other) places
all_above low start [] high h r = tt
all_above low start (p ∷ ps) high h r =
    ((let above = r.0 in omega (arith, h, above)), all_above low (p + 1) ps high (let above = r.0 in omega (arith, h, above)) r.1)

pub first_is_least : (places : List ℕ) (low high at : ℕ) → RiseWithin low places high → first_of places ≡ Some at → IsFirstPlace places at
first_is_least [] low high at r e = absurd (cc)
first_is_least (p ∷ ps) low high at r e =
    let same : p ≡ at = cc in
    record {
      one = (0, (omega arith), same);
      least = all_above at p (p ∷ ps) high (omega (arith, same)) ((omega arith), r.1);
    }
