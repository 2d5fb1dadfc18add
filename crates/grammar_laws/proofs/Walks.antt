-- How places rise from where tokens stand to where those behind them stand.
use Rattle.grammar_laws.proofs.Common.{ℕ, ◌≡◌, ◌+◌, ◌≤◌, Bool, true, false, sym, subst, List, [], ◌∷◌, ◌++◌, append-nil, if◌then◌else◌, arith, StandInOrder, Token, NameTree, Sign, next_at, rest_of, Passes, PassesName, PassesNumber, Standing, placed, RiseWithin}
use Rattle.c_grammar.specs.declared.signs.Sign.TheVariants as signs

pub from_lower : (low start : ℕ) (places : List ℕ) (high : ℕ) → low ≤ start → RiseWithin start places high → RiseWithin low places high
from_lower low start [] high h r = omega (arith, h, r)
from_lower low start (p ∷ ps) high h r = ((let above = r.0 in omega (arith, h, above)), r.1)

pub up_to : (low : ℕ) (places : List ℕ) (high end : ℕ) → high ≤ end → RiseWithin low places high → RiseWithin low places end
up_to low [] high end h r = omega (arith, h, r)
up_to low (p ∷ ps) high end h r = (r.0, up_to (p + 1) ps high end h r.1)

joined : (low : ℕ) (ps qs : List ℕ) (between high : ℕ) → RiseWithin low ps between → RiseWithin between qs high → RiseWithin low (ps ++ qs) high
joined low [] qs between high p q = from_lower low between qs high p q
joined low (x ∷ ps) qs between high p q = (p.0, joined (x + 1) ps qs between high p.1 q)

-- the places rise from a start to where tokens stand
pub record Goes (end start : ℕ) (places : List ℕ) (after : List Token) : Type 0 where
  pub stop : ℕ
  pub rise : RiseWithin start places stop
  pub stands : StandInOrder stop after end

-- wherever the tokens stand, the places rise to where those behind them stand
pub record Walks (end : ℕ) (before : List Token) (places : List ℕ) (after : List Token) : Type 0 where
  pub walk : (start : ℕ) → StandInOrder start before end → Goes end start places after

module _ (end : ℕ) where
  pub nothing : (tokens : List Token) → Walks end tokens [] tokens
  nothing tokens = record { walk = λ start stands. record { stop = start; rise = omega arith; stands = stands } }

  pub along : {before between after : List Token} {ps qs : List ℕ} → Walks end before ps between → Walks end between qs after → Walks end before (ps ++ qs) after
  along {ps = ps} {qs = qs} p q = record {
    walk = λ start stands.
        let first = p.walk start stands in
        let second = q.walk first.stop first.stands in
        record { stop = second.stop; rise = joined start ps qs first.stop second.stop first.rise second.rise; stands = second.stands };
  }

  -- one token
  one : (before : List Token) → Walks end before [] (rest_of before)
  one [] = nothing []
  one (t ∷ tokens) = record {
    walk = λ start stands. record { stop = t.at + t.length; rise = (let low = stands.0 in omega (arith, low)); stands = stands.2 };
  }

  pub behind_one : (before : List Token) {after : List Token} → after ≡ rest_of before → Walks end before [] after
  behind_one before e = subst (λ (l : List Token). Walks end before [] l) (sym e) (one before)

  pub sign : {s : Sign} {before after : List Token} → Passes s before after → Walks end before [] after
  sign {before = b} p = behind_one b p.behind

  pub number : {before after : List Token} {value : ℕ} → PassesNumber before value after → Walks end before [] after
  number {before = b} p = behind_one b p.behind

  -- one token, at its place
  at_token : (t : Token) (tokens : List Token) → Walks end (t ∷ tokens) (t.at ∷ []) tokens
  at_token t tokens = record {
    walk = λ start stands. record { stop = t.at + t.length; rise = (stands.0, (let some = stands.1 in omega (arith, some))); stands = stands.2 };
  }

  token_placed : (b : Bool) (t : Token) (tokens : List Token) → Walks end (t ∷ tokens) (if b then t.at ∷ [] else []) tokens
  token_placed true t tokens = at_token t tokens
  token_placed false t tokens = one (t ∷ tokens)

  module _ (meant : Standing → Bool) (standing : Standing) where
    name_at : (source : List ℕ) (before : List Token) {after : List Token} {n : NameTree} → PassesName source before n after → Walks end before (placed meant standing n.at) after
    name_at source [] p = absurd (let e = p.passes.is_next in cc)
    name_at source (t ∷ tokens) {n = m} p =
        subst (λ (l : List Token). Walks end (t ∷ tokens) (placed meant standing m.at) l) (sym p.passes.behind)
        (subst (λ (v : NameTree). Walks end (t ∷ tokens) (placed meant standing v.at) tokens) (sym p.named) (token_placed (meant standing) t tokens))

    pub name : {source : List ℕ} {before after : List Token} {n : NameTree} → PassesName source before n after → Walks end before (placed meant standing n.at) after
    name {source = s} {before = b} p = name_at s b p

    keyword_at : (s : Sign) (before : List Token) {after : List Token} → Passes s before after → (signs.Finish ≡ s → ⊥) → Walks end before (placed meant standing (next_at before)) after
    keyword_at s [] p some = absurd (some p.is_next)
    keyword_at s (t ∷ tokens) p some = subst (λ (l : List Token). Walks end (t ∷ tokens) (placed meant standing t.at) l) (sym p.behind) (token_placed (meant standing) t tokens)

    pub keyword : (s : Sign) {before after : List Token} → Passes s before after → (signs.Finish ≡ s → ⊥) → Walks end before (placed meant standing (next_at before)) after
    keyword s {before = b} p some = keyword_at s b p some

  -- ---- behind or before a sign

  pub passed : {s : Sign} {before between after : List Token} {ps : List ℕ} → Passes s before between → Walks end between ps after → Walks end before ps after
  passed p q = along (sign p) q

  pub ended : {before between after : List Token} {ps : List ℕ} → Walks end before ps between → Walks end between [] after → Walks end before ps after
  ended {before = b} {after = a} {ps = ps} p q = subst (λ (l : List ℕ). Walks end b l a) (append-nil ps) (along p q)

  pub closed : {s : Sign} {before between after : List Token} {ps : List ℕ} → Walks end before ps between → Passes s between after → Walks end before ps after
  closed p q = ended p (sign q)
