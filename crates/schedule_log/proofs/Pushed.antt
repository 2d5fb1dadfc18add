-- What is written of a line's lists and numbers.
use Rattle.schedule_log.proofs.Common.{◌≡◌, ℕ, ℤ, pos, ◌+◌, ◌<◌, ◌≤◌, List, [], ◌∷◌, ◌++◌, length, get_or, take, drop, map, refl, ap, subst, ◌∙◌, sym, arith, ◌^◌, to_z, of_z, FitsSigned, w32, w128, to_z-of_z, flat_map_more, map_more, take_more, canonical_decimal, canonical_integer, after_blanks, key_field, more_sites, LogState, Writes}

pub decimal_of_pos : (n : ℕ) → canonical_integer (pos n) ≡ canonical_decimal n
unfolding canonical_integer
decimal_of_pos n = refl

pub more_sites_step : (sites : List ℕ) (i : ℕ) → i < length sites
    → more_sites (take (i + 1) sites) ≡ more_sites (take i sites) ++ (60 ∷ canonical_decimal (get_or sites i 0))
more_sites_step sites i l =
    ap more_sites (take_more sites i 0 l) ∙ sym (flat_map_more (λ next. 60 ∷ canonical_decimal next) [] (take i sites) (get_or sites i 0))

key_of : (sites rest : List ℕ) → 1 ≤ length sites → rest ≡ drop 1 sites
    → 32 ∷ key_field sites ≡ (32 ∷ canonical_decimal (get_or sites 0 0)) ++ more_sites rest
key_of [] rest some is = absurd (omega arith)
key_of (site ∷ sites) rest some is = ap (λ (l : List ℕ). (32 ∷ canonical_decimal site) ++ more_sites l) (sym is)

pub key_written : (key sites rest : List ℕ) → sites ≡ key → 1 ≤ length sites → rest ≡ drop 1 sites
    → 32 ∷ key_field key ≡ (32 ∷ canonical_decimal (get_or sites 0 0)) ++ more_sites rest
key_written key sites rest same some is = rw (← same) (key_of sites rest some is)

pub averages_step : (values : List ℤ) (i : ℕ) (d : ℤ) → i < length values
    → after_blanks (map canonical_integer (take (i + 1) values)) ≡ after_blanks (map canonical_integer (take i values)) ++ (32 ∷ canonical_integer (get_or values i d))
averages_step values i d l =
    ap after_blanks (map_more canonical_integer values i d l)
    ∙ sym (flat_map_more (λ field. 32 ∷ field) [] (map canonical_integer (take i values)) (canonical_integer (get_or values i d)))

-- a number of 64 bits, widened to 128 signed bits
pub widened : (z : ℤ) (n : ℕ) → n < 2 ^ 64 → z ≡ pos n → canonical_integer (to_z w128 (of_z w128 z)) ≡ canonical_decimal n
widened z n small e =
    let fits : FitsSigned w128 z = rw e (record { sfits = omega arith }) in
    ap canonical_integer (to_z-of_z w128 z fits ∙ e) ∙ decimal_of_pos n

-- a field of a signed number that was handed on

pub writes_word : (a b : LogState) (z : ℤ) → FitsSigned w32 z → Writes a b (32 ∷ canonical_integer (to_z w32 (of_z w32 z))) → Writes a b (32 ∷ canonical_integer z)
writes_word a b z fits writes = subst (λ (x : ℤ). Writes a b (32 ∷ canonical_integer x)) (to_z-of_z w32 z fits) writes

pub writes_wide : (a b : LogState) (z : ℤ) → FitsSigned w128 z → Writes a b (32 ∷ canonical_integer (to_z w128 (of_z w128 z))) → Writes a b (32 ∷ canonical_integer z)
writes_wide a b z fits writes = subst (λ (x : ℤ). Writes a b (32 ∷ canonical_integer x)) (to_z-of_z w128 z fits) writes
