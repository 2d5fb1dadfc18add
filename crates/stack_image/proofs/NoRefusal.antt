-- Bytes are refused by nothing exactly where they begin as an image, keep the limits and end with the last word.
use Rattle.stack_image.proofs.Common.{◌≡◌, ℕ, ◌≤◌, Bool, true, false, cond, not, ltb, ◌&&◌, List, [], ◌∷◌, length, take, Option, Some, None, nat_eq, refl, arith, ltb-false, le-ltb, magic, begins_as_image, code_size, globals_size, tables_size, entries_size, exceeded, end_of, length_refusal, limit_refusal, refusal_of}
use Rattle.cap_word.specs.declared.limits.Which.{Which}
use Rattle.cap_word.specs.declared.limits.Which.TheVariants as limits
use Rattle.stack_image.specs.declared.refusals.ImageError.{ImageError}
use Rattle.stack_image.specs.declared.refusals.ImageError.TheVariants.{Magic, Short, Long}

-- ---- two tests, one after the other

none_after_tests : (b d : Bool) (x y : ImageError) (rest : Option ImageError) →
    cond (not b) (Some x) (cond d (Some y) rest) ≡ None → (b ≡ true) × (d ≡ false) × (rest ≡ None)
none_after_tests true false x y rest e = (refl, refl, e)
none_after_tests _ _ x y rest e = absurd cc

none_after_two : {X : Type 0} (b d : Bool) (x y : X) (rest : Option X) →
    cond b (Some x) (cond d (Some y) rest) ≡ None → (b ≡ false) × (d ≡ false) × (rest ≡ None)
none_after_two false false x y rest e = (refl, refl, e)
none_after_two _ _ x y rest e = absurd cc

none_after_limit : (which : Option Which) (rest : Option ImageError) → limit_refusal which rest ≡ None → (which ≡ None) × (rest ≡ None)
none_after_limit (Some which) rest e = absurd cc
none_after_limit None rest e = (refl, e)

-- ---- the limits and the length

pub record KeepsLimits (c g t e : ℕ) : Type 0 where
  pub code : c ≤ 200000
  pub globals : g ≤ 65536
  pub tables : t ≤ 65536
  pub entries : e ≤ 4096

pub limits_kept : (code globals tables entries : ℕ) → exceeded code globals tables entries ≡ None → KeepsLimits code globals tables entries
limits_kept code globals tables entries e =
    let first = none_after_two (ltb 200000 code) (ltb 65536 globals) limits.Code limits.Globals _ e in
    let second = none_after_two (ltb 65536 tables) (ltb 4096 entries) limits.Tables limits.Entries None first.2 in
    record {
      code = ltb-false _ _ first.0;
      globals = ltb-false _ _ first.1;
      tables = ltb-false _ _ second.0;
      entries = ltb-false _ _ second.1;
    }

pub exceeded_none : (code globals tables entries : ℕ) → KeepsLimits code globals tables entries → exceeded code globals tables entries ≡ None
exceeded_none code globals tables entries kept =
    rw (le-ltb _ _ kept.code, le-ltb _ _ kept.globals, le-ltb _ _ kept.tables, le-ltb _ _ kept.entries) refl

length_kept : (len end : ℕ) → length_refusal len end ≡ None → len ≡ end
length_kept len end e =
    let tests = none_after_two (ltb len end) (ltb end len) (Short len) (Long end) None e in
    let low : end ≤ len = ltb-false _ _ tests.0 in
    let high : len ≤ end = ltb-false _ _ tests.1 in
    omega arith

length_none : (len end : ℕ) → len ≡ end → length_refusal len end ≡ None
length_none len end e =
    let low : end ≤ len = omega arith in
    let high : len ≤ end = omega arith in
    rw (le-ltb _ _ low, le-ltb _ _ high) refl

-- ---- the whole

pub record IsRefusedByNothing (bytes : List ℕ) : Type 0 where
  pub magic : begins_as_image bytes ≡ true
  pub long : 20 ≤ length bytes
  pub limits : KeepsLimits (code_size bytes) (globals_size bytes) (tables_size bytes) (entries_size bytes)
  pub end : length bytes ≡ end_of bytes

pub refused_by_nothing : (bytes : List ℕ) → refusal_of bytes ≡ None → IsRefusedByNothing bytes
unfolding refusal_of
refused_by_nothing bytes e =
    let sizes = exceeded (code_size bytes) (globals_size bytes) (tables_size bytes) (entries_size bytes) in
    let ends = length_refusal (length bytes) (end_of bytes) in
    let tests = none_after_tests (begins_as_image bytes) (ltb (length bytes) 20) Magic (Short (length bytes)) (limit_refusal sizes ends) e in
    let both = none_after_limit sizes ends tests.2 in
    record {
      magic = tests.0;
      long = ltb-false _ _ tests.1;
      limits = limits_kept _ _ _ _ both.0;
      end = length_kept _ _ both.1;
    }

pub refusal_of_none : (bytes : List ℕ) → IsRefusedByNothing bytes → refusal_of bytes ≡ None
unfolding refusal_of
refusal_of_none bytes h =
    let limits : exceeded (code_size bytes) (globals_size bytes) (tables_size bytes) (entries_size bytes) ≡ None = exceeded_none _ _ _ _ h.limits in
    let ends : length_refusal (length bytes) (end_of bytes) ≡ None = length_none _ _ h.end in
    rw (h.magic, le-ltb _ _ h.long, limits, ends) refl

-- ---- the first four bytes

magic_of_four : (a b c d : ℕ) → (nat_eq a 67 && (nat_eq b 65 && (nat_eq c 80 && (nat_eq d 49 && true)))) ≡ true →
    a ∷ b ∷ c ∷ d ∷ [] ≡ magic
magic_of_four a b c d e = grind arith

pub magic_in_front : (bytes : List ℕ) → begins_as_image bytes ≡ true → 4 ≤ length bytes → take 4 bytes ≡ magic
magic_in_front (a ∷ b ∷ c ∷ d ∷ rest) e long = magic_of_four a b c d e
magic_in_front _ e long = absurd (omega arith)
