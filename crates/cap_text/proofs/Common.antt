-- The names that this crate's proofs cite from other crates and from its definitions, passed on from one place. Declares nothing.
pub use Rattle.std.proofs.Common.{[], ◌%◌, ◌*◌, ◌++◌, ◌+◌, ◌-ℤ◌, ◌-◌, ◌/◌, ◌<◌, ◌==◌, ◌^◌, ◌↔◌, ◌∙◌, ◌∷◌, ◌≡◌, ◌≤◌, ◌⊎◌, All, Bool, Err, FitsSigned, IfNone, IfOk, IsTrue, List, None, Ok, Option, Result, Some, ap, append-nil, append_assoc, arith, cond, drop, eq-zero-or-pos, false, get_or, inl, inr, int_le, is_ok, is_some, length, length-append, map, nat_lt, negsuc, not, of_z, pos, refl, rules, subst, suc, sym, take, to_z, true, zero, ℕ, ℤ}
pub use Rattle.std.proofs.lemmas.Bool.Decides.{nat_tests}
pub use Rattle.std.proofs.lemmas.Int.{ints, to_z-of_z}
pub use Rattle.std.proofs.lemmas.Int.Digits.{all_below_base_digits_of, all_below_base_from_digits, digits_more, digits_of_step, digits_value-lt, digits_value_is, digits_value_more, first_digits_of, number_after_ge, number_digits_of}
pub use Rattle.std.proofs.lemmas.List.{get_or-map, length-map, map_push, take_all, take_rest}
pub use Rattle.std.proofs.lemmas.List.Splits.{join_with_byte-slice_split, length-slice_split, slice_split_at, slice_split_first, slice_split_none}
pub use Rattle.std.proofs.lemmas.List.Sums.{fails_before_first}
pub use Rattle.std.proofs.lemmas.Str.Parse.{digit_at, digit_from_value, digits_value-take-le}
pub use Rattle.std.specs.Char.{digit_value}
pub use Rattle.std.specs.Int.{IsInRange, w128, w32}
pub use Rattle.std.specs.List.{AllByRecursion, after_first, before_first, join_with_byte, onto_first, position, position_or_len, slice_split}
pub use Rattle.std.specs.Str.Parse.{AllDigits, digits_value}
pub use borrow.Author.Tests.{eq-eqb, ltb-false, ltb-true, ne_eqb}
pub use mir.Syntax.{Width}
pub use Rattle.cap_text.specs.Decimals.{IsDecimal, IsInteger}
unfoldable pub use Rattle.cap_text.specs.Decimals.{canonical_decimal, canonical_integer}
pub use Rattle.cap_text.specs.Pieces.{Lacks, after_each, pieces, pieces_left}
pub use Rattle.cap_text.specs.TextLines.{ended_lines, without_empty_last}
unfoldable pub use Rattle.cap_text.specs.TextLines.{lines_of}
pub use Rattle.cap_text.specs.declared.numbers.NumberError.{NumberError}
