-- The names that this crate's proofs cite from other crates and from its definitions, passed on from one place. Declares nothing.
pub use Rattle.std.proofs.Common.{[], ◌*◌, ◌++◌, ◌+◌, ◌-◌, ◌<◌, ◌^◌, ◌∙◌, ◌∷◌, ◌≡◌, ◌≢◌, ◌≤◌, ◌⊎◌, Err, IfNone, IfSome, IsTrue, List, None, Option, Some, ap, append_assoc, arith, below_more, codes, cond, drop, eqb, eqb-true, false, get_or, inl, inr, is_ok, length, lit<, ltb, map, refl, slice_index, subst, suc, sym, take, true, zero, ℕ, ⊎_elim}
pub use Rattle.std.proofs.lemmas.Bool.{agree_below_at, both_ways, cases_lt, cond-true, or_cases, or_left, or_right}
pub use Rattle.std.proofs.lemmas.Bool.Decides.{Decides-eqb, nat_tests, not_from_Decides}
pub use Rattle.std.proofs.lemmas.Int.Digits.{digits_more, digits_value_is, digits_value_more, number_after_append, number_after_ge}
pub use Rattle.std.proofs.lemmas.List.{append-nil, drop-drop, drop_all, drop_at, drop_more, get_or-append-add, get_or-take, get_or_append_left, get_or_at, length-append, length-drop, length-take-le, map-append, nil_from_length, take-append-drop, take_at, take_more, take_rest}
pub use Rattle.std.proofs.lemmas.Slice.Eq.{slice_eq-Decides, starts_is, text_from_reads}
pub use Rattle.std.specs.Char.{digit_value, is_ascii_digit}
pub use Rattle.std.specs.List.{AllByRecursion, find}
pub use Rattle.std.specs.Str.{bytes_eq}
pub use Rattle.std.specs.Str.Parse.{AllDigits, digits_value}
pub use Rattle.c_lex.specs.Bytes.{is_letter, is_white_space, is_word_byte}
pub use Rattle.c_lex.specs.Gaps.{IsBlockComment, IsComment, IsGap, IsLineComment, Lacks, line_feed}
pub use Rattle.c_lex.specs.Gaps.IsGap.{comment, nothing, space}
pub use Rattle.c_lex.specs.Keywords.{keyword_text}
pub use Rattle.c_lex.specs.Lexemes.{AllWordBytes, BeginsComment, IsIdentifier, IsLexeme, IsOfKind, IsTaken, IsWord}
pub use Rattle.c_lex.specs.Marks.{BeginsWith, mark_text}
pub use Rattle.c_lex.specs.Numbers.{IsDecimal, IsHexadecimal, IsNumber}
pub use Rattle.c_lex.specs.Numbers.IsNumber.{decimal, hexadecimal, null}
pub use Rattle.c_lex.specs.Pieces.{IsFirstGap, IsFirstPiece, IsFirstToken}
pub use Rattle.c_lex.specs.Tokens.{AreTokensOf, BeginsNone, BeginsWithBadByte, BeginsWithBadNumber, BeginsWithToken, IsLexErrorOf, IsOpenComment, LeadsTo}
pub use Rattle.c_lex.specs.declared.marks.Mark.{Mark}
pub use Rattle.c_lex.specs.declared.tokens.LexError.{LexError}
pub use Rattle.c_lex.specs.declared.tokens.Token.{Token}
pub use Rattle.c_lex.specs.declared.tokens.TokenKind.{TokenKind}
