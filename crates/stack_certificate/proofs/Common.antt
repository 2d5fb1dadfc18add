-- The names that this crate's proofs cite from other crates and from its definitions, passed on from one place. Declares nothing.
pub use Rattle.std.proofs.Common.{[], ◌&&◌, ◌*◌, ◌++◌, ◌+◌, ◌<◌, ◌^◌, ◌∙◌, ◌∷◌, ◌≡◌, ◌≤ℤ◌, ◌≤◌, Bool, List, None, Option, Some, add-zero, ap, append_assoc, arith, drop, false, length, length-append, map, nat_eq, nat_lt, negsuc, pos, refl, subst, suc, sym, take, true, zero, ℕ, ℤ}
pub use Rattle.std.proofs.lemmas.Grind.{common_steps}
pub use Rattle.std.proofs.lemmas.Int.{ints}
pub use Rattle.std.proofs.lemmas.List.{flat_map_more, length-take-le, map-append, map_more, take_more}
pub use Rattle.std.proofs.lemmas.List.Sums.{sum-map, sum_by_more, sum_by_more_le}
pub use Rattle.std.proofs.lemmas.Option.{slice_get-get_or, slice_get-map, slice_get_within}
pub use Rattle.std.specs.List.{AllByRecursion, range_with_len}
pub use Rattle.std.specs.Prelude.{All, flat_map, if◌then◌else◌, int_le, option_map, slice_get, slice_index, slice_index_or, sum, sum_by}
pub use Rattle.flat_code.specs.Codes.{FlatCode, function_at, operation_at}
pub use Rattle.flat_code.specs.ProgramView.{program_code}
pub use Rattle.flat_code.specs.WellFormed.{Context, IsFunction, IsOperation, IsResultPlace, IsReturned, IsScalar, IsWellFormed, context_of, signature_of}
pub use Rattle.flat_code.specs.declared.operations.Op.{Op}
unfoldable pub use Rattle.rv_code.specs.Operands.{IsInRange}
pub use Rattle.rv_code.specs.Range.{IsBranchOffset, IsImmediate, IsJumpOffset, IsRegister, IsShiftCount, IsUpperImmediate}
pub use Rattle.rv_code.specs.declared.instructions.Instr.{Instr}
pub use Rattle.stack_certificate.specs.Certificates.{fact_at, global_address, kind_in, table_address}
pub use Rattle.stack_certificate.specs.Fits.{fits_branch, fits_immediate, fits_jump, fits_register, fits_shift, fits_upper}
unfoldable pub use Rattle.stack_certificate.specs.Fits.{checked, fits}
pub use Rattle.stack_certificate.specs.Parts.{arguments, load, middle, result, saves, store, transfer, zeroes}
pub use Rattle.stack_certificate.specs.Places.{HasPlace, HavePlaces}
pub use Rattle.stack_certificate.specs.Registers.{a0, sp, zero_}
pub use Rattle.stack_certificate.specs.Templates.{HasPlaces, begin, end_stub, kind_of, middle_size, prologue, result_size, row, row_at, setting, setting_at, size, size_at, transfer_size, words_before}
pub use Rattle.stack_certificate.specs.declared.functions.FunctionFact.{FunctionFact}
