-- The names that this crate's proofs cite from other crates and from its definitions, passed on from one place. Declares nothing.
pub use Rattle.std.proofs.Common.{[], ◌%◌, ◌++◌, ◌+◌, ◌-◌, ◌<◌, ◌^◌, ◌∙◌, ◌∷◌, ◌≡◌, ◌⊎◌, Bool, IfSome, List, Option, Some, ap, arith, bit_xor, eqb, false, inl, inr, length, ltb, map, not, refl, subst, suc, sym, take, true, zero, ℕ, ℤ}
pub use Rattle.std.proofs.lemmas.Bool.{cases_lt, cond-true, eq-eqb}
pub use Rattle.std.specs.Prelude.{slice_get, slice_index, slice_index_or, slice_set}
pub use Rattle.rv_code.specs.Decoding.{decoding}
pub use Rattle.rv_code.specs.declared.instructions.Instr.{Instr}
pub use Rattle.rv_machine.specs.Bytes.{Nothing}
unfoldable pub use Rattle.rv_machine.specs.Effect.{effect}
pub use Rattle.rv_machine.specs.Registers.{read, write}
pub use Rattle.rv_machine.specs.Rows.{Fails, Goes, Machine, Outcome, loads, next, relative, sets, word_loaded, word_stored}
unfoldable pub use Rattle.rv_machine.specs.Rows.{branches, jumps}
pub use Rattle.rv_machine.specs.Step.{decoded}
unfoldable pub use Rattle.rv_machine.specs.Step.{started}
pub use Rattle.decoded_code.specs.Ready.{AreEachReady, AreReady, DoesAs, IsBefore, IsReadyAt, branches_to, done_as, even, place_at, ready_effect}
unfoldable pub use Rattle.decoded_code.specs.Ready.{done}
pub use Rattle.decoded_code.specs.declared.ready.Ready.{Ready}
