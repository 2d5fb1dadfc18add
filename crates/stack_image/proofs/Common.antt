-- The names that this crate's proofs cite from other crates and from its definitions, passed on from one place. Declares nothing.
pub use Rattle.std.proofs.Common.{[], ◌&&◌, ◌*◌, ◌++◌, ◌+◌, ◌-◌, ◌<◌, ◌^◌, ◌∙◌, ◌∷◌, ◌≡◌, ◌≤◌, Bool, List, None, Option, Some, ap, append_assoc, arith, cond, drop, false, get_or, inl, inr, length, ltb, nat_eq, not, refl, subst, suc, sym, take, true, zero, ℕ}
pub use Rattle.std.proofs.lemmas.Bool.{cases_lt, le-ltb, ltb-false}
pub use Rattle.std.proofs.lemmas.List.{append-nil, drop-drop, drop_all, drop_at, drop_more, get_or-drop, get_or-take, get_or_past, length-append, length-drop, length-take, length-take-le, take-append-drop, take_all, take_at, take_more, take_rest}
pub use Rattle.stack_image.specs.Reading.{behind, words_of}
unfoldable pub use Rattle.stack_image.specs.Reading.{image_of}
pub use Rattle.stack_image.specs.Refusal.{begins_as_image, code_size, end_of, entries_size, exceeded, globals_size, length_refusal, limit_refusal, tables_size}
unfoldable pub use Rattle.stack_image.specs.Refusal.{number_at, refusal_of}
pub use Rattle.stack_image.specs.Spelling.{HoldsWords, IsWithinLimits, magic, sizes, word, words}
unfoldable pub use Rattle.stack_image.specs.Spelling.{spelling}
pub use Rattle.stack_image.specs.declared.images.Image.{Image}
