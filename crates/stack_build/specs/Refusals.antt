-- The refusals of the crates below, as those of a build.
use Rattle.checkpoint_place.specs.declared.refusals.PlaceError.{PlaceError}
use Rattle.checkpoint_place.specs.declared.refusals.PlaceError.TheVariants as place
use Rattle.codegen_link.specs.declared.refusals.GenError.{GenError}
use Rattle.codegen_link.specs.declared.refusals.GenError.TheVariants as gen
use Rattle.stack_build.specs.declared.refusals.BuildError.{BuildError}
use Rattle.stack_build.specs.declared.refusals.BuildError.TheVariants.{FrameTooLarge, CodeTooLarge, Memory}

abbrev pub of_place : PlaceError → BuildError
of_place (place.FrameTooLarge function bytes) = FrameTooLarge function bytes
of_place place.Memory = Memory

abbrev pub of_generate : GenError → BuildError
of_generate (gen.CodeTooLarge words) = CodeTooLarge words
of_generate gen.Memory = Memory
