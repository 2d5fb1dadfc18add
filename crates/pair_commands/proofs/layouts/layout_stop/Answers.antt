use Rattle.pair_commands.proofs.Common.{◌≡◌, ◌⊎◌, Some, None, inl, inr, refl, subst, program_tree, lowered, frame_refusal, IsTooLarge, IsUnbuilt, IsFrameRefused, stop-follows}
use Rattle.stack_build.specs.declared.refusals.BuildError.{BuildError}
use Rattle.stack_build.specs.declared.refusals.BuildError.TheVariants as errors
use Rattle.pair_commands.proofs.Built.{frame-of, code-of}
use Rattle.pair_commands.proofs.layouts.layout_stop.Goals as goal

pub frame_stop-requires : goal.frame_stop-requires
frame_stop-requires c =
    let code = lowered (program_tree c.args.program.now) in
    let options = c.args.sizes in
    let P : BuildError → Type 0 = λ e. (e ≡ errors.Memory) ⊎ ((frame_refusal code options.max_path ≡ Some e) ⊎ IsTooLarge code options e) in
    frame-of code options c.in-FrameTooLarge.function c.in-FrameTooLarge.bytes (subst P c.in-FrameTooLarge.is c.requires.refused)

pub returns-in-FrameTooLarge : goal.returns-in-FrameTooLarge
returns-in-FrameTooLarge c =
    let tree = program_tree c.args.program.now in
    stop-follows (IsFrameRefused tree c.args.sizes.max_path) (IsUnbuilt c.args.sizes tree) c.frame_stop.result (λ o h. inl h) c.frame_stop.ensures

pub returns-in-CodeTooLarge : goal.returns-in-CodeTooLarge
returns-in-CodeTooLarge c =
    let code = lowered (program_tree c.args.program.now) in
    let options = c.args.sizes in
    let P : BuildError → Type 0 = λ e. (e ≡ errors.Memory) ⊎ ((frame_refusal code options.max_path ≡ Some e) ⊎ IsTooLarge code options e) in
    let Q : BuildError → Type 0 = λ e. IsTooLarge code options e → frame_refusal code options.max_path ≡ None in
    let large = code-of code options c.in-CodeTooLarge.words (subst P c.in-CodeTooLarge.is c.requires.refused) in
    let fit = subst Q c.in-CodeTooLarge.is c.requires.frames large in
    inr (fit, c.in-CodeTooLarge.words, large, refl)
