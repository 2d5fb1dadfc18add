use Rattle.rule_failures.proofs.Common.{◌≡◌, ◌<◌, ◌≤◌, ◌+◌, ℕ, List, length, take, sym, ap, ◌∙◌, subst, arith, Some, None, replicate, slice_get, slice_index_or, sum_by, nat_lt, if◌then◌else◌, get_or_default, length-replicate, take_all, program_code, sum_room, sum_step, V12, starting_words, IsFirst}
use Rattle.flat_code.specs.declared.programs.FlatGlobal.{FlatGlobal}
use Rattle.rule_failures.proofs.FirstLemmas.{first_same}
use Rattle.rule_failures.proofs.PieceLemmas.{differs_in, agrees_more, differs_behind, sized_whole}
use Rattle.rule_failures.proofs.image_lists.first_wrong_global.Goals as goal

pub first_other_start-requires : goal.first_other_start-requires
first_other_start-requires c =
    let global : FlatGlobal = slice_index_or c.globals-global-items.result.now c.loop-global.global-index (record { words = 0; start = 0 }) in
    let at : global ≡ slice_index_or c.args.flat.now.globals.items c.loop-global.global-index global =
    get_or_default c.globals-global-items.result.now c.loop-global.global-index (record { words = 0; start = 0 }) global c.loop-global-test.true ∙ ap (λ l. slice_index_or l c.loop-global.global-index global) c.loop-global.invariant.items in
    let room : sum_by (λ x. x.words) (take c.loop-global.global-index c.args.flat.now.globals.items) + global.words ≤ 65536 =
    sum_room (λ x. x.words) c.args.flat.now.globals.items c.loop-global.global-index global 65536 (omega (arith, ap length c.loop-global.invariant.items)) at c.args.flat.now.well_formed.global_words in
    omega arith

pub returns-in-Some : goal.returns-in-Some
returns-in-Some c = λ f.
    let starts : FlatGlobal → List ℕ = λ g. replicate g.words g.start in
    let count : FlatGlobal → ℕ = λ g. g.words in
    let code = program_code c.args.flat.now in
    let global : FlatGlobal = slice_index_or c.globals-global-items.result.now c.loop-global.global-index (record { words = 0; start = 0 }) in
    let at : global ≡ slice_index_or c.args.flat.now.globals.items c.loop-global.global-index global =
    get_or_default c.globals-global-items.result.now c.loop-global.global-index (record { words = 0; start = 0 }) global c.loop-global-test.true ∙ ap (λ l. slice_index_or l c.loop-global.global-index global) c.loop-global.invariant.items in
    let first : IsFirst (λ j. slice_get c.as_slice-words.result.now j ≡ slice_get (starting_words code) j) (Some c.in-Some.index) =
    differs_in starts count (λ x. length-replicate x.words x.start) c.args.flat.now.globals.items c.loop-global.global-index global c.as_slice-words.result.now c.loop-global.passed
    c.in-Some.index (omega (arith, ap length c.loop-global.invariant.items)) at c.loop-global.invariant.passed c.loop-global.invariant.lower c.in-Some.ensures in
    let there : IsFirst (λ j. slice_get c.args.image.now.globals j ≡ slice_get (starting_words code) j) (Some c.in-Some.index) =
    subst (λ ws. IsFirst (λ j. slice_get ws j ≡ slice_get (starting_words code) j) (Some c.in-Some.index)) c.as_slice-words.ensures first in
    first_same (λ j. slice_get c.args.image.now.globals j ≡ slice_get (starting_words code) j) (V12 code c.args.image.now f)
    (λ j e. record { word = e }) (λ j v. v.word) (Some c.in-Some.index) there

pub loop-global-preserved : goal.loop-global-preserved
loop-global-preserved c =
    let starts : FlatGlobal → List ℕ = λ g. replicate g.words g.start in
    let count : FlatGlobal → ℕ = λ g. g.words in
    let global : FlatGlobal = slice_index_or c.globals-global-items.result.now c.loop-global.global-index (record { words = 0; start = 0 }) in
    let at : global ≡ slice_index_or c.args.flat.now.globals.items c.loop-global.global-index global =
    get_or_default c.globals-global-items.result.now c.loop-global.global-index (record { words = 0; start = 0 }) global c.loop-global-test.true ∙ ap (λ l. slice_index_or l c.loop-global.global-index global) c.loop-global.invariant.items in
    let lt : c.loop-global.global-index < length c.args.flat.now.globals.items = omega (arith, ap length c.loop-global.invariant.items) in
    let more = agrees_more starts count (λ x. length-replicate x.words x.start) c.args.flat.now.globals.items c.loop-global.global-index global c.as_slice-words.result.now
    c.loop-global.passed lt at c.loop-global.invariant.passed c.loop-global.invariant.lower c.in_default.ensures in
    record {
      items = c.loop-global.invariant.items;
      passed = omega (arith, c.loop-global.invariant.passed, sum_step (λ x. x.words) c.args.flat.now.globals.items c.loop-global.global-index global lt at);
      lower = λ i less. more i (omega arith);
    }

pub returns : goal.returns
returns c = λ f.
    let starts : FlatGlobal → List ℕ = λ g. replicate g.words g.start in
    let count : FlatGlobal → ℕ = λ g. g.words in
    let code = program_code c.args.flat.now in
    let all : take c.loop-global.global-index c.args.flat.now.globals.items ≡ c.args.flat.now.globals.items =
    take_all c.loop-global.global-index c.args.flat.now.globals.items (omega (arith, ap length c.loop-global.invariant.items)) in
    let whole : c.loop-global.passed ≡ length (starting_words code) =
    c.loop-global.invariant.passed ∙ (ap (λ l. sum_by (λ x. x.words) l) all ∙ sized_whole starts count (λ x. length-replicate x.words x.start) c.args.flat.now.globals.items) in
    let first : IsFirst (λ j. slice_get c.as_slice-words.result.now j ≡ slice_get (starting_words code) j) (if nat_lt c.loop-global.passed (length c.as_slice-words.result.now) then Some c.loop-global.passed else None) =
    differs_behind (starting_words code) c.as_slice-words.result.now c.loop-global.passed whole c.loop-global.invariant.lower in
    let told : IsFirst (λ j. slice_get c.as_slice-words.result.now j ≡ slice_get (starting_words code) j) c.first_too_many.result =
    subst (λ r. IsFirst (λ j. slice_get c.as_slice-words.result.now j ≡ slice_get (starting_words code) j) r) (sym c.first_too_many.ensures) first in
    let there : IsFirst (λ j. slice_get c.args.image.now.globals j ≡ slice_get (starting_words code) j) c.first_too_many.result =
    subst (λ ws. IsFirst (λ j. slice_get ws j ≡ slice_get (starting_words code) j) c.first_too_many.result) c.as_slice-words.ensures told in
    first_same (λ j. slice_get c.args.image.now.globals j ≡ slice_get (starting_words code) j) (V12 code c.args.image.now f)
    (λ j e. record { word = e }) (λ j v. v.word) c.first_too_many.result there
