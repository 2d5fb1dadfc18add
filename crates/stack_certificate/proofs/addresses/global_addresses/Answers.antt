use Rattle.stack_certificate.proofs.Common.{◌≡◌, ◌+◌, ◌*◌, ◌<◌, List, length, map, ap, sym, ◌∙◌, arith, slice_index_or, range_with_len, sum_by_more, program_code, global_address}
use Rattle.flat_code.specs.declared.programs.FlatGlobal.{FlatGlobal}
use Rattle.stack_certificate.proofs.PushedLemmas.{numbered-pushed}
use Rattle.stack_certificate.proofs.addresses.global_addresses.Goals as goal

pub loop-global-preserved : goal.loop-global-preserved
loop-global-preserved c =
    let code = program_code c.args.flat.now in
    let i = c.loop-global.global-index in
    let none : FlatGlobal = record { words = 0; start = 0 } in
    let inside : i < length code.globals = omega (arith, c.loop-global-test.true, ap length c.globals-globals.ensures) in
    record {
      addresses = numbered-pushed (global_address code) i _ _ _ c.loop-global.invariant.addresses c.in_ok-push.ensures.items (ap (λ w. 0x10000000 + 4 * w) c.loop-global.invariant.words);
      words =
          ap (λ (gs : List FlatGlobal). c.loop-global.words + (slice_index_or gs i none).words) c.globals-globals.ensures ∙
          (ap (λ n. n + (slice_index_or code.globals i none).words) c.loop-global.invariant.words ∙
          sym (sum_by_more (λ (g : FlatGlobal). g.words) code.globals i none inside));
    }

pub returns : goal.returns
returns c =
    let code = program_code c.args.flat.now in
    let all : c.loop-global.global-index ≡ length code.globals = omega (arith, c.loop-global-test.false, c.loop-global.auto.global-index-end, ap length c.globals-globals.ensures) in
    c.loop-global.invariant.addresses ∙ ap (λ n. map (global_address code) (range_with_len 0 n)) all
