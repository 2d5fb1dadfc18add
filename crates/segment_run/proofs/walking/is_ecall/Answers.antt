use Rattle.segment_run.proofs.Common.{◌≡◌, ◌∙◌, ◌<◌, ◌-◌, ◌/◌, length, ap, sym, Some, None, slice_get, ltb-true, slice_get-get_or}
use Rattle.segment_run.proofs.Fetching.{ecall_read, past_code}
use Rattle.segment_run.proofs.walking.is_ecall.Goals as goal

pub returns-in_default : goal.returns-in_default
returns-in_default c = (λ e. absurd (cc), λ e. absurd (past_code c.args.code.now c.args.pc c.requires.aligned c.requires.low c.in_default.ensures.lookup.3 e))

pub returns-in_default-decode : goal.returns-in_default-decode
returns-in_default-decode c =
    let index = (c.args.pc - 4096) / 4 in
    let lookup = c.in-Some.ensures.lookup in
    let within : index < length c.args.code.now = ltb-true index (length c.args.code.now) (sym lookup.0) in
    let here : slice_get c.args.code.now index ≡ Some c.in-Some.word.now = slice_get-get_or c.args.code.now index c.in-Some.word.now within ∙ ap Some (sym lookup.1) in
    let read = ecall_read c.args.code.now c.args.pc c.in-Some.word.now None c.requires.aligned c.requires.low here c.in_default-decode.ensures.row in
    (λ e. absurd (cc), λ e. let bad = read.0 e in absurd (cc))

pub returns : goal.returns
returns c =
    let index = (c.args.pc - 4096) / 4 in
    let lookup = c.in-Some.ensures.lookup in
    let within : index < length c.args.code.now = ltb-true index (length c.args.code.now) (sym lookup.0) in
    let here : slice_get c.args.code.now index ≡ Some c.in-Some.word.now = slice_get-get_or c.args.code.now index c.in-Some.word.now within ∙ ap Some (sym lookup.1) in
    let read = ecall_read c.args.code.now c.args.pc c.in-Some.word.now (Some c.in-Some-decode.instr) c.requires.aligned c.requires.low here c.in-Some-decode.ensures.row in
    (λ e. read.1 (ap Some (c.is_call.ensures.0 e)), λ e. c.is_call.ensures.1 (let same = read.0 e in cc))
