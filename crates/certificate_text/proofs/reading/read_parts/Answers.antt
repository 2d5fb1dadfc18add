use Rattle.std.proofs.lemmas.Result.{err_from_is_err_and}
use Rattle.certificate_text.proofs.Common.{◌+◌, refl, arith, None, Functions, Sites}
use Rattle.certificate_text.proofs.Causes.{HeadRead, FunctionsRead, SitesRead, head_read, functions_read, sites_read, head_led, functions_led, count_led, sites_led, cause_behind, line_refused, whole_parts, some_text, no_text}
use Rattle.certificate_text.proofs.Otherwise.{other_sites, not_over}
use Rattle.certificate_text.proofs.Passing.{last_number}
use Rattle.certificate_text.proofs.reading.read_parts.Goals.{In_ok-head, In_ok-functions, In_ok-facts}
use Rattle.certificate_text.proofs.reading.read_parts.Goals as goal

-- the parts of the text, each once it was read
head : (c : In_ok-head) → HeadRead c.in_ok-head.head.chunk c.in_ok-head.head.max_path c.in_ok-head.head.functions c.args.bytes.now c.read_head.new.rest
head c = head_read c.new-rest.ensures c.in_ok-head.ensures.found

functions : (c : In_ok-functions) → FunctionsRead c.in_ok-functions.functions.items c.in_ok-head.head.functions c.read_head.new.rest c.read_functions.new.rest
functions c = functions_read c.in_ok-functions.ensures.found

sites : (c : In_ok-facts) → SitesRead c.in_ok-facts.facts.items c.in-Some.sites c.number_line.new.self c.read_sites.new.rest
sites c = sites_read c.in_ok-facts.ensures.found

pub returns-in_err-functions-clause-refused : goal.returns-in_err-functions-clause-refused
returns-in_err-functions-clause-refused c =
    let led = head_led (head (goal.at.returns-in_err-functions-clause-refused c).In_ok-head) in
    let p = err_from_is_err_and c.from_residual-in_err-functions.result c.from_residual-in_err-functions.ensures.1 in
    rw (p.1, p.2) (cause_behind 4 5 (Functions c.in_ok-head.head.functions) c.args.bytes.now c.read_head.new.rest c.in_err-functions.field-0.0 refl led
    c.in_err-functions.ensures.refused)

pub returns-in_default-clause-refused : goal.returns-in_default-clause-refused
returns-in_default-clause-refused c =
    let at = goal.at.returns-in_default-clause-refused c in
    let count = c.in_ok-head.head.functions in
    let two = c.read_functions.new.rest in
    line_refused (4 + count) (5 + count) (Functions 0) c.args.bytes.now two (omega arith) (functions_led (head at.In_ok-head) (functions at.In_ok-functions))
    (other_sites two c.in_default.ensures.none)

pub returns-in_err-facts-clause-refused : goal.returns-in_err-facts-clause-refused
returns-in_err-facts-clause-refused c =
    let at = goal.at.returns-in_err-facts-clause-refused c in
    let count = c.in_ok-head.head.functions in
    let three = c.number_line.new.self in
    let led = count_led c.in-Some.sites three (head at.In_ok-head) (functions at.In_ok-functions) c.in-Some.ensures.found in
    let p = err_from_is_err_and c.from_residual-in_err-facts.result c.from_residual-in_err-facts.ensures.1 in
    rw (p.1, p.2) (cause_behind (5 + count) (5 + count + 1) (Sites c.in-Some.sites None) c.args.bytes.now three c.in_err-facts.field-0.0 refl led
    c.in_err-facts.ensures.refused)

pub returns-then-not-is_over-clause-refused : goal.returns-then-not-is_over-clause-refused
returns-then-not-is_over-clause-refused c =
    let at = goal.at.returns-then-not-is_over-clause-refused c in
    let count = c.in_ok-head.head.functions in
    let three = c.number_line.new.self in
    let four = c.read_sites.new.rest in
    let last = last_number None c.in_ok-facts.facts.items in
    let led = count_led c.in-Some.sites three (head at.In_ok-head) (functions at.In_ok-functions) c.in-Some.ensures.found in
    let passes = sites_led (5 + count) c.in-Some.sites c.in_ok-facts.facts.items c.args.bytes.now three four led (sites at.In_ok-facts) in
    line_refused (5 + count + c.in-Some.sites) (5 + count + 1 + c.in-Some.sites) (Sites 0 last) c.args.bytes.now four (omega arith) passes
    (not_over last four (some_text four c.is_over.result c.is_over.ensures c.if-not-is_over.true))

pub returns-clause-spelled : goal.returns-clause-spelled
returns-clause-spelled c =
    let at = goal.at.returns-clause-spelled c in
    whole_parts (head at.In_ok-head) (functions at.In_ok-functions) c.in-Some.ensures.found.1 (sites at.In_ok-facts)
    (no_text c.read_sites.new.rest c.is_over.result c.is_over.ensures c.if-not-is_over.false) c.new.ensures c.new-2.ensures
