use Rattle.command_words.proofs.Common.{◌≡◌, ap, sym, subst, map, refl, Err, string_bytes, first_value, found_of, request_of, IsReadable}
use Rattle.command_words.specs.declared.commands.WordsError.TheVariants.{NotWords}
use Rattle.command_words.proofs.Lists.{whole_list, list_asks, asked_list}
use Rattle.command_words.proofs.words.read_words.Goals as goal

pub returns-then-not-is_readable-clause-refused : goal.returns-then-not-is_readable-clause-refused
returns-then-not-is_readable-clause-refused c e request is =
    let whole = whole_list (map (λ word. string_bytes word) c.args.words.now.items) request is in
    let readable = subst IsReadable (ap (map (λ word. string_bytes word)) (sym c.as_slice.ensures.value)) whole.readable in
    let bad = c.if-not-is_readable.ensures.1 readable in
    cc

pub returns-in-Some-clause-read : goal.returns-in-Some-clause-read
returns-in-Some-clause-read c =
    let readable = subst IsReadable (ap (map (λ word. string_bytes word)) c.as_slice.ensures.value) (c.if-not-is_readable.ensures.0 refl) in
    asked_list (map (λ word. string_bytes word) c.args.words.now.items) (λ name. first_value (found_of c.in-Ok.matches) name)
    (request_of c.in-Some.command) readable c.in-Ok.ensures.read (rw c.in-Some.is at c.command_of-command.ensures.found)

pub returns-in-None-clause-refused : goal.returns-in-None-clause-refused
returns-in-None-clause-refused c e request is =
    (rw c.in-None.is at c.command_of-command.ensures.none) request
    (list_asks (map (λ word. string_bytes word) c.args.words.now.items)
    (λ name. first_value (found_of c.in-Ok.matches) name) request c.in-Ok.ensures.read is)

pub returns-in-Err-clause-refused : goal.returns-in-Err-clause-refused
returns-in-Err-clause-refused c e request is =
    let whole = whole_list (map (λ word. string_bytes word) c.args.words.now.items) request is in
    let same : c.in-Err.error ≡ NotWords = cc in
    c.in-Err.ensures.refused (ap Err same) _ whole.whole
