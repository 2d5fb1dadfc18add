use Rattle.command_words.proofs.Common.{ap, map, ◌∙◌, string_bytes}
use Rattle.command_words.proofs.Answered.{parsed, refused}
use Rattle.command_words.proofs.parser.parse.Goals as goal

pub returns-in-Ok-try_get_matches_from-clause-read : goal.returns-in-Ok-try_get_matches_from-clause-read
returns-in-Ok-try_get_matches_from-clause-read c =
    parsed c.in-Ok.parser _ _ c.in-Ok-try_get_matches_from.matches c.in-Ok.ensures (ap (map (λ word. string_bytes word)) c.as_slice.ensures.value) c.requires
    c.in-Ok-try_get_matches_from.ensures.kinds c.in-Ok-try_get_matches_from.ensures.matches

pub returns-in-Err-clause-refused : goal.returns-in-Err-clause-refused
returns-in-Err-clause-refused c e said is =
    refused c.in-Ok.parser _ _ c.in-Err.error c.in-Ok.ensures (ap (map (λ word. string_bytes word)) c.as_slice.ensures.value) c.in-Err.ensures.kinds
    (λ memory. let is_memory = c.refusal.ensures.1 (c.kind.ensures ∙ memory) in cc) said is
