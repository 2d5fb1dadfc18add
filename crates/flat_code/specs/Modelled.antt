-- The calls of the thread package that `Model` makes, by their numbers: how many arguments each takes, and whether
-- it gives a result, by the table of the modelled calls. `spawn` isn't one of them, since it names a function.
use Rattle.std.specs.Prelude.{ℕ, Bool, false, Option, option_map, unwrap_or}
use Rattle.cap_word.specs.ModelledCalls.{call_numbered, parameters_of, gives_result}

abbrev pub modelled_parameters : ℕ → Option ℕ
modelled_parameters n = option_map parameters_of (call_numbered n)

abbrev pub modelled_gives : ℕ → Bool
modelled_gives n = unwrap_or (option_map gives_result (call_numbered n)) false
