-- The lines with the results of the analysis of a program's calls.
use Rattle.std.specs.Prelude.{ℕ, zero, suc, if◌then◌else◌, List, [], ◌∷◌, ◌++◌, map, length, codes, slice_index, slice_index_or}
use Rattle.cap_text.specs.Decimals.{canonical_decimal}
use Rattle.cap_text.specs.TextLines.{ended_lines}
use Rattle.call_graph.specs.declared.sites.GraphSite.{GraphSite}
use Rattle.call_graph.specs.Lists.{has}

-- the name of a function, by number
abbrev pub name_at : List (List ℕ) → ℕ → List ℕ
name_at names function = slice_index_or names function []

-- `function I NAME frame F bound B`
abbrev pub function_line : (names : List (List ℕ)) → (weights bounds : List ℕ) → ℕ → List ℕ
function_line names weights bounds function =
    (((((codes "function " ++ canonical_decimal function) ++ 32 ∷ name_at names function) ++ codes " frame ") ++ canonical_decimal (slice_index weights function)) ++ codes " bound ") ++ canonical_decimal (slice_index bounds function)

-- the kind of a site: a back edge, checkpointed but not a back edge, or plain
abbrev pub kind_word : (back checkpointed : List ℕ) → ℕ → List ℕ
kind_word back checkpointed number = if has number back then codes "back" else (if has number checkpointed then codes "over" else codes "plain")

-- `site S CALLER back`, `site S CALLER over` or `site S CALLER plain`
abbrev pub site_line : (names : List (List ℕ)) → (back checkpointed : List ℕ) → GraphSite → List ℕ
site_line names back checkpointed site = (((codes "site " ++ canonical_decimal site.number) ++ 32 ∷ name_at names site.caller) ++ 32 ∷ []) ++ kind_word back checkpointed site.number

-- the lines of the functions below a number, each with its line feed
abbrev pub functions_text : (names : List (List ℕ)) → (weights bounds : List ℕ) → ℕ → List ℕ
functions_text names weights bounds zero = []
functions_text names weights bounds (suc n) = functions_text names weights bounds n ++ (function_line names weights bounds n ++ 10 ∷ [])

-- a line for each function by number, then one for each site in order, each with its line feed
abbrev pub analysis_lines : (names : List (List ℕ)) → (weights bounds : List ℕ) → List GraphSite → (back checkpointed : List ℕ) → List ℕ
analysis_lines names weights bounds sites back checkpointed =
    functions_text names weights bounds (length names) ++ ended_lines (map (site_line names back checkpointed) sites)
