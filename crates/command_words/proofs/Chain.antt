-- A parser with one more argument, and with several in turn.
use Rattle.command_words.proofs.Common.{◌≡◌, ◌∙◌, ap, ap₂, false, sym, ℕ, ◌+◌, ◌<◌, ◌≤◌, List, length, take, get_or, fold, take_all, App, app_of, with_rule, Rule, rule_of, Command}
use Rattle.std.proofs.lemmas.List.Sums.{fold_more}
use Rattle.clap.specs.Built.{AddsArg}
use Rattle.clap.specs.declared.builder.arg.Arg.{Arg}

-- a parser with the rules of all items
abbrev with_rules : {A : Type 0} (rule_at : A → Rule) → App → List A → App
with_rules rule_at app items = fold (λ before item. with_rule before (rule_at item)) app items

one_more : (old : Command) (a : Arg) (new : Command) (app : App) (rule : Rule) → AddsArg old a new → a.global ≡ false → app_of old ≡ app
    → rule_of a ≡ rule → app_of new ≡ with_rule app rule
one_more old a new app rule added local before is = added.shape local ∙ ap₂ with_rule before is

-- the argument of an item is added to those of the items before it
pub more_arguments : {A : Type 0} (rule_at : A → Rule) (old : Command) (a : Arg) (new : Command) (app : App) (items : List A) (i : ℕ) (d : A)
    → AddsArg old a new → a.global ≡ false → app_of old ≡ with_rules rule_at app (take i items) → i < length items → rule_of a ≡ rule_at (get_or items i d)
    → app_of new ≡ with_rules rule_at app (take (i + 1) items)
more_arguments rule_at old a new app items i d added local before below is =
    one_more old a new _ _ added local before is ∙ sym (fold_more (λ before item. with_rule before (rule_at item)) app items i d below)

pub all_arguments : {A : Type 0} (rule_at : A → Rule) (new : Command) (app : App) (items : List A) (i : ℕ) → app_of new ≡ with_rules rule_at app (take i items)
    → length items ≤ i → app_of new ≡ with_rules rule_at app items
all_arguments rule_at new app items i is over = is ∙ ap (with_rules rule_at app) (take_all i items over)
