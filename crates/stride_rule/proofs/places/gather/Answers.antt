use Rattle.std.proofs.lemmas.Fn.{filter_same}
use Rattle.stride_rule.proofs.Common.{rules, ap, ◌∙◌, clients_of, is_there, needs_in}
use Rattle.stride_rule.proofs.RowLemmas.{clients_gathered, gathered-shorter, needs_gathered}
use Rattle.stride_rule.proofs.places.gather.Goals as goal

pub returns-clause-clients : goal.returns-clause-clients
returns-clause-clients c = ap clients_of (filter_same _ is_there _ (λ x b f' k. search rules) _ _ c.retain.ensures.filtered) ∙ clients_gathered c.args.places.now.items

pub returns-clause-needs : goal.returns-clause-needs
returns-clause-needs c = ap needs_in (filter_same _ is_there _ (λ x b f' k. search rules) _ _ c.retain.ensures.filtered) ∙ needs_gathered c.args.places.now.items

pub returns-clause-shorter : goal.returns-clause-shorter
returns-clause-shorter c = rw (filter_same _ is_there _ (λ x b f' k. search rules) _ _ c.retain.ensures.filtered) (gathered-shorter c.args.places.now.items)
