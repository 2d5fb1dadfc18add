use Rattle.codegen_link.proofs.FactLemmas.{facts-count}
use Rattle.codegen_link.proofs.generating.image_of.Goals as goal

pub code_of-requires : goal.code_of-requires
code_of-requires c = record {
  ready = record {
    max_path = c.args.certificate.now.max_path;
    planned = c.requires.plan;
    facts = c.requires.facts;
    fits = c.requires.fits;
    table_needs = c.requires.needs;
    global_addresses = c.in_ok-global_addresses.ensures;
    table_addresses = c.in_ok-table_addresses.ensures;
  };
}

pub table_words-requires : goal.table_words-requires
table_words-requires c = facts-count _ _ _ c.requires.facts
