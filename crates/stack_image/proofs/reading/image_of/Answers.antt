use Rattle.stack_image.proofs.Common.{take_rest}
use Rattle.stack_image.proofs.ImageLemmas.{read_in_order}
use Rattle.stack_image.proofs.reading.image_of.Goals as goal

pub returns : goal.returns
returns c =
    read_in_order c.args.bytes.now _ c.in_ok-code.rest.now c.in_ok-globals.rest.now c.in_ok-tables.rest.now
    c.in_ok-code.code c.in_ok-globals.globals c.in_ok-tables.tables c.in_ok-entries.entries
    c.sizes_of-sizes.result.code c.sizes_of-sizes.result.globals c.sizes_of-sizes.result.tables c.sizes_of-sizes.result.entries
    c.sizes_of-sizes.ensures.code c.sizes_of-sizes.ensures.globals c.sizes_of-sizes.ensures.tables c.sizes_of-sizes.ensures.entries
    (take_rest c.args.bytes.now 20) c.in_ok-code.ensures.1 c.in_ok-globals.ensures.1 c.in_ok-tables.ensures.1
    c.in_ok-code.ensures.0 c.in_ok-globals.ensures.0 c.in_ok-tables.ensures.0 c.in_ok-entries.ensures.0
