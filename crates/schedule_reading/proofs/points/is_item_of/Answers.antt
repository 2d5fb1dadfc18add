use Rattle.std.proofs.Common.{◌<◌, ◌^◌, w32, FitsSigned, rules}
use Rattle.schedule_reading.proofs.Items.{arrives, carries}
use Rattle.schedule_reading.proofs.points.is_item_of.Goals as goal

pub returns-in-Arrive-Arrive : goal.returns-in-Arrive-Arrive
returns-in-Arrive-Arrive c =
    let fits : FitsSigned w32 c.in-Arrive-Arrive.value = search rules in
    let fits_read : FitsSigned w32 c.cast_signed.result = search rules in
    let small : c.in-Arrive-Arrive.word < 2 ^ 32 = search rules in
    arrives c.in-Arrive-Arrive.value c.cast_signed.result c.in-Arrive-Arrive.word fits fits_read c.cast_signed.ensures small c.args.item.now c.args.kind c.in-Arrive-Arrive.is-0 c.in-Arrive-Arrive.is-1

pub returns-then-channel-to : goal.returns-then-channel-to
returns-then-channel-to c =
    let fits : FitsSigned w32 c.in-Data-Message.value = search rules in
    let fits_read : FitsSigned w32 c.cast_signed-then-channel-to.result = search rules in
    let small : c.in-Data-Message.word < 2 ^ 32 = search rules in
    carries c.in-Data-Message.value c.cast_signed-then-channel-to.result c.in-Data-Message.word fits fits_read c.cast_signed-then-channel-to.ensures small c.args.item.now c.args.kind c.in-Data-Message.channel c.in-Data-Message.to c.if-channel-to.true
    c.in-Data-Message.is-0 c.in-Data-Message.is-1
