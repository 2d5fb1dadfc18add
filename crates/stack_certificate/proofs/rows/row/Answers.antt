use Rattle.stack_certificate.proofs.rows.row.Goals as goal

pub returns-in-LoadArray : goal.returns-in-LoadArray
returns-in-LoadArray c = rw c.in-LoadArray.is (c.load_array.ensures c.args.sizes.now c.in-LoadArray.a)

pub returns-in-StoreArray : goal.returns-in-StoreArray
returns-in-StoreArray c = rw c.in-StoreArray.is (c.store_array.ensures c.args.sizes.now c.in-StoreArray.a)

pub returns-in-Call : goal.returns-in-Call
returns-in-Call c = rw (c.in-Call.is, ← c.as_slice.ensures) (c.call.ensures c.args.sizes.now c.in-Call.site c.in-Call.f)

pub returns-in-CallTable : goal.returns-in-CallTable
returns-in-CallTable c = rw c.in-CallTable.is (c.call_table.ensures c.args.sizes.now c.in-CallTable.site c.in-CallTable.t)

pub returns-in-Spawn : goal.returns-in-Spawn
returns-in-Spawn c = rw c.in-Spawn.is (c.spawn.ensures c.args.sizes.now c.in-Spawn.site c.in-Spawn.f)

pub returns-in-Return : goal.returns-in-Return
returns-in-Return c = rw c.in-Return.is (c.returns.ensures c.args.sizes.now c.args.setting.now)
