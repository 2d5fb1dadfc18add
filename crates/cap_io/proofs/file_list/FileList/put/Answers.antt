use Rattle.std.proofs.Common.{◌≡◌, arith, Some, None}
use Rattle.std.proofs.lemmas.Grind.{common_steps}
use Rattle.std.specs.List.{position}
use Rattle.cap_io.proofs.EntryList.{has_name, put_over, put_new, HasNone-position, IsPlace-position}
use Rattle.cap_io.proofs.file_list.FileList.put.Goals as goal

pub returns-in-Some-clause-ok : goal.returns-in-Some-clause-ok
returns-in-Some-clause-ok c =
    let found : position (has_name c.args.name.now) c.self.inside.files.items ≡ Some c.in-Some.place = grind (arith, common_steps)
    in rw (← c.self.view_is) (put_over c.args.name.now c.self.inside.files.items c.in-Some.place c.index_mut.result.now c.in_ok-copy.copy _
    c.index_mut.ensures.value c.in_ok-copy.ensures.items (IsPlace-position _ _ _ _ found))

pub returns-in_ok-push-in-None-clause-ok : goal.returns-in_ok-push-in-None-clause-ok
returns-in_ok-push-in-None-clause-ok c =
    let none : position (has_name c.args.name.now) c.self.inside.files.items ≡ None = grind (arith, common_steps)
    in rw (← c.self.view_is) (put_new c.args.name.now c.self.inside.files.items _ c.in_ok-copy.copy c.in_ok-name-in-None.name _
    c.in_ok-name-in-None.ensures.ok c.in_ok-copy.ensures.items c.in_ok-push-in-None.ensures.items (HasNone-position _ _ none))
