use Rattle.std.proofs.Common.{◌≡◌, arith, get_or, sym, Some, None, ap, ◌∙◌}
use Rattle.std.proofs.lemmas.Grind.{common_steps}
use Rattle.std.specs.List.{position}
use Rattle.cap_io.specs.Entries.{entries_of, file_in}
use Rattle.cap_io.proofs.EntryList.{has_name, file_at, file_none, HasNone-position, IsPlace-position}
use Rattle.cap_io.proofs.file_list.FileList.load.Goals as goal

pub returns-in_default-clause-file : goal.returns-in_default-clause-file
returns-in_default-clause-file c =
    let none : position (has_name c.args.name.now) c.self.inside.files.items ≡ None = grind (arith, common_steps)
    in rw (← c.self.view_is) (file_none c.args.name.now c.self.inside.files.items (HasNone-position _ _ none))

pub returns-then-len-max-clause-file : goal.returns-then-len-max-clause-file
returns-then-len-max-clause-file c =
    let found : position (has_name c.args.name.now) c.self.inside.files.items ≡ Some c.in-Some.place = grind (arith, common_steps)
    in let file : file_in (entries_of c.self.inside.files.items) c.args.name.now ≡ Some (get_or c.self.inside.files.items c.in-Some.place c.index.result.now).1.items =
    file_at c.args.name.now c.self.inside.files.items c.in-Some.place c.index.result.now (IsPlace-position _ _ _ _ found)
    in rw (← c.self.view_is, file, ← c.index.ensures) (grind (arith, common_steps))

pub returns-clause-file : goal.returns-clause-file
returns-clause-file c =
    let found : position (has_name c.args.name.now) c.self.inside.files.items ≡ Some c.in-Some.place = grind (arith, common_steps)
    in let file : file_in (entries_of c.self.inside.files.items) c.args.name.now ≡ Some (get_or c.self.inside.files.items c.in-Some.place c.index.result.now).1.items =
    file_at c.args.name.now c.self.inside.files.items c.in-Some.place c.index.result.now (IsPlace-position _ _ _ _ found)
    in rw (← c.self.view_is, file, ← c.index.ensures) (ap Some (sym (c.in-Ok.ensures.items ∙ c.deref-2.ensures.value)))
