use Rattle.pair_commands.proofs.Common.{◌≡◌, ◌≢◌, ◌∙◌, ℕ, List, [], ◌∷◌, Err, refl, subst, err_from_is_err_and, Builds, stored_products, Outside, WhereTold, AreStored, outside_beside, AreStores, IsPrinted, IsStatus, stopped, stores-cut, printed-ends, stored-after, stores-after, Keeps-refl}
use Rattle.pair_commands.proofs.build_command.do_build.Goals as goal

pub returns-in_err-products : goal.returns-in_err-products
returns-in_err-products g c = λ left reads.
    let p = err_from_is_err_and c.from_residual.result c.from_residual.ensures.1 in
    let F = g.F.Shelf in let K = g.K.Sink in let a = c.args in let shelf = c.build_source.new.shelf in
    let before : Outside = outside_beside F.files F.load_faults F.store_faults left reads K.taken K.faults a.shelf.now a.out.now in
    let after : Outside = outside_beside F.files F.load_faults F.store_faults left reads K.taken K.faults shelf a.out.now in
    let step = c.in_err-products.ensures in
    rw (p.1, p.2) (stopped IsStatus (Builds before.files a.source.now a.image.now a.certificate.now a.options) before after c.in_err-products.field-0.0 step.files step.stores (Keeps-refl left) refl (Keeps-refl before.taken) refl (step.answer a.image.now a.certificate.now))

pub returns-in_err-store_both : goal.returns-in_err-store_both
returns-in_err-store_both g c = λ left reads.
    let p = err_from_is_err_and c.from_residual-in_err-store_both.result c.from_residual-in_err-store_both.ensures.1 in
    let F = g.F.Shelf in let K = g.K.Sink in let a = c.args in let loaded = c.build_source.new.shelf in let shelf = c.store_both.new.shelf in
    let before : Outside = outside_beside F.files F.load_faults F.store_faults left reads K.taken K.faults a.shelf.now a.out.now in
    let after : Outside = outside_beside F.files F.load_faults F.store_faults left reads K.taken K.faults shelf a.out.now in
    let outcome = stored_products a.image.now a.certificate.now c.in_ok-products.products in
    let first = c.in_ok-products.ensures in
    let is = first.answer a.image.now a.certificate.now in
    let some : outcome.stores ≢ [] = λ none. cc in
    let stop = c.in_err-store_both.field-0.0 in
    let step = c.in_err-store_both.ensures in
    let Stores : List ℕ → List ℕ → Type 0 = λ x y. AreStores ((a.image.now, x) ∷ (a.certificate.now, y) ∷ []) (F.files loaded) (F.files shelf) (F.store_faults loaded) (F.store_faults shelf) (Err stop) in
    let stored : Stores c.as_slice.result.now c.as_slice-2.result.now = step.stored in
    let half = subst (λ x. Stores x c.as_slice-2.result.now) c.as_slice.ensures.value stored in
    let stores = subst (λ y. Stores c.in_ok-products.products.image.items y) c.as_slice-2.ensures.value half in
    rw (p.1, p.2) (stores-cut (Builds before.files a.source.now a.image.now a.certificate.now a.options) before after outcome stop is.0 some (Keeps-refl left) (Keeps-refl before.taken) (step.loads ∙ is.1) refl refl
    (stores-after outcome.stores before.files (F.files loaded) after.files before.stores (F.store_faults loaded) after.stores (Err stop) first.files first.stores stores))

pub returns : goal.returns
returns g c = λ left reads.
    let F = g.F.Shelf in let K = g.K.Sink in let a = c.args in let loaded = c.build_source.new.shelf in let shelf = c.store_both.new.shelf in
    let before : Outside = outside_beside F.files F.load_faults F.store_faults left reads K.taken K.faults a.shelf.now a.out.now in
    let after : Outside = outside_beside F.files F.load_faults F.store_faults left reads K.taken K.faults shelf c.print.new.out in
    let outcome = stored_products a.image.now a.certificate.now c.in_ok-products.products in
    let first = c.in_ok-products.ensures in
    let is = first.answer a.image.now a.certificate.now in
    let step = c.in_ok-store_both.ensures in
    let Stored : List ℕ → List ℕ → Type 0 = λ x y. WhereTold (AreStored ((a.image.now, x) ∷ (a.certificate.now, y) ∷ [])) (F.files loaded) (F.files shelf) × (F.store_faults shelf ≡ F.store_faults loaded) in
    let stored : Stored c.as_slice.result.now c.as_slice-2.result.now = step.stored in
    let half = subst (λ x. Stored x c.as_slice-2.result.now) c.as_slice.ensures.value stored in
    let stores = subst (λ y. Stored c.in_ok-products.products.image.items y) c.as_slice-2.ensures.value half in
    let Printed : List ℕ → Type 0 = λ text. IsPrinted 0 text (K.taken a.out.now) (K.taken c.print.new.out) (K.faults a.out.now) (K.faults c.print.new.out) c.print.result in
    let told : Printed c.as_slice-3.result.now = c.print.ensures in
    printed-ends (Builds before.files a.source.now a.image.now a.certificate.now a.options) before after outcome c.print.result is.0 refl refl (Keeps-refl left)
    (stored-after outcome.stores before.files (F.files loaded) after.files first.files stores.0) (step.loads ∙ is.1) (stores.1 ∙ first.stores) refl (subst Printed c.as_slice-3.ensures.value told)
