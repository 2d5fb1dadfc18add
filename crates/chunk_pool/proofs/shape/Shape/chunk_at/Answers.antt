use Rattle.chunk_pool.proofs.Common.{◌≡◌, ℕ, ◌+◌, ◌-◌, ◌*◌, ◌/◌, ◌∙◌, sym, ap, arith, Some, first_place, first_end}
use Rattle.chunk_pool.proofs.AddressLaws.{chunk_in-below, chunk_in-first, chunk_in-extra, chunk_in-above, some_where}
use Rattle.chunk_pool.proofs.shape.Shape.chunk_at.Goals as goal

pub returns-in_err-offset : goal.returns-in_err-offset
returns-in_err-offset c = c.from_residual.ensures ∙ sym (chunk_in-below c.args.self c.args.address (omega (arith, c.in_err-offset.ensures)))

pub returns-then-offset-first_bytes : goal.returns-then-offset-first_bytes
returns-then-offset-first_bytes c =
    let s = c.args.self in
    let is : c.in_ok-offset.offset ≡ c.args.address - first_place = omega (arith, c.in_ok-offset.ensures) in
    some_where c.checked_div.result (c.in_ok-offset.offset / (4 * s.words)) c.checked_div.ensures (omega (arith, c.requires.header_fits))
    ∙ (ap (λ (n : ℕ). Some (n / (4 * s.words))) is
    ∙ sym (chunk_in-first s c.args.address (omega (arith, c.in_ok-offset.ensures)) (omega (arith, c.in_ok-offset.ensures, c.if-offset-first_bytes.true))))

pub returns-in_ok-checked_div : goal.returns-in_ok-checked_div
returns-in_ok-checked_div c =
    let s = c.args.self in
    let is : c.in_ok-offset.offset - 4 * (s.first_count * s.words) ≡ c.args.address - first_end s = omega (arith, c.in_ok-offset.ensures) in
    ap (λ (n : ℕ). Some (s.first_count + n)) (c.in_ok-checked_div.ensures.1 ∙ ap (λ (n : ℕ). n / (4 * s.extra_words)) is)
    ∙ sym (chunk_in-extra s c.args.address (omega (arith, c.in_ok-offset.ensures, c.if-offset-first_bytes.false))
    (omega (arith, c.in_ok-offset.ensures, c.if-offset-first_bytes.false, c.if-behind-self.true)))

pub returns-else-behind-self : goal.returns-else-behind-self
returns-else-behind-self c =
    sym (chunk_in-above c.args.self c.args.address (omega (arith, c.in_ok-offset.ensures, c.if-offset-first_bytes.false, c.if-behind-self.false)))
