use Rattle.cap_word.specs.Word as word
use Rattle.rv_code.specs.declared.instructions.Instr.TheVariants as instr
use Rattle.decoded_code.proofs.Common.{◌≡◌, ℕ, Some, sym, ap, ◌∙◌, Nothing, effect, write, Machine, Goes, next, relative, done, place_at}
use Rattle.decoded_code.proofs.Jumps.{jumps_at}
use Rattle.decoded_code.proofs.readying.jump_of.Goals as goal

pub returns-in-Some : goal.returns-in-Some
unfolding done effect
returns-in-Some c =
    let at = c.in-Some.index in
    let target : (m : Machine) → m.pc ≡ c.args.place → place_at at ≡ relative m c.args.imm = λ m pc.
    c.in-Some.ensures ∙ c.add.ensures ∙ ap (word.add c.args.place) c.jump_offset.ensures ∙ ap (λ (p : ℕ). word.add p (word.word_of c.args.imm)) (sym pc) in
    c.jump.ensures c.args.place (instr.Jal c.args.rd c.args.imm)
    (λ zero m pc. jumps_at m c.args.rd at (relative m c.args.imm) (target m pc) ∙ ap (λ (r : ℕ). Goes (place_at at) (write m.x r (next m)) Nothing) zero)
    (λ m pc. jumps_at m c.args.rd at (relative m c.args.imm) (target m pc))

pub returns-in-None : goal.returns-in-None
returns-in-None c = c.other.ensures c.args.place (Some (instr.Jal c.args.rd c.args.imm))
