use Rattle.std.proofs.Common.{ℕ, ◌≡◌, ◌+◌, ◌-◌, ◌%◌, ◌<◌, arith}
use Rattle.grammar_reader.proofs.globals.negative.Goals as goal

negative_word : (r v : ℕ) → r < 4294967296 → v < 4294967296 → (r + v) % 4294967296 ≡ 0 → r ≡ (4294967296 - v) % 4294967296
negative_word r v a b e = omega arith

pub returns : goal.returns
returns c = negative_word c.wrapping_neg.result c.args.value (omega arith) (omega arith) c.wrapping_neg.ensures
