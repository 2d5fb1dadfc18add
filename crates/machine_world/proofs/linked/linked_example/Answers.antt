-- The runs are computed; the frames are put together fact by fact.
use Rattle.machine_world.proofs.Common.{refl, lit<, lit≤, word_of, add, sub, slt, flag, signed, jump_register, branch, load, store, shift, with_immediate, base, alternate, multiply, with_register, fence, system, decoding, half_at, word_at, with_half, with_word, half_is_writable, word_is_writable, effect, passes, sets, jumps, branches, word_loaded, loads, word_stored, instruction_at, started, outcome, spot_of, local_step, start_world, step, words_in, start_in, chunk_in, taken_for}
use Rattle.rv_code.specs.Table.{encoding}
use Rattle.machine_world.proofs.DescendingFrames.{main_in_place, caller_in_place, entered_frames}
use Rattle.machine_world.proofs.linked.linked_example.Goals as goal

pub returns-clause-code : goal.returns-clause-code
unfolding encoding
returns-clause-code c = refl

pub returns-clause-puts : goal.returns-clause-puts
unfolding start_world step local_step outcome instruction_at started effect passes sets jumps branches word_loaded loads word_stored half_at word_at with_half with_word half_is_writable word_is_writable spot_of words_in start_in chunk_in taken_for word_of add sub slt flag signed jump_register branch load store shift with_immediate base alternate multiply with_register fence system decoding
returns-clause-puts c = refl

pub returns-clause-ends : goal.returns-clause-ends
unfolding start_world step local_step outcome instruction_at started effect passes sets jumps branches word_loaded loads word_stored half_at word_at with_half with_word half_is_writable word_is_writable spot_of words_in start_in chunk_in taken_for word_of add sub slt flag signed jump_register branch load store shift with_immediate base alternate multiply with_register fence system decoding
returns-clause-ends c = refl

pub returns-clause-no_chunk : goal.returns-clause-no_chunk
unfolding start_world step local_step outcome instruction_at started effect passes sets jumps branches word_loaded loads word_stored half_at word_at with_half with_word half_is_writable word_is_writable spot_of words_in start_in chunk_in taken_for word_of add sub slt flag signed jump_register branch load store shift with_immediate base alternate multiply with_register fence system decoding
returns-clause-no_chunk c = refl

pub returns-clause-linked : goal.returns-clause-linked
unfolding start_world step local_step outcome instruction_at started effect passes sets jumps branches word_loaded loads word_stored half_at word_at with_half with_word half_is_writable word_is_writable spot_of words_in start_in chunk_in taken_for word_of add sub slt flag signed jump_register branch load store shift with_immediate base alternate multiply with_register fence system decoding
returns-clause-linked c = refl

pub returns-clause-entered : goal.returns-clause-entered
unfolding start_world step local_step outcome instruction_at started effect passes sets jumps branches word_loaded loads word_stored half_at word_at with_half with_word half_is_writable word_is_writable spot_of words_in start_in chunk_in taken_for word_of add sub slt flag signed jump_register branch load store shift with_immediate base alternate multiply with_register fence system decoding
returns-clause-entered c = refl

pub returns-clause-inside : goal.returns-clause-inside
unfolding start_world step local_step outcome instruction_at started effect passes sets jumps branches word_loaded loads word_stored half_at word_at with_half with_word half_is_writable word_is_writable spot_of words_in start_in chunk_in taken_for word_of add sub slt flag signed jump_register branch load store shift with_immediate base alternate multiply with_register fence system decoding
returns-clause-inside c = refl

pub returns-clause-linked_frames : goal.returns-clause-linked_frames
unfolding words_in start_in
returns-clause-linked_frames c = record {
  at = (lit< tt, lit< tt, refl);
  frames_are = (lit< tt, refl, record { function = refl; operation = refl; chunk_is = refl; low_is = refl; bytes_are = refl; returns_are = refl }, (caller_in_place, record { chunk = refl; low = refl; bytes = refl; returns = refl; called = (refl, (2, refl, refl)) }, (main_in_place, refl, refl, refl)));
  front = refl;
  headers = (refl, (refl, refl));
}

pub returns-clause-entered_frames : goal.returns-clause-entered_frames
returns-clause-entered_frames c = entered_frames

-- the same in the pool as it is in the callee
pub returns-clause-inside_frames : goal.returns-clause-inside_frames
unfolding words_in start_in
returns-clause-inside_frames c = record {
  at = (lit< tt, lit< tt, refl);
  frames_are = (record { function = refl; operation = refl; chunk_is = refl; low_is = refl; bytes_are = refl; returns_are = refl }, (record { function = lit< tt; chunk = lit< tt; lowest = lit≤ tt; highest = lit≤ tt; bound = lit≤ tt; first = refl }, record { chunk = refl; low = refl; bytes = refl; returns = refl; called = (refl, (10, refl, refl)) }, (record { function = lit< tt; chunk = lit< tt; lowest = lit≤ tt; highest = lit≤ tt; bound = lit≤ tt; first = refl }, record { chunk = refl; low = refl; bytes = refl; returns = refl; called = (refl, (2, refl, refl)) }, (record { function = lit< tt; chunk = lit< tt; lowest = lit≤ tt; highest = lit≤ tt; bound = lit≤ tt; first = refl }, refl, refl, refl))));
  front = refl;
  headers = (refl, (refl, refl));
}
