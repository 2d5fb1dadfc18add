use Rattle.machine_world.proofs.Common.{refl, word_of, add, jump_register, branch, load, store, shift, with_immediate, base, alternate, multiply, with_register, fence, system, decoding, half_at, word_at, with_half, with_word, half_is_writable, word_is_writable, effect, passes, sets, jumps, branches, word_loaded, loads, word_stored, instruction_at, started, outcome, spot_of, local_step, words_in, start_in, chunk_in, taken_for}
use Rattle.machine_world.proofs.examples.local_examples.Goals as goal

pub returns-clause-puts : goal.returns-clause-puts
unfolding local_step outcome instruction_at started effect passes sets jumps branches word_loaded loads word_stored half_at word_at with_half with_word half_is_writable word_is_writable spot_of words_in start_in chunk_in taken_for word_of add jump_register branch load store shift with_immediate base alternate multiply with_register fence system decoding
returns-clause-puts c = refl

pub returns-clause-ends : goal.returns-clause-ends
unfolding local_step outcome instruction_at started effect passes sets jumps branches word_loaded loads word_stored half_at word_at with_half with_word half_is_writable word_is_writable spot_of words_in start_in chunk_in taken_for word_of add jump_register branch load store shift with_immediate base alternate multiply with_register fence system decoding
returns-clause-ends c = refl

pub returns-clause-links : goal.returns-clause-links
unfolding local_step outcome instruction_at started effect passes sets jumps branches word_loaded loads word_stored half_at word_at with_half with_word half_is_writable word_is_writable spot_of words_in start_in chunk_in taken_for word_of add jump_register branch load store shift with_immediate base alternate multiply with_register fence system decoding
returns-clause-links c = refl

pub returns-clause-no_room : goal.returns-clause-no_room
unfolding local_step outcome instruction_at started effect passes sets jumps branches word_loaded loads word_stored half_at word_at with_half with_word half_is_writable word_is_writable spot_of words_in start_in chunk_in taken_for word_of add jump_register branch load store shift with_immediate base alternate multiply with_register fence system decoding
returns-clause-no_room c = refl

pub returns-clause-fault : goal.returns-clause-fault
unfolding local_step outcome instruction_at started effect passes sets jumps branches word_loaded loads word_stored half_at word_at with_half with_word half_is_writable word_is_writable spot_of words_in start_in chunk_in taken_for word_of add jump_register branch load store shift with_immediate base alternate multiply with_register fence system decoding
returns-clause-fault c = refl

pub returns-clause-wrong_unlink : goal.returns-clause-wrong_unlink
unfolding local_step outcome instruction_at started effect passes sets jumps branches word_loaded loads word_stored half_at word_at with_half with_word half_is_writable word_is_writable spot_of words_in start_in chunk_in taken_for word_of add jump_register branch load store shift with_immediate base alternate multiply with_register fence system decoding
returns-clause-wrong_unlink c = refl

pub returns-clause-wrong_end : goal.returns-clause-wrong_end
unfolding local_step outcome instruction_at started effect passes sets jumps branches word_loaded loads word_stored half_at word_at with_half with_word half_is_writable word_is_writable spot_of words_in start_in chunk_in taken_for word_of add jump_register branch load store shift with_immediate base alternate multiply with_register fence system decoding
returns-clause-wrong_end c = refl

pub returns-clause-no_call : goal.returns-clause-no_call
unfolding local_step outcome instruction_at started effect passes sets jumps branches word_loaded loads word_stored half_at word_at with_half with_word half_is_writable word_is_writable spot_of words_in start_in chunk_in taken_for word_of add jump_register branch load store shift with_immediate base alternate multiply with_register fence system decoding
returns-clause-no_call c = refl
