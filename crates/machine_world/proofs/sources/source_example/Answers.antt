use Rattle.machine_world.proofs.Common.{◌≡◌, ℕ, zero, suc, ◌+◌, ◌<◌, refl, lit<, arith, sub, slt, flag, signed, word_of, checked, at_entry, main_frame, caller_frame, read, a0, standing, entry_frame, start_in}
use Rattle.cap_word.specs.Rows.{word_at}
use Rattle.c_mean.specs.Examples.{recursion}
use Rattle.machine_world.specs.DescendingSource.{waiting_f, waiting_main, call_in_f, call_in_main, entering}
use Rattle.machine_world.specs.Rests.{AtStart}
use Rattle.machine_world.specs.StandsFor.{HoldsNames, IsWaitingFrame, IsStartingFrame}
use Rattle.machine_world.proofs.DescendingFrames.{entered_frames}
use Rattle.machine_world.proofs.sources.source_example.Goals as goal

pub returns-clause-entered : goal.returns-clause-entered
unfolding sub slt flag signed word_of
returns-clause-entered c = refl

names_of_f : HoldsNames checked at_entry.pool caller_frame waiting_f.frame.names call_in_f.scope
unfolding start_in
names_of_f zero zero in_scope inside = refl
names_of_f zero (suc k) in_scope inside = absurd (omega arith)
names_of_f (suc zero) zero in_scope inside = refl
names_of_f (suc zero) (suc k) in_scope inside = absurd (omega arith)
names_of_f (suc (suc x)) k in_scope inside = absurd (omega arith)

names_of_main : HoldsNames checked at_entry.pool main_frame waiting_main.frame.names call_in_main.scope
unfolding start_in
names_of_main zero zero in_scope inside = refl
names_of_main _ _ in_scope inside = absurd (omega arith)

waits_f : IsWaitingFrame checked recursion at_entry.pool caller_frame (standing checked caller_frame) waiting_f
unfolding start_in
waits_f = record {
  function = refl;
  site = refl;
  named = refl;
  call = call_in_f;
  in_text = record { in_text = (0, lit< tt, refl); site = refl; target = refl; rest = refl };
  names = names_of_f;
  index = tt;
}

waits_main : IsWaitingFrame checked recursion at_entry.pool main_frame (standing checked main_frame) waiting_main
unfolding start_in
waits_main = record {
  function = refl;
  site = refl;
  named = refl;
  call = call_in_main;
  in_text = record { in_text = (0, lit< tt, refl); site = refl; target = refl; rest = refl };
  names = names_of_main;
  index = tt;
}

parameters_of_f : (x : ℕ) → x < 1 → word_at entering.frame.names x 0 ≡ read at_entry.core.x (a0 + x)
parameters_of_f zero below = refl
parameters_of_f (suc x) below = absurd (omega arith)

starts_f : IsStartingFrame recursion at_entry.core entry_frame entering.frame
starts_f = record {
  function = refl;
  named = refl;
  parameters = parameters_of_f;
  to_do = refl;
}

pub returns-clause-stands : goal.returns-clause-stands
returns-clause-stands c = record {
  rests = AtStart 0 _ entered_frames;
  stands = (starts_f, (waits_f, (waits_main, tt)));
  globals_are = record { widths = refl; joined = refl };
}
