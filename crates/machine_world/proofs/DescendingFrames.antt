-- The frames of the program that links one chunk, at the callee's first word.
use Rattle.machine_world.proofs.Common.{refl, lit<, lit≤, [], ◌∷◌, checked, at_link, at_entry, main_frame, caller_frame, entry_frame, IsFrame, HasFrames, InPrologue, words_in, start_in}

-- main below f(1), in one chunk
pub main_in_place : IsFrame checked at_link.pool main_frame
unfolding words_in start_in
main_in_place = record { function = lit< tt; chunk = lit< tt; lowest = lit≤ tt; highest = lit≤ tt; bound = lit≤ tt; first = refl }

pub caller_in_place : IsFrame checked at_link.pool caller_frame
unfolding words_in start_in
caller_in_place = record { function = lit< tt; chunk = lit< tt; lowest = lit≤ tt; highest = lit≤ tt; bound = lit≤ tt; first = refl }

pub entered_frames : HasFrames checked at_entry.pool at_entry.core (InPrologue 0 0) (entry_frame ∷ caller_frame ∷ main_frame ∷ [])
unfolding words_in start_in
entered_frames = record {
  at = (lit< tt, lit< tt, refl);
  frames_are = (record { function = refl; operation = refl; chunk_is = refl; low_is = refl; bytes_are = refl; returns_are = refl }, (record { function = lit< tt; chunk = lit< tt; lowest = lit≤ tt; highest = lit≤ tt; bound = lit≤ tt; first = refl }, record { chunk = refl; low = refl; bytes = refl; returns = refl; called = (refl, (10, refl, refl)) }, (caller_in_place, record { chunk = refl; low = refl; bytes = refl; returns = refl; called = (refl, (2, refl, refl)) }, (main_in_place, refl, refl, refl))));
  front = refl;
  headers = (refl, (refl, refl));
}
