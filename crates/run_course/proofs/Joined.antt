-- What goes through the writer of a log, text by text, and what its sink has taken in the end.
use Rattle.std.specs.Io.KnownBytes.{Appends, append_known}
use Rattle.std.proofs.KnownBytes.{Appends-nil, Appends-trans}
use Rattle.run_course.proofs.Common.{ℕ, List, [], ◌++◌, Option, Some, None, Result, Ok, Err, sym, ap, ◌∙◌, subst, arith, append_assoc, append-nil, length-append, take-append-le, Failure, Output, joined, TakesPart, Grows}
use Rattle.cap_io.specs.Writes.{Puts}
use Rattle.schedule_log.specs.Writing.{TakesPrefix}
use Rattle.buffered_writer.specs.declared.writer.PutError.{PutError}
use Rattle.schedule_log.proofs.Written.{prefix_none, put_finished}
use Rattle.run_course.proofs.FitTexts.{fit_none, fit_on}

-- ---- beginnings

-- a beginning of a text is one of a longer text
prefix_more : (a b : Option (List ℕ)) (s t : List ℕ) → TakesPrefix a b s → TakesPrefix a b (s ++ t)
prefix_more a b s t part = (
  part.0,
  let size = length-append s t in let most = part.1 in omega (arith, size, most),
  subst (λ (l : List ℕ). Appends a b l) (sym (take-append-le part.0 s t part.1)) part.2,
)

pub part_more : (old new : Output) (s t : List ℕ) → TakesPart old new s → TakesPart old new (s ++ t)
part_more old new s t part = subst (λ (l : List ℕ). TakesPrefix old.taken new.taken l) (append_assoc old.held s t) (prefix_more old.taken new.taken (old.held ++ s) t part)

pub part_none : (now : Output) (text : List ℕ) → TakesPart now now text
part_none now text = prefix_none now.taken (now.held ++ text)

-- ---- a text behind another

joined_more : (a b : Option (List ℕ)) (x y s t : List ℕ) → Appends (append_known a x) (append_known b y) s → Appends (append_known a []) (append_known b (y ++ t)) (x ++ (s ++ t))
joined_more None b x y s t whole = tt
joined_more (Some a) None x y s t whole = absurd whole
joined_more (Some a) (Some b) x y s t whole =
    sym (append_assoc b y t) ∙ ap (λ (l : List ℕ). l ++ t) whole ∙ append_assoc (a ++ x) s t ∙ append_assoc a x (s ++ t)
    ∙ ap (λ (l : List ℕ). l ++ (x ++ (s ++ t))) (sym (append-nil a))

-- a text that was put, and then what the sink took of what is held and more
finish_by : (old mid : Output) (last : Option (List ℕ)) (s t : List ℕ) (result : Result (Unit {0}) PutError) → Grows old mid s → Puts mid.taken last (mid.held ++ t) result → Puts old.taken last (old.held ++ (s ++ t)) result
finish_by old mid last s t result grows puts =
    put_finished old.taken mid.taken last (old.held ++ (s ++ t)) (mid.held ++ t) result (joined_more old.taken mid.taken old.held mid.held s t grows.whole)
    (part_more old mid s t grows.part) puts

pub part_on : (old mid : Output) (last : Option (List ℕ)) (s t : List ℕ) → Grows old mid s → TakesPrefix mid.taken last (mid.held ++ t) → TakesPrefix old.taken last (old.held ++ (s ++ t))
part_on old mid last s t grows part = finish_by old mid last s t (Err PutError.WriteFault) grows part

pub whole_on : (old mid : Output) (last : Option (List ℕ)) (s t : List ℕ) → Grows old mid s → Appends mid.taken last (mid.held ++ t) → Appends old.taken last (old.held ++ (s ++ t))
whole_on old mid last s t grows whole = finish_by old mid last s t (Ok tt) grows whole

pub grows_on : (old mid new : Output) (s t : List ℕ) → Grows old mid s → Grows mid new t → Grows old new (s ++ t)
grows_on old mid new s t first then_ = record {
  whole = Appends-trans (joined old) (joined mid) (joined new) s t first.whole then_.whole;
  part = part_on old mid new.taken s t first then_.part;
  fits = fit_on s t first.fits then_.fits;
  buffered = λ few. then_.buffered (first.buffered few);
}

pub grows_none : (now : Output) → Grows now now []
grows_none now = record { whole = Appends-nil (joined now); part = part_none now []; fits = fit_none; buffered = λ few. few }

-- ---- results

-- all that is held is written
pub finished : (old mid : Output) (last : Option (List ℕ)) (text : List ℕ) (result : Result (Unit {0}) Failure) → Grows old mid text → Puts mid.taken last mid.held result → Puts old.taken last (old.held ++ text) result
finished old mid last text (Ok v) grows whole =
    subst (λ (l : List ℕ). Appends old.taken last (old.held ++ l)) (append-nil text)
    (whole_on old mid last text [] grows (subst (λ (l : List ℕ). Appends mid.taken last l) (sym (append-nil mid.held)) whole))
finished old mid last text (Err failure) grows part =
    subst (λ (l : List ℕ). TakesPrefix old.taken last (old.held ++ l)) (append-nil text)
    (part_on old mid last text [] grows (subst (λ (l : List ℕ). TakesPrefix mid.taken last l) (sym (append-nil mid.held)) part))
