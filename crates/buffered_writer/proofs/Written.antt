-- What goes through a writer of a log, piece by piece.
use Rattle.std.proofs.Common.{◌≡◌, ℕ, ◌≤◌, true, false, List, [], ◌∷◌, ◌++◌, length, take, drop, refl, sym, ap, ◌∙◌, subst, arith, append_assoc, length-append, Option, None, Some, Result, Ok, Err}
use Rattle.std.specs.Prelude.{IsSome, OnOk}
use Rattle.std.specs.Io.KnownBytes.{Appends, append_known}
use Rattle.std.proofs.KnownBytes.{Appends-nil, Appends-trans, Appends-kept, Keeps-refl, Keeps-trans}
use Rattle.std.proofs.lemmas.List.{append-nil, append_cancel_left, take-append-drop}
use Rattle.std.proofs.Math.Seq.{take-append_seam}
use Rattle.cap_io.specs.Writes.{Puts}
use Rattle.buffered_writer.specs.declared.writer.PutError.{PutError}
use Rattle.buffered_writer.specs.declared.writer.PutError.TheVariants.{WriteFault, Memory}
use Rattle.buffered_writer.specs.Puts.{CountsPut}
use Rattle.buffered_writer.specs.Writing.{WriterState, LogState, log_state, KeepsAnswer, TakesPrefix, CountsRefusal, Passes, Rests, Writes}

-- a count that stayed, and then does as the refusal says
counts_on : (r : Option PutError) (a b c : ℕ) → b ≡ a → CountsRefusal r b c → CountsRefusal r a c
counts_on r a b c same counts = subst (λ (n : ℕ). CountsRefusal r n c) same counts

-- two texts, one behind the other

passes_on : (a b c : LogState) (s t : List ℕ) → Passes a b s → b.writer.refused ≡ None → Passes b c t → Passes a c (s ++ t)
passes_on a b c s t f none g =
    let faults : b.faults ≡ a.faults = subst (λ (r : Option PutError). CountsRefusal r a.faults b.faults) none f.counts
    in let before : f.sent ++ b.writer.held ≡ a.writer.held ++ s = ap (λ (l : List ℕ). f.sent ++ l) (f.holds none) ∙ f.whole
    in record {
      sent = f.sent ++ g.sent;
      rest = g.rest;
      whole = append_assoc f.sent g.sent g.rest ∙ ap (λ (l : List ℕ). f.sent ++ l) g.whole ∙ sym (append_assoc f.sent b.writer.held t)
          ∙ ap (λ (l : List ℕ). l ++ t) before ∙ append_assoc a.writer.held s t;
      taken = Appends-trans a.taken b.taken c.taken f.sent g.sent f.taken g.taken;
      holds = g.holds;
      counts = counts_on c.writer.refused a.faults b.faults c.faults faults g.counts;
      never_falls = let rises = g.never_falls in omega arith;
    }

passes_rests : (a b c : LogState) (s t : List ℕ) (refusal : PutError) → Passes a b s → b.writer.refused ≡ Some refusal → Rests b c → Passes a c (s ++ t)
passes_rests a b c s t refusal f given g = record {
  sent = f.sent;
  rest = f.rest ++ t;
  whole = sym (append_assoc f.sent f.rest t) ∙ ap (λ (l : List ℕ). l ++ t) f.whole ∙ append_assoc a.writer.held s t;
  taken = Appends-kept a.taken b.taken c.taken f.sent f.taken g.taken;
  holds = λ none. absurd (let clash : Some refusal ≡ None = sym given ∙ ap (λ (w : WriterState). w.refused) (sym g.writer) ∙ none in cc);
  counts = subst (λ (w : WriterState). CountsRefusal w.refused a.faults c.faults) (sym g.writer)
      (subst (λ (n : ℕ). CountsRefusal b.writer.refused a.faults n) (sym g.faults) f.counts);
  never_falls = let rises = f.never_falls in let same = g.faults in omega arith;
}

more_by : (a b c : LogState) (s t : List ℕ) (r : Option PutError) → b.writer.refused ≡ r → Writes b c t → Passes a b s → Passes a c (s ++ t)
more_by a b c s t None is g f = passes_on a b c s t f is (g.passes is)
more_by a b c s t (Some refusal) is g f = passes_rests a b c s t refusal f is (g.rests (subst (λ (r : Option PutError). IsSome r) (sym is) refl))

rests_on : (a b c : LogState) (t : List ℕ) → Writes b c t → IsSome a.writer.refused → Rests a b → Rests a c
rests_on a b c t g some f =
    let then = g.rests (subst (λ (w : WriterState). IsSome w.refused) (sym f.writer) some)
    in record {
      writer = then.writer ∙ f.writer;
      taken = Keeps-trans a.taken b.taken c.taken f.taken then.taken;
      faults = then.faults ∙ f.faults;
    }

pub writes_more : (a b c : LogState) (s t : List ℕ) → Writes a b s → Writes b c t → Writes a c (s ++ t)
writes_more a b c s t f g = record {
  passes = λ none. more_by a b c s t b.writer.refused refl g (f.passes none);
  rests = λ some. rests_on a b c t g some (f.rests some);
}

pub writes_end : (a b : LogState) (s : List ℕ) → Writes a b s → Writes a b (s ++ [])
writes_end a b s f = rw append-nil f

-- the text of a loop, with one piece more
pub writes_step : (a b c : LogState) (s t whole : List ℕ) → Writes a b s → Writes b c t → whole ≡ s ++ t → Writes a c whole
writes_step a b c s t whole f g is = rw is (writes_more a b c s t f g)

-- a byte that is held
pub writes_held : (old new : WriterState) (taken : Option (List ℕ)) (faults byte : ℕ) → new.refused ≡ old.refused
    → (old.refused ≡ None → new.held ≡ old.held ++ byte ∷ []) → (IsSome old.refused → new ≡ old)
    → Writes (log_state old taken faults) (log_state new taken faults) (byte ∷ [])
writes_held old new taken faults byte same more stays = record {
  passes = λ none. record {
    sent = [];
    rest = new.held;
    whole = more none;
    taken = Appends-nil taken;
    holds = λ _. refl;
    counts = subst (λ (r : Option PutError). CountsRefusal r faults faults) (sym (same ∙ none)) refl;
    never_falls = omega arith;
  };
  rests = λ some. record { writer = stays some; taken = Keeps-refl taken; faults = refl };
}

counts_of : (refusal : PutError) (faults count : ℕ) → CountsPut (Err refusal) faults count → CountsRefusal (Some refusal) faults count
counts_of WriteFault faults count counts = counts
counts_of Memory faults count counts = counts

none_or_some : (r : Option PutError) → r ≡ None → IsSome r → ⊥
none_or_some r none some = let clash : false ≡ true = subst (λ (r : Option PutError). IsSome r) none some in cc

-- all that is held goes to the sink, or a prefix of it
pub writes_out : (old new : WriterState) (before after : Option (List ℕ)) (faults count : ℕ) (r : Result (Unit {0}) PutError)
    → old.refused ≡ None → Puts before after old.held r → KeepsAnswer new r → OnOk r (new.held ≡ [])
    → CountsPut r faults count → faults ≤ count
    → Writes (log_state old before faults) (log_state new after count) []
writes_out old new before after faults count (Ok u) none puts kept empty counts rises = record {
  passes = λ _. record {
    sent = old.held;
    rest = [];
    whole = refl;
    taken = puts;
    holds = λ _. empty;
    counts = subst (λ (r : Option PutError). CountsRefusal r faults count) (sym kept) counts;
    never_falls = rises;
  };
  rests = λ some. absurd (none_or_some old.refused none some);
}
writes_out old new before after faults count (Err refusal) none puts kept empty counts rises = record {
  passes = λ _. record {
    sent = take puts.0 old.held;
    rest = drop puts.0 old.held;
    whole = take-append-drop puts.0 old.held ∙ sym (append-nil old.held);
    taken = puts.2;
    holds = λ unrefused. absurd (let clash : Some refusal ≡ None = sym kept ∙ unrefused in cc);
    counts = subst (λ (r : Option PutError). CountsRefusal r faults count) (sym kept) (counts_of refusal faults count counts);
    never_falls = rises;
  };
  rests = λ some. absurd (none_or_some old.refused none some);
}

pub writes_refused : (old : WriterState) (before after : Option (List ℕ)) (faults count : ℕ) (refusal : PutError) (bytes : List ℕ) → bytes ≡ old.held
    → old.refused ≡ None → TakesPrefix before after bytes → CountsPut (Err refusal) faults count → faults ≤ count
    → Writes (log_state old before faults) (log_state (record { held = old.held; refused = Some refusal }) after count) []
writes_refused old before after faults count refusal bytes is none puts counts rises =
    writes_out old (record { held = old.held; refused = Some refusal }) before after faults count (Err refusal) none
    (subst (λ (l : List ℕ). TakesPrefix before after l) is puts) refl tt counts rises

-- what a writer that gave no refusal before answers of a text that went through it

answer_counts : (old new : LogState) (r : Result (Unit {0}) PutError) → CountsRefusal new.writer.refused old.faults new.faults → KeepsAnswer new.writer r
    → CountsPut r old.faults new.faults
answer_counts old new (Ok u) counts kept = subst (λ (r : Option PutError). CountsRefusal r old.faults new.faults) kept counts
answer_counts old new _ counts kept = subst (λ (r : Option PutError). CountsRefusal r old.faults new.faults) kept counts

pub passed_counts : (old new : LogState) (text : List ℕ) (r : Result (Unit {0}) PutError) → Writes old new text → old.writer.refused ≡ None
    → KeepsAnswer new.writer r → CountsPut r old.faults new.faults
passed_counts old new text r writes none kept = answer_counts old new r (writes.passes none).counts kept

pub passed_rises : (old new : LogState) (text : List ℕ) → Writes old new text → old.writer.refused ≡ None → old.faults ≤ new.faults
passed_rises old new text writes none = (writes.passes none).never_falls

prefix_by : (before after : Option (List ℕ)) (sent rest text : List ℕ) → sent ++ rest ≡ text → Appends before after sent → TakesPrefix before after text
prefix_by before after sent rest text whole taken = (
  length sent,
  rw (← whole) (omega (arith, length-append sent rest)),
  rw (← whole, take-append_seam) taken,
)

pub passed_prefix : (old new : LogState) (text : List ℕ) → Writes old new text → old.writer.refused ≡ None
    → TakesPrefix old.taken new.taken (old.writer.held ++ text)
passed_prefix old new text writes none =
    let f = writes.passes none in prefix_by old.taken new.taken f.sent f.rest (old.writer.held ++ text) f.whole f.taken

grown_by : (before after : Option (List ℕ)) (held new sent rest text : List ℕ) → sent ++ rest ≡ held ++ text → new ≡ rest → Appends before after sent
    → Appends (append_known before held) (append_known after new) text
grown_by None after held new sent rest text whole is taken = tt
grown_by (Some a) None held new sent rest text whole is taken = absurd taken
grown_by (Some a) (Some b) held new sent rest text whole is taken =
    ap (λ (l : List ℕ). l ++ new) taken ∙ append_assoc a sent new ∙ ap (λ (l : List ℕ). a ++ l) (ap (λ (l : List ℕ). sent ++ l) is ∙ whole)
    ∙ sym (append_assoc a held text)

pub passed_grows : (old new : LogState) (text : List ℕ) (r : Result (Unit {0}) PutError) → Writes old new text → old.writer.refused ≡ None
    → KeepsAnswer new.writer r → OnOk r (Appends (append_known old.taken old.writer.held) (append_known new.taken new.writer.held) text)
passed_grows old new text (Ok u) writes none kept =
    let f = writes.passes none in grown_by old.taken new.taken old.writer.held new.writer.held f.sent f.rest text f.whole (f.holds kept) f.taken
passed_grows old new text (Err refusal) writes none kept = tt

-- nothing of a text was taken
pub prefix_none : (taken : Option (List ℕ)) (text : List ℕ) → TakesPrefix taken taken text
prefix_none taken text = (0, omega arith, Appends-nil taken)

-- a text that a new writer holds or wrote, and then what it holds

taken_then : (a b c : Option (List ℕ)) (text held : List ℕ) (n : ℕ) → Appends (append_known a []) (append_known b held) text → TakesPrefix a b text
    → n ≤ length held → Appends b c (take n held) → TakesPrefix a c text
taken_then None b c text held n grows prefix most taken = (0, omega arith, tt)
taken_then (Some a) None c text held n grows prefix most taken = absurd prefix.2
taken_then (Some a) (Some b) None text held n grows prefix most taken = absurd taken
taken_then (Some a) (Some b) (Some c) text held n grows prefix most taken =
    let first = take prefix.0 text
    in let whole : first ++ held ≡ text =
    append_cancel_left a (first ++ held) text
    (sym (append_assoc a first held) ∙ ap (λ (l : List ℕ). l ++ held) (sym prefix.2) ∙ grows ∙ ap (λ (l : List ℕ). l ++ text) (append-nil a))
    in prefix_by (Some a) (Some c) (first ++ take n held) (drop n held) text
    (append_assoc first (take n held) (drop n held) ∙ ap (λ (l : List ℕ). first ++ l) (take-append-drop n held) ∙ whole)
    (taken ∙ ap (λ (l : List ℕ). l ++ take n held) prefix.2 ∙ append_assoc a first (take n held))

taken_all : (a b c : Option (List ℕ)) (text held : List ℕ) → Appends (append_known a []) (append_known b held) text → Appends b c held → Appends a c text
taken_all None b c text held grows taken = tt
taken_all (Some a) None c text held grows taken = absurd grows
taken_all (Some a) (Some b) None text held grows taken = absurd taken
taken_all (Some a) (Some b) (Some c) text held grows taken = taken ∙ grows ∙ ap (λ (l : List ℕ). l ++ text) (append-nil a)

pub put_finished : (a b c : Option (List ℕ)) (text held : List ℕ) (r : Result (Unit {0}) PutError) → Appends (append_known a []) (append_known b held) text
    → TakesPrefix a b text → Puts b c held r → Puts a c text r
put_finished a b c text held (Ok u) grows prefix puts = taken_all a b c text held grows puts
put_finished a b c text held (Err refusal) grows prefix puts = taken_then a b c text held puts.0 grows prefix puts.1 puts.2
