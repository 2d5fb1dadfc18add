-- A line that is taken byte by byte.
use Rattle.std.proofs.Common.{◌≡◌, ℕ, ◌<◌, false, List, [], ◌∷◌, ◌++◌, length, refl, subst, ap, sym, ◌∙◌, arith, append_assoc, length-append, Option, Some, None, Ok}
use Rattle.std.specs.Prelude.{◌==◌}
use Rattle.std.proofs.lemmas.List.{append-nil}
use Rattle.std.specs.Io.KnownBytes.{Consumes, IsAtEnd}
use Rattle.event_trace.specs.declared.gathering.Ending.TheVariants.{Line, TooLong}
use Rattle.event_trace.specs.Lines.{line_of, rest_of, HasWholeLine}
use Rattle.event_trace.specs.Gathering.{Gathers, LeavesTail}

-- no LF among the bytes
abbrev pub NoLf : List ℕ → Type 0
NoLf [] = Unit {0}
NoLf (byte ∷ bytes) = ((byte == 10) ≡ false) × NoLf bytes

no_lf_more : (line : List ℕ) (byte : ℕ) → NoLf line → (byte == 10) ≡ false → NoLf (line ++ byte ∷ [])
no_lf_more [] byte unended here = (here, tt)
no_lf_more (x ∷ line) byte unended here = (unended.0, no_lf_more line byte unended.1 here)

line_at : (line after : List ℕ) → NoLf line → line_of (line ++ 10 ∷ after) ≡ line
line_at [] after unended = refl
line_at (x ∷ line) after unended = rw unended.0 (ap (λ (l : List ℕ). x ∷ l) (line_at line after unended.1))

rest_at : (line after : List ℕ) → NoLf line → rest_of (line ++ 10 ∷ after) ≡ after
rest_at [] after unended = refl
rest_at (x ∷ line) after unended = rw unended.0 (rest_at line after unended.1)

line_end : (line : List ℕ) → NoLf line → line_of line ≡ line
line_end [] unended = refl
line_end (x ∷ line) unended = rw unended.0 (ap (λ (l : List ℕ). x ∷ l) (line_end line unended.1))

rest_end : (line : List ℕ) → NoLf line → rest_of line ≡ []
rest_end [] unended = refl
rest_end (x ∷ line) unended = rw unended.0 (rest_end line unended.1)

line_long : (line after : List ℕ) (byte : ℕ) → NoLf line → (byte == 10) ≡ false → length line < length (line_of (line ++ byte ∷ after))
line_long [] after byte unended here = rw here (omega arith)
line_long (x ∷ line) after byte unended here = rw unended.0 (let rest = line_long line after byte unended.1 here in omega arith)

-- the source gave this part of a line so far
pub record Gathered (before after : Option (List ℕ)) (line : List ℕ) : Type 0 where
  pub given : Consumes before after line
  pub unended : NoLf line

pub gathered_more : (before mid after : Option (List ℕ)) (line : List ℕ) (byte : ℕ) → Gathered before mid line → Consumes mid after (byte ∷ [])
    → (byte == 10) ≡ false → Gathered before after (line ++ byte ∷ [])
gathered_more None mid after line byte g now here = record { given = tt; unended = no_lf_more line byte g.unended here }
gathered_more (Some a) None after line byte g now here = absurd g.given
gathered_more (Some a) (Some b) None line byte g now here = absurd now
gathered_more (Some a) (Some b) (Some c) line byte g now here = record {
  given = g.given ∙ ap (λ (l : List ℕ). line ++ l) now ∙ sym (append_assoc line (byte ∷ []) c);
  unended = no_lf_more line byte g.unended here;
}

pub gathers_line : (E : Type 0) (before mid after : Option (List ℕ)) (line : List ℕ) → Gathered before mid line → Consumes mid after (10 ∷ [])
    → Gathers {E = E} before after line (Ok Line)
gathers_line E None mid after line g now = tt
gathers_line E (Some a) None after line g now = absurd g.given
gathers_line E (Some a) (Some b) None line g now = absurd now
gathers_line E (Some a) (Some b) (Some c) line g now =
    let whole : a ≡ line ++ 10 ∷ c = g.given ∙ ap (λ (l : List ℕ). line ++ l) now
    in (
      rw whole (omega (arith, length-append line (10 ∷ c))),
      rw whole (sym (line_at line c g.unended)),
      rw whole (sym (rest_at line c g.unended)),
    )

pub gathers_last : (E : Type 0) (before mid after : Option (List ℕ)) (line : List ℕ) → Gathered before mid line → Consumes mid after [] → IsAtEnd after
    → 0 < length line → Gathers {E = E} before after line (Ok Line)
gathers_last E None mid after line g now end some = tt
gathers_last E (Some a) None after line g now end some = absurd g.given
gathers_last E (Some a) (Some b) None line g now end some = absurd now
gathers_last E (Some a) (Some b) (Some c) line g now end some =
    let whole : a ≡ line = g.given ∙ ap (λ (l : List ℕ). line ++ l) (now ∙ end) ∙ append-nil line
    in (rw whole some, rw whole (sym (line_end line g.unended)), rw whole (end ∙ sym (rest_end line g.unended)))

pub gathers_long : (E : Type 0) (before mid after : Option (List ℕ)) (line : List ℕ) (byte : ℕ) → Gathered before mid line → Consumes mid after (byte ∷ [])
    → (byte == 10) ≡ false → length line ≡ 64 → Gathers {E = E} before after line (Ok TooLong)
gathers_long E None mid after line byte g now here full = tt
gathers_long E (Some a) None after line byte g now here full = absurd g.given
gathers_long E (Some a) (Some b) None line byte g now here full = absurd now
gathers_long E (Some a) (Some b) (Some c) line byte g now here full =
    let whole : a ≡ line ++ byte ∷ c = g.given ∙ ap (λ (l : List ℕ). line ++ l) now
    in rw whole (let long = line_long line c byte g.unended here in omega arith)

-- a whole line is still held while no LF came

pub whole_line_on : (byte : ℕ) (rest : List ℕ) → (byte == 10) ≡ false → HasWholeLine (byte ∷ rest) → HasWholeLine rest
whole_line_on byte rest here whole = let longer = rw here at whole in omega arith

pub whole_line_some : (bytes : List ℕ) → HasWholeLine bytes → 0 < length bytes
whole_line_some bytes whole = omega arith

-- the bytes held of a source, which is as it was, begin with a whole line, where they did
abbrev pub StillWhole : {S : Type 0} → List ℕ → List ℕ → S → S → Type 0
StillWhole old new before after = HasWholeLine old → (after ≡ before) × HasWholeLine new

pub whole_more : {S : Type 0} (old mid new : List ℕ) (byte : ℕ) (before now after : S) → (byte == 10) ≡ false
    → StillWhole old mid before now → (0 < length mid → (mid ≡ byte ∷ new) × (after ≡ now)) → StillWhole old new before after
whole_more old mid new byte before now after here still held = λ whole.
    let so = still whole
    in let some : 0 < length mid = whole_line_some mid so.1
    in let h = held some
    in (h.1 ∙ so.0, whole_line_on byte new here (subst HasWholeLine h.0 so.1))

-- what is left is a tail of what was left
pub tail_more : (before mid after : Option (List ℕ)) → LeavesTail before mid → LeavesTail mid after → LeavesTail before after
tail_more None mid after first now = tt
tail_more (Some a) None after first now = absurd first
tail_more (Some a) (Some b) None first now = absurd now
tail_more (Some a) (Some b) (Some c) first now = (first.0 ++ now.0, first.1 ∙ ap (λ (l : List ℕ). first.0 ++ l) now.1 ∙ sym (append_assoc first.0 now.0 c))
