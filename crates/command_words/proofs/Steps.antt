-- What the parser makes of one word more, between the words and while an option waits for its value.
use Rattle.command_words.proofs.Common.{◌≡◌, ℕ, refl, Bool, true, false, [], ◌∷◌, ◌==◌, ◌&&◌, Some, None, bytes_eq, ne_eqb, bytes_eq-Decides, long_of, short_of, Held, Text, Walk, idle, option, walked, settled_rows, arg_by_index, is_pending, or_else, settle_fault, turn_fault, IsPlain}
use Rattle.clap.specs.declared.error.kind.ErrorKind.TheVariants as kind
use Rattle.command_words.proofs.Rules.{rules, top, IsOption, IsPlace, place_rule}

-- between two words, before the positional word of this place
abbrev pub between : Held → ℕ → Walk
between h place = record { held = h; waiting = idle; position = place; is_trailing = false; stopped = None }

-- an option waits for its value
abbrev pub awaiting : Held → Text → ℕ → Walk
awaiting h name place = record { held = h; waiting = option name; position = place; is_trailing = false; stopped = None }

-- what is held with an option that has no value yet, and with one more value
abbrev pub opened : Held → Text → Held
opened h name = record { rows = settled_rows rules h.pending h.rows; pending = Some (name, []); skip = h.skip }

abbrev pub with_value : Held → Text → Text → Held
with_value h name value = record { rows = settled_rows rules h.pending h.rows; pending = Some (name, value ∷ []); skip = h.skip }

-- how a value or a positional word looks
pub record IsNoFlag (word : Text) : Type 0 where
  pub no_long : long_of word ≡ None
  pub no_short : short_of word ≡ None
  pub no_end : bytes_eq word (45 ∷ 45 ∷ []) ≡ false

pub no_flag : (word : Text) → IsPlain word → IsNoFlag word
no_flag [] plain = absurd plain
no_flag (byte ∷ bytes) plain =
    let other : (byte == 45) ≡ false = ne_eqb byte 45 plain in
    record { no_long = rw other refl; no_short = rw other refl; no_end = rw other refl }

and_false : (b : Bool) → (b && false) ≡ false
and_false true = refl
and_false false = refl

pub option_walked : (h : Held) (place : ℕ) (name : Text) → IsOption name → walked rules [] (between h place) name ≡ awaiting (opened h name) name place
unfolding walked
option_walked h place name is = rw (is.no_end, is.is_long, is.by_long) refl

pub option_turn : (h : Held) (place : ℕ) (name : Text) → IsOption name → turn_fault top [] (between h place) name ≡ or_else (settle_fault rules false h) []
option_turn h place name is = rw (is.no_end, is.is_long, is.by_long) refl

-- no value came before the next option
pub option_again : (h : Held) (place : ℕ) (first name : Text) → IsOption first → IsOption name
    → turn_fault top [] (awaiting (opened h first) first place) name ≡ kind.InvalidValue ∷ []
option_again h place first name one is = rw (is.no_end, is.is_long, is.by_long, one.by_id) refl

-- no value came at all
pub option_ends : (h : Held) (name : Text) → IsOption name → settle_fault rules false (opened h name) ≡ kind.InvalidValue ∷ []
option_ends h name is = rw is.by_id refl

pub same_text : (text : Text) → bytes_eq text text ≡ true
same_text text = (bytes_eq-Decides text text).1 refl

pub value_walked : (h : Held) (place : ℕ) (name word : Text) → IsOption name → IsNoFlag word
    → walked rules [] (awaiting (opened h name) name place) word ≡ between (with_value h name word) place
unfolding walked
value_walked h place name word is plain = rw (plain.no_end, plain.no_long, plain.no_short, is.by_id, same_text name) refl

pub value_turn : (h : Held) (place : ℕ) (name word : Text) → IsOption name → IsNoFlag word → turn_fault top [] (awaiting (opened h name) name place) word ≡ []
value_turn h place name word is plain = rw (plain.no_end, plain.no_long, plain.no_short) refl

pub place_walked : (h : Held) (place next : ℕ) (name word : Text) → IsPlace name place next → IsNoFlag word
    → walked rules [] (between h place) word ≡ between (with_value h name word) next
unfolding walked
place_walked h place next name word is plain =
    rw (plain.no_end, plain.no_long, plain.no_short, is.by_index, and_false (is_pending (place_rule name place) h.pending), is.on) refl

pub place_turn : (h : Held) (place next : ℕ) (name word : Text) → IsPlace name place next → IsNoFlag word
    → turn_fault top [] (between h place) word ≡ settle_fault rules false h
place_turn h place next name word is plain =
    rw (plain.no_end, plain.no_long, plain.no_short, is.by_index, and_false (is_pending (place_rule name place) h.pending)) refl

-- no positional word is left
pub stray_turn : (h : Held) (place : ℕ) (word : Text) → arg_by_index rules place ≡ None → IsNoFlag word
    → turn_fault top [] (between h place) word ≡ kind.UnknownArgument ∷ []
stray_turn h place word none plain = rw (plain.no_end, plain.no_long, plain.no_short, none) refl
