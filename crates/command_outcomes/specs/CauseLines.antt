-- The status and the line of each refusal.
use Rattle.std.specs.Prelude.{ℕ, List, [], ◌∷◌, ◌++◌, codes}
use Rattle.cap_text.specs.Decimals.{canonical_decimal}
use Rattle.cap_word.specs.Limit.{name_of}
use Rattle.c_scope.specs.declared.source_errors.SourceError.{SourceError}
use Rattle.c_scope.specs.declared.source_errors.SourceError.TheVariants as source
use Rattle.stack_image.specs.declared.refusals.ImageError.{ImageError}
use Rattle.stack_image.specs.declared.refusals.ImageError.TheVariants as image
use Rattle.command_outcomes.specs.declared.documents.Document.{Document}
use Rattle.command_outcomes.specs.declared.documents.Document.TheVariants as document
use Rattle.command_outcomes.specs.declared.stops.Cause.{Cause}
use Rattle.command_outcomes.specs.declared.stops.Cause.TheVariants.{Usage, Absent, TooLong, Source, Image, CertificateLine, Rejected, Frame, Code, Pool, Cycle}
use Rattle.command_outcomes.specs.Outcome.{Outcome, refused}

-- the name of a file in refusals
abbrev pub document_name : Document → List ℕ
document_name document.Source = codes "source"
document_name document.Image = codes "image"
document_name document.Certificate = codes "certificate"
document_name document.Log = codes "log"

-- the maximum size of each in bytes
abbrev pub most_bytes : Document → ℕ
most_bytes document.Source = 1048576
most_bytes document.Image = 2097152
most_bytes document.Certificate = 8388608
most_bytes document.Log = 67108864

-- the status if a file exceeds its maximum size
abbrev pub too_long_status : Document → ℕ
too_long_status document.Source = 2
too_long_status document.Image = 4
too_long_status document.Certificate = 4
too_long_status document.Log = 4

-- `NAME at N`
abbrev pub at_place : List ℕ → ℕ → List ℕ
at_place name place = (name ++ codes " at ") ++ canonical_decimal place

-- why a source is refused
abbrev pub source_words : SourceError → List ℕ
source_words (source.BadByte at) = at_place (codes "BadByte") at
source_words (source.OpenComment at) = at_place (codes "OpenComment") at
source_words (source.BadNumber at) = at_place (codes "BadNumber") at
source_words (source.Unexpected at) = at_place (codes "Unexpected") at
source_words (source.TooDeep at) = at_place (codes "TooDeep") at
source_words (source.NestedCall at) = at_place (codes "NestedCall") at
source_words (source.Unknown at) = at_place (codes "Unknown") at
source_words (source.Twice at) = at_place (codes "Twice") at
source_words (source.Arity at) = at_place (codes "Arity") at
source_words (source.Kind at) = at_place (codes "Kind") at
source_words source.NoMain = codes "NoMain"
source_words (source.Limit which) = codes "Limit " ++ name_of which
source_words source.Memory = []

-- why an image is refused
abbrev pub image_words : ImageError → List ℕ
image_words image.Magic = codes "Magic"
image_words (image.Short at) = at_place (codes "Short") at
image_words (image.Long at) = at_place (codes "Long") at
image_words (image.Limit which) = codes "Limit " ++ name_of which
image_words image.Memory = []

-- the frame of a function of this name is too large
abbrev pub frame_words : List ℕ → ℕ → List ℕ
frame_words name bytes = (((codes "limit: frame of " ++ name) ++ codes " is ") ++ canonical_decimal bytes) ++ codes " bytes"

-- `rejected VN function F index I`
abbrev pub rejected_words : ℕ → ℕ → ℕ → List ℕ
rejected_words rule function index =
    ((((codes "rejected V" ++ canonical_decimal rule) ++ codes " function ") ++ canonical_decimal function) ++ codes " index ") ++ canonical_decimal index

-- the function of this name is on a cycle of calls
abbrev pub cycle_words : List ℕ → List ℕ
cycle_words name = codes "budget: cycle at " ++ name

-- the text of a cause, without a line feed
abbrev pub cause_words : Cause → List ℕ
cause_words Usage = codes "usage: capriccio serve SRC, run SRC IMG CRT, build SRC IMG CRT, check SRC IMG CRT, graph SRC, demo N, audit SRC LOG, budget SRC IMG CRT"
cause_words (Absent document) = codes "absent: " ++ document_name document
cause_words (TooLong document) = document_name document ++ codes ": TooLong"
cause_words (Source error) = codes "source: " ++ source_words error
cause_words (Image error) = codes "image: " ++ image_words error
cause_words (CertificateLine number) = codes "certificate: Line " ++ canonical_decimal number
cause_words (Frame name bytes) = frame_words name.items bytes
cause_words (Rejected rule function index) = codes "check: " ++ rejected_words rule function index
cause_words (Pool bytes) = (codes "limit: pool is " ++ canonical_decimal bytes) ++ codes " bytes"
cause_words (Cycle name) = cycle_words name.items
cause_words (Code words) = (codes "limit: code is " ++ canonical_decimal words) ++ codes " words"

-- the status of a cause
abbrev pub cause_status : Cause → ℕ
cause_status Usage = 1
cause_status (Absent document) = 9
cause_status (TooLong document) = too_long_status document
cause_status (Source error) = 2
cause_status (Image error) = 4
cause_status (CertificateLine number) = 4
cause_status (Frame name bytes) = 5
cause_status (Code words) = 5
cause_status (Rejected rule function index) = 3
cause_status (Pool bytes) = 5
cause_status (Cycle name) = 17

-- the outcome of a command that refuses
abbrev pub refusal : Cause → Outcome
refusal cause = refused (cause_status cause) (cause_words cause ++ 10 ∷ [])
