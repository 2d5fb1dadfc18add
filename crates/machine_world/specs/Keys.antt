-- What the frames of a thread determine: its key, and the maximum length of its chain.
use Rattle.std.specs.Prelude.{ℕ, ◌+◌, Bool, true, false, List, [], ◌∷◌, take, Option, Some, None, if◌then◌else◌}
use Rattle.flat_code.specs.declared.operations.Op.{Op}
use Rattle.flat_code.specs.Codes.{operation_at}
use Rattle.flat_code.specs.Frames.{site_in}
use Rattle.stack_certificate.specs.declared.sites.LinkKind.{LinkKind}
use Rattle.stack_certificate.specs.Templates.{kind_of}
use Rattle.machine_world.specs.InPlace.{Frame}
use Rattle.machine_world.specs.Places.{Checked, Row, NoFrame, Empty, Fresh, Linking, Whole}

-- the current operation of a frame
abbrev pub standing : Checked → Frame → Option Op
standing c frame = operation_at c.flat frame.function frame.operation

-- ---- keys

abbrev pub with_site : Option ℕ → List ℕ → List ℕ
with_site None sites = sites
with_site (Some site) sites = site ∷ sites

-- the sites of the frames' current operations, innermost first
abbrev pub sites_of : Checked → List Frame → List ℕ
sites_of c [] = []
sites_of c (frame ∷ frames) = with_site (site_in (standing c frame)) (sites_of c frames)

-- the key of a thread that rests at or just after the ECALL of operation i of function f, with these frames: that
-- operation's site, followed by those of up to seven innermost calls below, innermost first. Just after the ECALL the
-- current operation of the running frame may be the next one already.
abbrev pub key_of : Checked → ℕ → ℕ → List Frame → List ℕ
key_of c f i [] = []
key_of c f i (frame ∷ below) = take 8 (with_site (site_in (operation_at c.flat f i)) (sites_of c below))

-- ---- chains

abbrev pub is_linked : LinkKind → Bool
is_linked LinkKind.Plain = false
is_linked (LinkKind.Linked need) = true
is_linked (LinkKind.Spawned need) = false

-- the current operation is at a linked site
abbrev pub stands_at_link : Checked → Option Op → Bool
stands_at_link c None = false
stands_at_link c (Some op) = is_linked (kind_of c.certificate op)

-- the number of frames that were called at a linked site
abbrev pub called_at_links : Checked → List Frame → ℕ
called_at_links c [] = 0
called_at_links c (frame ∷ []) = 0
called_at_links c (frame ∷ below ∷ frames) = (if stands_at_link c (standing c below) then 1 else 0) + called_at_links c (below ∷ frames)

-- one chunk more while a linked chunk has no frame
abbrev pub chunk_ahead : Row → ℕ
chunk_ahead NoFrame = 0
chunk_ahead Empty = 0
chunk_ahead Fresh = 0
chunk_ahead Linking = 1
chunk_ahead Whole = 0
