-- What stays through a run.
use Rattle.runner.proofs.Common.{refl, ◌∙◌, KeepsRun, Held}

-- ---- what stays

pub keeps_same : (held : Held) → KeepsRun held held
keeps_same held = record { accepted = refl; setting = refl; chunks = refl }

pub keeps_on : (a b c : Held) → KeepsRun a b → KeepsRun b c → KeepsRun a c
keeps_on a b c p q = record { accepted = q.accepted ∙ p.accepted; setting = q.setting ∙ p.setting; chunks = q.chunks ∙ p.chunks }
