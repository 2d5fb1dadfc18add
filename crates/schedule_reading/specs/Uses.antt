-- The uses of resources, and their caps.
use Rattle.std.specs.Prelude.{ℕ, ◌-◌, if◌then◌else◌, nat_eq}
use Rattle.c_mean.specs.ModelledCalls.{cap_of, use_of}
use Rattle.schedule_reading.specs.Kept.{Core}

-- the use of a resource; that of resource 0 is the number of held chunks
abbrev pub used_in : Core → ℕ → ℕ
used_in k r = if nat_eq r 0 then k.policy.chunks - k.free else use_of k.threads.exchange.exchange r

-- the cap of a resource; that of resource 0 is the number of chunks
abbrev pub cap_in : Core → ℕ → ℕ
cap_in k r = if nat_eq r 0 then k.policy.chunks else cap_of k.threads.exchange.caps r
