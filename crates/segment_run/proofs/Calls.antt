-- The calls of the run time at which a thread of an accepted program may stand.
use Rattle.segment_run.proofs.Common.{◌≡◌, ℕ, zero, suc, ◌<◌, length, sym, subst, ◌∙◌, Asks, IsValid, FlatCode, entries, Certificate, Image, Areas, Local, Starts, ended, local_step, Checked, chain_from, HasEntry, AsksAt, IsSafeMove, IsAtSpawn, thread_of, Thread, as_many}

pub spawned_entry : (code : FlatCode) (image : Image) (certificate : Certificate) (l : Local) (entry argument need : ℕ) → IsValid code image certificate →
    AsksAt (record { flat = code; certificate = certificate }) l (Starts entry argument need) → (f : ℕ) × HasEntry certificate entry f
spawned_entry code image certificate l entry argument need valid (site, f, x, d, there, rests, entry_is, need_is) =
    (f, record { there = subst (λ (n : ℕ). f < n) (sym (as_many code image certificate valid)) there; entry_is = sym entry_is })

pub at_spawn : (code : FlatCode) (image : Image) (certificate : Certificate) (l : Local) (entry argument need found : ℕ) → IsValid code image certificate →
    AsksAt (record { flat = code; certificate = certificate }) l (Starts entry argument need) → local_step image.code l ≡ Asks (Starts entry argument need) l → HasEntry certificate entry found →
    IsAtSpawn (record { flat = code; certificate = certificate }) image.code l found argument
at_spawn code image certificate l entry argument need found valid (site, f, x, d, there, rests, entry_is, need_is) step has =
    let within : found < length code.functions = subst (λ (n : ℕ). found < n) (as_many code image certificate valid) has.there in
    let same : f ≡ found = entries code image certificate f found valid there within (sym entry_is ∙ sym has.entry_is) in
    let is : IsAtSpawn (record { flat = code; certificate = certificate }) image.code l f argument = record {
      there = there;
      site = site;
      variable = x;
      place = d;
      rests = rests;
      asks = step ∙ (λ i. Asks (Starts (entry_is i) argument (need_is i)) l);
    } in
    subst (λ (g : ℕ). IsAtSpawn (record { flat = code; certificate = certificate }) image.code l g argument) same is

-- a thread that may end holds one chunk
pub last_chunk : (c : Checked) (areas : Areas) (thread : Thread) (depth : ℕ) → thread.depth ≡ depth → IsSafeMove c (thread_of areas thread) (ended (thread_of areas thread) (thread_of areas thread).core.chain) → thread.depth ≡ 1
last_chunk c areas thread zero is safe = absurd (subst (λ (n : ℕ). IsSafeMove c (thread_of areas thread) (ended (thread_of areas thread) (chain_from areas.pool thread.chunk n))) is safe)
last_chunk c areas thread (suc zero) is safe = is
last_chunk c areas thread (suc (suc n)) is safe = absurd (subst (λ (n : ℕ). IsSafeMove c (thread_of areas thread) (ended (thread_of areas thread) (chain_from areas.pool thread.chunk n))) is safe)
