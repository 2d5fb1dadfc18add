-- What a thread comes to that isn't what a line says.
use Rattle.schedule_reading.proofs.Common.{◌≡◌, ℕ, List, Ok, refl, Block, Given, State, Entry, Happening, Under, HasProceeded, Core, Kept, Refuses, IsEnd, StandsWithin}
use Rattle.schedule_reading.specs.declared.events.Happening.TheVariants as happening
use Rattle.schedule_reading.proofs.Blocks.{block_ends, block_puts, block_traps}
use Rattle.schedule_reading.proofs.EndLines.{end_blocks, end_puts, end_traps}

module _ (g : Given) (state : State) (old : Kept) (old_under : Under) (k : Core) (under : Under) (stands : StandsWithin g state old.core old_under) (end_is : IsEnd g state old.end) where
  pub block_other : (thread node : ℕ) (key : List ℕ) (cost free : ℕ) (came : Happening) → HasProceeded g state old.core old_under k under (Ok came) → ((block : Block) → came ≡ happening.Blocks block → ⊥) → (came ≡ happening.OutOfSteps → ⊥) → (came ≡ happening.IsCrowded → ⊥) →
      Refuses g state (Entry.Block thread node key cost free)
  block_other thread node key cost free (happening.Puts word) p no_block no_late no_crowd = block_puts g state old old_under k under stands end_is thread node key cost free word p
  block_other thread node key cost free (happening.Blocks block) p no_block no_late no_crowd = absurd (no_block block refl)
  block_other thread node key cost free happening.Ends p no_block no_late no_crowd = block_ends g state old old_under k under stands end_is thread node key cost free p
  block_other thread node key cost free (happening.Traps kind) p no_block no_late no_crowd = block_traps g state old old_under k under stands end_is thread node key cost free kind p
  block_other thread node key cost free happening.IsCrowded p no_block no_late no_crowd = absurd (no_crowd refl)
  block_other thread node key cost free happening.OutOfSteps p no_block no_late no_crowd = absurd (no_late refl)

  pub end_other : (thread cost free : ℕ) (came : Happening) → HasProceeded g state old.core old_under k under (Ok came) → (came ≡ happening.Ends → ⊥) → (came ≡ happening.OutOfSteps → ⊥) → (came ≡ happening.IsCrowded → ⊥) →
      Refuses g state (Entry.End thread cost free)
  end_other thread cost free (happening.Puts word) p no_end no_late no_crowd = end_puts g state old old_under k under stands end_is thread cost free word p
  end_other thread cost free (happening.Blocks block) p no_end no_late no_crowd = end_blocks g state old old_under k under stands end_is thread cost free block p
  end_other thread cost free happening.Ends p no_end no_late no_crowd = absurd (no_end refl)
  end_other thread cost free (happening.Traps kind) p no_end no_late no_crowd = end_traps g state old old_under k under stands end_is thread cost free kind p
  end_other thread cost free happening.IsCrowded p no_end no_late no_crowd = absurd (no_crowd refl)
  end_other thread cost free happening.OutOfSteps p no_end no_late no_crowd = absurd (no_late refl)
