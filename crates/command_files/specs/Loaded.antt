-- The results of a command's loads, by what is due.
use Rattle.std.specs.Prelude.{ℕ, ◌≡◌, ◌≤◌, List, length, Option, IfSome, Some, Result, Ok, Err}
use Rattle.std.specs.Global.{Vec}
use Rattle.cap_io.specs.Files.{Files}
use Rattle.command_outcomes.specs.declared.documents.Document.{Document}
use Rattle.command_outcomes.specs.declared.documents.Document.TheVariants as document
use Rattle.command_outcomes.specs.declared.stops.Stop.{Stop}
use Rattle.command_outcomes.specs.Outcome.{NoMore}
use Rattle.command_outcomes.specs.CauseLines.{most_bytes}
use Rattle.command_outcomes.specs.Steps.{IsShelfStop}
use Rattle.command_files.specs.Loads.{AfterLoad, AfterThree}
use Rattle.command_files.specs.declared.loading.LoadedFiles.{LoadedFiles}

-- a loaded file of this name
pub record IsLoaded (which : Document) (files : Option Files) (name bytes : List ℕ) : Type 0 where
  pub file : IfSome files (λ f. f name ≡ Some bytes)
  pub fits : length bytes ≤ most_bytes which

-- a file was loaded, or the command stops at its load
abbrev pub IsLoadAnswer : Document → Option Files → List ℕ → (loads loads' : ℕ) → Result (Vec ℕ) Stop → Type 0
IsLoadAnswer which files name loads loads' (Ok bytes) =
    IsLoaded which files name bytes.items × (loads' ≡ loads)
IsLoadAnswer which files name loads loads' (Err stop) = IsShelfStop (AfterLoad which files name NoMore) loads loads' stop

-- three files were loaded, or the command stops at the load of one of them
abbrev pub AreLoaded : Option Files → (source image certificate : List ℕ) → (loads loads' : ℕ) → Result LoadedFiles Stop → Type 0
AreLoaded files source image certificate loads loads' (Ok loaded) =
    IsLoaded document.Source files source loaded.source.items × IsLoaded document.Image files image loaded.image.items
    × IsLoaded document.Certificate files certificate loaded.certificate.items × (loads' ≡ loads)
AreLoaded files source image certificate loads loads' (Err stop) =
    IsShelfStop (AfterThree files source image certificate (λ _ _ bytes. NoMore bytes)) loads loads' stop
