-- Why a log has no numbers.
use Rattle.run_history.specs.declared.history.HistoryError.{HistoryError}
use Rattle.run_history.specs.declared.reading.ReadError.{ReadError}

-- the error of a reading whose history can't continue
abbrev pub by_history : HistoryError → ReadError
by_history HistoryError.Count = ReadError.Count
by_history HistoryError.Memory = ReadError.Memory
