-- A program as plain data.
use Rattle.flat_code.specs.Codes.{FlatCode, code_of}
use Rattle.flat_code.specs.declared.programs.FlatProgram.{FlatProgram}

abbrev pub program_code : FlatProgram → FlatCode
program_code p = code_of p.functions.items p.globals.items p.tables.items p.main
