-- The set of the listed symbols is the set of the symbols.
use Rattle.std.proofs.Common.{◌≡◌}
use mathlib.Core.Path.{fun_ext}
use Rattle.smv_ast.specs.declared.program.Program.{Program}
use Rattle.smv_meaning.specs.Values.{is_symbol}
use Rattle.smv_meaning.specs.NameSets.{no_name, and_names}
use Rattle.smv_meaning.specs.Symbols.{symbols}
use Rattle.smv_meaning.proofs.NameSetLemmas.{among}

pub symbols_are : (program : Program) → and_names no_name (symbols program) ≡ is_symbol program
symbols_are program = fun_ext (λ name. among (symbols program) no_name name)
