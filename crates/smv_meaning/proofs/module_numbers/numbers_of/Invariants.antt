use Rattle.std.proofs.Common.{◌≡◌, ℕ, List, drop}
use Rattle.smv_meaning.specs.ModuleNumbers.{number_of}
use Rattle.smv_meaning.proofs.ModuleNumberLemmas.{number_or}
use Rattle.smv_meaning.proofs.module_numbers.numbers_of.Given as goal

abbrev pub invariant-loop-owner : goal.invariant-loop-owner
invariant-loop-owner l = record {
  count : l.number ≡ l.owner-index;
  numbered : (name : List ℕ) → number_or l.numbers l.number (drop l.owner-index l.program.modules) name ≡ number_of l.program name;
}
