-- Written states, looked up by the texts of paths.
use Rattle.std.specs.Prelude.{◌≡◌, ℕ, List, Option, Some, slice_get}
use Rattle.smv_meaning.specs.declared.value.Value.{Value}
use Rattle.smv_meaning.specs.declared.run.Named.{Named}
use Rattle.smv_meaning.specs.Indices.{Numbers, number_held}
use Rattle.smv_meaning.specs.Value.{and_then}
use Rattle.smv_meaning.specs.Runs.{written_value}

-- the value of this number, if there is one
abbrev pub value_numbered : List Named → Option ℕ → Option Value
value_numbered values number = and_then (and_then number (slice_get values)) (λ n. Some n.value)

-- the value whose number a text maps to
abbrev pub value_by : List Named → Numbers → List ℕ → Option Value
value_by values numbers text = value_numbered values (number_held numbers text)

-- each text maps to the first value for it
abbrev pub IsValueIndex : List Named → Numbers → Type 0
IsValueIndex values numbers = (text : List ℕ) → value_by values numbers text
    ≡ written_value values text
