-- Models with the same modules, names and symbols: the same names are known in both.
use Rattle.std.specs.Prelude.{◌≡◌, Bool, true, false}
use Rattle.smv_ast.specs.declared.program.Program.{Program}
use Rattle.smv_ast.specs.declared.feature.Action.{Action}
use Rattle.smv_ast.specs.declared.feature.Action.TheVariants.{Impose, Treat}
use Rattle.smv_ast.specs.declared.feature.Change.{Change}
use Rattle.smv_meaning.specs.Value.{Name}
use Rattle.smv_meaning.specs.Scopes.{scopes_of}
use Rattle.smv_meaning.specs.Values.{is_symbol}

-- the modules declare the same names in the same order, and the types have the same symbols
pub record HaveSameNames (p q : Program) : Type 0 where
  pub scopes : scopes_of p ≡ scopes_of q
  pub symbols : (name : Name) → is_symbol p name ≡ is_symbol q name

-- whether the action is an IMPOSE
abbrev pub action_imposes : Action → Bool
action_imposes (Impose left name right) = true
action_imposes (Treat path right) = false

-- whether the change is an IMPOSE
abbrev pub is_impose : Change → Bool
is_impose change = action_imposes change.action
