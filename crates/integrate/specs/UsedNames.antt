-- The names that a change uses, and the first of them that is unknown. A change may be applied only
-- where each name that it uses is known.
use Rattle.std.specs.Prelude.{ℕ, not, if◌then◌else◌, List, Option, Some, None, find, is_some}
use Rattle.std.specs.Option.{option_map, option_or}
use Rattle.smv_ast.specs.declared.syntax.Span.{Span}
use Rattle.smv_ast.specs.declared.syntax.Path.{Path}
use Rattle.smv_ast.specs.declared.syntax.Expr.{Expr}
use Rattle.smv_ast.specs.declared.program.Program.{Program}
use Rattle.smv_ast.specs.declared.feature.Action.{Action}
use Rattle.smv_ast.specs.declared.feature.Action.TheVariants.{Impose, Treat}
use Rattle.smv_ast.specs.declared.feature.Change.{Change}
use Rattle.smv_meaning.specs.Mentions.{paths_of}
use Rattle.smv_meaning.specs.Runs.{path_text}
use Rattle.smv_names.specs.Unknown.{is_resolved, is_known_path, declared_in}
use Rattle.integrate_impose.specs.Impose.{is_named}
use Rattle.integrate.specs.declared.names.MissingName.{MissingName}

-- a missing path: its names joined by dots, and its span
abbrev pub missing_path : Path → MissingName
missing_path path = record { name = path_text path.names; at = path.at }

-- the first of these paths that is neither known in a module nor a symbol
abbrev pub first_unknown : Program → List ℕ → List Path → Option Path
first_unknown p called = find (λ path. not (is_resolved p called path.names))

-- the first missing path of an expression, in text order
abbrev pub missing_expr : Program → List ℕ → Expr → Option MissingName
missing_expr p called e = option_map missing_path (first_unknown p called (paths_of e))

-- a module that the model does not have, at the span of the change
abbrev pub missing_module : Program → List ℕ → Span → Option MissingName
missing_module p called at = if is_some (find (is_named called) p.modules) then None else Some
    (record { name = called; at = at })

-- a target that the module does not declare, at the span of the change; a symbol is no target
abbrev pub missing_target : Program → List ℕ → Span → List ℕ → Option MissingName
missing_target p called at name = if declared_in p called name then None else Some
    (record { name = name; at = at })

-- a treated path that is not known in the module, at the span of the change; a symbol is no target
abbrev pub missing_treated : Program → List ℕ → Span → List (List ℕ) → Option MissingName
missing_treated p called at path = if is_known_path p called path then None else Some
    (record { name = path_text path; at = at })

-- the first missing name of an action: its target, then the paths of its right side
abbrev pub missing_action : Program → List ℕ → Span → Action → Option MissingName
missing_action p called at (Impose left name right) = option_or (missing_target p called at name)
    (missing_expr p called right)
missing_action p called at (Treat path right) = option_or
    (missing_treated p called at path.names) (missing_expr p called right)

-- the first missing name of a change in a module: the paths of its condition, then its action
abbrev pub missing_in_module : Program → Change → Option MissingName
missing_in_module p change = option_or (missing_expr p change.«module» change.cond)
    (missing_action p change.«module» change.at change.action)

-- the first missing name of a change, its module first
abbrev pub first_missing : Program → Change → Option MissingName
first_missing p change = option_or (missing_module p change.«module» change.at)
    (missing_in_module p change)
