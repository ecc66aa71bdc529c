-- The names that an item of a feature uses, in text order, and whether they are known.
use Rattle.std.specs.Prelude.{Bool, if◌then◌else◌, List, [], ◌∷◌, ◌++◌, map, is_some, find}
use Rattle.std.specs.List.{flat_map}
use Rattle.std.specs.Str.{bytes_eq}
use Rattle.smv_ast.specs.declared.syntax.Span.{Span}
use Rattle.smv_ast.specs.declared.syntax.Path.{Path}
use Rattle.smv_ast.specs.declared.syntax.Expr.{Expr}
use Rattle.smv_ast.specs.declared.program.Program.{Program}
use Rattle.smv_ast.specs.declared.feature.Action.{Action}
use Rattle.smv_ast.specs.declared.feature.Action.TheVariants.{Impose, Treat}
use Rattle.smv_ast.specs.declared.feature.Need.{Need}
use Rattle.smv_ast.specs.declared.feature.Joined.{Joined}
use Rattle.smv_ast.specs.declared.feature.Change.{Change}
use Rattle.smv_meaning.specs.Value.{Name}
use Rattle.smv_meaning.specs.Items.{Item, exprs_of}
use Rattle.smv_meaning.specs.Mentions.{paths_of}
use Rattle.smv_meaning.specs.Runs.{path_text}
use Rattle.smv_names.specs.Unknown.{declared_in, is_known_path, is_resolved}
use Rattle.integrate_impose.specs.Impose.{is_named}

-- a name that is used: a module; a name that a module has to declare; a path of a module, which
-- may not be a symbol; or a path of an expression of a module, which may
pub data UsedName : Type 0 where
  UsesModule : Name → Span → UsedName
  UsesDeclared : Name → Name → Span → UsedName
  UsesPath : Name → List Name → Span → UsedName
  Reads : Name → Path → UsedName

-- the span of a used name
abbrev pub used_at : UsedName → Span
used_at (UsesModule called at) = at
used_at (UsesDeclared called name at) = at
used_at (UsesPath called path at) = at
used_at (Reads called path) = path.at

-- the text of a used name
abbrev pub used_text : UsedName → Name
used_text (UsesModule called at) = called
used_text (UsesDeclared called name at) = name
used_text (UsesPath called path at) = path_text path
used_text (Reads called path) = path_text path.names

-- whether a used name is known in a model
abbrev pub is_known : Program → UsedName → Bool
is_known p (UsesModule called at) = is_some (find (is_named called) p.modules)
is_known p (UsesDeclared called name at) = declared_in p called name
is_known p (UsesPath called path at) = is_known_path p called path
is_known p (Reads called path) = is_resolved p called path.names

-- ---- items

-- the paths of an expression of a module
abbrev pub reads_of_expr : Name → Expr → List UsedName
reads_of_expr called e = map (Reads called) (paths_of e)

-- the names that a need uses: its module, and the name if it has one
abbrev pub used_by_need : Need → List UsedName
used_by_need need = UsesModule need.«module» need.at ∷ (if bytes_eq need.name [] then [] else
    UsesDeclared need.«module» need.name need.at ∷ [])

-- the name that the head of a joined part uses: its module
abbrev pub used_by_head : Joined → List UsedName
used_by_head part = UsesModule part.«module» part.at ∷ []

-- the names that an introduced item of a module uses: the paths of its expressions
abbrev pub used_by_item : Name → Item → List UsedName
used_by_item called item = flat_map (reads_of_expr called) (exprs_of item)

-- the names that an action of a change uses: its target, then the paths of its right side
abbrev pub used_by_action : Name → Span → Action → List UsedName
used_by_action called at (Impose left name right) = UsesDeclared called name at
    ∷ reads_of_expr called right
used_by_action called at (Treat path right) = UsesPath called path.names at
    ∷ reads_of_expr called right

-- the names that a change uses: its module, the paths of its condition, then those of its action
abbrev pub used_by_change : Change → List UsedName
used_by_change change = UsesModule change.«module» change.at
    ∷ reads_of_expr change.«module» change.cond
    ++ used_by_action change.«module» change.at change.action
