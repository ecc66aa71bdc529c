-- The items of modules, in text order: declarations, assignments, definitions, constraints and
-- specs.
use Rattle.std.specs.Prelude.{List, [], ◌∷◌, map}
use Rattle.std.specs.List.{flat_map}
use Rattle.smv_ast.specs.declared.syntax.Span.{Span}
use Rattle.smv_ast.specs.declared.syntax.Expr.{Expr}
use Rattle.smv_ast.specs.declared.program.Declared.{Declared}
use Rattle.smv_ast.specs.declared.program.Declared.TheVariants.{Plain, Instance}
use Rattle.smv_ast.specs.declared.program.Declaration.{Declaration}
use Rattle.smv_ast.specs.declared.program.Left.{Left}
use Rattle.smv_ast.specs.declared.program.Assignment.{Assignment}
use Rattle.smv_ast.specs.declared.program.Definition.{Definition}
use Rattle.smv_ast.specs.declared.program.Section.{Section}
use Rattle.smv_ast.specs.declared.program.Section.TheVariants as section
use Rattle.smv_ast.specs.declared.program.Module.{Module}
use Rattle.smv_ast.specs.declared.program.Program.{Program}
use Rattle.smv_meaning.specs.declared.items.Role.{Role}
use Rattle.smv_meaning.specs.declared.items.Role.TheVariants as role
use Rattle.smv_meaning.specs.declared.items.Item.{Item as HeldItem}
use Rattle.smv_meaning.specs.declared.items.Item.TheVariants as held
use Rattle.smv_meaning.specs.Value.{Name}

-- an item with its span: a name of a VAR section with its declared entity, a left side with its
-- right side, a name of a DEFINE section with its right side, or the expression of a constraint or
-- a spec
pub data Item : Type 0 where
  Declares : Name → Declared → Span → Item
  Assigns : Left → Name → Expr → Span → Item
  Defines : Name → Expr → Span → Item
  Constrains : Role → Expr → Span → Item

-- the span of an item
abbrev pub at_of : Item → Span
at_of (Declares name what at) = at
at_of (Assigns left name right at) = at
at_of (Defines name right at) = at
at_of (Constrains r e at) = at

-- the expressions of a declared entity: the actuals of an instance
abbrev pub declared_exprs : Declared → List Expr
declared_exprs (Plain type) = []
declared_exprs (Instance called actuals) = actuals

-- the expressions of an item, in text order
abbrev pub exprs_of : Item → List Expr
exprs_of (Declares name what at) = declared_exprs what
exprs_of (Assigns left name right at) = right ∷ []
exprs_of (Defines name right at) = right ∷ []
exprs_of (Constrains r e at) = e ∷ []

-- the item of a declaration
abbrev pub declaration_item : Declaration → Item
declaration_item d = Declares d.name d.what d.at

-- the item of an assignment
abbrev pub assignment_item : Assignment → Item
assignment_item a = Assigns a.left a.name a.right a.at

-- the item of a definition
abbrev pub definition_item : Definition → Item
definition_item d = Defines d.name d.right d.at

-- the items of a section
abbrev pub section_items : Section → List Item
section_items (section.Vars declarations) = map declaration_item declarations
section_items (section.Assigns assignments) = map assignment_item assignments
section_items (section.Defines definitions) = map definition_item definitions
section_items (section.Init e at) = Constrains role.Init e at ∷ []
section_items (section.Invar e at) = Constrains role.Invariant e at ∷ []
section_items (section.Trans e at) = Constrains role.Transition e at ∷ []
section_items (section.InvarSpec e at) = Constrains role.Spec e at ∷ []

-- the items of sections
abbrev pub all_items : List Section → List Item
all_items = flat_map section_items

-- the items of a module
abbrev pub items : Module → List Item
items m = all_items m.sections

-- the items of all modules
abbrev pub program_items : Program → List Item
program_items program = flat_map items program.modules

-- ---- the items of the code

-- the item that a Rust value represents
abbrev pub item_view : HeldItem → Item
item_view (held.Declaration d) = declaration_item d.now
item_view (held.Assignment a) = assignment_item a.now
item_view (held.Definition d) = definition_item d.now
item_view (held.Constraint r e at) = Constrains r e.now at

-- the items that Rust values represent
abbrev pub items_view : List HeldItem → List Item
items_view = map item_view
