-- The valuation of a written state, by slots.
use Rattle.std.specs.Prelude.{◌≡◌, ℕ, ◌<◌, List, [], ◌∷◌, ◌++◌, Option, Some, None, slice_get, slice_index_or, IfSome, codes}
use Rattle.std.specs.Option.{option_map}
use Rattle.smv_ast.specs.declared.syntax.Expr.{Expr}
use Rattle.smv_ast.specs.declared.program.Program.{Program}
use Rattle.smv_meaning.specs.declared.value.Value.{Value}
use Rattle.smv_meaning.specs.declared.table.Link.{Link}
use Rattle.smv_meaning.specs.declared.table.Row.{Row}
use Rattle.smv_meaning.specs.declared.table.InstanceTable.{InstanceTable}
use Rattle.smv_meaning.specs.Value.{Name, and_then}
use Rattle.fixpoint.specs.Fixpoints.{entry}
use Rattle.smv_meaning.specs.Paths.{QualifiedName}
use Rattle.smv_meaning.specs.Instances.{path_of}
use Rattle.smv_meaning.specs.Denotations.{Environment}
use Rattle.smv_meaning.specs.Values.{State, Valuation, symbol_of, environment_by, read_by, value_of_binding, valuation_in}
use Rattle.smv_meaning.specs.Runs.{path_text}
use Rattle.smv_meaning.specs.InstanceTable.{nth_instance, instance_of_link, row_instances}
use Rattle.smv_meaning.specs.Slots.{binding_in, by_slot, slot_step}

-- a row comes after its outer row, and has the link of its instance
pub record IsLinked (rows : List Row) (k : ℕ) (row : Row) : Type 0 where
  pub outer : IfSome row.link (λ link. link.outer < k)
  pub instance_at : nth_instance (row_instances rows) k
      ≡ instance_of_link (row_instances rows) row.link

-- each row is so linked
abbrev pub AreLinked : List Row → Type 0
AreLinked rows = (k : ℕ) (row : Row) → slice_get rows k ≡ Some row → IsLinked rows k row

-- the text of a name in an instance of this text; below `main` the name alone
abbrev pub text_below : Option Link → List ℕ → Name → List ℕ
text_below None text name = name
text_below (Some link) text name = text ++ codes "." ++ name

-- the link of the row with this number
abbrev pub link_of : Option Row → Option Link
link_of None = None
link_of (Some row) = row.link

-- the text of an instance with this link, given the texts of the instances before it
abbrev pub link_text : List Row → List (List ℕ) → Link → List ℕ
link_text rows texts link = text_below (link_of (slice_get rows link.outer))
    (slice_index_or texts link.outer []) link.name.now

-- the text of an instance that has this link, or is `main`
abbrev pub row_text : List Row → List (List ℕ) → Option Link → List ℕ
row_text rows texts None = []
row_text rows texts (Some link) = link_text rows texts link

-- the texts are those of the paths of the instances
abbrev pub ArePathTexts : List Row → List (List ℕ) → Type 0
ArePathTexts rows texts = (k : ℕ) (row : Row) → slice_get rows k ≡ Some row → slice_get texts k
    ≡ Some (path_text (path_of (nth_instance (row_instances rows) k)))

-- the text of each name's path is made from these texts
abbrev pub SpellsNames : List Row → List (List ℕ) → Type 0
SpellsNames rows texts = (k : ℕ) (row : Row) (name : Name) → slice_get rows k ≡ Some row →
    option_map (λ text. text_below row.link text name) (slice_get texts k)
    ≡ Some (path_text (path_of (nth_instance (row_instances rows) k) ++ name ∷ []))

-- the text of the path of a name, where there is such an instance
abbrev pub name_text : InstanceTable → QualifiedName ℕ → Option (List ℕ)
name_text table qualified = and_then (slice_get table.rows qualified.instance)
    (λ row. Some (path_text (path_of (nth_instance (row_instances table.rows) qualified.instance)
    ++ qualified.name ∷ [])))

-- the value that a state has for a variable of an instance, given by number
abbrev pub variable_at : InstanceTable → State → Valuation ℕ
variable_at table s qualified = and_then (slice_get table.rows qualified.instance)
    (λ row. s (path_of (nth_instance (row_instances table.rows) qualified.instance)
    ++ qualified.name ∷ []))

-- the transfer function of the valuation of a state, on slots
abbrev pub valuation_slots : Program → InstanceTable → State → (ℕ → Option Value) → ℕ → Option Value
valuation_slots program table s = slot_step table
    (value_of_binding (binding_in table) (symbol_of program) (variable_at table s))

-- the table is the valuation of a state
abbrev pub IsValuationTable : Program → InstanceTable → State → List (Option Value) → Type 0
IsValuationTable program table s solution = (qualified : QualifiedName ℕ)
    → by_slot table (entry solution) qualified
    ≡ valuation_in (binding_in table) (symbol_of program) (variable_at table s) qualified

-- the environment of an instance, given by number, by a table
abbrev pub row_environment : Program → InstanceTable → List (Option Value) → ℕ → Environment
row_environment program table solution row = environment_by (binding_in table) (symbol_of program)
    (by_slot table (entry solution)) row

-- the value of an expression in an instance, given by number, by a table
abbrev pub read_row : Program → InstanceTable → List (Option Value) → ℕ → Expr → Option Value
read_row program table solution row e = read_by (binding_in table) (symbol_of program)
    (by_slot table (entry solution)) row e
