-- Related names: each name of an instance of the text is a name of the same instance of the lift,
-- with a related entity. The lift may declare more names.
use Rattle.std.specs.Prelude.{◌≡◌, ℕ, suc, ◌≤◌, List, [], ◌∷◌, length, Option, Some, None, slice_get}
use Rattle.std.specs.List.{Contains}
use Rattle.smv_ast.specs.declared.syntax.Path.{Path}
use Rattle.smv_ast.specs.declared.syntax.SmvType.{SmvType}
use Rattle.smv_ast.specs.declared.syntax.Expr.{Expr}
use Rattle.smv_ast.specs.declared.syntax.Expr.TheVariants as expr
use Rattle.smv_ast.specs.declared.program.Program.{Program}
use Rattle.smv_meaning.specs.declared.value.Value.TheVariants.{Boolean}
use Rattle.fixpoint.specs.OptionOrder.{Le}
use Rattle.smv_meaning.specs.Value.{Name}
use Rattle.smv_meaning.specs.Paths.{QualifiedName, IsVariable, aliased, aliases, resolve}
use Rattle.smv_meaning.specs.Instances.{Entity, Variable, Inner, Defined, Formal, Entry, Instance, Main, Within, entries, module_at, entity_at, instances, binding_at}
use Rattle.smv_meaning.specs.Mentions.{paths_of}
use Rattle.smv_meaning.specs.Values.{State, symbol_of, variable_in}
use Rattle.lift_relation.specs.RelatedExpr.{RelatedExpr}
use Rattle.lift_relation.specs.Weaving.{Weaving, IsOfText, home_instance, feature_variable}

-- no module of an instance declares a name twice
abbrev pub AreDistinct : Program → Type 0
AreDistinct program = (instance : Instance) → Contains (instances program) instance → (e : Entry)
    → Contains (entries (module_at program instance)) e
    → entity_at program instance e.name ≡ Some e.entity

module _ (w : Weaving) where
  -- ---- expressions in an instance

  -- a path of the text in an instance: it resolves to a declaration; or it resolves to none, in the
  -- lift neither, and is in the lift at most the symbol that it is in the text
  pub data IsKnownPath (instance : Instance) (names : List Name) : Type 0 where
    Resolves : (qualified : QualifiedName Instance)
        → resolve (binding_at w.text) instance names ≡ Some qualified → IsKnownPath instance names
    IsSymbol : resolve (binding_at w.lift) instance names ≡ None
        → resolve (binding_at w.text) instance names ≡ None
        → Le (symbol_of w.lift names) (symbol_of w.text names) → IsKnownPath instance names

  -- related expressions, read in an instance: the paths of the text's are known there
  pub record ReadAlike (instance : Instance) (l t : Expr) : Type 0 where
    pub related : RelatedExpr w.features w.has l t
    pub known : (path : Path) → Contains (paths_of t) path → IsKnownPath instance path.names

  -- an actual of the text that denotes an instance is in the lift the same path
  pub data KeepsAlias (instance : Instance) : Expr → Expr → Type 0 where
    NoAlias : (l t : Expr) → aliased (aliases (binding_at w.text)) instance t ≡ None
        → KeepsAlias instance l t
    SamePath : (p q : Path) → p.names ≡ q.names
        → KeepsAlias instance (expr.Name p) (expr.Name q)

  -- ---- names

  -- the actuals at an index, if there are any, read in an instance
  pub data RelatedActual (instance : Instance) : Option Expr → Option Expr → Type 0 where
    NoActual : RelatedActual instance None None
    BothActual : (l t : Expr) → ReadAlike instance l t → KeepsAlias instance l t
        → RelatedActual instance (Some l) (Some t)

  -- the entities of a name in an instance of the lift and of the text: each instance of the lift
  -- passes the features' variables on, before its own actuals, and each of its modules takes them
  -- before its own formals
  pub data RelatedEntity (instance : Instance) : Entity → Entity → Type 0 where
    BothVariable : (type : SmvType) → RelatedEntity instance (Variable type) (Variable type)
    BothInner : (called : Name) (path : Path) (ls ts : List Expr) → path.names ≡ w.features ∷ []
        → ((k : ℕ) → RelatedActual instance (slice_get ls k) (slice_get ts k))
        → RelatedEntity instance (Inner called (expr.Name path ∷ ls)) (Inner called ts)
    BothDefined : (l t : Expr) → ReadAlike instance l t
        → RelatedEntity instance (Defined l) (Defined t)
    BothFormal : (k : ℕ) → RelatedEntity instance (Formal (suc k)) (Formal k)

  -- the entity of the lift for a name that the text declares
  pub record HasRelated (instance : Instance) (name : Name) (t : Entity) : Type 0 where
    pub entity : Entity
    pub declared : entity_at w.lift instance name ≡ Some entity
    pub related : RelatedEntity instance entity t

  -- `main` of the lift has the instance of the features' variables, each other instance has it as
  -- its first formal, and it declares variables alone
  pub record HasHome : Type 0 where
    pub in_main : entity_at w.lift Main w.features ≡ Some (Inner w.home [])
    pub in_others : (outer : Instance) (name called : Name) → IsOfText w (Within outer name called)
        → entity_at w.lift (Within outer name called) w.features ≡ Some (Formal 0)
    pub inside : (name : Name) (m : Entity) → entity_at w.lift (home_instance w) name ≡ Some m
        → (type : SmvType) × (m ≡ Variable type)

  -- the names of the text and of the lift
  pub record AreRelatedNames : Type 0 where
    pub distinct : AreDistinct w.text
    pub entities : (instance : Instance) → IsOfText w instance → (name : Name) (t : Entity)
        → entity_at w.text instance name ≡ Some t → HasRelated instance name t
    pub modules : length w.text.modules ≤ length w.lift.modules
    pub home : HasHome

  -- ---- states

  -- a state of the lift and one of the text: the features' variables have the values of the product,
  -- and the text's variables the same values
  pub record AreRelatedStates (s t : State) : Type 0 where
    pub features : (feature : Name)
        → Le (variable_in s (feature_variable w feature)) (Some (Boolean (w.has feature)))
    pub variables : (qualified : QualifiedName Instance) → IsOfText w qualified.instance
        → binding_at w.text qualified ≡ Some IsVariable
        → Le (variable_in s qualified) (variable_in t qualified)
