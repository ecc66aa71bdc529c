-- The rules that each item keeps.
use Rattle.std.specs.Prelude.{Bool, true, ◌&&◌, ◌||◌, Option, Some, None}
use Rattle.std.specs.List.{list_all}
use Rattle.smv_ast.specs.declared.fault.Fault.{Fault}
use Rattle.smv_ast.specs.declared.fault.Fault.TheVariants as fault
use Rattle.smv_ast.specs.declared.syntax.Span.{Span}
use Rattle.smv_ast.specs.declared.syntax.Expr.{Expr}
use Rattle.smv_ast.specs.declared.syntax.SmvType.{SmvType}
use Rattle.smv_ast.specs.declared.program.Declared.{Declared}
use Rattle.smv_ast.specs.declared.program.Declared.TheVariants.{Plain, Instance}
use Rattle.smv_meaning.specs.Items.{Item, Declares, Assigns, Defines, Constrains}
use Rattle.smv_meaning.specs.Value.{Name}
use Rattle.smv_kinds.specs.declared.sorts.Sort.{Sort}
use Rattle.smv_kinds.specs.declared.facts.Facts.{Facts}
use Rattle.smv_kinds.specs.declared.pass.Pass.{Pass}
use Rattle.smv_kinds.specs.declared.pass.Pass.TheVariants as pass
use Rattle.smv_kinds.specs.Sorts.{is_small, type_sort}
use Rattle.smv_kinds.specs.Facts.{suits}

-- the fault of a pass at a span
abbrev pub fault_of : Pass → Span → Fault
fault_of pass.Kinds at = fault.KindMismatch (Some at)
fault_of pass.Magnitudes at = fault.WideNumber (Some at)
fault_of pass.Mods at = fault.NegativeMod (Some at)

-- whether a right side suits a variable of this sort; true where the name is no variable
abbrev pub assignable : Option Sort → Facts → Bool
assignable None a = true
assignable (Some sort) a = suits (Some sort) a

-- whether the facts of an expression keep the rule of a pass
abbrev pub kept : Pass → Facts → Bool
kept pass.Kinds a = a.kinds
kept pass.Magnitudes a = a.small
kept pass.Mods a = a.mods

-- a requirement of the rules of kinds alone
abbrev pub in_kinds : Pass → Bool → Bool
in_kinds pass.Kinds required = required
in_kinds p required = true

-- whether the numbers of a type are within the limit of magnitude, which is checked in its pass
abbrev pub type_keeps : Pass → SmvType → Bool
type_keeps pass.Magnitudes type = is_small (Some (type_sort type))
type_keeps p type = true

-- whether an actual keeps the rule of a pass: an actual that denotes an instance breaks no rule of
-- kinds
abbrev pub actual_keeps : Pass → Bool → Facts → Bool
actual_keeps pass.Kinds is_instance a = is_instance || a.kinds
actual_keeps p is_instance a = kept p a

-- over the facts of expressions in an instance, which of them denote instances, and the sorts of
-- its variables
module _ (facts : Expr → Facts) (is_instance : Expr → Bool) (target : Name → Option Sort) where
  -- whether a declared entity keeps the rule of a pass: the type of a variable, or each actual
  abbrev pub declared_keeps : Pass → Declared → Bool
  declared_keeps p (Plain type) = type_keeps p type
  declared_keeps p (Instance called actuals) =
      list_all (λ e. actual_keeps p (is_instance e) (facts e)) actuals

  -- whether an item keeps the rule of a pass: its expressions keep it, and by the rules of kinds a
  -- right side suits its variable, and a constraint fits Boolean
  abbrev pub keeps : Pass → Item → Bool
  keeps p (Declares name what at) = declared_keeps p what
  keeps p (Assigns left name right at) = kept p (facts right)
      && in_kinds p (assignable (target name) (facts right))
  keeps p (Defines name right at) = kept p (facts right)
  keeps p (Constrains r e at) = kept p (facts e) && in_kinds p (facts e).fits
