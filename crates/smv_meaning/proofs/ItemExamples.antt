-- Items at small examples: their order, their expressions, and what each role asks of states.
use Rattle.std.proofs.Common.{◌≡◌, true, [], ◌∷◌, Some, None, refl}
use Rattle.smv_ast.specs.declared.syntax.Span.{Span}
use Rattle.smv_ast.specs.declared.syntax.Expr.{Expr}
use Rattle.smv_ast.specs.declared.program.Declared.TheVariants.{Plain, Instance as Submodule}
use Rattle.smv_ast.specs.declared.syntax.SmvType.{SmvType}
use Rattle.smv_ast.specs.declared.program.Declaration.{Declaration}
use Rattle.smv_ast.specs.declared.program.Assignment.{Assignment}
use Rattle.smv_ast.specs.declared.program.Definition.{Definition}
use Rattle.smv_ast.specs.declared.program.Left.TheVariants as left
use Rattle.smv_ast.specs.declared.program.Program.{Program}
use Rattle.smv_ast.specs.declared.program.Section.TheVariants as section
use Rattle.smv_meaning.specs.declared.items.Role.TheVariants as role
use Rattle.smv_meaning.specs.Value.{Name}
use Rattle.smv_meaning.specs.Instances.{Instance}
use Rattle.smv_meaning.specs.Items.{Declares, Assigns, Defines, Constrains, exprs_of, all_items}
use Rattle.smv_meaning.specs.Values.{State}
use Rattle.smv_meaning.specs.Runs.{begins, stays, steps, meets, is_true_in, is_assigned}

-- sections one after the other, each in the order of its text
in_text_order : (d e : Declaration) (a : Assignment) (f : Definition) (x : Expr) (at : Span) →
    all_items (section.Vars (d ∷ e ∷ []) ∷ section.Assigns (a ∷ []) ∷ section.Trans x at ∷ section.Defines (f ∷ []) ∷ [])
    ≡ Declares d.name d.what d.at ∷ Declares e.name e.what e.at ∷ Assigns a.left a.name a.right a.at ∷ Constrains role.Transition x at ∷ Defines f.name f.right f.at ∷ []
in_text_order d e a f x at = refl

-- the expressions of an instance are its actuals; a variable has none
actuals : (name called : Name) (a b : Expr) (at : Span) → exprs_of (Declares name (Submodule called (a ∷ b ∷ [])) at) ≡ a ∷ b ∷ []
actuals name called a b at = refl

no_exprs : (name : Name) (t : SmvType) (at : Span) → exprs_of (Declares name (Plain t) at) ≡ []
no_exprs name t at = refl

module _ (program : Program) (instance : Instance) (s t : State) (e : Expr) (name : Name) (at : Span) where
  -- INIT is asked of first states alone, INVAR of every state, TRANS of steps, a spec of none
  init_at_first : begins program instance s (Constrains role.Init e at) ≡ is_true_in program instance s s e
  init_at_first = refl

  init_in_no_step : steps program instance s t (Constrains role.Init e at) ≡ true
  init_in_no_step = refl

  init_not_later : stays program instance s (Constrains role.Init e at) ≡ true
  init_not_later = refl

  invariant_in_each : stays program instance t (Constrains role.Invariant e at) ≡ is_true_in program instance t t e
  invariant_in_each = refl

  transition_in_both : steps program instance s t (Constrains role.Transition e at) ≡ is_true_in program instance s t e
  transition_in_both = refl

  spec_never : meets program (Some s) t instance (Constrains role.Spec e at) ≡ true
  spec_never = refl

  -- `next(x) := e` reads `e` in the earlier state, `x` in the later one
  next_assigned : steps program instance s t (Assigns left.Next name e at) ≡ is_assigned program instance t s t name e
  next_assigned = refl

  -- what declares or defines is always met
  declarations_met : meets program None s instance (Defines name e at) ≡ true
  declarations_met = refl
