-- Environments of a lift and of the text of a product, and what an expression keeps between them.
use Rattle.std.specs.Prelude.{◌≡◌, Bool, List, [], ◌∷◌, Some}
use Rattle.smv_ast.specs.declared.syntax.Expr.{Expr}
use Rattle.smv_meaning.specs.declared.value.Value.TheVariants.{Boolean}
use Rattle.fixpoint.specs.OptionOrder.{Le}
use Rattle.smv_meaning.specs.Value.{Name}
use Rattle.smv_meaning.specs.Denotations.{Environment, denotation_of}
use Rattle.smv_meaning.specs.Layers.{LeDenotation}

module _ (features : Name) (has : Name → Bool) where
  -- the features' variables have, where they have a value, that of the product
  abbrev pub ShowsProduct : Environment → Type 0
  ShowsProduct environment = (feature : Name)
      → Le (environment (features ∷ feature ∷ [])) (Some (Boolean (has feature)))

  -- the second environments are the first, in which the features' variables show the product
  pub record AreAtProduct (now after now' after' : Environment) : Type 0 where
    pub now_same : now' ≡ now
    pub after_same : after' ≡ after
    pub now_shows : ShowsProduct now
    pub after_shows : ShowsProduct after

  -- where the first expression has a value at the product, the second has the same; likewise the
  -- values that they allow
  abbrev pub LeAtProduct : Expr → Expr → Type 0
  LeAtProduct l t = LeDenotation AreAtProduct (denotation_of l) (denotation_of t)
