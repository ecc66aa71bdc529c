-- Environments that agree on the paths that an expression mentions give it the same value and the same choices.
use Rattle.std.proofs.Common.{◌≡◌, List, sym, ◌∙◌}
use Rattle.std.specs.List.{Contains}
use Rattle.fixpoint.proofs.Laws.{agree as both_ways}
use Rattle.smv_ast.specs.declared.syntax.Path.{Path}
use Rattle.smv_ast.specs.declared.syntax.Expr.{Expr}
use Rattle.smv_meaning.specs.declared.value.Value.{Value}
use Rattle.smv_meaning.specs.Value.{Name}
use Rattle.smv_meaning.specs.Mentions.{paths_of}
use Rattle.smv_meaning.specs.Denotations.{Environment, denotation_of}
use Rattle.smv_meaning.specs.MentionedPaths.{Shared, mentioned_keeps}

-- two pairs of environments agree on a path
pub record Agrees (now after now' after' : Environment) (names : List Name) : Type 0 where
  pub now_same : now names ≡ now' names
  pub after_same : after names ≡ after' names

module _ (e : Expr) (now after now' after' : Environment) (agree : (path : Path) → Contains (paths_of e) path → Agrees now after now' after' path.names) where
  abbrev P : List Name → Type 0
  P = Agrees now after now' after'

  there : Shared P now after now' after'
  there = record { now_le = λ names p a f. sym p.now_same ∙ f; after_le = λ names p a f. sym p.after_same ∙ f }

  back : Shared P now' after' now after
  back = record { now_le = λ names p a f. p.now_same ∙ f; after_le = λ names p a f. p.after_same ∙ f }

  pub same_value : (denotation_of e).value now after ≡ (denotation_of e).value now' after'
  same_value = let keeps = mentioned_keeps P e agree in
      both_ways _ _ (keeps.value now after now' after' there) (keeps.value now' after' now after back)

  pub same_allows : (v : Value) → (denotation_of e).allows now after v ≡ (denotation_of e).allows now' after' v
  same_allows v = let keeps = mentioned_keeps P e agree in
      both_ways _ _ (keeps.allows now after now' after' there v) (keeps.allows now' after' now after back v)
