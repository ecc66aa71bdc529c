-- The limit on the depth of instances cuts none off where no module is on a cycle.
use Rattle.std.proofs.Common.{◌≡◌, ℕ, zero, suc, ◌+◌, ◌<◌, ◌≤◌, Bool, true, false, cond, inl, inr, List, [], ◌∷◌, length, codes, subst, arith}
use Rattle.std.proofs.lemmas.Bool.{lt-ltb}
use Rattle.smv_ast.specs.declared.syntax.Expr.{Expr}
use Rattle.smv_ast.specs.declared.program.Program.{Program}
use Rattle.smv_meaning.specs.Value.{Name}
use Rattle.smv_meaning.specs.Instances.{Entity, Variable, Inner, Defined, Formal, Instance, Main, Within, entries, called_at, module_named, module_at, inner_of, inner_instances, subtree, goes_deeper, depth_of, instances}
use Rattle.smv_meaning.proofs.MemberLemmas.{In, from_flat}

-- the rank of a module is above those of the modules whose instances it declares: so none is on a cycle
pub record Ranks (program : Program) (rank : Name → ℕ) : Type 0 where
  pub falls : (m name n : Name) (actuals : List Expr) → In (record { name = name; entity = Inner n actuals }) (entries (module_named program m)) → rank n < rank m
  pub main : rank (codes "main") ≤ length program.modules

module _ (program : Program) (rank : Name → ℕ) (ranks : Ranks program rank) where
  inner_falls : (p c : Instance) (name : Name) (m : Entity) → In (record { name = name; entity = m }) (entries (module_at program p)) → In c (inner_of program p name m) → depth_of c + rank (called_at c) ≤ depth_of p + rank (called_at p)
  inner_falls p c name (Variable t) e i = absurd i
  inner_falls p c name (Inner called actuals) e i = at (goes_deeper program p) i
    where
      at : (b : Bool) → In c (cond b (Within p name called ∷ []) []) → depth_of c + rank (called_at c) ≤ depth_of p + rank (called_at p)
      at true (inl same) = subst (λ (x : Instance). depth_of x + rank (called_at x) ≤ depth_of p + rank (called_at p)) same (omega (arith, ranks.falls (called_at p) name called actuals e))
      at true (inr j) = absurd j
      at false j = absurd j
  inner_falls p c name (Defined right) e i = absurd i
  inner_falls p c name (Formal k) e i = absurd i

  -- the deeper an instance, the lower the rank of its module
  below : (d : ℕ) (root p : Instance) → In p (subtree d program root) → depth_of p + rank (called_at p) ≤ depth_of root + rank (called_at root)
  below zero root p (inl e) = subst (λ (x : Instance). depth_of x + rank (called_at x) ≤ depth_of root + rank (called_at root)) e (omega arith)
  below zero root p (inr j) = absurd j
  below (suc d) root p (inl e) = subst (λ (x : Instance). depth_of x + rank (called_at x) ≤ depth_of root + rank (called_at root)) e (omega arith)
  below (suc d) root p (inr j) =
      let r = from_flat (subtree d program) (inner_instances program root) p j in
      let s = from_flat (λ e. inner_of program root e.name e.entity) (entries (module_at program root)) r.0 r.1 in
      omega (arith, below d r.0 p r.2, inner_falls root r.0 s.0.name s.0.entity s.1 s.2)

  -- an instance that declares another is not at the limit
  pub depth_harmless : (p : Instance) (name called : Name) (actuals : List Expr) → In p (instances program) → In (record { name = name; entity = Inner called actuals }) (entries (module_at program p)) → goes_deeper program p ≡ true
  depth_harmless p name called actuals i e =
      lt-ltb (depth_of p) (length program.modules) (omega (arith, below (length program.modules) Main p i, ranks.falls (called_at p) name called actuals e, ranks.main))
