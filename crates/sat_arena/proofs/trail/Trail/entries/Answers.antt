use Rattle.std.proofs.Common.{◌≡◌, ◌≤◌, ◌+◌, List, length, ap, subst, arith}
use Rattle.sat_arena.specs.declared.trail.Assigned.{Assigned}
use Rattle.sat_arena.specs.Settled.{IsConsistent}
use Rattle.sat_arena.specs.Trails.{true_in}
use Rattle.sat_arena.proofs.TrailLemmas.{few_entries, consistent}
use Rattle.sat_arena.proofs.trail.Trail.entries.Goals as goal

pub returns-clause-consistent : goal.returns-clause-consistent
returns-clause-consistent c =
    subst (λ (es : List Assigned). IsConsistent (true_in es)) (ap (λ t. t.entries) c.self.view_is) (consistent c.self.inside.entries.items c.self.inside.vars c.self.invariant.orderly)

pub returns-clause-few : goal.returns-clause-few
returns-clause-few c =
    let few : length c.self.inside.entries.items ≤ c.self.inside.vars + 1 = few_entries c.self.inside.entries.items c.self.inside.vars c.self.invariant.orderly in
    let entries : length c.self.inside.entries.items ≡ length c.args.self.now.entries = ap (λ t. length t.entries) c.self.view_is in
    let vars : c.self.inside.vars ≡ c.args.self.now.vars = ap (λ t. t.vars) c.self.view_is in
    omega arith
