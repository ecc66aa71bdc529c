use Rattle.std.proofs.Common.{arith}
use Rattle.sat_arena.proofs.ArenaLemmas.{IsArena-lengthened}
use Rattle.sat_arena.proofs.arena.Arena.grow.Goals as goal

pub invariant_of-self : goal.invariant_of-self
invariant_of-self c =
    let a = c.self.inside in
    IsArena-lengthened a.clauses a.watched.items a.links.items a.heads.items c.lengthen.new.heads.items a.vars a.vars c.self.invariant c.lengthen.ensures.lengthened (omega arith) (λ up. absurd (omega arith))

pub invariant_of-self-2 : goal.invariant_of-self-2
invariant_of-self-2 c =
    let a = c.self.inside in
    IsArena-lengthened a.clauses a.watched.items a.links.items a.heads.items c.lengthen.new.heads.items a.vars c.args.vars c.self.invariant c.lengthen.ensures.lengthened (omega arith) (λ _. omega (arith, c.in_ok-lengthen.ensures.long))
