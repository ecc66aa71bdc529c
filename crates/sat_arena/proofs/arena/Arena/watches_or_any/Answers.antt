use Rattle.std.proofs.Common.{◌≡◌, ◌<◌, ◌+◌, ◌*◌, List, [], ℕ, length, get_or, subst, sym, ap, ◌∙◌, arith, inl}
use Rattle.sat_arena.specs.ArenaState.{ArenaState, clauses_of}
use Rattle.sat_arena.specs.Watches.{watch_of, AreTwoOf}
use Rattle.sat_arena.proofs.ArenaLemmas.{two_watched}
use Rattle.sat_arena.proofs.arena.Arena.watches_or_any.Goals as goal

-- the clause watches two of its literals
two : (c : goal.After-watches) → 1 < length (get_or (clauses_of c.args.self.now.stored) c.args.at []) → AreTwoOf (get_or (clauses_of c.args.self.now.stored) c.args.at []) c.watches.result.first c.watches.result.second
two c more =
    let a = c.self.inside in
    let at = c.args.at in
    let within : at < length a.clauses = subst (λ (s : ArenaState). at < length s.stored) (sym c.self.view_is) c.requires in
    let pair : AreTwoOf (get_or (clauses_of c.args.self.now.stored) at []) (watch_of c.args.self.now.watched (2 * at)) (watch_of c.args.self.now.watched (2 * at + 1))
    = subst (λ (s : ArenaState). 1 < length (get_or (clauses_of s.stored) at []) → AreTwoOf (get_or (clauses_of s.stored) at []) (watch_of s.watched (2 * at)) (watch_of s.watched (2 * at + 1))) c.self.view_is
    (two_watched a.clauses a.watched.items a.links.items a.heads.items a.vars at c.self.invariant within) more in
    subst (λ (l : ℕ). AreTwoOf (get_or (clauses_of c.args.self.now.stored) at []) l c.watches.result.second) (sym c.watches.ensures.first)
    (subst (λ (l : ℕ). AreTwoOf (get_or (clauses_of c.args.self.now.stored) at []) (watch_of c.args.self.now.watched (2 * at)) l) (sym c.watches.ensures.second) pair)

longer : (c : goal.After-watches) → 1 < length (get_or (clauses_of c.args.self.now.stored) c.args.at [])
longer c = subst (λ (xs : List ℕ). 1 < length xs) c.lits-lits.ensures c.if-lits-gt1.true

pub returns-then-lits-gt1-clause-first : goal.returns-then-lits-gt1-clause-first
returns-then-lits-gt1-clause-first c = inl (two c (longer c)).holds_first

pub returns-then-lits-gt1-clause-second : goal.returns-then-lits-gt1-clause-second
returns-then-lits-gt1-clause-second c = inl (two c (longer c)).holds_second

pub returns-then-lits-gt1-clause-two : goal.returns-then-lits-gt1-clause-two
returns-then-lits-gt1-clause-two c more = two c more
