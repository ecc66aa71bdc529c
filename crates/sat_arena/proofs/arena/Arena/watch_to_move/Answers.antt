use Rattle.std.proofs.Common.{◌≡◌, ◌<◌, ◌+◌, ◌*◌, List, [], ℕ, true, false, length, get_or, subst, sym, ap, ◌∙◌, arith}
use Rattle.std.proofs.lemmas.Bool.{eqb-true, eqb-false}
use Rattle.std.proofs.lemmas.List.{length-map}
use Rattle.sat_arena.specs.ArenaState.{ArenaState, clauses_of}
use Rattle.sat_arena.specs.Watches.{watch_of, may_watch}
use Rattle.sat_arena.proofs.MoveLemmas.{MovesWatch-first, MovesWatch-second}
use Rattle.sat_arena.proofs.arena.Arena.watch_to_move.Goals as goal

pub returns-then-eq-clause-some : goal.returns-then-eq-clause-some
returns-then-eq-clause-some c =
    let a = c.self.inside in
    let s = c.args.self.now in
    let at = c.args.at in
    let long : length s.watched ≡ 2 * length s.stored = subst (λ (x : ArenaState). length x.watched ≡ 2 * length x.stored) c.self.view_is (c.self.invariant.watches.two_each ∙ ap (λ n. 2 * n) (length-map a.clauses (λ x. x.clause))) in
    let may : may_watch (get_or (clauses_of s.stored) at []) (watch_of s.watched (2 * at)) (watch_of s.watched (2 * at + 1)) c.args.to ≡ true
    = ap (λ (xs : List ℕ). may_watch xs (watch_of s.watched (2 * at)) (watch_of s.watched (2 * at + 1)) c.args.to) (sym c.lits.ensures) ∙ ap (λ l. may_watch c.lits.result.now l (watch_of s.watched (2 * at + 1)) c.args.to) (sym c.watches-pair.ensures.first) ∙ ap (λ l. may_watch c.lits.result.now c.watches-pair.result.first l c.args.to) (sym c.watches-pair.ensures.second) ∙ sym c.is_watchable.ensures ∙ c.if-not-is_watchable.false in
    MovesWatch-first s.stored s.watched at c.args.from c.args.to (omega (arith, c.requires)) may (sym c.watches-pair.ensures.first ∙ eqb-true c.watches-pair.result.first c.args.from (sym c.eq.ensures ∙ c.if-eq.true))

pub returns-then-eq-2-clause-some : goal.returns-then-eq-2-clause-some
returns-then-eq-2-clause-some c =
    let a = c.self.inside in
    let s = c.args.self.now in
    let at = c.args.at in
    let long : length s.watched ≡ 2 * length s.stored = subst (λ (x : ArenaState). length x.watched ≡ 2 * length x.stored) c.self.view_is (c.self.invariant.watches.two_each ∙ ap (λ n. 2 * n) (length-map a.clauses (λ x. x.clause))) in
    let may : may_watch (get_or (clauses_of s.stored) at []) (watch_of s.watched (2 * at)) (watch_of s.watched (2 * at + 1)) c.args.to ≡ true
    = ap (λ (xs : List ℕ). may_watch xs (watch_of s.watched (2 * at)) (watch_of s.watched (2 * at + 1)) c.args.to) (sym c.lits.ensures) ∙ ap (λ l. may_watch c.lits.result.now l (watch_of s.watched (2 * at + 1)) c.args.to) (sym c.watches-pair.ensures.first) ∙ ap (λ l. may_watch c.lits.result.now c.watches-pair.result.first l c.args.to) (sym c.watches-pair.ensures.second) ∙ sym c.is_watchable.ensures ∙ c.if-not-is_watchable.false in
    let other : watch_of s.watched (2 * at) ≡ c.args.from → ⊥ = λ same. eqb-false c.watches-pair.result.first c.args.from (sym c.eq.ensures ∙ c.if-eq.false) (c.watches-pair.ensures.first ∙ same) in
    MovesWatch-second s.stored s.watched at c.args.from c.args.to (omega (arith, c.requires)) may other (sym c.watches-pair.ensures.second ∙ eqb-true c.watches-pair.result.second c.args.from (sym c.eq-2.ensures ∙ c.if-eq-2.true))
