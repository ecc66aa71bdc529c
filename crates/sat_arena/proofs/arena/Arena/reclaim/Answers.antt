use Rattle.std.proofs.Common.{◌≡◌, ◌≤◌, ◌+◌, ℕ, Bool, true, false, not, cond, List, [], ◌∷◌, length, sym, ap, subst, ◌∙◌, arith}
use Rattle.std.specs.Prelude.{filter}
use mathlib.Core.Path.{fun_ext}
use Rattle.sat_arena.specs.Stored.{Stored}
use Rattle.sat_arena.specs.ArenaState.{ArenaState, clauses_of, among, is_satisfied}
use Rattle.sat_arena.specs.Watches.{KeepsWatches}
use Rattle.sat_arena.specs.Reclaimed.{moves}
use Rattle.sat_arena.proofs.ReclaimLemmas.{KeepsWatches-of}
use Rattle.sat_arena.specs.Trails.{marked}
use Rattle.sat_arena.proofs.arena.Arena.reclaim.Goals as goal

-- a filter makes no list longer
length-filter : (keep : Stored → Bool) (ss : List Stored) → length (filter keep ss) ≤ length ss
length-filter keep [] = omega arith
length-filter keep (s ∷ ss) = elim (keep s) as (λ b. length (cond b (s ∷ filter keep ss) (filter keep ss)) ≤ length (s ∷ ss)) [
  | true ↦ (let fewer : length (filter keep ss) ≤ length ss = length-filter keep ss in omega arith)
  | false ↦ (let fewer : length (filter keep ss) ≤ length ss = length-filter keep ss in omega arith)
]

-- a set stands for its members
is_set_of : (literal_set lent : List Bool) (root : List ℕ) → ((l : ℕ) → marked literal_set l ≡ among root l) → lent ≡ literal_set → marked lent ≡ among root
is_set_of literal_set lent root same lent_is = ap marked lent_is ∙ fun_ext same

pub overflow_sub-result : goal.overflow_sub-result
overflow_sub-result c =
    let keep : Stored → Bool = λ s. not (is_satisfied (marked c.deref.result.now) s) in
    let fewer : length (filter keep c.args.self.now.stored) ≤ length c.args.self.now.stored = length-filter keep c.args.self.now.stored in
    let same : length c.copy_kept.new.kept.stored ≡ length (filter keep c.args.self.now.stored) = ap length c.in_ok-copy_kept.ensures.ok.kept in
    omega (arith, c.len-after.ensures.len, c.len-before.ensures.len)

pub returns-clause-ok : goal.returns-clause-ok
returns-clause-ok c =
    ap (λ (a : ArenaState). a.stored) c.kept-2.view_is ∙ c.in_ok-copy_kept.ensures.ok.kept
    ∙ ap (λ (f : ℕ → Bool). filter (λ s. not (is_satisfied f s)) c.args.self.now.stored) (is_set_of c.in_ok-literal_set.literal_set.items c.deref.result.now c.args.root.now c.in_ok-literal_set.ensures c.deref.ensures.value)

pub returns-clause-count : goal.returns-clause-count
returns-clause-count c =
    let keep : Stored → Bool = λ s. not (is_satisfied (marked c.deref.result.now) s) in
    let fewer : length (filter keep c.args.self.now.stored) ≤ length c.args.self.now.stored = length-filter keep c.args.self.now.stored in
    let same : length c.copy_kept.new.kept.stored ≡ length (filter keep c.args.self.now.stored) = ap length c.in_ok-copy_kept.ensures.ok.kept in
    let held : length c.kept-2.inside.clauses ≡ length c.copy_kept.new.kept.stored = ap (λ (a : ArenaState). length a.stored) c.kept-2.view_is in
    omega (arith, c.len-after.ensures.len, c.len-before.ensures.len)

pub returns-clause-moved : goal.returns-clause-moved
returns-clause-moved c =
    ap (λ (a : ArenaState). a.moved) c.kept-2.view_is ∙ c.in_ok-copy_kept.ensures.ok.moved
    ∙ ap (λ (f : ℕ → Bool). moves (is_satisfied f) 0 c.args.self.now.stored) (is_set_of c.in_ok-literal_set.literal_set.items c.deref.result.now c.args.root.now c.in_ok-literal_set.ensures c.deref.ensures.value)

pub returns-clause-watches : goal.returns-clause-watches
returns-clause-watches c entries head keeps =
    subst (λ (a : ArenaState). KeepsWatches entries head (clauses_of a.stored) a.watched) (sym c.kept-2.view_is)
    (KeepsWatches-of entries head (clauses_of c.args.self.now.stored) c.args.self.now.watched (clauses_of c.copy_kept.new.kept.stored) c.copy_kept.new.kept.watched
    c.len-after.ensures.watches c.in_ok-copy_kept.ensures.ok.watches keeps)
