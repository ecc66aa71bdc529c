use Rattle.std.proofs.Common.{◌≡◌, ◌<◌, ◌≤◌, ℕ, true, length, get_or}
use Rattle.sat_lits.specs.Literals.{negation}
use Rattle.sat_arena.specs.declared.trail.Assigned.{Assigned}
use Rattle.sat_arena.specs.Trails.{true_in}
use Rattle.sat_arena.proofs.status.latest_but.Given as goal

abbrev pub invariant-loop-index : goal.invariant-loop-index
invariant-loop-index l = record {
  within : l.latest < length l.lits;
  other : l.latest ≡ l.first → ⊥;
  are_false : (k : ℕ) → k < l.index → (k ≡ l.first → ⊥) → true_in l.trail.entries (negation (get_or l.lits k 0)) ≡ true;
  above : (k i : ℕ) (d : Assigned) → k < l.index → (k ≡ l.first → ⊥) → i < length l.trail.entries → (get_or l.trail.entries i d).lit ≡ negation (get_or l.lits k 0) → i ≤ l.highest;
  reached : (j : ℕ) (d : Assigned) → l.latest < l.index → j < length l.trail.entries → (get_or l.trail.entries j d).lit ≡ negation (get_or l.lits l.latest 0) → j ≡ l.highest;
  begun : 0 < l.highest → l.latest < l.index;
}
