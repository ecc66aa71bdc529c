use Rattle.std.proofs.Common.{◌≡◌, ◌<◌, ◌≤◌, ◌+◌, ◌++◌, ◌∷◌, [], List, false, true, length, set, subst, sym, ap, arith, ℕ}
use Rattle.std.proofs.lemmas.Grind.{common_steps}
use Rattle.std.specs.Prelude.{All, vec_capacity, vec_len}
use Rattle.sat_lits.specs.Literals.{variable_of, negation}
use Rattle.sat_arena.specs.declared.trail.Assigned.{Assigned}
use Rattle.sat_arena.specs.Trails.{true_in, IsGrown, KeepsTogether}
use Rattle.sat_arena.proofs.TrailLemmas.{room_to_push, KeepsTogether-push}
use Rattle.sat_arena.proofs.trail.Trail.push.Goals as goal

pub overflow_cast-len : goal.overflow_cast-len
overflow_cast-len c =
    let inside : c.self.inside.entries.items ≡ c.args.self.now.entries = ap (λ t. t.entries) c.self.view_is in
    let numbered : 2 ≤ c.args.entry.lit = omega (arith, c.code-code.ensures.numbered, c.code-code.ensures.code) in
    let vars : c.self.inside.vars ≡ c.args.self.now.vars = ap (λ t. t.vars) c.self.view_is in
    let low : variable_of c.args.entry.lit ≤ c.self.inside.vars = omega arith in
    let room : length c.self.inside.entries.items < c.self.inside.vars + 1
    = room_to_push c.self.inside.entries.items c.args.entry c.self.inside.vars c.self.invariant.orderly (numbered, low)
    (subst (λ (es : List Assigned). true_in es c.args.entry.lit ≡ false) (sym inside) c.requires.not_true)
    (subst (λ (es : List Assigned). true_in es (negation c.args.entry.lit) ≡ false) (sym inside) c.requires.not_false)
    (subst (λ (es : List Assigned). All (λ e. e.level ≤ c.args.entry.level) es) (sym inside) c.requires.current_level) in
    let len : c.len.result ≡ length c.self.inside.entries.items = grind (arith, common_steps) in
    omega arith

pub unwrap-requires : goal.unwrap-requires
unwrap-requires c =
    let inside : c.self.inside.entries.items ≡ c.args.self.now.entries = ap (λ t. t.entries) c.self.view_is in
    let vars : c.self.inside.vars ≡ c.args.self.now.vars = ap (λ t. t.vars) c.self.view_is in
    let numbered : 2 ≤ c.args.entry.lit = omega (arith, c.code-code.ensures.numbered, c.code-code.ensures.code) in
    let low : variable_of c.args.entry.lit ≤ c.self.inside.vars = omega arith in
    let grown : IsGrown c.self.inside.vars c.args.entry.lit = (numbered, low) in
    let room : length c.self.inside.entries.items < c.self.inside.vars + 1
    = room_to_push c.self.inside.entries.items c.args.entry c.self.inside.vars c.self.invariant.orderly grown
    (subst (λ (es : List Assigned). true_in es c.args.entry.lit ≡ false) (sym inside) c.requires.not_true)
    (subst (λ (es : List Assigned). true_in es (negation c.args.entry.lit) ≡ false) (sym inside) c.requires.not_false)
    (subst (λ (es : List Assigned). All (λ e. e.level ≤ c.args.entry.level) es) (sym inside) c.requires.current_level) in
    let some : 0 < c.self.inside.vars = omega arith in
    let reserved : c.self.inside.vars + 1 ≤ vec_capacity c.self.inside.entries = c.self.invariant.reserved some in
    let len : vec_len c.self.inside.entries ≡ length c.self.inside.entries.items = c.self.inside.entries.ok.0 in
    c.push.ensures.succeeds (omega arith)

pub invariant_of-self : goal.invariant_of-self
invariant_of-self c =
    let inside : c.self.inside.entries.items ≡ c.args.self.now.entries = ap (λ t. t.entries) c.self.view_is in
    let vars : c.self.inside.vars ≡ c.args.self.now.vars = ap (λ t. t.vars) c.self.view_is in
    let numbered : 2 ≤ c.args.entry.lit = omega (arith, c.code-code.ensures.numbered, c.code-code.ensures.code) in
    let low : variable_of c.args.entry.lit ≤ c.self.inside.vars = omega arith in
    let code : c.code-code.result ≡ c.args.entry.lit = c.code-code.ensures.code in
    let more : c.push.new.self.items ≡ c.self.inside.entries.items ++ c.args.entry ∷ [] = grind (arith, common_steps) in
    let len : c.len.result ≡ length c.self.inside.entries.items = grind (arith, common_steps) in
    subst (λ (es : List Assigned). KeepsTogether es (set c.self.inside.truth.items c.code-code.result true) (set c.self.inside.positions.items c.var.result c.len.result) c.self.inside.vars (vec_capacity c.push.new.self)) (sym more)
    (subst (λ (n : ℕ). KeepsTogether (c.self.inside.entries.items ++ c.args.entry ∷ []) (set c.self.inside.truth.items n true) (set c.self.inside.positions.items c.var.result c.len.result) c.self.inside.vars (vec_capacity c.push.new.self)) (sym code)
    (subst (λ (n : ℕ). KeepsTogether (c.self.inside.entries.items ++ c.args.entry ∷ []) (set c.self.inside.truth.items c.args.entry.lit true) (set c.self.inside.positions.items n c.len.result) c.self.inside.vars (vec_capacity c.push.new.self)) (sym c.var.ensures.variable)
    (subst (λ (n : ℕ). KeepsTogether (c.self.inside.entries.items ++ c.args.entry ∷ []) (set c.self.inside.truth.items c.args.entry.lit true) (set c.self.inside.positions.items (variable_of c.args.entry.lit) n) c.self.inside.vars (vec_capacity c.push.new.self)) (sym len)
    (KeepsTogether-push c.self.inside.entries.items c.args.entry c.self.inside.truth.items c.self.inside.positions.items c.self.inside.vars (vec_capacity c.self.inside.entries) (vec_capacity c.push.new.self)
    c.self.invariant c.push.ensures.capacity (numbered, low)
    (subst (λ (es : List Assigned). true_in es c.args.entry.lit ≡ false) (sym inside) c.requires.not_true)
    (subst (λ (es : List Assigned). true_in es (negation c.args.entry.lit) ≡ false) (sym inside) c.requires.not_false)
    (subst (λ (es : List Assigned). All (λ e. e.level ≤ c.args.entry.level) es) (sym inside) c.requires.current_level)))))
