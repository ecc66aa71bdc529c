use Rattle.std.proofs.Common.{◌≡◌, ◌+◌, ◌++◌, ◌∷◌, ◌∙◌, [], ℕ, List, length, get_or, take, ap, sym, subst, arith, append_assoc, append-nil, refl, ◌<◌}
use Rattle.std.proofs.lemmas.List.{take_more, length-take-le, get_or_default, map_push}
use Rattle.fsmv_base.specs.declared.citation.Id.TheVariants.{Axiom}
use Rattle.sat_arena.specs.Stored.{Stored}
use Rattle.sat_arena.specs.ArenaState.{clauses_of}
use Rattle.sat_arena.specs.Deduced.{Deduces, nothing}
use Rattle.sat_arena.specs.Justified.{current_level}
use Rattle.sat_arena.proofs.LevelLaws.{current_level-deduced}
use Rattle.sat_arena.proofs.DeducedLemmas.{Deduces-join, Deduces-append}
use Rattle.sat_search.specs.Axioms.{axioms_from}
use Rattle.sat_search.proofs.GrowthLemmas.{axioms_from-push}
use Rattle.sat_search.proofs.growth.store_axioms.Goals as goal

-- the axioms up to one more
stored_more : (clauses : List (List ℕ)) (i count : ℕ) (clause : List ℕ) → take (i + 1) clauses ≡ take i clauses ++ clause ∷ [] → length (take i clauses) ≡ i → axioms_from (count + 1) (take (i + 1) clauses) ≡ axioms_from (count + 1) (take i clauses) ++ record { clause = clause; id = Axiom (count + i + 1) } ∷ []
stored_more clauses i count clause more long =
    ap (axioms_from (count + 1)) more ∙ axioms_from-push (count + 1) (take i clauses) clause
    ∙ ap (λ n. axioms_from (count + 1) (take i clauses) ++ record { clause = clause; id = Axiom n } ∷ []) (let e : count + 1 + length (take i clauses) ≡ count + i + 1 = omega arith in e)

pub loop-clause-init : goal.loop-clause-init
loop-clause-init c = record {
  counted = omega arith;
  stored = sym (append-nil c.args.propagator.now.stored);
  vars = refl;
  deduced = nothing;
}

pub loop-clause-preserved : goal.loop-clause-preserved
loop-clause-preserved c =
    let clauses = c.args.clauses.now in
    let i = c.loop-clause.clause-index in
    let before = c.args.propagator.now.stored in
    let prefix = axioms_from (c.args.count + 1) (take i clauses) in
    let item = c.clause-item.result in
    let within : i < length clauses = omega arith in
    let same : get_or clauses i [] ≡ item = get_or_default clauses i [] item within ∙ sym c.clause-item.is in
    let more : take (i + 1) clauses ≡ take i clauses ++ item ∷ [] = take_more clauses i [] within ∙ ap (λ (x : List ℕ). take i clauses ++ x ∷ []) same in
    let long : length (take i clauses) ≡ i = length-take-le i clauses (omega arith) in
    let number : c.loop-clause.number + 1 ≡ c.args.count + i + 1 = omega (arith, c.loop-clause.invariant.counted) in
    let added : Stored = record { clause = item; id = Axiom (c.loop-clause.number + 1) } in
    let mid = c.loop-clause.propagator in
    let after = c.add.new.self in
    let level : current_level mid.entries ≡ 0 = current_level-deduced (clauses_of mid.stored) 0 c.args.propagator.now.entries mid.entries c.loop-clause.invariant.deduced c.requires.root in
    let all : clauses_of after.stored ≡ clauses_of mid.stored ++ item ∷ [] = ap clauses_of c.in_ok-add.ensures.stored ∙ map_push (λ (s : Stored). s.clause) mid.stored added in
    record {
      counted = omega (arith, c.loop-clause.invariant.counted);
      stored = c.in_ok-add.ensures.stored
          ∙ ap (λ (xs : List Stored). xs ++ added ∷ []) c.loop-clause.invariant.stored
          ∙ append_assoc before prefix (added ∷ [])
          ∙ ap (λ (xs : List Stored). before ++ xs) (ap (λ n. prefix ++ record { clause = item; id = Axiom n } ∷ []) number ∙ sym (stored_more clauses i c.args.count item more long));
      vars = c.add.ensures.vars ∙ c.loop-clause.invariant.vars;
      deduced = Deduces-join (clauses_of after.stored) 0 c.args.propagator.now.entries mid.entries after.entries
          (subst (λ (cs : List (List ℕ)). Deduces cs 0 c.args.propagator.now.entries mid.entries) (sym all) (Deduces-append (clauses_of mid.stored) (item ∷ []) 0 c.args.propagator.now.entries mid.entries c.loop-clause.invariant.deduced))
          (subst (λ (n : ℕ). Deduces (clauses_of after.stored) n mid.entries after.entries) level c.in_ok-add.ensures.deduced);
    }

pub add-requires-clause-settled : goal.add-requires-clause-settled
add-requires-clause-settled c k below =
    absurd (let level : current_level c.loop-clause.propagator.entries ≡ 0 = current_level-deduced (clauses_of c.loop-clause.propagator.stored) 0 c.args.propagator.now.entries c.loop-clause.propagator.entries c.loop-clause.invariant.deduced c.requires.root in omega arith)

pub add-requires-clause-open : goal.add-requires-clause-open
add-requires-clause-open c above =
    absurd (let level : current_level c.loop-clause.propagator.entries ≡ 0 = current_level-deduced (clauses_of c.loop-clause.propagator.stored) 0 c.args.propagator.now.entries c.loop-clause.propagator.entries c.loop-clause.invariant.deduced c.requires.root in omega arith)
