-- Which watch of a clause moves.
use Rattle.std.proofs.Common.{◌≡◌, ◌==◌, ◌&&◌, ◌<◌, ◌+◌, ◌*◌, ◌/◌, ℕ, Bool, true, false, not, cond, List, [], length, get_or, set, arith, inl, inr, sym, ◌∙◌, ap, subst, refl}
use Rattle.std.specs.Prelude.{Contains, nat_lt}
use Rattle.std.specs.List.{list_any, Any}
use Rattle.std.proofs.lemmas.Bool.{and_parts, not-true, eqb-true, eqb-false, eq-eqb, ne_eqb, ltb-true, cases_Bool}
use Rattle.std.proofs.lemmas.List.Folds.{Any-from_list_any}
use Rattle.sat_lits.specs.Literals.{negation}
use Rattle.sat_arena.specs.Stored.{Stored}
use Rattle.sat_arena.specs.ArenaState.{clauses_of}
use Rattle.sat_arena.specs.Watches.{watch_of, may_watch, watches_after, MovesWatch}

-- what it means that a clause may watch a literal
record MayMove (clause : List ℕ) (one two to : ℕ) : Type 0 where
  longer : 1 < length clause
  holds : Contains clause to
  not_one : one ≡ to → ⊥
  not_two : two ≡ to → ⊥

may_move : (clause : List ℕ) (one two to : ℕ) → may_watch clause one two to ≡ true → MayMove clause one two to
may_move clause one two to may =
    let outer = and_parts (nat_lt 1 (length clause) && list_any (λ l. l == to) clause && not (one == to)) (not (two == to)) may in
    let mid = and_parts (nat_lt 1 (length clause) && list_any (λ l. l == to) clause) (not (one == to)) outer.0 in
    let inner = and_parts (nat_lt 1 (length clause)) (list_any (λ l. l == to) clause) mid.0 in
    let some : Any (λ (x : ℕ). (x == to) ≡ true) clause = Any-from_list_any (λ (x : ℕ). x == to) clause inner.1 in
    record {
      longer = ltb-true 1 (length clause) inner.0;
      holds = subst (λ (n : ℕ). Contains clause n) (eqb-true some.1 to some.4) (some.0, some.2, some.3);
      not_one = eqb-false one to (not-true (one == to) mid.1);
      not_two = eqb-false two to (not-true (two == to) outer.1);
    }

module _ (clause watched : List ℕ) (at from to : ℕ) where
  abbrev one : ℕ
  one = watch_of watched (2 * at)

  abbrev two : ℕ
  two = watch_of watched (2 * at + 1)

  abbrev then_first : Bool → Bool → Bool → List ℕ
  then_first may first second = cond may (cond first (set watched (2 * at) to) (cond second (set watched (2 * at + 1) to) watched)) watched

  pub watches_stay : may_watch clause one two to ≡ false → watches_after clause watched at from to ≡ watched
  watches_stay may = ap (λ b. then_first b (one == from) (two == from)) may

  pub watches_stay_too : (one ≡ from → ⊥) → (two ≡ from → ⊥) → watches_after clause watched at from to ≡ watched
  watches_stay_too ne ne' =
      ap (λ b. then_first (may_watch clause one two to) b (two == from)) (ne_eqb one from ne)
      ∙ ap (λ b. then_first (may_watch clause one two to) false b) (ne_eqb two from ne')
      ∙ same (may_watch clause one two to)
    where
      same : (b : Bool) → then_first b false false ≡ watched
      same true = refl
      same false = refl

  first_moves : may_watch clause one two to ≡ true → one ≡ from → watches_after clause watched at from to ≡ set watched (2 * at) to
  first_moves may e = ap (λ b. then_first b (one == from) (two == from)) may ∙ ap (λ b. then_first true b (two == from)) (eq-eqb one from e)

  second_moves : may_watch clause one two to ≡ true → (one ≡ from → ⊥) → two ≡ from → watches_after clause watched at from to ≡ set watched (2 * at + 1) to
  second_moves may ne e = ap (λ b. then_first b (one == from) (two == from)) may ∙ ap (λ b. then_first true b (two == from)) (ne_eqb one from ne) ∙ ap (λ b. then_first true false b) (eq-eqb two from e)

pub MovesWatch-first : (stored : List Stored) (watched : List ℕ) (at from to : ℕ) → 2 * at < length watched → may_watch (get_or (clauses_of stored) at []) (watch_of watched (2 * at)) (watch_of watched (2 * at + 1)) to ≡ true → watch_of watched (2 * at) ≡ from → MovesWatch stored watched at from to (2 * at)
MovesWatch-first stored watched at from to within may first =
    let parts = may_move (get_or (clauses_of stored) at []) (watch_of watched (2 * at)) (watch_of watched (2 * at + 1)) to may in
    let other : negation (2 * at) ≡ 2 * at + 1 = omega arith in
    record {
      within = within;
      grown = parts.holds;
      moved = first_moves (get_or (clauses_of stored) at []) watched at from to may first;
      two = parts.longer;
      of_clause = omega arith;
      apart = λ same. parts.not_two (sym (same ∙ ap (λ k. watch_of watched k) other));
    }

pub MovesWatch-second : (stored : List Stored) (watched : List ℕ) (at from to : ℕ) → 2 * at + 1 < length watched → may_watch (get_or (clauses_of stored) at []) (watch_of watched (2 * at)) (watch_of watched (2 * at + 1)) to ≡ true → (watch_of watched (2 * at) ≡ from → ⊥) → watch_of watched (2 * at + 1) ≡ from → MovesWatch stored watched at from to (2 * at + 1)
MovesWatch-second stored watched at from to within may ne second =
    let parts = may_move (get_or (clauses_of stored) at []) (watch_of watched (2 * at)) (watch_of watched (2 * at + 1)) to may in
    let other : negation (2 * at + 1) ≡ 2 * at = omega arith in
    record {
      within = within;
      grown = parts.holds;
      moved = second_moves (get_or (clauses_of stored) at []) watched at from to may ne second;
      two = parts.longer;
      of_clause = omega arith;
      apart = λ same. parts.not_one (sym (same ∙ ap (λ k. watch_of watched k) other));
    }
