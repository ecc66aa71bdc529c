-- The code makes the nodes of the run.
use Rattle.std.proofs.Common.{◌≡◌, ℕ, zero, suc, ◌+◌, ◌-◌, ◌<◌, ◌||◌, Bool, true, false, List, [], ◌∷◌, ◌++◌, length, take, drop, get_or, refl, sym, ap, ◌∙◌, arith}
use Rattle.std.proofs.lemmas.List.{take_more}
use Rattle.smv_ast.specs.declared.syntax.Expr.{Expr, out-Expr}
use Rattle.smv_ast.specs.declared.syntax.Branch.{Branch, out-Branch}
use Rattle.flat_model.specs.declared.nodes.FlatNode.TheVariants as node
use Rattle.smv_flatten.specs.declared.store.Store.{Store}
use Rattle.smv_flatten.specs.declared.names.NameTables.{NameTables}
use Rattle.smv_flatten.specs.Making.{Made, Maker, pushed, chosen, cases_made, layer_made, value_made, is_free, right_layer, right_made}

-- one layer of an expression
pub value_unrolled : (names : NameTables) (depth row : ℕ) (after_step : Bool) (e : Expr) (st : Store) → (depth ≡ 0 → ⊥) → layer_made names (value_made names (depth - 1)) row after_step (out-Expr e) st ≡ value_made names depth row after_step e st
value_unrolled names zero row after_step e st h = absurd (h refl)
value_unrolled names (suc depth) row after_step e st h = let i : suc depth - 1 ≡ depth = omega arith in ap (λ (n : ℕ). layer_made names (value_made names n) row after_step (out-Expr e) st) i

-- one layer of a right side
pub right_unrolled : (names : NameTables) (depth x row : ℕ) (after_step : Bool) (e : Expr) (st : Store) → (depth ≡ 0 → ⊥) →
    right_layer (value_made names depth) (value_made names (depth - 1)) (right_made names (depth - 1) x) x row after_step e (is_free e) (out-Expr e) st ≡ right_made names depth x row after_step e st
right_unrolled names zero x row after_step e st h = absurd (h refl)
right_unrolled names (suc depth) x row after_step e st h =
    let i : suc depth - 1 ≡ depth = omega arith in ap (λ (n : ℕ). right_layer (value_made names (suc depth)) (value_made names n) (right_made names n x) x row after_step e (is_free e) (out-Expr e) st) i

-- one more Choose
pub chosen_push : (pairs : List (ℕ × ℕ)) (p : ℕ × ℕ) (m : Made) → chosen (pairs ++ p ∷ []) m ≡ chosen pairs (pushed (node.Choose p.0 p.1 m.1) m.0)
chosen_push [] p m = refl
chosen_push (q ∷ more) p m = ap (λ (r : Made). pushed (node.Choose q.0 q.1 r.1) r.0) (chosen_push more p m)

pub chosen_take : (pairs : List (ℕ × ℕ)) (left : ℕ) (d : ℕ × ℕ) (m : Made) → left < length pairs → chosen (take (left + 1) pairs) m ≡ chosen (take left pairs) (pushed (node.Choose (get_or pairs left d).0 (get_or pairs left d).1 m.1) m.0)
chosen_take pairs left d m h = ap (λ (xs : List (ℕ × ℕ)). chosen xs m) (take_more pairs left d h) ∙ chosen_push (take left pairs) (get_or pairs left d) m

module _ (make ends : Maker) (row : ℕ) (after_step : Bool) where
  -- a branch that is not the last
  next : (b : Branch) (more : List Branch) (st : Store) → 0 < length more →
      cases_made make ends row after_step (b ∷ more) st ≡ (let c = make row after_step (out-Branch b).cond st in let v = ends row after_step (out-Branch b).value c.0 in let r = cases_made make ends row after_step more v.0 in pushed (node.Choose c.1 v.1 r.1) r.0)
  next b [] st h = absurd (omega arith)
  next b (d ∷ more) st h = refl

  pub branch_made : (branches : List Branch) (i : ℕ) (b : Branch) (st : Store) (c v : Made) (pairs : List (ℕ × ℕ)) → i + 1 < length branches → b ≡ get_or branches i b → c ≡ make row after_step (out-Branch b).cond st → v ≡ ends row after_step (out-Branch b).value c.0
      → chosen (pairs ++ (c.1, v.1) ∷ []) (cases_made make ends row after_step (drop (i + 1) branches) v.0) ≡ chosen pairs (cases_made make ends row after_step (drop i branches) st)
  branch_made [] i b st c v pairs h e p q = absurd (omega arith)
  branch_made (x ∷ more) zero b st c v pairs h e p q =
      let r : Store → Made = λ s. cases_made make ends row after_step more s in
      chosen_push pairs (c.1, v.1) (r v.0)
      ∙ ap (chosen pairs)
      (ap (λ (w : Made). pushed (node.Choose c.1 w.1 (r w.0).1) (r w.0).0) q
      ∙ ap (λ (u : Made). let w = ends row after_step (out-Branch b).value u.0 in pushed (node.Choose u.1 w.1 (r w.0).1) (r w.0).0) p
      ∙ ap (λ (y : Branch). let u = make row after_step (out-Branch y).cond st in let w = ends row after_step (out-Branch y).value u.0 in pushed (node.Choose u.1 w.1 (r w.0).1) (r w.0).0) e
      ∙ sym (next x more st (omega arith)))
  branch_made (x ∷ more) (suc i) b st c v pairs h e p q = let n : suc i + 1 ≡ suc (i + 1) = omega arith in rw n (branch_made more i b st c v pairs (omega arith) e p q)

  pub last_made : (branches : List Branch) (i : ℕ) (b : Branch) (st : Store) → i + 1 ≡ length branches → b ≡ get_or branches i b → cases_made make ends row after_step (drop i branches) st ≡ ends row after_step (out-Branch b).value st
  last_made [] i b st h e = absurd (omega arith)
  last_made (x ∷ []) zero b st h e = ap (λ (y : Branch). ends row after_step (out-Branch y).value st) (sym e)
  last_made (x ∷ y ∷ more) zero b st h e = absurd (omega arith)
  last_made (x ∷ more) (suc i) b st h e = last_made more i b st (omega arith) e

pub or_assoc : (b c d : Bool) → (b || c) || d ≡ b || (c || d)
or_assoc true c d = refl
or_assoc false c d = refl

pub or_none : (b : Bool) → b || false ≡ b
or_none true = refl
or_none false = refl
