-- What has been made keeps its values.
use Rattle.std.proofs.Common.{◌≡◌, ℕ, zero, suc, ◌<◌, ◌≤◌, Bool, true, false, List, [], ◌∷◌, ◌++◌, length, ℤ, pos, Option, Some, refl, sym, ap, ◌∙◌, subst, arith, append_assoc, length-append, ◌⊎◌, inl, inr}
use Rattle.std.specs.Prelude.{slice_set}
use Rattle.std.proofs.lemmas.List.{get_or_push, append-nil}
use Rattle.smv_meaning.specs.declared.value.Value.{Value}
use Rattle.fixpoint.specs.Fixpoints.{entry}
use Rattle.smv_meaning.specs.Denotations.{Environment}
use Rattle.smv_meaning.specs.Values.{Valuation}
use Rattle.flat_model.specs.declared.nodes.FlatNode.{FlatNode}
use Rattle.smv_flatten.specs.declared.store.SharedNodes.{SharedNodes}
use Rattle.smv_flatten.specs.declared.store.Store.{Store}
use Rattle.smv_flatten.specs.declared.names.NameTables.{NameTables}
use Rattle.flat_model.specs.Evaluation.{node_value, value_at}
use Rattle.flat_model.proofs.Attributes.{attributes-push}
use Rattle.flat_model.proofs.NodeLists.{length-eval, eval-append}
use Rattle.smv_flatten.specs.Making.{Made, pushed, shared_node, with_shared, shared}
use Rattle.smv_flatten.specs.Meaning.{node_values, code, Has, Extends, IsGood, Makes, slot_value}

-- the values of earlier nodes stay
pub eval-kept : (numbers : Bool → ℕ → ℤ) (nodes more : List FlatNode) (k : ℕ) → k < length nodes → value_at (node_values numbers (nodes ++ more)) k ≡ value_at (node_values numbers nodes) k
eval-kept numbers nodes more k h = eval-append (numbers false) (numbers true) nodes more k h

-- and the last is that of its node over them
pub eval-pushed : (numbers : Bool → ℕ → ℤ) (nodes : List FlatNode) (n : FlatNode) → value_at (node_values numbers (nodes ++ n ∷ [])) (length nodes) ≡ node_value (numbers false) (numbers true) (node_values numbers nodes) n
eval-pushed numbers nodes n =
    ap (λ (vs : List ℤ). value_at vs (length nodes)) (attributes-push (node_value (numbers false) (numbers true)) nodes n)
    ∙ get_or_push (node_values numbers nodes) (node_value (numbers false) (numbers true) (node_values numbers nodes) n) (pos 0) (length nodes) (length-eval (numbers false) (numbers true) nodes)

entry_set : (table : List (Option ℕ)) (k j : ℕ) (o : Option ℕ) → ((j ≡ k) × (entry (slice_set table k o) j ≡ o)) ⊎ (entry (slice_set table k o) j ≡ entry table j)
entry_set [] k j o = inr refl
entry_set (x ∷ xs) zero zero o = inl (refl, refl)
entry_set (x ∷ xs) zero (suc j) o = inr refl
entry_set (x ∷ xs) (suc k) zero o = inr refl
entry_set (x ∷ xs) (suc k) (suc j) o = elim (entry_set xs k j o) [ inl g ↦ inl (ap suc g.0, g.1) | inr g ↦ inr g ]

-- the node of a slot, where another slot, or this one, has got one
pub node_set : (nodes : SharedNodes) (after_step other : Bool) (k j n : ℕ) → ((other ≡ after_step) × (j ≡ k) × (shared_node (with_shared nodes after_step k n) other j ≡ Some n)) ⊎ (shared_node (with_shared nodes after_step k n) other j ≡ shared_node nodes other j)
node_set nodes true true k j n = elim (entry_set nodes.next k j (Some n)) [ inl g ↦ inl (refl, g.0, g.1) | inr g ↦ inr g ]
node_set nodes true false k j n = inr refl
node_set nodes false true k j n = inr refl
node_set nodes false false k j n = elim (entry_set nodes.current k j (Some n)) [ inl g ↦ inl (refl, g.0, g.1) | inr g ↦ inr g ]

module _ (names : NameTables) (symbols : Environment) (states : Bool → Valuation ℕ) (numbers : Bool → ℕ → ℤ) where
  abbrev pub HasIn : Store → ℕ → Option Value → Type 0
  HasIn = Has names symbols states numbers

  abbrev pub ExtendsIn : Store → Store → Type 0
  ExtendsIn = Extends names symbols states numbers

  abbrev pub MakesIn : Store → Made → Option Value → Type 0
  MakesIn = Makes names symbols states numbers

  abbrev pub Good : Store → Type 0
  Good = IsGood names symbols states numbers

  extends-length : (old new : Store) → ExtendsIn old new → length old.nodes ≤ length new.nodes
  extends-length old new g = omega (arith, ap length g.is, length-append old.nodes g.more)

  pub extends-refl : (st : Store) → ExtendsIn st st
  extends-refl st = record { more = []; is = sym (append-nil st.nodes) }

  pub extends-trans : (a b c : Store) → ExtendsIn a b → ExtendsIn b c → ExtendsIn a c
  extends-trans a b c g h = record { more = g.more ++ h.more; is = h.is ∙ (ap (λ (x : List FlatNode). x ++ h.more) g.is ∙ append_assoc a.nodes g.more h.more) }

  pub has-extended : (old new : Store) (k : ℕ) (o : Option Value) → ExtendsIn old new → HasIn old k o → HasIn new k o
  has-extended old new k o g h = record {
    made = omega (arith, extends-length old new g, h.made);
    is = λ v e. ap (λ (ns : List FlatNode). value_at (node_values numbers ns) k) g.is ∙ (eval-kept numbers old.nodes g.more k h.made ∙ h.is v e);
  }

  -- one more node
  pub pushed_right : (st : Store) (n : FlatNode) (o : Option Value) → Good st → ((v : Value) → o ≡ Some v → node_value (numbers false) (numbers true) (node_values numbers st.nodes) n ≡ code names.symbols.now v) → MakesIn st (pushed n st) o
  pushed_right st n o good h =
      let g : ExtendsIn st (pushed n st).0 = record { more = n ∷ []; is = refl } in
      record {
        extends = g;
        good = λ after_step k j f. has-extended st (pushed n st).0 j (slot_value names symbols states after_step k) g (good after_step k j f);
        has = record { made = omega (arith, length-append st.nodes (n ∷ [])); is = λ v e. eval-pushed numbers st.nodes n ∙ h v e };
      }

  -- what is made behind what was made
  pub behind_right : (st : Store) (m n : Made) (o q : Option Value) → MakesIn st m o → MakesIn m.0 n q → MakesIn st n q
  behind_right st m n o q a b = record { extends = extends-trans st m.0 n.0 a.extends b.extends; good = b.good; has = b.has }

  -- a slot gets a node of its value
  pub shared_right : (st : Store) (after_step : Bool) (k : ℕ) (m : Made) → MakesIn st m (slot_value names symbols states after_step k) → MakesIn st (shared after_step k m) (slot_value names symbols states after_step k)
  shared_right st after_step k m a = record {
    extends = record { more = a.extends.more; is = a.extends.is };
    good = λ other j n f. here other j n f (node_set m.0.shared after_step other k j m.1);
    has = held m.1 (slot_value names symbols states after_step k) a.has;
  }
    where
      held : (n : ℕ) (o : Option Value) → HasIn m.0 n o → HasIn (shared after_step k m).0 n o
      held n o h = record { made = h.made; is = h.is }

      here : (other : Bool) (j n : ℕ) → shared_node (with_shared m.0.shared after_step k m.1) other j ≡ Some n → ((other ≡ after_step) × (j ≡ k) × (shared_node (with_shared m.0.shared after_step k m.1) other j ≡ Some m.1)) ⊎ (shared_node (with_shared m.0.shared after_step k m.1) other j ≡ shared_node m.0.shared other j)
          → HasIn (shared after_step k m).0 n (slot_value names symbols states other j)
      here other j n f (inl g) =
          let same : Some m.1 ≡ Some n = sym g.2 ∙ f in
          let is : m.1 ≡ n = cc in
          let same_value : slot_value names symbols states after_step k ≡ slot_value names symbols states other j = rw (g.0, g.1) refl in
          held n (slot_value names symbols states other j) (subst (λ (x : ℕ). HasIn m.0 x (slot_value names symbols states other j)) is (subst (HasIn m.0 m.1) same_value a.has))
      here other j n f (inr g) = held n (slot_value names symbols states other j) (a.good other j n (sym g ∙ f))

  -- what is right of more is right of less
  pub weaken_right : (st : Store) (m : Made) (o q : Option Value) → ((v : Value) → q ≡ Some v → o ≡ Some v) → MakesIn st m o → MakesIn st m q
  weaken_right st m o q h a = record { extends = a.extends; good = a.good; has = record { made = a.has.made; is = λ v e. a.has.is v (h v e) } }
