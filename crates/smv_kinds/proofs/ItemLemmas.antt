-- Where no rule is broken, the expressions of each item keep the rules, and so do those of each
-- name of an instance.
use Rattle.std.proofs.Common.{◌≡◌, ℕ, suc, ◌⊎◌, inl, inr, Bool, true, false, cond, List, [], ◌∷◌, Some, None, refl, sym, ap, ◌∙◌, subst}
use Rattle.std.proofs.lemmas.Bool.{and_parts}
use Rattle.std.specs.List.{flat_map, list_all}
use Rattle.smv_ast.specs.declared.syntax.Expr.{Expr}
use Rattle.smv_ast.specs.declared.program.Declared.TheVariants.{Plain, Instance as Submodule}
use Rattle.smv_ast.specs.declared.program.Program.{Program}
use Rattle.smv_ast.specs.declared.fault.Fault.{Fault}
use Rattle.smv_meaning.specs.Value.{Name}
use Rattle.smv_meaning.specs.Instances.{Entity, Variable, Inner, Defined, Formal, Entry, Instance, formals_from, item_entries, entries, module_at, entity_at, instances}
use Rattle.smv_meaning.specs.Items.{Item, Declares, Assigns, Defines, Constrains, at_of, declared_exprs}
use Rattle.smv_meaning.specs.ItemIndex.{items_at}
use Rattle.smv_meaning.specs.Runs.{or_else}
use Rattle.smv_meaning.proofs.ItemLemmas.{item_of_entry}
use Rattle.smv_meaning.proofs.MemberLemmas.{In, in_either, declares}
use Rattle.smv_kinds.specs.declared.pass.Pass.{Pass}
use Rattle.smv_kinds.specs.declared.pass.Pass.TheVariants as pass
use Rattle.smv_kinds.specs.SortsOfNames.{facts_in, sorting_in, is_instance}
use Rattle.smv_kinds.specs.ItemRules.{fault_of, actual_keeps}
use Rattle.smv_kinds.specs.Rules.{keeps_in, item_fault, instance_fault, pass_fault, kinds_fault}
use Rattle.smv_kinds.specs.Soundness.{IsKept, shape_of, is_shaped, AreShaped}
use Rattle.smv_meaning.proofs.FirstFault.{first_none, neither_found}
use Rattle.smv_kinds.proofs.PartLemmas.{either_true}
use Rattle.smv_kinds.proofs.InnerLemmas.{Kept}

not_broken : (b : Bool) (f : Fault) → cond b None (Some f) ≡ None → b ≡ true
not_broken true f e = refl
not_broken false f e = cc

all_true : {A : Type 0} (f : A → Bool) (xs : List A) (x : A) → list_all f xs ≡ true → In x xs → f x ≡ true
all_true f [] x h i = absurd i
all_true f (y ∷ ys) x h (inl e) = ap f (sym e) ∙ (and_parts (f y) (list_all f ys) h).0
all_true f (y ∷ ys) x h (inr i) = all_true f ys x (and_parts (f y) (list_all f ys) h).1 i

module _ (program : Program) where
  -- an expression that keeps the rules in an instance, with no choice but after `in`
  pub record PlainKept (instance : Instance) (e : Expr) : Type 0 where
    pub kept : IsKept (facts_in program instance e)
    pub plain : (shape_of e).plain ≡ true

  -- an actual denotes an instance, or keeps the rules
  abbrev pub ActualKept : Instance → Expr → Type 0
  ActualKept instance e = (is_instance program instance e ≡ true) ⊎ PlainKept instance e

  -- the expressions of an item keep the rules
  abbrev pub ItemKept : Instance → Item → Type 0
  ItemKept instance (Declares name what at) = (e : Expr) → In e (declared_exprs what) → ActualKept instance e
  ItemKept instance (Assigns left name right at) = Kept (sorting_in program instance) right
  ItemKept instance (Defines name right at) = PlainKept instance right
  ItemKept instance (Constrains r e at) = PlainKept instance e × ((facts_in program instance e).fits ≡ true)

  -- the expressions of an entity keep the rules
  abbrev pub EntityKept : Instance → Entity → Type 0
  EntityKept instance (Variable t) = Unit {0}
  EntityKept instance (Inner called actuals) = (e : Expr) → In e actuals → ActualKept instance e
  EntityKept instance (Defined right) = PlainKept instance right
  EntityKept instance (Formal k) = Unit {0}

  -- ---- one item

  actual_kept : (instance : Instance) (actuals : List Expr) (e : Expr) → In e actuals → ((p : Pass) → list_all (λ x. actual_keeps p (is_instance program instance x) (facts_in program instance x)) actuals ≡ true) → list_all (λ x. (shape_of x).plain) actuals ≡ true → ActualKept instance e
  actual_kept instance actuals e i keeps plain =
      let each : (p : Pass) → actual_keeps p (is_instance program instance e) (facts_in program instance e) ≡ true = λ p. all_true (λ x. actual_keeps p (is_instance program instance x) (facts_in program instance x)) actuals e (keeps p) i in
      elim (either_true (is_instance program instance e) (facts_in program instance e).kinds (each pass.Kinds)) [
        | inl f ↦ inl f
        | inr f ↦ inr (record { kept = record { kinds = f; small = each pass.Magnitudes; mods = each pass.Mods }; plain = all_true (λ x. (shape_of x).plain) actuals e plain i })
      ]

  item_kept : (instance : Instance) (item : Item) → ((p : Pass) → keeps_in program p instance item ≡ true) → is_shaped item ≡ true → ItemKept instance item
  item_kept instance (Declares name (Plain t) at) keeps shape = λ e i. absurd i
  item_kept instance (Declares name (Submodule called actuals) at) keeps shape = λ e i. actual_kept instance actuals e i keeps shape
  item_kept instance (Assigns left name right at) keeps shape = record {
    kept = record { kinds = (and_parts _ _ (keeps pass.Kinds)).0; small = (and_parts _ _ (keeps pass.Magnitudes)).0; mods = (and_parts _ _ (keeps pass.Mods)).0 };
    free = shape;
  }
  item_kept instance (Defines name right at) keeps shape = record { kept = record { kinds = keeps pass.Kinds; small = keeps pass.Magnitudes; mods = keeps pass.Mods }; plain = (and_parts _ _ shape).0 }
  item_kept instance (Constrains r e at) keeps shape =
      let k = and_parts (facts_in program instance e).kinds (facts_in program instance e).fits (keeps pass.Kinds) in (
        record {
          kept = record { kinds = k.0; small = (and_parts _ _ (keeps pass.Magnitudes)).0; mods = (and_parts _ _ (keeps pass.Mods)).0 };
          plain = (and_parts _ _ shape).0;
        },
        k.1,
      )

  entry_kept : (instance : Instance) (item : Item) (e : Entry) → ItemKept instance item → In e (item_entries item) → EntityKept instance e.entity
  entry_kept instance (Declares name (Plain t) at) e k (inl same) = subst (λ (x : Entry). EntityKept instance x.entity) same tt
  entry_kept instance (Declares name (Plain t) at) e k (inr i) = absurd i
  entry_kept instance (Declares name (Submodule called actuals) at) e k (inl same) = subst (λ (x : Entry). EntityKept instance x.entity) same k
  entry_kept instance (Declares name (Submodule called actuals) at) e k (inr i) = absurd i
  entry_kept instance (Assigns left name right at) e k i = absurd i
  entry_kept instance (Defines name right at) e k (inl same) = subst (λ (x : Entry). EntityKept instance x.entity) same k
  entry_kept instance (Defines name right at) e k (inr i) = absurd i
  entry_kept instance (Constrains r x at) e k i = absurd i

  formal_kept : (instance : Instance) (k : ℕ) (names : List Name) (e : Entry) → In e (formals_from k names) → EntityKept instance e.entity
  formal_kept instance k [] e i = absurd i
  formal_kept instance k (name ∷ names) e (inl same) = subst (λ (x : Entry). EntityKept instance x.entity) same tt
  formal_kept instance k (name ∷ names) e (inr i) = formal_kept instance (suc k) names e i

  -- ---- all items

  module _ (none : kinds_fault program ≡ None) (shaped : AreShaped program) where
    later : or_else (pass_fault program pass.Magnitudes) (pass_fault program pass.Mods) ≡ None
    later = (neither_found (pass_fault program pass.Kinds) (or_else (pass_fault program pass.Magnitudes) (pass_fault program pass.Mods)) none).1

    pass_none : (p : Pass) → pass_fault program p ≡ None
    pass_none pass.Kinds = (neither_found (pass_fault program pass.Kinds) (or_else (pass_fault program pass.Magnitudes) (pass_fault program pass.Mods)) none).0
    pass_none pass.Magnitudes = (neither_found (pass_fault program pass.Magnitudes) (pass_fault program pass.Mods) later).0
    pass_none pass.Mods = (neither_found (pass_fault program pass.Magnitudes) (pass_fault program pass.Mods) later).1

    -- each item of each instance keeps the rules
    pub item_keeps : (instance : Instance) (item : Item) → In instance (instances program) → In item (items_at program instance) → ItemKept instance item
    item_keeps instance item i j = item_kept instance item
        (λ p. not_broken _ (fault_of p (at_of item)) (first_none (item_fault program p instance) (items_at program instance) item (first_none (instance_fault program p) (instances program) instance (pass_none p) i) j))
        (all_true is_shaped (items_at program instance) item (all_true (λ x. list_all is_shaped (items_at program x)) (instances program) instance shaped i) j)

    -- the entity of each name of an instance keeps the rules
    pub entity_keeps : (instance : Instance) (name : Name) (m : Entity) → In instance (instances program) → entity_at program instance name ≡ Some m → EntityKept instance m
    entity_keeps instance name m i e =
        let owner = module_at program instance in
        let d = declares (entries owner) name m e in
        let among : In d.entry (entries owner) = d.among in
        subst (EntityKept instance) d.means (elim (in_either (formals_from 0 owner.formals) (flat_map item_entries (items_at program instance)) d.entry among) [
          | inl j ↦ formal_kept instance 0 owner.formals d.entry j
          | inr j ↦ let r = item_of_entry owner d.entry j in entry_kept instance r.0 d.entry (item_keeps instance r.0 i r.1) r.2
        ])
