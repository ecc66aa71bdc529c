-- The reader of lists of names: its rule, that no limit stops it, and that it decides by the tokens that it has read. And
-- the same of single words and names, and of lists, for the readers of other texts.
use Rattle.std.proofs.Common.{◌≡◌, ℕ, Bool, true, ◌&&◌, List, [], ◌∷◌, ◌++◌, refl, ◌∙◌, ap}
use Rattle.std.specs.List.{list_all}
use Rattle.smv_expr.specs.declared.kind.Kind.{Kind}
use Rattle.smv_expr.specs.declared.kind.Kind.TheVariants as k
use Rattle.smv_expr.specs.Lexicon.{same_kind}
use Rattle.smv_expr.specs.Language.{of_kind, span_of, name_of}
use Rattle.smv_expr.specs.Reading.{Reader, read_many, read_name, read_word}
use Rattle.smv_expr.specs.Names.{next_name, names_of, names, read_next_name, read_more_names, read_names}
use Rattle.smv_expr.proofs.Rules.{Rule, Starts}
use Rattle.smv_expr.proofs.Words.{always, starts_word, starts_name, starts_dep, starts_mapped, leaves_all, tok_name, seq, after, map, collect}
use Rattle.smv_expr.proofs.Rounds.{Consumes, consumes}
use Rattle.smv_expr.proofs.Limited.{Obeys, always_fits, all_pass, leaf_obeys, mapped_obeys, many_obeys, retested, and_true, and_and}
use Rattle.smv_expr.proofs.ExprLimited.{word_then, both_then}
use Rattle.smv_expr.proofs.ExprLocal.{name_local, word_then_local}
use Rattle.smv_expr.proofs.Local.{Local, mapped_local, both_local, many_local}

-- ---- the rule

abbrev pub follow_names : List Kind
follow_names = k.Comma ∷ []

pub starts_next_name : Starts (k.Comma ∷ []) (λ m. next_name)
unfolding same_kind
starts_next_name = starts_mapped _ (starts_dep _ (starts_word k.Comma _ refl))

next_name_rule : {limit : ℕ} → Rule limit (λ m. next_name) (always []) read_next_name
unfolding read_next_name
next_name_rule = map _ (after k.Comma tok_name)

pub names_rule : {limit : ℕ} → Rule limit (λ m. names) (always follow_names) read_names
unfolding read_names read_more_names same_kind
names_rule = map _ (seq tok_name (collect (k.Comma ∷ []) follow_names next_name_rule starts_next_name refl refl refl) (leaves_all _ (always follow_names)))

pub starts_names : Starts (k.Name ∷ []) (λ m. names)
unfolding same_kind
starts_names = starts_mapped _ (starts_dep _ (starts_name _ refl))

-- ---- within limits

pub name_obeys : {any : Bool} → Obeys any always_fits read_name read_name
name_obeys = leaf_obeys (of_kind k.Name name_of)

pub word_obeys : {any : Bool} (kind : Kind) → Obeys any always_fits (read_word kind) (read_word kind)
word_obeys kind = leaf_obeys (of_kind kind span_of)

list_all_passes : {A : Type 0} (test : A → Bool) (items : List A) → list_all test items ≡ all_pass test items
list_all_passes test [] = refl
list_all_passes test (a ∷ items) = ap (λ v. test a && v) (list_all_passes test items)

pub all_pushed : {A : Type 0} (test : A → Bool) (items : List A) (a : A) → list_all test (items ++ a ∷ []) ≡ (list_all test items && test a)
all_pushed test [] a = and_true (test a)
all_pushed test (x ∷ items) a = ap (λ v. test x && v) (all_pushed test items a) ∙ and_and (test x) (list_all test items) (test a)

each_fits : {A : Type 0} (items : List A) → true ≡ all_pass always_fits items
each_fits [] = refl
each_fits (a ∷ items) = each_fits items

pub list_obeys : {A : Type 0} {any : Bool} {test : A → Bool} {p' p : Reader A} (set : List Kind) → Obeys any test p' p → Obeys any (list_all test) (read_many set p') (read_many set p)
list_obeys {test = test} set o = retested (all_pass test) (list_all test) (list_all_passes test) (many_obeys set o)

-- a list on which there are no limits
pub free_list : {A : Type 0} {any : Bool} {p' p : Reader A} (set : List Kind) → Obeys any always_fits p' p → Obeys any always_fits (read_many set p') (read_many set p)
free_list set o = retested (all_pass always_fits) always_fits each_fits (many_obeys set o)

next_name_obeys : {any : Bool} → Obeys any always_fits read_next_name read_next_name
unfolding read_next_name
next_name_obeys = mapped_obeys _ _ always_fits (λ v. refl) (word_then k.Comma name_obeys)

pub names_obeys : {any : Bool} → Obeys any always_fits read_names read_names
unfolding read_names read_more_names
names_obeys = mapped_obeys names_of _ always_fits (λ v. refl) (both_then name_obeys (free_list (k.Comma ∷ []) next_name_obeys))

-- ---- by the tokens that it has read

pub next_name_consumes : Consumes read_next_name
next_name_consumes = consumes (next_name_rule {limit = 0}) starts_next_name

pub names_local : Local read_names
unfolding read_names read_more_names read_next_name
names_local = mapped_local _ (both_local name_local (many_local (k.Comma ∷ []) next_name_consumes (mapped_local _ (word_then_local k.Comma name_local))))
