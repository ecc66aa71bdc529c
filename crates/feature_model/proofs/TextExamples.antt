-- Faults of names, and feature models, of small texts.
use Rattle.std.proofs.Common.{◌≡◌, ℕ, List, [], ◌∷◌, Option, Some, None, refl}
use Rattle.std.specs.Prelude.{codes}
use Rattle.smv_ast.specs.declared.syntax.Span.{Span}
use Rattle.smv_ast.specs.declared.syntax.Expr.TheVariants as e
use Rattle.smv_ast.specs.declared.model.GroupKind.TheVariants as kind
use Rattle.smv_ast.specs.declared.model.ModelLine.TheVariants as line
use Rattle.smv_ast.specs.declared.fault.Fault.TheVariants as fault
use Rattle.feature_model.specs.NameFaults.{text_fault}
use Rattle.feature_model.specs.ModelOfText.{model_of}
use Rattle.feature_model.specs.declared.text.FeatureName.{FeatureName}
use Rattle.feature_model.specs.declared.text.TextLine.{TextLine}
use Rattle.feature_model.specs.declared.text.TextLine.TheVariants.{Group, Constraint}
use Rattle.feature_model.specs.declared.text.ModelText.{ModelText}

-- a name at an offset
abbrev named : List ℕ → ℕ → FeatureName
named name at = record { name = name; at = record { file = 1; at = at } }

abbrev at_offset : ℕ → Option Span
at_offset at = Some (record { file = 1; at = at })

abbrev text : List ℕ → List TextLine → ModelText
text root lines = record { root = named root 1; lines = lines }

-- children are numbered from the first number that is free, and a parent is found among the earlier ones
numbers : model_of (text (codes "B") (Group kind.Or (named (codes "B") 2) (named (codes "C") 3 ∷ named (codes "D") 4 ∷ []) ∷ Constraint e.True ∷ Group kind.Optional (named (codes "D") 5) (named (codes "E") 6 ∷ []) ∷ []))
    ≡ record {
      names = codes "B" ∷ codes "C" ∷ codes "D" ∷ codes "E" ∷ [];
      lines = line.Group kind.Or 0 (1 ∷ 2 ∷ []) ∷ line.Constraint e.True ∷ line.Group kind.Optional 2 (3 ∷ []) ∷ [];
    }
numbers = refl

-- the root alone is a text without fault
root_alone : text_fault (text (codes "B") []) ≡ None
root_alone = refl

-- `fsmv_` itself is reserved, `fsmv` is not
reserved : text_fault (text (codes "fsmv_") []) ≡ Some (fault.ReservedName (at_offset 1) (codes "fsmv_"))
reserved = refl

not_reserved : text_fault (text (codes "fsmv") []) ≡ None
not_reserved = refl

-- a child that is its own parent is used before it is declared
own_parent : text_fault (text (codes "B") (Group kind.Or (named (codes "C") 2) (named (codes "C") 3 ∷ []) ∷ [])) ≡ Some (fault.UnknownFeature (at_offset 2) (codes "C"))
own_parent = refl

-- the second of two children of one name
twice : text_fault (text (codes "B") (Group kind.Or (named (codes "B") 2) (named (codes "C") 3 ∷ named (codes "C") 4 ∷ []) ∷ [])) ≡ Some (fault.DuplicateFeature (at_offset 4) (codes "C"))
twice = refl

-- a child of the name of the root
root_again : text_fault (text (codes "B") (Group kind.Or (named (codes "B") 2) (named (codes "B") 3 ∷ []) ∷ [])) ≡ Some (fault.DuplicateFeature (at_offset 3) (codes "B"))
root_again = refl

-- the first fault in the order of the text, and not that of another sort
in_order : text_fault (text (codes "B") (Group kind.Or (named (codes "X") 2) (named (codes "fsmv_") 3 ∷ []) ∷ [])) ≡ Some (fault.UnknownFeature (at_offset 2) (codes "X"))
in_order = refl
