-- The definitions of a feature applied and of a product's text, evaluated on small examples.
use Rattle.std.proofs.Common.{◌≡◌, List, [], ◌∷◌, refl, codes, pos, ℕ, true, false, Option, Some, None, Ok, Err}
use Rattle.smv_ast.specs.IgnoringSpans.{no_span}
use Rattle.smv_ast.specs.declared.syntax.Span.{Span}
use Rattle.smv_ast.specs.declared.syntax.SmvType.{SmvType}
use Rattle.smv_ast.specs.declared.syntax.SmvType.TheVariants as type
use Rattle.smv_ast.specs.declared.program.Declared.{Declared}
use Rattle.smv_ast.specs.declared.program.Declared.TheVariants.{Plain, Instance}
use Rattle.smv_ast.specs.declared.program.Section.{Section}
use Rattle.smv_ast.specs.declared.program.Section.TheVariants as section
use Rattle.smv_ast.specs.declared.program.Program.{Program}
use Rattle.smv_ast.specs.declared.feature.Need.{Need}
use Rattle.smv_ast.specs.declared.feature.Joined.{Joined}
use Rattle.smv_ast.specs.declared.feature.Feature.{Feature}
use Rattle.smv_ast.specs.declared.feature.Family.{Family}
use Rattle.smv_ast.specs.declared.fault.Fault.TheVariants as fault
use Rattle.integrate.specs.Joined.{joined}
use Rattle.integrate.specs.Introductions.{clashes}
use Rattle.integrate.specs.EqualTypes.{equal_types}
use Rattle.integrate.specs.Applied.{applied_alone}
use Rattle.feature_model.specs.NamedProducts.{printed_product}
use Rattle.integrate.specs.ProductText.{text_of}

-- ---- a model: `MODULE main VAR x : {on, off};`, and `MODULE cell(f)` with these sections

abbrev span : ℕ → Span
span n = record { file = 0; at = n }

abbrev declare : List ℕ → Declared → ℕ → Section
declare name what n = section.Vars (record { name = name; what = what; at = span n } ∷ [])

abbrev switch : SmvType
switch = type.Symbols (codes "on" ∷ codes "off" ∷ [])

abbrev model : List Section → Program
model sections = record { modules = record { name = codes "main"; formals = []; sections = declare (codes "x") (Plain switch) 0 ∷ []; at = no_span } ∷ record { name = codes "cell"; formals = codes "f" ∷ []; sections = sections; at = no_span } ∷ [] }

abbrev part : List ℕ → List Section → Joined
part called sections = record { «module» = called; sections = sections; at = span 9 }

abbrev need : List ℕ → List ℕ → Option SmvType → Need
need called name wanted = record { «module» = called; name = name; wanted = wanted; at = span 8 }

abbrev feature : List ℕ → List Need → List Joined → Feature
feature name needs joins = record { name = name; needs = needs; joins = joins; changes = []; at = no_span }

-- a variable of a cell
abbrev truth : List ℕ → ℕ → Section
truth name n = declare name (Plain type.Boolean) n

-- ---- joined parts

-- each part at the end of its module, in written order; one of no module is left out
parts_in_order : joined (model (truth (codes "y") 0 ∷ [])) (part (codes "cell") (truth (codes "b") 1 ∷ []) ∷ part (codes "none") (truth (codes "c") 2 ∷ []) ∷ part (codes "cell") (truth (codes "a") 3 ∷ []) ∷ [])
    ≡ model (truth (codes "y") 0 ∷ truth (codes "b") 1 ∷ truth (codes "a") 3 ∷ [])
parts_in_order = refl

-- ---- clashes

abbrev twice : List Feature
twice = feature (codes "A") [] (part (codes "cell") (truth (codes "a") 1 ∷ truth (codes "b") 2 ∷ []) ∷ []) ∷ feature (codes "B") (need (codes "main") (codes "x") (Some (type.Symbols (codes "p" ∷ []))) ∷ []) (part (codes "cell") (truth (codes "a") 3 ∷ []) ∷ []) ∷ []

introduced_twice : clashes (model []) twice (codes "cell") (codes "a") ≡ true
introduced_twice = refl

introduced_once : clashes (model []) twice (codes "cell") (codes "b") ≡ false
introduced_once = refl

in_another_module : clashes (model []) twice (codes "main") (codes "a") ≡ false
in_another_module = refl

variable_of_base : clashes (model []) twice (codes "main") (codes "x") ≡ true
variable_of_base = refl

formal_of_base : clashes (model []) twice (codes "cell") (codes "f") ≡ true
formal_of_base = refl

symbol_of_base : clashes (model []) twice (codes "cell") (codes "on") ≡ true
symbol_of_base = refl

symbol_of_need : clashes (model []) twice (codes "cell") (codes "p") ≡ true
symbol_of_need = refl

-- ---- equal types

range_as_list : equal_types (type.Range (pos 0) (pos 2)) (type.Numbers (pos 0 ∷ pos 1 ∷ pos 2 ∷ [])) ≡ true
range_as_list = refl

another_order : equal_types (type.Numbers (pos 1 ∷ pos 0 ∷ [])) (type.Range (pos 0) (pos 1)) ≡ false
another_order = refl

shorter_range : equal_types (type.Range (pos 0) (pos 1)) (type.Range (pos 0) (pos 2)) ≡ false
shorter_range = refl

no_truth_values : equal_types type.Boolean (type.Range (pos 0) (pos 1)) ≡ false
no_truth_values = refl

-- ---- one feature

-- needs count the feature's own names, and a symbol is no name of a need
own_name_needed : applied_alone (feature (codes "F") (need (codes "cell") (codes "a") (Some type.Boolean) ∷ []) (part (codes "cell") (truth (codes "a") 1 ∷ []) ∷ [])) (model []) ≡ Ok (model (truth (codes "a") 1 ∷ []))
own_name_needed = refl

symbol_needed : applied_alone (feature (codes "F") (need (codes "main") (codes "on") None ∷ []) []) (model []) ≡ Err (fault.RequireMissing (Some (span 8)) (codes "F") (codes "on") (record { bits = 0 }))
symbol_needed = refl

another_type : applied_alone (feature (codes "F") (need (codes "main") (codes "x") (Some type.Boolean) ∷ []) []) (model []) ≡ Err (fault.RequireType (Some (span 8)) (codes "F") (codes "x"))
another_type = refl

-- a need comes before a joined part, the head of a part before its items, an instance before a clash
head_first : applied_alone (feature (codes "F") [] (part (codes "none") (truth (codes "on") 1 ∷ []) ∷ [])) (model []) ≡ Err (fault.RequireMissing (Some (span 9)) (codes "F") (codes "none") (record { bits = 0 }))
head_first = refl

instance_first : applied_alone (feature (codes "F") [] (part (codes "main") (declare (codes "x") (Instance (codes "cell") []) 1 ∷ []) ∷ [])) (model []) ≡ Err (fault.IntroducedInstance (Some (span 1)) (codes "F") (codes "x"))
instance_first = refl

-- of two declarations the first is refused
first_of_two : applied_alone (feature (codes "F") [] (part (codes "cell") (truth (codes "a") 1 ∷ []) ∷ part (codes "cell") (truth (codes "a") 2 ∷ []) ∷ [])) (model []) ≡ Err (fault.IntroduceClash (Some (span 1)) (codes "F") (codes "a"))
first_of_two = refl

-- ---- products

-- features `Base`, `A` and `B`; the text of `B` stands first
abbrev family : Family
family = record { base = model []; model = record { names = codes "Base" ∷ codes "A" ∷ codes "B" ∷ []; lines = [] }; features = feature (codes "B") [] (part (codes "cell") (truth (codes "b") 1 ∷ []) ∷ []) ∷ feature (codes "A") [] (part (codes "cell") (truth (codes "a") 2 ∷ []) ∷ []) ∷ [] }

order_of_texts : text_of family (record { bits = 7 }) ≡ Ok (model (truth (codes "b") 1 ∷ truth (codes "a") 2 ∷ []))
order_of_texts = refl

one_of_two : text_of family (record { bits = 3 }) ≡ Ok (model (truth (codes "a") 2 ∷ []))
one_of_two = refl

word_in_feature_order : printed_product (codes "Base" ∷ codes "A" ∷ codes "B" ∷ []) (record { bits = 6 }) ≡ codes "A,B"
word_in_feature_order = refl
