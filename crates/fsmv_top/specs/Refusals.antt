-- The lines that report faults.
use Rattle.std.specs.Prelude.{ℕ, List, [], ◌∷◌, ◌++◌, Option, Some, None, codes}
use Rattle.std.specs.Fmt.{decimal}
use Rattle.smv_ast.specs.PrintedExpr.{each_after}
use Rattle.feature_model.specs.NamedProducts.{printed_product}
use Rattle.smv_ast.specs.declared.syntax.Span.{Span}
use Rattle.smv_ast.specs.declared.fault.Fault.{Fault}
use Rattle.smv_ast.specs.declared.fault.Fault.TheVariants as fault

-- a fault's name in a refusal line
abbrev pub fault_name : Fault → List ℕ
fault_name (fault.Syntax at) = codes "Syntax"
fault_name (fault.LeftOut at word) = codes "LeftOut"
fault_name (fault.WideNumber at) = codes "WideNumber"
fault_name (fault.TooNested at) = codes "TooNested"
fault_name (fault.TooLong at) = codes "TooLong"
fault_name (fault.ReservedName at name) = codes "ReservedName"
fault_name (fault.DuplicateFeature at name) = codes "DuplicateFeature"
fault_name (fault.UnknownFeature at name) = codes "UnknownFeature"
fault_name (fault.TooManyFeatures at count) = codes "TooManyFeatures"
fault_name (fault.DuplicateText at name) = codes "DuplicateText"
fault_name (fault.FeatureNotInModel at name) = codes "FeatureNotInModel"
fault_name (fault.NoProduct at) = codes "NoProduct"
fault_name (fault.NotValid at word) = codes "NotValid"
fault_name (fault.RequireMissing at feature name product) = codes "RequireMissing"
fault_name (fault.RequireType at feature name) = codes "RequireType"
fault_name (fault.IntroduceClash at feature name) = codes "IntroduceClash"
fault_name (fault.IntroducedInstance at feature name) = codes "IntroducedInstance"
fault_name (fault.IntroducedAssign at feature name) = codes "IntroducedAssign"
fault_name (fault.ImposeTarget at name) = codes "ImposeTarget"
fault_name (fault.ImposeKind at name) = codes "ImposeKind"
fault_name (fault.TreatTarget at path) = codes "TreatTarget"
fault_name (fault.UnknownName at path) = codes "UnknownName"
fault_name (fault.UnknownModule at name) = codes "UnknownModule"
fault_name (fault.RecursiveModule at name) = codes "RecursiveModule"
fault_name (fault.ArgumentCount at name) = codes "ArgumentCount"
fault_name (fault.DuplicateName at name) = codes "DuplicateName"
fault_name (fault.KindMismatch at) = codes "KindMismatch"
fault_name (fault.EmptyRange at) = codes "EmptyRange"
fault_name (fault.NegativeMod at) = codes "NegativeMod"
fault_name (fault.ChoicePlace at) = codes "ChoicePlace"
fault_name (fault.NextPlace at) = codes "NextPlace"
fault_name (fault.DoubleAssign at name) = codes "DoubleAssign"
fault_name (fault.ParameterAssign at name) = codes "ParameterAssign"
fault_name (fault.CyclicDefine at cycle) = codes "CyclicDefine"
fault_name (fault.TooLarge at) = codes "TooLarge"
fault_name (fault.NoSpec at) = codes "NoSpec"
fault_name (fault.TooDeep at cost) = codes "TooDeep"
fault_name fault.NoMemory = codes "NoMemory"

-- the span of a fault, if it has one
abbrev pub fault_span : Fault → Option Span
fault_span (fault.Syntax at) = at
fault_span (fault.LeftOut at word) = at
fault_span (fault.WideNumber at) = at
fault_span (fault.TooNested at) = at
fault_span (fault.TooLong at) = at
fault_span (fault.ReservedName at name) = at
fault_span (fault.DuplicateFeature at name) = at
fault_span (fault.UnknownFeature at name) = at
fault_span (fault.TooManyFeatures at count) = at
fault_span (fault.DuplicateText at name) = at
fault_span (fault.FeatureNotInModel at name) = at
fault_span (fault.NoProduct at) = at
fault_span (fault.NotValid at word) = at
fault_span (fault.RequireMissing at feature name product) = at
fault_span (fault.RequireType at feature name) = at
fault_span (fault.IntroduceClash at feature name) = at
fault_span (fault.IntroducedInstance at feature name) = at
fault_span (fault.IntroducedAssign at feature name) = at
fault_span (fault.ImposeTarget at name) = at
fault_span (fault.ImposeKind at name) = at
fault_span (fault.TreatTarget at path) = at
fault_span (fault.UnknownName at path) = at
fault_span (fault.UnknownModule at name) = at
fault_span (fault.RecursiveModule at name) = at
fault_span (fault.ArgumentCount at name) = at
fault_span (fault.DuplicateName at name) = at
fault_span (fault.KindMismatch at) = at
fault_span (fault.EmptyRange at) = at
fault_span (fault.NegativeMod at) = at
fault_span (fault.ChoicePlace at) = at
fault_span (fault.NextPlace at) = at
fault_span (fault.DoubleAssign at name) = at
fault_span (fault.ParameterAssign at name) = at
fault_span (fault.CyclicDefine at cycle) = at
fault_span (fault.TooLarge at) = at
fault_span (fault.NoSpec at) = at
fault_span (fault.TooDeep at cost) = at
fault_span fault.NoMemory = None

-- the values of a fault; a product is given by the names of its features
abbrev pub fault_kept : List (List ℕ) → Fault → List (List ℕ)
fault_kept names (fault.Syntax at) = []
fault_kept names (fault.LeftOut at word) = word ∷ []
fault_kept names (fault.WideNumber at) = []
fault_kept names (fault.TooNested at) = []
fault_kept names (fault.TooLong at) = []
fault_kept names (fault.ReservedName at name) = name ∷ []
fault_kept names (fault.DuplicateFeature at name) = name ∷ []
fault_kept names (fault.UnknownFeature at name) = name ∷ []
fault_kept names (fault.TooManyFeatures at count) = decimal count ∷ []
fault_kept names (fault.DuplicateText at name) = name ∷ []
fault_kept names (fault.FeatureNotInModel at name) = name ∷ []
fault_kept names (fault.NoProduct at) = []
fault_kept names (fault.NotValid at word) = word ∷ []
fault_kept names (fault.RequireMissing at feature name product) = feature ∷ name ∷
    printed_product names product ∷ []
fault_kept names (fault.RequireType at feature name) = feature ∷ name ∷ []
fault_kept names (fault.IntroduceClash at feature name) = feature ∷ name ∷ []
fault_kept names (fault.IntroducedInstance at feature name) = feature ∷ name ∷ []
fault_kept names (fault.IntroducedAssign at feature name) = feature ∷ name ∷ []
fault_kept names (fault.ImposeTarget at name) = name ∷ []
fault_kept names (fault.ImposeKind at name) = name ∷ []
fault_kept names (fault.TreatTarget at path) = path ∷ []
fault_kept names (fault.UnknownName at path) = path ∷ []
fault_kept names (fault.UnknownModule at name) = name ∷ []
fault_kept names (fault.RecursiveModule at name) = name ∷ []
fault_kept names (fault.ArgumentCount at name) = name ∷ []
fault_kept names (fault.DuplicateName at name) = name ∷ []
fault_kept names (fault.KindMismatch at) = []
fault_kept names (fault.EmptyRange at) = []
fault_kept names (fault.NegativeMod at) = []
fault_kept names (fault.ChoicePlace at) = []
fault_kept names (fault.NextPlace at) = []
fault_kept names (fault.DoubleAssign at name) = name ∷ []
fault_kept names (fault.ParameterAssign at name) = name ∷ []
fault_kept names (fault.CyclicDefine at cycle) = cycle ∷ []
fault_kept names (fault.TooLarge at) = []
fault_kept names (fault.NoSpec at) = []
fault_kept names (fault.TooDeep at cost) = decimal cost ∷ []
fault_kept names fault.NoMemory = []

-- `FILE OFFSET`, or `- -` without a span
abbrev pub printed_span : Option Span → List ℕ
printed_span None = codes "- -"
printed_span (Some at) = decimal at.file ++ codes " " ++ decimal at.at

-- `refused NAME FILE OFFSET KEPT`, where the features of the feature model have these names
abbrev pub refusal_line : List (List ℕ) → Fault → List ℕ
refusal_line names f = codes "refused " ++ fault_name f ++ codes " " ++ printed_span (fault_span f)
    ++ each_after (codes " ") (fault_kept names f) ++ codes "\n"

-- `fault read FILE`
abbrev pub read_fault_line : ℕ → List ℕ
read_fault_line file = codes "fault read " ++ decimal file ++ codes "\n"

-- the usage line
abbrev pub usage_line : List ℕ
usage_line = codes "usage: fsmv weave|prove|check|make, see the manual\n"
