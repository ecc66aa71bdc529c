use Rattle.std.proofs.Common.{◌≡◌, ◌∷◌, [], ◌-◌, ℕ, List, map, codes, string_bytes, length, get_or, take, drop, true, false, sym, ◌∙◌, ap, rules, tests}
use Rattle.std.specs.Str.{bytes_eq}
use Rattle.std.proofs.lemmas.List.{map-append, length-map}
use Rattle.std.proofs.Math.ListN.{get_or-map}
use Rattle.fsmv_top.specs.Words.{weave_words}
use Rattle.fsmv_top.proofs.WordLemmas.{first_and_last, word_before_last}
use Rattle.fsmv_top.proofs.words.weave_words.Goals as goal

pub returns-then-not-is_word-2 : goal.returns-then-not-is_word-2
returns-then-not-is_word-2 c = λ w e.
    let words = c.args.words.now in
    let option = c.option-item.result in
    let same : length (map string_bytes words) ≡ length words = length-map _ _ in
    let count : length words ≡ length (weave_words w) = sym same ∙ ap length e in
    let here : string_bytes option ≡ codes "--product" =
    ap string_bytes c.option-item.is ∙ sym (get_or-map string_bytes words (length words - 2) option)
    ∙ ap (λ (ws : List (List ℕ)). get_or ws (length words - 2) (string_bytes option)) e ∙ word_before_last w (length words) (string_bytes option) count in
    let unlike : bytes_eq (string_bytes option) (codes "--product") ≡ false = search (rules, tests) in
    let alike : bytes_eq (string_bytes option) (codes "--product") ≡ true = ap (λ word. bytes_eq word (codes "--product")) here in
    let both : false ≡ true = sym unlike ∙ alike in cc

pub returns : goal.returns
returns c =
    let words = c.args.words.now in
    let features = take (length words - 2 - 3) (drop 3 words) in
    let split = first_and_last words c.command-item.result c.base-item.result c.model-item.result c.option-item.result c.product-item.result c.in-len5-up.len_at_least
    c.command-item.is c.base-item.is c.model-item.is c.option-item.is c.product-item.is in
    let command : string_bytes c.command-item.result ≡ codes "weave" = search (rules, tests) in
    let option : string_bytes c.option-item.result ≡ codes "--product" = search (rules, tests) in
    let parts = map-append string_bytes features (c.option-item.result ∷ c.product-item.result ∷ []) in
    ap (map string_bytes) split ∙ (let base = c.as_str.ensures.value in let model = c.as_str-2.ensures.value in let product = c.as_str-3.ensures.value in cc)
