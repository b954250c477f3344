use Rattle.std.proofs.Common.{◌≡◌, ℕ, ◌<◌, List, [], length, get_or, map, sym, ap, ◌∙◌, arith}
use Rattle.std.specs.String.{string_bytes}
use Rattle.std.proofs.lemmas.List.{get_or-map, length-map}
use Rattle.collate_choice.proofs.ChoiceWordLemmas.{words-more, words-other, words-twice}
use Rattle.collate_choice.proofs.given.options_given.Goals as goal

pub returns-in_default : goal.returns-in_default
returns-in_default c =
    let words : List (List ℕ) = map string_bytes c.args.words.now in
    let index = c.loop-word.word-index in
    let within : index < length words = omega (arith, length-map c.args.words.now (string_bytes {Z = _})) in
    let word : get_or words index [] ≡ c.deref.result.now = get_or-map string_bytes c.args.words.now index c.word-item.result [] c.loop-word-test.true ∙ ap string_bytes (sym c.word-item.is) ∙ sym c.deref.ensures in
    words-other words index within (λ option is. c.in_default.ensures option (sym word ∙ is))

pub returns-then-has_value : goal.returns-then-has_value
returns-then-has_value c =
    let words : List (List ℕ) = map string_bytes c.args.words.now in
    let index = c.loop-word.word-index in
    let within : index < length words = omega (arith, length-map c.args.words.now (string_bytes {Z = _})) in
    let word : get_or words index [] ≡ c.deref.result.now = get_or-map string_bytes c.args.words.now index c.word-item.result [] c.loop-word-test.true ∙ ap string_bytes (sym c.word-item.is) ∙ sym c.deref.ensures in
    words-twice words index within c.in-Some.option (word ∙ c.in-Some.ensures) c.loop-word.given (sym c.has_value.ensures ∙ c.if-has_value.true) c.loop-word.invariant

pub loop-word-preserved : goal.loop-word-preserved
loop-word-preserved c =
    let words : List (List ℕ) = map string_bytes c.args.words.now in
    let index = c.loop-word.word-index in
    let within : index < length words = omega (arith, length-map c.args.words.now (string_bytes {Z = _})) in
    let word : get_or words index [] ≡ c.deref.result.now = get_or-map string_bytes c.args.words.now index c.word-item.result [] c.loop-word-test.true ∙ ap string_bytes (sym c.word-item.is) ∙ sym c.deref.ensures in
    rw c.with_value-given.ensures (words-more words index within c.in-Some.option (word ∙ c.in-Some.ensures) c.loop-word.given (sym c.has_value.ensures ∙ c.if-has_value.false) c.loop-word.invariant)
