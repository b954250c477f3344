-- The value of a key as a function, and cursors that follow one key after another.
use Rattle.std.proofs.Common.{◌≡◌, ◌∙◌, ◌++◌, ◌<◌, ℕ, ℤ, ◌↔◌, List, [], ◌∷◌, length, Some, refl, ap, sym, arith}
use Rattle.std.proofs.lemmas.Option.{none-some}
use Rattle.std.proofs.Common.{length-append}
use Rattle.icu_char16trie.specs.UnitSteps.{start, step}
use Rattle.icu_char16trie.specs.Cursors.{state_of, answer_to, follow, answered, value_of_key, cursor_units, cursor_state, Follows}
use Rattle.icu_char16trie.specs.UnitMaps.{at_state, MapsKey, HasValue}
use Rattle.icu_char16trie.specs.declared.Char16TrieIterator.{Char16TrieIterator}
use Rattle.icu_char16trie.specs.declared.node.State.{State}
use Rattle.icu_char16trie.specs.declared.TrieResult.{TrieResult}
use Rattle.icu_char16trie.specs.declared.TrieResult.TheVariants.{NoMatch, NoValue, Intermediate, FinalValue}
use Rattle.icu_char16trie.proofs.Cursors.BranchLemmas.{some-same}
use Rattle.icu_char16trie.proofs.Cursors.StepLemmas.{behind_key}
use Rattle.icu_char16trie.proofs.Cursors.TextAnswerLemmas.{value_to, follows_of}

has-answered : (answer : TrieResult) (number : ℤ) → (answered answer ≡ Some number) ↔ HasValue answer number
has-answered NoMatch number = ((λ e. none-some number e), (λ h. absurd h))
has-answered NoValue number = ((λ e. none-some number e), (λ h. absurd h))
has-answered (Intermediate value) number = ((λ e. some-same value number e), (λ h. ap (λ v. Some v) h))
has-answered (FinalValue value) number = ((λ e. some-same value number e), (λ h. ap (λ v. Some v) h))

pub value_spelled : (units key : List ℕ) (number : ℤ) → (value_of_key units key ≡ Some number) ↔ MapsKey units (at_state (start units)) key number
unfolding value_of_key
value_spelled units [] number = ((λ e. absurd (none-some number e)), (λ h. absurd (behind_key units (start units) number h)))
value_spelled units (unit ∷ rest) number =
    let has = has-answered (answer_to units (start units) (unit ∷ rest)) number in
    let spelled = value_to units (start units) unit rest number in
    ((λ e. spelled.0 (has.0 e)), (λ h. has.1 (spelled.1 h)))

pub value_answered : (cursor : Char16TrieIterator) (key : List ℕ) (answer : TrieResult) (after : Char16TrieIterator)
    → cursor_state cursor ≡ start (cursor_units cursor) → Follows cursor key answer after → answered answer ≡ value_of_key (cursor_units cursor) key
unfolding value_of_key
value_answered cursor key answer after begins h =
    ap answered (h.found ∙ ap (λ state. answer_to (cursor_units cursor) state key) begins)

follow-append : (units : List ℕ) (state : State) (xs ys : List ℕ) → follow units state (xs ++ ys) ≡ follow units (follow units state xs) ys
follow-append units state [] ys = refl
follow-append units state (x ∷ xs) ys = follow-append units (state_of (step units state x)) xs ys

answer-append : (units : List ℕ) (state : State) (xs : List ℕ) (y : ℕ) (ys : List ℕ) → answer_to units state (xs ++ (y ∷ ys)) ≡ answer_to units (follow units state xs) (y ∷ ys)
answer-append units state [] y ys = refl
answer-append units state (x ∷ []) y ys = refl
answer-append units state (x ∷ next ∷ xs) y ys = answer-append units (state_of (step units state x)) (next ∷ xs) y ys

pub follows_on : (first second third : Char16TrieIterator) (key rest : List ℕ) (answer last : TrieResult) → 0 < length rest
    → Follows first key answer second → Follows second rest last third → Follows first (key ++ rest) last third
follows_on first second third key [] answer last some g h = absurd (omega (arith, some))
follows_on first second third key (y ∷ ys) answer last some g h =
    let more = length-append key (y ∷ ys) in
    let units = cursor_units first in
    let moved : (A : Type 0) (f : List ℕ → State → A) → f (cursor_units second) (cursor_state second) ≡ f units (follow units (cursor_state first) key) =
    λ A f. ap (λ read. f read (cursor_state second)) g.units ∙ ap (λ state. f units state) g.stands in
    follows_of first (key ++ (y ∷ ys)) last third (omega (arith, more)) (h.units ∙ g.units)
    (h.found ∙ moved TrieResult (λ read state. answer_to read state (y ∷ ys)) ∙ sym (answer-append units (cursor_state first) key y ys))
    (h.stands ∙ moved State (λ read state. follow read state (y ∷ ys)) ∙ sym (follow-append units (cursor_state first) key (y ∷ ys)))
