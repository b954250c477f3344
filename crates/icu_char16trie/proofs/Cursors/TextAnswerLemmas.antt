-- What a cursor answers to several units, by the keys that units spell.
use Rattle.std.proofs.Common.{◌≡◌, ◌∙◌, ◌++◌, ℕ, ℤ, ◌+◌, ◌-◌, ◌/◌, ◌%◌, ◌<◌, Bool, true, false, ltb, if◌then◌else◌, ◌↔◌, ◌⊎◌, List, [], ◌∷◌, length, refl, sym, subst, inl, ⊎_elim, arith}
use Rattle.icu_char16trie.specs.UnitSteps.{step}
use Rattle.icu_char16trie.specs.Cursors.{state_of, answer_to, follow, units_of, cursor_units, cursor_state, Follows}
use Rattle.icu_char16trie.specs.UnitMaps.{at_state, MapsKey, HasValue, IsLast, IsWhole}
use Rattle.icu_char16trie.specs.declared.Char16TrieIterator.{Char16TrieIterator}
use Rattle.icu_char16trie.specs.declared.node.State.{State}
use Rattle.icu_char16trie.specs.declared.node.State.TheVariants as state
use Rattle.icu_char16trie.specs.declared.TrieResult.{TrieResult}
use Rattle.icu_char16trie.specs.declared.TrieResult.TheVariants.{NoMatch}
use Rattle.icu_char16trie.proofs.Cursors.StepLemmas.{stopped_none}
use Rattle.icu_char16trie.proofs.Cursors.AnswerLemmas.{answers}
use Rattle.icu_char16trie.proofs.Cursors.UnitAnswerLemmas.{value_law, longer_law, stopped_of}
use Rattle.icu_char16trie.proofs.Cursors.WholeLemmas.{whole_of, has_more}

pub value_to : (units : List ℕ) (next : State) (unit : ℕ) (rest : List ℕ) (number : ℤ) →
    HasValue (answer_to units next (unit ∷ rest)) number ↔ MapsKey units (at_state next) (unit ∷ rest) number
value_to units next unit [] number = value_law units next unit number
value_to units next unit (more ∷ rest) number =
    let following = value_to units (state_of (step units next unit)) more rest number in
    let now = longer_law units next unit more rest number in
    ((λ h. now.0 (following.0 h)), (λ h. following.1 (now.1 h)))

pub longer_to : (units : List ℕ) (next : State) (unit : ℕ) (rest : List ℕ) (more : ℕ) (key : List ℕ) (number : ℤ) →
    MapsKey units (at_state (follow units next (unit ∷ rest))) (more ∷ key) number ↔ MapsKey units (at_state next) ((unit ∷ rest) ++ (more ∷ key)) number
longer_to units next unit [] more key number = longer_law units next unit more key number
longer_to units next unit (second ∷ rest) more key number =
    let following = longer_to units (state_of (step units next unit)) second rest more key number in
    let now = longer_law units next unit second (rest ++ (more ∷ key)) number in
    ((λ h. now.0 (following.0 h)), (λ h. following.1 (now.1 h)))

pub stopped_to : (units : List ℕ) (next : State) (unit : ℕ) (rest : List ℕ) → IsLast (answer_to units next (unit ∷ rest)) → follow units next (unit ∷ rest) ≡ state.Stopped
stopped_to units next unit [] last = stopped_of units next unit (step units next unit) refl last
stopped_to units next unit (second ∷ rest) last = stopped_to units (state_of (step units next unit)) second rest last

stopped-last : (units : List ℕ) (unit : ℕ) (rest : List ℕ) → IsLast (answer_to units state.Stopped (unit ∷ rest))
stopped-last units unit [] = tt
stopped-last units unit (second ∷ rest) = stopped-last units second rest

whole_to : (units : List ℕ) (next : State) (unit : ℕ) (rest : List ℕ) → IsWhole units (at_state next)
    → IsLast (answer_to units next (unit ∷ rest)) ⊎ IsWhole units (at_state (follow units next (unit ∷ rest)))
whole_to units next unit [] whole = whole_of units next unit (step units next unit) refl whole
whole_to units next unit (second ∷ rest) whole =
    ⊎_elim
    (λ last. inl (subst (λ next. IsLast (answer_to units next (second ∷ rest))) (sym (stopped_of units next unit (step units next unit) refl last)) (stopped-last units second rest)))
    (λ still. whole_to units (state_of (step units next unit)) second rest still)
    (whole_of units next unit (step units next unit) refl whole)

no-match-to : (units : List ℕ) (unit : ℕ) (rest : List ℕ) → answer_to units state.Stopped (unit ∷ rest) ≡ NoMatch
no-match-to units unit [] = refl
no-match-to units unit (second ∷ rest) = no-match-to units second rest

units-some : (b : Bool) (single high low : ℕ) → 0 < length (if b then single ∷ [] else high ∷ low ∷ [])
units-some true single high low = omega arith
units-some false single high low = omega arith

pub units_some : (code : ℕ) → 0 < length (units_of code)
units_some code = units-some (ltb code 0x10000) code (0xd800 + (code - 0x10000) / 0x400) (0xdc00 + code % 0x400)

-- the same of a cursor
pub follows_of : (before : Char16TrieIterator) (key : List ℕ) (answer : TrieResult) (after : Char16TrieIterator) → 0 < length key
    → cursor_units after ≡ cursor_units before → answer ≡ answer_to (cursor_units before) (cursor_state before) key
    → cursor_state after ≡ follow (cursor_units before) (cursor_state before) key → Follows before key answer after
follows_of before [] answer after some same found stands = absurd (omega (arith, some))
follows_of before (unit ∷ rest) answer after some same found stands =
    let units = cursor_units before in
    let from = cursor_state before in
    let value : (number : ℤ) → HasValue answer number ↔ MapsKey units (at_state from) (unit ∷ rest) number =
    λ number. subst (λ answer. HasValue answer number ↔ MapsKey units (at_state from) (unit ∷ rest) number) (sym found) (value_to units from unit rest number) in
    let longer : (more : ℕ) (key : List ℕ) (number : ℤ) → MapsKey (cursor_units after) (at_state (cursor_state after)) (more ∷ key) number ↔ MapsKey units (at_state from) ((unit ∷ rest) ++ (more ∷ key)) number =
    λ more key number. subst (λ read. MapsKey read (at_state (cursor_state after)) (more ∷ key) number ↔ MapsKey units (at_state from) ((unit ∷ rest) ++ (more ∷ key)) number) (sym same)
    (subst (λ state. MapsKey units (at_state state) (more ∷ key) number ↔ MapsKey units (at_state from) ((unit ∷ rest) ++ (more ∷ key)) number) (sym stands) (longer_to units from unit rest more key number)) in
    let stops : IsLast answer → cursor_state after ≡ state.Stopped = λ last. stands ∙ stopped_to units from unit rest (subst IsLast found last) in
    let last : IsLast answer → (key : List ℕ) (number : ℤ) → MapsKey (cursor_units after) (at_state (cursor_state after)) key number → ⊥ =
    λ last key number h. stopped_none (cursor_units after) key number (subst (λ state. MapsKey (cursor_units after) (at_state state) key number) (stops last) h) in
    let whole : IsWhole units (at_state from) → IsLast answer ⊎ IsWhole (cursor_units after) (at_state (cursor_state after)) =
    λ whole. subst (λ read. IsLast answer ⊎ IsWhole read (at_state (cursor_state after))) (sym same) (subst (λ answer. IsLast answer ⊎ IsWhole units (at_state (cursor_state after))) (sym found)
    (subst (λ state. IsLast (answer_to units from (unit ∷ rest)) ⊎ IsWhole units (at_state state)) (sym stands) (whole_to units from unit rest whole))) in
    let more : IsWhole units (at_state from) → (IsLast answer → ⊥) → (more : ℕ) × (key : List ℕ) × (number : ℤ) × MapsKey (cursor_units after) (at_state (cursor_state after)) (more ∷ key) number =
    λ w unlast. ⊎_elim (λ last. absurd (unlast last)) (λ still. has_more (cursor_units after) (cursor_state after) still) (whole w) in
    record {
      units = same;
      found = found;
      stands = stands;
      says = λ w. answers (MapsKey units (at_state from)) (MapsKey (cursor_units after) (at_state (cursor_state after))) (unit ∷ rest) longer answer value (more w) last;
      value = value;
      longer = longer;
      whole = whole;
      more = more;
      last = last;
      stops = stops;
      stopped = λ stopped. found ∙ subst (λ state. answer_to units state (unit ∷ rest) ≡ NoMatch) (sym stopped) (no-match-to units unit rest);
    }
