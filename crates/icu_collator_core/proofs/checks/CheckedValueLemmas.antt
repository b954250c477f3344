-- What the values of a context say of its entries.
use Rattle.std.proofs.Common.{◌≡◌, ◌↔◌, ℕ, ℤ, ◌+◌, ◌^◌, ◌<◌, ◌≤◌, Bool, List, length, get_or, Option, Some, None, refl, sym, ◌∙◌, subst, arith, ⊎_elim, length-drop}
use Rattle.std.specs.Bool.{IsTrue}
use Rattle.std.specs.Prelude.{fold}
use Rattle.std.specs.Int.{cast_unsigned, w32}
use Rattle.std.specs.List.{Contains, HoldsAt}
use Rattle.std.specs.Option.{MatchOption}
use Rattle.std.proofs.lemmas.Bool.{cases_lt}
use Rattle.std.proofs.lemmas.List.{get_or_default}
use Rattle.icu_char16trie.specs.KeyFolds.{AreFolded}
use Rattle.icu_char16trie.specs.UnitGrammar.{IsUnitTrie}
use Rattle.icu_collator_core.specs.Pools.{trie_of}
use Rattle.icu_collator_core.specs.WordForms.{AreReadable, EntriesPass, by_word}

-- keys are not longer than can be counted
pub folded_readable : {A : Type 0} (onward : A → ℕ → A) (start : A) (contexts : List ℕ) (index : ℕ) (results : List (A × ℤ))
    → AreFolded onward start (trie_of contexts index) results → length contexts < 2 ^ 64 → AreReadable (trie_of contexts index)
folded_readable onward start contexts index results h few =
    let fewer : length (trie_of contexts index) ≤ length contexts = let e = length-drop (index + 2) contexts in omega (arith, e) in
    (h.trie, λ key number maps. let short = h.bound key number maps in omega (arith, short, fewer, few))

module _ {A : Type 0} (onward : A → ℕ → A) (start : A) (passes : ℕ → Bool) (contexts : List ℕ) (index : ℕ) (results : List (A × ℤ)) where
  pub values_told : (all : Bool) → AreFolded onward start (trie_of contexts index) results → length contexts < 2 ^ 64
      → (IsTrue all ↔ ((value : A × ℤ) → Contains results value → IsTrue (passes (cast_unsigned w32 value.1))))
      → IsTrue all ↔ EntriesPass (by_word passes) (trie_of contexts index)
  values_told all folded few told = (
    λ t readable key number maps. told.0 t (fold onward start key, number) ((folded.said (fold onward start key) number).1 (key, maps, refl)),
    λ h. told.1 (λ value in-results.
        let from = (folded.said value.0 value.1).0 in-results in
        h (folded_readable onward start contexts index results folded few) from.0 value.1 from.1),
  )

pub no_values_told : (passes : ℕ → Bool) (units : List ℕ) → (IsUnitTrie units → ⊥) → EntriesPass (by_word passes) units
no_values_told passes units broken readable = absurd (broken readable.0)

-- ---- What was found

pub found_one : {X : Type 0} (P : Type 0) (Q : X → Type 0) (found : Option X) (x : X) → found ≡ Some x → MatchOption found P Q → Q x
found_one P Q found x e h = subst (λ found. MatchOption found P Q) e h

pub found_nothing : {X : Type 0} (P : Type 0) (Q : X → Type 0) (found : Option X) → found ≡ None → MatchOption found P Q → P
found_nothing P Q found e h = subst (λ found. MatchOption found P Q) e h

-- ---- One after another

module _ {X : Type 0} (P : X → Type 0) (xs : List X) where
  pub holds_next : (index : ℕ) (x : X) → ((k : ℕ) → k < index → HoldsAt P xs k) → index < length xs → x ≡ get_or xs index x → P x
      → (k : ℕ) → k < index + 1 → HoldsAt P xs k
  holds_next index x before inside is h k less d =
      ⊎_elim (λ (lower : k < index). before k lower d)
      (λ (upper : index ≤ k).
      let same : k ≡ index = omega (arith, upper, less) in
      subst (λ k. P (get_or xs k d)) (sym same) (subst P (is ∙ get_or_default xs index x d inside) h))
      (cases_lt k index)

  pub all_hold : (index : ℕ) → length xs ≡ index → ((k : ℕ) → k < index → HoldsAt P xs k) → (x : X) → Contains xs x → P x
  all_hold index many all x h = let lt = h.1 in subst P h.2 (all h.0 (omega (arith, many, lt)) x)
