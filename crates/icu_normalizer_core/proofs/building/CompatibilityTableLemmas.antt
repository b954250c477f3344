-- Compatibility tables that are built, and the canonical tables over which they are accepted.
use Rattle.std.proofs.Common.{◌≡◌, ℕ, ◌==◌, ◌&&◌, inl, inr, List, [], ◌∷◌, flat_map, not, refl, ap, ◌∙◌}
use Rattle.std.specs.List.{All}
use Rattle.std.specs.Char.{IsScalar}
use Rattle.std.proofs.lemmas.List.Elements.{All-head}
use Rattle.icu_normalizer_core.specs.declared.canonical.tables.CanonicalFault.{CanonicalFault}
use Rattle.icu_normalizer_core.specs.declared.canonical.tables.CanonicalFault.TheVariants.{BadValue, BadList, Loop, BuiltIn, BadPair}
use Rattle.icu_normalizer_core.specs.Canonical.{Canonical}
use Rattle.icu_normalizer_core.specs.CanonicalFaults.{IsAccepted, begins_with_mark}
use Rattle.icu_normalizer_core.specs.CanonicalLists.{CanonicalLists, canonical_of}
use Rattle.icu_normalizer_core.specs.CanonicalMaps.{CanonicalMaps, AreMeaning}
use Rattle.icu_normalizer_core.specs.CanonicalWords.{is_word}
use Rattle.icu_normalizer_core.specs.CompatibilityFaults.{AreAcceptedWords, IsFirstWordFault, OffendsWord, OffendsWordList}
use Rattle.icu_normalizer_core.specs.CompatibilityMaps.{AreAcceptedOver}
use Rattle.icu_normalizer_core.specs.Sameness.{AreSameCanonical}
use Rattle.icu_normalizer_core.specs.Words.{WordLists, class_in, full_in}
use Rattle.icu_normalizer_core.proofs.accepted.AcceptedWords.{word_scalars}
use Rattle.icu_normalizer_core.proofs.building.AcceptedMapsSameLemmas.{one_meaning}

begins_alike : (a b : Canonical) → AreSameCanonical a b → (list : List ℕ) → All IsScalar list → begins_with_mark a list ≡ begins_with_mark b list
begins_alike a b same [] all = refl
begins_alike a b same (d ∷ ds) all = ap (λ (k : ℕ). not (k == 0)) (same.class d (All-head IsScalar d ds all))

module _ (maps : CanonicalMaps) (lists others : CanonicalLists) (words : WordLists) (a : IsAccepted lists) (w : AreAcceptedWords lists words)
    (means : AreMeaning maps (canonical_of lists)) (mean : AreMeaning maps (canonical_of others)) where
  same : AreSameCanonical (canonical_of lists) (canonical_of others)
  same = one_meaning maps (canonical_of lists) (canonical_of others) means mean

  word_alike : (c : ℕ) → IsScalar c → OffendsWord others words c → OffendsWord lists words c
  word_alike c s bad = ap (λ (k : ℕ). (words.has_word c && is_word c (words.word c)) && (class_in words c == k)) (same.class c s) ∙ bad

  list_alike : (c : ℕ) → IsScalar c → OffendsWordList others words c → OffendsWordList lists words c
  list_alike c s (inl outside) = inl outside
  list_alike c s (inr (inl long)) = inr (inl long)
  list_alike c s (inr (inr (inl other))) = inr (inr (inl other))
  list_alike c s (inr (inr (inr (inl (free, states, marked))))) =
      inr (inr (inr (inl (free, states, begins_alike (canonical_of lists) (canonical_of others) same (full_in words c) (word_scalars lists words a w c s) ∙ marked))))
  list_alike c s (inr (inr (inr (inr ne)))) = inr (inr (inr (inr (λ e. ne (e ∙ ap (flat_map (full_in words)) (same.full c s))))))

  accepted_alike : AreAcceptedWords others words
  accepted_alike = record {
    values = λ c s bad. w.values c s (word_alike c s bad);
    full_lists = λ c s bad. w.full_lists c s (list_alike c s bad);
    built_ins = w.built_ins;
  }

-- words are accepted over each canonical tables of one meaning
pub accepted_over : (maps : CanonicalMaps) (lists : CanonicalLists) (words : WordLists) → IsAccepted lists → AreAcceptedWords lists words → AreMeaning maps (canonical_of lists)
    → AreAcceptedOver maps words
accepted_over maps lists words a w means others _ mean = accepted_alike maps lists others words a w means mean

-- a fault refutes that words are accepted
pub word_fault_refutes : (lists : CanonicalLists) (words : WordLists) (fault : CanonicalFault) → IsFirstWordFault lists words fault → AreAcceptedWords lists words → ⊥
word_fault_refutes lists words (BadValue c) (s, o, l) a = a.values c s o
word_fault_refutes lists words (BadList c) (n, (s, o, l)) a = a.full_lists c s o
word_fault_refutes lists words (BuiltIn c) (n, m, (s, o, l)) a = a.built_ins c s o
word_fault_refutes lists words (Loop c) h a = h
word_fault_refutes lists words (BadPair c) h a = h
