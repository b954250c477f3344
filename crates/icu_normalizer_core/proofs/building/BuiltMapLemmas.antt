-- Tables that are built of maps mean the maps.
use Rattle.std.proofs.Common.{◌≡◌, ℕ, ◌/◌, ◌^◌, ◌<◌, ⊎_elim, cond, true, List, [], ◌∷◌, ◌++◌, length, Option, Some, None, refl, sym, ap, subst, ◌∙◌, arith}
use Rattle.std.specs.Char.{IsScalar}
use Rattle.std.specs.Option.{is_some, unwrap_or, IfSome}
use Rattle.icu_normalizer_core.specs.BuiltIn.{built_in_step, built_in_class, syllable_of}
use Rattle.icu_normalizer_core.specs.BuiltMaps.{AreBuiltOf}
use Rattle.icu_normalizer_core.specs.Canonical.{Leaves, nothing, unmapped, mapped}
use Rattle.icu_normalizer_core.specs.CanonicalLists.{CanonicalLists, canonical_of, listed_step, step_in}
use Rattle.icu_normalizer_core.specs.CanonicalMaps.{CanonicalMaps, AreMeaning, class_of, step_of, given_class, given_step, given_pair}
use Rattle.icu_normalizer_core.specs.CanonicalWords.{is_inside, built_in_full, full_of_word}
use Rattle.icu_normalizer_core.specs.Settled.{key_at}
use Rattle.icu_normalizer_core.proofs.built.BuiltInFacts.{built_in_left}
use Rattle.icu_normalizer_core.proofs.settling.EndingLemmas.{listed_or_not}
use Rattle.icu_normalizer_core.proofs.accepted.TableMeanings.{class_is, full_is, step_is, pair_syllable, pair_listed, step_in_built_in, step_in_free}
use Rattle.icu_normalizer_core.proofs.settling.TripleLemmas.{listed_none}
use Rattle.icu_normalizer_core.proofs.decoded.ScalarLemmas.{scalar_below}

-- what steps leave goes by the steps alone
pub leaves_along : (f g : ℕ → List ℕ) (xs ns : List ℕ) → ((c : ℕ) → f c ≡ g c) → Leaves f xs ns → Leaves g xs ns
leaves_along f g xs ns same nothing = nothing
leaves_along f g xs ns same (unmapped c cs ms e h) = unmapped c cs ms (sym (same c) ∙ e) (leaves_along f g cs ms same h)
leaves_along f g xs ns same (mapped c d ds cs ms e h) = mapped c d ds cs ms (sym (same c) ∙ e) (leaves_along f g ((d ∷ ds) ++ cs) ms same h)

-- triples that list what is given have the steps of the maps
pub steps_same : (maps : CanonicalMaps) (steps : List ℕ) → ((c : ℕ) → listed_step steps c ≡ cond (is_some (built_in_step c)) [] (given_step maps.mappings c))
    → (c : ℕ) → step_in steps c ≡ step_of maps c
steps_same maps steps listed c = by (built_in_step c) refl
  where
    by : (o : Option (List ℕ)) → built_in_step c ≡ o → step_in steps c ≡ unwrap_or (built_in_step c) (given_step maps.mappings c)
    by (Some ds) e = step_in_built_in steps c ds e ∙ sym (ap (λ (o : Option (List ℕ)). unwrap_or o (given_step maps.mappings c)) e)
    by None e =
        step_in_free steps c e ∙ listed c ∙ ap (λ (o : Option (List ℕ)). cond (is_some o) [] (given_step maps.mappings c)) e
        ∙ sym (ap (λ (o : Option (List ℕ)). unwrap_or o (given_step maps.mappings c)) e)

module _ (maps : CanonicalMaps) (lists : CanonicalLists) (built : AreBuiltOf maps lists) where
  -- a mark with a built-in class isn't mapped
  marks_unmapped : (c k : ℕ) → built_in_class c ≡ Some k → 0 < k → built_in_step c ≡ None → step_in lists.steps c ≡ []
  marks_unmapped c k e above free =
      ⊎_elim
      (λ none. step_in_free lists.steps c free ∙ listed_none lists.steps c none)
      (λ w.
      let inside : w.0 < length lists.steps / 3 = let h = w.1.0 in omega arith in
      let class : class_of maps (key_at lists.steps w.0) ≡ 0 = built.starters w.0 inside in
      let at : class_of maps c ≡ 0 = subst (λ (d : ℕ). class_of maps d ≡ 0) w.1.1 class in
      let is : class_of maps c ≡ k = ap (λ (o : Option ℕ). unwrap_or o (given_class maps.classes c)) e in
      absurd (omega (arith, at, is)))
      (listed_or_not lists.steps c built.triples.whole)

  pub word_full : (c : ℕ) → IsScalar c → full_of_word lists.scalars16 lists.scalars24 c (lists.word c) ≡ full_of_word [] lists.scalars24 c (lists.word c)
  word_full c s = ap (λ (s16 : List ℕ). full_of_word s16 lists.scalars24 c (lists.word c)) built.scalars16

  pub word_inside : (c : ℕ) → IsScalar c → is_inside lists.scalars16 lists.scalars24 (lists.word c) ≡ true
  word_inside c s = ap (λ (s16 : List ℕ). is_inside s16 lists.scalars24 (lists.word c)) built.scalars16 ∙ (built.words c s).inside

  pub built_in_is : (c : ℕ) (list : List ℕ) → IsScalar c → built_in_full c ≡ Some list → full_of_word [] lists.scalars24 c (lists.word c) ≡ list
  built_in_is c list s e = subst (λ (o : Option (List ℕ)). IfSome o (λ l. full_of_word [] lists.scalars24 c (lists.word c) ≡ l)) e (built.words c s).built_in

  pub built_left : (c : ℕ) → IsScalar c → Leaves (step_in lists.steps) (c ∷ []) ((canonical_of lists).full c)
  built_left c s = subst (Leaves (step_in lists.steps) (c ∷ [])) (sym (full_is lists c ∙ word_full c s)) (by (built_in_step c) refl)
    where
      by : (o : Option (List ℕ)) → built_in_step c ≡ o → Leaves (step_in lists.steps) (c ∷ []) (full_of_word [] lists.scalars24 c (lists.word c))
      by None e = (built.words c s).full e
      by (Some ds) e =
          let b = built_in_left (step_in lists.steps) (step_in_built_in lists.steps) marks_unmapped c ds e in
          subst (Leaves (step_in lists.steps) (c ∷ [])) (sym (built_in_is c b.list s b.is)) b.left

  pair_same : (a b : ℕ) (o : Option ℕ) → b < 2 ^ 21 → syllable_of a b ≡ o → (canonical_of lists).pair a b ≡ elim o [ Some c ↦ Some c | None ↦ given_pair maps.mappings a b ]
  pair_same a b (Some c) below e = pair_syllable lists a b c e
  pair_same a b None below e = pair_listed lists a b e ∙ built.listed_pairs a b below

  pub built_meaning : AreMeaning maps (canonical_of lists)
  built_meaning =
      let same = steps_same maps lists.steps built.steps in
      record {
        class = λ c s. class_is lists c ∙ (built.words c s).class;
        step = λ c s. ap (λ (f : ℕ → List ℕ). f c) (step_is lists) ∙ same c;
        full = λ c s. leaves_along (step_in lists.steps) (step_of maps) (c ∷ []) ((canonical_of lists).full c) same (built_left c s);
        pair = λ a b s t. pair_same a b (syllable_of a b) (let h = scalar_below b t in omega arith) refl;
      }
