-- The letters of a Hangul syllable, pushed one after another.
use Rattle.std.proofs.Common.{◌≡◌, ◌≤◌, ◌-◌, ◌+◌, ◌/◌, ◌%◌, ℕ, List, [], ◌∷◌, ◌++◌, Option, Some, true, false, ap, cond, refl, subst, sym, ◌∙◌, arith}
use Rattle.std.specs.Char.{IsScalar}
use Rattle.std.specs.Prelude.{IfSome, length, ◌==◌}
use Rattle.icu_normalizer_core.specs.BuiltIn.{built_in_step, is_syllable}
use Rattle.icu_normalizer_core.specs.Canonical.{Canonical, IsCanonical, IsDecomposing}
use Rattle.icu_normalizer_core.specs.CanonicalWords.{syllable_letters}
use Rattle.icu_normalizer_core.proofs.built.BuiltInFacts.{syllable_left}
use Rattle.icu_normalizer_core.proofs.decomposed_lists.DecomposedLemmas.{left_one}
use Rattle.icu_collator_core.specs.Acceptance.{CollationSource}
use Rattle.icu_collator_core.specs.FlatNotes.{BeginsApart, IsBoundaryApart, IsPushed}
use Rattle.icu_collator_core.specs.ReadSources.{canonical_by}
use Rattle.icu_collator_core.proofs.readings.FlatPartLemmas.{ArePushed, all_pushed, none_pushed, own_part, part_pushed}

-- the full list of a syllable is its letters
pub full_letters : (canonical : Canonical) → IsDecomposing canonical → (c : ℕ) → IsScalar c → is_syllable c ≡ true → canonical.full c ≡ syllable_letters c
full_letters canonical d c s e =
    let step = canonical.step
    in let built : (x : ℕ) (ds : List ℕ) → built_in_step x ≡ Some ds → step x ≡ ds =
    λ x ds is. subst (λ (o : Option (List ℕ)). IfSome o (λ ys. step x ≡ ys)) is (d.built_in_steps x)
    in left_one step (c ∷ []) (canonical.full c) (syllable_letters c) (d.ends c s) (syllable_left step built c e)

-- its letters, where it has two, and where it has three
pub two_letters : (c : ℕ) → (c - 0xac00) % 28 ≡ 0 → syllable_letters c ≡ (0x1100 + (c - 0xac00) / 588) ∷ (0x1161 + (c - 0xac00) % 588 / 28) ∷ []
unfolding syllable_letters
two_letters c none = rw none refl

pub three_letters :
    (c : ℕ) → ((c - 0xac00) % 28 == 0) ≡ false
    → syllable_letters c ≡ (0x1100 + (c - 0xac00) / 588) ∷ (0x1161 + (c - 0xac00) % 588 / 28) ∷ (0x11a7 + (c - 0xac00) % 28) ∷ []
unfolding syllable_letters
three_letters c some = rw some refl

module _ (source : CollationSource) (numeric : Option ℕ) (c before : ℕ) (ok : IsCanonical (canonical_by source)) (scalar : IsScalar c) where
  own : (front : List ℕ) (d : ℕ) (behind : List ℕ) → (canonical_by source).full c ≡ front ++ d ∷ behind → (canonical_by source).full d ≡ d ∷ []
  own front d behind is = own_part (canonical_by source) c d front behind (d ∷ behind) ok scalar (sym is) refl

  both : (a b first second : ℕ) (old one two rest : List ℕ) → (canonical_by source).full c ≡ a ∷ b ∷ rest
      → first ≤ 255 → IsPushed source numeric a before old first one → second ≤ 255 → IsPushed source numeric b first one second two
      → ArePushed source numeric before old (a ∷ b ∷ []) second two
  both a b first second old one two rest is small pushed small_too pushed_too =
      part_pushed source numeric before old (a ∷ []) first one b second two
      (part_pushed source numeric before old [] before old a first one (none_pushed source numeric before old) (own [] a (b ∷ rest) is) small pushed)
      (own (a ∷ []) b rest is) small_too pushed_too

  pub two_pushed : (a b first second : ℕ) (old one two : List ℕ) → (canonical_by source).full c ≡ a ∷ b ∷ []
      → first ≤ 255 → IsPushed source numeric a before old first one → second ≤ 255 → IsPushed source numeric b first one second two
      → IsPushed source numeric c before old second two
  two_pushed a b first second old one two is small pushed small_too pushed_too =
      let some : 1 ≤ length ((canonical_by source).full c) = rw is (omega arith) in
      all_pushed source numeric c before old (a ∷ b ∷ []) second two some is (both a b first second old one two [] is small pushed small_too pushed_too)

  pub three_pushed : (a b d first second third : ℕ) (old one two three : List ℕ) → (canonical_by source).full c ≡ a ∷ b ∷ d ∷ []
      → first ≤ 255 → IsPushed source numeric a before old first one → second ≤ 255 → IsPushed source numeric b first one second two
      → third ≤ 255 → IsPushed source numeric d second two third three
      → IsPushed source numeric c before old third three
  three_pushed a b d first second third old one two three is small pushed small_too pushed_too last_small last_pushed =
      let some : 1 ≤ length ((canonical_by source).full c) = rw is (omega arith) in
      all_pushed source numeric c before old (a ∷ b ∷ d ∷ []) third three some is
      (part_pushed source numeric before old (a ∷ b ∷ []) second two d third three
      (both a b first second old one two (d ∷ []) is small pushed small_too pushed_too) (own (a ∷ b ∷ []) d [] is) last_small last_pushed)

-- a syllable begins with a boundary where its first letter does
letters_begin : (c : ℕ) → (rest : List ℕ) × (syllable_letters c ≡ (0x1100 + (c - 0xac00) / 588) ∷ rest)
unfolding syllable_letters
letters_begin c =
    let i = c - 0xac00 in
    let trailing : List ℕ = (0x11a7 + i % 28) ∷ [] in
    ((0x1161 + i % 588 / 28) ∷ cond ((i % 28) == 0) [] trailing, refl)

pub syllable_begins : (source : CollationSource) (numeric : Option ℕ) (c letter : ℕ) → IsCanonical (canonical_by source) → IsScalar c → is_syllable c ≡ true
    → letter ≡ 0x1100 + (c - 0xac00) / 588 → BeginsApart source numeric letter → BeginsApart source numeric c
syllable_begins source numeric c letter ok scalar e is b =
    let spelled = letters_begin c in
    let whole : (canonical_by source).full c ≡ letter ∷ spelled.0 =
    full_letters (canonical_by source) ok.decomposing c scalar e ∙ spelled.1 ∙ ap (λ (x : ℕ). x ∷ spelled.0) (sym is) in
    let alone : (canonical_by source).full letter ≡ letter ∷ [] =
    own_part (canonical_by source) c letter [] spelled.0 (letter ∷ spelled.0) ok scalar (sym whole) refl in
    let same : letter ∷ [] ≡ b.first ∷ b.rest = sym alone ∙ b.full in
    let first : letter ≡ b.first = cc in
    record {
      first = letter;
      rest = spelled.0;
      full = whole;
      apart = subst (λ (x : ℕ). IsBoundaryApart source numeric x) (sym first) b.apart;
    }
