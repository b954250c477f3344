-- Tests of suffixes over canonical data that say the same of every scalar value.
use Rattle.std.proofs.Common.{◌≡◌, ℕ, Bool, not, ◌==◌, ◌&&◌, ◌||◌, List, [], ◌∷◌, reverse, refl, sym, ap, ap₂, subst, All}
use Rattle.std.specs.Char.{IsScalar}
use Rattle.std.specs.List.{list_all, list_any}
use Rattle.std.proofs.lemmas.Grind.{reverse_onto}
use Rattle.std.proofs.lemmas.List.Elements.{All-head, All-nil, All-push, All-tail}
use Rattle.icu_normalizer_core.specs.Canonical.{Canonical, is_starter}
use Rattle.icu_normalizer_core.specs.Sameness.{AreSameCanonical}
use Rattle.icu_collator_core.specs.ContextRules.{begins_with_mark, ends_in_mark, holds_starter}
use Rattle.collate_words.specs.Sayings.{SaidBeside, texts_beside}

All-reverse : {A : Type 0} (P : A → Type 0) (xs : List A) → All P xs → All P (reverse xs)
All-reverse P [] all = All-nil P
All-reverse P (x ∷ xs) all =
    subst (All P) (sym (reverse_onto xs x []))
    (All-push P (reverse xs) x (All-reverse P xs (All-tail P x xs all)) (All-head P x xs all))

-- of scalar values
abbrev pub AreScalarsBeside : SaidBeside → Type 0
AreScalarsBeside said = All IsScalar said.characters

module _ (a b : Canonical) (same : AreSameCanonical a b) where
  starter_same : (c : ℕ) → IsScalar c → is_starter a c ≡ is_starter b c
  starter_same c scalar = ap (λ (k : ℕ). k == 0) (same.class c scalar)

  begins_same : (cs : List ℕ) → All IsScalar cs → begins_with_mark a cs ≡ begins_with_mark b cs
  begins_same [] all = refl
  begins_same (c ∷ cs) all = ap not (starter_same c (All-head IsScalar c cs all))

  ends_same : (cs : List ℕ) → All IsScalar cs → ends_in_mark a cs ≡ ends_in_mark b cs
  ends_same cs all = begins_same (reverse cs) (All-reverse IsScalar cs all)

  holds_same : (cs : List ℕ) → All IsScalar cs → holds_starter a cs ≡ holds_starter b cs
  holds_same [] all = refl
  holds_same (c ∷ cs) all =
      ap₂ (λ (p q : Bool). p || q) (starter_same c (All-head IsScalar c cs all))
      (holds_same cs (All-tail IsScalar c cs all))

  pub all_begin_same : (saids : List SaidBeside) → All AreScalarsBeside saids
      → list_all (begins_with_mark a) (texts_beside saids) ≡ list_all (begins_with_mark b) (texts_beside saids)
  all_begin_same [] all = refl
  all_begin_same (said ∷ saids) all =
      ap₂ (λ (p q : Bool). p && q) (begins_same said.characters (All-head AreScalarsBeside said saids all))
      (all_begin_same saids (All-tail AreScalarsBeside said saids all))

  pub one_ends_same : (saids : List SaidBeside) → All AreScalarsBeside saids
      → list_any (ends_in_mark a) (texts_beside saids) ≡ list_any (ends_in_mark b) (texts_beside saids)
  one_ends_same [] all = refl
  one_ends_same (said ∷ saids) all =
      ap₂ (λ (p q : Bool). p || q) (ends_same said.characters (All-head AreScalarsBeside said saids all))
      (one_ends_same saids (All-tail AreScalarsBeside said saids all))

  pub one_holds_same : (saids : List SaidBeside) → All AreScalarsBeside saids
      → list_any (holds_starter a) (texts_beside saids) ≡ list_any (holds_starter b) (texts_beside saids)
  one_holds_same [] all = refl
  one_holds_same (said ∷ saids) all =
      ap₂ (λ (p q : Bool). p || q) (holds_same said.characters (All-head AreScalarsBeside said saids all))
      (one_holds_same saids (All-tail AreScalarsBeside said saids all))
