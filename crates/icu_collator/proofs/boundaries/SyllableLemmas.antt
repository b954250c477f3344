-- Texts that first differ in two Hangul syllables, by the letters of these.
use Rattle.std.proofs.Common.{◌≡◌, ℕ, List, [], ◌∷◌, ◌++◌, Option, Some, true, refl, sym, ap, subst, ◌∙◌, arith, append_assoc, append-nil}
use Rattle.std.specs.Char.{IsScalar}
use Rattle.std.specs.Prelude.{All, IfSome, flat_map}
use Rattle.std.proofs.lemmas.List.{length-append}
use Rattle.std.proofs.lemmas.List.Concat.{flat_map-append}
use Rattle.std.proofs.lemmas.List.Elements.{recursion_from_All, All-from_recursion}
use Rattle.icu_normalizer_core.specs.BuiltIn.{built_in_step, is_syllable}
use Rattle.icu_normalizer_core.specs.Canonical.{Canonical, IsDecomposing, Leaves, nothing, unmapped, decomposed, marks_in_order}
use Rattle.icu_normalizer_core.specs.CanonicalWords.{syllable_letters}
use Rattle.icu_normalizer_core.proofs.built.BuiltInFacts.{syllable_left}
use Rattle.icu_normalizer_core.proofs.decomposed_lists.DecomposedLemmas.{AreScalar, AreUnmapped, all_append, full_scalars, left_full, left_one, unmapped_left}
use Rattle.icu_collator.specs.Fronts.{PartAt}
use Rattle.icu_collator.specs.Syllables.{DifferInLetters, EquivalentPartAt}

-- what holds of each item of two lists in a row holds of each of both
all_split : (xs ys : List ℕ) → AreScalar (xs ++ ys) → AreScalar xs × AreScalar ys
all_split [] ys h = (tt, h)
all_split (x ∷ xs) ys h = let both = all_split xs ys h.1 in ((h.0, both.0), both.1)

-- nothing is left to be mapped of what isn't mapped
left_alike : (canonical : Canonical) (xs : List ℕ) → AreUnmapped canonical xs → Leaves canonical.step xs xs
left_alike canonical [] h = nothing
left_alike canonical (x ∷ xs) h = unmapped x xs xs h.0 (left_alike canonical xs h.1)

module _ (canonical : Canonical) (d : IsDecomposing canonical) where
  -- the full list of a syllable is its letters
  full_letters : (c : ℕ) → IsScalar c → is_syllable c ≡ true → canonical.full c ≡ syllable_letters c
  full_letters c s e =
      let step = canonical.step
      in let built : (x : ℕ) (ds : List ℕ) → built_in_step x ≡ Some ds → step x ≡ ds =
      λ x ds is. subst (λ (o : Option (List ℕ)). IfSome o (λ ys. step x ≡ ys)) is (d.built_in_steps x)
      in left_one step (c ∷ []) (canonical.full c) (syllable_letters c) (d.ends c s) (syllable_left step built c e)

  full_alone_scalars : (c : ℕ) → IsScalar c → AreScalar (canonical.full c)
  full_alone_scalars c s = subst AreScalar (append-nil (canonical.full c)) (full_scalars canonical (c ∷ []) d (s, tt))

  -- the characters of a full list are their own full lists
  full_twice : (c : ℕ) → IsScalar c → flat_map canonical.full (canonical.full c) ≡ canonical.full c
  full_twice c s =
      let list = canonical.full c
      in left_one canonical.step list (flat_map canonical.full list) list
      (left_full canonical list d (All-from_recursion IsScalar list (full_alone_scalars c s)))
      (left_alike canonical list (unmapped_left canonical (c ∷ []) list (d.ends c s)))

  -- a text with a full list in the place of its character has the decomposed list of the text
  decomposed_spelled : (front rest : List ℕ) (c : ℕ) → IsScalar c
      → decomposed canonical (front ++ (canonical.full c ++ rest)) ≡ decomposed canonical (front ++ c ∷ rest)
  unfolding decomposed
  decomposed_spelled front rest c s =
      let full = canonical.full
      in ap (marks_in_order canonical.class)
      (flat_map-append full front (full c ++ rest)
      ∙ ap (λ (w : List ℕ). flat_map full front ++ w) (flat_map-append full (full c) rest ∙ ap (λ (w : List ℕ). w ++ flat_map full rest) (full_twice c s))
      ∙ sym (flat_map-append full front (c ∷ rest)))

  spelled_scalars : (front rest : List ℕ) (c : ℕ) → AreScalar (front ++ c ∷ rest) → AreScalar (front ++ (canonical.full c ++ rest))
  spelled_scalars front rest c h =
      let both = all_split front (c ∷ rest) h
      in all_append IsScalar front (canonical.full c ++ rest) both.0 (all_append IsScalar (canonical.full c) rest (full_alone_scalars c both.1.0) both.1.1)

  -- a text that goes on after a front with a syllable, and the same with the letters of this
  record IsSpelled (text front before rest : List ℕ) (x : ℕ) : Type 0 where
    pub spelled : List ℕ
    pub same : decomposed canonical spelled ≡ decomposed canonical text
    pub scalars : All IsScalar spelled
    pub is : spelled ≡ (front ++ before) ++ x ∷ rest

  spell : (text front before letters rest : List ℕ) (c x : ℕ) → All IsScalar text → is_syllable c ≡ true → text ≡ front ++ c ∷ rest
      → syllable_letters c ≡ before ++ x ∷ letters → IsSpelled text front before (letters ++ rest) x
  spell text front before letters rest c x h e is spelled =
      let scalars : AreScalar (front ++ c ∷ rest) = subst AreScalar is (recursion_from_All IsScalar text h)
      in let scalar : IsScalar c = (all_split front (c ∷ rest) scalars).1.0
      in let full : canonical.full c ≡ before ++ x ∷ letters = full_letters c scalar e ∙ spelled
      in record {
        spelled = front ++ (canonical.full c ++ rest);
        same = decomposed_spelled front rest c scalar ∙ ap (decomposed canonical) (sym is);
        scalars = All-from_recursion IsScalar (front ++ (canonical.full c ++ rest)) (spelled_scalars front rest c scalars);
        is =
            ap (λ (w : List ℕ). front ++ (w ++ rest)) full
            ∙ ap (λ (w : List ℕ). front ++ w) (append_assoc before (x ∷ letters) rest)
            ∙ sym (append_assoc front before (x ∷ (letters ++ rest)));
      }

  pub spelled_part : (a b : List ℕ) (common c e x y : ℕ) → All IsScalar a → All IsScalar b → PartAt a b common (Some c) (Some e) → DifferInLetters c e x y
      → EquivalentPartAt canonical a b common (Some x) (Some y)
  spelled_part a b common c e x y h g part letters =
      let before = letters.front
      in let first = spell a part.front before letters.left_rest part.left_begins.0 c x h letters.left_syllable
      (part.left_is ∙ ap (λ (w : List ℕ). part.front ++ w) part.left_begins.1) letters.left_is
      in let second = spell b part.front before letters.right_rest part.right_begins.0 e y g letters.right_syllable
      (part.right_is ∙ ap (λ (w : List ℕ). part.front ++ w) part.right_begins.1) letters.right_is
      in record {
        left_text = first.spelled;
        right_text = second.spelled;
        left_same = first.same;
        right_same = second.same;
        left_scalars = first.scalars;
        right_scalars = second.scalars;
        part = record {
          front = part.front ++ before;
          left_rest = x ∷ (letters.left_rest ++ part.left_begins.0);
          right_rest = y ∷ (letters.right_rest ++ part.right_begins.0);
          left_is = first.is;
          right_is = second.is;
          left_begins = (letters.left_rest ++ part.left_begins.0, refl);
          right_begins = (letters.right_rest ++ part.right_begins.0, refl);
          count = omega (arith, part.count, length-append part.front before);
          differ = λ same. let one : x ≡ y = cc in let none = part.differ (ap (λ (n : ℕ). Some n) (letters.differ one)) in cc;
        };
      }

-- a difference stands for itself
pub same_part : (canonical : Canonical) (a b : List ℕ) (common : ℕ) (left right : Option ℕ) → All IsScalar a → All IsScalar b → PartAt a b common left right
    → EquivalentPartAt canonical a b common left right
same_part canonical a b common left right h g part =
    record { left_text = a; right_text = b; left_same = refl; right_same = refl; left_scalars = h; right_scalars = g; part = part }
