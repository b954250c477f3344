-- Passing over the front of a text that stays as it stands.
use Rattle.std.proofs.Common.{◌≡◌, ℕ, ◌<◌, ◌≤◌, ◌⊎◌, inl, inr, ⊎_elim, List, [], ◌∷◌, ◌++◌, flat_map, None, refl, sym, ap, subst, ◌∙◌, arith, append_assoc, append-nil}
use Rattle.std.proofs.lemmas.Bool.{cases_lt}
use Rattle.std.proofs.lemmas.Grind.{flat_map-append}
use Rattle.icu_normalizer_core.specs.Canonical.{Canonical, composing, recomposed, decomposed, composed, marks_in_order}
use Rattle.icu_normalizer_core.specs.Boundaries.{HasBoundaryBefore, IsSteady}
use Rattle.icu_normalizer_core.specs.Forming.{IsForming}
use Rattle.icu_normalizer_core.proofs.decomposed_lists.DecomposedLemmas.{order_before, put_starter}
use Rattle.icu_normalizer_core.proofs.decomposed_lists.CanonicalStepLemmas.{decomposed_itself}
use Rattle.icu_normalizer.specs.TextCuts.{IsPassed}
use Rattle.icu_normalizer.specs.Texts.{Text, AreCharacters, BeginsWith, IsAtEnd, IsEncoding}
use Rattle.icu_normalizer.proofs.composed.ComposingLemmas.{composed_nothing, composing_end, composing_joined, composing_begun, composing_kept, composing_cases, composed_never, never_second, recomposed_nothing, recomposed_begun, recomposed_passed}
use Rattle.icu_normalizer.proofs.cuts.CutLemmas.{ArePlain, decomposed_nothing}
use Rattle.icu_normalizer.proofs.cuts.TextCutLemmas.{IsPastPlain, IsReadTo, all_characters, all_units, characters_front, read_first}

-- ---- a starter that is no pair's second composes with nothing before it

module _ (canonical : Canonical) where
  composing_apart : (s : ℕ) (ms xs : List ℕ) (d : ℕ) (ys : List ℕ) → canonical.class d ≤ 0 → ((a : ℕ) → canonical.pair a d ≡ None) → composing canonical s ms (xs ++ d ∷ ys) ≡ composing canonical s ms xs ++ composing canonical d [] ys
  composing_apart s ms [] d ys starter never =
      composing_begun canonical s ms d ys (composed_never canonical s ms d (never s)) starter ∙ ap (λ l. l ++ composing canonical d [] ys) (sym (composing_end canonical s ms))
  composing_apart s ms (c ∷ cs) d ys starter never =
      composing_cases canonical s ms c cs (λ l. composing canonical s ms (c ∷ (cs ++ d ∷ ys)) ≡ l ++ composing canonical d [] ys)
      (λ z joins. composing_joined canonical s ms c z (cs ++ d ∷ ys) joins ∙ composing_apart z ms cs d ys starter never)
      (λ none first.
      composing_begun canonical s ms c (cs ++ d ∷ ys) none first ∙ ap (λ l. (s ∷ ms) ++ l) (composing_apart c [] cs d ys starter never)
      ∙ sym (append_assoc (s ∷ ms) (composing canonical c [] cs) (composing canonical d [] ys)))
      (λ none mark. composing_kept canonical s ms c (cs ++ d ∷ ys) none mark ∙ composing_apart s (ms ++ c ∷ []) cs d ys starter never)

  recomposed_apart : (xs : List ℕ) (d : ℕ) (ys : List ℕ) → canonical.class d ≤ 0 → ((a : ℕ) → canonical.pair a d ≡ None) → recomposed canonical (xs ++ d ∷ ys) ≡ recomposed canonical xs ++ recomposed canonical (d ∷ ys)
  recomposed_apart [] d ys starter never = ap (λ l. l ++ recomposed canonical (d ∷ ys)) (sym (recomposed_nothing canonical))
  recomposed_apart (c ∷ cs) d ys starter never =
      ⊎_elim
      (λ mark.
      recomposed_passed canonical c (cs ++ d ∷ ys) mark ∙ ap (λ l. c ∷ l) (recomposed_apart cs d ys starter never)
      ∙ ap (λ l. l ++ recomposed canonical (d ∷ ys)) (sym (recomposed_passed canonical c cs mark)))
      (λ first.
      recomposed_begun canonical c (cs ++ d ∷ ys) first ∙ composing_apart c [] cs d ys starter never
      ∙ ap (λ l. composing canonical c [] cs ++ l) (sym (recomposed_begun canonical d ys starter))
      ∙ ap (λ l. l ++ recomposed canonical (d ∷ ys)) (sym (recomposed_begun canonical c cs first)))
      (cases_lt 0 (canonical.class c))

module _ (canonical : Canonical) where
  -- a text is composed in two parts before a character that has a boundary before it
  pub composed_parts : (xs : List ℕ) (c : ℕ) (ys : List ℕ) → HasBoundaryBefore canonical c → composed canonical (xs ++ c ∷ ys) ≡ composed canonical xs ++ composed canonical (c ∷ ys)
  unfolding composed decomposed marks_in_order
  composed_parts xs c ys apart =
      let d = apart.0 in
      let starter = apart.3 in
      let behind = apart.1 ++ flat_map canonical.full ys in
      let front = flat_map canonical.full xs in
      let list : flat_map canonical.full (c ∷ ys) ≡ d ∷ behind = ap (λ l. l ++ flat_map canonical.full ys) apart.2 in
      let whole : decomposed canonical (xs ++ c ∷ ys) ≡ marks_in_order canonical.class front ++ d ∷ marks_in_order canonical.class behind =
      ap (marks_in_order canonical.class) (flat_map-append canonical.full xs (c ∷ ys) ∙ ap (λ l. front ++ l) list)
      ∙ order_before canonical.class d front behind starter in
      let alone : decomposed canonical (c ∷ ys) ≡ d ∷ marks_in_order canonical.class behind =
      ap (marks_in_order canonical.class) list ∙ put_starter canonical.class d (marks_in_order canonical.class behind) starter in
      ap (recomposed canonical) whole
      ∙ recomposed_apart canonical (marks_in_order canonical.class front) d (marks_in_order canonical.class behind) (omega (arith, starter)) apart.4
      ∙ ap (λ l. recomposed canonical (marks_in_order canonical.class front) ++ recomposed canonical l) (sym alone)

  -- before such a character one that is its own composed list stays as it stands
  composed_passed : (b c : ℕ) (ys : List ℕ) → composed canonical (b ∷ []) ≡ b ∷ [] → HasBoundaryBefore canonical c → composed canonical (b ∷ c ∷ ys) ≡ b ∷ composed canonical (c ∷ ys)
  composed_passed b c ys own apart = composed_parts (b ∷ []) c ys apart ∙ ap (λ l. l ++ composed canonical (c ∷ ys)) own

  passed_last : (back ys : List ℕ) (c : ℕ) → (back ≡ []) ⊎ ((b : ℕ) × (back ≡ b ∷ []) × (composed canonical (b ∷ []) ≡ b ∷ [])) → HasBoundaryBefore canonical c → composed canonical (back ++ c ∷ ys) ≡ back ++ composed canonical (c ∷ ys)
  passed_last back ys c (inl none) apart = ap (λ l. composed canonical (l ++ c ∷ ys)) none ∙ ap (λ l. l ++ composed canonical (c ∷ ys)) (sym none)
  passed_last back ys c (inr some) apart =
      ap (λ l. composed canonical (l ++ c ∷ ys)) some.1 ∙ composed_passed some.0 c ys some.2 apart ∙ ap (λ l. l ++ composed canonical (c ∷ ys)) (sym some.1)

  own_last : (back : List ℕ) → (back ≡ []) ⊎ ((b : ℕ) × (back ≡ b ∷ []) × (composed canonical (b ∷ []) ≡ b ∷ [])) → composed canonical back ≡ back
  own_last back (inl none) = ap (composed canonical) none ∙ composed_nothing canonical ∙ sym none
  own_last back (inr some) = ap (composed canonical) some.1 ∙ some.2 ∙ sym some.1

-- ---- ASCII at the start

module _ (canonical : Canonical) (ok : IsForming canonical) where
  -- a character below U+00A0 is steady
  own_low : (c : ℕ) → c < 0xa0 → composed canonical (c ∷ []) ≡ c ∷ []
  unfolding composed
  own_low c low =
      let starter = ok.starters c (omega arith) in
      ap (recomposed canonical) (decomposed_itself canonical c [] (ok.low c low) starter ∙ ap (λ l. c ∷ l) (decomposed_nothing canonical))
      ∙ recomposed_begun canonical c [] (omega (arith, starter)) ∙ composing_end canonical c []

  pub steady_low : (c : ℕ) → c < 0xa0 → IsSteady canonical c
  steady_low c low = ((c, [], ok.low c low, ok.starters c (omega arith), never_second canonical c ok.seconds (omega arith)), own_low c low)

  steady_plain : (c : ℕ) → c < 0x80 → IsSteady canonical c
  steady_plain c plain = steady_low c (omega arith)

  plain_passed : (front : List ℕ) (x : ℕ) (ys : List ℕ) → ArePlain front → x < 0x80 → composed canonical (front ++ x ∷ ys) ≡ front ++ composed canonical (x ∷ ys)
  plain_passed [] x ys plain last = refl
  plain_passed (c ∷ []) x ys plain last = composed_passed canonical c x ys (steady_plain c plain.0).1 (steady_plain x last).0
  plain_passed (c ∷ d ∷ cs) x ys plain last =
      composed_passed canonical c d (cs ++ x ∷ ys) (steady_plain c plain.0).1 (steady_plain d plain.1.0).0 ∙ ap (λ l. c ∷ l) (plain_passed (d ∷ cs) x ys plain.1 last)

-- ---- passing over

-- A text that was passed over to an index: `back` is the last character that was read.
pub record IsSkipping (encode : List ℕ → List ℕ) (canonical : Canonical) (text rest ahead : Text) : Type 0 where
  pub front : List ℕ
  pub back : List ℕ
  pub read : IsReadTo encode text rest ahead front back
  pub alone : composed canonical text.characters ≡ front ++ composed canonical (back ++ ahead.characters)
  pub last : (back ≡ []) ⊎ ((b : ℕ) × (back ≡ b ∷ []) × (composed canonical (b ∷ []) ≡ b ∷ []))

module _ (encode : List ℕ → List ℕ) (is : IsEncoding encode) (canonical : Canonical) where
  pub skip_begun : IsForming canonical → (text rest ahead : Text) → IsPastPlain encode text rest ahead → IsSkipping encode canonical text rest ahead
  skip_begun ok text rest ahead (inl r) = record { front = []; back = []; read = r; alone = ap (composed canonical) (r.characters ∙ r.characters_ahead); last = inl refl }
  skip_begun ok text rest ahead (inr p) = record {
    front = p.0;
    back = p.1 ∷ [];
    read = p.4;
    alone = ap (composed canonical) (p.4.characters ∙ ap (λ l. p.0 ++ l) p.4.characters_ahead) ∙ plain_passed canonical ok p.0 p.1 ahead.characters p.2 p.3;
    last = inr (p.1, refl, (steady_plain canonical ok p.1 p.3).1);
  }

  module _ (text rest ahead : Text) (s : IsSkipping encode canonical text rest ahead) where
    pub skip_more : (next : Text) (c : ℕ) → BeginsWith encode ahead c next → IsSteady canonical c → IsSkipping encode canonical text ahead next
    skip_more next c b apart = record {
      front = s.front ++ s.back;
      back = c ∷ [];
      read = read_first encode is text rest ahead next s.front s.back c s.read b;
      alone =
          s.alone ∙ ap (λ l. s.front ++ composed canonical (s.back ++ l)) b.characters ∙ ap (λ l. s.front ++ l) (passed_last canonical s.back next.characters c s.last apart.0)
          ∙ sym (append_assoc s.front s.back (composed canonical (c ∷ next.characters)));
      last = inr (c, refl, apart.1);
    }

    module _ (scalars : AreCharacters text.characters) where
      pub skip_rest : IsPassed encode (composed canonical) text rest
      skip_rest = record {
        prefix = s.front;
        behind = record { scalars = characters_front s.front rest.characters (subst AreCharacters s.read.characters scalars); units = s.read.units; characters = s.read.characters };
        alone = s.alone ∙ ap (λ l. s.front ++ composed canonical l) (sym s.read.characters_ahead);
      }

      pub skip_ended : IsAtEnd ahead → IsPassed encode (composed canonical) text ahead
      skip_ended end =
          let whole = all_characters encode is text rest ahead ahead s.front s.back 0 s.read in
          record {
            prefix = s.front ++ s.back;
            behind = record {
              scalars = characters_front (s.front ++ s.back) ahead.characters (subst AreCharacters whole scalars);
              units = all_units encode is text rest ahead ahead s.front s.back 0 s.read;
              characters = whole;
            };
            alone =
                s.alone ∙ ap (λ l. s.front ++ composed canonical (s.back ++ l)) end.1
                ∙ ap (λ l. s.front ++ l) (ap (composed canonical) (append-nil s.back) ∙ own_last canonical s.back s.last) ∙ sym (append-nil (s.front ++ s.back))
                ∙ ap (λ l. (s.front ++ s.back) ++ l) (sym (composed_nothing canonical) ∙ ap (composed canonical) (sym end.1));
          }
