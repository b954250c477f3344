-- Texts of which a front was passed over.
use Rattle.std.proofs.Common.{◌≡◌, ℕ, ◌<◌, ◌≤◌, ⊎_elim, List, [], ◌∷◌, ◌++◌, length, length-append, refl, sym, ap, ◌∙◌, arith, append_assoc}
use Rattle.std.proofs.lemmas.Bool.{cases_lt}
use Rattle.std.proofs.lemmas.List.{append_cancel_left}
use Rattle.icu_normalizer.specs.TextCuts.{IsOwnText, IsPassed, IsTextCut, ReachesTo}
use Rattle.icu_normalizer.specs.Texts.{Text, IsAtEnd, IsEncoding}
use Rattle.icu_normalizer.proofs.writing.ListLemmas.{split_front}
use Rattle.icu_normalizer.proofs.cuts.TextCutLemmas.{characters_append}

module _ (encode : List ℕ → List ℕ) (is : IsEncoding encode) (form : List ℕ → List ℕ) where
  module _ (text middle : Text) (p : IsPassed encode form text middle) where
    pub passed_twice : (rest : Text) → IsPassed encode form middle rest → IsPassed encode form text rest
    passed_twice rest q = record {
      prefix = p.prefix ++ q.prefix;
      behind = record {
        scalars = characters_append p.prefix q.prefix p.behind.scalars q.behind.scalars;
        units =
            p.behind.units ∙ ap (λ l. encode p.prefix ++ l) q.behind.units ∙ sym (append_assoc (encode p.prefix) (encode q.prefix) rest.units)
            ∙ ap (λ l. l ++ rest.units) (sym (is.append p.prefix q.prefix));
        characters = p.behind.characters ∙ ap (λ l. p.prefix ++ l) q.behind.characters ∙ sym (append_assoc p.prefix q.prefix rest.characters);
      };
      alone = p.alone ∙ ap (λ l. p.prefix ++ l) q.alone ∙ sym (append_assoc p.prefix q.prefix (form rest.characters));
    }

    own_text : IsOwnText encode form middle → IsOwnText encode form text
    own_text own = (
      ap encode p.behind.characters ∙ is.append p.prefix middle.characters ∙ ap (λ l. encode p.prefix ++ l) own.0 ∙ sym p.behind.units,
      p.alone ∙ ap (λ l. p.prefix ++ l) own.1 ∙ sym p.behind.characters,
    )

    own_rest : IsOwnText encode form text → IsOwnText encode form middle
    own_rest own = (
      append_cancel_left (encode p.prefix) (encode middle.characters) middle.units
          (sym (is.append p.prefix middle.characters) ∙ ap encode (sym p.behind.characters) ∙ own.0 ∙ p.behind.units),
      append_cancel_left p.prefix (form middle.characters) middle.characters (sym p.alone ∙ own.1 ∙ p.behind.characters),
    )

    far_behind : (bound : ℕ) (later : List ℕ) → ReachesTo encode form bound middle later → ReachesTo encode form bound text (p.prefix ++ later)
    far_behind bound later far agreed more left others c e f g low =
        ⊎_elim (λ (within : length agreed < length p.prefix). omega (arith, within, length-append p.prefix later))
        (λ (past : length p.prefix ≤ length agreed).
        let parts = split_front p.prefix middle.characters agreed (c ∷ left) (sym p.behind.characters ∙ f) past in
        let spelled = ap (λ l. encode l ++ more) parts.1 ∙ ap (λ l. l ++ more) (is.append p.prefix parts.0) ∙ append_assoc (encode p.prefix) (encode parts.0) more in
        let units_are = append_cancel_left (encode p.prefix) middle.units (encode parts.0 ++ more) (sym p.behind.units ∙ e ∙ spelled) in
        let text_is = append_cancel_left p.prefix middle.characters (parts.0 ++ c ∷ left) (sym p.behind.characters ∙ f ∙ ap (λ l. l ++ c ∷ left) parts.1 ∙ append_assoc p.prefix parts.0 (c ∷ left)) in
        let form_is = append_cancel_left p.prefix (form middle.characters) (parts.0 ++ others) (sym p.alone ∙ g ∙ ap (λ l. l ++ others) parts.1 ∙ append_assoc p.prefix parts.0 others) in
        let reached = far parts.0 more left others c units_are text_is form_is low in
        omega (arith, reached, length-append p.prefix later, ap length parts.1, length-append p.prefix parts.0))
        (cases_lt (length agreed) (length p.prefix))

    -- where the rest is cut, the text is
    pub passed_cut : (bound : ℕ) (rest : Text) → IsTextCut encode form bound middle rest → IsTextCut encode form bound text rest
    unfolding passed_twice
    passed_cut bound rest cut =
        let twice = passed_twice rest (record { prefix = cut.prefix; behind = cut.behind; alone = cut.alone }) in
        record {
          prefix = twice.prefix;
          behind = twice.behind;
          alone = twice.alone;
          far = far_behind bound cut.prefix cut.far;
          empty = (λ none. own_text (cut.empty.0 none), λ own. cut.empty.1 (own_rest own));
        }

    -- all was passed over
    pub passed_all : (bound : ℕ) → form [] ≡ [] → IsAtEnd middle → IsTextCut encode form bound text middle
    passed_all bound nothing end = passed_cut bound middle (record {
      prefix = [];
      behind = record { scalars = tt; units = ap (λ l. l ++ middle.units) (sym is.nothing); characters = refl };
      alone = refl;
      far = λ agreed more left others c e f g low. omega (arith, ap length (sym end.1 ∙ f), length-append agreed (c ∷ left));
      empty = (λ _. (ap encode end.1 ∙ is.nothing ∙ sym end.0, ap form end.1 ∙ nothing ∙ sym end.1), λ _. end.0);
    })
