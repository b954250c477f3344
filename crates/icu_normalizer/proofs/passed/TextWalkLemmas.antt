-- Texts of which nothing that was read is out of its place.
use Rattle.std.proofs.Common.{◌≡◌, ℕ, ◌<◌, inl, inr, List, [], ◌∷◌, ◌++◌, length, sym, ap, subst, ◌∙◌, arith, append_assoc}
use Rattle.icu_normalizer_core.specs.Canonical.{Canonical, decomposed}
use Rattle.icu_normalizer_core.specs.Forming.{IsForming, AreLowBelow}
use Rattle.icu_normalizer.specs.Splits.{IsDecomposed, IsInPlace}
use Rattle.icu_normalizer.specs.TextCuts.{IsTextCut}
use Rattle.icu_normalizer.specs.Texts.{Text, AreCharacters, BeginsDamaged, BeginsWith, IsAtEnd, IsEncoding}
use Rattle.icu_normalizer.proofs.cuts.CutLemmas.{decomposed_nothing, plain_low}
use Rattle.icu_normalizer.proofs.cuts.SplitLemmas.{IsWalked, in_place_is_decomposed, starter_before, walked_alone, walked_changes, walked_far, walked_low, walked_mark, walked_none, walked_starter}
use Rattle.icu_normalizer.proofs.cuts.TextCutLemmas.{IsPastPlain, IsReadTo, all_characters, all_units, cut_at_end, cut_before, damaged_behind, damaged_changes, read_behind, read_first}

-- what is known of a text that was read to an index
abbrev pub IsWalkedTo : (List ℕ → List ℕ) → Canonical → Text → Text → Text → ℕ → Type 0
IsWalkedTo encode canonical text rest ahead before = (front : List ℕ) × (back : List ℕ) × IsWalked canonical front back before × IsReadTo encode text rest ahead front back

module _ (encode : List ℕ → List ℕ) (is : IsEncoding encode) (canonical : Canonical) (ok : IsForming canonical) where
  pub walk_begun : (text rest ahead : Text) → IsPastPlain encode text rest ahead → IsWalkedTo encode canonical text rest ahead 0
  walk_begun text rest ahead (inl r) = ([], [], walked_none canonical, r)
  walk_begun text rest ahead (inr p) =
      (p.0, p.1 ∷ [], walked_low canonical p.0 p.1 ok.low (λ y low. ok.starters y (omega arith)) (plain_low p.0 p.2) (let low = p.3 in omega arith), p.4)

  module _ (text rest ahead next : Text) (before c class : ℕ) (w : IsWalkedTo encode canonical text rest ahead before) where
    pub walk_starter : BeginsWith encode ahead c next → IsInPlace canonical before c → class ≡ canonical.class c → class ≡ 0 → IsWalkedTo encode canonical text ahead next class
    walk_starter b placed same none =
        (w.0 ++ w.1, c ∷ [], walked_starter canonical w.0 w.1 before c class w.2 placed same none, read_first encode is text rest ahead next w.0 w.1 c w.3 b)

    pub walk_mark : BeginsWith encode ahead c next → IsInPlace canonical before c → class ≡ canonical.class c → 0 < class → IsWalkedTo encode canonical text rest next class
    walk_mark b placed same mark =
        (w.0, w.1 ++ c ∷ [], walked_mark canonical w.0 w.1 before c class w.2 placed same mark, read_behind encode is text rest ahead next w.0 w.1 c w.3 b)

  module _ (text rest ahead : Text) (before bound : ℕ) (below : AreLowBelow bound canonical) (w : IsWalkedTo encode canonical text rest ahead before) (scalars : AreCharacters text.characters) where
    pub walk_ended : IsAtEnd ahead → IsTextCut encode (decomposed canonical) bound text ahead
    walk_ended end =
        cut_at_end encode is (decomposed canonical) bound text rest ahead w.0 w.1 w.3 scalars end (decomposed_nothing canonical) (in_place_is_decomposed canonical 0 (w.0 ++ w.1) w.2.in_place)

    alone : decomposed canonical text.characters ≡ w.0 ++ decomposed canonical rest.characters
    alone =
        ap (decomposed canonical) (all_characters encode is text rest ahead ahead w.0 w.1 0 w.3 ∙ append_assoc w.0 w.1 ahead.characters)
        ∙ walked_alone canonical w.0 w.1 ahead.characters before w.2 ∙ ap (λ l. w.0 ++ decomposed canonical l) (sym w.3.characters_ahead)

    -- a character out of its place is ahead
    pub walk_out : (next : Text) (c : ℕ) → 0 < length ahead.units → BeginsWith encode ahead c next → (IsInPlace canonical before c → ⊥) → IsTextCut encode (decomposed canonical) bound text rest
    walk_out next c some b out =
        let same : text.characters ≡ (w.0 ++ w.1) ++ c ∷ next.characters =
        all_characters encode is text rest ahead ahead w.0 w.1 0 w.3 ∙ ap (λ l. (w.0 ++ w.1) ++ l) b.characters in
        let known = subst AreCharacters same scalars in
        cut_before encode is (decomposed canonical) bound text rest ahead w.0 w.1 w.3 scalars some alone
        (λ agreed more left others x e f g low. walked_far canonical ok w.0 w.1 before c next.characters known w.2 out bound below agreed left others x (sym same ∙ f) (ap (decomposed canonical) (sym same) ∙ g) low)
        (λ own. walked_changes canonical ok w.0 w.1 before c next.characters known w.2 out (subst (IsDecomposed canonical) same own.1))

    -- what is ahead is damaged
    pub walk_damaged : (next : Text) → 0 < length ahead.units → BeginsDamaged encode ahead next → IsTextCut encode (decomposed canonical) bound text rest
    walk_damaged next some bad =
        let units = all_units encode is text rest ahead ahead w.0 w.1 0 w.3 in
        let characters = all_characters encode is text rest ahead ahead w.0 w.1 0 w.3 in
        cut_before encode is (decomposed canonical) bound text rest ahead w.0 w.1 w.3 scalars some alone
        (λ agreed more left others x e f g low.
        let seen = damaged_behind encode is text ahead next (w.0 ++ w.1) units characters bad agreed more left x e f (omega (arith, low, below.within)) in
        starter_before canonical w.0 w.1 agreed seen.0 x (ok.starters x (omega (arith, low, below.within))) seen.1 w.2.marks)
        (λ own. damaged_changes encode is text ahead next (w.0 ++ w.1) units characters bad own.0)
