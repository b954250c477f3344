-- The words of characters in a map: one word more, and a map in which none is set.
use Rattle.std.proofs.Common.{◌≡◌, ◌≢◌, ℕ, ◌+◌, ◌*◌, ◌<◌, ◌≤◌, ◌⊎◌, inl, inr, ⊎_elim, Bool, true, false, cond, not, ◌==◌, ◌&&◌, List, [], ◌∷◌, ◌++◌, length, map, slice_index, Result, Ok, Err, refl, sym, ap, subst, ◌∙◌, arith}
use Rattle.std.specs.Prelude.{MatchResult, slice_index_or}
use Rattle.std.specs.declared.ops.RangeInclusive.{RangeInclusive}
use Rattle.std.specs.Range.{range_inclusive_start, range_inclusive_end, range_inclusive_exhausted}
use Rattle.std.proofs.lemmas.Bool.{cases_lt, cases_eq, cond-true, cond-false, eq-eqb, ne_eqb}
use Rattle.std.proofs.lemmas.Bool.Decides.{nat_tests}
use Rattle.std.proofs.lemmas.List.{length-map, get_or-map}
use Rattle.icu_codepointtrie.specs.Blocks.{block, different_blocks}
use Rattle.icu_codepointtrie.specs.CodePointMaps.{CodePointMap, mapped, IsWritten, covers}
use Rattle.icu_codepointtrie.proofs.built.BlockCountLemmas.{different_blocks-few}
use Rattle.icu_codepointtrie.proofs.built.BlockLemmas.{same_block}
use Rattle.icu_normalizer_core.specs.BuiltIn.{is_syllable}
use Rattle.icu_normalizer_core.specs.CharacterWords.{AreUnnamed, HasRightWords, unnamed_word}
use Rattle.icu_normalizer_core.specs.Settled.{IsAmong}
use Rattle.icu_normalizer_core.proofs.building.CoveredLemmas.{among_or_not, not_behind, not_front}

-- ---- One word more

among_last : (xs : List ℕ) (c x : ℕ) → IsAmong (xs ++ c ∷ []) x → IsAmong xs x ⊎ (c ≡ x)
among_last [] c x (inl e) = inr e
among_last [] c x (inr h) = absurd h
among_last (y ∷ ys) c x (inl e) = inl (inl e)
among_last (y ∷ ys) c x (inr h) = ⊎_elim (λ before. inl (inr before)) (λ e. inr e) (among_last ys c x h)

test_other : (x c word default : ℕ) → x ≢ c → ((x == c) && not (word == default)) ≡ false
test_other x c word default ne = ap (λ (b : Bool). b && not (word == default)) (ne_eqb x c ne)

test_here : (c word default : ℕ) → default ≡ 0 → word ≢ 0 → ((c == c) && not (word == default)) ≡ true
test_here c word default none some =
    ap (λ (b : Bool). b && not (word == default)) (eq-eqb c c refl) ∙ ap not (ne_eqb word default (λ e. some (e ∙ none)))

test_zero : (c word default : ℕ) → default ≡ 0 → word ≡ 0 → ((c == c) && not (word == default)) ≡ false
test_zero c word default none zero =
    ap (λ (b : Bool). b && not (word == default)) (eq-eqb c c refl) ∙ ap not (eq-eqb word default (zero ∙ sym none))

module _ (IsRight : ℕ → ℕ → Type 0) (done : List ℕ) (old new : CodePointMap ℕ) (c word : ℕ)
    (before : HasRightWords IsRight done old) (inside : c ≤ 0x10_FFFF)
    (written : IsWritten (λ n. n) old (λ x. x == c) word new)
    (says : IsRight c word) (syllable : word ≡ 0 → is_syllable c ≡ false) where
  elsewhere : (x : ℕ) → x ≤ 0x10_FFFF → x ≢ c → mapped new x ≡ mapped old x
  elsewhere x h ne = written.values x h ∙ cond-false _ _ _ (test_other x c word old.default ne)

  before_it : IsRight c (mapped old c) ⊎ (mapped old c ≡ unnamed_word c)
  before_it = ⊎_elim (λ named. inl (before.among c inside named)) (λ none. inr (before.others c inside none)) (among_or_not done c)

  here : IsRight c (mapped new c)
  here =
      ⊎_elim
      (λ (zero : word ≡ 0).
      let same : mapped new c ≡ mapped old c = written.values c inside ∙ cond-false _ _ _ (test_zero c word old.default before.default zero) in
      ⊎_elim
      (λ right. subst (IsRight c) (sym same) right)
      (λ first.
      let at : mapped new c ≡ word = same ∙ first ∙ cond-false (is_syllable c) 1 0 (syllable zero) ∙ sym zero in
      subst (IsRight c) (sym at) says)
      before_it)
      (λ (some : word ≢ 0).
      let at : mapped new c ≡ word = written.values c inside ∙ cond-true _ _ _ (test_here c word old.default before.default some) in
      subst (IsRight c) (sym at) says)
      (cases_eq word 0)

  Right : ℕ → Type 0
  Right x = IsRight x (mapped new x)

  pub words_more : HasRightWords IsRight (done ++ c ∷ []) new
  unfolding Right
  words_more = record {
    default = written.default ∙ before.default;
    among = λ x h is. ⊎_elim
        (λ (same : x ≡ c). subst Right (sym same) here)
        (λ (other : x ≢ c).
        ⊎_elim
        (λ old_one. subst (IsRight x) (sym (elsewhere x h other)) (before.among x h old_one))
        (λ e. absurd (other (sym e)))
        (among_last done c x is))
        (cases_eq x c);
    others = λ x h none. elsewhere x h (λ e. not_behind done (c ∷ []) x none (inl (sym e))) ∙ before.others x h (not_front done (c ∷ []) x none);
    all = written.all ∙ before.all;
    none_set = before.none_set;
    unnamed = before.unnamed;
  }

-- what is right in one way is right in another
pub words_along : (IsRight IsOther : ℕ → ℕ → Type 0) (named : List ℕ) (words : CodePointMap ℕ) → ((c word : ℕ) → IsRight c word → IsOther c word)
    → HasRightWords IsRight named words → HasRightWords IsOther named words
words_along IsRight IsOther named words along has = record {
  default = has.default;
  among = λ c h is. along c (mapped words c) (has.among c h is);
  others = has.others;
  all = has.all;
  none_set = has.none_set;
  unnamed = has.unnamed;
}

-- ---- No word is set

covered : (range : RangeInclusive ℕ) (x : ℕ) → range_inclusive_start range ≡ 0xac00 → range_inclusive_end range ≡ 0xd7a3 → range_inclusive_exhausted range ≡ false
    → covers range x ≡ is_syllable x
covered range x first last fresh = rw (first, last, fresh) refl

pub range_written : {E : Type 0} (W U A : Type 0) (Refused : E → Type 0) (r : Result (Unit {0}) E) (first last : ℕ)
    → MatchResult r (λ _. W) (λ _. U) → MatchResult r (λ _. A) (λ e. Refused e × ((0x10_FFFF < first) ⊎ (0x10_FFFF < last))) → first ≤ 0x10_FFFF → last ≤ 0x10_FFFF → W
range_written W U A Refused (Ok x) first last written refused low high = written
range_written W U A Refused (Err e) first last written refused low high = ⊎_elim (λ past. absurd (omega arith)) (λ past. absurd (omega arith)) refused.1

unnamed : (old new : CodePointMap ℕ) (range : RangeInclusive ℕ) → ((c : ℕ) → mapped old c ≡ 0) → old.default ≡ 0
    → IsWritten (λ n. n) old (covers range) 1 new → range_inclusive_start range ≡ 0xac00 → range_inclusive_end range ≡ 0xd7a3 → range_inclusive_exhausted range ≡ false
    → (x : ℕ) → x ≤ 0x10_FFFF → mapped new x ≡ unnamed_word x
unnamed old new range none default written first last fresh x h =
    written.values x h
    ∙ ap (λ (b : Bool). cond b 1 (mapped old x)) (ap (λ (d : ℕ). covers range x && not (1 == d)) default ∙ both (covers range x) ∙ covered range x first last fresh)
    ∙ ap (cond (is_syllable x) 1) (none x)
  where
    both : (b : Bool) → (b && true) ≡ b
    both true = refl
    both false = refl

number_at : (values : List ℕ) (c default : ℕ) → c < length values → slice_index (map (λ n. n) values) c ≡ slice_index_or values c default
number_at values c default inside = get_or-map (λ n. n) values c default 0 inside

syllable_value : (x : ℕ) → 0xac00 ≤ x → x ≤ 0xd7a3 → unnamed_word x ≡ 1
syllable_value x l h = grind (arith, nat_tests)

low_value : (x : ℕ) → x < 0xac00 → unnamed_word x ≡ 0
low_value x h = grind (arith, nat_tests)

high_value : (x : ℕ) → 0xd7a3 < x → unnamed_word x ≡ 0
high_value x h = grind (arith, nat_tests)

-- two blocks of one value are alike
alike : (m : CodePointMap ℕ) (width i j v : ℕ) → length m.values ≡ 0x11_0000 → ((x : ℕ) → x ≤ 0x10_FFFF → mapped m x ≡ unnamed_word x)
    → i * width + width ≤ 0x11_0000 → j * width + width ≤ 0x11_0000
    → ((r : ℕ) → r < width → unnamed_word (i * width + r) ≡ v) → ((r : ℕ) → r < width → unnamed_word (j * width + r) ≡ v)
    → block width (map (λ n. n) m.values) i ≡ block width (map (λ n. n) m.values) j
alike m width i j v all is inside within one other =
    let count : length (map (λ n. n) m.values) ≡ 0x11_0000 = length-map m.values (λ n. n) ∙ all in
    same_block width (map (λ n. n) m.values) (map (λ n. n) m.values) i j (omega arith) (omega arith)
    (λ r below.
    number_at m.values (i * width + r) m.default (omega arith) ∙ is (i * width + r) (omega arith) ∙ one r below
    ∙ sym (number_at m.values (j * width + r) m.default (omega arith) ∙ is (j * width + r) (omega arith) ∙ other r below))

-- the first block of each kind: of syllables, with the last of them, and of others
kind : (first last k : ℕ) → ℕ
kind first last k = cond (k == 0) 0 (cond (k == 1) first last)

few_wide : (m : CodePointMap ℕ) → length m.values ≡ 0x11_0000 → ((x : ℕ) → x ≤ 0x10_FFFF → mapped m x ≡ unnamed_word x) → different_blocks (λ n. n) 512 m.values ≤ 3
unfolding kind
few_wide m all is =
    let count : length (map (λ n. n) m.values) ≡ 0x11_0000 = length-map m.values (λ n. n) ∙ all in
    different_blocks-few (λ n. n) 512 3 m.values (λ k. block 512 (map (λ n. n) m.values) (kind 86 107 k))
    (λ j inside.
    ⊎_elim
    (λ (low : j < 86). (0, omega arith, alike m 512 0 j 0 all is (omega arith) (omega arith) (λ r h. low_value (0 * 512 + r) (omega arith)) (λ r h. low_value (j * 512 + r) (omega arith))))
    (λ (from : 86 ≤ j). ⊎_elim
    (λ (mid : j < 107). (1, omega arith, alike m 512 86 j 1 all is (omega arith) (omega arith) (λ r h. syllable_value (86 * 512 + r) (omega arith) (omega arith)) (λ r h. syllable_value (j * 512 + r) (omega arith) (omega arith))))
    (λ (past : 107 ≤ j). ⊎_elim
    (λ (at : j ≡ 107). (2, omega arith, ap (λ (i : ℕ). block 512 (map (λ n. n) m.values) i) (sym at)))
    (λ (other : j ≢ 107). (0, omega arith, alike m 512 0 j 0 all is (omega arith) (omega arith) (λ r h. low_value (0 * 512 + r) (omega arith)) (λ r h. high_value (j * 512 + r) (omega arith))))
    (cases_eq j 107))
    (cases_lt j 107))
    (cases_lt j 86))

few_narrow : (m : CodePointMap ℕ) → length m.values ≡ 0x11_0000 → ((x : ℕ) → x ≤ 0x10_FFFF → mapped m x ≡ unnamed_word x) → different_blocks (λ n. n) 16 m.values ≤ 3
unfolding kind
few_narrow m all is =
    let count : length (map (λ n. n) m.values) ≡ 0x11_0000 = length-map m.values (λ n. n) ∙ all in
    different_blocks-few (λ n. n) 16 3 m.values (λ k. block 16 (map (λ n. n) m.values) (kind 2752 3450 k))
    (λ j inside.
    ⊎_elim
    (λ (low : j < 2752). (0, omega arith, alike m 16 0 j 0 all is (omega arith) (omega arith) (λ r h. low_value (0 * 16 + r) (omega arith)) (λ r h. low_value (j * 16 + r) (omega arith))))
    (λ (from : 2752 ≤ j). ⊎_elim
    (λ (mid : j < 3450). (1, omega arith, alike m 16 2752 j 1 all is (omega arith) (omega arith) (λ r h. syllable_value (2752 * 16 + r) (omega arith) (omega arith)) (λ r h. syllable_value (j * 16 + r) (omega arith) (omega arith))))
    (λ (past : 3450 ≤ j). ⊎_elim
    (λ (at : j ≡ 3450). (2, omega arith, ap (λ (i : ℕ). block 16 (map (λ n. n) m.values) i) (sym at)))
    (λ (other : j ≢ 3450). (0, omega arith, alike m 16 0 j 0 all is (omega arith) (omega arith) (λ r h. low_value (0 * 16 + r) (omega arith)) (λ r h. high_value (j * 16 + r) (omega arith))))
    (cases_eq j 3450))
    (cases_lt j 3450))
    (cases_lt j 2752))

pub words_unnamed : (old new : CodePointMap ℕ) (range : RangeInclusive ℕ) → length old.values ≡ 0x11_0000
    → ((c : ℕ) → mapped old c ≡ 0) → old.default ≡ 0 → IsWritten (λ n. n) old (covers range) 1 new
    → range_inclusive_start range ≡ 0xac00 → range_inclusive_end range ≡ 0xd7a3 → range_inclusive_exhausted range ≡ false → AreUnnamed new
words_unnamed old new range all none default written first last fresh =
    let is = unnamed old new range none default written first last fresh in
    record {
      all = written.all ∙ all;
      default = written.default ∙ default;
      each = is;
      wide = few_wide new (written.all ∙ all) is;
      narrow = few_narrow new (written.all ∙ all) is;
    }

pub words_none : (IsRight : ℕ → ℕ → Type 0) (words : CodePointMap ℕ) → AreUnnamed words → HasRightWords IsRight [] words
words_none IsRight words is = record {
  default = is.default;
  among = λ x h bad. absurd bad;
  others = λ x h none. is.each x h;
  all = is.all;
  none_set = words;
  unnamed = is;
}
