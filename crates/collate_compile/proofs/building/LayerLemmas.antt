-- What a layer in the making has after a write.
use Rattle.std.proofs.Common.{◌≡◌, ℕ, ◌+◌, ◌*◌, ◌≤◌, ⊎_elim, Bool, true, false, cond, ◌||◌, eqb, List, [], ◌∷◌, ◌++◌, Option, Some, None, Result, Ok, Err, refl, sym, ap, ◌∙◌, subst, arith}
use Rattle.std.specs.Prelude.{MatchBool, MatchOption, OnOk, option_map}
use Rattle.std.specs.Char.{IsScalar}
use Rattle.std.specs.List.{list_any}
use Rattle.std.proofs.lemmas.Bool.{eqb-true}
use Rattle.std.proofs.lemmas.Bool.Decides.{nat_tests}
use Rattle.std.proofs.lemmas.List.Folds.{list_any-append}
use lib.Utf8.{scalar_cases}
use Rattle.icu_codepointtrie.specs.Blocks.{different_blocks}
use Rattle.icu_codepointtrie.specs.CodePointMaps.{mapped}
use Rattle.icu_normalizer_core.specs.BuiltIn.{is_within}
use Rattle.icu_collator_core.specs.Pools.{Pools, elements_of_word, lone_word, unprefixed_word}
use Rattle.icu_collator_core.specs.TableMeaning.{fallback}
use Rattle.icu_collator_core.specs.UnrecordedWords.{implicit}
use Rattle.collate_lines.specs.declared.record.Range.{Range}
use Rattle.collate_lines.specs.Record.{Layer, Record, root, tailoring, range}
use Rattle.collate_rules.specs.Meaning.{first_found, is_compressible_in, range_in, recorded_in, span_of}
use Rattle.collate_rules.specs.Rules.{is_range}
use Rattle.collate_words.specs.Growth.{Grows, GrowsFor}
use Rattle.collate_words.specs.Sayings.{Saying, element_count, text_count}
use Rattle.collate_words.specs.Written.{SaysOf}
use Rattle.collate_compile.specs.declared.layer_builder.LayerBuilder.{LayerBuilder}
use Rattle.collate_compile.specs.LayerBuilds.{AreRangesWritten, AreWritten, GivesWord, GrowsBy, IsGiven, IsLeft, IsRanged, offset_among, unwritten_word, word_of}
use Rattle.collate_compile.specs.LineSayings.{IsSayingOf, offset_bits, offset_of, ranged_saying}
use Rattle.collate_compile.proofs.building.BuildingGrowthLemmas.{grown_range}
use Rattle.collate_compile.proofs.building.MapLemmas.{mapped-default, mapped-kept, mapped-other, mapped-written}

-- what a word says stays said when the lists grow
abbrev pub StaySaid : Type 0
StaySaid = (pools larger : Pools) (word : ℕ) (saying : Saying) → Grows pools larger → SaysOf pools word saying
    → SaysOf larger word saying

pub scalar_inside : (c : ℕ) → IsScalar c → c ≤ 0x10_FFFF
scalar_inside c h = ⊎_elim (λ low. omega arith) (λ high. omega (arith, high.1)) (scalar_cases c h)

-- ## The implicit word says nothing

own_none : (pools : Pools) (saying : Saying) → SaysOf pools implicit saying → None ≡ saying.own
unfolding elements_of_word lone_word unprefixed_word
own_none pools saying says = says.lone.says

offset_none : (pools : Pools) (saying : Saying) → SaysOf pools implicit saying → None ≡ saying.offset
unfolding elements_of_word lone_word unprefixed_word
offset_none pools saying says = says.lone.ranged

-- of a character in a range it doesn't say what is recorded
in_no_range : (pools : Pools) (lines : List Record) (c : ℕ) (saying : Saying) (bits : ℕ)
    → SaysOf pools implicit saying → IsSayingOf lines c saying → offset_of lines c ≡ Some bits → ⊥
in_no_range pools lines c saying bits says said ranged =
    by (recorded_in lines [] (c ∷ [])) (own_none pools saying says ∙ said.own) said.offset
  where
    by : {A : Type 0} (o : Option A) → None ≡ o
        → saying.offset ≡ cond (elim o [ Some x ↦ true | None ↦ false ]) None (offset_of lines c) → ⊥
    by (Some x) e f = cc
    by None e f = let g : None ≡ Some bits = offset_none pools saying says ∙ f ∙ ranged in cc

-- ## A write keeps what stands

module _ (stay : StaySaid) (lines : List Record) (old new : LayerBuilder) (c : ℕ)
    (same : word_of new c ≡ word_of old c) (grows : Grows old.pools new.pools) where
  says_kept : (saying : Saying) → SaysOf old.pools (word_of old c) saying → SaysOf new.pools (word_of new c) saying
  says_kept saying says = stay old.pools new.pools (word_of new c) saying grows
      (subst (λ (w : ℕ). SaysOf old.pools w saying) (sym same) says)

  given_kept : IsGiven lines old c → IsGiven lines new c
  given_kept given = (given.0, given.1, says_kept given.0 given.2)

  ranged_kept : (some : List Record) → IsRanged lines some old c → IsRanged lines some new c
  ranged_kept some ranged = by (offset_among lines some c) ranged
    where
      by : (o : Option ℕ) → MatchOption o (word_of old c ≡ implicit)
          (λ bits. SaysOf old.pools (word_of old c) (ranged_saying bits))
          → MatchOption o (word_of new c ≡ implicit) (λ bits. SaysOf new.pools (word_of new c) (ranged_saying bits))
      by (Some bits) says = says_kept (ranged_saying bits) says
      by None is = same ∙ is

  left_kept : (layer : Layer) → IsLeft layer lines old c → IsLeft layer lines new c
  left_kept root left = ranged_kept lines left
  left_kept tailoring left = same ∙ left

-- ## A character is written

module _ (stay : StaySaid) (layer : Layer) (lines : List Record) (cs : List ℕ) (old new : LayerBuilder) (c : ℕ)
    (saying : Saying) (said : IsSayingOf lines c saying)
    (written : AreWritten layer lines cs old) (gives : GivesWord old new (λ d. eqb d c) saying) where
  -- where nothing was written for it, and the word is the one that stands there
  left_default : (which : Layer) → old.words.default ≡ unwritten_word which → gives.word ≡ old.words.default
      → IsLeft which lines old c → mapped old.words c ≡ old.words.default
  left_default tailoring is word left = left ∙ sym is
  left_default root is word left = by (offset_of lines c) refl left
    where
      by : (o : Option ℕ) → offset_of lines c ≡ o
          → MatchOption o (word_of old c ≡ implicit) (λ bits. SaysOf old.pools (word_of old c) (ranged_saying bits))
          → mapped old.words c ≡ old.words.default
      by None e l = l ∙ sym is
      by (Some bits) e l = absurd (in_no_range new.pools lines c saying bits
          (subst (λ (w : ℕ). SaysOf new.pools w saying) (word ∙ is) gives.says) said e)

  given_here : IsScalar c → (was : Bool) → MatchBool was (IsGiven lines old c) (IsLeft layer lines old c)
      → IsGiven lines new c
  given_here scalar was before = by (eqb gives.word old.words.default) refl was before
    where
      inside : c ≤ 0x10_FFFF
      inside = scalar_inside c scalar

      here : eqb c c ≡ true
      here = grind (arith, nat_tests)

      says : mapped new.words c ≡ gives.word → IsGiven lines new c
      says e = (saying, said, subst (λ (w : ℕ). SaysOf new.pools w saying) (sym e) gives.says)

      by : (b : Bool) → eqb gives.word old.words.default ≡ b → (w : Bool)
          → MatchBool w (IsGiven lines old c) (IsLeft layer lines old c) → IsGiven lines new c
      by false other w b = says (mapped-written old.words new.words _ gives.word gives.written c inside here other)
      by true is true given = given_kept stay lines old new c
          (mapped-kept old.words new.words _ gives.word gives.written c inside (eqb-true _ _ is)) gives.grows given
      by true is false left = says (mapped-default old.words new.words _ gives.word gives.written c inside here
          (eqb-true _ _ is) (left_default layer written.unwritten (eqb-true _ _ is) left))

  pub characters_more : AreWritten layer lines (cs ++ c ∷ []) new
  characters_more = record {
    unwritten = gives.written.default ∙ written.unwritten;
    words = λ q scalar. subst (λ (b : Bool). MatchBool b (IsGiven lines new q) (IsLeft layer lines new q))
        (sym (list_any-append (λ d. eqb q d) cs (c ∷ [])))
        (by q scalar (list_any (λ d. eqb q d) cs) (written.words q scalar) (eqb q c) refl);
  }
    where
      given : (q : ℕ) (b : Bool) → IsGiven lines new q
          → MatchBool (b || (true || false)) (IsGiven lines new q) (IsLeft layer lines new q)
      given q true g = g
      given q false g = g

      by : (q : ℕ) → IsScalar q → (was : Bool) → MatchBool was (IsGiven lines old q) (IsLeft layer lines old q)
          → (b : Bool) → eqb q c ≡ b
          → MatchBool (was || (b || false)) (IsGiven lines new q) (IsLeft layer lines new q)
      by q scalar was before true e =
          let same : q ≡ c = eqb-true q c e in
          given q was (subst (λ (d : ℕ). IsGiven lines new d) (sym same)
          (given_here (subst IsScalar same scalar) was
          (subst (λ (d : ℕ). MatchBool was (IsGiven lines old d) (IsLeft layer lines old d)) same before)))
      by q scalar true before false e =
          given_kept stay lines old new q
          (mapped-other old.words new.words _ gives.word gives.written q (scalar_inside q scalar) e) gives.grows
          before
      by q scalar false before false e =
          left_kept stay lines old new q
          (mapped-other old.words new.words _ gives.word gives.written q (scalar_inside q scalar) e) gives.grows
          layer before

-- ## A range is written

module _ (stay : StaySaid) (lines some : List Record) (old new : LayerBuilder) (r : Range)
    (written : AreRangesWritten lines some old)
    (gives : GivesWord old new (is_within r.first r.last)
    (ranged_saying (offset_bits (is_compressible_in lines) (span_of r)))) where
  bits : ℕ
  bits = offset_bits (is_compressible_in lines) (span_of r)

  other_word : eqb gives.word old.words.default ≡ false
  other_word = by (eqb gives.word old.words.default) refl
    where
      by : (b : Bool) → eqb gives.word old.words.default ≡ b → b ≡ false
      by false e = refl
      by true e =
          let none = offset_none new.pools _
          (subst (λ (w : ℕ). SaysOf new.pools w
          (ranged_saying (offset_bits (is_compressible_in lines) (span_of r))))
          (eqb-true _ _ e ∙ written.unwritten) gives.says) in
          cc

  pub ranges_more : AreRangesWritten lines (range r ∷ some) new
  ranges_more = record {
    unwritten = gives.written.default ∙ written.unwritten;
    words = λ c scalar. by c scalar (is_within r.first r.last c) refl;
  }
    where
      found : (b : Bool) (c : ℕ) → Option ℕ
      found b c = option_map (offset_bits (is_compressible_in lines))
          (elim (cond b (Some (span_of r)) None) [ Some y ↦ Some y | None ↦ first_found (range_in c) some ])

      by : (c : ℕ) → IsScalar c → (b : Bool) → is_within r.first r.last c ≡ b → IsRanged lines (range r ∷ some) new c
      by c scalar b e =
          subst (λ (t : Bool). MatchOption (found t c) (word_of new c ≡ implicit)
          (λ bits. SaysOf new.pools (word_of new c) (ranged_saying bits))) (sym e) (at b e)
        where
          at : (t : Bool) → is_within r.first r.last c ≡ t
              → MatchOption (found t c) (word_of new c ≡ implicit)
              (λ bits. SaysOf new.pools (word_of new c) (ranged_saying bits))
          at true f = subst (λ (w : ℕ). SaysOf new.pools w
              (ranged_saying (offset_bits (is_compressible_in lines) (span_of r))))
              (sym (mapped-written old.words new.words _ gives.word gives.written c (scalar_inside c scalar) f
              other_word)) gives.says
          at false f = ranged_kept stay lines old new c
              (mapped-other old.words new.words _ gives.word gives.written c (scalar_inside c scalar) f) gives.grows
              some (written.words c scalar)

-- what holds of all that is written holds of what was written well
on_ok_map : {E A B : Type 0} (r : Result (Unit {0}) E) → (A → B) → OnOk r A → OnOk r B
on_ok_map (Ok x) f a = f a
on_ok_map (Err e) f a = a

pub range_written : {E : Type 0} (stay : StaySaid) (lines some : List Record) (old new : LayerBuilder) (r : Range)
    (line : Record) (saying : Saying) (offset : ℕ) (result : Result (Unit {0}) E)
    → line ≡ range r → saying ≡ ranged_saying offset → offset ≡ offset_bits (is_compressible_in lines) (span_of r)
    → OnOk result (GivesWord old new (is_within r.first r.last) saying) → AreRangesWritten lines some old
    → OnOk result (AreRangesWritten lines (line ∷ some) new)
range_written stay lines some old new r line saying offset result is says e gives written =
    on_ok_map result (λ g. subst (λ (s : Record). AreRangesWritten lines (s ∷ some) new) (sym is)
    (ranges_more stay lines some old new r written
    (subst (λ (s : Saying). GivesWord old new (is_within r.first r.last) s) (says ∙ ap ranged_saying e) g))) gives

pub range_grown : {E : Type 0} (old new : LayerBuilder) (covers : ℕ → Bool) (r : Range) (line : Record)
    (saying : Saying) (offset : ℕ) (result : Result (Unit {0}) E) → line ≡ range r → saying ≡ ranged_saying offset
    → OnOk result (GrowsFor (element_count saying) (text_count saying) old.pools new.pools)
    → OnOk result ((width : ℕ) → different_blocks (λ n. n) width new.words.values
    ≤ different_blocks (λ n. n) width old.words.values + 3)
    → OnOk result (GivesWord old new covers saying)
    → OnOk result (GrowsBy (cond (is_range line) 1 0) (3 * cond (is_range line) 1 0) old new)
range_grown old new covers r line saying offset (Ok x) is says grown blocks gives =
    subst (λ (s : Record). GrowsBy (cond (is_range s) 1 0) (3 * cond (is_range s) 1 0) old new) (sym is)
    (grown_range old new covers saying grown (ap element_count says) (ap text_count says) blocks gives)
range_grown old new covers r line saying offset (Err e) is says grown blocks gives = grown

pub none_ranged : (lines : List Record) (layer : LayerBuilder) → layer.words.default ≡ implicit
    → ((c : ℕ) → word_of layer c ≡ implicit) → AreRangesWritten lines [] layer
none_ranged lines layer is words = record { unwritten = is; words = λ c scalar. words c }

pub ranged_alone : (lines : List Record) (layer : LayerBuilder) → AreRangesWritten lines lines layer
    → AreWritten root lines [] layer
ranged_alone lines layer ranged = record { unwritten = ranged.unwritten; words = ranged.words }

pub none_tailored : (lines : List Record) (layer : LayerBuilder) → layer.words.default ≡ fallback
    → ((c : ℕ) → word_of layer c ≡ fallback) → AreWritten tailoring lines [] layer
none_tailored lines layer is words = record { unwritten = is; words = λ c scalar. words c }
