-- Composing a steady character and one mark after it.
use Rattle.std.proofs.Common.{◌≡◌, ℕ, ◌+◌, ◌<◌, ◌≤◌, max, List, [], ◌∷◌, ◌++◌, length, length-append, Some, None, refl, sym, ap, ap₂, subst, ◌∙◌, arith, append_assoc, append-nil}
use Rattle.std.proofs.lemmas.Bool.Decides.{nat_tests}
use Rattle.std.specs.List.{AllByRecursion}
use Rattle.icu_normalizer_core.specs.Boundaries.{IsSteady}
use Rattle.icu_normalizer_core.specs.Canonical.{Canonical, put_in_order, marks_in_order, composing, recomposed, decomposed, composed}
use Rattle.icu_normalizer_core.specs.Forming.{IsForming}
use Rattle.icu_normalizer_core.proofs.decomposed_lists.DecomposedLemmas.{put_starter}
use Rattle.icu_normalizer_core.proofs.decomposed_lists.RunLemmas.{order_nothing}
use Rattle.icu_normalizer.specs.declared.composing.lone_mark.LoneMark.{LoneMark}
use Rattle.icu_normalizer.specs.declared.composing.lone_mark.LoneMark.TheVariants.{Apart}
use Rattle.icu_normalizer.specs.LoneMarks.{IsLoneMark, IsSteadyUpTo, lone_form}
use Rattle.icu_normalizer.specs.Sinks.{AddsPrefix}
use Rattle.icu_normalizer.specs.TextCuts.{IsPassed, IsTextCut}
use Rattle.icu_normalizer.specs.Texts.{Text, AreCharacters, IsEncoding}
use Rattle.icu_normalizer.specs.Writer.{AddsFront}
use Rattle.icu_normalizer.proofs.composed.ComposedWalkLemmas.{PartAtOnce, agreed_within, never_same}
use Rattle.icu_normalizer.proofs.composed.ComposingLemmas.{AreUpTo-none, AreUpTo-push, composing_end, composing_joined, composing_kept, composing_cases, composed_over, composed_never, recomposed_begun}
use Rattle.icu_normalizer.proofs.writing.SinkLemmas.{joined_front}
use Rattle.icu_normalizer.proofs.passed.SkipLemmas.{steady_low}
use Rattle.icu_normalizer.proofs.cuts.TextCutLemmas.{cut_here}

-- ---- a mark after characters of no higher class

module _ (class : ℕ → ℕ) (mark : ℕ) where
  put_behind : (c : ℕ) (ds : List ℕ) → class c ≤ class mark → put_in_order class c (ds ++ mark ∷ []) ≡ put_in_order class c ds ++ mark ∷ []
  unfolding put_in_order
  put_behind c [] le = grind (arith, nat_tests)
  put_behind c (d ∷ ds) le = grind (arith, nat_tests, put_behind c ds le)

  order_behind : (cs : List ℕ) → AllByRecursion (λ c. class c ≤ class mark) cs → marks_in_order class (cs ++ mark ∷ []) ≡ marks_in_order class cs ++ mark ∷ []
  unfolding marks_in_order put_in_order
  order_behind [] h = refl
  order_behind (c ∷ cs) h = ap (put_in_order class c) (order_behind cs h.1) ∙ put_behind c (marks_in_order class cs) h.0

  put_below : (b : ℕ) → 0 < class mark → class mark < class b → put_in_order class b (mark ∷ []) ≡ mark ∷ b ∷ []
  unfolding put_in_order
  put_below b above below = grind (arith, nat_tests)

last_of : (xs : List ℕ) (a b mark : ℕ) → xs ++ mark ∷ [] ≡ a ∷ b ∷ [] → mark ≡ b
last_of [] a b mark e = absurd (omega (arith, ap length e))
last_of (x ∷ []) a b mark e = cc
last_of (x ∷ y ∷ xs) a b mark e = absurd (omega (arith, ap length e, length-append xs (mark ∷ [])))

module _ (canonical : Canonical) where
  -- ---- steady characters

  pub steady_up_to_low : IsForming canonical → (c class : ℕ) → c < 0xa0 → IsSteadyUpTo canonical c class
  steady_up_to_low ok c class low =
      let starter : canonical.class c ≡ 0 = ok.starters c (omega arith) in
      (steady_low canonical ok c low, subst (AllByRecursion (λ d. canonical.class d ≤ class)) (sym (ok.low c low)) (omega arith, tt))

  -- its full list begins with a starter
  pub steady_up_to_itself : (c class : ℕ) → canonical.full c ≡ c ∷ [] → IsSteady canonical c → IsSteadyUpTo canonical c class
  steady_up_to_itself c class itself steady =
      let list : c ∷ [] ≡ steady.0.0 ∷ steady.0.1 = sym itself ∙ steady.0.2 in
      let same : c ≡ steady.0.0 = cc in
      let starter : canonical.class c ≡ 0 = ap canonical.class same ∙ steady.0.3 in
      (steady, subst (AllByRecursion (λ d. canonical.class d ≤ class)) (sym itself) (omega arith, tt))

  pub steady_up_to_two : (c first second class : ℕ) → canonical.full c ≡ first ∷ second ∷ [] → IsSteady canonical c → canonical.class second ≤ class → IsSteadyUpTo canonical c class
  steady_up_to_two c first second class two steady le =
      let list : first ∷ second ∷ [] ≡ steady.0.0 ∷ steady.0.1 = sym two ∙ steady.0.2 in
      let same : first ≡ steady.0.0 = cc in
      let starter : canonical.class first ≡ 0 = ap canonical.class same ∙ steady.0.3 in
      (steady, subst (AllByRecursion (λ d. canonical.class d ≤ class)) (sym two) (omega arith, (le, tt)))

  -- ---- composing on

  composing_some : (s : ℕ) (ms cs : List ℕ) → 1 ≤ length (composing canonical s ms cs)
  composing_some s ms [] = omega (arith, ap length (composing_end canonical s ms))
  composing_some s ms (c ∷ cs) =
      composing_cases canonical s ms c cs (λ l. 1 ≤ length l) (λ z joins. composing_some z ms cs) (λ none starter. omega arith) (λ none mark. composing_some s (ms ++ c ∷ []) cs)

  -- what composes to one character composes on from it
  composing_on : (s : ℕ) (ms xs : List ℕ) (y : ℕ) (ys : List ℕ) → composing canonical s ms xs ≡ y ∷ [] → composing canonical s ms (xs ++ ys) ≡ composing canonical y [] ys
  composing_on s ms [] y ys e =
      let whole : s ∷ ms ≡ y ∷ [] = sym (composing_end canonical s ms) ∙ e in
      let head : s ≡ y = cc in
      let none : ms ≡ [] = cc in
      ap₂ (λ a b. composing canonical a b ys) head none
  composing_on s ms (c ∷ cs) y ys e =
      composing_cases canonical s ms c cs (λ l. l ≡ y ∷ [] → composing canonical s ms (c ∷ (cs ++ ys)) ≡ composing canonical y [] ys)
      (λ z joins f. composing_joined canonical s ms c z (cs ++ ys) joins ∙ composing_on z ms cs y ys f)
      (λ none starter f. let some = composing_some c [] cs in absurd (omega (arith, some, ap length f, length-append (s ∷ ms) (composing canonical c [] cs))))
      (λ none mark f. composing_kept canonical s ms c (cs ++ ys) none mark ∙ composing_on s (ms ++ c ∷ []) cs y ys f)
      e

  -- the full list of a steady character in order
  steady_list : (c d : ℕ) (ds : List ℕ) → canonical.full c ≡ d ∷ ds → canonical.class d ≡ 0 → marks_in_order canonical.class (canonical.full c) ≡ d ∷ marks_in_order canonical.class ds
  unfolding marks_in_order
  steady_list c d ds list starter =
      ap (marks_in_order canonical.class) list ∙ put_starter canonical.class d (marks_in_order canonical.class ds) starter

  -- which composes to the character
  steady_alone : (c d : ℕ) (ds : List ℕ) → canonical.full c ≡ d ∷ ds → canonical.class d ≡ 0 → composed canonical (c ∷ []) ≡ c ∷ [] → composing canonical d [] (marks_in_order canonical.class ds) ≡ c ∷ []
  unfolding composed decomposed
  steady_alone c d ds list starter own =
      sym (recomposed_begun canonical d (marks_in_order canonical.class ds) (omega (arith, starter))) ∙ ap (recomposed canonical) (sym (steady_list c d ds list starter))
      ∙ ap (λ l. recomposed canonical (marks_in_order canonical.class l)) (sym (append-nil (canonical.full c))) ∙ own

  -- a mark after a steady character composes with the character itself
  pub composed_lone : (letter mark class : ℕ) → canonical.full mark ≡ mark ∷ [] → canonical.class mark ≡ class → IsSteadyUpTo canonical letter class
      → composed canonical (letter ∷ mark ∷ []) ≡ composing canonical letter [] (mark ∷ [])
  unfolding composed decomposed
  composed_lone letter mark class itself same up =
      let boundary = up.0.0 in
      let behind = marks_in_order canonical.class boundary.1 in
      let front : marks_in_order canonical.class (canonical.full letter) ≡ boundary.0 ∷ behind = steady_list letter boundary.0 boundary.1 boundary.2 boundary.3 in
      let starter : canonical.class boundary.0 ≤ 0 = omega (arith, boundary.3) in
      let below : AllByRecursion (λ d. canonical.class d ≤ canonical.class mark) (canonical.full letter) =
      subst (λ (n : ℕ). AllByRecursion (λ d. canonical.class d ≤ n) (canonical.full letter)) (sym same) up.1 in
      let alone = steady_alone letter boundary.0 boundary.1 boundary.2 boundary.3 up.0.1 in
      ap (λ l. recomposed canonical (marks_in_order canonical.class (canonical.full letter ++ (l ++ [])))) itself
      ∙ ap (recomposed canonical) (order_behind canonical.class mark (canonical.full letter) below ∙ ap (λ l. l ++ mark ∷ []) front)
      ∙ recomposed_begun canonical boundary.0 (behind ++ mark ∷ []) starter ∙ composing_on boundary.0 [] behind letter (mark ∷ []) alone

  -- ---- the two ways in which it goes

  pub pair_joined : (letter mark z : ℕ) → canonical.pair letter mark ≡ Some z → composing canonical letter [] (mark ∷ []) ≡ z ∷ []
  pair_joined letter mark z joins = composing_joined canonical letter [] mark z [] joins ∙ composing_end canonical z []

  pub pair_kept : (letter mark : ℕ) → canonical.pair letter mark ≡ None → 0 < canonical.class mark → composing canonical letter [] (mark ∷ []) ≡ letter ∷ mark ∷ []
  pair_kept letter mark none above =
      composing_kept canonical letter [] mark [] (composed_never canonical letter [] mark none) above ∙ composing_end canonical letter (mark ∷ [])

  pub never_first : IsForming canonical → (letter mark z : ℕ) → canonical.full mark ≡ mark ∷ [] → canonical.pair letter mark ≡ Some z → z ≡ letter → ⊥
  never_first ok letter mark z itself joins same =
      let sum : length (canonical.full z) ≡ length (canonical.full letter) + length (canonical.full mark) =
      ap length (ok.pairs letter mark z joins) ∙ length-append (canonical.full letter) (canonical.full mark) in
      let one : length (canonical.full mark) ≡ 1 = ap length itself in
      let equal : length (canonical.full z) ≡ length (canonical.full letter) = ap (λ c. length (canonical.full c)) same in
      omega (arith, sum, one, equal)

  -- ---- a mark of a class below that of the letter's own

  pair_of : (a b letter : ℕ) → composing canonical a [] (b ∷ []) ≡ letter ∷ [] → canonical.pair a b ≡ Some letter
  pair_of a b letter =
      composing_cases canonical a [] b [] (λ l. l ≡ letter ∷ [] → canonical.pair a b ≡ Some letter)
      (λ z joins e. let one : z ∷ [] ≡ letter ∷ [] = sym (composing_end canonical z []) ∙ e in let same : z ≡ letter = cc in joins ∙ ap (λ x. Some x) same)
      (λ none starter e. let some = composing_some b [] [] in absurd (omega (arith, some, ap length e, length-append (a ∷ []) (composing canonical b [] []))))
      (λ none mark e. absurd (omega (arith, ap length (sym (composing_end canonical a (b ∷ [])) ∙ e))))

  order_below : (a b mark : ℕ) → canonical.class a ≡ 0 → 0 < canonical.class mark → canonical.class mark < canonical.class b
      → marks_in_order canonical.class (a ∷ b ∷ mark ∷ []) ≡ a ∷ mark ∷ b ∷ []
  unfolding marks_in_order put_in_order
  order_below a b mark starter above below =
      let between : put_in_order canonical.class b (mark ∷ []) ≡ mark ∷ b ∷ [] = put_below canonical.class mark b above below in
      ap (put_in_order canonical.class a) between ∙ put_starter canonical.class a (mark ∷ b ∷ []) starter

  module _ (letter a b mark : ℕ) (two : canonical.full letter ≡ a ∷ b ∷ []) (steady : IsSteady canonical letter) (itself : canonical.full mark ≡ mark ∷ []) (above : 0 < canonical.class mark) (below : canonical.class mark < canonical.class b) where
    first_starter : canonical.class a ≡ 0
    first_starter =
        let list : a ∷ b ∷ [] ≡ steady.0.0 ∷ steady.0.1 = sym two ∙ steady.0.2 in
        let same : a ≡ steady.0.0 = cc in
        ap canonical.class same ∙ steady.0.3

    -- the mark goes first
    composed_first : composed canonical (letter ∷ mark ∷ []) ≡ composing canonical a [] (mark ∷ b ∷ [])
    unfolding composed decomposed
    composed_first =
        ap₂ (λ l k. recomposed canonical (marks_in_order canonical.class (l ++ (k ++ [])))) two itself
        ∙ ap (recomposed canonical) (order_below a b mark first_starter above below) ∙ recomposed_begun canonical a (mark ∷ b ∷ []) (omega (arith, first_starter))

    pub below_kept : canonical.pair a mark ≡ None → composed canonical (letter ∷ mark ∷ []) ≡ letter ∷ mark ∷ []
    below_kept none =
        let whole = pair_of a b letter (ap (composing canonical a []) (sym (order_behind canonical.class b [] tt ∙ ap (λ l. l ++ b ∷ []) (order_nothing canonical.class))) ∙ steady_alone letter a (b ∷ []) two first_starter steady.1) in
        let seen = composed_over canonical a (mark ∷ []) b (max 0 (canonical.class mark)) (AreUpTo-push canonical.class [] 0 mark (AreUpTo-none canonical.class) above) (λ h. omega arith) in
        composed_first ∙ composing_kept canonical a [] mark (b ∷ []) (composed_never canonical a [] mark none) above
        ∙ composing_joined canonical a (mark ∷ []) b letter [] (seen ∙ whole) ∙ composing_end canonical letter (mark ∷ [])

    pub below_joined : (z : ℕ) → canonical.pair a mark ≡ Some z → (y : ℕ) → canonical.pair z b ≡ Some y → composed canonical (letter ∷ mark ∷ []) ≡ y ∷ []
    below_joined z joins y again = composed_first ∙ composing_joined canonical a [] mark z (b ∷ []) joins ∙ pair_joined z b y again

    pub below_changed : (z : ℕ) → canonical.pair a mark ≡ Some z → canonical.pair z b ≡ None → composed canonical (letter ∷ mark ∷ []) ≡ z ∷ b ∷ []
    below_changed z joins none = composed_first ∙ composing_joined canonical a [] mark z (b ∷ []) joins ∙ pair_kept z b none (omega arith)

    module _ (ok : IsForming canonical) (z : ℕ) (joins : canonical.pair a mark ≡ Some z) where
      -- the first of what it becomes is another character
      pub below_other : z ≡ letter → ⊥
      below_other same =
          let list : canonical.full a ++ mark ∷ [] ≡ a ∷ b ∷ [] = ap (λ l. canonical.full a ++ l) (sym itself) ∙ sym (ok.pairs a mark z joins) ∙ ap canonical.full same ∙ two in
          let last : mark ≡ b = last_of (canonical.full a) a b mark list in
          let equal : canonical.class mark ≡ canonical.class b = ap canonical.class last in
          omega (arith, equal, below)

      pub below_longer : (y : ℕ) → canonical.pair z b ≡ Some y → y ≡ letter → ⊥
      below_longer y again same =
          let p = ok.parts a mark z joins in
          let q = ok.parts z b y again in
          let some = ok.nonempty a p.0 in
          let last = ok.nonempty b q.1 in
          let front : length (canonical.full z) ≡ length (canonical.full a) + length (canonical.full mark) = ap length (ok.pairs a mark z joins) ∙ length-append (canonical.full a) (canonical.full mark) in
          let whole : length (canonical.full y) ≡ length (canonical.full z) + length (canonical.full b) = ap length (ok.pairs z b y again) ∙ length-append (canonical.full z) (canonical.full b) in
          let one : length (canonical.full mark) ≡ 1 = ap length itself in
          let both : length (canonical.full y) ≡ 2 = ap (λ c. length (canonical.full c)) same ∙ ap length two in
          omega (arith, some, last, front, whole, one, both)

-- ---- in a text

module _ (encode : List ℕ → List ℕ) (is : IsEncoding encode) (canonical : Canonical) (text rest : Text) where
  module _ (lone : LoneMark) (l : IsLoneMark encode canonical text lone rest) where
    lone_characters : text.characters ≡ l.letter ∷ l.mark ∷ rest.characters
    lone_characters = l.first.characters ∙ ap (λ cs. l.letter ∷ cs) l.second.characters

    lone_composed : composed canonical text.characters ≡ lone_form lone ++ composed canonical rest.characters
    lone_composed =
        ap (composed canonical) lone_characters ∙ l.apart (l.letter ∷ l.mark ∷ []) ∙ ap (λ cs. cs ++ composed canonical rest.characters) l.composes

    lone_encoded : encode (lone_form lone) ++ encode (composed canonical rest.characters) ≡ encode (composed canonical text.characters)
    lone_encoded = sym (is.append (lone_form lone) (composed canonical rest.characters)) ∙ ap encode (sym lone_composed)

    pub lone_fewer : length rest.characters < length text.characters
    lone_fewer = omega (arith, ap length lone_characters)

    -- it was written
    pub lone_written : (old new : List ℕ) → new ≡ old ++ encode (lone_form lone) → AddsFront old (encode (composed canonical text.characters)) (encode (composed canonical rest.characters)) new
    lone_written old new e = record { written = encode (lone_form lone); whole = sym lone_encoded; holds = e }

    -- a part of it was
    pub lone_cut : (old new : List ℕ) → AddsPrefix old (encode (lone_form lone)) new → AddsPrefix old (encode (composed canonical text.characters)) new
    lone_cut old new h = joined_front old new (encode (lone_form lone)) (encode (composed canonical rest.characters)) (encode (composed canonical text.characters)) lone_encoded h

  -- the two stay
  pub lone_passed : (first second : ℕ) → IsLoneMark encode canonical text (Apart first second) rest → IsPassed encode (composed canonical) text rest × (length rest.characters < length text.characters)
  lone_passed first second l = (
    record {
      prefix = l.letter ∷ l.mark ∷ [];
      behind = record {
        scalars = (l.first.scalar, (l.second.scalar, tt));
        units =
            l.first.units ∙ ap (λ us. encode (l.letter ∷ []) ++ us) l.second.units ∙ sym (append_assoc (encode (l.letter ∷ [])) (encode (l.mark ∷ [])) rest.units)
            ∙ ap (λ us. us ++ rest.units) (sym (is.append (l.letter ∷ []) (l.mark ∷ [])));
        characters = lone_characters (Apart first second) l;
      };
      alone = lone_composed (Apart first second) l ∙ ap₂ (λ x y. x ∷ y ∷ composed canonical rest.characters) l.made.0 l.made.1;
    },
    lone_fewer (Apart first second) l,
  )

  -- the first of them changes
  pub lone_changed : (lone : LoneMark) (l : IsLoneMark encode canonical text lone rest) (z : ℕ) (others : List ℕ) → lone_form lone ≡ z ∷ others → (z ≡ l.letter → ⊥) → AreCharacters text.characters
      → IsTextCut encode (composed canonical) 0x300 text text
  lone_changed lone l z others form changes scalars =
      let read = l.letter ∷ l.mark ∷ rest.characters in
      let formed = z ∷ (others ++ composed canonical rest.characters) in
      let read_is = lone_characters lone l in
      let form_is = lone_composed lone l ∙ ap (λ cs. cs ++ composed canonical rest.characters) form in
      let part : PartAtOnce read formed = λ (same : l.letter ≡ z). changes (sym same) in
      cut_here encode is (composed canonical) 0x300 text text [] (ap (λ us. us ++ text.units) (sym is.nothing)) refl scalars l.some refl
      (λ agreed more left behind c e f g low. agreed_within [] read formed agreed (c ∷ left) behind part (sym read_is ∙ f) (sym form_is ∙ g))
      (λ own. never_same read formed part (sym read_is ∙ sym own.1 ∙ form_is))
