-- A text is searched for three characters that pass, with none between them but such as go on.
use Rattle.std.proofs.Common.{◌≡◌, ℕ, ◌+◌, ◌<◌, List, [], ◌∷◌, ◌++◌, length, Option, Some, None, refl, sym, ◌∙◌, ap, subst, inl, inr, arith, append_assoc, length-append}
use Rattle.std.specs.List.{AllByRecursion}
use Rattle.std.specs.Option.{unwrap_or}
use Rattle.std.specs.Prelude.{IfSome}
use Rattle.icu_normalizer_core.specs.Iter.{Spells}
use Rattle.icu_normalizer_core.proofs.decomposed_lists.DecomposedLemmas.{all_append}
use Rattle.icu_normalizer_core.proofs.decomposed_lists.IterLemmas.{Spells-next}
use Rattle.icu_collator.specs.Fronts.{IsPlaceToBegin, ThreeStandAt}

-- a character that passes stands at an index of a list, and what stands after it goes on
pub record OneStandsAt (Passes GoesOn : ℕ → Type 0) (list : List ℕ) (index : ℕ) : Type 0 where
  pub before : List ℕ
  pub first : ℕ
  pub behind : List ℕ
  pub list_is : list ≡ before ++ first ∷ behind
  pub place_is : length before ≡ index
  pub first_passes : Passes first
  pub behind_goes_on : AllByRecursion GoesOn behind

-- another one stands after it, and what else does goes on
pub record TwoStandAt (Passes GoesOn : ℕ → Type 0) (list : List ℕ) (index : ℕ) : Type 0 where
  pub before : List ℕ
  pub first : ℕ
  pub between : List ℕ
  pub second : ℕ
  pub behind : List ℕ
  pub list_is : list ≡ before ++ first ∷ (between ++ second ∷ behind)
  pub place_is : length before ≡ index
  pub first_passes : Passes first
  pub between_goes_on : AllByRecursion GoesOn between
  pub second_passes : Passes second
  pub behind_goes_on : AllByRecursion GoesOn behind

if_some : (o : Option ℕ) (P Q : ℕ → Type 0) → ((k : ℕ) → P k → Q k) → IfSome o P → IfSome o Q
if_some None P Q weaker h = tt
if_some (Some k) P Q weaker h = weaker k h

module _ {I : Type 0} (steps : I → Option ℕ → I → Type 0) (Passes GoesOn : ℕ → Type 0) (text : List ℕ) (common : ℕ) where
  abbrev OneAt : List ℕ → ℕ → Type 0
  OneAt = OneStandsAt Passes GoesOn

  abbrev TwoAt : List ℕ → ℕ → Type 0
  TwoAt = TwoStandAt Passes GoesOn

  -- so many characters were read, an index was found, and these are the last two that pass
  pub record SearchedSoFar (index read : ℕ) (earlier latest : Option ℕ) (it : I) : Type 0 where
    pub done : List ℕ
    pub rest : List ℕ
    pub text_is : text ≡ done ++ rest
    pub spells : Spells steps it rest
    pub count : length done ≡ read
    pub latest_stands : IfSome latest (λ k. OneAt done k)
    pub two_stand : IfSome earlier (λ k. TwoAt done k)
    pub is_index : IsPlaceToBegin Passes GoesOn text common index

  pub search_begins : (it : I) → Spells steps it text → SearchedSoFar 0 0 None None it
  search_begins it h =
      record {
        done = [];
        rest = text;
        text_is = refl;
        spells = h;
        count = refl;
        latest_stands = tt;
        two_stand = tt;
        is_index = inl refl;
      }

  -- one character more
  module _ (index read : ℕ) (earlier latest : Option ℕ) (c : ℕ) (it next : I) (so : SearchedSoFar index read earlier latest it) (step : steps it (Some c) next) where
    abbrev rest_is : (rest : List ℕ) × (so.rest ≡ c ∷ rest) × Spells steps next rest
    rest_is = Spells-next steps it next c so.rest step so.spells

    abbrev more : List ℕ
    more = so.done ++ c ∷ []

    more_is : text ≡ more ++ rest_is.0
    more_is = so.text_is ∙ ap (λ (w : List ℕ). so.done ++ w) rest_is.1 ∙ sym (append_assoc so.done (c ∷ []) rest_is.0)

    more_count : length more ≡ read + 1
    more_count = length-append so.done (c ∷ []) ∙ ap (λ (n : ℕ). n + 1) so.count

    -- it goes on
    one_goes_on : GoesOn c → (k : ℕ) → OneAt so.done k → OneAt more k
    one_goes_on on k one =
        record {
          before = one.before;
          first = one.first;
          behind = one.behind ++ c ∷ [];
          list_is = ap (λ (w : List ℕ). w ++ c ∷ []) one.list_is ∙ append_assoc one.before (one.first ∷ one.behind) (c ∷ []);
          place_is = one.place_is;
          first_passes = one.first_passes;
          behind_goes_on = all_append GoesOn one.behind (c ∷ []) one.behind_goes_on (on, tt);
        }

    two_go_on : GoesOn c → (k : ℕ) → TwoAt so.done k → TwoAt more k
    two_go_on on k two =
        record {
          before = two.before;
          first = two.first;
          between = two.between;
          second = two.second;
          behind = two.behind ++ c ∷ [];
          list_is =
              ap (λ (w : List ℕ). w ++ c ∷ []) two.list_is
              ∙ append_assoc two.before (two.first ∷ (two.between ++ two.second ∷ two.behind)) (c ∷ [])
              ∙ ap (λ (w : List ℕ). two.before ++ two.first ∷ w) (append_assoc two.between (two.second ∷ two.behind) (c ∷ []));
          place_is = two.place_is;
          first_passes = two.first_passes;
          between_goes_on = two.between_goes_on;
          second_passes = two.second_passes;
          behind_goes_on = all_append GoesOn two.behind (c ∷ []) two.behind_goes_on (on, tt);
        }

    pub search_goes_on : GoesOn c → SearchedSoFar index (read + 1) earlier latest next
    search_goes_on on =
        record {
          done = more;
          rest = rest_is.0;
          text_is = more_is;
          spells = rest_is.2;
          count = more_count;
          latest_stands = if_some latest (OneAt so.done) (OneAt more) (one_goes_on on) so.latest_stands;
          two_stand = if_some earlier (TwoAt so.done) (TwoAt more) (two_go_on on) so.two_stand;
          is_index = so.is_index;
        }

    -- what stands before it may count
    pub search_anew : SearchedSoFar index (read + 1) None None next
    search_anew =
        record {
          done = more;
          rest = rest_is.0;
          text_is = more_is;
          spells = rest_is.2;
          count = more_count;
          latest_stands = tt;
          two_stand = tt;
          is_index = so.is_index;
        }

    -- it passes
    module _ (passes : Passes c) (inside : read < common) where
      now_two : (k : ℕ) → OneAt so.done k → TwoAt more k
      now_two k one =
          record {
            before = one.before;
            first = one.first;
            between = one.behind;
            second = c;
            behind = [];
            list_is = ap (λ (w : List ℕ). w ++ c ∷ []) one.list_is ∙ append_assoc one.before (one.first ∷ one.behind) (c ∷ []);
            place_is = one.place_is;
            first_passes = one.first_passes;
            between_goes_on = one.behind_goes_on;
            second_passes = passes;
            behind_goes_on = tt;
          }

      now_three : (k : ℕ) → TwoAt so.done k → ThreeStandAt Passes GoesOn text common k
      now_three k two =
          let list : more ≡ two.before ++ two.first ∷ (two.between ++ two.second ∷ (two.behind ++ c ∷ [])) =
          ap (λ (w : List ℕ). w ++ c ∷ []) two.list_is
          ∙ append_assoc two.before (two.first ∷ (two.between ++ two.second ∷ two.behind)) (c ∷ [])
          ∙ ap (λ (w : List ℕ). two.before ++ two.first ∷ w) (append_assoc two.between (two.second ∷ two.behind) (c ∷ []))
          in let count : length (two.before ++ two.first ∷ (two.between ++ two.second ∷ (two.behind ++ c ∷ []))) ≡ read + 1 = ap length (sym list) ∙ more_count
          in record {
            before = two.before;
            first = two.first;
            between = two.between;
            second = two.second;
            further = two.behind;
            third = c;
            behind = rest_is.0;
            text_is =
                so.text_is ∙ ap (λ (w : List ℕ). w ++ so.rest) two.list_is
                ∙ ap (λ (w : List ℕ). (two.before ++ two.first ∷ (two.between ++ two.second ∷ two.behind)) ++ w) rest_is.1
                ∙ append_assoc two.before (two.first ∷ (two.between ++ two.second ∷ two.behind)) (c ∷ rest_is.0)
                ∙ ap (λ (w : List ℕ). two.before ++ two.first ∷ w) (append_assoc two.between (two.second ∷ two.behind) (c ∷ rest_is.0));
            place_is = two.place_is;
            within = omega (arith, count, inside);
            first_passes = two.first_passes;
            between_goes_on = two.between_goes_on;
            second_passes = two.second_passes;
            further_goes_on = two.behind_goes_on;
            third_passes = passes;
          }

      found_index : (o : Option ℕ) → IfSome o (λ k. TwoAt so.done k) → IsPlaceToBegin Passes GoesOn text common (unwrap_or o index)
      found_index None h = so.is_index
      found_index (Some k) h = inr (now_three k h)

      pub search_passes : (found : ℕ) → found ≡ unwrap_or earlier index → SearchedSoFar found (read + 1) latest (Some read) next
      search_passes found found_is =
          record {
            done = more;
            rest = rest_is.0;
            text_is = more_is;
            spells = rest_is.2;
            count = more_count;
            latest_stands = record { before = so.done; first = c; behind = []; list_is = refl; place_is = so.count; first_passes = passes; behind_goes_on = tt };
            two_stand = if_some latest (OneAt so.done) (TwoAt more) now_two so.latest_stands;
            is_index = subst (λ (k : ℕ). IsPlaceToBegin Passes GoesOn text common k) (sym found_is) (found_index earlier so.two_stand);
          }
