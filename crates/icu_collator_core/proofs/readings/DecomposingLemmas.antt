-- A decomposed list that is being made, character by character.
use Rattle.std.proofs.Common.{◌≡◌, ℕ, ◌+◌, ◌<◌, true, ltb, ◌&&◌, List, [], ◌∷◌, ◌++◌, length, take, drop, flat_map, refl, sym, ap, subst, ◌∙◌, arith, append_assoc, append-nil, length-append, Option, Some, None}
use Rattle.std.proofs.lemmas.Bool.{and_from, and_parts, cond_both}
use Rattle.std.proofs.lemmas.List.{drop_all}
use Rattle.std.specs.List.{list_all}
use lib.Utf8.{scalar, scalars}
use Rattle.icu_normalizer_core.specs.Canonical.{Canonical, IsCanonical, decomposed, marks_in_order, put_in_order}
use Rattle.icu_normalizer_core.specs.Iter.{Spells}
use Rattle.icu_normalizer_core.specs.Marks.{is_mark}
use Rattle.icu_normalizer_core.proofs.decomposed_lists.FormingLemmas.{forming_canonical}
use Rattle.icu_normalizer_core.proofs.decomposed_lists.IterLemmas.{Spells-end, Spells-next}
use Rattle.icu_normalizer_core.proofs.decomposed_lists.RunLemmas.{marks_pushed, out_before_starter, out_mark, out_sorted, out_starter}
use Rattle.icu_collator_core.specs.Decomposing.{Appends, HasMarksFrom, ordered_with}
use Rattle.icu_collator_core.proofs.lookups.MatchLemmas.{scalars_front}
use Rattle.icu_collator_core.proofs.lookups.OpenTextLemmas.{scalars_behind}
use Rattle.icu_collator_core.proofs.lookups.PrefixLemmas.{scalars_join}

-- marks put in order are the same characters
put_scalars : (class : ℕ → ℕ) (c : ℕ) (ds : List ℕ) → scalar c ≡ true → scalars ds ≡ true → scalars (put_in_order class c ds) ≡ true
unfolding put_in_order
put_scalars class c [] e f = and_from (scalar c) true e refl
put_scalars class c (d ∷ ds) e f =
    let parts = and_parts (scalar d) (scalars ds) f in
    cond_both (ltb 0 (class d) && ltb (class d) (class c)) (d ∷ put_in_order class c ds) (c ∷ d ∷ ds) (λ l. scalars l ≡ true)
    (λ _. and_from (scalar d) (scalars (put_in_order class c ds)) parts.0 (put_scalars class c ds e parts.1))
    (λ _. and_from (scalar c) (scalars (d ∷ ds)) e f)

order_scalars : (class : ℕ → ℕ) (cs : List ℕ) → scalars cs ≡ true → scalars (marks_in_order class cs) ≡ true
unfolding marks_in_order
order_scalars class [] e = refl
order_scalars class (c ∷ cs) e =
    let parts = and_parts (scalar c) (scalars cs) e in put_scalars class c (marks_in_order class cs) parts.0 (order_scalars class cs parts.1)

pub scalars_more : (xs ys : List ℕ) (c : ℕ) → ys ≡ xs ++ c ∷ [] → scalar c ≡ true → scalars xs ≡ true → scalars ys ≡ true
scalars_more xs ys c e one ok = ap scalars e ∙ scalars_join xs (c ∷ []) ok (and_from (scalar c) true one refl)

module _ (class : ℕ → ℕ) where
  pub closed_scalars : (list closed : List ℕ) (ready : ℕ) → closed ≡ take ready list ++ marks_in_order class (drop ready list) → scalars list ≡ true → scalars closed ≡ true
  closed_scalars list closed ready e ok =
      ap scalars e
      ∙ scalars_join (take ready list) (marks_in_order class (drop ready list)) (scalars_front ready list ok) (order_scalars class (drop ready list) (scalars_behind ready list ok))

  pub none_appended : (list : List ℕ) (ready : ℕ) → HasMarksFrom class list ready → Appends class list ready [] list ready
  none_appended list ready h = record { at = λ rest. refl; marks_from = h; characters = λ ok. ok }

  -- what was appended, and then what was appended after it
  pub both_appended : (a : List ℕ) (i : ℕ) (xs b : List ℕ) (j : ℕ) (ys c : List ℕ) (k : ℕ) → Appends class a i xs b j → Appends class b j ys c k → Appends class a i (xs ++ ys) c k
  both_appended a i xs b j ys c k first second =
      record {
        at = λ rest. ap (ordered_with class a i) (append_assoc xs ys rest) ∙ first.at (ys ++ rest) ∙ second.at rest;
        marks_from = second.marks_from;
        characters = λ ok. second.characters (first.characters ok);
      }

  pub mark_appended : (list new : List ℕ) (ready c : ℕ) → HasMarksFrom class list ready → 0 < class c → new ≡ list ++ c ∷ [] → scalar c ≡ true
      → Appends class list ready (c ∷ []) new ready
  mark_appended list new ready c h mark e one =
      record {
        at = λ rest. out_mark class list 0 ready c rest h.within ∙ ap (λ l. ordered_with class l ready rest) (sym e);
        marks_from = record {
          within = omega (arith, h.within, ap (λ (l : List ℕ). length l) e, length-append list (c ∷ []));
          marks = marks_pushed class new list ready c true e h.within h.marks mark;
        };
        characters = scalars_more list new c e one;
      }

  pub starter_appended : (list closed new : List ℕ) (ready next c : ℕ) → HasMarksFrom class list ready → class c ≡ 0
      → closed ≡ take ready list ++ marks_in_order class (drop ready list) → new ≡ closed ++ c ∷ [] → next ≡ length new → scalar c ≡ true
      → Appends class list ready (c ∷ []) new next
  starter_appended list closed new ready next c h starter sorted e count one =
      let longer : length new ≡ length closed + 1 = ap (λ (l : List ℕ). length l) e ∙ length-append closed (c ∷ []) in
      record {
        at = λ rest.
            out_before_starter class list 0 ready c rest starter
            ∙ ap (λ l. l ++ c ∷ marks_in_order class rest) (sym (out_sorted class list closed 0 ready (length closed) (omega arith) h.within sorted (omega arith)))
            ∙ out_starter class closed 0 (length closed) next c rest (omega arith) (omega arith) (omega (arith, longer, count))
            ∙ ap (λ l. ordered_with class l next rest) (sym e);
        marks_from = record {
          within = omega (arith, count);
          marks = ap (list_all (is_mark class)) (drop_all next new (omega (arith, count)));
        };
        characters = λ ok. scalars_more closed new c e one (closed_scalars list closed ready sorted ok);
      }

-- a character below U+00A0 is a starter that stands for itself
pub low_itself : (canonical : Canonical) (c : ℕ) → IsCanonical canonical → c < 0xa0 → canonical.full c ≡ c ∷ []
low_itself canonical c ok low = (forming_canonical canonical ok).low c low

pub low_starter : (canonical : Canonical) (c : ℕ) → IsCanonical canonical → c < 0xa0 → canonical.class c ≡ 0
low_starter canonical c ok low = (forming_canonical canonical ok).starters c (omega (arith, low))

module _ {I : Type 0} (steps : I → Option ℕ → I → Type 0) (canonical : Canonical) where
  -- this was made of what an iterator gave, and the rest is left to it
  pub record IsMadeOf (first now : I) (list : List ℕ) (ready : ℕ) : Type 0 where
    pub left : (cs : List ℕ) → Spells steps first cs
        → (rest : List ℕ) × (decomposed canonical cs ≡ ordered_with canonical.class list ready (flat_map canonical.full rest)) × Spells steps now rest
    pub marks_from : HasMarksFrom canonical.class list ready
    pub characters : scalars list ≡ true

  pub nothing_made : (first now : I) (list : List ℕ) → now ≡ first → list ≡ [] → IsMadeOf first now list 0
  unfolding decomposed
  nothing_made first now list same e =
      record {
        left = λ cs spelled. (
          cs,
          ap (λ l. marks_in_order canonical.class (l ++ flat_map canonical.full cs)) (sym e),
          subst (λ (it : I). Spells steps it cs) (sym same) spelled,
        );
        marks_from = record { within = omega arith; marks = ap (list_all (is_mark canonical.class)) e };
        characters = ap scalars e;
      }

  pub more_made : (first now next : I) (list new : List ℕ) (was is c : ℕ) → IsMadeOf first now list was → steps now (Some c) next
      → Appends canonical.class list was (canonical.full c) new is → IsMadeOf first next new is
  more_made first now next list new was is c h step appended =
      record {
        left = λ cs spelled.
            let before = h.left cs spelled in
            let got = Spells-next steps now next c before.0 step before.2 in (
              got.0,
              before.1 ∙ ap (λ l. ordered_with canonical.class list was (flat_map canonical.full l)) got.1 ∙ appended.at (flat_map canonical.full got.0),
              got.2,
            );
        marks_from = appended.marks_from;
        characters = appended.characters h.characters;
      }

  pub all_made : (first now next : I) (list new : List ℕ) (ready : ℕ) → IsMadeOf first now list ready → steps now None next
      → new ≡ take ready list ++ marks_in_order canonical.class (drop ready list) → (cs : List ℕ) → Spells steps first cs → new ≡ decomposed canonical cs
  all_made first now next list new ready h step closed cs spelled =
      let before = h.left cs spelled in
      let none = Spells-end steps now next before.0 step before.2 in
      closed
      ∙ ap (λ l. take ready list ++ marks_in_order canonical.class l) (sym (append-nil (drop ready list)))
      ∙ sym (before.1 ∙ ap (λ l. ordered_with canonical.class list ready (flat_map canonical.full l)) none)
