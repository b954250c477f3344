use Rattle.std.proofs.Common.{◌≡◌, ℕ, zero, suc, ◌+◌, ◌<◌, ◌≤◌, Some, ◌∷◌, ◌++◌, [], ◌∙◌, ap, sym, subst, arith, refl, not, ltb}
use Rattle.std.specs.Prelude.{slice_index}
use Rattle.std.specs.Option.{is_some}
use Rattle.std.proofs.lemmas.Bool.{and_left, and_right, le-ltb, ne_eqb}
use Rattle.std.proofs.lemmas.List.{get_or_read}
use Rattle.icu_normalizer_core.specs.BorrowedMeaning.{borrowed_meaning}
use Rattle.icu_collator_core.specs.JoinedTexts.{HasReadMark}
use Rattle.icu_collator_core.specs.ReadTexts.{IsAtText, if_recorded, suffix_units, word_by}
use Rattle.icu_collator_core.specs.ReadWords.{table_word}
use Rattle.icu_collator_core.specs.TableMeaning.{pools_of, recorded_by}
use Rattle.icu_collator_core.proofs.lookups.OpenTextLemmas.{highest_first, highest_second, moved_joined, moved_stays}
use Rattle.icu_collator_core.proofs.lookups.ReadMarkLemmas.{joined_more, joined_stays}
use Rattle.icu_collator_core.proofs.reading.joining.OpenText.meets_mark.Goals as goal

positive : (n m : ℕ) → (n ≡ 0 → ⊥) → n ≡ m → 0 < m
positive zero m some e = absurd (some refl)
positive (suc n) m some e = omega (arith, e)

pub returns-then-class-self-clause-mark : goal.returns-then-class-self-clause-mark
returns-then-class-self-clause-mark c =
    let canonical = borrowed_meaning c.args.canonical in
    let entry = table_word c.args.entry in
    let list = c.args.list.now in
    let index = c.args.index in
    let text = c.args.self.now in
    let inside = c.requires.inside in
    let mark = slice_index list index in
    let here : c.index-list-index.result ≡ mark = get_or_read list index c.index-list-index.result inside c.index-list-index.is 0 in
    let class_is : c.class-class.result ≡ canonical.class mark = c.class-class.ensures ∙ ap canonical.class here in
    let some : 0 < canonical.class mark = positive c.class-class.result (canonical.class mark) c.if-class-eq0.false class_is in
    let is = ap not (ne_eqb (canonical.class mark) 0 (λ e. omega (arith, e, some))) in
    let below : canonical.class mark ≤ text.highest = let le = c.if-class-self.true in omega (arith, le, class_is) in
    record {
      moved = λ start old at. moved_stays canonical.class start old index list text at inside text.cursor text.word text.highest is (λ k. highest_first text.highest (canonical.class mark) k below);
      joined =
          λ weights d suffix start old said suffixed ok at h.
          joined_stays canonical weights entry d suffix start old index list text said ok at h inside some text.cursor text.highest h.stands
          (and_left (ltb text.highest (canonical.class mark)) (is_some (recorded_by entry d [] (h.joined ++ mark ∷ []))) (le-ltb text.highest (canonical.class mark) below));
    }

pub returns-in_default-clause-mark : goal.returns-in_default-clause-mark
returns-in_default-clause-mark c =
    let canonical = borrowed_meaning c.args.canonical in
    let entry = table_word c.args.entry in
    let list = c.args.list.now in
    let index = c.args.index in
    let text = c.args.self.now in
    let inside = c.requires.inside in
    let mark = slice_index list index in
    let here : c.index-list-index.result ≡ mark = get_or_read list index c.index-list-index.result inside c.index-list-index.is 0 in
    let class_is : c.class-class.result ≡ canonical.class mark = c.class-class.ensures ∙ ap canonical.class here in
    let some : 0 < canonical.class mark = positive c.class-class.result (canonical.class mark) c.if-class-eq0.false class_is in
    let is = ap not (ne_eqb (canonical.class mark) 0 (λ e. omega (arith, e, some))) in
    let above : text.highest < canonical.class mark = let lt = c.if-class-self.false in omega (arith, lt, class_is) in
    record {
      moved =
          λ start old at. moved_stays canonical.class start old index list text at inside c.join.new.cursor text.word c.class-class.result is
          (λ k. highest_second text.highest (canonical.class mark) k above ∙ ap (λ n. ltb n k) (sym class_is));
      joined =
          λ weights d suffix start old said suffixed ok at h.
          joined_stays canonical weights entry d suffix start old index list text said ok at h inside some c.join.new.cursor c.class-class.result
          (c.in_default.ensures.kept h.joined h.stands)
          (and_right (ltb text.highest (canonical.class mark)) (is_some (recorded_by entry d [] (h.joined ++ mark ∷ [])))
          (ap (λ m. is_some (recorded_by entry d [] (h.joined ++ m ∷ []))) (sym here) ∙ sym (c.in_default.ensures.recorded d h.joined h.stands suffixed)));
    }

pub returns-clause-mark : goal.returns-clause-mark
returns-clause-mark c =
    let canonical = borrowed_meaning c.args.canonical in
    let entry = table_word c.args.entry in
    let list = c.args.list.now in
    let index = c.args.index in
    let text = c.args.self.now in
    let inside = c.requires.inside in
    let word = c.in-Some.word in
    let mark = slice_index list index in
    let here : c.index-list-index.result ≡ mark = get_or_read list index c.index-list-index.result inside c.index-list-index.is 0 in
    let class_is : c.class-class.result ≡ canonical.class mark = c.class-class.ensures ∙ ap canonical.class here in
    let some : 0 < canonical.class mark = positive c.class-class.result (canonical.class mark) c.if-class-eq0.false class_is in
    let is = ap not (ne_eqb (canonical.class mark) 0 (λ e. omega (arith, e, some))) in
    let above : text.highest < canonical.class mark = let lt = c.if-class-self.false in omega (arith, lt, class_is) in
    subst (λ l. HasReadMark canonical entry index list text l (record { cursor = c.join.new.cursor; word = Some word; next = text.next + 1; highest = text.highest })) (sym c.bring_forward.ensures)
    (record {
      moved = λ start old at. moved_joined canonical.class start old index list text at inside c.join.new.cursor (Some word) is;
      joined =
          λ weights d suffix start old said suffixed ok at h.
          joined_more canonical weights entry d suffix start old index list text said ok at h inside some c.join.new.cursor word suffixed above
          (subst (λ m. IsAtText (suffix_units entry) (h.joined ++ m ∷ []) c.join.new.cursor) here (c.in-Some.ensures.moved h.joined h.stands))
          (subst (λ m. Some word ≡ if_recorded (pools_of c.args.entry.source.now) (word_by (suffix_units entry) (h.joined ++ m ∷ []))) here (c.in-Some.ensures.word h.joined h.stands))
          (ap (λ m. is_some (recorded_by entry d [] (h.joined ++ m ∷ []))) (sym here) ∙ sym (c.in-Some.ensures.recorded d h.joined h.stands suffixed));
    })
