use Rattle.std.proofs.Common.{◌≡◌, suc, ◌+◌, ◌<◌, ◌≤◌, Some, ◌∷◌, ◌++◌, [], ◌∙◌, ap, sym, subst, arith, refl, add-one, append-nil, drop, length}
use Rattle.std.specs.Option.{is_some}
use Rattle.std.proofs.lemmas.List.{drop_all, get_or_read}
use Rattle.icu_collator_core.specs.MarkRuns.{HasJoinedTo}
use Rattle.icu_collator_core.specs.ReadTexts.{IsAtText, if_recorded, suffix_units, word_by}
use Rattle.icu_collator_core.specs.ReadWords.{table_word}
use Rattle.icu_collator_core.specs.TableMeaning.{pools_of, recorded_by}
use Rattle.icu_collator_core.proofs.lookups.MarkRunLemmas.{class_joins, class_stays, length_characters, next, next_is, next_marks}
use Rattle.icu_collator_core.proofs.reading.mark_runs.MarkedText.join_class.Goals as goal

pub loop-i-init : goal.loop-i-init
loop-i-init c = record { same = refl; joined = λ canonical weights d between here behind whole said suffixed marks is h. h }

pub loop-i-preserved : goal.loop-i-preserved
loop-i-preserved c =
    let entry = table_word c.args.entry in
    let list = c.args.marks.now in
    let i = c.loop-i.i in
    let text = c.loop-i.self in
    let k = c.args.class in
    let word = c.in-Some.word in
    let cursor = c.join.new.cursor in
    let inside : i < length list = omega arith in
    let x = c.index-marks-i.result in
    let read = get_or_read list i x inside c.index-marks-i.is 0 in
    let above : text.highest < k = let same = c.loop-i.invariant.same in let first = c.requires.above in omega (arith, same, first) in
    record {
      same = c.loop-i.invariant.same;
      joined =
          λ canonical weights d between here behind whole said suffixed marks is h.
          let q = next canonical.class k i here list is inside x read in
          let mark = next_is canonical.class k i here list is inside x read in
          let at = subst (λ l. HasJoinedTo canonical weights entry d text between (l ++ behind) whole) q.1
          (c.loop-i.invariant.joined canonical weights d between here behind whole said suffixed marks is h) in
          subst (λ n. HasJoinedTo canonical weights entry d (record { cursor = cursor; word = Some word; highest = text.highest }) between (drop n here ++ behind) whole) (sym (add-one i))
          (class_joins canonical weights entry d k text between whole said above q.0 (drop (suc i) here) behind
          (next_marks canonical.class k i here list is inside x read marks) at cursor word suffixed
          (subst (λ m. IsAtText (suffix_units entry) (at.joined ++ m ∷ []) cursor) mark (c.in-Some.ensures.moved at.joined at.stands))
          (subst (λ m. Some word ≡ if_recorded (pools_of c.args.entry.source.now) (word_by (suffix_units entry) (at.joined ++ m ∷ []))) mark (c.in-Some.ensures.word at.joined at.stands))
          (ap (λ m. is_some (recorded_by entry d [] (at.joined ++ m ∷ []))) (sym mark) ∙ sym (c.in-Some.ensures.recorded d at.joined at.stands suffixed)));
    }

pub returns-in_default-clause-joined : goal.returns-in_default-clause-joined
returns-in_default-clause-joined c = λ canonical weights d between here behind whole said suffixed marks is h.
    let entry = table_word c.args.entry in
    let list = c.args.marks.now in
    let i = c.loop-i.i in
    let text = c.loop-i.self in
    let k = c.args.class in
    let cursor = c.join.new.cursor in
    let inside : i < length list = omega arith in
    let x = c.index-marks-i.result in
    let read = get_or_read list i x inside c.index-marks-i.is 0 in
    let above : text.highest < k = let same = c.loop-i.invariant.same in let first = c.requires.above in omega (arith, same, first) in
    let q = next canonical.class k i here list is inside x read in
    let mark = next_is canonical.class k i here list is inside x read in
    let at = subst (λ l. HasJoinedTo canonical weights entry d text between (l ++ behind) whole) q.1
    (c.loop-i.invariant.joined canonical weights d between here behind whole said suffixed marks is h) in
    subst (λ l. HasJoinedTo canonical weights entry d (record { cursor = cursor; word = text.word; highest = k }) (between ++ l) behind whole) (sym q.1)
    (class_stays canonical weights entry d k text between whole said above q.0 (drop (suc i) here) behind
    (next_marks canonical.class k i here list is inside x read marks) at cursor (c.in_default.ensures.kept at.joined at.stands)
    (ap (λ m. is_some (recorded_by entry d [] (at.joined ++ m ∷ []))) (sym mark) ∙ sym (c.in_default.ensures.recorded d at.joined at.stands suffixed)))

pub returns-clause-joined : goal.returns-clause-joined
returns-clause-joined c = λ canonical weights d between here behind whole said suffixed marks is h.
    let entry = table_word c.args.entry in
    let list = c.args.marks.now in
    let i = c.loop-i.i in
    let text = c.loop-i.self in
    let count = length list in
    let many : length here ≡ length list = sym (length_characters here) ∙ ap length is in
    let over : length here ≤ i = let end = c.loop-i-test.false in omega (arith, many, end) in
    let past : length here ≤ count = omega (arith, many) in
    subst (λ l. HasJoinedTo canonical weights entry d text (between ++ l) behind whole) (sym (drop_all count here past))
    (subst (λ l. HasJoinedTo canonical weights entry d text l behind whole) (sym (append-nil between))
    (subst (λ l. HasJoinedTo canonical weights entry d text between (l ++ behind) whole) (drop_all i here over)
    (c.loop-i.invariant.joined canonical weights d between here behind whole said suffixed marks is h)))
